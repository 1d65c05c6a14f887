-- `loader_held_quick::run_held_quick` meets its contract.
use mathlib.Core.Path.{◌≡◌, sym, ◌∙◌}
use lib.ListN.{length}
use Rattle.loader_held_run.specs.HeldRuns.{held_run_number, ran_refused}
use Rattle.loader_held_run.proofs.HeldLending.{held_refused_lem}
use Rattle.loader_held_quick.proofs.run_held_quick.Goals as goal

pub returns-then-n-ne0 : goal.returns-then-n-ne0
returns-then-n-ne0 c =
    let a = c.args in
    let e : c.held_number-n.result ≡ held_run_number a.j (length a.array.now) (length a.wanted.now) (length a.scratch.now) a.addresses.now (length a.room.now) = c.held_number-n.ensures in
    let m = held_refused_lem a.j a.array.now a.wanted.now a.scratch.now a.polls.now a.addresses.now a.room.now (λ q. c.if-n-ne0.true (e ∙ q)) in
    let ran = c.refused.ensures ∙ (λ i. ran_refused (e i) a.j.state) in
    (λ i. record { ran = ran i; bytes = a.array.now; scratch = a.scratch.now; room = a.room.now }) ∙ sym m

pub returns-in-Verify : goal.returns-in-Verify
returns-in-Verify c = let r = c.run_held.ensures in λ i. record { ran = r.result i; bytes = r.array_left i; scratch = r.scratch_left i; room = r.room_left i }
