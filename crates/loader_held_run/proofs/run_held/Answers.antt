-- `loader_held_run::run_held` meets its contract, by the laws of lent bytes.
use mathlib.Core.Path.{◌≡◌, sym, ap, ◌∙◌}
use lib.ListN.{length}
use Rattle.loader_held_run.specs.HeldRuns.{held_run_number, ran_refused, HeldLeft}
use Rattle.loader_held_run.proofs.HeldJudging.{none_refuses, lists_inside, lists_few}
use Rattle.loader_held_run.proofs.HeldLending.{held_refused_lem, held_units_lem, ran_so, array_so, scratch_so, room_so}
use Rattle.loader_held_run.proofs.run_held.Goals as goal

pub drive_held-requires : goal.drive_held-requires
drive_held-requires c =
    let a = c.args in
    let n : held_run_number a.j (length a.array.now) (length a.wanted.now) (length a.scratch.now) a.addresses.now (length a.room.now) ≡ 0 = sym c.held_number-n.ensures ∙ c.if-n-eq0.true in
    let m = none_refuses a.j (length a.array.now) (length a.wanted.now) (length a.scratch.now) a.addresses.now (length a.room.now) n in
    (held_units_lem a.j a.array.now a.wanted.now a.scratch.now a.polls.now a.addresses.now a.room.now n, lists_inside a.j.device a.j.block a.addresses.now (length a.room.now) m.1, lists_few a.j.device a.j.block a.addresses.now (length a.room.now) m.1)

pub returns-then-n-eq0 : goal.returns-then-n-eq0
returns-then-n-eq0 c =
    let a = c.args in
    let m = c.drive_held in
    let z : held_run_number a.j (length a.array.now) (length a.wanted.now) (length a.scratch.now) a.addresses.now (length a.room.now) ≡ 0 = sym c.held_number-n.ensures ∙ c.if-n-eq0.true in record { result = ran_so a.j a.array.now a.wanted.now a.scratch.now a.polls.now a.addresses.now a.room.now z _ m.ensures.result; array_left = array_so a.j a.array.now a.wanted.now a.scratch.now a.polls.now a.addresses.now a.room.now z m.new.array m.auto.array (λ i. (c.slice_known-then-n-eq0-2-1.given i).fits) m.ensures.array_left; scratch_left = scratch_so a.j a.array.now a.wanted.now a.scratch.now a.polls.now a.addresses.now a.room.now z m.new.scratch m.auto.scratch (λ i. (c.slice_known-then-n-eq0-1.given i).fits) m.ensures.scratch_left; room_left = room_so a.j a.array.now a.wanted.now a.scratch.now a.polls.now a.addresses.now a.room.now z m.new.room (λ i. (c.slice_known-then-n-eq0-3-1.given i).fits) m.ensures.room_left m.ensures.room_spare }

pub returns : goal.returns
returns c =
    let a = c.args in
    let e : c.held_number-n.result ≡ held_run_number a.j (length a.array.now) (length a.wanted.now) (length a.scratch.now) a.addresses.now (length a.room.now) = c.held_number-n.ensures in
    let m = held_refused_lem a.j a.array.now a.wanted.now a.scratch.now a.polls.now a.addresses.now a.room.now (λ q. c.if-n-eq0.false (e ∙ q)) in record { result = c.refused.ensures ∙ (λ i. ran_refused (e i) a.j.state) ∙ sym (ap (λ (r : HeldLeft). r.ran) m); array_left = sym (ap (λ (r : HeldLeft). r.bytes) m); scratch_left = sym (ap (λ (r : HeldLeft). r.scratch) m); room_left = sym (ap (λ (r : HeldLeft). r.room) m) }
