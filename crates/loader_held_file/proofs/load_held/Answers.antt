use mathlib.Core.Path.{sym, ap, ◌∙◌}
use Rattle.loader_held_run.specs.HeldRuns.{HeldLeft}
use Rattle.loader_held_file.proofs.HeldFileLeaving.{short_file, told_made, told_refused}
use Rattle.loader_held_file.proofs.load_held.Goals as goal

pub fill_file-requires : goal.fill_file-requires
fill_file-requires c =
    let a = c.args in
    short_file a.j a.array.now a.wanted.now a.scratch.now a.file.now a.asked a.polls.now a.addresses.now a.room.now (sym c.held_load_number-n.ensures ∙ c.if-n-eq0.true)

pub returns-then-n-eq0 : goal.returns-then-n-eq0
returns-then-n-eq0 c =
    let a = c.args in
    let r = c.run_held_quick.ensures in
    let both = told_made a.j a.array.now a.wanted.now a.scratch.now a.file.now a.asked a.polls.now a.addresses.now a.room.now (sym c.held_load_number-n.ensures ∙ c.if-n-eq0.true) _ c.fill_file.ensures _ _ _ _ (ap (λ (x : HeldLeft). x.ran) r) (ap (λ (x : HeldLeft). x.bytes) r) (ap (λ (x : HeldLeft). x.scratch) r) (ap (λ (x : HeldLeft). x.room) r) in record { result = both.0; array_left = both.1.0; wanted_left = both.1.1.0; scratch_left = both.1.1.1.0; room_left = both.1.1.1.1 }

pub returns : goal.returns
returns c =
    let a = c.args in
    let s = c.held_load_number-n in
    let t = told_refused a.j a.array.now a.wanted.now a.scratch.now a.file.now a.asked a.polls.now a.addresses.now a.room.now s.result s.ensures c.if-n-eq0.false in
    record { result = c.refused.ensures ∙ t.0; array_left = t.1.0; wanted_left = t.1.1.0; scratch_left = t.1.1.1.0; room_left = t.1.1.1.1 }
