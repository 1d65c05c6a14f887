use mathlib.Core.Path.{◌≡◌, ap, subst, ◌∙◌}
use mathlib.Core.List.{List, []}
use Prim.Native.Nat.{ℕ}
use lib.ListN.{length}
use Rattle.device.specs.declared.Part.{Part}
use Rattle.units.specs.Units.{units, spare}
use Rattle.model_types.specs.declared.Cycle.{Cycle}
use Rattle.model_judge.specs.Judging.{judge_of}
use Rattle.model.specs.declared.Answer.{Answer}
use Rattle.model.specs.Arrays.{answer_of, array_after}
use Rattle.model.specs.Inner.{answer_judged, array_judged}
use Rattle.model.proofs.Passing.{judged_answer, judged_array}
use Rattle.loader_run.proofs.Lending.{none}
use Rattle.loader_held.specs.Holds.{held_cycle}
use Rattle.loader_held_run.specs.HeldTurns.{pair_by, scratch_held, room_by, held_answer, held_array}
use Rattle.loader_held_run.specs.HeldRuns.{held_conf}
use Rattle.loader_held_run.proofs.held_turn.Goals as goal

-- src/lib.rt:100:1
pub returns : goal.returns
unfolding held_answer held_array
returns c =
    let a = c.args in
    let l = a.h.loader in
    let h = a.h.hold in
    let s = a.h.state in
    let u : Part → List ℕ → List ℕ = λ part xs. units part.word xs in
    let w = u a.d.part a.wanted.now in
    let sc = u a.d.part a.scratch.now in
    let xs = u a.d.part a.array.now in
    let rm = u a.d.part a.room.now in
    let bs = a.addresses.now in
    let ps = a.polls.now in
    let p : l.part ≡ a.d.part = c.requires.0 in
    let z : judge_of a.d s (held_cycle h.step l h w bs) (length xs) 0 ≡ 0 = c.requires.1 in
    let k = c.held_out-c in
    let o : k.result ≡ held_cycle h.step l h w bs = k.ensures ∙ ap (λ (part : Part). held_cycle h.step l h (u part a.wanted.now) bs) p in
    let m = c.after_judging-a in
    let y = c.held_taken-p in
    let x : m.result ≡ answer_of a.d s (held_cycle h.step l h w bs) xs [] =
    m.ensures.result ∙ ap (λ (rs : List ℕ). answer_judged a.d s k.result xs rs) (none a.d.part.word) ∙ ap (λ (q : Cycle). answer_judged a.d s q xs []) o ∙ judged_answer a.d s (held_cycle h.step l h w bs) xs [] z in
    let P : y.result ≡ pair_by (answer_of a.d s (held_cycle h.step l h w bs) xs []).seen l h (length bs) w sc ps =
    y.ensures.result ∙ ap (λ (part : Part). pair_by m.result.seen l h (length bs) (u part a.wanted.now) (u part a.scratch.now) ps) p ∙ ap (λ (v : Answer). pair_by v.seen l h (length bs) w sc ps) x in
    let S : u a.d.part y.new.scratch ≡ scratch_held (answer_of a.d s (held_cycle h.step l h w bs) xs []).seen l h (length bs) w sc =
    subst (λ (part : Part). u part y.new.scratch ≡ scratch_held m.result.seen l h (length bs) (u part a.wanted.now) (u part a.scratch.now)) p y.ensures.scratch_left ∙ ap (λ (v : Answer). scratch_held v.seen l h (length bs) w sc) x in
    let R : u a.d.part y.new.room ≡ room_by (answer_of a.d s (held_cycle h.step l h w bs) xs []).seen l.part.word h rm =
    subst (λ (part : Part). u part y.new.room ≡ room_by m.result.seen l.part.word h (u part a.room.now)) p y.ensures.room_left ∙ ap (λ (v : Answer). room_by v.seen l.part.word h rm) x in
    let X : u a.d.part m.new.array ≡ array_after a.d s (held_cycle h.step l h w bs) xs [] =
    m.ensures.array_left ∙ ap (λ (rs : List ℕ). array_judged a.d s k.result xs rs) (none a.d.part.word) ∙ ap (λ (q : Cycle). array_judged a.d s q xs []) o ∙ judged_array a.d s (held_cycle h.step l h w bs) xs [] z in record { records = (λ i. held_conf (P i).loader (P i).hold (x i).state (X i) (S i) (R i) 1); room_spare = subst (λ (part : Part). spare part.word y.new.room ≡ spare part.word a.room.now) p y.ensures.room_spare }
