use mathlib.Core.Path.{◌≡◌, ap, subst, ◌∙◌}
use mathlib.Core.List.{List, []}
use Prim.Native.Nat.{ℕ}
use Rattle.device.specs.declared.Part.{Part}
use Rattle.units.specs.Units.{units}
use Rattle.loader_run.proofs.Lending.{none}
use Rattle.model_types.specs.declared.Cycle.{Cycle}
use Rattle.loader_steps.specs.Addresses.{first_address}
use Rattle.loader_steps.specs.Inner.{here_of}
use Rattle.loader_steps.specs.Outs.{cycle_at_stage, cycle_of}
use Rattle.model.specs.declared.Answer.{Answer}
use lib.ListN.{length}
use Rattle.model_judge.specs.Judging.{judge_of}
use Rattle.model.specs.Arrays.{answer_of}
use Rattle.model.specs.Inner.{answer_judged, array_judged}
use Rattle.model.proofs.Passing.{judged_answer, judged_array}
use Rattle.loader_run.specs.Turns.{loader_by, scratch_by, answer_to, array_to}
use Rattle.loader_run.proofs.turn.Goals as goal

pub here-requires : goal.here-requires
here-requires c = c.requires.1

pub returns : goal.returns
unfolding answer_to array_to
returns c =
    let a = c.args in
    let l = a.h.loader in
    let s = a.h.state in
    let u : Part → List ℕ → List ℕ = λ part xs. units part.word xs in
    let w = u a.d.part a.wanted.now in
    let sc = u a.d.part a.scratch.now in
    let xs = u a.d.part a.array.now in
    let p : l.part ≡ a.d.part = c.requires.0 in
    let f : a.start ≡ first_address l = c.requires.1 in
    let z : judge_of a.d s (cycle_of l w) (length xs) 0 ≡ 0 = c.requires.2 in
    let q : c.here.result ≡ here_of l = c.here.ensures in
    let o : c.cycle_in-c.result ≡ cycle_of l w = c.cycle_in-c.ensures ∙ (λ i. cycle_at_stage l.stage (f i) (q i) l (u (p i) a.wanted.now)) in
    let m = c.after_judging-a in
    let y = c.taken in
    let x : m.result ≡ answer_of a.d s (cycle_of l w) xs [] =
    m.ensures.result ∙ ap (λ (rs : List ℕ). answer_judged a.d s c.cycle_in-c.result xs rs) (none a.d.part.word) ∙ ap (λ (k : Cycle). answer_judged a.d s k xs []) o ∙ judged_answer a.d s (cycle_of l w) xs [] z in record { loader = y.ensures.result ∙ ap (λ (part : Part). loader_by m.result.seen l (u part a.wanted.now) (u part a.scratch.now)) p ∙ ap (λ (v : Answer). loader_by v.seen l w sc) x; state = ap (λ (v : Answer). v.state) x; scratch_left = subst (λ (part : Part). u part y.new.scratch ≡ scratch_by m.result.seen l (u part a.wanted.now) (u part a.scratch.now)) p y.ensures.scratch_left ∙ ap (λ (v : Answer). scratch_by v.seen l w sc) x; array_left = m.ensures.array_left ∙ ap (λ (rs : List ℕ). array_judged a.d s c.cycle_in-c.result xs rs) (none a.d.part.word) ∙ ap (λ (k : Cycle). array_judged a.d s k xs []) o ∙ judged_array a.d s (cycle_of l w) xs [] z }
