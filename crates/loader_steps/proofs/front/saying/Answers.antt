use Rattle.units.specs.Units.{units}
use mathlib.Core.Path.{◌≡◌, sym, ap, ◌∙◌}
use mathlib.Core.Bool.{true, false}
use mathlib.Core.List.{List}
use Prim.Native.Nat.{ℕ}
use Rattle.common.proofs.Choice.{if_true, if_false}
use Rattle.model_types.specs.declared.Cycle.{Cycle}
use Rattle.loader.specs.declared.Stage.{Stage}
use Rattle.loader.specs.declared.StageIs.{StageIs}
use Rattle.loader.specs.declared.Loader.{Loader}
use Rattle.loader.specs.declared.Saying.TheVariants.{Out, Over}
use Rattle.loader.specs.Stages.{stage_is, is_ended, end_by}
use Rattle.loader_steps.specs.Outs.{cycle_of}
use Rattle.loader_steps.specs.Front.{end_address, saying_in}
use Rattle.loader_steps.proofs.front.saying.Goals as goal

-- what is said at the end, and before it
module _ (stage : Stage) (l : Loader) (w : List ℕ) (e : StageIs) (p : e ≡ stage_is stage) where
  over : (a : ℕ) → e.ended ≡ true → a ≡ end_address l e.end → Over e.end a ≡ saying_in stage l w
  over a t q =
      let n : e.end ≡ end_by stage = ap (λ (x : StageIs). x.end) p in
      let m : a ≡ end_address l (end_by stage) = q ∙ ap (λ (k : ℕ). end_address l k) n in
      (λ i. Over (n i) (m i)) ∙ sym (if_true (is_ended stage) (Over (end_by stage) (end_address l (end_by stage))) (Out (cycle_of l w)) (sym (ap (λ (x : StageIs). x.ended) p) ∙ t))

  out : (c : Cycle) → e.ended ≡ false → c ≡ cycle_of l w → Out c ≡ saying_in stage l w
  out c t q =
      ap (λ (x : Cycle). Out x) q
      ∙ sym (if_false (is_ended stage) (Over (end_by stage) (end_address l (end_by stage))) (Out (cycle_of l w)) (sym (ap (λ (x : StageIs). x.ended) p) ∙ t))

pub returns-then-e : goal.returns-then-e
returns-then-e c =
    let a = c.args in
    over a.stage a.l (units a.l.part.word a.wanted.now) c.stage_is-e.result c.stage_is-e.ensures _ c.if-e.true c.end_address.ensures

pub returns : goal.returns
returns c =
    let a = c.args in
    out a.stage a.l (units a.l.part.word a.wanted.now) c.stage_is-e.result c.stage_is-e.ensures _ c.if-e.false c.out.ensures
