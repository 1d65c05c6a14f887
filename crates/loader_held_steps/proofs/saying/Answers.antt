use mathlib.Core.Path.{◌≡◌, sym, ap, ◌∙◌}
use mathlib.Core.Bool.{true, false}
use mathlib.Core.List.{List}
use Prim.Native.Nat.{ℕ}
use Rattle.common.proofs.Choice.{if_true, if_false}
use Rattle.units.specs.Units.{units}
use Rattle.model_types.specs.declared.Cycle.{Cycle}
use Rattle.loader.specs.declared.StageIs.{StageIs}
use Rattle.loader.specs.declared.Loader.{Loader}
use Rattle.loader.specs.declared.Saying.TheVariants.{Out, Over}
use Rattle.loader.specs.Stages.{stage_is, is_ended, end_by}
use Rattle.loader_steps.specs.Front.{end_address}
use Rattle.loader_held.specs.declared.Hold.{Hold}
use Rattle.loader_held.specs.Holds.{held_cycle}
use Rattle.loader_held_steps.specs.HeldFront.{held_saying_in}
use Rattle.loader_held_steps.proofs.saying.Goals as goal

-- what is said at the end, and before it
module _ (l : Loader) (h : Hold) (w bs : List ℕ) (e : StageIs) (p : e ≡ stage_is l.stage) where
  abbrev cycle : Cycle
  cycle = held_cycle h.step l h w bs

  abbrev last : ℕ
  last = end_by l.stage

  over : (a : ℕ) → e.ended ≡ true → a ≡ end_address l e.end → Over e.end a ≡ held_saying_in l h w bs
  over a t q =
      let n : e.end ≡ last = ap (λ (x : StageIs). x.end) p in
      let m : a ≡ end_address l last = q ∙ ap (λ (k : ℕ). end_address l k) n in
      (λ i. Over (n i) (m i)) ∙ sym (if_true (is_ended l.stage) (Over last (end_address l last)) (Out cycle) (sym (ap (λ (x : StageIs). x.ended) p) ∙ t))

  out : (c : Cycle) → e.ended ≡ false → c ≡ cycle → Out c ≡ held_saying_in l h w bs
  out c t q =
      ap (λ (x : Cycle). Out x) q ∙ sym (if_false (is_ended l.stage) (Over last (end_address l last)) (Out cycle) (sym (ap (λ (x : StageIs). x.ended) p) ∙ t))

-- src/lib.rt:199:9
pub returns-then-ended : goal.returns-then-ended
returns-then-ended c =
    let a = c.args in
    over a.l a.h (units a.l.part.word a.wanted.now) a.addresses.now c.stage_is-e.result c.stage_is-e.ensures _ c.if-ended.true c.end_address.ensures

-- src/lib.rt:192:1
pub returns : goal.returns
returns c =
    let a = c.args in
    out a.l a.h (units a.l.part.word a.wanted.now) a.addresses.now c.stage_is-e.result c.stage_is-e.ensures _ c.if-ended.false c.held_out.ensures
