-- A cycle to which refusals 1 to 6 do not apply is answered by `after_judging`.
use mathlib.Core.Path.{◌≡◌, refl, sym, ap, ◌∙◌}
use mathlib.Core.Bool.{Bool, true, ◌&&◌}
use mathlib.Core.List.{List}
use Prim.Native.Nat.{ℕ}
use lib.ListN.{length}
use lib.Dec.{eqb, ltb, leb}
use borrow.Author.Tests.{lt-ltb, ltb-true, le-leb, leb-true, eq-eqb, eqb-true}
use Rattle.common.proofs.Choice.{if_true, and_left, and_right}
use Rattle.device.specs.declared.Part.{Part}
use Rattle.device.specs.declared.Device.{Device}
use Rattle.device.specs.Parts.{size_of, length_of}
use Rattle.model_types.specs.declared.Effect.{Effect}
use Rattle.model_types.specs.declared.Effect.TheVariants.{Nothing, Program, Erase, CutProgram, CutErase}
use Rattle.model_types.specs.declared.State.{State}
use Rattle.model_types.specs.declared.Cycle.{Cycle}
use Rattle.model_types.specs.declared.Decision.{Decision}
use Rattle.model_judge.specs.Judging.{judge_of}
use Rattle.model_rules.specs.Cycles.{decide_of}
use Rattle.model_rules.specs.Inner.{decide_judged}
use Rattle.model_rules.proofs.Passing.{passes}
use Rattle.model.specs.Arrays.{seen_of, answer_of, array_after}
use Rattle.model.specs.Inner.{finds_in, done_of, answer_judged, array_judged, Within}
use Rattle.model.proofs.Reach.{within}

-- the test of an effect's bytes says what it should
pub found : (e : Effect) (part : Part) (n r : ℕ) → finds_in e part n r ≡ true → Within e part n r
found Nothing part n r h = refl
found (Program at b) part n r h = ltb-true at n h
found (Erase k) part n r h = eqb-true n (size_of part) h
found (CutProgram at b) part n r h = (ltb-true at n (and_left (ltb at n) (ltb 0 r) h), ltb-true 0 r (and_right (ltb at n) (ltb 0 r) h))
found (CutErase k) part n r h = (
  eqb-true n (size_of part) (and_left (eqb n (size_of part)) (leb (length_of part k) r) h),
  leb-true (length_of part k) r (and_right (eqb n (size_of part)) (leb (length_of part k) r) h),
)

both : {x y : Bool} → x ≡ true → y ≡ true → (x && y) ≡ true
both p q = rw (p, q) refl

pub finds : (e : Effect) (part : Part) (n r : ℕ) → Within e part n r → finds_in e part n r ≡ true
finds Nothing part n r h = refl
finds (Program at b) part n r h = lt-ltb at n h
finds (Erase k) part n r h = eq-eqb n (size_of part) h
finds (CutProgram at b) part n r h = both (lt-ltb at n h.0) (lt-ltb 0 r h.1)
finds (CutErase k) part n r h = both (eq-eqb n (size_of part) h.0) (le-leb (length_of part k) r h.1)

module _ (d : Device) (s : State) (c : Cycle) (xs rs : List ℕ) (z : judge_of d s c (length xs) (length rs) ≡ 0) where
  same : decide_of d s c (length xs) (length rs) ≡ decide_judged d s c
  same = passes d s c (length xs) (length rs) z

  pub judged_array : array_judged d s c xs rs ≡ array_after d s c xs rs
  unfolding array_judged array_after
  judged_array =
      sym (ap (λ (x : Decision). done_of x.effect d.part rs xs) same)
      ∙ if_true (finds_in (decide_of d s c (length xs) (length rs)).effect d.part (length xs) (length rs)) _ _
      (finds (decide_of d s c (length xs) (length rs)).effect d.part (length xs) (length rs) (within d s c (length xs) (length rs)))

  pub judged_answer : answer_judged d s c xs rs ≡ answer_of d s c xs rs
  unfolding answer_judged answer_of
  judged_answer = λ i. record { seen = seen_of (sym same i).reply (judged_array i); state = (sym same i).state }
