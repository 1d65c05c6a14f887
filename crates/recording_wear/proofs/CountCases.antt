-- A recording's counts, way by way.
use mathlib.Core.Path.{◌≡◌, sym, ap, ◌∙◌}
use mathlib.Core.List.{List, [], ◌∷◌}
use Prim.Native.Nat.{ℕ}
use lib.Dec.{eqb}
use borrow.Author.Tests.{eq-eqb, ne_eqb}
use Rattle.common.proofs.Choice.{if_true, if_false}
use Rattle.recording_text.specs.declared.Judged.{Judged}
use Rattle.std.specs.Prelude.{Ok}
use Rattle.trace_wear.specs.Wears.{bad_as, worn_told}
use Rattle.recording_wear.specs.Recorded.{judged_blank, fault_in, fault_of, worn_by, worn_recorded, told_by, recorded_told}

module _ (text : List ℕ) (j : Judged) (n : ℕ) (e : j ≡ judged_blank text) (en : n ≡ fault_in j.lines j.bad j.checked.at) where
  pub counted : n ≡ 0 → (Ok j.checked.state.wear ≡ worn_recorded text) × (worn_told (Ok j.checked.state.wear) ≡ recorded_told text)
  unfolding worn_recorded recorded_told
  counted z =
      let t = eq-eqb (fault_of j) 0 (sym en ∙ z) in (
        sym (if_true (eqb (fault_of j) 0) (Ok j.checked.state.wear) (bad_as (fault_of j)) t) ∙ ap worn_by e,
        sym (if_true (eqb (fault_of j) 0) (0, j.checked.state.wear ∷ []) (fault_of j, []) t) ∙ ap told_by e,
      )

  pub faulted : (n ≡ 0 → ⊥) → (bad_as n ≡ worn_recorded text) × (worn_told (bad_as n) ≡ recorded_told text)
  unfolding worn_recorded recorded_told
  faulted z =
      let t = ne_eqb (fault_of j) 0 (λ q. z (en ∙ q)) in (
        ap bad_as en ∙ sym (if_false (eqb (fault_of j) 0) (Ok j.checked.state.wear) (bad_as (fault_of j)) t) ∙ ap worn_by e,
        ap (λ (m : ℕ). worn_told (bad_as m)) en ∙ sym (if_false (eqb (fault_of j) 0) (0, j.checked.state.wear ∷ []) (fault_of j, []) t) ∙ ap told_by e,
      )
