-- The ways out of a seek, by what the survey answered.
use mathlib.Core.Path.{◌≡◌, sym, ◌∙◌, ap}
use mathlib.Core.List.{List, [], ◌∷◌}
use mathlib.Core.Bool.{not}
use Prim.Native.Nat.{ℕ, ◌+◌, ◌*◌, ◌/◌, ◌%◌, ◌≤◌}
use native.Mathlib.Omega.{arith}
use lib.ListN.{length}
use lib.Dec.{eqb}
use Rattle.common.specs.Numbers.{row, given}
use Rattle.file_codec.specs.File.{limit}
use Rattle.store_places.specs.Store.{find_in}
use Rattle.store_survey.specs.Survey.{reader_number, items_of, place_in, survey_of}
use Rattle.store_survey.specs.declared.Survey.{Survey}
use Rattle.store_survey.proofs.Reader.{file_reader}
use Rattle.store_find.specs.Finds.{stands_number, stands_of}
use Rattle.store_find.specs.declared.Stands.{Stands}
use Rattle.store_find.proofs.Finding.{found_ends}
use Rattle.store_find.proofs.Standing.{by_survey, there, stands_there, stands_not}

module _ (main : List ℕ) (ℓ : ℕ) (s : Survey) (e : s ≡ survey_of ℓ 0 main) (n : ℕ)
    (en : n ≡ given (row 44 (not (eqb (length main % 512) 0)) ∷ row 44 (not s.good) ∷ row 42 (eqb s.blocks 0) ∷ [])) where
  number_by : n ≡ stands_number main ℓ
  number_by = en ∙ ap (λ (x : Survey). given (row 44 (not (eqb (length main % 512) 0)) ∷ row 44 (not x.good) ∷ row 42 (eqb x.blocks 0) ∷ [])) e ∙ by_survey main ℓ 0

  pub out_refused : (n ≡ 0 → ⊥) → record { number = n; from = 0; size = 0 } ≡ stands_of main ℓ
  out_refused z = sym (stands_not main ℓ n number_by z)

  place_is : s.place ≡ place_in ℓ 0 (items_of main)
  unfolding survey_of
  place_is = ap (λ (x : Survey). x.place) e

  blocks_is : s.blocks ≡ length (find_in ℓ (items_of main))
  unfolding survey_of
  blocks_is = ap (λ (x : Survey). x.blocks) e

  module _ (z : n ≡ 0) where
    pub out_ends : 512 * s.place + 512 * s.blocks ≤ length main
    out_ends =
        let t = there main ℓ (sym number_by ∙ z) in
        let h = found_ends (reader_number limit) (file_reader limit) (length main / 512) ℓ main t.store t.has in
        let a = place_is in let b = blocks_is in omega arith

    pub out_there : record { number = 0; from = 512 * s.place; size = 512 * s.blocks } ≡ stands_of main ℓ
    out_there =
        let make : ℕ → ℕ → Stands = λ p k. record { number = 0; from = 512 * p; size = 512 * k } in
        ap (λ (p : ℕ). make p s.blocks) place_is ∙ ap (make (place_in ℓ 0 (items_of main))) blocks_is ∙ sym (stands_there main ℓ (sym number_by ∙ z))
