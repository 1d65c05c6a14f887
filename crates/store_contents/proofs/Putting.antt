-- The ways out of putting a new file in, by what the survey answered.
use mathlib.Core.Path.{◌≡◌, sym, ◌∙◌, ap}
use mathlib.Core.List.{List}
use mathlib.Core.Bool.{true, false}
use Prim.Native.Nat.{ℕ, ◌+◌, ◌*◌, ◌/◌, ◌≤◌}
use native.Mathlib.Omega.{arith}
use lib.ListN.{length, take}
use Rattle.std.specs.Prelude.{if◌then◌else◌}
use Rattle.common.specs.Lists.{overlaid}
use Rattle.file_codec.specs.File.{limit}
use Rattle.store_places.specs.Store.{find_in, add_of, Proper}
use Rattle.store_survey.specs.Survey.{reader_number, items_of, place_in, start_in, has_run, survey_of}
use Rattle.store_survey.specs.declared.Survey.{Survey}
use Rattle.store_contents.specs.Contents.{add_in_number}
use Rattle.store_contents.specs.Inner.{zeroed_from, live_bytes, behind_of}
use Rattle.store_contents.proofs.Adding.{drop_ends, lay_ends, lay_bytes, slide_ends, slide_made}
use Rattle.store_contents.proofs.Numbers.{Let, add_let}

module _ (main f : List ℕ) (ℓ : ℕ) (s : Survey) (e : s ≡ survey_of ℓ (length f / 512) main) (memory : List ℕ) (z : add_in_number main f ℓ (length memory) ≡ 0) where
  granted : Let main f ℓ (length memory)
  granted = add_let main f ℓ (length memory) z

  place_is : s.place ≡ place_in ℓ 0 (items_of main)
  unfolding survey_of
  place_is = ap (λ (x : Survey). x.place) e

  blocks_is : s.blocks ≡ length (find_in ℓ (items_of main))
  unfolding survey_of
  blocks_is = ap (λ (x : Survey). x.blocks) e

  start_is : s.start ≡ (if has_run (length f / 512) (items_of main) then start_in (length f / 512) 0 (items_of main) else 0)
  unfolding survey_of
  start_is = ap (λ (x : Survey). x.start) e

  fits_is : s.fits ≡ has_run (length f / 512) (items_of main)
  unfolding survey_of
  fits_is = ap (λ (x : Survey). x.fits) e

  pub slide_lets : (Proper (reader_number limit) (length main / 512) main) × (length memory ≡ length main)
  slide_lets = (granted.store, granted.long)

  module _ (h : s.fits ≡ true) where
    run : has_run (length f / 512) (items_of main) ≡ true
    run = sym fits_is ∙ h

    pub lay_lets : (length memory ≡ length main) × (512 * s.place + 512 * s.blocks ≤ length main) × (512 * s.start + length f ≤ length main)
    lay_lets =
        let a = drop_ends main (length main / 512) ℓ granted.store in
        let b = lay_ends main (length main / 512) ℓ granted.store f granted.read run in
        let p = place_is in let k = blocks_is in let t = start_is in
        (granted.long, omega arith, omega arith)

    pub lay_made : overlaid (zeroed_from s.blocks (512 * s.place) main) (512 * s.start) f ≡ add_of (reader_number limit) ℓ f main
    lay_made =
        ap (λ (n : ℕ). overlaid (zeroed_from n (512 * s.place) main) (512 * s.start) f) blocks_is
        ∙ ap (λ (n : ℕ). overlaid (zeroed_from (length (find_in ℓ (items_of main))) (512 * n) main) (512 * s.start) f) place_is
        ∙ ap (λ (n : ℕ). overlaid (zeroed_from (length (find_in ℓ (items_of main))) (512 * place_in ℓ 0 (items_of main)) main) (512 * n) f) start_is
        ∙ lay_bytes main (length main / 512) ℓ granted.store f granted.read run

  module _ (h : s.fits ≡ false) (slid : List ℕ) (at : ℕ) (l : length slid ≡ length memory) (ea : at ≡ length (live_bytes ℓ (items_of main))) where
    pub slide_room : at + length f ≤ length slid
    slide_room =
        let a = slide_ends main (length main / 512) ℓ granted.store f granted.read (sym fits_is ∙ h) granted.room_there in
        let b = granted.long in omega arith

    pub slide_done : take at slid ≡ live_bytes ℓ (items_of main) → behind_of slid at f ≡ add_of (reader_number limit) ℓ f main
    slide_done et = slide_made main (length main / 512) ℓ granted.store f granted.read (sym fits_is ∙ h) granted.room_there slid at (l ∙ granted.long) ea et
