-- What a drop and an add leave, in the bytes that the code puts there: by the survey's answers of a proper store.
use mathlib.Core.Path.{◌≡◌, refl, sym, ◌∙◌, ap}
use mathlib.Core.List.{List, [], ◌∷◌, ◌++◌}
use mathlib.Core.Bool.{Bool, true, false, ◌||◌}
use Prim.Native.Nat.{ℕ, ◌+◌, ◌*◌, ◌-◌, ◌/◌, ◌≤◌, ◌<◌}
use native.Mathlib.Omega.{arith}
use lib.ListN.{length, get_or, take, replicate, length-append, length-replicate}
use lib.Dec.{eqb, ltb}
use borrow.Author.Tests.{ne_eqb}
use Rattle.std.specs.Prelude.{if◌then◌else◌}
use Rattle.common.proofs.Choice.{if_true, if_false}
use Rattle.common.specs.Lists.{overlaid}
use Rattle.file_codec.specs.File.{limit}
use Rattle.store_places.specs.Store.{Item, blank, dead, filed, junk, more_of, places_of, has_in, find_in, live_in, without, blank_run, fits_in, run_for, no_room, places_in, drop_of, add_of, Proper}
use Rattle.store_places.proofs.Places.{cut_length}
use Rattle.store_places.proofs.Items.{not_both}
use Rattle.store_places.proofs.Changes.{or_l, or_r, run_of, live_within}
use Rattle.store_places.proofs.Claims.{proper_read, add_items, live_less}
use Rattle.store_survey.specs.Survey.{reader_number, items_of, place_in, start_in, has_run}
use Rattle.store_survey.proofs.Reader.{file_reader}
use Rattle.store_find.proofs.Laying.{Somes, somes_rest, good_somes}
use Rattle.store_find.proofs.Finding.{found_none, found_ends}
use Rattle.store_contents.specs.Inner.{zeroed_from, live_bytes, behind_of}
use Rattle.store_contents.proofs.Bytewise.{drop_bytes, drop_nothing, run_here, add_bytes}
use Rattle.store_contents.proofs.Sliding.{slide_bytes}

-- no file under the letter: it begins at place 0
place_none : (ℓ p : ℕ) (is : List Item) → has_in ℓ is ≡ false → place_in ℓ p is ≡ 0
place_none ℓ p [] h = refl
place_none ℓ p (blank ∷ is) h = place_none ℓ (p + 1 + 0) is h
place_none ℓ p (dead q ∷ is) h = place_none ℓ (p + 1 + 0) is h
place_none ℓ p (filed m f ∷ is) h = if_false (eqb m ℓ) p (place_in ℓ (p + 1 + (length f - 1)) is) (or_l (eqb m ℓ) (has_in ℓ is) h) ∙ place_none ℓ (p + 1 + (length f - 1)) is (or_r (eqb m ℓ) (has_in ℓ is) h)
place_none ℓ p (junk q ∷ is) h = place_none ℓ (p + 1 + 0) is h

-- a run that is there ends within
start_within : (n p : ℕ) (is : List Item) → Somes is → fits_in n is ≡ true → start_in n p is + n ≤ p + length (places_of is)
start_within n p [] s h = absurd (not_both h refl)
start_within n p (i ∷ is) s h = go (blank_run n (i ∷ is)) refl (start_within n (p + 1 + more_of i) is (somes_rest i is s))
  where
    longer : (i : Item) → Somes (i ∷ is) → p + 1 + more_of i + length (places_of is) ≤ p + length (places_of (i ∷ is))
    longer blank s = omega arith
    longer (dead q) s = omega arith
    longer (filed m f) s = let k = s.0 in let e = length-append f (places_of is) in omega arith
    longer (junk q) s = omega arith

    go : (t : Bool) → blank_run n (i ∷ is) ≡ t → (fits_in n is ≡ true → start_in n (p + 1 + more_of i) is + n ≤ p + 1 + more_of i + length (places_of is))
        → start_in n p (i ∷ is) + n ≤ p + length (places_of (i ∷ is))
    go true q r =
        let e : start_in n p (i ∷ is) ≡ p = if_true (blank_run n (i ∷ is)) p (start_in n (p + 1 + more_of i) is) q in
        let z = (run_of n (i ∷ is) q).size in omega arith
    go false q r =
        let e : start_in n p (i ∷ is) ≡ start_in n (p + 1 + more_of i) is = if_false (blank_run n (i ∷ is)) p (start_in n (p + 1 + more_of i) is) q in
        let a = r (sym (ap (λ (x : Bool). x || fits_in n is) q) ∙ h) in
        let b = longer i s in omega arith

module _ (main : List ℕ) (N ℓ : ℕ) (P : Proper (reader_number limit) N main) where
  abbrev I : List Item
  I = items_of main

  -- a drop, whether or not there is a file under the letter
  pub drop_anyway : drop_of (reader_number limit) ℓ main ≡ zeroed_from (length (find_in ℓ (items_of main))) (512 * place_in ℓ 0 (items_of main)) main
  drop_anyway = go (has_in ℓ (items_of main)) refl
    where
      go : (t : Bool) → has_in ℓ (items_of main) ≡ t → drop_of (reader_number limit) ℓ main ≡ zeroed_from (length (find_in ℓ (items_of main))) (512 * place_in ℓ 0 (items_of main)) main
      go true q = drop_bytes (reader_number limit) (file_reader limit) N ℓ main P q
      go false q =
          drop_nothing (reader_number limit) (file_reader limit) N ℓ main P q
          ∙ ap (λ (k : ℕ). zeroed_from k (512 * place_in ℓ 0 (items_of main)) main) (sym (found_none ℓ (items_of main) q))

  pub drop_ends : 512 * place_in ℓ 0 (items_of main) + 512 * length (find_in ℓ (items_of main)) ≤ length main
  drop_ends = go (has_in ℓ (items_of main)) refl
    where
      go : (t : Bool) → has_in ℓ (items_of main) ≡ t → 512 * place_in ℓ 0 (items_of main) + 512 * length (find_in ℓ (items_of main)) ≤ length main
      go true q = found_ends (reader_number limit) (file_reader limit) N ℓ main P q
      go false q = let a = place_none ℓ 0 (items_of main) q in let b = found_none ℓ (items_of main) q in omega arith

  -- the live blocks: the replaced ones are among them, and they fit
  pub replaced_live : length (find_in ℓ (items_of main)) ≤ live_in (items_of main)
  replaced_live = let e = live_less (reader_number limit) (file_reader limit) N ℓ main P in omega arith

  pub live_fits : live_in (items_of main) ≤ N
  live_fits = let e = live_within (items_of main) in let s = (proper_read (reader_number limit) (file_reader limit) N main P).size in omega arith

  module _ (b : List ℕ) (z : reader_number limit ℓ b ≡ 0) where
    count : length b / 512 ≡ get_or b 2 0
    count = let c = (file_reader limit).counted ℓ b z in omega arith

    pub whole_file : length b ≡ 512 * (length b / 512)
    whole_file = let c = (file_reader limit).counted ℓ b z in omega arith

    some : 0 < length b / 512
    some = let d = (file_reader limit).some ℓ b z in let e = count in omega arith

    -- 43, by the survey's answers
    pub room_test : ltb N (live_in (items_of main) - length (find_in ℓ (items_of main)) + length b / 512) ≡ no_room N ℓ (places_in b) (items_of main)
    unfolding no_room
    room_test =
        let e = live_less (reader_number limit) (file_reader limit) N ℓ main P in
        let c = cut_length (length b / 512) b in
        ap (ltb N) (let q : live_in (items_of main) - length (find_in ℓ (items_of main)) + length b / 512 ≡ live_in (without ℓ (items_of main)) + length (places_in b) = omega arith in q)

    run_is : has_run (length b / 512) (items_of main) ≡ run_for ℓ (places_in b) (items_of main)
    run_is =
        let k = some in
        if_false (eqb (length b / 512) 0) false (fits_in (length b / 512) (items_of main)) (ne_eqb _ 0 (λ (q : length b / 512 ≡ 0). omega arith))
        ∙ ap (λ (n : ℕ). fits_in n (items_of main)) count
        ∙ sym (run_here (reader_number limit) (file_reader limit) N ℓ b main P z)

    -- laid into the run: where it begins, that it ends within, and what is left
    module _ (h : has_run (length b / 512) (items_of main) ≡ true) where
      start : ℕ
      start = if has_run (length b / 512) (items_of main) then start_in (length b / 512) 0 (items_of main) else 0

      start_is : (if has_run (length b / 512) (items_of main) then start_in (length b / 512) 0 (items_of main) else 0) ≡ start_in (length b / 512) 0 (items_of main)
      start_is = if_true (has_run (length b / 512) (items_of main)) (start_in (length b / 512) 0 (items_of main)) 0 h

      fits : fits_in (length b / 512) (items_of main) ≡ true
      fits =
          let k = some in
          sym (if_false (eqb (length b / 512) 0) false (fits_in (length b / 512) (items_of main)) (ne_eqb _ 0 (λ (q : length b / 512 ≡ 0). omega arith))) ∙ h

      pub lay_ends : 512 * (if has_run (length b / 512) (items_of main) then start_in (length b / 512) 0 (items_of main) else 0) + length b ≤ length main
      lay_ends =
          let r = proper_read (reader_number limit) (file_reader limit) N main P in
          let a = start_within (length b / 512) 0 (items_of main) (good_somes (reader_number limit) (file_reader limit) (items_of main) r.good) fits in
          let s = r.size in let l = P.size in let e = start_is in let w = whole_file in omega arith

      pub lay_bytes : overlaid (zeroed_from (length (find_in ℓ (items_of main))) (512 * place_in ℓ 0 (items_of main)) main) (512 * (if has_run (length b / 512) (items_of main) then start_in (length b / 512) 0 (items_of main) else 0)) b
          ≡ add_of (reader_number limit) ℓ b main
      lay_bytes =
          ap (λ (x : List ℕ). overlaid x (512 * (if has_run (length b / 512) (items_of main) then start_in (length b / 512) 0 (items_of main) else 0)) b) (sym drop_anyway)
          ∙ ap (λ (n : ℕ). overlaid (drop_of (reader_number limit) ℓ main) (512 * n) b) (start_is ∙ ap (λ (n : ℕ). start_in n 0 (items_of main)) count)
          ∙ sym (add_bytes (reader_number limit) (file_reader limit) N ℓ b main P z (sym run_is ∙ h))

    -- slid
    module _ (h : has_run (length b / 512) (items_of main) ≡ false) (room : no_room N ℓ (places_in b) (items_of main) ≡ false) where
      L : List ℕ
      L = live_bytes ℓ (items_of main)

      K : ℕ
      K = N - (live_in (without ℓ (items_of main)) + get_or b 2 0)

      slid : add_of (reader_number limit) ℓ b main ≡ live_bytes ℓ (items_of main) ++ (b ++ replicate (512 * (N - (live_in (without ℓ (items_of main)) + get_or b 2 0))) 255)
      slid = slide_bytes (reader_number limit) (file_reader limit) N ℓ b main P z (sym run_is ∙ h)

      sum : length (live_bytes ℓ (items_of main)) + (length b + 512 * (N - (live_in (without ℓ (items_of main)) + get_or b 2 0))) ≡ 512 * N
      sum =
          let R = replicate {A = ℕ} (512 * (N - (live_in (without ℓ (items_of main)) + get_or b 2 0))) 255 in
          let a : length (live_bytes ℓ (items_of main) ++ (b ++ R)) ≡ 512 * N = ap (λ (x : List ℕ). length x) (sym slid) ∙ (add_items (reader_number limit) (file_reader limit) N ℓ b main P z room).0 in
          let c : length (live_bytes ℓ (items_of main) ++ (b ++ R)) ≡ length (live_bytes ℓ (items_of main)) + length (b ++ R) = length-append (live_bytes ℓ (items_of main)) (b ++ R) in
          let d : length (b ++ R) ≡ length b + length R = length-append b R in
          let e : length R ≡ 512 * (N - (live_in (without ℓ (items_of main)) + get_or b 2 0)) = length-replicate {A = ℕ} (512 * (N - (live_in (without ℓ (items_of main)) + get_or b 2 0))) 255 in
          ap (λ (n : ℕ). length (live_bytes ℓ (items_of main)) + (length b + n)) (sym e) ∙ ap (λ (n : ℕ). length (live_bytes ℓ (items_of main)) + n) (sym d) ∙ sym c ∙ a

      pub slide_ends : length (live_bytes ℓ (items_of main)) + length b ≤ length main
      slide_ends = let a = sum in let l = P.size in omega arith

      pub slide_made : (memory : List ℕ) (at : ℕ) → length memory ≡ length main → at ≡ length (live_bytes ℓ (items_of main)) → take at memory ≡ live_bytes ℓ (items_of main)
          → behind_of memory at b ≡ add_of (reader_number limit) ℓ b main
      slide_made memory at l ea et =
          let a = sum in let p = P.size in
          let n : length memory - (at + length b) ≡ 512 * (N - (live_in (without ℓ (items_of main)) + get_or b 2 0)) =
          gap (length memory) at (length b) (length (live_bytes ℓ (items_of main))) (512 * (N - (live_in (without ℓ (items_of main)) + get_or b 2 0))) (512 * N) (l ∙ p) ea a in
          ap (λ (x : List ℕ). x ++ (b ++ replicate (length memory - (at + length b)) 255)) et
          ∙ ap (λ (k : ℕ). live_bytes ℓ (items_of main) ++ (b ++ replicate k 255)) n ∙ sym slid
        where
          gap : (m a b l k t : ℕ) → m ≡ t → a ≡ l → l + (b + k) ≡ t → m - (a + b) ≡ k
          gap m a b l k t x y w = omega arith
