-- The spot that the code tells of some bytes is that of the item there; the items one by one; the end of the walk.
use mathlib.Core.Path.{◌≡◌, refl, sym, ◌∙◌, ap, subst}
use mathlib.Core.List.{List, [], ◌∷◌, ◌++◌}
use mathlib.Core.Bool.{Bool, true, false, ◌&&◌, ◌||◌}
use Prim.Native.Nat.{ℕ, zero, suc, ◌+◌, ◌*◌, ◌-◌, ◌/◌, ◌≤◌, ◌<◌}
use native.Mathlib.Omega.{arith}
use lib.ListN.{length, get_or, take, drop, length-drop}
use lib.Seq.{get_or-take, drop-drop, drop-cons, take_all, take-add, drop-nil, length-take-le}
use lib.Dec.{eqb, ltb}
use borrow.Author.Tests.{eqb-true, eq-eqb, ne_eqb, ltb-true, ltb-false}
use Rattle.std.specs.Prelude.{if◌then◌else◌}
use Rattle.common.proofs.Choice.{if_true, if_false}
use Rattle.file_check.specs.Check.{all_are, is_blank}
use Rattle.file_block.specs.Block.{is_letter, within, letters}
use Rattle.file_codec.specs.File.{limit}
use Rattle.store_places.specs.Store.{cut, join, is_dead, Item, blank, dead, filed, junk, item_at, more_of, items_from, proper_in, find_in, live_in, places_in, items_in, is_proper}
use Rattle.store_places.proofs.Places.{cut_length}
use Rattle.store_places.proofs.Items.{not_both, filed_some}
use Rattle.store_survey.specs.Survey.{reader_number, spot_by, spot_first, spot_in, place_in, start_in, has_run, survey_of}
use Rattle.store_survey.specs.Inner.{sound_of, spot_of, more_by}
use Rattle.store_survey.specs.declared.Spot.{Spot}
use Rattle.store_survey.specs.declared.Spot.TheVariants.{Blank, Dead, File, Junk}
use Rattle.store_survey.specs.declared.Survey.{Survey}
use Rattle.store_survey.proofs.Reader.{file_reader, letter_of}
use Rattle.store_survey.proofs.Walking.{Lettered, proper_none, fits_is, start_is}
use Rattle.store_survey.proofs.Rounds.{Walked}

-- ---- cutting
take_cut : (n k : ℕ) (b : List ℕ) → n ≤ k → take n (cut k b) ≡ cut n b
take_cut zero k b h = refl
take_cut (suc n) zero b h = absurd (omega arith)
take_cut (suc n) (suc k) b h = ap (λ (x : List (List ℕ)). take 512 b ∷ x) (take_cut n k (drop 512 b) (omega arith))

join_some : (n : ℕ) (b : List ℕ) → join (cut n b) ≡ take (512 * n) b
join_some zero b = refl
join_some (suc n) b =
    ap (λ (x : List ℕ). take 512 b ++ x) (join_some n (drop 512 b)) ∙ sym (take-add 512 (512 * n) b) ∙ ap (λ (k : ℕ). take k b) (let z : 512 + 512 * n ≡ 512 * suc n = omega arith in z)

drop_cut : (p k : ℕ) (b : List ℕ) → drop p (cut (p + k) b) ≡ cut k (drop (512 * p) b)
drop_cut zero k b = ap (λ (j : ℕ). cut j b) (let z : 0 + k ≡ k = omega arith in z)
drop_cut (suc p) k b =
    ap (λ (j : ℕ). drop (suc p) (cut j b)) (let z : suc p + k ≡ suc (p + k) = omega arith in z)
    ∙ drop_cut p k (drop 512 b)
    ∙ ap (cut k) (drop-drop (512 * p) 512 b ∙ ap (λ (j : ℕ). drop j b) (let z : 512 + 512 * p ≡ 512 * suc p = omega arith in z))

-- ---- the spot of the item at a place
by_tests : (a b c : Bool) (P : List ℕ) (x : ℕ) (F : List (List ℕ))
    → spot_by (if a then dead P else if b then blank else if c then filed x F else junk P) ≡ (if a then Dead else if b then Blank else if c then File x (length F) else Junk)
by_tests true b c P x F = refl
by_tests false true c P x F = refl
by_tests false false true P x F = refl
by_tests false false false P x F = refl

-- 512 bytes are blank where each is FFH
blank_512 : (b : List ℕ) → 512 ≤ length b → is_blank (take 512 b) ≡ all_are 255 (take 512 b)
unfolding is_blank
blank_512 b h = if_true (eqb (length (take 512 b)) 512) (all_are 255 (take 512 b)) false (eq-eqb (length (take 512 b)) 512 (length-take-le 512 b h))

spot_item : (k : ℕ) (b : List ℕ) → length b / 512 ≡ suc k → spot_by (item_at (reader_number limit) (take 512 b) (cut k (drop 512 b))) ≡ spot_of b
unfolding item_at spot_of sound_of is_dead
spot_item k b l =
    by_tests (eqb (get_or B 0 0) 0) (is_blank B) (eqb (reader_number limit (get_or B 0 0) (join (take (get_or B 2 0) (cut (suc k) b)))) 0) B (get_or B 0 0) (take (get_or B 2 0) (cut (suc k) b))
    ∙ ap (λ (t : Bool). G (get_or B 0 0) (get_or B 2 0) t) (blank_512 b (omega arith))
    ∙ ap (λ (x : ℕ). G x (get_or B 2 0) (all_are 255 B)) (get_or-take 512 b 0 0 (omega arith))
    ∙ ap (λ (n : ℕ). G (get_or b 0 0) n (all_are 255 B)) (get_or-take 512 b 2 0 (omega arith))
    ∙ ap (λ (y : Spot). if eqb (get_or b 0 0) 0 then Dead else if all_are 255 B then Blank else y) (go (ltb (length b) (512 * get_or b 2 0)) refl)
  where
    B : List ℕ
    B = take 512 b

    G : ℕ → ℕ → Bool → Spot
    G x n t = if eqb x 0 then Dead else if t then Blank else if eqb (reader_number limit x (join (take n (cut (suc k) b)))) 0 then File x (length (take n (cut (suc k) b))) else Junk

    H : List (List ℕ) → Spot
    H F = if eqb (reader_number limit (get_or b 0 0) (join F)) 0 then File (get_or b 0 0) (length F) else Junk

    go : (t : Bool) → ltb (length b) (512 * get_or b 2 0) ≡ t
        → (if eqb (reader_number limit (get_or b 0 0) (join (take (get_or b 2 0) (cut (suc k) b)))) 0 then File (get_or b 0 0) (length (take (get_or b 2 0) (cut (suc k) b))) else Junk)
        ≡ (if ltb (length b) (512 * get_or b 2 0) then Junk else if eqb (reader_number limit (get_or b 0 0) (take (512 * get_or b 2 0) b)) 0 then File (get_or b 0 0) (get_or b 2 0) else Junk)
    go true q =
        let h : length b < 512 * get_or b 2 0 = ltb-true _ _ q in
        let c : length (cut (suc k) b) ≡ suc k = cut_length (suc k) b in
        let t : take (get_or b 2 0) (cut (suc k) b) ≡ cut (suc k) b = take_all (get_or b 2 0) (cut (suc k) b) (omega arith) in
        let T = take (512 * suc k) b in
        let j : join (cut (suc k) b) ≡ T = join_some (suc k) b in
        let u : length T ≡ 512 * suc k = length-take-le (512 * suc k) b (omega arith) in
        let v : get_or T 2 0 ≡ get_or b 2 0 = get_or-take (512 * suc k) b 2 0 (omega arith) in
        let f : eqb (reader_number limit (get_or b 0 0) (join (take (get_or b 2 0) (cut (suc k) b)))) 0 ≡ false =
        ap (λ (x : List ℕ). eqb (reader_number limit (get_or b 0 0) x) 0) (ap join t ∙ j)
        ∙ ne_eqb (reader_number limit (get_or b 0 0) T) 0 (λ (z : reader_number limit (get_or b 0 0) T ≡ 0). (let e = (file_reader limit).counted (get_or b 0 0) T z in omega arith)) in
        if_false (eqb (reader_number limit (get_or b 0 0) (join (take (get_or b 2 0) (cut (suc k) b)))) 0) _ Junk f ∙ sym (if_true (ltb (length b) (512 * get_or b 2 0)) Junk _ q)
    go false q =
        let h : 512 * get_or b 2 0 ≤ length b = ltb-false _ _ q in
        let t : take (get_or b 2 0) (cut (suc k) b) ≡ cut (get_or b 2 0) b = take_cut (get_or b 2 0) (suc k) b (omega arith) in
        ap H t
        ∙ ap (λ (x : List ℕ). if eqb (reader_number limit (get_or b 0 0) x) 0 then File (get_or b 0 0) (length (cut (get_or b 2 0) b)) else Junk) (join_some (get_or b 2 0) b)
        ∙ ap (λ (n : ℕ). if eqb (reader_number limit (get_or b 0 0) (take (512 * get_or b 2 0) b)) 0 then File (get_or b 0 0) n else Junk) (cut_length (get_or b 2 0) b)
        ∙ sym (if_false (ltb (length b) (512 * get_or b 2 0)) Junk _ q)

-- the bytes from a place on, as the code hands them over
pub spot_here : (main : List ℕ) (p : ℕ) → p < length main / 512 → spot_of (take (length main - 512 * p) (drop (512 * p) main)) ≡ spot_in main p
unfolding spot_in
spot_here main p h =
    let b = drop (512 * p) main in
    let k = length main / 512 - p - 1 in
    let d : length b ≡ length main - 512 * p = length-drop (512 * p) main in
    let t : take (length main - 512 * p) b ≡ b = take_all (length main - 512 * p) b (omega arith) in
    let n : length main / 512 ≡ p + suc k = omega arith in
    let c : drop p (places_in main) ≡ cut (suc k) b = ap (λ (j : ℕ). drop p (cut j main)) n ∙ drop_cut p (suc k) main in
    ap spot_of t ∙ sym (spot_item k b (omega arith)) ∙ ap spot_first (sym c)

past_all : (p : ℕ) (s : List (List ℕ)) → length s ≤ p → drop p s ≡ []
past_all p [] h = drop-nil p
past_all zero (x ∷ s) h = absurd (omega arith)
past_all (suc p) (x ∷ s) h = past_all p s (omega arith)

-- past the last place
pub spot_past : (main : List ℕ) (p : ℕ) → length main / 512 ≤ p → spot_in main p ≡ Junk
unfolding spot_in
spot_past main p h = let c = cut_length (length main / 512) main in ap spot_first (past_all p (places_in main) (omega arith))

-- ---- the items that are left at place p
abbrev pub left_at : List ℕ → ℕ → List Item
left_at main p = items_from (reader_number limit) 0 (drop p (places_in main))

skip_drop : (m : ℕ) (s : List (List ℕ)) → items_from (reader_number limit) m s ≡ items_from (reader_number limit) 0 (drop m s)
skip_drop zero [] = refl
skip_drop zero (p ∷ s) = refl
skip_drop (suc m) [] = refl
skip_drop (suc m) (p ∷ s) = skip_drop m s

more_spot : (i : Item) → more_of i ≡ more_by (spot_by i)
more_spot blank = refl
more_spot (dead p) = refl
more_spot (filed m f) = refl
more_spot (junk p) = refl

pub left_next : (main : List ℕ) (p : ℕ) → p < length main / 512 → (i : Item) × (left_at main p ≡ i ∷ left_at main (p + 1 + more_by (spot_by i))) × (spot_by i ≡ spot_in main p)
unfolding spot_in
left_next main p h =
    let L = places_in main in
    let c : length L ≡ length main / 512 = cut_length (length main / 512) main in
    let q = get_or L p [] in
    let S = drop (p + 1) L in
    let d : drop p L ≡ q ∷ S = drop-cons L p [] (omega arith) ∙ ap (λ (j : ℕ). q ∷ drop j L) (let z : suc p ≡ p + 1 = omega arith in z) in
    let i = item_at (reader_number limit) q S in
    let r : drop (more_of i) S ≡ drop (p + 1 + more_by (spot_by i)) L = drop-drop (more_of i) (p + 1) L ∙ ap (λ (j : ℕ). drop (p + 1 + j) L) (more_spot i) in (
      i,
      ap (items_from (reader_number limit) 0) d ∙ ap (λ (x : List Item). i ∷ x) (skip_drop (more_of i) S ∙ ap (items_from (reader_number limit) 0) r),
      sym (ap spot_first d),
    )

-- ---- letters are bytes, and a file has a block
small : (x : ℕ) (ys : List ℕ) → ((k : ℕ) → get_or ys k 0 < 256) → within x ys ≡ true → x < 256
small x [] b h = absurd (not_both h refl)
small x (y ∷ ys) b h = go (eqb x y) refl (small x ys (λ (k : ℕ). b (suc k)))
  where
    go : (t : Bool) → eqb x y ≡ t → (within x ys ≡ true → x < 256) → x < 256
    go true q r = let e = eqb-true x y q in let c : y < 256 = b 0 in omega arith
    go false q r = r (sym (if_false (eqb x y) true (within x ys) q) ∙ h)

letters_small : (k : ℕ) → get_or letters k 0 < 256
letters_small zero = omega arith
letters_small (suc zero) = omega arith
letters_small (suc (suc zero)) = omega arith
letters_small (suc (suc (suc zero))) = omega arith
letters_small (suc (suc (suc (suc zero)))) = omega arith
letters_small (suc (suc (suc (suc (suc zero))))) = omega arith
letters_small (suc (suc (suc (suc (suc (suc zero)))))) = omega arith
letters_small (suc (suc (suc (suc (suc (suc (suc zero))))))) = omega arith
letters_small (suc (suc (suc (suc (suc (suc (suc (suc k)))))))) = omega arith

letter_small : (x : ℕ) → is_letter x ≡ true → x < 256
unfolding is_letter
letter_small x h = small x letters letters_small h

item_plain : (p : List ℕ) (s : List (List ℕ)) (is : List Item) → Lettered is → Lettered (item_at (reader_number limit) p s ∷ is)
unfolding item_at
item_plain p s is w = go (is_dead p) (is_blank p) (eqb (reader_number limit (get_or p 0 0) (join (take (get_or p 2 0) (p ∷ s)))) 0) refl
  where
    go : (a b c : Bool) → eqb (reader_number limit (get_or p 0 0) (join (take (get_or p 2 0) (p ∷ s)))) 0 ≡ c
        → Lettered ((if a then dead p else if b then blank else if c then filed (get_or p 0 0) (take (get_or p 2 0) (p ∷ s)) else junk p) ∷ is)
    go true b c q = w
    go false true c q = w
    go false false true q =
        let z = eqb-true _ 0 q in
        ((letter_small (get_or p 0 0) (letter_of limit (get_or p 0 0) (join (take (get_or p 2 0) (p ∷ s))) z), filed_some (reader_number limit) (file_reader limit) (get_or p 0 0) (take (get_or p 2 0) (p ∷ s)) z), w)
    go false false false q = w

lettered : (s : List (List ℕ)) (m : ℕ) → Lettered (items_from (reader_number limit) m s)
lettered [] zero = tt
lettered [] (suc m) = tt
lettered (p ∷ s) zero = item_plain p s (items_from (reader_number limit) (more_of (item_at (reader_number limit) p s)) s) (lettered s (more_of (item_at (reader_number limit) p s)))
lettered (p ∷ s) (suc m) = lettered s m

pub all_lettered : (main : List ℕ) → Lettered (left_at main 0)
all_lettered main = lettered (places_in main) 0

-- ---- the end of the walk
and_true : (g : Bool) → (g && true) ≡ g
and_true true = refl
and_true false = refl

or_false : (g : Bool) → (g || false) ≡ g
or_false true = refl
or_false false = refl

pub ended : (ℓ n : ℕ) (main : List ℕ) (p : ℕ) (seen : List ℕ) (s : Survey) → length main / 512 ≤ p → Walked ℓ n (left_at main 0) p seen s (left_at main p) → s ≡ survey_of ℓ n main
unfolding items_in is_proper survey_of
ended ℓ n main p seen s h o' = λ i. record {
  live = live i;
  place = place (eqb s.blocks 0) refl i;
  blocks = blocks (eqb s.blocks 0) refl i;
  run = o.w_run i;
  start = start s.fits refl i;
  good = good i;
  fits = fits i;
}
  where
    I : List Item
    I = left_at main 0

    gone : drop p (places_in main) ≡ []
    gone = let c = cut_length (length main / 512) main in past_all p (places_in main) (omega arith)

    o : Walked ℓ n I p seen s []
    o = subst (λ (x : List (List ℕ)). Walked ℓ n I p seen s (items_from (reader_number limit) 0 x)) gone o'

    live : s.live ≡ live_in I
    live = let a = o.w_live in (let z : s.live ≡ s.live + 0 = omega arith in z) ∙ a

    good : s.good ≡ proper_in I
    good = sym (and_true s.good) ∙ o.w_good ∙ proper_none I (all_lettered main)

    fits : s.fits ≡ has_run n I
    fits = sym (or_false s.fits) ∙ o.w_fits ∙ fits_is I n

    blocks : (t : Bool) → eqb s.blocks 0 ≡ t → s.blocks ≡ length (find_in ℓ I)
    blocks true q = eqb-true s.blocks 0 q ∙ sym (if_true (eqb s.blocks 0) 0 s.blocks q) ∙ o.w_blocks
    blocks false q = sym (if_false (eqb s.blocks 0) 0 s.blocks q) ∙ o.w_blocks

    place : (t : Bool) → eqb s.blocks 0 ≡ t → s.place ≡ place_in ℓ 0 I
    place true q = o.w_unmet (eqb-true s.blocks 0 q) ∙ sym (if_true (eqb s.blocks 0) 0 s.place q) ∙ o.w_place
    place false q = sym (if_false (eqb s.blocks 0) 0 s.place q) ∙ o.w_place

    start : (t : Bool) → s.fits ≡ t → s.start ≡ (if has_run n I then start_in n 0 I else 0)
    start true q =
        let r : has_run n I ≡ true = sym fits ∙ q in
        sym (if_true s.fits s.start p q) ∙ o.w_start ∙ start_is I n r ∙ sym (if_true (has_run n I) (start_in n 0 I) 0 r)
    start false q = o.w_unset q ∙ sym (if_false (has_run n I) (start_in n 0 I) 0 (sym fits ∙ q))
