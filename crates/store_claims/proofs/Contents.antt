-- The new contents of a block are bytes where the old ones and the file are; where no bit falls back, none must rise.
use mathlib.Core.Path.{◌≡◌, refl, sym, ◌∙◌, ap, subst}
use mathlib.Core.List.{List, [], ◌∷◌, ◌++◌}
use mathlib.Core.Bool.{Bool, true, false, not, ◌||◌}
use Prim.Native.Nat.{ℕ, zero, suc, ◌+◌, ◌-◌, ◌/◌, ◌<◌}
use native.Mathlib.Omega.{arith}
use lib.ListN.{length, get_or, drop, replicate}
use lib.Dec.{eqb}
use lib.Bits.{bit_and}
use borrow.Author.Tests.{eq-eqb}
use Rattle.std.specs.Prelude.{if◌then◌else◌}
use Rattle.common.specs.Lists.{Bytes}
use Rattle.loader_walk.specs.Walks.{rises, rises_in}
use Rattle.store_places.specs.Store.{Judgement, Reader, join, zeroed, Item, blank, dead, filed, junk, places_of, live_in, dead_of, kept_of, without, blank_run, laid_in, files_of, run_for, slid_in, added_in, places_in, items_in, drop_of, add_of, Proper}
use Rattle.store_places.proofs.Falling.{Falls, Small, bytes_small}
use Rattle.store_places.proofs.Claims.{proper_read}

-- ---- bytes
small_append : (xs ys : List ℕ) → Small xs → Small ys → Small (xs ++ ys)
small_append [] ys a b = b
small_append (x ∷ xs) ys a b = (a.0, small_append xs ys a.1 b)

small_left : (xs ys : List ℕ) → Small (xs ++ ys) → Small xs
small_left [] ys s = tt
small_left (x ∷ xs) ys s = (s.0, small_left xs ys s.1)

small_right : (xs ys : List ℕ) → Small (xs ++ ys) → Small ys
small_right [] ys s = s
small_right (x ∷ xs) ys s = small_right xs ys s.1

small_same : (n b : ℕ) → b < 256 → Small (replicate n b)
small_same zero b h = tt
small_same (suc n) b h = (h, small_same n b h)

small_bytes : (xs : List ℕ) → Small xs → Bytes xs
small_bytes [] s i = omega arith
small_bytes (x ∷ xs) s zero = s.0
small_bytes (x ∷ xs) s (suc i) = small_bytes xs s.1 i

-- every place of some is bytes
abbrev SmallPlaces : List (List ℕ) → Type 0
SmallPlaces [] = Unit {0}
SmallPlaces (p ∷ s) = Small p × SmallPlaces s

places_join : (s : List (List ℕ)) → SmallPlaces s → Small (join s)
places_join [] a = tt
places_join (p ∷ s) a = small_append p (join s) a.0 (places_join s a.1)

join_places : (s : List (List ℕ)) → Small (join s) → SmallPlaces s
join_places [] a = tt
join_places (p ∷ s) a = (small_left p (join s) a, join_places s (small_right p (join s) a))

places_append : (s t : List (List ℕ)) → SmallPlaces s → SmallPlaces t → SmallPlaces (s ++ t)
places_append [] t a b = b
places_append (p ∷ s) t a b = (a.0, places_append s t a.1 b)

places_left : (s t : List (List ℕ)) → SmallPlaces (s ++ t) → SmallPlaces s
places_left [] t a = tt
places_left (p ∷ s) t a = (a.0, places_left s t a.1)

places_right : (s t : List (List ℕ)) → SmallPlaces (s ++ t) → SmallPlaces t
places_right [] t a = a
places_right (p ∷ s) t a = places_right s t a.1

-- of each item
abbrev SmallItem : Item → Type 0
SmallItem blank = Unit {0}
SmallItem (dead p) = Small p
SmallItem (filed m f) = SmallPlaces f
SmallItem (junk p) = Small p

abbrev SmallItems : List Item → Type 0
SmallItems [] = Unit {0}
SmallItems (i ∷ is) = SmallItem i × SmallItems is

items_of : (is : List Item) → SmallPlaces (places_of is) → SmallItems is
items_of [] a = tt
items_of (blank ∷ is) a = (tt, items_of is a.1)
items_of (dead p ∷ is) a = (a.0, items_of is a.1)
items_of (filed m f ∷ is) a = (places_left f (places_of is) a, items_of is (places_right f (places_of is) a))
items_of (junk p ∷ is) a = (a.0, items_of is a.1)

of_items : (is : List Item) → SmallItems is → SmallPlaces (places_of is)
of_items [] a = tt
of_items (blank ∷ is) a = (small_same 512 255 (omega arith), of_items is a.1)
of_items (dead p ∷ is) a = (a.0, of_items is a.1)
of_items (filed m f ∷ is) a = places_append f (places_of is) a.0 (of_items is a.1)
of_items (junk p ∷ is) a = (a.0, of_items is a.1)

items_append : (is js : List Item) → SmallItems is → SmallItems js → SmallItems (is ++ js)
items_append [] js a b = b
items_append (i ∷ is) js a b = (a.0, items_append is js a.1 b)

items_drop : (n : ℕ) (is : List Item) → SmallItems is → SmallItems (drop n is)
items_drop zero is a = a
items_drop (suc n) [] a = tt
items_drop (suc n) (i ∷ is) a = items_drop n is a.1

zeroed_small : (p : List ℕ) → Small p → Small (zeroed p)
unfolding zeroed
zeroed_small [] a = tt
zeroed_small (x ∷ p) a = ((let z : 0 < 256 = omega arith in z), a.1)

dead_small : (f : List (List ℕ)) → SmallPlaces f → SmallItems (dead_of f)
dead_small [] a = tt
dead_small (p ∷ f) a = (zeroed_small p a.0, dead_small f a.1)

kept_small : (ℓ m : ℕ) (f : List (List ℕ)) → SmallPlaces f → SmallItems (kept_of ℓ m f)
unfolding kept_of
kept_small ℓ m f a = go (eqb m ℓ)
  where
    go : (t : Bool) → SmallItems (if t then dead_of f else filed m f ∷ [])
    go true = dead_small f a
    go false = (a, tt)

without_small : (ℓ : ℕ) (is : List Item) → SmallItems is → SmallItems (without ℓ is)
without_small ℓ [] a = tt
without_small ℓ (blank ∷ is) a = (tt, without_small ℓ is a.1)
without_small ℓ (dead p ∷ is) a = (a.0, without_small ℓ is a.1)
without_small ℓ (filed m f ∷ is) a = items_append (kept_of ℓ m f) (without ℓ is) (kept_small ℓ m f a.0) (without_small ℓ is a.1)
without_small ℓ (junk p ∷ is) a = (a.0, without_small ℓ is a.1)

laid_small : (ℓ : ℕ) (f : List (List ℕ)) (is : List Item) → SmallPlaces f → SmallItems is → SmallItems (laid_in ℓ f is)
laid_small ℓ f [] b a = tt
laid_small ℓ f (i ∷ is) b a = go (blank_run (length f) (i ∷ is)) (laid_small ℓ f is b a.1)
  where
    go : (t : Bool) → SmallItems (laid_in ℓ f is) → SmallItems (if t then filed ℓ f ∷ drop (length f) (i ∷ is) else i ∷ laid_in ℓ f is)
    go true r = (b, items_drop (length f) (i ∷ is) a)
    go false r = (a.0, r)

files_small : (is : List Item) → SmallItems is → SmallItems (files_of is)
files_small [] a = tt
files_small (blank ∷ is) a = files_small is a.1
files_small (dead p ∷ is) a = files_small is a.1
files_small (filed m f ∷ is) a = (a.0, files_small is a.1)
files_small (junk p ∷ is) a = files_small is a.1

blanks_small : (k : ℕ) → SmallItems (replicate k blank)
blanks_small zero = tt
blanks_small (suc k) = (tt, blanks_small k)

added_small : (N ℓ : ℕ) (f : List (List ℕ)) (is : List Item) → SmallPlaces f → SmallItems is → SmallItems (added_in N ℓ f is)
unfolding added_in
added_small N ℓ f is b a = go (run_for ℓ f is)
  where
    W : SmallItems (without ℓ is)
    W = without_small ℓ is a

    go : (t : Bool) → SmallItems (if t then laid_in ℓ f (without ℓ is) else slid_in N ℓ f (without ℓ is))
    go true = laid_small ℓ f (without ℓ is) b W
    go false = items_append (files_of (without ℓ is)) (filed ℓ f ∷ replicate (N - (live_in (without ℓ is) + length f)) blank) (files_small (without ℓ is) W) (b, blanks_small (N - (live_in (without ℓ is) + length f)))

-- ---- bits
falls_at : (s w : List ℕ) → Falls s w → (i : ℕ) → bit_and (get_or s i 0) (get_or w i 0) ≡ get_or w i 0
falls_at [] [] f i = refl
falls_at [] (y ∷ w) f i = absurd f
falls_at (x ∷ s) [] f i = absurd f
falls_at (x ∷ s) (y ∷ w) f zero = f.0
falls_at (x ∷ s) (y ∷ w) f (suc i) = falls_at s w f.1 i

none_rise : (k i : ℕ) (w s : List ℕ) → ((i : ℕ) → bit_and (get_or s i 0) (get_or w i 0) ≡ get_or w i 0) → rises k i w s ≡ false
none_rise zero i w s h = refl
none_rise (suc k) i w s h = ap (λ (x : Bool). not x || rises k (i + 1) w s) (eq-eqb (bit_and (get_or s i 0) (get_or w i 0)) (get_or w i 0) (h i)) ∙ none_rise k (i + 1) w s h

-- where no bit rises, the loader finds none that must
pub falls_rises : (w s : List ℕ) → Falls s w → rises_in w s ≡ false
unfolding rises_in
falls_rises w s f = none_rise (length w) 0 w s (falls_at s w f)

module _ (fault : Judgement) (R : Reader fault) (N : ℕ) (main : List ℕ) (P : Proper fault N main) (B : Bytes main) where
  main_small : SmallItems (items_in fault main)
  main_small = items_of (items_in fault main) (join_places (places_of (items_in fault main)) (subst Small (sym (proper_read fault R N main P).back) (bytes_small main B)))

  pub drop_bytes : (ℓ : ℕ) → Bytes (drop_of fault ℓ main)
  unfolding drop_of
  drop_bytes ℓ = small_bytes (join (places_of (without ℓ (items_in fault main)))) (places_join (places_of (without ℓ (items_in fault main))) (of_items (without ℓ (items_in fault main)) (without_small ℓ (items_in fault main) main_small)))

  pub add_bytes : (ℓ : ℕ) (b : List ℕ) → Bytes b → join (places_in b) ≡ b → Bytes (add_of fault ℓ b main)
  unfolding add_of
  add_bytes ℓ b c e =
      let A = added_in (length main / 512) ℓ (places_in b) (items_in fault main) in
      let f = join_places (places_in b) (subst Small (sym e) (bytes_small b c)) in
      small_bytes (join (places_of A)) (places_join (places_of A) (of_items A (added_small (length main / 512) ℓ (places_in b) (items_in fault main) f main_small)))
