-- The walk reads back what items print, and a proper store prints as it was.
use mathlib.Core.Path.{◌≡◌, refl, sym, ◌∙◌, ap}
use mathlib.Core.List.{List, [], ◌∷◌, ◌++◌}
use mathlib.Core.Bool.{Bool, true, false, not, ◌&&◌}
use Prim.Native.Nat.{ℕ, zero, suc, ◌*◌, ◌-◌, ◌≤◌, ◌<◌}
use native.Mathlib.Omega.{arith}
use lib.ListN.{length, get_or, take, drop, take-append-drop, length-take}
use lib.Seq.{take_at}
use lib.Dec.{eqb}
use borrow.Author.Tests.{eqb-true, eq-eqb, ne_eqb}
use Rattle.file_check.specs.Check.{is_blank}
use Rattle.std.specs.Prelude.{if◌then◌else◌}
use Rattle.common.proofs.Choice.{if_true, if_false}
use Rattle.store_places.specs.Store.{Judgement, Reader, join, blank_place, is_dead, Item, blank, dead, filed, junk, item_at, more_of, items_from, places_of, proper_in, has_in}
use Rattle.store_places.proofs.Places.{Whole, whole_take, whole_append, join_length, join_first, blank_is, blank_blank, blank_alive, blank_length, blank_first}

-- an item that the walk can tell
abbrev pub Right : Judgement → Item → Type 0
Right fault blank = Unit {0}
Right fault (dead p) = (length p ≡ 512) × (is_dead p ≡ true)
Right fault (filed ℓ f) = Whole f × (fault ℓ (join f) ≡ 0)
Right fault (junk p) = ⊥

abbrev pub Good : Judgement → List Item → Type 0
Good fault [] = Unit {0}
Good fault (i ∷ is) = Right fault i × Good fault is

pub good_append : (fault : Judgement) (is js : List Item) → Good fault is → Good fault js → Good fault (is ++ js)
good_append fault [] js g h = h
good_append fault (i ∷ is) js g h = (g.0, good_append fault is js g.1 h)

pub good_whole : (fault : Judgement) (is : List Item) → Good fault is → Whole (places_of is)
good_whole fault [] g = tt
good_whole fault (blank ∷ is) g = (blank_length, good_whole fault is g.1)
good_whole fault (dead p ∷ is) g = (g.0.0, good_whole fault is g.1)
good_whole fault (filed ℓ f ∷ is) g = whole_append f (places_of is) g.0.0 (good_whole fault is g.1)
good_whole fault (junk p ∷ is) g = absurd g.0

pub not_both : {b : Bool} → b ≡ true → b ≡ false → ⊥
not_both {b} p q = let z : ◌≡◌ {A = ℕ} 0 1 = cc in omega arith

pub is_false : (b : Bool) → (b ≡ true → ⊥) → b ≡ false
is_false true n = absurd (n refl)
is_false false n = refl

module _ (fault : Judgement) (R : Reader fault) where
  -- a file's first place, and how many places it has
  pub record Headed (ℓ : ℕ) (p : List ℕ) (f : List (List ℕ)) : Type 0 where
    pub letter : get_or p 0 0 ≡ ℓ
    pub count : get_or p 2 0 ≡ suc (length f)
    pub alive : is_dead p ≡ false
    pub written : is_blank p ≡ false

  pub headed : (ℓ : ℕ) (p : List ℕ) (f : List (List ℕ)) → Whole (p ∷ f) → fault ℓ (join (p ∷ f)) ≡ 0 → Headed ℓ p f
  unfolding is_dead
  headed ℓ p f w z =
      let l = w.0 in
      let a : get_or (join (p ∷ f)) 0 0 ≡ get_or p 0 0 = join_first p f 0 (omega arith) in
      let b : get_or (join (p ∷ f)) 2 0 ≡ get_or p 2 0 = join_first p f 2 (omega arith) in
      let c : length (join (p ∷ f)) ≡ 512 * get_or (join (p ∷ f)) 2 0 = R.counted ℓ (join (p ∷ f)) z in
      let d : length (join (p ∷ f)) ≡ 512 * suc (length f) = join_length (p ∷ f) w in
      let e : get_or p 0 0 ≡ ℓ = sym a ∙ R.lettered ℓ (join (p ∷ f)) z in
      record {
        letter = e;
        count = omega arith;
        alive = ne_eqb (get_or p 0 0) 0 (λ (q : get_or p 0 0 ≡ 0). R.not_dead ℓ (join (p ∷ f)) z (sym e ∙ q));
        written = is_false (is_blank p) (λ (q : is_blank p ≡ true). R.not_blank ℓ (join (p ∷ f)) z (sym e ∙ blank_first p q));
      }

  -- a file has at least one place
  pub filed_some : (ℓ : ℕ) (f : List (List ℕ)) → fault ℓ (join f) ≡ 0 → 0 < length f
  filed_some ℓ [] z = absurd (let a : 0 < get_or {A = ℕ} [] 2 0 = R.some ℓ [] z in omega arith)
  filed_some ℓ (p ∷ f) z = omega arith

  -- what the walk tells at each kind of place
  at_blank : (s : List (List ℕ)) → item_at fault blank_place s ≡ blank
  unfolding item_at
  at_blank s = if_false (is_dead blank_place) _ _ blank_alive ∙ if_true (is_blank blank_place) _ _ blank_blank

  at_dead : (p : List ℕ) (s : List (List ℕ)) → is_dead p ≡ true → item_at fault p s ≡ dead p
  unfolding item_at
  at_dead p s d = if_true (is_dead p) _ _ d

  at_filed : (ℓ : ℕ) (p : List ℕ) (f s : List (List ℕ)) → Whole (p ∷ f) → fault ℓ (join (p ∷ f)) ≡ 0 → item_at fault p (f ++ s) ≡ filed ℓ (p ∷ f)
  unfolding item_at
  at_filed ℓ p f s w z =
      let h = headed ℓ p f w z in
      let t : take (get_or p 2 0) (p ∷ (f ++ s)) ≡ p ∷ f = ap (λ (n : ℕ). take n (p ∷ (f ++ s))) h.count ∙ ap (λ (x : List (List ℕ)). p ∷ x) (take_at f s (length f) refl) in
      let G : ℕ → List (List ℕ) → Item = λ m x. (if eqb (fault m (join x)) 0 then filed m x else junk p) in
      if_false (is_dead p) _ _ h.alive
      ∙ if_false (is_blank p) _ _ h.written
      ∙ ap (λ (m : ℕ). G m (take (get_or p 2 0) (p ∷ (f ++ s)))) h.letter
      ∙ ap (λ (x : List (List ℕ)). G ℓ x) t
      ∙ if_true (eqb (fault ℓ (join (p ∷ f))) 0) _ _ (eq-eqb _ 0 z)

  skipped : (f s : List (List ℕ)) → items_from fault (length f) (f ++ s) ≡ items_from fault 0 s
  skipped [] s = refl
  skipped (p ∷ f) s = skipped f s

  step : (p : List ℕ) (s : List (List ℕ)) (i : Item) → item_at fault p s ≡ i → items_from fault 0 (p ∷ s) ≡ i ∷ items_from fault (more_of i) s
  step p s i e = ap (λ (x : Item). x ∷ items_from fault (more_of x) s) e

  -- what good items print, the walk reads back
  pub read_back : (is : List Item) → Good fault is → items_from fault 0 (places_of is) ≡ is
  read_back [] g = refl
  read_back (blank ∷ is) g = step blank_place (places_of is) blank (at_blank (places_of is)) ∙ ap (λ (x : List Item). blank ∷ x) (read_back is g.1)
  read_back (dead p ∷ is) g = step p (places_of is) (dead p) (at_dead p (places_of is) g.0.1) ∙ ap (λ (x : List Item). dead p ∷ x) (read_back is g.1)
  read_back (filed ℓ [] ∷ is) g = absurd (let a = filed_some ℓ [] g.0.1 in omega arith)
  read_back (filed ℓ (p ∷ f) ∷ is) g =
      let e : suc (length f) - 1 ≡ length f = omega arith in
      step p (f ++ places_of is) (filed ℓ (p ∷ f)) (at_filed ℓ p f (places_of is) g.0.0 g.0.1)
      ∙ ap (λ (n : ℕ). filed ℓ (p ∷ f) ∷ items_from fault n (f ++ places_of is)) e
      ∙ ap (λ (x : List Item). filed ℓ (p ∷ f) ∷ x) (skipped f (places_of is) ∙ read_back is g.1)
  read_back (junk p ∷ is) g = absurd g.0

  -- what the walk tells of a place is right, or junk
  pub data Told (p : List ℕ) (s : List (List ℕ)) : Item → Type 0 where
    told_blank : p ≡ blank_place → Told p s blank
    told_dead : is_dead p ≡ true → Told p s (dead p)
    told_filed : (ℓ k : ℕ) → k ≤ length s → Whole (p ∷ take k s) → fault ℓ (join (p ∷ take k s)) ≡ 0 → Told p s (filed ℓ (p ∷ take k s))
    told_junk : Told p s (junk p)

  fits_count : (ℓ : ℕ) (p : List ℕ) (s : List (List ℕ)) (n : ℕ) → get_or p 2 0 ≡ n → length p ≡ 512 → Whole s → fault ℓ (join (take n (p ∷ s))) ≡ 0 → Told p s (filed ℓ (take n (p ∷ s)))
  fits_count ℓ p s zero c l w z = absurd (let a = filed_some ℓ [] z in omega arith)
  fits_count ℓ p s (suc k) c l w z =
      let v : Whole (p ∷ take k s) = (l, whole_take k s w) in
      let h = (headed ℓ p (take k s) v z).count in
      told_filed ℓ k (omega (arith, length-take k s)) v z

  tell : (p : List ℕ) (s : List (List ℕ)) → length p ≡ 512 → Whole s → Told p s (item_at fault p s)
  unfolding item_at
  tell p s l w = go (is_dead p) refl (is_blank p) refl (eqb (fault (get_or p 0 0) (join (take (get_or p 2 0) (p ∷ s)))) 0) refl
    where
      go : (a : Bool) → is_dead p ≡ a → (b : Bool) → is_blank p ≡ b → (c : Bool) → eqb (fault (get_or p 0 0) (join (take (get_or p 2 0) (p ∷ s)))) 0 ≡ c
          → Told p s (if a then dead p else if b then blank else if c then filed (get_or p 0 0) (take (get_or p 2 0) (p ∷ s)) else junk p)
      go true x b y c z = told_dead x
      go false x true y c z = told_blank (blank_is p y)
      go false x false y true z = fits_count (get_or p 0 0) p s (get_or p 2 0) refl l w (eqb-true _ 0 z)
      go false x false y false z = told_junk

  and_right : (a b : Bool) → (a && b) ≡ true → b ≡ true
  and_right true b h = h
  and_right false b h = absurd (not_both h refl)

  onward : (p : List ℕ) (s : List (List ℕ)) (i : Item) → Told p s i → length p ≡ 512 → proper_in (i ∷ items_from fault (more_of i) s) ≡ true
      → ((k : ℕ) → k ≤ length s → proper_in (items_from fault k s) ≡ true → Good fault (items_from fault k s) × (places_of (items_from fault k s) ≡ drop k s))
      → Good fault (i ∷ items_from fault (more_of i) s) × (places_of (i ∷ items_from fault (more_of i) s) ≡ p ∷ s)
  onward p s i (told_blank e) l h ih =
      let r = ih 0 (omega arith) h in
      ((tt, r.0), ap (λ (x : List (List ℕ)). blank_place ∷ x) r.1 ∙ ap (λ (x : List ℕ). x ∷ s) (sym e))
  onward p s i (told_dead d) l h ih =
      let r = ih 0 (omega arith) h in
      (((l, d), r.0), ap (λ (x : List (List ℕ)). p ∷ x) r.1)
  onward p s i (told_filed ℓ k b w z) l h ih =
      let t : length (take k s) ≡ k = omega (arith, length-take k s) in
      let e : suc (length (take k s)) - 1 ≡ k = omega arith in
      let X = items_from fault (suc (length (take k s)) - 1) s in
      let r = ih (suc (length (take k s)) - 1) (omega arith) (and_right (not (has_in ℓ X)) (proper_in X) h) in (
        ((w, z), r.0),
        ap (λ (x : List (List ℕ)). p ∷ (take k s ++ x)) (r.1 ∙ ap (λ (n : ℕ). drop n s) e) ∙ ap (λ (x : List (List ℕ)). p ∷ x) (take-append-drop k s),
      )
  onward p s i told_junk l h ih = absurd (not_both h refl)

  pub printed : (s : List (List ℕ)) (m : ℕ) → m ≤ length s → Whole s → proper_in (items_from fault m s) ≡ true
      → Good fault (items_from fault m s) × (places_of (items_from fault m s) ≡ drop m s)
  printed [] zero l w h = (tt, refl)
  printed [] (suc m) l w h = absurd (omega arith)
  printed (p ∷ s) zero l w h = onward p s (item_at fault p s) (tell p s w.0 w.1) w.0 h (λ (k : ℕ) (b : k ≤ length s). printed s k b w.1)
  printed (p ∷ s) (suc m) l w h = printed s m (omega arith) w.1 h
