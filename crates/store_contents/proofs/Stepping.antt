-- The slide's walk: an item of a divided block by its first byte and its count alone, and what is left behind it.
use mathlib.Core.Path.{◌≡◌, refl, sym, ◌∙◌, ap, subst}
use mathlib.Core.List.{List, [], ◌∷◌, ◌++◌}
use mathlib.Core.Bool.{Bool, false, ◌||◌}
use Prim.Native.Nat.{ℕ, suc, ◌+◌, ◌*◌, ◌-◌, ◌≤◌, ◌<◌}
use native.Mathlib.Omega.{arith}
use lib.ListN.{length, get_or, take, drop, length-append, length-drop, get_or-append}
use lib.Seq.{take_at, drop_at, drop-drop, get_or-drop, length-take-le}
use borrow.Rule.Slice.PartMut.{mid_of}
use lib.Dec.{eqb}
use borrow.Author.Tests.{eqb-true, eq-eqb, ne_eqb}
use Rattle.std.specs.Prelude.{if◌then◌else◌}
use Rattle.common.proofs.Choice.{if_true, if_false}
use Rattle.store_places.specs.Store.{Judgement, Reader, join, blank_place, is_dead, Item, blank, dead, filed, junk, places_of, items_in, Proper}
use Rattle.store_places.proofs.Places.{join_append, join_length, join_first, blank_length}
use Rattle.store_places.proofs.Items.{Good, headed, filed_some}
use Rattle.store_places.proofs.Claims.{proper_read, rebuilt}
use Rattle.store_contents.specs.Inner.{live_bytes, span_of, goes_of, stay_of}

-- the first byte tells which item it is
span_dead : (x c : ℕ) → x ≡ 0 → span_of x c ≡ 512
unfolding span_of
span_dead x c e = if_true (eqb x 0) 512 _ (eq-eqb x 0 e)

span_blank : (x c : ℕ) → x ≡ 255 → span_of x c ≡ 512
unfolding span_of
span_blank x c e = if_false (eqb x 0) 512 _ (ne_eqb x 0 (λ (z : x ≡ 0). omega arith)) ∙ if_true (eqb x 255) 512 _ (eq-eqb x 255 e)

span_file : (x c : ℕ) → (x ≡ 0 → ⊥) → (x ≡ 255 → ⊥) → span_of x c ≡ 512 * c
unfolding span_of
span_file x c y z = if_false (eqb x 0) 512 _ (ne_eqb x 0 y) ∙ if_false (eqb x 255) 512 _ (ne_eqb x 255 z)

goes_dead : (ℓ : ℕ) (P : List ℕ) → get_or P 0 0 ≡ 0 → stay_of ℓ P ≡ []
unfolding stay_of goes_of
goes_dead ℓ P e = ap (λ (x : ℕ). if ((eqb x 0 || eqb x 255) || eqb x ℓ) then [] else P) e

goes_blank : (ℓ : ℕ) (P : List ℕ) → get_or P 0 0 ≡ 255 → stay_of ℓ P ≡ []
unfolding stay_of goes_of
goes_blank ℓ P e = ap (λ (x : ℕ). if ((eqb x 0 || eqb x 255) || eqb x ℓ) then [] else P) e

stays_file : (ℓ m : ℕ) (P : List ℕ) → get_or P 0 0 ≡ m → (m ≡ 0 → ⊥) → (m ≡ 255 → ⊥) → stay_of ℓ P ≡ (if eqb m ℓ then [] else P)
unfolding stay_of goes_of
stays_file ℓ m P e y z =
    ap (λ (x : ℕ). if ((eqb x 0 || eqb x 255) || eqb x ℓ) then [] else P) e
    ∙ ap (λ (t : Bool). if ((t || eqb m 255) || eqb m ℓ) then [] else P) (ne_eqb m 0 y)
    ∙ ap (λ (t : Bool). if ((false || t) || eqb m ℓ) then [] else P) (ne_eqb m 255 z)

module _ (fault : Judgement) (R : Reader fault) where
  -- bytes that are what their items print, each item one that the walk can tell
  pub record Divided (xs : List ℕ) : Type 0 where
    pub good : Good fault (items_in fault xs)
    pub back : join (places_of (items_in fault xs)) ≡ xs

  pub divided : (N : ℕ) (main : List ℕ) → Proper fault N main → Divided main
  divided N main P = let r = proper_read fault R N main P in record { good = r.good; back = r.back }

  -- one item: how far it goes, that what is behind it is divided again, and what the slide keeps of it
  pub record Step (ℓ : ℕ) (xs : List ℕ) : Type 0 where
    pub some : 512 ≤ span_of (get_or xs 0 0) (get_or xs 2 0)
    pub within : span_of (get_or xs 0 0) (get_or xs 2 0) ≤ length xs
    pub rest : Divided (drop (span_of (get_or xs 0 0) (get_or xs 2 0)) xs)
    pub live : live_bytes ℓ (items_in fault xs) ≡ stay_of ℓ (take (span_of (get_or xs 0 0) (get_or xs 2 0)) xs) ++ live_bytes ℓ (items_in fault (drop (span_of (get_or xs 0 0) (get_or xs 2 0)) xs))

  read : (is : List Item) → Good fault is → items_in fault (join (places_of is)) ≡ is
  read is g = (rebuilt fault R (length (places_of is)) is g refl).1

  reread : (is : List Item) → Good fault is → Divided (join (places_of is))
  reread is g =
      let e = read is g in
      record { good = subst (Good fault) (sym e) g; back = ap (λ (x : List Item). join (places_of x)) e }

  -- of an item's bytes P before the rest
  made : (ℓ : ℕ) (i : Item) (is : List Item) (P : List ℕ) (s : ℕ) → Good fault (i ∷ is) → join (places_of (i ∷ is)) ≡ P ++ join (places_of is) → length P ≡ s → 512 ≤ s
      → span_of (get_or P 0 0) (get_or P 2 0) ≡ s → live_bytes ℓ (i ∷ is) ≡ stay_of ℓ P ++ live_bytes ℓ is → Step ℓ (join (places_of (i ∷ is)))
  made ℓ i is P s g e l h q v =
      let J = join (places_of is) in
      let a : get_or (P ++ J) 0 0 ≡ get_or P 0 0 = get_or-append P J 0 0 (omega arith) in
      let b : get_or (P ++ J) 2 0 ≡ get_or P 2 0 = get_or-append P J 0 2 (omega arith) in
      let S = span_of (get_or (P ++ J) 0 0) (get_or (P ++ J) 2 0) in
      let c : S ≡ s = ap (λ (x : ℕ). span_of x (get_or (P ++ J) 2 0)) a ∙ ap (span_of (get_or P 0 0)) b ∙ q in
      let d : drop S (P ++ J) ≡ J = ap (λ (n : ℕ). drop n (P ++ J)) c ∙ drop_at P J s l in
      let t : take S (P ++ J) ≡ P = ap (λ (n : ℕ). take n (P ++ J)) c ∙ take_at P J s l in
      let i₀ : items_in fault (P ++ J) ≡ i ∷ is = ap (items_in fault) (sym e) ∙ read (i ∷ is) g in
      let n = length-append P J in
      let w : Step ℓ (P ++ J) = record {
        some = subst (λ (x : ℕ). 512 ≤ x) (sym c) h;
        within = omega arith;
        rest = subst Divided (sym d) (reread is g.1);
        live =
            ap (live_bytes ℓ) i₀ ∙ v ∙ ap (λ (x : List Item). stay_of ℓ P ++ live_bytes ℓ x) (sym (read is g.1) ∙ ap (items_in fault) (sym d))
            ∙ ap (λ (x : List ℕ). stay_of ℓ x ++ live_bytes ℓ (items_in fault (drop S (P ++ J)))) (sym t);
      } in
      subst (Step ℓ) (sym e) w

  step_of : (ℓ : ℕ) (is : List Item) → Good fault is → 0 < length (join (places_of is)) → Step ℓ (join (places_of is))
  unfolding is_dead
  step_of ℓ [] g h = absurd (omega arith)
  step_of ℓ (blank ∷ is) g h =
      made ℓ blank is blank_place 512 g refl blank_length (omega arith) (span_blank 255 255 refl) (sym (ap (λ (x : List ℕ). x ++ live_bytes ℓ is) (goes_blank ℓ blank_place refl)))
  step_of ℓ (dead p ∷ is) g h =
      let z : get_or p 0 0 ≡ 0 = eqb-true (get_or p 0 0) 0 g.0.1 in
      made ℓ (dead p) is p 512 g refl g.0.0 (omega arith) (span_dead (get_or p 0 0) (get_or p 2 0) z) (sym (ap (λ (x : List ℕ). x ++ live_bytes ℓ is) (goes_dead ℓ p z)))
  step_of ℓ (filed m [] ∷ is) g h = absurd (let a = filed_some fault R m [] g.0.1 in omega arith)
  step_of ℓ (filed m (p ∷ f) ∷ is) g h =
      let F = join (p ∷ f) in
      let z = g.0.1 in
      let hd = headed fault R m p f g.0.0 z in
      let lp = g.0.0.0 in
      let a : get_or F 0 0 ≡ m = join_first p f 0 (omega arith) ∙ hd.letter in
      let b : get_or F 2 0 ≡ suc (length f) = join_first p f 2 (omega arith) ∙ hd.count in
      let y : m ≡ 0 → ⊥ = R.not_dead m F z in
      let x : m ≡ 255 → ⊥ = R.not_blank m F z in
      let n : length F ≡ 512 * suc (length f) = join_length (p ∷ f) g.0.0 in
      made ℓ (filed m (p ∷ f)) is F (512 * suc (length f)) g (join_append (p ∷ f) (places_of is)) n (omega arith)
      (ap (λ (k : ℕ). span_of k (get_or F 2 0)) a ∙ span_file m (get_or F 2 0) y x ∙ ap (λ (k : ℕ). 512 * k) b)
      (sym (ap (λ (k : List ℕ). k ++ live_bytes ℓ is) (stays_file ℓ m F a y x)))
  step_of ℓ (junk p ∷ is) g h = absurd g.0

  pub step : (ℓ : ℕ) (xs : List ℕ) → Divided xs → 0 < length xs → Step ℓ xs
  step ℓ xs d h = subst (Step ℓ) d.back (step_of ℓ (items_in fault xs) d.good (subst (λ (x : List ℕ). 0 < length x) (sym d.back) h))

  -- one round of the slide's loop: the item at byte `from`, told by the bytes x and y, goes to byte `to` of memory where it stays
  module _ (ℓ : ℕ) (main : List ℕ) (from x y : ℕ) (ex : x ≡ get_or main from 0) (ey : y ≡ get_or main (from + 2) 0) (inside : from < length main) (D : Divided (drop from main)) where
    X : List ℕ
    X = drop from main

    ahead : length (drop from main) ≡ length main - from
    ahead = length-drop from main

    taken : Step ℓ (drop from main)
    taken = step ℓ (drop from main) D (omega (arith, ahead))

    same : span_of x y ≡ span_of (get_or (drop from main) 0 0) (get_or (drop from main) 2 0)
    same =
        let a : get_or (drop from main) 0 0 ≡ x = get_or-drop from main 0 0 ∙ ap (λ (n : ℕ). get_or main n 0) (let z : from + 0 ≡ from = omega arith in z) ∙ sym ex in
        let b : get_or (drop from main) 2 0 ≡ y = get_or-drop from main 2 0 ∙ sym ey in
        sym (ap (λ (n : ℕ). span_of n (get_or (drop from main) 2 0)) a ∙ ap (span_of x) b)

    pub ends_inside : from + span_of x y ≤ length main
    ends_inside = let w = taken.within in let e = same in let l = ahead in omega arith

    pub goes_on : from < from + span_of x y
    goes_on = let w = taken.some in let e = same in omega arith

    item_is : mid_of from (from + span_of x y - from) main ≡ take (span_of (get_or (drop from main) 0 0) (get_or (drop from main) 2 0)) (drop from main)
    item_is = ap (λ (n : ℕ). take n (drop from main)) (let e = same in let z : from + span_of x y - from ≡ span_of (get_or (drop from main) 0 0) (get_or (drop from main) 2 0) = omega arith in z)

    rest_is : drop (from + span_of x y) main ≡ drop (span_of (get_or (drop from main) 0 0) (get_or (drop from main) 2 0)) (drop from main)
    rest_is =
        let s = span_of (get_or (drop from main) 0 0) (get_or (drop from main) 2 0) in
        ap (λ (n : ℕ). drop (from + n) main) same ∙ sym (drop-drop s from main)

    pub divided_on : Divided (drop (from + span_of x y) main)
    divided_on = subst Divided (sym rest_is) taken.rest

    pub item_long : length (mid_of from (from + span_of x y - from) main) ≡ span_of x y
    item_long =
        let l = ahead in let i = ends_inside in
        length-take-le (from + span_of x y - from) (drop from main) (omega arith) ∙ (let z : from + span_of x y - from ≡ span_of x y = omega arith in z)

    pub live_on : live_bytes ℓ (items_in fault (drop from main)) ≡ stay_of ℓ (mid_of from (from + span_of x y - from) main) ++ live_bytes ℓ (items_in fault (drop (from + span_of x y) main))
    live_on =
        taken.live
        ∙ ap (λ (z : List ℕ). stay_of ℓ z ++ live_bytes ℓ (items_in fault (drop (span_of (get_or (drop from main) 0 0) (get_or (drop from main) 2 0)) (drop from main)))) (sym item_is)
        ∙ ap (λ (z : List ℕ). stay_of ℓ (mid_of from (from + span_of x y - from) main) ++ live_bytes ℓ (items_in fault z)) (sym rest_is)
