-- A drop and an add without slide in bytes: what code on a lent block is held to.
use mathlib.Core.Path.{◌≡◌, refl, sym, ◌∙◌, ap}
use mathlib.Core.List.{List, [], ◌∷◌, ◌++◌, append_assoc}
use mathlib.Core.Bool.{Bool, true, false, not, ◌||◌}
use Prim.Native.Nat.{ℕ, suc, ◌+◌, ◌*◌, ◌-◌, ◌/◌}
use native.Mathlib.Omega.{arith}
use lib.ListN.{length, get_or, take, drop, set, length-append}
use lib.Seq.{set_at, drop-drop}
use lib.Dec.{eqb}
use borrow.Author.Tests.{eqb-true}
use Rattle.std.specs.Prelude.{if◌then◌else◌}
use Rattle.common.proofs.Choice.{if_true, if_false}
use Rattle.store_places.specs.Store.{Judgement, Reader, join, blank_place, zeroed, Item, blank, dead, filed, junk, places_of, proper_in, has_in, find_in, dead_of, kept_of, without, fits_in, laid_in, run_for, slid_in, added_in, places_in, items_in, drop_of, add_of, Proper}
use Rattle.store_contents.specs.Inner.{zeroed_from}
use Rattle.store_survey.specs.Survey.{start_in, place_in}
use Rattle.common.specs.Lists.{overlaid}
use Rattle.store_places.proofs.Places.{Whole, join_append, join_length, join_cut, cut_length, blank_length}
use Rattle.store_places.proofs.Items.{Good, good_whole, not_both}
use Rattle.store_places.proofs.Changes.{and_l, and_r, or_l, or_r, not-true, without_good}
use Rattle.store_places.proofs.Claims.{proper_read}
use Rattle.store_find.proofs.Laying.{kept_is, Somes, good_somes, fits_same, start_same, laid_places, join_take, join_drop}

-- a letter that is not there: nothing is dropped
pub without_same : (ℓ : ℕ) (is : List Item) → has_in ℓ is ≡ false → without ℓ is ≡ is
without_same ℓ [] h = refl
without_same ℓ (blank ∷ is) h = ap (λ (x : List Item). blank ∷ x) (without_same ℓ is h)
without_same ℓ (dead p ∷ is) h = ap (λ (x : List Item). dead p ∷ x) (without_same ℓ is h)
without_same ℓ (filed m f ∷ is) h =
    ap (λ (x : List Item). x ++ without ℓ is) (kept_is ℓ m f false (or_l (eqb m ℓ) (has_in ℓ is) h)) ∙ ap (λ (x : List Item). filed m f ∷ x) (without_same ℓ is (or_r (eqb m ℓ) (has_in ℓ is) h))
without_same ℓ (junk p ∷ is) h = ap (λ (x : List Item). junk p ∷ x) (without_same ℓ is h)

-- one place dropped
kill_one : (a p R : List ℕ) (n : ℕ) → length a ≡ n → length p ≡ 512 → set (a ++ (p ++ R)) n 0 ≡ (a ++ zeroed p) ++ R
unfolding zeroed
kill_one a [] R n l w = absurd (omega arith)
kill_one a (x ∷ p) R n l w = set_at a x (p ++ R) 0 n l ∙ sym (append_assoc a (0 ∷ p) R)

zeroed_long : (p : List ℕ) → length (zeroed p) ≡ length p
unfolding zeroed
zeroed_long [] = refl
zeroed_long (x ∷ p) = refl

kill_run : (f : List (List ℕ)) (is : List Item) (a : List ℕ) (n : ℕ) → length a ≡ n → Whole f
    → a ++ join (places_of (dead_of f ++ is)) ≡ zeroed_from (length f) n (a ++ join (f ++ places_of is))
kill_run [] is a n l w = refl
kill_run (p ∷ f) is a n l w =
    let k = zeroed_long p in let h = w.0 in
    sym (append_assoc a (zeroed p) (join (places_of (dead_of f ++ is))))
    ∙ kill_run f is (a ++ zeroed p) (n + 512) (length-append a (zeroed p) ∙ (let z : length a + length (zeroed p) ≡ n + 512 = omega arith in z)) w.1
    ∙ ap (zeroed_from (length f) (n + 512)) (sym (kill_one a p (join (f ++ places_of is)) n l w.0))

drop_from : (fault : Judgement) (ℓ : ℕ) (is : List Item) (a : List ℕ) (p n : ℕ) → length a ≡ 512 * p → Good fault is → Somes is → proper_in is ≡ true → has_in ℓ is ≡ true
    → a ++ join (places_of (without ℓ is)) ≡ zeroed_from (length (find_in ℓ is)) (512 * place_in ℓ p is) (a ++ join (places_of is))
drop_from fault ℓ [] a p n l g s P h = absurd (not_both h refl)
drop_from fault ℓ (blank ∷ is) a p n l g s P h =
    sym (append_assoc a blank_place (join (places_of (without ℓ is))))
    ∙ drop_from fault ℓ is (a ++ blank_place) (p + 1 + 0) n (length-append a blank_place ∙ (let e = blank_length in let z : length a + length blank_place ≡ 512 * (p + 1 + 0) = omega arith in z)) g.1 s P h
    ∙ ap (zeroed_from (length (find_in ℓ is)) (512 * place_in ℓ (p + 1 + 0) is)) (append_assoc a blank_place (join (places_of is)))
drop_from fault ℓ (dead q ∷ is) a p n l g s P h =
    sym (append_assoc a q (join (places_of (without ℓ is))))
    ∙ drop_from fault ℓ is (a ++ q) (p + 1 + 0) n (length-append a q ∙ (let e = g.0.0 in let z : length a + length q ≡ 512 * (p + 1 + 0) = omega arith in z)) g.1 s P h
    ∙ ap (zeroed_from (length (find_in ℓ is)) (512 * place_in ℓ (p + 1 + 0) is)) (append_assoc a q (join (places_of is)))
drop_from fault ℓ (filed m f ∷ is) a p n l g s P h = go (eqb m ℓ) refl (drop_from fault ℓ is (a ++ join f) (p + 1 + (length f - 1)) n)
  where
    go : (t : Bool) → eqb m ℓ ≡ t
        → (length (a ++ join f) ≡ 512 * (p + 1 + (length f - 1)) → Good fault is → Somes is → proper_in is ≡ true → has_in ℓ is ≡ true
        → (a ++ join f) ++ join (places_of (without ℓ is)) ≡ zeroed_from (length (find_in ℓ is)) (512 * place_in ℓ (p + 1 + (length f - 1)) is) ((a ++ join f) ++ join (places_of is)))
        → a ++ join (places_of (kept_of ℓ m f ++ without ℓ is))
        ≡ zeroed_from (length (if eqb m ℓ then f else find_in ℓ is)) (512 * (if eqb m ℓ then p else place_in ℓ (p + 1 + (length f - 1)) is)) (a ++ join (f ++ places_of is))
    go true q r =
        let u : has_in ℓ is ≡ false = ap (λ (x : ℕ). has_in x is) (sym (eqb-true m ℓ q)) ∙ not-true (has_in m is) (and_l (not (has_in m is)) (proper_in is) P) in
        ap (λ (x : List Item). a ++ join (places_of (x ++ without ℓ is))) (kept_is ℓ m f true q)
        ∙ ap (λ (x : List Item). a ++ join (places_of (dead_of f ++ x))) (without_same ℓ is u)
        ∙ kill_run f is a (512 * p) l g.0.0
        ∙ sym (ap (λ (x : List (List ℕ)). zeroed_from (length x) (512 * (if eqb m ℓ then p else place_in ℓ (p + 1 + (length f - 1)) is)) (a ++ join (f ++ places_of is))) (if_true (eqb m ℓ) f (find_in ℓ is) q)
        ∙ ap (λ (x : ℕ). zeroed_from (length f) (512 * x) (a ++ join (f ++ places_of is))) (if_true (eqb m ℓ) p (place_in ℓ (p + 1 + (length f - 1)) is) q))
    go false q r =
        let j = join_length f g.0.0 in
        let k = s.0 in
        let y : (W : List (List ℕ)) → a ++ join (f ++ W) ≡ (a ++ join f) ++ join W = λ (W : List (List ℕ)). ap (λ (x : List ℕ). a ++ x) (join_append f W) ∙ sym (append_assoc a (join f) (join W)) in
        ap (λ (x : List Item). a ++ join (places_of (x ++ without ℓ is))) (kept_is ℓ m f false q)
        ∙ y (places_of (without ℓ is))
        ∙ r (length-append a (join f) ∙ (let z : length a + length (join f) ≡ 512 * (p + 1 + (length f - 1)) = omega arith in z)) g.1 s.1 (and_r (not (has_in m is)) (proper_in is) P) (sym (ap (λ (x : Bool). x || has_in ℓ is) q) ∙ h)
        ∙ ap (zeroed_from (length (find_in ℓ is)) (512 * place_in ℓ (p + 1 + (length f - 1)) is)) (sym (y (places_of is)))
        ∙ sym (ap (λ (x : List (List ℕ)). zeroed_from (length x) (512 * (if eqb m ℓ then p else place_in ℓ (p + 1 + (length f - 1)) is)) (a ++ join (f ++ places_of is))) (if_false (eqb m ℓ) f (find_in ℓ is) q)
        ∙ ap (λ (x : ℕ). zeroed_from (length (find_in ℓ is)) (512 * x) (a ++ join (f ++ places_of is))) (if_false (eqb m ℓ) p (place_in ℓ (p + 1 + (length f - 1)) is) q))
drop_from fault ℓ (junk q ∷ is) a p n l g s P h = absurd g.0

module _ (fault : Judgement) (R : Reader fault) (N : ℕ) where
  -- a drop: 00H over the first byte of each of its blocks, nothing else
  pub drop_bytes : (ℓ : ℕ) (main : List ℕ) → Proper fault N main → has_in ℓ (items_in fault main) ≡ true
      → drop_of fault ℓ main ≡ zeroed_from (length (find_in ℓ (items_in fault main))) (512 * place_in ℓ 0 (items_in fault main)) main
  unfolding drop_of
  drop_bytes ℓ main P h =
      let r = proper_read fault R N main P in
      let I = items_in fault main in
      drop_from fault ℓ I [] 0 0 refl r.good (good_somes fault R I r.good) r.once h ∙ ap (zeroed_from (length (find_in ℓ I)) (512 * place_in ℓ 0 I)) r.back

  pub drop_nothing : (ℓ : ℕ) (main : List ℕ) → Proper fault N main → has_in ℓ (items_in fault main) ≡ false → drop_of fault ℓ main ≡ main
  unfolding drop_of
  drop_nothing ℓ main P h = ap (λ (x : List Item). join (places_of x)) (without_same ℓ (items_in fault main) h) ∙ (proper_read fault R N main P).back

  -- the run is looked for in the block as it stands
  pub run_here : (ℓ : ℕ) (b main : List ℕ) → Proper fault N main → fault ℓ b ≡ 0 → run_for ℓ (places_in b) (items_in fault main) ≡ fits_in (get_or b 2 0) (items_in fault main)
  run_here ℓ b main P z =
      let r = proper_read fault R N main P in
      let I = items_in fault main in
      let c = R.counted ℓ b z in let d = R.some ℓ b z in
      let n : length (places_in b) ≡ suc (get_or b 2 0 - 1) = cut_length (length b / 512) b ∙ (let q : length b / 512 ≡ suc (get_or b 2 0 - 1) = omega arith in q) in
      ap (λ (k : ℕ). fits_in k (without ℓ I)) n ∙ fits_same ℓ (get_or b 2 0 - 1) I (good_somes fault R I r.good) ∙ ap (λ (k : ℕ). fits_in k I) (let q : suc (get_or b 2 0 - 1) ≡ get_or b 2 0 = omega arith in q)

  -- an add without slide: the drop, then the file over the first long enough run
  pub add_bytes : (ℓ : ℕ) (b main : List ℕ) → Proper fault N main → fault ℓ b ≡ 0 → run_for ℓ (places_in b) (items_in fault main) ≡ true
      → add_of fault ℓ b main ≡ overlaid (drop_of fault ℓ main) (512 * start_in (get_or b 2 0) 0 (items_in fault main)) b
  unfolding add_of added_in drop_of
  add_bytes ℓ b main P z h =
      let r = proper_read fault R N main P in
      let I = items_in fault main in
      let W = without ℓ I in
      let f = places_in b in
      let s = good_somes fault R I r.good in
      let gw = without_good fault ℓ I r.good in
      let c = R.counted ℓ b z in let d = R.some ℓ b z in
      let e : length b ≡ 512 * (length b / 512) = omega arith in
      let j : join f ≡ b = join_cut (length b / 512) b e in
      let n : length f ≡ suc (get_or b 2 0 - 1) = cut_length (length b / 512) b ∙ (let q : length b / 512 ≡ suc (get_or b 2 0 - 1) = omega arith in q) in
      let y : suc (get_or b 2 0 - 1) ≡ get_or b 2 0 = omega arith in
      let S = start_in (length f) 0 W in
      let t : S ≡ start_in (get_or b 2 0) 0 I = ap (λ (k : ℕ). start_in k 0 W) n ∙ start_same ℓ (get_or b 2 0 - 1) 0 I s ∙ ap (λ (k : ℕ). start_in k 0 I) y in
      let X = places_of W in
      let w : Whole X = good_whole fault W gw in
      let L = laid_in ℓ f W in
      let v : 512 * (S + length f) ≡ 512 * S + length b = omega arith in
      ap (λ (x : List Item). join (places_of x)) (if_true (run_for ℓ f I) L (slid_in (length main / 512) ℓ f W) h)
      ∙ ap join (laid_places ℓ f W [] 0 refl (good_somes fault R W gw) h)
      ∙ join_append (take S X) (f ++ drop (S + length f) X)
      ∙ ap (λ (x : List ℕ). x ++ join (f ++ drop (S + length f) X)) (join_take S X w)
      ∙ ap (λ (x : List ℕ). take (512 * S) (join X) ++ x) (join_append f (drop (S + length f) X) ∙ ap (λ (x : List ℕ). x ++ join (drop (S + length f) X)) j ∙ ap (λ (x : List ℕ). b ++ x) (join_drop (S + length f) X w ∙ ap (λ (k : ℕ). drop k (join X)) v ∙ sym (drop-drop (length b) (512 * S) (join X))))
      ∙ ap (λ (k : ℕ). overlaid (join X) (512 * k) b) t
