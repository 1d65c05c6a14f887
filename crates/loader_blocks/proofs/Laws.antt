-- One round of each walk over a block, and what it comes to.
use mathlib.Core.Path.{◌≡◌, refl, sym, ap, ◌∙◌, subst}
use mathlib.Core.Bool.{Bool, true, false, not, ◌||◌}
use mathlib.Core.List.{List, [], ◌∷◌}
use mathlib.Core.Logic.{◌⊎◌, inl, inr}
use Prim.Native.Nat.{ℕ, zero, suc, min, ◌+◌, ◌-◌, ◌*◌, ◌≤◌, ◌<◌}
use native.Mathlib.Omega.{arith}
use native.Mathlib.Nat.{not-suc-le-zero, le_of_suc-le-suc, add-mul, one-mul, zero-mul}
use lib.ListN.{length, get_or, set, take, drop, replicate, length-replicate, get_or-replicate}
use lib.Seq.{length-take-le, get_or-append-add, get_or-drop, get_or-take}
use borrow.Rule.Slice.PartMut.{mid_of}
use lib.Dec.{eqb, ltb}
use lib.Bits.{bit_and, bit_or, bit_xor, and_le_l, and_le_r, or_add_and, xor_add_and, xor_self}
use borrow.Author.Tests.{lt-ltb, le-ltb, eq-eqb, ne_eqb, eqb-true, eqb-false, not-false}
use Rattle.std.proofs.lemmas.Bool.{cases_lt}
use Rattle.std.specs.Int.{from_bool}
use Rattle.std.specs.List.{fold, zip, range_with_len}
use Rattle.std.specs.Prelude.{if◌then◌else◌}
use Rattle.common.proofs.Choice.{if_true, if_false, if_ind, or_left, or_right}
use Rattle.common.specs.Lists.{overwritten, Bytes}
use Rattle.common.proofs.Lists.{overwritten_more}
use Rattle.model_types.specs.Cells.{ones}
use Rattle.model_types.proofs.Ones.{and_ones}
use Rattle.loader_walk.specs.Walks.{must_rise, rises, rises_in, next_diff, diff_from}
use Rattle.loader_blocks.specs.Blocks.{costs, read_to, Falling}

-- the bits that must rise, gathered: none is there exactly where none was and no bit of the next unit must rise
module _ (a h w : ℕ) where
  pub gathered : not (eqb (bit_or a (bit_xor (bit_and h w) w)) 0) ≡ (not (eqb a 0) || must_rise h w)
  gathered = go (eqb a 0) refl (eqb (bit_and h w) w) refl
    where
      go : (s : Bool) → eqb a 0 ≡ s → (t : Bool) → eqb (bit_and h w) w ≡ t → not (eqb (bit_or a (bit_xor (bit_and h w) w)) 0) ≡ (not (eqb a 0) || not (eqb (bit_and h w) w))
      go true e true f =
          let x : bit_xor (bit_and h w) w ≡ 0 = ap (λ (y : ℕ). bit_xor y w) (eqb-true (bit_and h w) w f) ∙ xor_self w in
          let y : bit_or a (bit_xor (bit_and h w) w) ≡ 0 = (λ i. bit_or (eqb-true a 0 e i) (x i)) in
          rw (e, f) (ap not (eq-eqb (bit_or a (bit_xor (bit_and h w) w)) 0 y))
      go true e false f =
          rw (e, f) (ap not (ne_eqb (bit_or a (bit_xor (bit_and h w) w)) 0 (λ (q : bit_or a (bit_xor (bit_and h w) w) ≡ 0).
          let m = or_add_and a (bit_xor (bit_and h w) w) in
          let n = and_le_r a (bit_xor (bit_and h w) w) in
          let n' = and_le_l a (bit_xor (bit_and h w) w) in
          let x = xor_add_and (bit_and h w) w in
          let y = and_le_l (bit_and h w) w in
          let y' = and_le_r (bit_and h w) w in
          eqb-false (bit_and h w) w f (omega arith))))
      go false e t f =
          rw e (ap not (ne_eqb (bit_or a (bit_xor (bit_and h w) w)) 0 (λ (q : bit_or a (bit_xor (bit_and h w) w) ≡ 0).
          let m = or_add_and a (bit_xor (bit_and h w) w) in
          let n' = and_le_r a (bit_xor (bit_and h w) w) in
          eqb-false a 0 e (omega arith))))

pub or_three : (x y z : Bool) → ((x || y) || z) ≡ (x || (y || z))
or_three true y z = refl
or_three false y z = refl

pub or_none : (x : Bool) → (x || false) ≡ x
or_none true = refl
or_none false = refl

-- a walk that has come to place i, over a list as long
module _ (w s : List ℕ) (long : length s ≡ length w) where
  here : (i : ℕ) → i < length s → get_or (overwritten i w s) i 0 ≡ get_or s i 0
  here i h =
      subst (λ (m : ℕ). get_or (overwritten i w s) m 0 ≡ get_or (drop i s) 0 0) (let q : length (take i w) + 0 ≡ i = (let t = length-take-le i w (omega arith) in omega arith) in q)
      (get_or-append-add (take i w) (drop i s) 0 0)
      ∙ get_or-drop i s 0 0
      ∙ ap (λ (m : ℕ). get_or s m 0) (let q : i + 0 ≡ i = omega arith in q)

  -- the ones that both have, where they are the wanted unit, are the walk one place on
  pub bits_more : (i : ℕ) → i < length s → bit_and (get_or s i 0) (get_or w i 0) ≡ get_or w i 0
      → set (overwritten i w s) i (bit_and (get_or (overwritten i w s) i 0) (get_or w i 0)) ≡ overwritten (i + 1) w s
  bits_more i h f =
      ap (λ (x : ℕ). set (overwritten i w s) i x) (ap (λ (x : ℕ). bit_and x (get_or w i 0)) (here i h) ∙ f)
      ∙ overwritten_more w s i (omega arith) h

pub costs_over : (n each i : ℕ) (w s : List ℕ) → n ≤ i → costs (n - i) each i w s ≡ 0
costs_over n each i w s h = ap (λ (k : ℕ). costs k each i w s) (let e : n - i ≡ 0 = omega arith in e)

-- programs of `each` cycles cost as many times that as there are units that differ
pub costs_each : (k each i : ℕ) (w s : List ℕ) → costs k each i w s ≡ costs k 1 i w s * each
costs_each zero each i w s = sym (zero-mul each)
costs_each (suc k) each i w s =
    let t = eqb (get_or s i 0) (get_or w i 0) in
    let one : (if t then 0 else each) ≡ (if t then 0 else 1) * each = if_ind (λ (n : ℕ). (if t then 0 else each) ≡ n * each) t 0 1 (λ e. if_true t 0 each e ∙ sym (zero-mul each)) (λ e. if_false t 0 each e ∙ sym (one-mul each)) in
    (λ j. one j + costs_each k each (i + 1) w s j) ∙ sym (add-mul (if t then 0 else 1) (costs k 1 (i + 1) w s) each)

-- a walk that begins one place later, over lists with one more in front
costs_shift : (k i x y : ℕ) (w s : List ℕ) → costs k 1 (suc i) (x ∷ w) (y ∷ s) ≡ costs k 1 i w s
costs_shift zero i x y w s = refl
costs_shift (suc k) i x y w s =
    let e : suc i + 1 ≡ suc (i + 1) = omega arith in
    ap (λ (n : ℕ). (if eqb (get_or s i 0) (get_or w i 0) then 0 else 1) + n) (ap (λ (j : ℕ). costs k 1 j (x ∷ w) (y ∷ s)) e ∙ costs_shift k (i + 1) x y w s)

-- .. from the front
costs_first : (k x y : ℕ) (w s : List ℕ) → costs (suc k) 1 0 (x ∷ w) (y ∷ s) ≡ (if eqb y x then 0 else 1) + costs k 1 0 w s
costs_first k x y w s = ap (λ (n : ℕ). (if eqb y x then 0 else 1) + n) (costs_shift k 0 x y w s)

-- one for each pair that differs
abbrev pub one : ℕ × ℕ → ℕ
one p = from_bool (not (eqb p.1 p.0))

one_is : (x y : ℕ) → one (x, y) ≡ (if eqb y x then 0 else 1)
one_is x y = go (eqb y x)
  where
    go : (b : Bool) → from_bool (not b) ≡ (if b then 0 else 1)
    go true = refl
    go false = refl

-- .. added up
pub costs_pairs : (a : ℕ) (w s : List ℕ) → length s ≡ length w → fold (λ (n : ℕ) (p : ℕ × ℕ). n + one p) a (zip w s) ≡ a + costs (length w) 1 0 w s
costs_pairs a [] [] l = omega arith
costs_pairs a [] (y ∷ s) l = absurd (omega arith)
costs_pairs a (x ∷ w) [] l = absurd (omega arith)
costs_pairs a (x ∷ w) (y ∷ s) l =
    let r = costs_pairs (a + one (x, y)) w s (omega arith) in
    let f = costs_first (length w) x y w s in
    omega (arith, r, f, one_is x y)

-- one for each place where the two differ, added up
pub costs_places : (a k i : ℕ) (w s : List ℕ) → fold (λ (n j : ℕ). n + (if eqb (get_or s j 0) (get_or w j 0) then 0 else 1)) a (range_with_len i k) ≡ a + costs k 1 i w s
costs_places a zero i w s = omega arith
costs_places a (suc k) i w s =
    let r = costs_places (a + (if eqb (get_or s i 0) (get_or w i 0) then 0 else 1)) k (i + 1) w s in
    omega (arith, r)

-- what differs in a piece differs there in the whole
mid_at : (a n i : ℕ) (xs : List ℕ) → i < n → get_or (mid_of a n xs) i 0 ≡ get_or xs (a + i) 0
mid_at a n i xs h = get_or-take n (drop a xs) i 0 h ∙ get_or-drop a xs i 0

pub mid_costs : (k a n i : ℕ) (w s : List ℕ) → i + k ≤ n → costs k 1 i (mid_of a n w) (mid_of a n s) ≡ costs k 1 (a + i) w s
mid_costs zero a n i w s h = refl
mid_costs (suc k) a n i w s h =
    let l : i < n = omega arith in
    let e : a + (i + 1) ≡ a + i + 1 = omega arith in
    (λ j. (if eqb (mid_at a n i s l j) (mid_at a n i w l j) then 0 else 1) + mid_costs k a n (i + 1) w s (let z : i + 1 + k ≤ n = omega arith in z) j)
    ∙ ap (λ (m : ℕ). (if eqb (get_or s (a + i) 0) (get_or w (a + i) 0) then 0 else 1) + costs k 1 m w s) e

-- what differs in two stretches, one behind the other
pub costs_split : (a b i : ℕ) (w s : List ℕ) → costs (a + b) 1 i w s ≡ costs a 1 i w s + costs b 1 (i + a) w s
costs_split zero b i w s =
    let p : 0 + b ≡ b = omega arith in
    let q : i ≡ i + 0 = omega arith in
    let e : costs (0 + b) 1 i w s ≡ costs b 1 (i + 0) w s = (λ j. costs (p j) 1 (q j) w s) in
    let z : costs 0 1 i w s ≡ 0 = refl in
    omega arith
costs_split (suc a) b i w s =
    let r = costs_split a b (i + 1) w s in
    let p : suc a + b ≡ suc (a + b) = omega arith in
    let q : i + 1 + a ≡ i + suc a = omega arith in
    let e : costs b 1 (i + 1 + a) w s ≡ costs b 1 (i + suc a) w s = ap (λ (m : ℕ). costs b 1 m w s) q in
    let f : costs (suc a + b) 1 i w s ≡ costs (suc (a + b)) 1 i w s = ap (λ (m : ℕ). costs m 1 i w s) p in
    let x : ℕ = if eqb (get_or s i 0) (get_or w i 0) then 0 else 1 in
    let y : costs (suc (a + b)) 1 i w s ≡ x + costs (a + b) 1 (i + 1) w s = refl in
    let z : costs (suc a) 1 i w s ≡ x + costs a 1 (i + 1) w s = refl in
    omega arith

-- no more differ than there are
pub costs_few : (k i : ℕ) (w s : List ℕ) → costs k 1 i w s ≤ k
costs_few zero i w s = omega arith
costs_few (suc k) i w s =
    let m = costs_few k (i + 1) w s in
    let l : (if eqb (get_or s i 0) (get_or w i 0) then 0 else 1) ≤ 1 = if_ind (λ (n : ℕ). n ≤ 1) (eqb (get_or s i 0) (get_or w i 0)) 0 1 (λ e. omega arith) (λ e. omega arith) in
    omega arith

-- no byte costs more than 65,537
pub costs_most : (k each i : ℕ) (w s : List ℕ) → each ≤ 4294967295 → costs k each i w s ≤ k * 4294967295
costs_most zero each i w s h = omega arith
costs_most (suc k) each i w s h =
    let m = costs_most k each (i + 1) w s h in
    let l : (if eqb (get_or s i 0) (get_or w i 0) then 0 else each) ≤ 4294967295 = if_ind (λ (n : ℕ). n ≤ 4294967295) (eqb (get_or s i 0) (get_or w i 0)) 0 each (λ e. omega arith) (λ e. h) in
    omega arith

-- the units that a verify reads, where it stops and where it does not
pub read_up_to : (w h : List ℕ) (i : ℕ) → i ≡ diff_from 0 w h → i < length w → i + 1 ≡ read_to w h
unfolding read_to
read_up_to w h i e l =
    ap (λ (j : ℕ). j + 1) e ∙ sym (if_true (ltb (diff_from 0 w h) (length w)) (diff_from 0 w h + 1) (length w) (lt-ltb (diff_from 0 w h) (length w) (subst (λ (j : ℕ). j < length w) e l)))

pub read_all : (w h : List ℕ) (i : ℕ) → i ≡ diff_from 0 w h → length w ≤ i → length w ≡ read_to w h
unfolding read_to
read_all w h i e l = sym (if_false (ltb (diff_from 0 w h) (length w)) (diff_from 0 w h + 1) (length w) (le-ltb (diff_from 0 w h) (length w) (subst (λ (j : ℕ). length w ≤ j) e l)))

-- a walk ends at the last place, or before
next_most : (k i : ℕ) (w s : List ℕ) → next_diff k i w s ≤ i + k
next_most zero i w s = omega arith
next_most (suc k) i w s =
    let r = next_most k (i + 1) w s in
    if_ind (λ (n : ℕ). n ≤ i + suc k) (eqb (get_or s i 0) (get_or w i 0)) (next_diff k (i + 1) w s) i (λ e. omega arith) (λ e. omega arith)

pub diff_most : (w s : List ℕ) → diff_from 0 w s ≤ length w
unfolding diff_from
diff_most w s = let r = next_most (length w - 0) 0 w s in omega arith

-- .. in one number
pub read_least : (w h : List ℕ) → min (diff_from 0 w h + 1) (length w) ≡ read_to w h
read_least w h = go (cases_lt (diff_from 0 w h) (length w))
  where
    go : (diff_from 0 w h < length w) ⊎ (length w ≤ diff_from 0 w h) → min (diff_from 0 w h + 1) (length w) ≡ read_to w h
    go (inr l) = (let e : min (diff_from 0 w h + 1) (length w) ≡ length w = omega arith in e) ∙ read_all w h (diff_from 0 w h) refl l
    go (inl l) = (let e : min (diff_from 0 w h + 1) (length w) ≡ diff_from 0 w h + 1 = omega arith in e) ∙ read_up_to w h (diff_from 0 w h) refl l

-- where no bit must rise, every unit held keeps the bits wanted
unrisen : (n i : ℕ) (w s : List ℕ) → rises n i w s ≡ false → (j : ℕ) → j < n → must_rise (get_or s (i + j) 0) (get_or w (i + j) 0) ≡ false
unrisen zero i w s e j h = absurd (not-suc-le-zero h)
unrisen (suc n) i w s e zero h =
    subst (λ (m : ℕ). must_rise (get_or s m 0) (get_or w m 0) ≡ false) (let q : i ≡ i + 0 = omega arith in q)
    (or_left (must_rise (get_or s i 0) (get_or w i 0)) (rises n (i + 1) w s) e)
unrisen (suc n) i w s e (suc j) h =
    subst (λ (m : ℕ). must_rise (get_or s m 0) (get_or w m 0) ≡ false) (let q : i + 1 + j ≡ i + suc j = omega arith in q)
    (unrisen n (i + 1) w s (or_right (must_rise (get_or s i 0) (get_or w i 0)) (rises n (i + 1) w s) e) j (le_of_suc-le-suc h))

-- so the programs may begin
pub as_held : (h w s : List ℕ) → h ≡ s → length s ≡ length w → rises_in w s ≡ false → Falling h w
unfolding rises_in
as_held h w s same long e = record {
  long = ap (λ (x : List ℕ). length x) same ∙ long;
  falls = λ i l. ap (λ (x : List ℕ). bit_and (get_or x i 0) (get_or w i 0)) same ∙ eqb-true _ _ (not-false _ (subst (λ (m : ℕ). must_rise (get_or s m 0) (get_or w m 0) ≡ false) (let q : 0 + i ≡ i = omega arith in q) (unrisen (length w) 0 w s e i l)));
}

-- and from all ones they may
pub as_erased : (h w : List ℕ) (n : ℕ) → h ≡ replicate n 255 → n ≡ length w → Bytes w → Falling h w
unfolding ones
as_erased h w n f l bytes = record {
  long = ap (λ (x : List ℕ). length x) f ∙ length-replicate n 255 ∙ l;
  falls = λ i b. ap (λ (x : List ℕ). bit_and (get_or x i 0) (get_or w i 0)) f ∙ ap (λ (x : ℕ). bit_and x (get_or w i 0)) (get_or-replicate n i 255 0 (omega (arith, l))) ∙ and_ones (record { number = 0; word = false }) (get_or w i 0) (omega (arith, bytes i));
}

-- nothing differs from itself
never : (k i : ℕ) (us : List ℕ) → next_diff k i us us ≡ i + k
never zero i us = omega arith
never (suc k) i us = if_true (eqb (get_or us i 0) (get_or us i 0)) _ _ (eq-eqb (get_or us i 0) (get_or us i 0) refl) ∙ never k (i + 1) us ∙ (let q : i + 1 + k ≡ i + suc k = omega arith in q)

pub none_differs : (us : List ℕ) → diff_from 0 us us ≡ length us
unfolding diff_from
none_differs us = never (length us - 0) 0 us ∙ (let q : 0 + (length us - 0) ≡ length us = omega arith in q)
