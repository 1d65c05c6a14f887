-- One changed byte is found out by the check of its block.
use mathlib.Core.Path.{◌≡◌, refl, sym, ◌∙◌, ap, subst}
use mathlib.Core.List.{List, [], ◌∷◌}
use mathlib.Core.Bool.{Bool, true, false, not}
use Prim.Native.Nat.{ℕ, zero, suc, ◌+◌, ◌*◌, ◌/◌, ◌%◌, ◌-◌, ◌≤◌, ◌<◌}
use native.Mathlib.Omega.{arith}
use native.Mathlib.Nat.{mul-mod_right, mul-add, mul-le-mul}
use lib.ListN.{length, get_or, take, drop, set, length-set, length-drop}
use lib.Seq.{length-take-le, take-set-lt, take-set-le, drop-set-add, get_or-set_same, get_or-set_other, get_or-take, get_or-drop}
use lib.Dec.{eqb, ltb}
use borrow.Author.Tests.{ne_eqb, eqb-true, eqb-false, ltb-true, ltb-false, not-false}
use Rattle.std.specs.Prelude.{if◌then◌else◌}
use Rattle.common.proofs.Choice.{if_true, if_false, unlike}
use Rattle.common.specs.Numbers.{given}
use Rattle.file_check.specs.Check.{wsum, check_of, check_wrong, stored_of, is_blank, is_damaged, pair}
use Rattle.file_check.proofs.Verdicts.{other_byte, not_blank}
use Rattle.file_block.specs.Block.{is_letter, letter_wrong, block_rows}
use Rattle.file_block.proofs.Tables.{Right, right, right_given, none_of_two, used_last, used_other}
use Rattle.file_codec.specs.File.{blocks_rows, blocks_in, payload_of, refused, made, length_wrong, reader_of}
use Rattle.file_codec.proofs.Outcomes.{length_right, reader_lets, reader_block}
use Rattle.common.specs.Lists.{Bytes}
use Rattle.file_claims.proofs.Bytes.{bytes_drop}

-- 65,521 has no divisor from 2 to k + 1: a test that is computed
abbrev prime_up_to : ℕ → Bool
prime_up_to zero = true
prime_up_to (suc k) = if eqb (65521 % suc (suc k)) 0 then false else prime_up_to k

no_divisor : (k w : ℕ) → prime_up_to k ≡ true → 2 ≤ w → w ≤ k + 1 → 65521 % w ≡ 0 → ⊥
no_divisor zero w t l h e = omega arith
no_divisor (suc k) w t l h e = go (eqb (65521 % suc (suc k)) 0) refl (eqb w (suc (suc k))) refl (no_divisor k w)
  where
    go : (p : Bool) → eqb (65521 % suc (suc k)) 0 ≡ p → (q : Bool) → eqb w (suc (suc k)) ≡ q
        → (prime_up_to k ≡ true → 2 ≤ w → w ≤ k + 1 → 65521 % w ≡ 0 → ⊥) → ⊥
    go true p q r rest = let x : false ≡ true = sym (if_true (eqb (65521 % suc (suc k)) 0) false (prime_up_to k) p) ∙ t in let z : ◌≡◌ {A = ℕ} 0 1 = cc in omega arith
    go false p true r rest = eqb-false (65521 % suc (suc k)) 0 p (ap (λ (x : ℕ). 65521 % x) (sym (eqb-true w (suc (suc k)) r)) ∙ e)
    go false p false r rest =
        let n : w ≡ suc (suc k) → ⊥ = eqb-false w (suc (suc k)) r in
        rest (sym (if_false (eqb (65521 % suc (suc k)) 0) false (prime_up_to k) p) ∙ t) l (omega arith) e

prime : prime_up_to 509 ≡ true
prime = refl

-- so no weight up to 510 times a difference of bytes is 65,521
no_product : (w d : ℕ) → 1 ≤ w → w ≤ 510 → d < 256 → w * d ≡ 65521 → ⊥
no_product w d l h s e = go (eqb w 1) refl
  where
    go : (t : Bool) → eqb w 1 ≡ t → ⊥
    go true q = let o : w * d ≡ 1 * d = ap (λ (x : ℕ). x * d) (eqb-true w 1 q) in omega arith
    go false q =
        let n : w ≡ 1 → ⊥ = eqb-false w 1 q in
        no_divisor 509 w prime (omega arith) (omega arith) (ap (λ (x : ℕ). x % w) (sym e) ∙ mul-mod_right w d)

-- one byte counts with its weight
pub wsum_set : (k : ℕ) (xs : List ℕ) (j v : ℕ) → j < length xs → wsum k (set xs j v) + (k + j) * get_or xs j 0 ≡ wsum k xs + (k + j) * v
wsum_set k [] j v h = absurd (omega arith)
wsum_set k (x ∷ xs) zero v h =
    let z : k + 0 ≡ k = omega arith in
    let a : (k + 0) * x ≡ k * x = ap (λ (m : ℕ). m * x) z in
    let b : (k + 0) * v ≡ k * v = ap (λ (m : ℕ). m * v) z in
    omega arith
wsum_set k (x ∷ xs) (suc j) v h =
    let r = wsum_set (suc k) xs j v (omega arith) in
    let z : k + suc j ≡ suc k + j = omega arith in
    let a : (k + suc j) * get_or xs j 0 ≡ (suc k + j) * get_or xs j 0 = ap (λ (m : ℕ). m * get_or xs j 0) z in
    let b : (k + suc j) * v ≡ (suc k + j) * v = ap (λ (m : ℕ). m * v) z in
    omega arith

-- two sums that differ by a weight times a difference of bytes have different checks
rises : (S S' w x y : ℕ) → 1 ≤ w → w ≤ 510 → y < 256 → x < y → S' + w * x ≡ S + w * y → (1 + S') % 65521 ≡ (1 + S) % 65521 → ⊥
rises S S' w x y l h s g e c =
    let d = y - x in
    let yd : y ≡ x + d = omega arith in
    let m : w * y ≡ w * x + w * d = ap (λ (z : ℕ). w * z) yd ∙ mul-add w x d in
    let up : w * d ≤ 510 * 255 = mul-le-mul h (let q : d ≤ 255 = omega arith in q) in
    let lo : 1 * 1 ≤ w * d = mul-le-mul l (let q : 1 ≤ d = omega arith in q) in
    no_product w d l h (omega arith) (omega_part S S' (w * d) up lo (omega arith) c)
  where
    omega_part : (A B t : ℕ) → t ≤ 130050 → 1 ≤ t → B ≡ A + t → (1 + B) % 65521 ≡ (1 + A) % 65521 → t ≡ 65521
    omega_part A B t up lo e c = omega arith

differ : (S S' w x y : ℕ) → 1 ≤ w → w ≤ 510 → x < 256 → y < 256 → (y ≡ x → ⊥) → S' + w * x ≡ S + w * y → (1 + S') % 65521 ≡ (1 + S) % 65521 → ⊥
differ S S' w x y l h s t n e c = go (ltb x y) refl
  where
    go : (p : Bool) → ltb x y ≡ p → ⊥
    go true q = rises S S' w x y l h t (ltb-true x y q) e c
    go false q = let k : y ≤ x = ltb-false x y q in rises S' S w y x l h s (omega arith) (sym e) (sym c)

-- a block with one byte changed no longer agrees with its check
module _ (b : List ℕ) (j v : ℕ) (long : length b ≡ 512) (h : j < 512) (bytes : (k : ℕ) → k < 512 → get_or b k 0 < 256)
    (good : check_wrong b ≡ false) (byte : v < 256) (other : v ≡ get_or b j 0 → ⊥) where
  agreed : check_of (take 510 b) ≡ stored_of b
  unfolding check_wrong
  agreed = eqb-true _ _ (not-false _ good)

  -- in the first 510 bytes: the sum moves, the check that is carried stays
  in_front : j < 510 → check_of (take 510 (set b j v)) ≡ stored_of (set b j v) → ⊥
  unfolding check_of
  in_front k e =
      let xs = take 510 b in
      let l : length xs ≡ 510 = length-take-le 510 b (omega arith) in
      let t : take 510 (set b j v) ≡ set xs j v = take-set-lt 510 b j v k in
      let a : get_or (set b j v) 510 0 ≡ get_or b 510 0 = get_or-set_other b j 510 v 0 (λ (q : 510 ≡ j). (omega arith)) in
      let c : get_or (set b j v) 511 0 ≡ get_or b 511 0 = get_or-set_other b j 511 v 0 (λ (q : 511 ≡ j). (omega arith)) in
      let s : stored_of (set b j v) ≡ stored_of b = (λ i. pair (a i) (c i)) in
      let o : get_or xs j 0 ≡ get_or b j 0 = get_or-take 510 b j 0 k in
      let w = wsum_set 1 xs j v (omega arith) in
      let same : (1 + wsum 1 (set xs j v)) % 65521 ≡ (1 + wsum 1 xs) % 65521 = ap (λ (y : List ℕ). (1 + wsum 1 y) % 65521) (sym t) ∙ e ∙ s ∙ sym agreed in
      differ (wsum 1 xs) (wsum 1 (set xs j v)) (1 + j) (get_or xs j 0) v (omega arith) (omega arith)
      (subst (λ (y : ℕ). y < 256) (sym o) (bytes j h)) byte (λ (q : v ≡ get_or xs j 0). other (q ∙ o)) w same

  -- in the check itself: the sum stays, what is carried moves
  in_check : 510 ≤ j → check_of (take 510 (set b j v)) ≡ stored_of (set b j v) → ⊥
  in_check k e = go (eqb j 510) refl
    where
      s : stored_of b ≡ stored_of (set b j v)
      s = sym agreed ∙ ap check_of (sym (take-set-le 510 b j v k)) ∙ e

      here : get_or (set b j v) j 0 ≡ v
      here = get_or-set_same b j v 0 (omega arith)

      go : (t : Bool) → eqb j 510 ≡ t → ⊥
      go true q =
          let i : j ≡ 510 = eqb-true j 510 q in
          let a : get_or (set b j v) 510 0 ≡ v = ap (λ (m : ℕ). get_or (set b j v) m 0) (sym i) ∙ here in
          let c : get_or (set b j v) 511 0 ≡ get_or b 511 0 = get_or-set_other b j 511 v 0 (λ (z : 511 ≡ j). (omega arith)) in
          other (let z : v ≡ get_or b 510 0 = omega (arith, s) in z ∙ ap (λ (m : ℕ). get_or b m 0) (sym i))
      go false q =
          let n : j ≡ 510 → ⊥ = eqb-false j 510 q in
          let i : j ≡ 511 = omega arith in
          let a : get_or (set b j v) 511 0 ≡ v = ap (λ (m : ℕ). get_or (set b j v) m 0) (sym i) ∙ here in
          let c : get_or (set b j v) 510 0 ≡ get_or b 510 0 = get_or-set_other b j 510 v 0 (λ (z : 510 ≡ j). (omega arith)) in
          other (let z : v ≡ get_or b 511 0 = omega (arith, s) in z ∙ ap (λ (m : ℕ). get_or b m 0) (sym i))

  pub found_out_lem : check_wrong (set b j v) ≡ true
  unfolding check_wrong
  found_out_lem = ap not (ne_eqb _ _ (λ (e : check_of (take 510 (set b j v)) ≡ stored_of (set b j v)). (go (ltb j 510) refl e)))
    where
      go : (t : Bool) → ltb j 510 ≡ t → check_of (take 510 (set b j v)) ≡ stored_of (set b j v) → ⊥
      go true q e = in_front (ltb-true j 510 q) e
      go false q e = in_check (ltb-false j 510 q) e

-- a right block's letter is not FFH, nor is the high byte of its used count
not_ff : (first i n : ℕ) (b : List ℕ) → Right first i n b → (get_or b 0 0 ≡ 255 → ⊥) × (get_or b 3 0 ≡ 255 → ⊥)
unfolding letter_wrong is_letter
not_ff first i n b r = (letter, used (eqb (i + 1) n) refl)
  where
    letter : get_or b 0 0 ≡ 255 → ⊥
    letter e =
        let l = none_of_two (not (is_letter (get_or b 0 0))) (not (eqb (get_or b 0 0) first)) r.letter in
        unlike (sym (not-false (is_letter (get_or b 0 0)) l.0) ∙ ap is_letter e)

    used : (t : Bool) → eqb (i + 1) n ≡ t → get_or b 3 0 ≡ 255 → ⊥
    used true q e = let u = (used_last i n b (eqb-true _ _ q) r.used).1 in omega arith
    used false q e = let u = used_other i n b (eqb-false _ _ q) r.used in omega arith

-- so with one byte changed it is still not blank
still_not_blank : (first i n : ℕ) (b : List ℕ) → Right first i n b → (k v : ℕ) → is_blank (set b k v) ≡ false
still_not_blank first i n b r k v = go (eqb k 0) refl
  where
    o : (get_or b 0 0 ≡ 255 → ⊥) × (get_or b 3 0 ≡ 255 → ⊥)
    o = not_ff first i n b r

    go : (t : Bool) → eqb k 0 ≡ t → is_blank (set b k v) ≡ false
    go true q =
        let z : k ≡ 0 = eqb-true k 0 q in
        other_byte (set b k v) 3 (omega arith) (λ (e : get_or (set b k v) 3 0 ≡ 255). o.1 (sym (get_or-set_other b k 3 v 0 (λ (y : 3 ≡ k). (omega arith))) ∙ e))
    go false q =
        let z : k ≡ 0 → ⊥ = eqb-false k 0 q in
        other_byte (set b k v) 0 (omega arith) (λ (e : get_or (set b k v) 0 0 ≡ 255). o.0 (sym (get_or-set_other b k 0 v 0 (λ (y : 0 ≡ k). z (sym y))) ∙ e))

-- in a walk over right blocks: a byte of the first one, whatever the first block's letter is then
at_first : (left first other i n : ℕ) (f : List ℕ) (k v : ℕ) → 512 ≤ length f → k < 512 → Bytes f → given (blocks_rows (suc left) first i n f []) ≡ 0 → v < 256
    → (v ≡ get_or f k 0 → ⊥) → given (blocks_rows (suc left) other i n (set f k v) []) ≡ 31
at_first left first other i n f k v l h bytes g byte z =
    let B = take 512 f in
    let r = (right first i n B (blocks_rows left first (i + 1) n (drop 512 f) []) g).0 in
    let t : take 512 (set f k v) ≡ set B k v = take-set-lt 512 f k v h in
    let o : get_or B k 0 ≡ get_or f k 0 = get_or-take 512 f k 0 h in
    let w : check_wrong (take 512 (set f k v)) ≡ true =
    ap check_wrong t
    ∙ found_out_lem B k v (length-take-le 512 f l) h (λ (m : ℕ) (q : m < 512). subst (λ (y : ℕ). y < 256) (sym (get_or-take 512 f m 0 q)) (bytes m)) r.check byte (λ (q : v ≡ get_or B k 0). z (q ∙ o)) in
    let u : is_blank (take 512 (set f k v)) ≡ false = ap is_blank t ∙ still_not_blank first i n B r k v in
    if_false (is_blank (take 512 (set f k v))) 38 _ u ∙ if_true (is_damaged (take 512 (set f k v))) 31 _ (not_blank (take 512 (set f k v)) u w)

-- or of any later one: those before it stay right
in_walk : (left first i n : ℕ) (f : List ℕ) (k v : ℕ) → length f ≡ 512 * left → k < 512 * left → Bytes f → given (blocks_rows left first i n f []) ≡ 0 → v < 256
    → (v ≡ get_or f k 0 → ⊥) → given (blocks_rows left first i n (set f k v) []) ≡ 31
in_walk zero first i n f k v l h bytes g byte z = absurd (omega arith)
in_walk (suc left) first i n f k v l h bytes g byte z = go (ltb k 512) refl (in_walk left first (i + 1) n (drop 512 f) (k - 512) v)
  where
    go : (t : Bool) → ltb k 512 ≡ t
        → (length (drop 512 f) ≡ 512 * left → k - 512 < 512 * left → Bytes (drop 512 f) → given (blocks_rows left first (i + 1) n (drop 512 f) []) ≡ 0 → v < 256
        → (v ≡ get_or (drop 512 f) (k - 512) 0 → ⊥) → given (blocks_rows left first (i + 1) n (set (drop 512 f) (k - 512) v) []) ≡ 31)
        → given (blocks_rows (suc left) first i n (set f k v) []) ≡ 31
    go true q rest = at_first left first first i n f k v (omega arith) (ltb-true k 512 q) bytes g byte z
    go false q rest =
        let a : 512 ≤ k = ltb-false k 512 q in
        let B = take 512 f in
        let R = right first i n B (blocks_rows left first (i + 1) n (drop 512 f) []) g in
        let e : 512 + (k - 512) ≡ k = omega arith in
        let t : take 512 (set f k v) ≡ B = take-set-le 512 f k v a in
        let d : drop 512 (set f k v) ≡ set (drop 512 f) (k - 512) v = ap (λ (m : ℕ). drop 512 (set f m v)) (sym e) ∙ drop-set-add 512 f (k - 512) v in
        let o : get_or (drop 512 f) (k - 512) 0 ≡ get_or f k 0 = get_or-drop 512 f (k - 512) 0 ∙ ap (λ (m : ℕ). get_or f m 0) e in
        let lD : length (drop 512 f) ≡ 512 * left = length-drop 512 f ∙ (let x : length f - 512 ≡ 512 * left = omega arith in x) in
        ap (λ (y : List ℕ). given (block_rows first i n y (blocks_rows left first (i + 1) n (drop 512 (set f k v)) []))) t
        ∙ right_given first i n B (blocks_rows left first (i + 1) n (drop 512 (set f k v)) []) R.0
        ∙ ap (λ (y : List ℕ). given (blocks_rows left first (i + 1) n y [])) d
        ∙ rest lD (omega arith) (bytes_drop 512 f bytes) R.1 byte (λ (y : v ≡ get_or (drop 512 f) (k - 512) 0). z (y ∙ o))

-- a file that is read, with one byte changed, is refused 31 for every letter asked
pub damaged : (most ℓ : ℕ) (f p : List ℕ) → Bytes f → reader_of most f ℓ ≡ made p
    → (k v : ℕ) → k < length f → v < 256 → (v ≡ get_or f k 0 → ⊥) → (asked : ℕ) → reader_of most (set f k v) asked ≡ refused 31
damaged most ℓ f p bytes e k v h byte z asked =
    reader_block most (set f k v) asked (ap (length_wrong most) (length-set f k v) ∙ o.0) 31 (sym walk) (λ (q : 31 ≡ 0). (omega arith))
  where
    o : (length_wrong most (length f) ≡ false) × (given (blocks_rows (blocks_in f) (get_or f 0 0) 0 (blocks_in f) f []) ≡ 0) × (get_or f 0 0 ≡ ℓ) × (payload_of (blocks_in f) f ≡ p)
    o = reader_lets most f ℓ p e

    n : ℕ
    n = blocks_in f

    g : given (blocks_rows (blocks_in f) (get_or f 0 0) 0 (blocks_in f) f []) ≡ 0
    g = o.1

    r : (length f ≡ 512 * (length f / 512)) × (0 < length f / 512) × (length f / 512 ≤ most)
    r = length_right most (length f) o.0

    same : blocks_in (set f k v) ≡ blocks_in f
    same = ap (λ (m : ℕ). m / 512) (length-set f k v)

    by : (t : Bool) → ltb k 512 ≡ t → given (blocks_rows (blocks_in f) (get_or (set f k v) 0 0) 0 (blocks_in f) (set f k v) []) ≡ 31
    by true q =
        let s : blocks_in f ≡ suc (blocks_in f - 1) = omega (arith, r.1) in
        ap (λ (m : ℕ). given (blocks_rows m (get_or (set f k v) 0 0) 0 (blocks_in f) (set f k v) [])) s
        ∙ at_first (blocks_in f - 1) (get_or f 0 0) (get_or (set f k v) 0 0) 0 (blocks_in f) f k v (omega (arith, r.0, r.1)) (ltb-true k 512 q) bytes
        (ap (λ (m : ℕ). given (blocks_rows m (get_or f 0 0) 0 (blocks_in f) f [])) (sym s) ∙ g) byte z
    by false q =
        let a : 512 ≤ k = ltb-false k 512 q in
        let x : get_or (set f k v) 0 0 ≡ get_or f 0 0 = get_or-set_other f k 0 v 0 (λ (y : 0 ≡ k). (omega arith)) in
        ap (λ (m : ℕ). given (blocks_rows (blocks_in f) m 0 (blocks_in f) (set f k v) [])) x
        ∙ in_walk (blocks_in f) (get_or f 0 0) 0 (blocks_in f) f k v r.0 (omega (arith, r.0)) bytes g byte z

    walk : given (blocks_rows (blocks_in (set f k v)) (get_or (set f k v) 0 0) 0 (blocks_in (set f k v)) (set f k v) []) ≡ 31
    walk = ap (λ (m : ℕ). given (blocks_rows m (get_or (set f k v) 0 0) 0 m (set f k v) [])) same ∙ by (ltb k 512) refl
