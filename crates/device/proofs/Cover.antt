-- Laws of flash blocks, for any list of lengths.
use mathlib.Core.Path.{◌≡◌, refl, ap, ◌∙◌}
use mathlib.Core.Bool.{Bool, true, false}
use mathlib.Core.List.{List, [], ◌∷◌}
use Prim.Native.Nat.{ℕ, zero, suc, ◌+◌, ◌-◌, ◌≤◌, ◌<◌, min}
use native.Mathlib.Nat.{le_of_suc-le-suc, not-suc-le-zero}
use native.Mathlib.Omega.{arith}
use native.Mathlib.Numerals.{add-one}
use lib.ListN.{length, take, drop, length-drop}
use lib.Seq.{take_all}
use Rattle.std.proofs.lemmas.List.{take_min, drop_min}
use lib.Dec.{ltb}
use borrow.Author.Tests.{ltb-true, ltb-false, lt-ltb, le-ltb}
use Rattle.device.specs.Blocks.{units_of_all, length_at, offset_at, holder, Lies}

-- past the last block lies the whole array
pub offset_past : (ls : List ℕ) (k : ℕ) → length ls ≤ k → offset_at ls k ≡ units_of_all ls
offset_past [] k h = refl
offset_past (l ∷ ls) zero h = absurd (not-suc-le-zero h)
offset_past (l ∷ ls) (suc k) h = ap (λ (x : ℕ). l + x) (offset_past ls k (le_of_suc-le-suc h))

-- what lies before block k is what the first k blocks have together
pub before : (ls : List ℕ) (k : ℕ) → units_of_all (take k ls) ≡ offset_at ls k
before [] zero = refl
before [] (suc k) = refl
before (l ∷ ls) zero = refl
before (l ∷ ls) (suc k) = ap (λ (x : ℕ). l + x) (before ls k)

-- .. where there are no more blocks than k, all of them
pub before_least : (ls : List ℕ) (k : ℕ) → units_of_all (take (min k (length ls)) ls) ≡ offset_at ls k
before_least ls k = ap units_of_all (take_min k ls) ∙ before ls k

-- what lies behind block k is what the blocks after it have together
pub after : (ls : List ℕ) (k : ℕ) → offset_at ls k + length_at ls k + units_of_all (drop (suc k) ls) ≡ units_of_all ls
after [] k = refl
after (l ∷ ls) zero = omega arith
after (l ∷ ls) (suc k) = let h = after ls k in omega arith

-- .. none of them where there are no more blocks than k
pub after_least : (ls : List ℕ) (k : ℕ) → units_of_all (take (length ls - min (k + 1) (length ls)) (drop (min (k + 1) (length ls)) ls)) ≡ units_of_all ls - offset_at ls k - length_at ls k
after_least ls k =
    let t = take_all (length ls - min (k + 1) (length ls)) (drop (min (k + 1) (length ls)) ls) (omega (arith, length-drop (min (k + 1) (length ls)) ls)) in
    ap units_of_all (t ∙ drop_min (k + 1) ls) ∙ ap (λ (n : ℕ). units_of_all (drop n ls)) (add-one k) ∙ omega (arith, after ls k)

-- every block ends inside the array
pub ends_inside : (ls : List ℕ) (k : ℕ) → offset_at ls k + length_at ls k ≤ units_of_all ls
ends_inside [] k = omega arith
ends_inside (l ∷ ls) zero = omega arith
ends_inside (l ∷ ls) (suc k) = omega (arith, ends_inside ls k)

-- behind the last block, and past it, lies nothing
pub none_behind : (ls : List ℕ) (k : ℕ) → length ls ≤ k + 1 → units_of_all ls ≤ offset_at ls k + length_at ls k
none_behind [] k h = omega arith
none_behind (l ∷ []) zero h = omega arith
none_behind (l ∷ m ∷ ls) zero h = absurd (omega arith)
none_behind (l ∷ ls) (suc k) h = omega (arith, none_behind ls k (omega arith))

-- the blocks cover the array: the block named for a place holds it
pub covered : (ls : List ℕ) (p : ℕ) → p < units_of_all ls → Lies ls (holder ls p) p
covered [] p h = absurd (not-suc-le-zero h)
covered (l ∷ ls) p h = go (ltb p l) refl (covered ls (p - l))
  where
    go : (b : Bool) → ltb p l ≡ b → (p - l < units_of_all ls → Lies ls (holder ls (p - l)) (p - l)) → Lies (l ∷ ls) (holder (l ∷ ls) p) p
    go true e rest = rw e (record { from = omega arith; to = omega (arith, ltb-true p l e) })
    go false e rest =
        let f : l ≤ p = ltb-false p l e in
        let i : Lies ls (holder ls (p - l)) (p - l) = rest (omega arith) in
        rw e (record { from = omega (arith, i.from); to = omega (arith, i.to) })

-- none overlap: a place lies in no block but the one named for it
pub alone : (ls : List ℕ) (k p : ℕ) → Lies ls k p → holder ls p ≡ k
alone [] k p h = absurd (let z : p < 0 + 0 = h.to in omega arith)
alone (l ∷ ls) zero p h = rw (lt-ltb p l (omega (arith, h.to))) refl
alone (l ∷ ls) (suc k) p h =
    rw (le-ltb p l (omega (arith, h.from)))
    (ap suc (alone ls k (p - l) (record { from = omega (arith, h.from); to = omega (arith, h.from, h.to) })))
