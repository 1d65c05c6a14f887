-- The check's sums in four columns: what they hold stays the sums of the bytes met.
use mathlib.Core.Path.{◌≡◌, refl, sym, ◌∙◌, ap, subst}
use mathlib.Core.List.{List, ◌∷◌}
use Prim.Native.Nat.{ℕ, ◌+◌, ◌*◌, ◌%◌, ◌/◌, ◌-◌, ◌≤◌, ◌<◌, min}
use native.Mathlib.Omega.{arith}
use lib.ListN.{length, get_or, take, drop, length-drop}
use lib.Seq.{take_all}
use lib.Dec.{ltb}
use borrow.Author.Tests.{ltb-true, ltb-false}
use mathlib.Core.Bool.{Bool, true, false}
use Rattle.file_check.specs.Check.{wsum}
use Rattle.file_check.specs.Inner.{sum_of, next_of, Small, Held, From}
use Rattle.file_check.specs.declared.Columns.{Columns}
use Rattle.file_check.proofs.Walks.{from_here, running}

-- columns of at most 510 bytes are small
pub held_small : (s : Columns) (xs : List ℕ) → length xs ≤ 510 → Held s xs → Small s
held_small s xs l h =
    let f = h.few in
    let m = h.many in
    record { few = omega arith; many = omega arith }

-- every weight four more: four times the sum more
running_four : (xs : List ℕ) → wsum 5 xs ≡ wsum 1 xs + 4 * sum_of xs
running_four xs =
    let a : wsum 2 xs ≡ wsum 1 xs + sum_of xs = running 1 xs in
    let b : wsum 3 xs ≡ wsum 2 xs + sum_of xs = running 2 xs in
    let c : wsum 4 xs ≡ wsum 3 xs + sum_of xs = running 3 xs in
    let d : wsum 5 xs ≡ wsum 4 xs + sum_of xs = running 4 xs in omega arith

-- four bytes more in front
held_front : (s : Columns) (a b c d : ℕ) (xs : List ℕ) → length xs ≤ 506 → a < 256 → b < 256 → c < 256 → d < 256 → Held s xs → Held (next_of s a b c d) (a ∷ b ∷ c ∷ d ∷ xs)
held_front s a b c d xs l ka kb kc kd h =
    let e = h.sum in
    let w = h.weight in
    let f = h.few in
    let m = h.many in
    let r = running_four xs in
    record { sum = omega arith; weight = omega arith; few = omega arith; many = omega arith }

-- a list from a place on: four numbers, and the list from behind them on
four_here : (xs : List ℕ) (at : ℕ) → at + 4 ≤ length xs → drop at xs ≡ get_or xs at 0 ∷ get_or xs (at + 1) 0 ∷ get_or xs (at + 2) 0 ∷ get_or xs (at + 3) 0 ∷ drop (at + 4) xs
four_here xs at l =
    let p : at + 1 + 1 ≡ at + 2 = omega arith in
    let q : at + 2 + 1 ≡ at + 3 = omega arith in
    let r : at + 3 + 1 ≡ at + 4 = omega arith in
    from_here xs at (omega arith)
    ∙ ap (λ (z : List ℕ). get_or xs at 0 ∷ z) (from_here xs (at + 1) (omega arith) ∙ ap (λ (k : ℕ). get_or xs (at + 1) 0 ∷ drop k xs) p)
    ∙ ap (λ (z : List ℕ). get_or xs at 0 ∷ get_or xs (at + 1) 0 ∷ z) (from_here xs (at + 2) (omega arith) ∙ ap (λ (k : ℕ). get_or xs (at + 2) 0 ∷ drop k xs) q)
    ∙ ap (λ (z : List ℕ). get_or xs at 0 ∷ get_or xs (at + 1) 0 ∷ get_or xs (at + 2) 0 ∷ z) (from_here xs (at + 3) (omega arith) ∙ ap (λ (k : ℕ). get_or xs (at + 3) 0 ∷ drop k xs) r)

-- one round of the columns, by the bytes that were read
pub held_round : (s : Columns) (xs : List ℕ) (at : ℕ) → at + 4 ≤ length xs → length xs ≤ 510 → From s (at + 4) xs → {a b c d : ℕ} {r : Columns} → (a ≡ get_or xs at 0) × (a < 256) → (b ≡ get_or xs (at + 1) 0) × (b < 256) → (c ≡ get_or xs (at + 2) 0) × (c < 256) → (d ≡ get_or xs (at + 3) 0) × (d < 256) → r ≡ next_of s a b c d → From r at xs
held_round s xs at l m h {a} {b} {c} {d} {r} ea eb ec ed e =
    let n : length (drop (at + 4) xs) ≤ 506 = simp length-drop (omega arith) in
    let z : a ∷ b ∷ c ∷ d ∷ drop (at + 4) xs ≡ drop at xs = (λ i. ea.0 i ∷ eb.0 i ∷ ec.0 i ∷ ed.0 i ∷ drop (at + 4) xs) ∙ sym (four_here xs at l) in
    subst (λ (q : Columns). From q at xs) (sym e)
    record { held = subst (λ (y : List ℕ). Held (next_of s a b c d) y) z (held_front s a b c d (drop (at + 4) xs) n ea.1 eb.1 ec.1 ed.1 h.held) }

-- the same place, told otherwise
pub held_at : {s : Columns} {xs : List ℕ} {i k : ℕ} → From s i xs → i ≡ k → From s k xs
held_at {s} {xs} h e = subst (λ (k : ℕ). From s k xs) e h

-- what a shift of 32 bits keeps
kept_whole : (m : ℕ) → m < 4294967296 → m % 4294967296 ≡ m
kept_whole m h = omega arith

-- the high half is no more than sixteen times itself, shifted within 32 bits
pub high_fits : (x : ℕ) → x < 4294967296 → x / 65536 ≤ x % 65536 + x / 65536 * 16 % 4294967296
high_fits x h =
    let q : x / 65536 < 65536 = omega arith in
    let e : x / 65536 * 16 % 4294967296 ≡ x / 65536 * 16 = kept_whole (x / 65536 * 16) (omega arith) in
    subst (λ (m : ℕ). x / 65536 ≤ x % 65536 + m) (sym e) (omega arith)

-- a number folded leaves over 65,521 what it left
fold : (x y : ℕ) → y ≡ x % 65536 + 15 * (x / 65536) → y % 65521 ≡ x % 65521
fold x y e = omega arith

-- so it does folded twice, and is small then
pub folds : (x y z r : ℕ) → y ≡ x % 65536 + 15 * (x / 65536) → z ≡ y % 65536 + 15 * (y / 65536) → r ≡ z % 65521 → r ≡ x % 65521
folds x y z r e f g = g ∙ fold y z f ∙ fold x y e

pub folds_small : (x y z : ℕ) → x < 4294967296 → y ≡ x % 65536 + 15 * (x / 65536) → z ≡ y % 65536 + 15 * (y / 65536) → z < 131042
folds_small x y z h e f = omega arith

-- the first 510 bytes as the part that is handed over
pub part_first : (xs : List ℕ) (n : ℕ) → n ≡ min (length xs) 510 → take (n - 0) (drop 0 xs) ≡ take 510 xs
part_first xs n e = go (ltb 510 (length xs)) refl
  where
    go : (t : Bool) → ltb 510 (length xs) ≡ t → take (n - 0) (drop 0 xs) ≡ take 510 xs
    go true q = let l = ltb-true 510 (length xs) q in let m : n - 0 ≡ 510 = omega arith in ap (λ (k : ℕ). take k xs) m
    go false q = let l = ltb-false 510 (length xs) q in take_all (n - 0) xs (omega arith) ∙ sym (take_all 510 xs (omega arith))
