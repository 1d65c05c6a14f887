-- The laws of blocks as addresses have them, for any description and for every part.
use mathlib.Core.Path.{◌≡◌, refl}
use mathlib.Core.Bool.{Bool, true, false}
use Prim.Native.Nat.{ℕ, ◌+◌, ◌-◌, ◌≤◌, ◌<◌}
use native.Mathlib.Omega.{arith}
use lib.Dec.{lit≤}
use Rattle.std.specs.Prelude.{if◌then◌else◌}
use Rattle.common.proofs.Choice.{if_ind}
use Rattle.device.specs.Blocks.{units_of_all, length_at, offset_at, holder, Lies}
use Rattle.device.specs.Parts.{row_of, in_words, shape_of, lengths_of, size_in, length_in, offset_in, holder_in, mirrored, start_in, block_in, Holds, size_of}
use Rattle.device.specs.declared.Part.{Part}
use Rattle.device.specs.declared.Shape.{Shape}
use Rattle.device.proofs.Rows.{by_rows}
use Rattle.device.proofs.Cover.{ends_inside, covered, alone}

-- a block ends inside the array
pub fits : (s : Shape) (k : ℕ) → start_in s k + length_in s k ≤ size_in s
unfolding start_in length_in size_in offset_in
fits s k = go s.top (ends_inside (lengths_of s) k)
  where
    go : (top : Bool) → offset_at (lengths_of s) k + length_at (lengths_of s) k ≤ units_of_all (lengths_of s)
        → (if top then units_of_all (lengths_of s) - offset_at (lengths_of s) k - length_at (lengths_of s) k else offset_at (lengths_of s) k) + length_at (lengths_of s) k ≤ units_of_all (lengths_of s)
    go true h = mirror (units_of_all (lengths_of s)) (offset_at (lengths_of s) k) (length_at (lengths_of s) k) h
      where
        mirror : (n o l : ℕ) → o + l ≤ n → n - o - l + l ≤ n
        mirror n o l h = omega arith
    go false h = h

-- the block named for an address holds it
pub named : (s : Shape) (a : ℕ) → a < size_in s → Holds s (block_in s a) a
unfolding start_in length_in size_in offset_in block_in holder_in mirrored
named s a h = go s.top refl
  where
    up : (n o l p : ℕ) → o + l ≤ n → a < n → p ≡ n - 1 - a → o ≤ p → p < o + l → (n - o - l ≤ a) × (a < n - o - l + l)
    up n o l p e h q f t = (omega arith, omega arith)

    go : (top : Bool) → s.top ≡ top → Holds s (block_in s a) a
    go true e =
        let k : ℕ = holder (lengths_of s) (units_of_all (lengths_of s) - 1 - a) in
        let i : Lies (lengths_of s) k (units_of_all (lengths_of s) - 1 - a) = covered (lengths_of s) (units_of_all (lengths_of s) - 1 - a) (omega arith) in
        let r = up (units_of_all (lengths_of s)) (offset_at (lengths_of s) k) (length_at (lengths_of s) k) (units_of_all (lengths_of s) - 1 - a) (ends_inside (lengths_of s) k) h refl i.from i.to in
        record { from = rw e r.0; to = rw e r.1 }
    go false e =
        let i : Lies (lengths_of s) (holder (lengths_of s) a) a = covered (lengths_of s) a h in
        record { from = rw e i.from; to = rw e i.to }

-- and no other block does
pub sole : (s : Shape) (k a : ℕ) → Holds s k a → block_in s a ≡ k
unfolding start_in length_in size_in offset_in block_in holder_in mirrored
sole s k a h = go s.top refl h.from h.to
  where
    up : (n o l : ℕ) → o + l ≤ n → n - o - l ≤ a → a < n - o - l + l → (o ≤ n - 1 - a) × (n - 1 - a < o + l)
    up n o l e f t = (omega arith, omega arith)

    go : (top : Bool) → s.top ≡ top
        → (if s.top then units_of_all (lengths_of s) - offset_at (lengths_of s) k - length_at (lengths_of s) k else offset_at (lengths_of s) k) ≤ a
        → a < (if s.top then units_of_all (lengths_of s) - offset_at (lengths_of s) k - length_at (lengths_of s) k else offset_at (lengths_of s) k) + length_at (lengths_of s) k
        → holder (lengths_of s) (if s.top then units_of_all (lengths_of s) - 1 - a else a) ≡ k
    go true e f t =
        let r = up (units_of_all (lengths_of s)) (offset_at (lengths_of s) k) (length_at (lengths_of s) k) (ends_inside (lengths_of s) k) (rw e at f) (rw e at t) in
        rw e (alone (lengths_of s) k (units_of_all (lengths_of s) - 1 - a) (record { from = r.0; to = r.1 }))
    go false e f t = rw e (alone (lengths_of s) k a (record { from = rw e at f; to = rw e at t }))

-- no array is larger than 524,288 units
abbrev Small : Shape → Type 0
Small s = units_of_all (lengths_of s) ≤ 524288

row_small : (n : ℕ) → Small (row_of n)
unfolding row_of
row_small = by_rows Small (lit≤ tt) (lit≤ tt) (lit≤ tt) (lit≤ tt) (lit≤ tt) (lit≤ tt) (lit≤ tt) (lit≤ tt) (lit≤ tt)

words_small : (n : ℕ) → Small (in_words (row_of n))
unfolding row_of in_words
words_small = by_rows (λ (s : Shape). Small (in_words s)) (lit≤ tt) (lit≤ tt) (lit≤ tt) (lit≤ tt) (lit≤ tt) (lit≤ tt) (lit≤ tt) (lit≤ tt) (lit≤ tt)

pub size_small : (p : Part) → size_of p ≤ 524288
unfolding size_of shape_of size_in
size_small p =
    if_ind Small p.word (in_words (row_of p.number)) (row_of p.number) (λ e. words_small p.number) (λ e. row_small p.number)

-- every part has some units
row_some : (n : ℕ) → 0 < size_in (row_of n)
unfolding row_of size_in
row_some = by_rows (λ (s : Shape). 0 < size_in s) (lit≤ tt) (lit≤ tt) (lit≤ tt) (lit≤ tt) (lit≤ tt) (lit≤ tt) (lit≤ tt) (lit≤ tt) (lit≤ tt)

words_some : (n : ℕ) → 0 < size_in (in_words (row_of n))
unfolding row_of in_words size_in
words_some = by_rows (λ (s : Shape). 0 < size_in (in_words s)) (lit≤ tt) (lit≤ tt) (lit≤ tt) (lit≤ tt) (lit≤ tt) (lit≤ tt) (lit≤ tt) (lit≤ tt) (lit≤ tt)

pub size_some : (p : Part) → 0 < size_of p
unfolding size_of shape_of
size_some p =
    if_ind (λ (s : Shape). 0 < size_in s) p.word (in_words (row_of p.number)) (row_of p.number)
    (λ e. words_some p.number) (λ e. row_some p.number)
