-- A part in bytes and the same part in words: every length twice, and both bytes of a word in the word's block.
use mathlib.Core.Path.{◌≡◌, refl, ap, ◌∙◌}
use mathlib.Core.Bool.{Bool, true, false}
use mathlib.Core.List.{List, [], ◌∷◌}
use Prim.Native.Nat.{ℕ, zero, suc, ◌+◌, ◌-◌, ◌*◌, ◌≤◌, ◌<◌}
use native.Mathlib.Omega.{arith}
use lib.Dec.{ltb}
use borrow.Author.Tests.{lt-ltb, le-ltb, ltb-true, ltb-false}
use Rattle.std.specs.Prelude.{if◌then◌else◌}
use Rattle.device.proofs.Rows.{by_rows}
use Rattle.device.specs.Blocks.{units_of_all, length_at, offset_at, holder}
use Rattle.device.specs.Parts.{row_of, in_words, shape_of, lengths_of, size_in, length_in, offset_in, holder_in, mirrored, start_in, block_in, size_of, length_of, start_of, block_of}
use Rattle.device.specs.declared.Part.{Part}
use Rattle.device.specs.declared.Shape.{Shape}

-- each length twice
abbrev twice : List ℕ → List ℕ
twice [] = []
twice (l ∷ ls) = 2 * l ∷ twice ls

all_twice : (ls : List ℕ) → units_of_all (twice ls) ≡ 2 * units_of_all ls
all_twice [] = refl
all_twice (l ∷ ls) = let h = all_twice ls in omega arith

length_twice : (ls : List ℕ) (k : ℕ) → length_at (twice ls) k ≡ 2 * length_at ls k
length_twice [] k = refl
length_twice (l ∷ ls) zero = refl
length_twice (l ∷ ls) (suc k) = length_twice ls k

offset_twice : (ls : List ℕ) (k : ℕ) → offset_at (twice ls) k ≡ 2 * offset_at ls k
offset_twice [] k = refl
offset_twice (l ∷ ls) zero = refl
offset_twice (l ∷ ls) (suc k) = let h = offset_twice ls k in omega arith

holder_twice : (ls : List ℕ) (o b x : ℕ) → b < 2 → x ≡ 2 * o + b → holder (twice ls) x ≡ holder ls o
holder_twice [] o b x h e = refl
holder_twice (l ∷ ls) o b x h e = go (ltb o l) refl (λ p. holder_twice ls (o - l) b (x - 2 * l) h (omega arith))
  where
    go : (t : Bool) → ltb o l ≡ t → (l ≤ o → holder (twice ls) (x - 2 * l) ≡ holder ls (o - l)) → holder (twice (l ∷ ls)) x ≡ holder (l ∷ ls) o
    go true f r = rw (f, lt-ltb x (2 * l) (omega (arith, ltb-true o l f))) refl
    go false f r = rw (f, le-ltb x (2 * l) (omega (arith, ltb-false o l f))) (ap suc (r (ltb-false o l f)))

-- every row of the table is even, so that its words are its bytes in pairs
abbrev Even : Shape → Type 0
Even s = lengths_of s ≡ twice (lengths_of (in_words s))

even : (n : ℕ) → Even (row_of n)
unfolding row_of in_words
even = by_rows Even refl refl refl refl refl refl refl refl refl

-- a part in byte mode, and in word mode
abbrev pub in_bytes : ℕ → Part
in_bytes n = record { number = n; word = false }

abbrev pub word_wide : ℕ → Part
word_wide n = record { number = n; word = true }

module _ (s : Shape) (e : Even s) where
  size_in_lem : size_in s ≡ 2 * size_in (in_words s)
  unfolding size_in
  size_in_lem = ap units_of_all e ∙ all_twice (lengths_of (in_words s))

  length_in_lem : (k : ℕ) → length_in s k ≡ 2 * length_in (in_words s) k
  unfolding length_in
  length_in_lem k = ap (λ (ls : List ℕ). length_at ls k) e ∙ length_twice (lengths_of (in_words s)) k

  offset_in_lem : (k : ℕ) → offset_in s k ≡ 2 * offset_in (in_words s) k
  unfolding offset_in
  offset_in_lem k = ap (λ (ls : List ℕ). offset_at ls k) e ∙ offset_twice (lengths_of (in_words s)) k

  holder_in_lem : (o b x : ℕ) → b < 2 → x ≡ 2 * o + b → holder_in s x ≡ holder_in (in_words s) o
  unfolding holder_in
  holder_in_lem o b x h q = ap (λ (ls : List ℕ). holder ls x) e ∙ holder_twice (lengths_of (in_words s)) o b x h q

  start_in_lem : (k : ℕ) → start_in s k ≡ 2 * start_in (in_words s) k
  unfolding start_in in_words
  start_in_lem k = go s.top (size_in_lem) (offset_in_lem k) (length_in_lem k)
    where
      go : (top : Bool) → size_in s ≡ 2 * size_in (in_words s) → offset_in s k ≡ 2 * offset_in (in_words s) k → length_in s k ≡ 2 * length_in (in_words s) k
          → (if top then size_in s - offset_in s k - length_in s k else offset_in s k) ≡ 2 * (if top then size_in (in_words s) - offset_in (in_words s) k - length_in (in_words s) k else offset_in (in_words s) k)
      go true a b c = omega arith
      go false a b c = b

  block_in_lem : (a b : ℕ) → a < size_in (in_words s) → b < 2 → block_in s (2 * a + b) ≡ block_in (in_words s) a
  unfolding block_in mirrored in_words
  block_in_lem a b h l = go s.top size_in_lem
    where
      go : (top : Bool) → size_in s ≡ 2 * size_in (in_words s)
          → holder_in s (if top then size_in s - 1 - (2 * a + b) else 2 * a + b) ≡ holder_in (in_words s) (if top then size_in (in_words s) - 1 - a else a)
      go true q = holder_in_lem (size_in (in_words s) - 1 - a) (1 - b) (size_in s - 1 - (2 * a + b)) (omega arith) (omega arith)
      go false q = holder_in_lem a b (2 * a + b) l refl

pub size_twice : (n : ℕ) → size_of (in_bytes n) ≡ 2 * size_of (word_wide n)
unfolding size_of shape_of
size_twice n = size_in_lem (row_of n) (even n)

pub block_length_twice : (n k : ℕ) → length_of (in_bytes n) k ≡ 2 * length_of (word_wide n) k
unfolding length_of shape_of
block_length_twice n k = length_in_lem (row_of n) (even n) k

pub start_twice : (n k : ℕ) → start_of (in_bytes n) k ≡ 2 * start_of (word_wide n) k
unfolding start_of shape_of
start_twice n k = start_in_lem (row_of n) (even n) k

pub both_bytes : (n a b : ℕ) → a < size_of (word_wide n) → b < 2 → block_of (in_bytes n) (2 * a + b) ≡ block_of (word_wide n) a
unfolding block_of size_of shape_of
both_bytes n a b h l = block_in_lem (row_of n) (even n) a b h l
