-- Two results that a promise of this crate allows are equal, and so is what it leaves in the slice lent.
use mathlib.Core.Path.{◌≡◌}
use mathlib.Core.List.{List}
use Prim.Native.Nat.{ℕ}
use lib.IntN.{ℤ}
use lib.ListN.{length}
use Rattle.common.specs.Choice.{Unique}
use Rattle.common.proofs.Choice.{only}
use Rattle.c_words.specs.declared.KnotNumbers.{KnotNumbers}
use Rattle.c_words.specs.Knots.{knot_of, pack_number, pack_left}
use Rattle.c_words.specs.Version.{version}
use Rattle.c_words.specs.Words.{words_of, words_left}

pub words_unique : (number : ℕ) → Unique (λ (r : ℕ). r ≡ length (words_of number))
words_unique number = only (length (words_of number))

pub words_left_unique : (number : ℕ) (out : List ℕ) → Unique (λ (left : List ℕ). left ≡ words_left number out)
words_left_unique number out = only (words_left number out)

pub knot_unpack_unique : (place : ℕ) (payload : List ℕ) → Unique (λ (r : KnotNumbers). r ≡ knot_of place payload)
knot_unpack_unique place payload = only (knot_of place payload)

pub knot_pack_unique : (place : ℕ) (microvolts tenths : ℤ) (payload : List ℕ) → Unique (λ (r : ℕ). r ≡ pack_number place microvolts tenths (length payload))
knot_pack_unique place microvolts tenths payload = only (pack_number place microvolts tenths (length payload))

pub knot_pack_left_unique : (place : ℕ) (microvolts tenths : ℤ) (payload : List ℕ) → Unique (λ (left : List ℕ). left ≡ pack_left place microvolts tenths payload)
knot_pack_left_unique place microvolts tenths payload = only (pack_left place microvolts tenths payload)

pub version_unique : Unique (λ (r : ℕ). r ≡ version)
version_unique = only version
