-- Two results that a promise of this crate allows are equal.
use mathlib.Core.Path.{◌≡◌}
use mathlib.Core.Bool.{Bool}
use mathlib.Core.List.{List}
use Prim.Native.Nat.{ℕ}
use lib.ListN.{drop}
use Rattle.common.specs.Choice.{Unique}
use Rattle.common.proofs.Choice.{only}
use Rattle.script_lines.specs.declared.Word.{Word}
use Rattle.script_lines.specs.Words.{is_traced, is_opening, is_closing, count_stated, word_in, is_ends, is_closes}

pub is_traced_unique : (text : List ℕ) → Unique (λ (r : Bool). r ≡ is_traced text)
is_traced_unique text = only (is_traced text)

pub is_opening_unique : (text : List ℕ) → Unique (λ (r : Bool). r ≡ is_opening text)
is_opening_unique text = only (is_opening text)

pub is_closing_unique : (text : List ℕ) → Unique (λ (r : Bool). r ≡ is_closing text)
is_closing_unique text = only (is_closing text)

pub count_unique : (text : List ℕ) → Unique (λ (r : ℕ). r ≡ count_stated text)
count_unique text = only (count_stated text)

pub word_in_unique : (left : ℕ) (text : List ℕ) → Unique (λ (r : Word). r ≡ word_in left text)
word_in_unique left text = only (word_in left text)

pub word_at_unique : (left : ℕ) (text : List ℕ) (at : ℕ) → Unique (λ (r : Word). r ≡ word_in left (drop at text))
word_at_unique left text at = only (word_in left (drop at text))

pub ends_at_unique : (left : ℕ) (text : List ℕ) (at : ℕ) → Unique (λ (r : Bool). r ≡ is_ends (word_in left (drop at text)))
ends_at_unique left text at = only (is_ends (word_in left (drop at text)))

pub closes_at_unique : (left : ℕ) (text : List ℕ) (at : ℕ) → Unique (λ (r : Bool). r ≡ is_closes (word_in left (drop at text)))
closes_at_unique left text at = only (is_closes (word_in left (drop at text)))
