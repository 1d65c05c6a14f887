-- Two results that a promise of this crate allows are equal, and so is what it leaves in the slice lent.
use mathlib.Core.Path.{◌≡◌}
use mathlib.Core.Bool.{Bool}
use mathlib.Core.List.{List}
use Prim.Native.Nat.{ℕ}
use Rattle.common.specs.Choice.{Unique}
use Rattle.common.proofs.Choice.{only}
use Rattle.wear_print.specs.Tables.{laid_in, count_in}
use Rattle.wear_answer.specs.declared.Counting.{Counting}
use Rattle.wear_answer.specs.declared.Said.{Said}
use Rattle.wear_answer.specs.Answers.{none_yet, said_in, more_said, final_text}

pub none_unique : Unique (λ (r : Counting). r ≡ none_yet)
none_unique = only none_yet

pub one_more_unique : (c : Counting) (out : List ℕ) (k : ℕ) (text : List ℕ) (ended : Bool) → Unique (λ (r : Said). r ≡ said_in out (more_said c k text ended))
one_more_unique c out k text ended = only (said_in out (more_said c k text ended))

pub one_more_out_unique : (c : Counting) (out : List ℕ) (k : ℕ) (text : List ℕ) (ended : Bool)
    → Unique (λ (left : List ℕ). left ≡ laid_in out (more_said c k text ended).line)
one_more_out_unique c out k text ended = only (laid_in out (more_said c k text ended).line)

pub finish_unique : (c : Counting) (out : List ℕ) → Unique (λ (n : ℕ). n ≡ count_in out (final_text c))
finish_unique c out = only (count_in out (final_text c))

pub finish_out_unique : (c : Counting) (out : List ℕ) → Unique (λ (left : List ℕ). left ≡ laid_in out (final_text c))
finish_out_unique c out = only (laid_in out (final_text c))
