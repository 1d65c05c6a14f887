-- Two results that a promise of this crate allows are equal, and so is what it leaves in each thing lent.
use Rattle.std.specs.Prelude.{Option}
use mathlib.Core.Path.{◌≡◌}
use mathlib.Core.List.{List}
use Prim.Native.Nat.{ℕ}
use Rattle.common.specs.Choice.{Unique}
use Rattle.common.proofs.Choice.{only}
use Rattle.text.specs.Writing.{laid_at, behind}
use Rattle.model_types.specs.declared.Phase.{Phase}
use Rattle.recording.specs.declared.Why.{Why}
use Rattle.recording_answer.specs.Lines.{fault_line, bad_line, accepted_line, end_text, first_apart}

pub put_fault_unique : (out : List ℕ) (at n : ℕ) (heard : Option ℕ) (w : Why) → Unique (λ (r : ℕ). r ≡ behind out at (fault_line n heard w))
put_fault_unique out at n heard w = only (behind out at (fault_line n heard w))

pub put_fault_out_unique : (out : List ℕ) (at n : ℕ) (heard : Option ℕ) (w : Why) → Unique (λ (left : List ℕ). left ≡ laid_at out at (fault_line n heard w))
put_fault_out_unique out at n heard w = only (laid_at out at (fault_line n heard w))

pub put_bad_unique : (out : List ℕ) (at n : ℕ) → Unique (λ (r : ℕ). r ≡ behind out at (bad_line n))
put_bad_unique out at n = only (behind out at (bad_line n))

pub put_bad_out_unique : (out : List ℕ) (at n : ℕ) → Unique (λ (left : List ℕ). left ≡ laid_at out at (bad_line n))
put_bad_out_unique out at n = only (laid_at out at (bad_line n))

pub put_accepted_unique : (out : List ℕ) (at n : ℕ) → Unique (λ (r : ℕ). r ≡ behind out at (accepted_line n))
put_accepted_unique out at n = only (behind out at (accepted_line n))

pub put_accepted_out_unique : (out : List ℕ) (at n : ℕ) → Unique (λ (left : List ℕ). left ≡ laid_at out at (accepted_line n))
put_accepted_out_unique out at n = only (laid_at out at (accepted_line n))

pub put_end_unique : (out : List ℕ) (at : ℕ) (ph : Phase) (promised array : List ℕ) → Unique (λ (r : ℕ). r ≡ behind out at (end_text ph promised array))
put_end_unique out at ph promised array = only (behind out at (end_text ph promised array))

pub put_end_out_unique : (out : List ℕ) (at : ℕ) (ph : Phase) (promised array : List ℕ) → Unique (λ (left : List ℕ). left ≡ laid_at out at (end_text ph promised array))
put_end_out_unique out at ph promised array = only (laid_at out at (end_text ph promised array))

pub apart_at_unique : (a b : List ℕ) → Unique (λ (r : ℕ). r ≡ first_apart a b)
apart_at_unique a b = only (first_apart a b)
