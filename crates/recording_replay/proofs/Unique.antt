-- Two results that a promise of this crate allows are equal, and so is what it leaves in each thing lent.
use mathlib.Core.Path.{◌≡◌}
use mathlib.Core.List.{List}
use Prim.Native.Nat.{ℕ}
use lib.ListN.{length}
use Rattle.common.specs.Choice.{Unique}
use Rattle.common.proofs.Choice.{only}
use Rattle.text.specs.Writing.{laid_at, behind}
use Rattle.recording_replay.specs.declared.Made.{Made}
use Rattle.recording_replay.specs.Recorded.{trace_made, array_made, out_made, note_of}

pub record_trace_unique : (out array residue text : List ℕ) → Unique (λ (r : Made). r ≡ trace_made (length out) array residue text)
record_trace_unique out array residue text = only (trace_made (length out) array residue text)

pub record_trace_array_unique : (out array residue text : List ℕ) → Unique (λ (left : List ℕ). left ≡ array_made (length out) array residue text)
record_trace_array_unique out array residue text = only (array_made (length out) array residue text)

pub record_trace_out_unique : (out array residue text : List ℕ) → Unique (λ (left : List ℕ). left ≡ out_made out array residue text)
record_trace_out_unique out array residue text = only (out_made out array residue text)

pub note_unique : (m : Made) (out : List ℕ) → Unique (λ (r : ℕ). r ≡ behind out 0 (note_of m))
note_unique m out = only (behind out 0 (note_of m))

pub note_left_unique : (m : Made) (out : List ℕ) → Unique (λ (left : List ℕ). left ≡ laid_at out 0 (note_of m))
note_left_unique m out = only (laid_at out 0 (note_of m))
