-- Two results that the promise of this crate allows are equal, and so is what it leaves in each slice lent.
use mathlib.Core.Path.{◌≡◌}
use mathlib.Core.List.{List}
use Prim.Native.Nat.{ℕ}
use Rattle.common.specs.Choice.{Unique}
use Rattle.common.proofs.Choice.{only}
use Rattle.text.specs.declared.Told.{Told}
use Rattle.text.specs.Writing.{laid_at, behind, told_on}
use Rattle.reading.specs.declared.Reading.{Reading}
use Rattle.reading_answer.specs.Lines.{read_words, reading_line, answered}

pub put_words_unique : (out : List ℕ) (at n : ℕ) → Unique (λ (r : ℕ). r ≡ behind out at (read_words n))
put_words_unique out at n = only (behind out at (read_words n))

pub put_words_out_unique : (out : List ℕ) (at n : ℕ) → Unique (λ (left : List ℕ). left ≡ laid_at out at (read_words n))
put_words_out_unique out at n = only (laid_at out at (read_words n))

pub put_reading_unique : (out : List ℕ) (r : Reading) → Unique (λ (n : ℕ). n ≡ behind out 0 (reading_line r))
put_reading_unique out r = only (behind out 0 (reading_line r))

pub put_reading_out_unique : (out : List ℕ) (r : Reading) → Unique (λ (left : List ℕ). left ≡ laid_at out 0 (reading_line r))
put_reading_out_unique out r = only (laid_at out 0 (reading_line r))

pub answer_unique : (count : ℕ) (file letter volts room out : List ℕ)
    → Unique (λ (r : Told). r ≡ told_on (answered count file letter volts room).stream out (answered count file letter volts room).line)
answer_unique count file letter volts room out = only (told_on (answered count file letter volts room).stream out (answered count file letter volts room).line)

pub answer_out_unique : (count : ℕ) (file letter volts room out : List ℕ)
    → Unique (λ (left : List ℕ). left ≡ laid_at out 0 (answered count file letter volts room).line)
answer_out_unique count file letter volts room out = only (laid_at out 0 (answered count file letter volts room).line)

pub answer_room_unique : (count : ℕ) (file letter volts room out : List ℕ)
    → Unique (λ (left : List ℕ). left ≡ (answered count file letter volts room).room)
answer_room_unique count file letter volts room out = only (answered count file letter volts room).room
