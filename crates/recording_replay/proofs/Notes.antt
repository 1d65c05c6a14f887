-- A note in front of a slice.
use mathlib.Core.Path.{◌≡◌, sym, ap, ◌∙◌}
use mathlib.Core.List.{List}
use Prim.Native.Nat.{ℕ}
use Rattle.text.specs.Writing.{laid_at, behind, Used}
use Rattle.text.proofs.Laying.{front_used}
use Rattle.recording_replay.specs.declared.Made.{Made}
use Rattle.recording_replay.specs.Recorded.{note_of}

-- the text that is laid is the note
pub noted : (m : Made) (text xs now : List ℕ) (r : ℕ) → note_of m ≡ text → r ≡ behind xs 0 text → now ≡ laid_at xs 0 text
    → (r ≡ behind xs 0 (note_of m)) × ((now ≡ laid_at xs 0 (note_of m)) × Used r now)
noted m text xs now r e p b =
    (p ∙ ap (λ (z : List ℕ). behind xs 0 z) (sym e), (b ∙ ap (λ (z : List ℕ). laid_at xs 0 z) (sym e), front_used xs text now r p b))
