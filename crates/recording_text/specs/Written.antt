-- A recording written as a text.
use Rattle.std.specs.Prelude.{true, List, [], ◌∷◌, ◌++◌, ℕ}
use Rattle.recording.specs.declared.Noted.{Noted}
use Rattle.recording_lines.specs.Records.{record_line_of, RecordFits}

-- records as a text: their lines one behind the other
abbrev pub text_of : List Noted → List ℕ
text_of [] = []
text_of (r ∷ rs) = record_line_of r ++ text_of rs

-- each of them fits a line
abbrev pub AllFit : List Noted → Type 0
AllFit [] = Unit {0}
AllFit (r ∷ rs) = RecordFits true r × AllFit rs
