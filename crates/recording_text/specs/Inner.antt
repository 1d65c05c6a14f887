-- How the code goes: one loop reads and walks. Not part of what a buyer must believe.
use Rattle.std.specs.Prelude.{List, ℕ, length}
use Rattle.recording_walk.specs.declared.Walk.{Walk}
use Rattle.recording_walk.specs.Inner.{went_over}
use Rattle.recording_text.specs.declared.Come.{Come}
use Rattle.recording_text.specs.Texts.{records_of}

-- how far the loop comes: the walk over the records of a text, and how many they are
abbrev pub come_as : Walk → ℕ → Come
come_as w n = record { walk = w; lines = n }

-- .. of a walk over a whole text
unfoldable pub come_of : Walk → List ℕ → List ℕ → Come
come_of w text bytes = come_as (went_over bytes w (records_of text)) (length (records_of text))
