use mathlib.Core.Path.{ap, ◌∙◌}
use lib.IntN.{ℤ}
use lib.ListN.{length}
use mir.Syntax.{w32}
use mir.ValLaws.{to_z-of_z}
use Rattle.file_codec.specs.File.{limit, reader_of, in_room}
use Rattle.reading.specs.declared.ReadingAnswer.{ReadingAnswer}
use Rattle.reading.specs.Readings.{answer_as}
use Rattle.c_readings.specs.Readings.{answer_numbers}
use Rattle.c_functions.specs.Calls.{reading_read, payload_left}
use Rattle.c_functions.proofs.tb_file_reading.Goals as goal

pub returns : goal.returns
unfolding reading_read payload_left
returns c =
    let a = c.args in
    let r = c.reading_from_file-answer.ensures in record {
      result = c.answer_numbers.ensures ∙ ap (λ (x : ReadingAnswer). answer_numbers x) r.result
          ∙ ap (λ (z : ℤ). answer_numbers (answer_as z (in_room (length a.room.now) (reader_of limit a.file.now a.letter)))) (to_z-of_z w32 a.microvolts c.ranges.microvolts);
      room_left = r.room_left;
    }
