-- `c_store::tb_store_read` meets its contract.
use mathlib.Core.Path.{ap, ◌∙◌}
use lib.ListN.{length}
use lib.IntN.{ℤ}
use mir.Syntax.{w32}
use mir.ValLaws.{to_z-of_z}
use Rattle.device.specs.declared.Part.{Part}
use Rattle.file_codec.specs.File.{in_room, left_in}
use Rattle.reading.specs.declared.ReadingAnswer.{ReadingAnswer}
use Rattle.reading.specs.Readings.{answer_as}
use Rattle.store_find.specs.Finds.{read_by}
use Rattle.store.specs.Stores.{found_on}
use Rattle.c_readings.specs.Readings.{answer_numbers}
use Rattle.c_store.specs.Calls.{store_read, room_read}
use Rattle.c_store.proofs.tb_store_read.Goals as goal

pub returns : goal.returns
unfolding store_read room_read
returns c =
    let a = c.args in
    let R = a.room.now in
    let X = a.array.now in
    let p = c.part_in-p.ensures in
    let f = c.read_letter-answer in record {
      result = c.answer_numbers.ensures ∙ ap (λ (z : ReadingAnswer). answer_numbers z) f.ensures.result
          ∙ ap (λ (z : ℤ). answer_numbers (answer_as z (in_room (length R) (read_by a.letter (found_on c.part_in-p.result X a.letter))))) (to_z-of_z w32 a.microvolts c.ranges.microvolts)
          ∙ ap (λ (z : Part). answer_numbers (answer_as a.microvolts (in_room (length R) (read_by a.letter (found_on z X a.letter))))) p;
      room_left = f.ensures.room_left ∙ ap (λ (z : Part). left_in R (in_room (length R) (read_by a.letter (found_on z X a.letter)))) p;
    }
