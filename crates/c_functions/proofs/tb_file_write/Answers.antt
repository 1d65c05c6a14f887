use mathlib.Core.Path.{◌∙◌}
use lib.ListN.{length}
use Rattle.file_codec.specs.File.{limit, in_room, writer_of}
use Rattle.c_records.proofs.Outcomes.{sized_same}
use Rattle.c_functions.specs.Calls.{written_of, file_left}
use Rattle.c_functions.proofs.tb_file_write.Goals as goal

pub returns : goal.returns
unfolding written_of file_left
returns c =
    let r = c.write-answer in
    record { result = c.sized_out.ensures ∙ sized_same r.result (in_room (length c.args.file.now) (writer_of limit c.args.letter c.args.payload.now)) r.ensures.told; file_left = r.ensures.out_left }
