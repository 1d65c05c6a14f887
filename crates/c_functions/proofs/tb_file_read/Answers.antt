use mathlib.Core.Path.{◌∙◌}
use lib.ListN.{length}
use Rattle.file_codec.specs.File.{limit, in_room, reader_of}
use Rattle.c_records.proofs.Outcomes.{sized_same}
use Rattle.c_functions.specs.Calls.{file_read, payload_left}
use Rattle.c_functions.proofs.tb_file_read.Goals as goal

pub returns : goal.returns
unfolding file_read payload_left
returns c =
    let r = c.read-answer in
    record { result = c.sized_out.ensures ∙ sized_same r.result (in_room (length c.args.payload.now) (reader_of limit c.args.file.now c.args.letter)) r.ensures.told; payload_left = r.ensures.out_left }
