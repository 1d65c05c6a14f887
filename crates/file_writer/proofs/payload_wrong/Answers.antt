-- `file_writer::payload_wrong` meets its contract.
use mathlib.Core.Path.{refl}
use Rattle.file_codec.specs.File.{payload_wrong}
use Rattle.file_writer.proofs.payload_wrong.Goals as goal

pub returns : goal.returns
unfolding payload_wrong
returns c = refl
