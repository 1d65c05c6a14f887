-- `file_codec::length_wrong` meets its contract.
use mathlib.Core.Path.{refl}
use Rattle.file_codec.specs.File.{length_wrong}
use Rattle.file_codec.proofs.length_wrong.Goals as goal

pub returns : goal.returns
unfolding length_wrong
returns c = refl
