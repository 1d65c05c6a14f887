use mathlib.Core.Path.{refl}
use Rattle.c_records.specs.Records.{no_record}
use Rattle.c_records.proofs.records.no_record.Goals as goal

pub returns : goal.returns
unfolding no_record
returns c = refl
