-- After i records the walk and the array are as the first i records of the list leave them.
use Rattle.std.proofs.Common.{◌≡◌, length, take}
use Rattle.recording_walk.specs.Inner.{walk_from, went_over, bytes_over}
use Rattle.c_cycle.specs.Values.{device_in, state_in}
use Rattle.c_recording.specs.Records.{records_in}
use Rattle.c_recording.specs.Known.{walk_in, Sized}
use Rattle.c_recording.proofs.tb_recording.Given as goal

abbrev pub invariant-loop-r : goal.invariant-loop-r
invariant-loop-r l = record {
  walk : walk_in l.w ≡ went_over l.fn.array (walk_from (device_in l.fn.device) (state_in l.fn.state) (length l.fn.array)) (records_in (take l.r-index l.list));
  bytes : l.array ≡ bytes_over l.fn.array (walk_from (device_in l.fn.device) (state_in l.fn.state) (length l.fn.array)) (records_in (take l.r-index l.list));
  sized : Sized l.w.device l.w.units (length l.fn.array);
}
