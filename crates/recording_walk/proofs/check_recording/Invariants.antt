-- After some records the walk and the array are as those records of the list leave them.
use Rattle.std.proofs.Common.{◌≡◌, length, take}
use Rattle.recording_walk.specs.Inner.{walk_from, went_over, bytes_over}
use Rattle.recording_walk.proofs.check_recording.Given as goal

abbrev pub invariant-loop-r : goal.invariant-loop-r
invariant-loop-r l = record {
  walk : l.w ≡ went_over l.fn.array (walk_from l.fn.d l.fn.s (length l.fn.array)) (take l.r-index l.list);
  bytes : l.array ≡ bytes_over l.fn.array (walk_from l.fn.d l.fn.s (length l.fn.array)) (take l.r-index l.list);
}
