-- The sentences of a loader that is fed by hand, whatever it is handed, in one place. Lists are of units, bytes or words.
use mathlib.Core.List.{List}
use Prim.Native.Nat.{ℕ}
use Rattle.loader_sheet.specs.Sentences.{FedByHand}
use Rattle.loader_sheet.proofs.Polls as polls
use Rattle.loader_sheet.proofs.Waiting as waiting
use Rattle.loader_sheet.proofs.Ending as ending

-- Which byte gives 21 to 24; 20 just at the 65,535th poll of a wait; scratch after each poll, and at each end. The bytes may be those of
-- any part, or made up.
pub fed_by_hand : (w : List ℕ) → FedByHand w
fed_by_hand w = record {
  erase_poll = polls.erase_poll w;
  program_poll = polls.program_poll w;
  afresh = waiting.afresh w;
  waits = λ h vs b. waiting.waits w h vs b.0 b.1 b.2;
  gives_up = λ h vs b. waiting.gives_up w h vs b.0 b.1 b.2;
  fault_leaves = ending.fault_leaves w;
  well_ends = ending.well_ends w;
  apart_ends = ending.apart_ends w;
}
