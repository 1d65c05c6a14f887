-- Two results that a promise of this crate allows are equal, and so is what it leaves in each thing lent.
use mathlib.Core.Path.{◌≡◌}
use mathlib.Core.List.{List}
use Prim.Native.Nat.{ℕ}
use lib.ListN.{length}
use Rattle.common.specs.Choice.{Unique}
use Rattle.common.proofs.Choice.{only}
use Rattle.common.specs.Lists.{copied}
use Rattle.trace_replay.specs.declared.Replayed.{Replayed}
use Rattle.trace_replay.specs.Replays.{replayed_in, left_in_room}
use Rattle.script_run.specs.Runs.{script_output, script_array}

pub run_script_unique : (room : ℕ) (xs rs text : List ℕ) → Unique (λ (r : Replayed). r ≡ replayed_in room (script_output xs rs text))
run_script_unique room xs rs text = only (replayed_in room (script_output xs rs text))

pub run_script_array_unique : (room : ℕ) (xs rs text : List ℕ)
    → Unique (λ (left : List ℕ). left ≡ left_in_room room (script_output xs rs text) xs (script_array xs rs text))
run_script_array_unique room xs rs text = only (left_in_room room (script_output xs rs text) xs (script_array xs rs text))

pub run_script_out_unique : (xs rs text out : List ℕ)
    → Unique (λ (left : List ℕ). left ≡ left_in_room (length out) (script_output xs rs text) out (copied out (script_output xs rs text)))
run_script_out_unique xs rs text out = only (left_in_room (length out) (script_output xs rs text) out (copied out (script_output xs rs text)))
