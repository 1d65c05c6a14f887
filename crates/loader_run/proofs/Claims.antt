-- What is claimed of a run, of a load alone and of a verify alone, in one place: of all three as of any job.
use mathlib.Core.Path.{◌≡◌}
use mathlib.Core.Bool.{true, false}
use mathlib.Core.List.{List}
use mathlib.Core.Logic.{◌↔◌}
use Prim.Native.Nat.{ℕ, ◌-◌, ◌<◌}
use lib.ListN.{length}
use Rattle.common.specs.Numbers.{Foremost, NoRow}
use Rattle.device.specs.declared.Device.{Device}
use Rattle.loader_run.specs.declared.Ran.{Ran}
use Rattle.loader_run.specs.Turns.{Config, after}
use Rattle.loader.specs.Stages.{is_ended}
use Rattle.loader_run.specs.Runs.{run_rows, run_number, driven, lent_rows, beginning, run_left, lent_run}
use Rattle.loader_steps.specs.Outs.{cycle_of}
use Rattle.loader_run.specs.Promises.{FirstEnd, Promise}
use Rattle.model_judge.specs.Judging.{judge_of}
use Rattle.loader_run.proofs.Ending as ending
use Rattle.loader_run.proofs.Sound as sound
use Rattle.device.specs.Parts.{size_of, length_of}
use Rattle.units.specs.Units.{bytes_in, lent, lent_in}
use Rattle.loader_steps.specs.Front.{no_block, wrong_lengths}
use Rattle.loader_run.specs.declared.Job.{Job}
use Rattle.loader_run.proofs.Borders as borders

-- The numbers: a run makes no cycle and ends with m exactly where m's own condition holds and that of no number before it does.
pub refused_exactly : (j : Job) (xs w sc : List ℕ) (m : ℕ) → (m ≡ 0 → ⊥)
    → (((run_left j xs w sc).ran.count ≡ 0) × ((run_left j xs w sc).ran.end ≡ m)) ↔ Foremost (run_rows j (length xs) (length w) (length sc)) m
refused_exactly = ending.run_numbers

-- It makes cycles exactly where none of the seven conditions holds.
pub accepted_exactly : (j : Job) (xs w sc : List ℕ)
    → (0 < (run_left j xs w sc).ran.count) ↔ NoRow (run_rows j (length xs) (length w) (length sc))
accepted_exactly = ending.run_accepted

-- A refused run has count 0 and the number, and leaves state, array and scratch as they were.
pub refused_leaves : (j : Job) (xs w sc : List ℕ) (m : ℕ) → (m ≡ 0 → ⊥)
    → Foremost (run_rows j (length xs) (length w) (length sc)) m
    → ((run_left j xs w sc).ran ≡ record { count = 0; end = m; address = 0; state = j.state }) × ((run_left j xs w sc).bytes ≡ xs) × ((run_left j xs w sc).scratch ≡ sc)
refused_leaves = ending.run_refused

-- What any number of turns leaves is what as many cycles leave as were counted; and every load ends. From any input whatever.
pub counted : (d : Device) (w : List ℕ) (k : ℕ) (c : Config) → after k d w c ≡ after ((after k d w c).count - c.count) d w c
counted = ending.counted

pub always_ends : (d : Device) (w : List ℕ) (c : Config) → is_ended (driven d w c).loader.stage ≡ true
always_ends = ending.always_ends

-- The promise of a run that nothing refuses: the count is the first number of cycles after which the load has ended, and the
-- end, the address, the state, the array and scratch are what those cycles leave.
pub first_end : (j : Job) (xs w sc : List ℕ) → NoRow (run_rows j (length xs) (length w) (length sc))
    → Promise j xs w sc (run_left j xs w sc).ran (run_left j xs w sc).bytes (run_left j xs w sc).scratch
first_end = ending.run_first_lem

-- There is one such number: an early stop or an invented count does not meet it.
pub first_only : (d : Device) (w : List ℕ) (c e : Config) → FirstEnd d w c e → (k : ℕ) → is_ended (after k d w c).loader.stage ≡ true
    → ((j : ℕ) → j < k → is_ended (after j d w c).loader.stage ≡ false) → k ≡ e.count
first_only = ending.first_only

pub promise_once : (j : Job) (xs w sc : List ℕ) (r t : Ran) (x y u v : List ℕ)
    → Promise j xs w sc r x u → Promise j xs w sc t y v → (r ≡ t) × (x ≡ y) × (u ≡ v)
promise_once = ending.promise_once

-- None of refusals 1 to 6 ever applies to the cycle that is out: the loop need not test them again.
pub passes_ever : (j : Job) (xs w sc : List ℕ) → run_number j (length xs) (length w) (length sc) ≡ 0 → (i : ℕ)
    → is_ended (after i j.device w (beginning j xs sc)).loader.stage ≡ false
    → judge_of j.device (after i j.device w (beginning j xs sc)).state
    (cycle_of (after i j.device w (beginning j xs sc)).loader w)
    (length (after i j.device w (beginning j xs sc)).bytes) 0
    ≡ 0
passes_ever = sound.passes_ever

-- A run on lent bytes returns what the run on their units does ..
pub lent_ran : (j : Job) (array wanted scratch : List ℕ)
    → (lent_run j array wanted scratch).ran ≡ (run_left j (lent j.device.part.word array) (lent j.device.part.word wanted) (lent j.device.part.word scratch)).ran
lent_ran = borders.lent_ran

-- .. its numbers are those of as many lent bytes ..
pub lent_refused_exactly : (j : Job) (array wanted scratch : List ℕ) (m : ℕ) → (m ≡ 0 → ⊥)
    → (((lent_run j array wanted scratch).ran.count ≡ 0) × ((lent_run j array wanted scratch).ran.end ≡ m)) ↔ Foremost (lent_rows j (length array) (length wanted) (length scratch)) m
lent_refused_exactly = borders.lent_numbers

pub lent_accepted_exactly : (j : Job) (array wanted scratch : List ℕ)
    → (0 < (lent_run j array wanted scratch).ran.count) ↔ NoRow (lent_rows j (length array) (length wanted) (length scratch))
lent_accepted_exactly = borders.lent_accepted

-- .. and a refusal leaves the bytes as they were.
pub lent_refused_leaves : (j : Job) (array wanted scratch : List ℕ) (m : ℕ) → (m ≡ 0 → ⊥)
    → Foremost (lent_rows j (length array) (length wanted) (length scratch)) m
    → ((lent_run j array wanted scratch).ran ≡ record { count = 0; end = m; address = 0; state = j.state })
    × ((lent_run j array wanted scratch).bytes ≡ array) × ((lent_run j array wanted scratch).scratch ≡ scratch)
lent_refused_leaves = borders.lent_leaves

-- Numbers 2 and 11 count bytes: lent bytes make the array's units exactly where they are as many bytes as those have, and so do wanted and
-- scratch where 10 and 11 let them pass.
pub two_counts_bytes : (d : Device) (n : ℕ) → (lent_in d.part.word n ≡ size_of d.part) ↔ (n ≡ bytes_in d.part.word (size_of d.part))
two_counts_bytes = borders.two_in_bytes

pub eleven_counts_bytes : (d : Device) (k n m : ℕ) → no_block d.part k ≡ false → wrong_lengths d.part k (lent_in d.part.word n) (lent_in d.part.word m) ≡ false
    → (n ≡ bytes_in d.part.word (length_of d.part k)) × (m ≡ bytes_in d.part.word (length_of d.part k))
eleven_counts_bytes = borders.eleven_in_bytes

-- In byte mode, and so on devices 1 to 4, a run on lent bytes is the run of the bytes themselves.
pub in_byte_mode : (j : Job) (array wanted scratch : List ℕ) → j.device.part.word ≡ false
    → lent_run j array wanted scratch ≡ run_left j array wanted scratch
in_byte_mode = borders.in_byte_mode
