-- What is claimed of the loader, in one place.
use mathlib.Core.Path.{◌≡◌}
use mathlib.Core.Bool.{true, false}
use mathlib.Core.List.{List}
use mathlib.Core.Logic.{◌↔◌}
use Prim.Native.Nat.{ℕ, ◌+◌}
use lib.ListN.{length}
use Rattle.common.specs.Numbers.{Foremost, NoRow}
use Rattle.device.specs.declared.Part.{Part}
use Rattle.model_types.specs.declared.Pins.{Pins}
use Rattle.loader.specs.declared.Stage.TheVariants.{Ended}
use Rattle.loader.specs.declared.Loader.{Loader}
use Rattle.loader.specs.Stages.{is_ended, verifies}
use Rattle.loader.specs.declared.Saying.TheVariants.{Over, Refused}
use Rattle.loader_moves.specs.Inner.{past}
use Rattle.loader_steps.specs.Addresses.{first_address}
use Rattle.loader_steps.specs.Inner.{here_of}
use Rattle.loader_steps.specs.Front.{start_rows, step_rows, start_number, step_number, record_at, end_address, says_refused, start_response, step_response, scratch_after}
use Rattle.loader_steps.specs.Ends.{ends_load, ends_verify, of_load, of_verify, with_verify, carried_on}
use Rattle.loader_steps.proofs.StartAndStep as again
use Rattle.loader_steps.proofs.Ends as ends
use Rattle.units.specs.Units.{carried}
use Rattle.loader.specs.declared.Work.{Work}
use Rattle.loader_steps.proofs.Follows as follows
use Rattle.loader_steps.proofs.Unread as unread
use Rattle.loader_steps.proofs.Limits as limits

-- The numbers, for every start alike (a load with the verify after it, a load alone, a verify alone): it is refused by m exactly where
-- m's own condition holds and that of no number before it does ..
pub start_refused_exactly : (work : Work) (part : Part) (p : Pins) (k : ℕ) (w sc : List ℕ) (m : ℕ) → (m ≡ 0 → ⊥)
    → ((start_response work part p k w sc).saying ≡ Refused m) ↔ Foremost (start_rows part p k (length w) (length sc)) m
start_refused_exactly = again.start_numbers

pub start_accepted_exactly : (work : Work) (part : Part) (p : Pins) (k : ℕ) (w sc : List ℕ)
    → (says_refused (start_response work part p k w sc).saying ≡ false) ↔ NoRow (start_rows part p k (length w) (length sc))
start_accepted_exactly = again.start_accepted

-- .. and so is a step.
pub step_refused_exactly : (l : Loader) (b : ℕ) (w sc : List ℕ) (m : ℕ) → (m ≡ 0 → ⊥)
    → ((step_response l b w sc).saying ≡ Refused m) ↔ Foremost (step_rows l (length w) (length sc)) m
step_refused_exactly = again.step_numbers

pub step_accepted_exactly : (l : Loader) (b : ℕ) (w sc : List ℕ) → (says_refused (step_response l b w sc).saying ≡ false) ↔ NoRow (step_rows l (length w) (length sc))
step_accepted_exactly = again.step_accepted

-- A refused step leaves the record and scratch as they were; a refused start gives a record that has ended with the number.
pub step_refused_leaves : (l : Loader) (b : ℕ) (w sc : List ℕ) (m : ℕ) → (step_response l b w sc).saying ≡ Refused m → ((step_response l b w sc).loader ≡ l) × (scratch_after l b w sc ≡ sc)
step_refused_leaves = again.step_refused

pub start_refused_gives : (work : Work) (part : Part) (p : Pins) (k : ℕ) (w sc : List ℕ) (m : ℕ) → (start_response work part p k w sc).saying ≡ Refused m
    → (start_response work part p k w sc).loader ≡ record_at part p k (Ended m) (verifies work)
start_refused_gives = again.start_refused

-- Every record that an accepted start or step gives is taken again, with the scratch that is left; after an end too.
pub start_taken_again : (work : Work) (part : Part) (p : Pins) (k : ℕ) (w sc : List ℕ) → start_number part p k (length w) (length sc) ≡ 0
    → step_number (start_response work part p k w sc).loader (length w) (length sc) ≡ 0
start_taken_again = again.start_again

pub step_taken_again : (l : Loader) (b : ℕ) (w sc : List ℕ) → step_number l (length w) (length sc) ≡ 0
    → step_number (step_response l b w sc).loader (length w) (length (scratch_after l b w sc)) ≡ 0
step_taken_again = again.step_again

-- After its end the loader repeats that end: a record that has ended gives it, and a step that gave it gives it again.
pub end_repeats : (l : Loader) (b n : ℕ) (w sc : List ℕ) → step_number l (length w) (length sc) ≡ 0 → l.stage ≡ Ended n
    → (step_response l b w sc ≡ record { saying = Over n (end_address l n); loader = l }) × (scratch_after l b w sc ≡ sc)
end_repeats = again.end_again

pub over_repeats : (l : Loader) (b n a : ℕ) (w sc : List ℕ) → step_number l (length w) (length sc) ≡ 0 → (step_response l b w sc).saying ≡ Over n a → (b' : ℕ)
    → (step_response (step_response l b w sc).loader b' w (scratch_after l b w sc) ≡ step_response l b w sc)
    × (scratch_after (step_response l b w sc).loader b' w (scratch_after l b w sc) ≡ scratch_after l b w sc)
over_repeats = again.over_again

-- 25 comes from a verify only, 20 to 24 from a load only, whatever bytes are handed on. A load alone keeps to its own stages and has no
-- verify after it; it ends well or by 20 to 24.
pub load_steps : (l : Loader) (b : ℕ) (w sc : List ℕ) → l.verify ≡ false → of_load l.stage ≡ true
    → ((step_response l b w sc).loader.verify ≡ false) × (of_load (step_response l b w sc).loader.stage ≡ true)
load_steps = ends.load_steps

pub load_over : (l : Loader) (b : ℕ) (w sc : List ℕ) (n a : ℕ) → l.verify ≡ false → of_load l.stage ≡ true → (step_response l b w sc).saying ≡ Over n a → ends_load n ≡ true
load_over = ends.load_over

-- A verify keeps to its own stages and ends well or by 25.
pub verify_steps : (l : Loader) (b : ℕ) (w sc : List ℕ) → of_verify l.stage ≡ true → of_verify (step_response l b w sc).loader.stage ≡ true
verify_steps = ends.verify_steps

pub verify_over : (l : Loader) (b : ℕ) (w sc : List ℕ) (n a : ℕ) → of_verify l.stage ≡ true → (step_response l b w sc).saying ≡ Over n a → ends_verify n ≡ true
verify_over = ends.verify_over

-- A run is its load and then the verify, whatever bytes a host hands on: as long as the load goes on, a step gives the record and leaves
-- the scratch that the load alone would, and where the load alone ends well it gives the record that the verify alone starts from.
pub load_follows : (l : Loader) (b : ℕ) (w sc : List ℕ) → step_number l (length w) (length sc) ≡ 0 → of_load l.stage ≡ true → is_ended l.stage ≡ false
    → ((step_response (with_verify true l) b w sc).loader ≡ carried_on (step_response (with_verify false l) b w sc).loader)
    × (scratch_after (with_verify true l) b w sc ≡ scratch_after (with_verify false l) b w sc)
load_follows = follows.load_follows

-- What a step does not look at: in byte mode the high byte of what was read changes nothing (in word mode all 16 bits are carried, and of a
-- status the low 8).
pub step_unread : (l : Loader) (v : ℕ) (w sc : List ℕ)
    → (step_response l (carried l.part.word v) w sc ≡ step_response l v w sc) × (scratch_after l (carried l.part.word v) w sc ≡ scratch_after l v w sc)
step_unread = unread.step_unread

-- A record that a step takes meets none of the code's own limits: the unit at its place is that many units behind the block's first, and
-- the place after it is one more.
pub here_is : (l : Loader) (w sc : ℕ) → step_number l w sc ≡ 0 → here_of l ≡ first_address l + l.place
here_is = limits.here_is

pub past_is : (l : Loader) (w sc : ℕ) → step_number l w sc ≡ 0 → past l.place w ≡ l.place + 1
past_is = limits.past_is
