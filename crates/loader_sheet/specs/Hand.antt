-- A loader that is fed by hand: what a host hands to its steps, one value after the other.
use Rattle.std.specs.Prelude.{◌≡◌, Bool, true, false, not, ◌&&◌, List, [], ◌∷◌, ℕ, ◌<◌, length, get_or}
use Rattle.device.specs.declared.Part.{Part}
use Rattle.model_types.specs.declared.Pins.{Pins}
use Rattle.loader.specs.declared.Stage.{Stage}
use Rattle.loader.specs.declared.Stage.TheVariants.{Clearing, Opening, Reading, EraseAsking, EraseConfirming, EraseWaiting, ProgramAsking}
use Rattle.loader.specs.declared.Stage.TheVariants.{ProgramSending, ProgramWaiting, Closing, Verifying, Ended}
use Rattle.loader.specs.declared.Loader.{Loader}
use Rattle.loader.specs.Statuses.{status_in, is_ready}
use Rattle.loader_steps.specs.Front.{record_at, step_number, step_response, scratch_after}

-- a loader between two steps: its record, and scratch
pub record Hand : Type 0 where
  pub loader : Loader
  pub scratch : List ℕ

-- .. at a start
abbrev pub start_hand : Stage → Bool → Part → Pins → ℕ → List ℕ → Hand
start_hand stage verify part p k sc = record { loader = record_at part p k stage verify; scratch = sc }

-- .. after a step that was handed a value (R-load-7)
abbrev pub fed : List ℕ → Hand → ℕ → Hand
fed w h v = record { loader = (step_response h.loader v w h.scratch).loader; scratch = scratch_after h.loader v w h.scratch }

-- .. after a step for each value of a list
abbrev pub fed_all : List ℕ → Hand → List ℕ → Hand
fed_all w h [] = h
fed_all w h (v ∷ vs) = fed_all w (fed w h v) vs

-- a step is not refused
abbrev pub Takes : List ℕ → Hand → Type 0
Takes w h = step_number h.loader (length w) (length h.scratch) ≡ 0

-- it has ended by a number
abbrev pub EndedBy : ℕ → Hand → Type 0
EndedBy n h = h.loader.stage ≡ Ended n

-- a poll is out (R-load-6)
abbrev pub is_polling : Stage → Bool
is_polling Clearing = false
is_polling Opening = false
is_polling Reading = false
is_polling EraseAsking = false
is_polling EraseConfirming = false
is_polling EraseWaiting = true
is_polling ProgramAsking = false
is_polling ProgramSending = false
is_polling ProgramWaiting = true
is_polling Closing = false
is_polling Verifying = false
is_polling (Ended n) = false

-- the stages that a load and a verify start at
abbrev pub is_first : Stage → Bool
is_first Clearing = true
is_first Opening = false
is_first Reading = false
is_first EraseAsking = false
is_first EraseConfirming = false
is_first EraseWaiting = false
is_first ProgramAsking = false
is_first ProgramSending = false
is_first ProgramWaiting = false
is_first Closing = true
is_first Verifying = false
is_first (Ended n) = false

-- a wait begins: a step is taken, a poll is out, and none was counted yet
abbrev pub WaitBegins : List ℕ → Hand → Type 0
WaitBegins w h = Takes w h × (is_polling h.loader.stage ≡ true) × (h.loader.polls ≡ 0)

-- SR.7 is in no status of a list
abbrev pub never_ready : List ℕ → Bool
never_ready [] = true
never_ready (v ∷ vs) = not (is_ready (status_in v)) && never_ready vs

-- scratch is as wanted below a place
abbrev pub WantedTo : ℕ → List ℕ → List ℕ → Type 0
WantedTo n w sc = (i : ℕ) → i < n → get_or sc i 0 ≡ get_or w i 0
