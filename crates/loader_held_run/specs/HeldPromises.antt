-- What is promised of an interrupted run that nothing refuses: the first number of cycles after which the load has ended.
use Rattle.std.specs.Prelude.{◌≡◌, true, false, List, ◌++◌, ℕ, ◌<◌}
use Rattle.device.specs.declared.Device.{Device}
use Rattle.units.specs.Units.{units, spare, back}
use Rattle.loader.specs.Stages.{is_ended}
use Rattle.loader_run.specs.declared.Ran.{Ran}
use Rattle.loader_held_run.specs.HeldTurns.{HeldConfig, held_after}
use Rattle.loader_held_run.specs.HeldRuns.{held_beginning, held_ran}
use Rattle.loader_run.specs.declared.Job.{Job}

-- e is what the first cycles from c leave after which the load has ended, as many as e's count
pub record HeldFirstEnd (d : Device) (w bs ps : List ℕ) (c e : HeldConfig) : Type 0 where
  pub reached : e ≡ held_after e.count d w bs ps c
  pub ended : is_ended e.loader.stage ≡ true
  pub first : (j : ℕ) → j < e.count → is_ended (held_after j d w bs ps c).loader.stage ≡ false

-- the load of lent bytes by their units after j cycles
abbrev pub held_at : Job → List ℕ → List ℕ → List ℕ → List ℕ → List ℕ → List ℕ → ℕ → HeldConfig
held_at j array wanted scratch ps bs room i =
    held_after i j.device (units j.device.part.word wanted) bs ps
    (held_beginning j (units j.device.part.word array) (units j.device.part.word scratch) (units j.device.part.word room))

-- r, the array, scratch and the room are what as many cycles return and leave as r counts; the load has ended then, and not before
pub record HeldPromise (j : Job) (array wanted scratch ps bs room : List ℕ) (r : Ran) (left leftScratch leftRoom : List ℕ) : Type 0 where
  pub returned : r ≡ held_ran (held_at j array wanted scratch ps bs room r.count)
  pub array_left : left ≡ back j.device.part.word (held_at j array wanted scratch ps bs room r.count).bytes
  pub scratch_left : leftScratch ≡ back j.device.part.word (held_at j array wanted scratch ps bs room r.count).scratch
  pub room_left : leftRoom
      ≡ back j.device.part.word (held_at j array wanted scratch ps bs room r.count).room ++ spare j.device.part.word room
  pub ended : is_ended (held_at j array wanted scratch ps bs room r.count).loader.stage ≡ true
  pub first : (i : ℕ) → i < r.count → is_ended (held_at j array wanted scratch ps bs room i).loader.stage ≡ false
