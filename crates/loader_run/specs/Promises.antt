-- What is promised of a run that nothing refuses: the first number of cycles after which the load has ended.
use Rattle.std.specs.Prelude.{◌≡◌, true, false, List, ℕ, ◌<◌}
use Rattle.device.specs.declared.Device.{Device}
use Rattle.loader_run.specs.declared.Ran.{Ran}
use Rattle.loader_run.specs.Turns.{Config, after}
use Rattle.loader.specs.Stages.{is_ended}
use Rattle.loader_run.specs.Runs.{beginning, ran_by}
use Rattle.loader_run.specs.declared.Job.{Job}

-- e is what the first k cycles from c leave after which the load has ended, k being e's count (R-form-7)
pub record FirstEnd (d : Device) (w : List ℕ) (c e : Config) : Type 0 where
  pub reached : e ≡ after e.count d w c
  pub ended : is_ended e.loader.stage ≡ true
  pub first : (j : ℕ) → j < e.count → is_ended (after j d w c).loader.stage ≡ false

-- r, the array and scratch are what as many cycles return and leave as r counts; the load has ended then, and not before
pub record Promise (j : Job) (xs w sc : List ℕ) (r : Ran) (left scratch : List ℕ) : Type 0 where
  pub returned : r ≡ ran_by (after r.count j.device w (beginning j xs sc))
  pub array : left ≡ (after r.count j.device w (beginning j xs sc)).bytes
  pub room : scratch ≡ (after r.count j.device w (beginning j xs sc)).scratch
  pub ended : is_ended (after r.count j.device w (beginning j xs sc)).loader.stage ≡ true
  pub first : (i : ℕ) → i < r.count → is_ended (after i j.device w (beginning j xs sc)).loader.stage ≡ false
