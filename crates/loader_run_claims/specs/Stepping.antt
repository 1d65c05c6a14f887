-- A host that steps the loader by hand, beside the run.
use Rattle.std.specs.Prelude.{◌≡◌, Bool, true, false, List, ◌↔◌, ℕ, suc, ◌<◌}
use Rattle.device.specs.declared.Device.{Device}
use Rattle.model_types.specs.declared.Kind.TheVariants.{Read}
use Rattle.model.specs.declared.Seen.TheVariants.{Data}
use Rattle.model.specs.declared.Answer.{Answer}
use Rattle.loader.specs.declared.Saying.TheVariants.{Over}
use Rattle.loader_steps.specs.Outs.{cycle_of}
use Rattle.loader_steps.specs.Front.{response_at, start_response, step_response, scratch_after}
use Rattle.loader_run.specs.Turns.{Config, is_refused, number_in, answer_to, array_to, after}
use Rattle.loader.specs.Stages.{is_ended}
use Rattle.loader_run.specs.declared.Job.{Job}
use Rattle.loader_run.specs.Runs.{beginning, run_left}

-- the model's answer to the cycle that is out at c
abbrev pub answer_at : Device → List ℕ → Config → Answer
answer_at d w c = answer_to d w c.loader c.state c.bytes

-- b may be handed to the step at c: the byte that the model answers to a read; any byte after a write or where none is answered
abbrev pub Handed : Device → List ℕ → Config → ℕ → Type 0
Handed d w c b = (x : ℕ) → (cycle_of c.loader w).kind ≡ Read → (answer_at d w c).seen ≡ Data x → b ≡ x

-- of a load, with or without the verify after it, or of a verify alone
module _ (j : Job) (xs w sc : List ℕ) where
  -- the run after i cycles: loader, state, array, scratch and count
  abbrev pub run_at : ℕ → Config
  run_at i = after i j.device w (beginning j xs sc)

  -- whether it has ended by then
  abbrev pub over_at : ℕ → Bool
  over_at i = is_ended (run_at i).loader.stage

  -- stepping by hand is the run, sentence by sentence
  pub record Stepped : Type 0 where
    -- the start gives the first record of the run and the cycle that is out there
    pub starts : start_response j.work j.device.part j.pins j.block w sc ≡ response_at (run_at 0).loader w
    -- the run is before its end for as many cycles as it counts, and no longer
    pub lasts : (i : ℕ) → (over_at i ≡ false) ↔ (i < (run_left j xs w sc).ran.count)
    -- before its end the model takes the cycle that is out, answers a read by a byte, and leaves the run's next state and array
    pub takes : (i : ℕ) → over_at i ≡ false → is_refused (answer_at j.device w (run_at i)).seen ≡ false
    pub answers : (i : ℕ) → over_at i ≡ false → (cycle_of (run_at i).loader w).kind ≡ Read
        → (answer_at j.device w (run_at i)).seen ≡ Data (number_in (answer_at j.device w (run_at i)).seen)
    pub makes : (i : ℕ) → over_at i ≡ false
        → ((answer_at j.device w (run_at i)).state ≡ (run_at (suc i)).state)
        × (array_to j.device w (run_at i).loader (run_at i).state (run_at i).bytes ≡ (run_at (suc i)).bytes)
    -- with that byte handed on, the step gives the run's next record and the cycle that is out there, or the end
    pub steps : (i b : ℕ) → over_at i ≡ false → Handed j.device w (run_at i) b
        → step_response (run_at i).loader b w (run_at i).scratch ≡ response_at (run_at (suc i)).loader w
    -- and it leaves the run's scratch
    pub stores : (i b : ℕ) → over_at i ≡ false → Handed j.device w (run_at i) b → scratch_after (run_at i).loader b w (run_at i).scratch
        ≡ (run_at (suc i)).scratch
    -- the step that ends gives the run's end and address
    pub ends : (i b : ℕ) → over_at i ≡ false → over_at (suc i) ≡ true → Handed j.device w (run_at i) b
        → (step_response (run_at i).loader b w (run_at i).scratch).saying
        ≡ Over (run_left j xs w sc).ran.end (run_left j xs w sc).ran.address
    -- it comes after as many cycles as the run counts
    pub counts : (i : ℕ) → over_at i ≡ false → over_at (suc i) ≡ true → (run_left j xs w sc).ran.count ≡ suc i
    -- and state, array and scratch are then those that the run returns and leaves
    pub leaves : (i : ℕ) → over_at i ≡ false → over_at (suc i) ≡ true
        → ((run_at (suc i)).state ≡ (run_left j xs w sc).ran.state) × ((run_at (suc i)).bytes ≡ (run_left j xs w sc).bytes)
        × ((run_at (suc i)).scratch ≡ (run_left j xs w sc).scratch)
