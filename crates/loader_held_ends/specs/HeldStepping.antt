-- A host that steps a load with interruptions by hand, beside the run. Lists are of units; `size` is the bytes of the room.
use Rattle.std.specs.Prelude.{◌≡◌, Bool, true, false, List, ◌↔◌, ℕ, suc, ◌<◌, length}
use Rattle.device.specs.declared.Device.{Device}
use Rattle.model_types.specs.declared.Kind.TheVariants.{Read}
use Rattle.model.specs.declared.Seen.TheVariants.{Data}
use Rattle.loader.specs.declared.Saying.TheVariants.{Over}
use Rattle.loader.specs.Stages.{is_ended}
use Rattle.loader_run.specs.Turns.{is_refused, number_in}
use Rattle.loader_held.specs.declared.Pair.{Pair}
use Rattle.loader_held.specs.Holds.{pair_of, held_scratch, held_room}
use Rattle.loader_held_steps.specs.HeldFront.{start_held_response, step_held_number, step_held_response, held_response}
use Rattle.loader_held_run.specs.HeldTurns.{HeldConfig, out_of, held_answer, held_array, held_after}
use Rattle.loader_held_run.specs.HeldRuns.{held_beginning, held_ran}
use Rattle.loader_held_ends.specs.HeldMission.{held_end}
use Rattle.loader_run.specs.declared.Job.{Job}
use Rattle.loader.specs.declared.Work.TheVariants.{Load}
use Rattle.loader_run.specs.Runs.{doing}

-- b may be handed to the step at c: the data that the model answers to a read; any after a write or where none are answered
abbrev pub HandedOn : Device → List ℕ → List ℕ → HeldConfig → ℕ → Type 0
HandedOn d w bs c b = (x : ℕ) → (out_of w bs c).kind ≡ Read → (held_answer d w bs c).seen ≡ Data x → b ≡ x

-- both records of a load under way
abbrev pub pair_in : HeldConfig → Pair
pair_in c = pair_of c.loader c.hold

module _ (verify : Bool) (j : Job) (xs w sc bs ps room : List ℕ) (size : ℕ) where
  -- the run after j cycles
  abbrev pub stepped_at : ℕ → HeldConfig
  stepped_at i = held_after i j.device w bs ps (held_beginning (doing (Load verify) j) xs sc room)

  -- whether it has ended by then
  abbrev pub stepped_over : ℕ → Bool
  stepped_over i = is_ended (stepped_at i).loader.stage

  -- where the run of the same load ends
  abbrev pub last : HeldConfig
  last = held_end verify j xs w sc bs ps room

  -- stepping by hand is the run, sentence by sentence
  pub record HeldStepped : Type 0 where
    -- the start gives the first records of the run and the cycle that is out there
    pub starts : start_held_response verify j.device.part j.pins j.block w sc bs size ≡ held_response (pair_in (stepped_at 0)) w bs
    -- the run is before its end for as many cycles as it counts, and no longer
    pub lasts : (i : ℕ) → (stepped_over i ≡ false) ↔ (i < (held_ran last).count)
    -- before its end the model takes the cycle that is out, answers a read by data, and leaves the run's next state and array
    pub takes : (i : ℕ) → stepped_over i ≡ false → is_refused (held_answer j.device w bs (stepped_at i)).seen ≡ false
    pub answers : (i : ℕ) → stepped_over i ≡ false → (out_of w bs (stepped_at i)).kind ≡ Read
        → (held_answer j.device w bs (stepped_at i)).seen
        ≡ Data (number_in (held_answer j.device w bs (stepped_at i)).seen)
    pub makes : (i : ℕ) → stepped_over i ≡ false → ((held_answer j.device w bs (stepped_at i)).state ≡ (stepped_at (suc i)).state)
        × (held_array j.device w bs (stepped_at i) ≡ (stepped_at (suc i)).bytes)
    -- no step is refused
    pub passes : (i : ℕ) → step_held_number (stepped_at i).loader (stepped_at i).hold (length w) (length (stepped_at i).scratch) bs size ≡ 0
    -- with those data handed on, the step gives the run's next records and the cycle that is out there, or the end
    pub steps : (i b : ℕ) → stepped_over i ≡ false → HandedOn j.device w bs (stepped_at i) b
        → step_held_response (stepped_at i).loader (stepped_at i).hold b w (stepped_at i).scratch ps bs size
        ≡ held_response (pair_in (stepped_at (suc i))) w bs
    -- and it leaves the run's scratch and room
    pub stores : (i b : ℕ) → stepped_over i ≡ false → HandedOn j.device w bs (stepped_at i) b
        → held_scratch (stepped_at i).hold.step (stepped_at i).loader (stepped_at i).hold b (length bs) w (stepped_at i).scratch
        ≡ (stepped_at (suc i)).scratch
    pub fills : (i b : ℕ) → stepped_over i ≡ false → HandedOn j.device w bs (stepped_at i) b
        → held_room (stepped_at i).hold.step (stepped_at i).loader.part.word (stepped_at i).hold b (stepped_at i).room
        ≡ (stepped_at (suc i)).room
    -- the step that ends gives the run's end and address
    pub ends : (i b : ℕ) → stepped_over i ≡ false → stepped_over (suc i) ≡ true → HandedOn j.device w bs (stepped_at i) b
        → (step_held_response (stepped_at i).loader (stepped_at i).hold b w (stepped_at i).scratch ps bs size).saying
        ≡ Over (held_ran last).end (held_ran last).address
    -- it comes after as many cycles as the run counts, and all is then as the run leaves it
    pub counts : (i : ℕ) → stepped_over i ≡ false → stepped_over (suc i) ≡ true → (held_ran last).count ≡ suc i
    pub leaves : (i : ℕ) → stepped_over i ≡ false → stepped_over (suc i) ≡ true → stepped_at (suc i) ≡ last
