-- Demand 3 of a run on lent bytes, in byte mode and in word mode: the start that it speaks of, and what it demands, told in bytes and,
-- where cycles and operations are counted, in units.
use Rattle.std.specs.Prelude.{◌≡◌, Bool, true, List, ℕ, ◌+◌, ◌≤◌, ◌<◌, length, get_or}
use Rattle.common.specs.Lists.{overlaid, Bytes}
use Rattle.common.specs.Numbers.{NoRow}
use Rattle.device.specs.Parts.{length_of, start_of}
use Rattle.units.specs.Units.{units, bytes_in}
use Rattle.units.specs.Address.{byte_of}
use Rattle.model_levels.specs.Levels.{vpp_high, unlocked}
use Rattle.loader_walk.specs.Walks.{rises_in}
use Rattle.loader_run.specs.Runs.{lent_rows, lent_run, doing}
use Rattle.loader_run_claims.specs.Wear.{held_in, formula_by}
use Rattle.loader_run_claims.specs.Ends.{end_mode, erased_from}
use Rattle.loader_run_claims.specs.Mission.{Demand3}
use Rattle.model_states.specs.States.{is_at_rest}
use Rattle.loader.specs.declared.Work.TheVariants.{Load}
use Rattle.loader_run.specs.declared.Job.{Job}

-- no number refuses the run; VPP is high, in either band where there are two, and the boot block is unlocked if it is the one. The rest is
-- so of all that code can be handed: bytes, and busy times of 16 bits
pub record LentStart (j : Job) (array wanted scratch : List ℕ) : Type 0 where
  pub accepted : NoRow (lent_rows j (length array) (length wanted) (length scratch))
  pub high : vpp_high j.device.part j.pins ≡ true
  pub unlock : j.block ≡ 0 → unlocked j.device.part j.pins 0 ≡ true
  pub array_bytes : Bytes array
  pub wanted_bytes : Bytes wanted
  pub programs : j.device.program ≤ 65535
  pub erases : j.device.erase ≤ 65535

-- what the run on lent bytes returns and leaves: block k begins at byte `from`
module _ (verify : Bool) (j : Job) (array wanted scratch : List ℕ) where
  -- the byte at which block k begins
  abbrev pub from : ℕ
  from = byte_of j.device.part.word (start_of j.device.part j.block)

  -- demand 3 of a run, in lent bytes
  pub record LentDemand3 : Type 0 where
    -- it ends well
    pub well : (lent_run (doing (Load verify) j) array wanted scratch).ran.end ≡ 0
    -- the block holds the wanted bytes, which are as many as the block has
    pub sized : length wanted ≡ bytes_in j.device.part.word (length_of j.device.part j.block)
    pub block : held_in from (length wanted) (lent_run (doing (Load verify) j) array wanted scratch).bytes ≡ wanted
    -- every other byte is as before
    pub before : (x : ℕ) → x < from → get_or (lent_run (doing (Load verify) j) array wanted scratch).bytes x 0 ≡ get_or array x 0
    pub behind : (x : ℕ) → from + length wanted ≤ x → get_or (lent_run (doing (Load verify) j) array wanted scratch).bytes x 0
        ≡ get_or array x 0
    -- .. so the array is the old one with the wanted bytes laid over the block
    pub array_left : (lent_run (doing (Load verify) j) array wanted scratch).bytes ≡ overlaid array from wanted
    -- scratch ends as wanted
    pub scratch_left : (lent_run (doing (Load verify) j) array wanted scratch).scratch ≡ wanted
    -- all that it returns, with what the block held in units: mode read array after the verify, status 80H, and one erase more of that
    -- block where some bit must rise
    pub returned : (lent_run (doing (Load verify) j) array wanted scratch).ran
        ≡ record {
          count =
              formula_by verify j.device (units j.device.part.word wanted)
              (held_in (start_of j.device.part j.block) (length_of j.device.part j.block)
              (units j.device.part.word array));
          end = 0;
          address = 0;
          state =
              is_at_rest (erased_from
              (rises_in (units j.device.part.word wanted)
              (held_in (start_of j.device.part j.block) (length_of j.device.part j.block)
              (units j.device.part.word array))) j.block j.state)
              (end_mode verify (units j.device.part.word wanted)
              (held_in (start_of j.device.part j.block) (length_of j.device.part j.block)
              (units j.device.part.word array))) 0x80;
        }
    -- the count, by the formula: n is the units of the block, and the programs counted are those of units that differ
    pub by_formula : (lent_run (doing (Load verify) j) array wanted scratch).ran.count
        ≡ formula_by verify j.device (units j.device.part.word wanted)
        (held_in (start_of j.device.part j.block) (length_of j.device.part j.block) (units j.device.part.word array))
    -- and every clause of demand 3 holds of the units that were lent: the operations begun, the cycles made, and that nothing wears less
    pub of_units : Demand3 verify j (units j.device.part.word array) (units j.device.part.word wanted)
        (units j.device.part.word scratch)
