-- Demand 3 through a file: the start that it speaks of, and what a good load returns and leaves.
use Rattle.std.specs.Prelude.{◌≡◌, true, List, ℕ, ◌+◌, ◌≤◌, ◌<◌, length, get_or}
use Rattle.common.specs.Lists.{Bytes}
use Rattle.common.specs.Numbers.{NoRow}
use Rattle.device.specs.declared.Device.{Device}
use Rattle.device.specs.Parts.{length_of, start_of}
use Rattle.model_types.specs.declared.Mode.TheVariants.{Array}
use Rattle.model_levels.specs.Levels.{vpp_high, unlocked}
use Rattle.model_states.specs.States.{is_at_rest}
use Rattle.units.specs.Units.{units}
use Rattle.units.specs.Address.{byte_of}
use Rattle.loader_walk.specs.Walks.{rises_in}
use Rattle.loader_run.specs.Runs.{lent_run, doing}
use Rattle.loader_run_claims.specs.Wear.{held_in, formula}
use Rattle.loader_run_claims.specs.Ends.{erased_from}
use Rattle.loader_run_claims.specs.Lent.{LentDemand3}
use Rattle.loader_from_file.specs.Loads.{load_rows, wanted_of, load_made, load_left}
use Rattle.loader.specs.declared.Work.TheVariants.{Load}
use Rattle.loader_run.specs.declared.Job.{Job}

-- a load that nothing refuses, on bytes, with busy times of 16 bits, VPP high, and the boot block unlocked if it is the one
pub record FileStart (j : Job) (xs w sc f : List ℕ) (asked : ℕ) : Type 0 where
  pub accepted : NoRow (load_rows j (length xs) (length w) (length sc) f asked)
  pub bytes : Bytes f
  pub array : Bytes xs
  pub programs : j.device.program ≤ 65535
  pub erases : j.device.erase ≤ 65535
  pub high : vpp_high j.device.part j.pins ≡ true
  pub unlock : j.block ≡ 0 → unlocked j.device.part j.pins 0 ≡ true

-- the byte address of the block's first byte
abbrev pub first_of : Device → ℕ → ℕ
first_of d k = byte_of d.part.word (start_of d.part k)

-- all of demand 3 holds of the run with the file and FFH as what is wanted, and the load leaves what that run leaves: ended well in the
-- formula's cycles, counted in units, with one erase more of the block where some bit must rise; block, wanted and scratch hold the file
-- and FFH to the end, every byte outside is as before (R-demand-3)
pub record FileLoaded (j : Job) (xs w sc f : List ℕ) (asked : ℕ) : Type 0 where
  pub ran : (load_left (doing (Load true) j) xs w sc f asked).ran
      ≡ record {
        count =
            formula j.device (units j.device.part.word (wanted_of f (length w)))
            (held_in (start_of j.device.part j.block) (length_of j.device.part j.block) (units j.device.part.word xs));
        end = 0;
        address = 0;
        state =
            is_at_rest (erased_from
            (rises_in (units j.device.part.word (wanted_of f (length w)))
            (held_in (start_of j.device.part j.block) (length_of j.device.part j.block)
            (units j.device.part.word xs))) j.block j.state) Array 0x80;
      }
  pub holds : held_in (first_of j.device j.block) (length w) (load_left (doing (Load true) j) xs w sc f asked).bytes
      ≡ wanted_of f (length w)
  pub before : (x : ℕ) → x < first_of j.device j.block → get_or (load_left (doing (Load true) j) xs w sc f asked).bytes x 0 ≡ get_or xs x 0
  pub behind : (x : ℕ) → first_of j.device j.block + length w ≤ x → get_or (load_left (doing (Load true) j) xs w sc f asked).bytes x 0
      ≡ get_or xs x 0
  pub wanted : (load_left (doing (Load true) j) xs w sc f asked).wanted ≡ wanted_of f (length w)
  pub scratch : (load_left (doing (Load true) j) xs w sc f asked).scratch ≡ wanted_of f (length w)
  pub demand : LentDemand3 true j xs (wanted_of f (length w)) sc
  pub left : load_left (doing (Load true) j) xs w sc f asked
      ≡ load_made (lent_run (doing (Load true) j) xs (wanted_of f (length w)) sc) (wanted_of f (length w))
