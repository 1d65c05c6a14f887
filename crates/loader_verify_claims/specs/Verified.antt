-- How a verify alone that nothing refuses ends. All lists are of units.
use Rattle.std.specs.Prelude.{◌≡◌, true, List, [], ℕ, ◌+◌, ◌%◌, ◌<◌, eqb, length, get_or, if◌then◌else◌}
use Rattle.units.specs.Address.{byte_at}
use Rattle.device.specs.declared.Part.{Part}
use Rattle.common.specs.Lists.{overwritten}
use Rattle.device.specs.Parts.{start_of}
use Rattle.model_types.specs.declared.Mode.TheVariants.{Array}
use Rattle.model_types.specs.declared.State.{State}
use Rattle.model_states.specs.States.{is_at_rest}
use Rattle.loader_walk.specs.Walks.{diff_from}
use Rattle.loader_run.specs.declared.Ran.{Ran}
use Rattle.loader_run_claims.specs.Wear.{begun_at, held_in}
use Rattle.loader_run_claims.specs.Made.{cycles_at, smooth_at, closing_of}
use Rattle.loader_run_claims.specs.Ends.{as_wanted}
use Rattle.loader.specs.declared.Work.TheVariants.{Verify}
use Rattle.loader_run.specs.declared.Job.{Job}
use Rattle.loader_run.specs.Runs.{run_left, doing}

-- the units that it reads: all where the block holds what is wanted, else up to and with the first that differs
unfoldable pub units_read : List ℕ → List ℕ → ℕ
units_read w ys = if as_wanted w ys then length w else diff_from 0 w ys + 1

-- its end: well, or 25 .. (R-number-25)
unfoldable pub verify_end : List ℕ → List ℕ → ℕ
verify_end w ys = if as_wanted w ys then 0 else 25

-- the byte address of the first byte that differs between what is held and wanted at an address: in word mode the low byte's, or the
-- next where the low bytes are the same
abbrev pub byte_apart : Part → ℕ → ℕ → ℕ → ℕ
byte_apart part x held wanted = byte_at part.word x (eqb (held % 256) (wanted % 256))

-- .. with the byte address of the first byte that differs, in a block at a
unfoldable pub verify_address : Part → ℕ → List ℕ → List ℕ → ℕ
verify_address part a w ys = if as_wanted w ys then 0
    else byte_apart part (a + diff_from 0 w ys) (get_or ys (diff_from 0 w ys) 0) (get_or w (diff_from 0 w ys) 0)

-- what it returns: FFH and the reads counted, mode read array, the status as before with its old error bits
abbrev pub verify_ran : Part → State → ℕ → List ℕ → List ℕ → Ran
verify_ran part s a w ys =
    record { count = 1 + units_read w ys; end = verify_end w ys; address = verify_address part a w ys; state = is_at_rest s Array s.status }

-- a verify alone of block k, sentence by sentence (R-load-4)
pub record Verified (j : Job) (xs w sc : List ℕ) : Type 0 where
  -- what it returns
  pub ran : (run_left (doing Verify j) xs w sc).ran
      ≡ verify_ran j.device.part j.state (start_of j.device.part j.block) w
      (held_in (start_of j.device.part j.block) (length w) xs)
  -- the array is as before
  pub bytes : (run_left (doing Verify j) xs w sc).bytes ≡ xs
  -- scratch holds what was read of the block, and stays behind it
  pub scratch : (run_left (doing Verify j) xs w sc).scratch
      ≡ overwritten (units_read w (held_in (start_of j.device.part j.block) (length w) xs))
      (held_in (start_of j.device.part j.block) (length w) xs) sc
  -- it begins no operation
  pub begins : begun_at (doing Verify j) xs w sc ≡ []
  -- its cycles are FFH and the reads; the model takes them all and nothing is cut
  pub made : cycles_at (doing Verify j) xs w sc
      ≡ closing_of j.pins (start_of j.device.part j.block)
      (units_read w (held_in (start_of j.device.part j.block) (length w) xs))
  pub smooth : smooth_at (doing Verify j) xs w sc ≡ true

-- a verify that ends 25: i is the first place where the block differs from what is wanted
pub record Met (j : Job) (xs w sc : List ℕ) (i : ℕ) : Type 0 where
  pub inside : i < length w
  pub differs : get_or (held_in (start_of j.device.part j.block) (length w) xs) i 0 ≡ get_or w i 0 → ⊥
  pub same_before : (m : ℕ) → m < i → get_or (held_in (start_of j.device.part j.block) (length w) xs) m 0 ≡ get_or w m 0
  -- the address of the byte that differs is given, and the cycles are FFH and i + 1 reads
  pub ran : (run_left (doing Verify j) xs w sc).ran ≡ record {
    count = i + 2;
    end = 25;
    address =
        byte_apart j.device.part (start_of j.device.part j.block
        + i) (get_or (held_in (start_of j.device.part j.block) (length w) xs) i 0) (get_or w i 0);
    state = is_at_rest j.state Array j.state.status;
  }
  -- scratch is the block up to and with that unit, and as before behind it
  pub scratch : (run_left (doing Verify j) xs w sc).scratch
      ≡ overwritten (i + 1) (held_in (start_of j.device.part j.block) (length w) xs) sc
