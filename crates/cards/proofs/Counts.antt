-- Cards 10 and 11: instances of the count of a good run, and of a good load alone.
use mathlib.Core.Path.{◌≡◌, refl, ap, ◌∙◌, ap₂}
use mathlib.Core.Bool.{Bool, true, false}
use mathlib.Core.List.{List, ◌∷◌}
use Prim.Native.Nat.{ℕ, zero, suc, ◌+◌, ◌*◌}
use native.Mathlib.Omega.{arith}
use lib.ListN.{length, replicate}
use Rattle.std.specs.Prelude.{if◌then◌else◌}
use Rattle.common.proofs.Choice.{unlike}
use Rattle.common.specs.Lists.{Bytes}
use Rattle.common.proofs.Bytes.{bytes_replicate}
use Rattle.device.specs.Parts.{row_of, is_large, shape_of, size_in, length_in, offset_in, start_in, unknown_part, unknown_device, size_of, length_of, start_of}
use Rattle.model_types.specs.Cells.{ones}
use Rattle.model_levels.specs.Levels.{at_twelve, bad_wp, vpp_low, vpp_high, bad_pins}
use Rattle.model_states.specs.States.{proper, improper, fresh_state, is_at_rest}
use Rattle.model_types.specs.declared.Mode.TheVariants.{Array}
use Rattle.loader_steps.specs.Front.{barred_pins, no_block, wrong_lengths}
use Rattle.loader_walk.specs.Walks.{rises_in}
use Rattle.loader_run.specs.declared.Ran.{Ran}
use Rattle.loader_run.specs.Runs.{run_number, run_first, job_of}
use Rattle.loader_run_claims.specs.Wear.{differing, held_in, formula, load_formula}
use Rattle.loader_run_claims.specs.Ends.{erased_from}
use Rattle.loader_run_claims.specs.Mission.{Start}
use Rattle.loader_run_claims.proofs.Starts.{taken_if}
use Rattle.loader_run_claims.proofs.SameBlock.{none_risen, none_differing}
use Rattle.loader_run_claims.proofs.Mission as mission
use Rattle.cards.specs.Table.{device_t, normal, same, Counts, Card10, Card11, LoadCounts, Loads}
use Rattle.loader.specs.declared.Work.TheVariants.{Load}

-- nothing refuses such a run
accepted : run_number (job_of (Load true) device_t fresh_state normal 1) 16384 512 512 ≡ 0
unfolding run_first row_of shape_of size_in length_in is_large unknown_part unknown_device size_of length_of vpp_low at_twelve vpp_high bad_wp bad_pins proper improper barred_pins no_block wrong_lengths
accepted = refl

supply : vpp_high device_t.part normal ≡ true
unfolding is_large at_twelve vpp_high
supply = refl

first : start_of device_t.part 1 ≡ 0x3A00
unfolding row_of shape_of size_in length_in offset_in start_in start_of
first = refl

starts : (xs w sc : List ℕ) → Bytes xs → length xs ≡ 16384 → length w ≡ 512 → length sc ≡ 512 → Bytes w → Start (job_of (Load true) device_t fresh_state normal 1) xs w sc
unfolding ones
starts xs w sc bx lx lw ls bytes = record {
  base = taken_if (job_of (Load true) device_t fresh_state normal 1) xs w sc (rw (lx, lw, ls) accepted) (omega arith) (omega arith) (λ (i : ℕ). omega (arith, bytes i)) (λ (i : ℕ). omega (arith, bx i));
  high = supply;
  unlock = λ (e : ◌≡◌ {A = ℕ} 1 0). absurd (omega arith);
}

-- what the block is found to hold
held_there : (xs w held : List ℕ) → length w ≡ 512 → held_in 0x3A00 512 xs ≡ held → held_in (start_of device_t.part 1) (length w) xs ≡ held
held_there xs w held lw h = ap (λ (a : ℕ). held_in a (length w) xs) first ∙ ap (λ (k : ℕ). held_in 0x3A00 k xs) lw ∙ h

counts : (n : ℕ) (erases : Bool) (held w : List ℕ) → length w ≡ 512 → Bytes w → formula device_t w held ≡ n → rises_in w held ≡ erases → Counts n erases held w
counts n erases held w lw bytes f r xs sc bx lx ls h =
    mission.ends_well_lem true (job_of (Load true) device_t fresh_state normal 1) xs w sc (starts xs w sc bx lx lw ls bytes)
    ∙ ap (λ (ys : List ℕ). result (formula device_t w ys) (rises_in w ys)) (held_there xs w held lw h)
    ∙ ap₂ result f r
  where
    result : ℕ → Bool → Ran
    result k e = record { count = k; end = 0; address = 0; state = is_at_rest (erased_from e 1 fresh_state) Array 128 }

load_counts : (n : ℕ) (held w : List ℕ) → length w ≡ 512 → Bytes w → load_formula device_t w held ≡ n → LoadCounts n held w
load_counts n held w lw bytes f xs sc bx lx ls h =
    let start = starts xs w sc bx lx lw ls bytes in
    let e = mission.ends_well_lem false (job_of (Load true) device_t fresh_state normal 1) xs w sc start in (
      ap (λ (r : Ran). r.count) e ∙ ap (λ (ys : List ℕ). load_formula device_t w ys) (held_there xs w held lw h) ∙ f,
      ap (λ (r : Ran). r.end) e,
      mission.scratch_wanted false (job_of (Load true) device_t fresh_state normal 1) xs w sc start,
    )

-- a block that holds what is wanted
level : (w : List ℕ) → length w ≡ 512 → formula device_t w w ≡ 1027
level w e = go (rises_in w w) (none_risen w)
  where
    go : (t : Bool) → t ≡ false → 2 * length w + 3 + (if t then 1 else 0) * (2 + 3) + differing (length w) 0 w (if t then replicate (length w) (ones device_t.part) else w) * (2 + 2) ≡ 1027
    go true q = absurd (unlike q)
    go false q = rw (none_differing (length w) 0 w, e) refl

load_level : (w : List ℕ) → length w ≡ 512 → load_formula device_t w w ≡ 514
load_level w e = let q = level w e in let b = mission.formula_load_verify device_t w w in omega arith

bytes_10 : Bytes (0x5A ∷ same 511 255)
bytes_10 zero = omega arith
bytes_10 (suc i) = bytes_replicate 511 255 (omega arith) i

-- the formula, computed
pub ten : Card10
unfolding rises_in ones
ten = counts _ _ (same 512 255) (0x5A ∷ same 511 255) refl bytes_10 refl refl

pub eleven : Card11
unfolding rises_in ones
eleven = (
  counts _ _ (same 512 0) (same 512 255) refl (bytes_replicate 512 255 (omega arith)) refl refl,
  λ (w : List ℕ) (e : length w ≡ 512) (b : Bytes w). counts _ _ w w e b (level w e) (none_risen w),
)

pub loads : Loads
unfolding rises_in ones
loads = (
  load_counts _ (same 512 255) (0x5A ∷ same 511 255) refl bytes_10 refl,
  load_counts _ (same 512 0) (same 512 255) refl (bytes_replicate 512 255 (omega arith)) refl,
  λ (w : List ℕ) (e : length w ≡ 512) (b : Bytes w). load_counts _ w w e b (load_level w e),
)
