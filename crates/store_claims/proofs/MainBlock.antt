-- The main block of a lent array, where no number of a run applies and the device is one of 1 to 4.
use mathlib.Core.Path.{◌≡◌, sym, ◌∙◌}
use mathlib.Core.Bool.{false, true}
use mathlib.Core.List.{List}
use Prim.Native.Nat.{ℕ, ◌+◌, ◌*◌, ◌≤◌}
use native.Mathlib.Omega.{arith}
use lib.ListN.{length, drop, length-drop}
use lib.Seq.{length-take-le}
use Rattle.device.specs.declared.Device.{Device}
use Rattle.device.specs.Parts.{is_large, size_of, length_of, start_of}
use Rattle.device.proofs.Claims.{blocks_end_inside}
use Rattle.units.specs.Units.{lent_in}
use Rattle.model_types.specs.declared.Pins.{Pins}
use Rattle.model_types.specs.declared.State.{State}
use Rattle.loader_run.specs.Runs.{lent_number}
use Rattle.loader_run.proofs.UnrefusedRun.{good}
use Rattle.store.specs.Stores.{main_of, change_job}
use Rattle.store_claims.specs.Calls.{places_for, places_at}
use Rattle.store_claims.proofs.StoreParts.{Plain, plain, known_part, lent_same}

pub record There (d : Device) (xs : List ℕ) (memory : ℕ) : Type 0 where
  pub small : Plain d.part
  pub inside : start_of d.part 3 + length_of d.part 3 ≤ length xs
  pub long : length (main_of d.part xs) ≡ length_of d.part 3
  pub whole : length_of d.part 3 ≡ 512 * places_for d.part
  pub places : places_for d.part ≡ places_at d.part.number
  pub memory_long : memory ≡ length_of d.part 3

pub there : (d : Device) (s : State) (p : Pins) (xs : List ℕ) (memory scratch : ℕ) → is_large d.part ≡ false → lent_number (change_job d s p) (length xs) memory scratch ≡ 0 → There d xs memory
there d s p xs memory scratch g z =
    let t = good (change_job d s p) (lent_in d.part.word (length xs)) (lent_in d.part.word memory) (lent_in d.part.word scratch) z in
    let q = plain d.part (known_part d t.known) g in
    let n = q.places in
    let l : length xs ≡ size_of d.part = sym (lent_same d.part.word (length xs) q.bytes) ∙ t.sized in
    let i : start_of d.part 3 + length_of d.part 3 ≤ length xs = omega (arith, l, blocks_end_inside d.part 3) in
    record {
      small = q;
      inside = i;
      long = length-take-le (length_of d.part 3) (drop (start_of d.part 3) xs) (omega (arith, i, length-drop (start_of d.part 3) xs));
      whole = omega arith;
      places = omega arith;
      memory_long = sym (lent_same d.part.word memory q.bytes) ∙ t.wanted;
    }
