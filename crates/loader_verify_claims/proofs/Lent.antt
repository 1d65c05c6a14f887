-- A verify on lent bytes of either width: it ends well exactly where the block holds the wanted bytes.
use mathlib.Core.Path.{◌≡◌, refl, sym, ap, ◌∙◌, subst}
use mathlib.Core.Bool.{Bool, true, false, ◌&&◌}
use mathlib.Core.List.{List}
use mathlib.Core.Logic.{◌↔◌}
use Prim.Native.Nat.{ℕ, ◌+◌, ◌≤◌, ◌<◌, ◌%◌}
use native.Mathlib.Omega.{arith}
use lib.ListN.{length, drop, get_or, length-drop}
use Rattle.common.specs.Lists.{Bytes}
use Rattle.common.specs.Numbers.{NoRow}
use Rattle.common.proofs.Numbers.{no_row_given, given_no_row}
use Rattle.common.proofs.Bytes.{bytes_take, bytes_drop}
use Rattle.device.specs.Parts.{length_of, start_of}
use Rattle.device.proofs.Claims.{blocks_end_inside}
use Rattle.units.specs.Units.{units, bytes_in, torn, lent}
use Rattle.units.specs.Address.{byte_of, byte_at}
use Rattle.units.proofs.Widths.{lent_is, lent_whole, whole, no_spare, same_bytes, in_law}
use Rattle.loader_run.specs.declared.Ran.{Ran}
use Rattle.loader_run.specs.Runs.{run_rows, run_number, lent_rows, lent_number, run_first, run_left, lent_run, doing}
use Rattle.loader_run.proofs.UnrefusedRun.{good}
use Rattle.loader_run.proofs.Lending.{units_number, some}
use Rattle.loader_run.proofs.Borders.{lent_ran}
use Rattle.loader_run_claims.specs.Wear.{held_in, held_by}
use Rattle.loader_run_claims.proofs.Lent.{units_cells, held_units_lem}
use Rattle.loader_verify_claims.proofs.Verifying.{well_exactly, first_difference}
use Rattle.loader_verify_claims.proofs.FirstDifference.{first_byte}
use Rattle.loader_verify_claims.specs.Lent.{LentMet}
use Rattle.std.specs.Prelude.{if◌then◌else◌}
use Rattle.loader_walk.specs.Walks.{diff_from}
use lib.Dec.{eqb}
use lib.Seq.{length-take-le}
use Rattle.loader.specs.declared.Work.TheVariants.{Verify}
use Rattle.loader_run.specs.declared.Job.{Job}

module _ (j : Job) (array wanted scratch : List ℕ) (bx : Bytes array) (bw : Bytes wanted) (free : NoRow (lent_rows j (length array) (length wanted) (length scratch))) where
  abbrev w : Bool
  w = j.device.part.word

  abbrev a : ℕ
  a = start_of j.device.part j.block

  abbrev from : ℕ
  from = byte_of w a

  none : lent_number j (length array) (length wanted) (length scratch) ≡ 0
  unfolding run_first
  none = no_row_given free

  n0 : run_number j (length (units w array)) (length (units w wanted)) (length (units w scratch)) ≡ 0
  n0 = units_number (doing Verify j) array wanted scratch none

  pub rows : NoRow (run_rows j (length (units w array)) (length (units w wanted)) (length (units w scratch)))
  unfolding run_first
  rows = given_no_row (run_rows j (length (units w array)) (length (units w wanted)) (length (units w scratch))) refl n0

  have : (0 < length (lent w array)) × (0 < length (lent w wanted)) × (0 < length (lent w scratch))
  have = some (doing Verify j) array wanted scratch none

  -- what the verify on lent bytes returns is what the one on units does
  pub verify_ran_lem : (lent_run (doing Verify j) array wanted scratch).ran ≡ (run_left (doing Verify j) (units w array) (units w wanted) (units w scratch)).ran
  verify_ran_lem =
      let e = lent_is w array have.0 in
      let f = lent_is w wanted have.1 in
      let g = lent_is w scratch have.2 in
      lent_ran (doing Verify j) array wanted scratch ∙ (λ i. (run_left (doing Verify j) (e i) (f i) (g i)).ran)

  lw : length (units w wanted) ≡ length_of j.device.part j.block
  lw = (good j (length (units w array)) (length (units w wanted)) (length (units w scratch)) n0).wanted

  torn_not : torn w (length wanted) ≡ false
  torn_not = lent_whole w wanted have.1

  pub bytes_wanted : length wanted ≡ bytes_in w (length (units w wanted))
  bytes_wanted = whole w wanted torn_not

  pub inside_bytes : from + length wanted ≤ length array
  inside_bytes =
      in_law w array a (length (units w wanted)) from (length wanted) refl bytes_wanted
      (omega (arith, lw, (good j (length (units w array)) (length (units w wanted)) (length (units w scratch)) n0).sized, blocks_end_inside j.device.part j.block))

  held_is : units w (held_in from (length wanted) array) ≡ held_by j.device.part j.block (units w array)
  held_is =
      ap (λ (n : ℕ). units w (held_in from n array)) bytes_wanted ∙ held_units_lem w array a (length (units w wanted)) ∙ ap (λ (n : ℕ). held_in a n (units w array)) lw

  long : length (held_in from (length wanted) array) ≡ length wanted
  long = length-take-le (length wanted) (drop from array) (omega (arith, length-drop from array, inside_bytes))

  pub lent_well_exactly : ((lent_run (doing Verify j) array wanted scratch).ran.end ≡ 0) ↔ (held_in from (length wanted) array ≡ wanted)
  lent_well_exactly =
      let inner = well_exactly j (units w array) (units w wanted) (units w scratch) (units_cells j.device.part array bx) rows in (
        λ e. same_bytes w (held_in from (length wanted) array) wanted (bytes_take (length wanted) (drop from array) (bytes_drop from array bx)) bw
            (held_is ∙ inner.0 (sym (ap (λ (r : Ran). r.end) verify_ran_lem) ∙ e))
            (no_spare w (held_in from (length wanted) array) (ap (λ (n : ℕ). torn w n) long ∙ torn_not) ∙ sym (no_spare w wanted torn_not)),
        λ e. ap (λ (r : Ran). r.end) verify_ran_lem ∙ inner.1 (sym held_is ∙ ap (λ (z : List ℕ). units w z) e),
      )

  -- what the block holds in units, and the first of them that differs
  abbrev H : List ℕ
  H = held_in a (length (units w wanted)) (units w array)

  abbrev met : ℕ
  met = diff_from 0 (units w wanted) H

  -- and the first byte
  abbrev pub place : ℕ
  place = bytes_in w met + (if w && eqb (get_or H met 0 % 256) (get_or (units w wanted) met 0 % 256) then 1 else 0)

  apart : (t : Bool) (x y : ℕ) (same : Bool) → byte_at t (x + y) same ≡ byte_of t x + (bytes_in t y + (if t && same then 1 else 0))
  apart true x y true = omega arith
  apart true x y false = omega arith
  apart false x y same = omega arith

  pub lent_first_difference : (held_in from (length wanted) array ≡ wanted → ⊥) → LentMet j array wanted scratch place
  lent_first_difference z =
      let m = first_difference j (units w array) (units w wanted) (units w scratch) (units_cells j.device.part array bx) rows (λ e. z (lent_well_exactly.0 (again e))) in
      record {
        first = first_byte w array wanted bx bw a (length (units w wanted)) (subst (λ (n : ℕ). from + n ≤ length array) bytes_wanted inside_bytes) bytes_wanted met m.inside m.differs m.same_before;
        ended = ap (λ (r : Ran). r.end) (verify_ran_lem ∙ m.ran);
        address = ap (λ (r : Ran). r.address) (verify_ran_lem ∙ m.ran) ∙ apart w a met (eqb (get_or H met 0 % 256) (get_or (units w wanted) met 0 % 256));
      }
    where
      again : held_by j.device.part j.block (units w array) ≡ units w wanted → (lent_run (doing Verify j) array wanted scratch).ran.end ≡ 0
      again e = ap (λ (r : Ran). r.end) verify_ran_lem ∙ (well_exactly j (units w array) (units w wanted) (units w scratch) (units_cells j.device.part array bx) rows).1 e
