-- A run that nothing refuses: where its block lies, and that what the stages come to is what the definition leaves.
use mathlib.Core.Path.{◌≡◌, refl, sym, ap, ◌∙◌}
use mathlib.Core.Bool.{Bool, true, false}
use mathlib.Core.List.{List}
use Prim.Native.Nat.{ℕ, ◌+◌, ◌*◌, ◌≤◌, ◌<◌}
use native.Mathlib.Omega.{arith}
use lib.ListN.{length}
use Rattle.common.specs.Lists.{Bytes, overwritten}
use Rattle.common.proofs.Numbers.{given_no_row}
use Rattle.device.specs.Parts.{start_of}
use Rattle.device.proofs.Claims.{blocks_end_inside}
use Rattle.units.specs.Units.{units, back, bytes_in, torn, lent}
use Rattle.units.proofs.Widths.{lent_is, lent_whole, back_units, whole, in_law, units_length}
use Rattle.loader_steps.proofs.SmallAddresses.{length_small}
use Rattle.loader_run.specs.declared.Ran.{Ran}
use Rattle.loader_run.specs.Runs.{run_rows, run_number, RunLeft, lent_number, as_bytes, run_first, run_left, lent_run, doing}
use Rattle.loader_run.proofs.UnrefusedRun.{Good, good}
use Rattle.loader_run.proofs.Lending.{units_number, some, lent_made, lent_refused}
use Rattle.loader_run_claims.specs.Ends.{ran_as, bytes_as, scratch_as, Whole}
use Rattle.loader_run_claims.proofs.Starts.{taken_if}
use Rattle.loader_run_claims.proofs.Lent.{units_cells}
use Rattle.loader_run_claims.proofs.Total.{every_end}
use Rattle.loader_verify_claims.specs.Verified.{units_read, verify_ran, Verified}
use Rattle.loader_verify_claims.proofs.Verifying as verifying
use Rattle.loader_quick.specs.Quick.{Placed, held_units, stages_made, stages_array, stages_scratch, refused_ran, Timed}
use Rattle.loader_run.specs.declared.Job.{Job}
use Rattle.loader.specs.declared.Work.{Work}
use Rattle.loader.specs.declared.Work.TheVariants.{Load, Verify}

twice : (word : Bool) (n : ℕ) → bytes_in word n ≤ 2 * n
twice true n = omega arith
twice false n = omega arith

module _ (j : Job) (array wanted scratch : List ℕ) (z : lent_number j (length array) (length wanted) (length scratch) ≡ 0) where
  abbrev w : Bool
  w = j.device.part.word

  abbrev X : List ℕ
  X = units w array

  abbrev W : List ℕ
  W = units w wanted

  abbrev S : List ℕ
  S = units w scratch

  n0 : run_number j (length X) (length W) (length S) ≡ 0
  n0 = units_number j array wanted scratch z

  g : Good j (length X) (length W) (length S)
  g = good j (length X) (length W) (length S) n0

  have : (0 < length (lent w array)) × (0 < length (lent w wanted)) × (0 < length (lent w scratch))
  have = some j array wanted scratch z

  bytes_wanted : length wanted ≡ bytes_in w (length W)
  bytes_wanted = whole w wanted (lent_whole w wanted have.1)

  bytes_scratch : length scratch ≡ bytes_in w (length S)
  bytes_scratch = whole w scratch (lent_whole w scratch have.2)

  inside : start_of j.device.part j.block + length W ≤ length X
  inside = omega (arith, g.wanted, g.sized, blocks_end_inside j.device.part j.block)

  pub placed : Placed j.device.part j.block (length array) (length wanted) (length scratch)
  placed =
      record {
        inside = in_law w array (start_of j.device.part j.block) (length W) _ (length wanted) refl bytes_wanted inside;
        fitting = omega (arith, inside, units_length w wanted, units_length w array);
        room = bytes_scratch ∙ ap (λ (n : ℕ). bytes_in w n) (g.scratch ∙ sym g.wanted) ∙ sym bytes_wanted;
        short = omega (arith, bytes_wanted, twice w (length W), g.wanted, length_small j.device.part j.block);
        whole = lent_whole w wanted have.1;
      }

  -- the run on lent bytes is that of their units, as bytes again
  made : lent_run j array wanted scratch ≡ as_bytes w (run_left j X W S)
  made =
      let e = lent_is w array have.0 in
      let f = lent_is w wanted have.1 in
      let h = lent_is w scratch have.2 in
      lent_made j array wanted scratch z ∙ (λ i. as_bytes w (run_left j (e i) (f i) (h i)))

  pub ran_so : (r : Ran) → r ≡ (run_left j X W S).ran → r ≡ (lent_run j array wanted scratch).ran
  ran_so r q = q ∙ sym (ap (λ (x : RunLeft). x.ran) made)

  pub array_so : (xs : List ℕ) → length xs ≡ length array → Bytes xs → units w xs ≡ (run_left j X W S).bytes → xs ≡ (lent_run j array wanted scratch).bytes
  array_so xs n b q =
      let t : torn w (length xs) ≡ false = ap (λ (m : ℕ). torn w m) n ∙ lent_whole w array have.0 in
      sym (back_units w xs t b) ∙ ap (λ (us : List ℕ). back w us) q ∙ sym (ap (λ (x : RunLeft). x.bytes) made)

  pub scratch_so : (ys : List ℕ) → length ys ≡ length scratch → Bytes ys → units w ys ≡ (run_left j X W S).scratch → ys ≡ (lent_run j array wanted scratch).scratch
  scratch_so ys n b q =
      let t : torn w (length ys) ≡ false = ap (λ (m : ℕ). torn w m) n ∙ lent_whole w scratch have.2 in
      sym (back_units w ys t b) ∙ ap (λ (us : List ℕ). back w us) q ∙ sym (ap (λ (x : RunLeft). x.scratch) made)

  -- every end of a load, and of a verify
  pub whole_run : (verify : Bool) → Timed j.device → Bytes wanted → Bytes array → Whole verify j X W S
  whole_run verify t bw bx = every_end verify j X W S (taken_if j X W S n0 t.0 t.1 (units_cells j.device.part wanted bw) (units_cells j.device.part array bx))

  pub verified_as : Bytes array → Verified j X W S
  unfolding run_first
  verified_as bx = verifying.verified j X W S (units_cells j.device.part array bx) (given_no_row (run_rows j (length X) (length W) (length S)) refl n0)

  pub array_whole : torn w (length array) ≡ false
  array_whole = lent_whole w array have.0

-- the run of a job with some work is that work's stages
pub staged_run : (j : Job) (array wanted scratch : List ℕ) → lent_number j (length array) (length wanted) (length scratch) ≡ 0 → (work : Work) → Timed j.device → Bytes wanted → Bytes array
    → lent_run (doing work j) array wanted scratch
    ≡ record {
      ran = (stages_made work j array wanted).ran;
      bytes = back j.device.part.word (stages_array work j array wanted);
      scratch = back j.device.part.word (stages_scratch work j array wanted scratch);
    }
staged_run j array wanted scratch z (Load verify) t bw bx =
    let h = whole_run j array wanted scratch z verify t bw bx in
    made (doing (Load verify) j) array wanted scratch z
    ∙ (λ i. record { ran = h.ran i; bytes = back j.device.part.word (h.bytes i); scratch = back j.device.part.word (h.scratch i) })
staged_run j array wanted scratch z Verify t bw bx =
    let h = verified_as j array wanted scratch z bx in
    made (doing Verify j) array wanted scratch z
    ∙ (λ i. record { ran = h.ran i; bytes = back j.device.part.word (h.bytes i); scratch = back j.device.part.word (h.scratch i) })

-- what a load returns and leaves, with or without the verify after it, is what the job's run does
pub load_so : (j : Job) (array wanted scratch : List ℕ) (z : lent_number j (length array) (length wanted) (length scratch) ≡ 0) (verify : Bool) → j.work ≡ Load verify
    → Timed j.device → Bytes wanted → Bytes array → (r : Ran) (xs ys : List ℕ) → length xs ≡ length array → Bytes xs → length ys ≡ length scratch → Bytes ys
    → r ≡ ran_as verify j (units j.device.part.word wanted) (held_units j.device.part j.block array wanted)
    → units j.device.part.word xs ≡ bytes_as j.device j.pins j.block (start_of j.device.part j.block) (units j.device.part.word wanted) (held_units j.device.part j.block array wanted) (units j.device.part.word array)
    → units j.device.part.word ys ≡ scratch_as j.device j.pins j.block (units j.device.part.word wanted) (held_units j.device.part j.block array wanted)
    → (r ≡ (lent_run j array wanted scratch).ran) × ((xs ≡ (lent_run j array wanted scratch).bytes) × (ys ≡ (lent_run j array wanted scratch).scratch))
load_so j array wanted scratch z verify e t bw bx r xs ys lx cx ly cy er ex ey =
    let h = whole_run j array wanted scratch z verify t bw bx in (
      ran_so (doing (Load verify) j) array wanted scratch z r (er ∙ sym h.ran) ∙ ap (λ (work : Work). (lent_run (doing work j) array wanted scratch).ran) (sym e),
      (
        array_so (doing (Load verify) j) array wanted scratch z xs lx cx (ex ∙ sym h.bytes) ∙ ap (λ (work : Work). (lent_run (doing work j) array wanted scratch).bytes) (sym e),
        scratch_so (doing (Load verify) j) array wanted scratch z ys ly cy (ey ∙ sym h.scratch) ∙ ap (λ (work : Work). (lent_run (doing work j) array wanted scratch).scratch) (sym e),
      ),
    )

-- .. and so is a verify alone
pub verify_so : (j : Job) (array wanted scratch : List ℕ) (z : lent_number j (length array) (length wanted) (length scratch) ≡ 0) → j.work ≡ Verify → Bytes array
    → (r : Ran) (ys : List ℕ) → length ys ≡ length scratch → Bytes ys
    → r ≡ verify_ran j.device.part j.state (start_of j.device.part j.block) (units j.device.part.word wanted) (held_units j.device.part j.block array wanted)
    → units j.device.part.word ys ≡ overwritten (units_read (units j.device.part.word wanted) (held_units j.device.part j.block array wanted)) (held_units j.device.part j.block array wanted) (units j.device.part.word scratch)
    → (r ≡ (lent_run j array wanted scratch).ran) × ((array ≡ (lent_run j array wanted scratch).bytes) × (ys ≡ (lent_run j array wanted scratch).scratch))
verify_so j array wanted scratch z e bx r ys ly cy er ey =
    let h = verified_as j array wanted scratch z bx in (
      ran_so (doing Verify j) array wanted scratch z r (er ∙ sym h.ran) ∙ ap (λ (work : Work). (lent_run (doing work j) array wanted scratch).ran) (sym e),
      (
        array_so (doing Verify j) array wanted scratch z array refl bx (sym h.bytes) ∙ ap (λ (work : Work). (lent_run (doing work j) array wanted scratch).bytes) (sym e),
        scratch_so (doing Verify j) array wanted scratch z ys ly cy (ey ∙ sym h.scratch) ∙ ap (λ (work : Work). (lent_run (doing work j) array wanted scratch).scratch) (sym e),
      ),
    )

-- a run that is refused
pub refused_as : (j : Job) (array wanted scratch : List ℕ) (m : ℕ) (r : Ran)
    → m ≡ lent_number j (length array) (length wanted) (length scratch) → (m ≡ 0 → ⊥) → r ≡ refused_ran m j.state
    → (r ≡ (lent_run j array wanted scratch).ran)
    × ((array ≡ (lent_run j array wanted scratch).bytes) × (scratch ≡ (lent_run j array wanted scratch).scratch))
refused_as j array wanted scratch m r e z q =
    let l = lent_refused j array wanted scratch (λ h. z (e ∙ h)) in (
      q ∙ ap (λ (x : ℕ). refused_ran x j.state) e ∙ sym (ap (λ (x : RunLeft). x.ran) l),
      (sym (ap (λ (x : RunLeft). x.bytes) l), sym (ap (λ (x : RunLeft). x.scratch) l)),
    )
