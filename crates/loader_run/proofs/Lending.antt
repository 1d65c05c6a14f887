-- A run on lent bytes: where it is taken they are whole units, and what it leaves are those that the units make.
use mathlib.Core.Path.{◌≡◌, refl, sym, ap, ◌∙◌}
use mathlib.Core.Bool.{Bool, true, false}
use mathlib.Core.List.{List, []}
use Prim.Native.Nat.{ℕ, ◌<◌}
use native.Mathlib.Omega.{arith}
use lib.ListN.{length}
use lib.Dec.{eqb}
use borrow.Author.Tests.{eq-eqb, ne_eqb}
use Rattle.common.specs.Lists.{Bytes}
use Rattle.common.proofs.Choice.{if_true, if_false}
use Rattle.device.proofs.Claims.{blocks_end_inside}
use Rattle.units.specs.Units.{units, back, torn, lent, lent_in}
use Rattle.units.proofs.Widths.{lent_length, lent_is, lent_whole, back_units}
use Rattle.loader_steps.proofs.StartAndStep.{some_block}
use Rattle.loader_run.specs.declared.Ran.{Ran}
use Rattle.loader_run.specs.Turns.{Config}
use Rattle.loader_run.specs.Runs.{run_number, ran_by, driven, RunLeft, run_refused, lent_number, as_bytes, beginning, run_end, run_left, lent_run}
use Rattle.loader_run.proofs.UnrefusedRun.{good}
use Rattle.loader_run.proofs.Leaving.{left_made}
use Rattle.loader_run.specs.declared.Job.{Job}

-- no bytes are no units
pub none : (w : Bool) → units w [] ≡ []
none true = refl
none false = refl

module _ (j : Job) (array wanted scratch : List ℕ) where
  abbrev w : Bool
  w = j.device.part.word

  abbrev number : ℕ
  number = lent_number j (length array) (length wanted) (length scratch)

  -- the number as the code finds it
  pub number_lent : (n x y z : ℕ) → n ≡ run_number j x y z → x ≡ lent_in w (length array) → y ≡ lent_in w (length wanted) → z ≡ lent_in w (length scratch) → n ≡ number
  number_lent n x y z e a b c =
      e ∙ (λ i. run_number j (a i) (b i) (c i))

  -- where nothing is refused, all three have units
  pub some : number ≡ 0 → (0 < length (lent w array)) × (0 < length (lent w wanted)) × (0 < length (lent w scratch))
  some e =
      let g = good j (lent_in w (length array)) (lent_in w (length wanted)) (lent_in w (length scratch)) e in
      let h = some_block j.device.part j.block g.block in
      (omega (arith, g.sized, blocks_end_inside j.device.part j.block, lent_length w array), omega (arith, g.wanted, lent_length w wanted), omega (arith, g.scratch, lent_length w scratch))

  pub units_number : number ≡ 0 → run_number j (length (units w array)) (length (units w wanted)) (length (units w scratch)) ≡ 0
  units_number e =
      let h = some e in
      let a = lent_is w array h.0 in
      let b = lent_is w wanted h.1 in
      let c = lent_is w scratch h.2 in
      (λ i. run_number j (length (sym a i)) (length (sym b i)) (length (sym c i))) ∙ (λ i. run_number j (lent_length w array i) (lent_length w wanted i) (lent_length w scratch i)) ∙ e

  -- where it begins, in units
  abbrev from : Config
  from = beginning j (units w array) (units w scratch)

  -- what the run of the units leaves
  unit_left : number ≡ 0
      → run_left j (lent w array) (lent w wanted) (lent w scratch) ≡ record { ran = ran_by (driven j.device (units w wanted) from); bytes = (driven j.device (units w wanted) from).bytes; scratch = (driven j.device (units w wanted) from).scratch }
  unfolding run_end
  unit_left e =
      let h = some e in
      let a = lent_is w array h.0 in
      let b = lent_is w wanted h.1 in
      let c = lent_is w scratch h.2 in
      (λ i. run_left j (a i) (b i) (c i)) ∙ left_made j (units w array) (units w wanted) (units w scratch) (units_number e)

  pub lent_made : number ≡ 0 → lent_run j array wanted scratch ≡ as_bytes w (run_left j (lent w array) (lent w wanted) (lent w scratch))
  unfolding lent_run
  lent_made e = if_true (eqb number 0) (as_bytes w (run_left j (lent w array) (lent w wanted) (lent w scratch))) (run_refused number j.state array scratch) (eq-eqb number 0 e)

  pub lent_refused : (number ≡ 0 → ⊥) → lent_run j array wanted scratch ≡ run_refused number j.state array scratch
  unfolding lent_run
  lent_refused z = if_false (eqb number 0) (as_bytes w (run_left j (lent w array) (lent w wanted) (lent w scratch))) (run_refused number j.state array scratch) (ne_eqb number 0 z)

  made : number ≡ 0 → lent_run j array wanted scratch ≡ as_bytes w (record { ran = ran_by (driven j.device (units w wanted) from); bytes = (driven j.device (units w wanted) from).bytes; scratch = (driven j.device (units w wanted) from).scratch })
  made e = lent_made e ∙ ap (as_bytes w) (unit_left e)

  -- a loop over the units that leaves xs and ys is such a run
  pub ran_so : number ≡ 0 → (r : Ran) → r ≡ ran_by (driven j.device (units w wanted) from) → r ≡ (lent_run j array wanted scratch).ran
  ran_so e r q = q ∙ sym (ap (λ (x : RunLeft). x.ran) (made e))

  pub array_so : number ≡ 0 → (xs : List ℕ) → length xs ≡ length array → Bytes xs → units w xs ≡ (driven j.device (units w wanted) from).bytes → xs ≡ (lent_run j array wanted scratch).bytes
  array_so e xs n b q =
      let whole : torn w (length xs) ≡ false = ap (λ (m : ℕ). torn w m) n ∙ lent_whole w array (some e).0 in
      sym (back_units w xs whole b) ∙ ap (λ (us : List ℕ). back w us) q ∙ sym (ap (λ (x : RunLeft). x.bytes) (made e))

  pub scratch_so : number ≡ 0 → (ys : List ℕ) → length ys ≡ length scratch → Bytes ys → units w ys ≡ (driven j.device (units w wanted) from).scratch → ys ≡ (lent_run j array wanted scratch).scratch
  scratch_so e ys n b q =
      let whole : torn w (length ys) ≡ false = ap (λ (m : ℕ). torn w m) n ∙ lent_whole w scratch (some e).2 in
      sym (back_units w ys whole b) ∙ ap (λ (us : List ℕ). back w us) q ∙ sym (ap (λ (x : RunLeft). x.scratch) (made e))
