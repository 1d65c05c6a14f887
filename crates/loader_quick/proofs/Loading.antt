-- What a load comes to, stage by stage, is what every end of a load is.
use mathlib.Core.Path.{◌≡◌, refl, sym, ap, ◌∙◌}
use mathlib.Core.Bool.{Bool, true, false, ◌||◌}
use mathlib.Core.List.{List}
use Prim.Native.Nat.{ℕ, zero, suc, ◌+◌, ◌*◌, ◌≤◌, ◌<◌}
use native.Mathlib.Nat.{zero-mul, one-mul, add-mul, zero-add}
use native.Mathlib.Omega.{arith}
use lib.ListN.{length, get_or, replicate}
use lib.Dec.{eqb, ltb}
use borrow.Author.Tests.{eq-eqb, ne_eqb, ltb-true, ltb-false}
use Rattle.std.specs.Prelude.{if◌then◌else◌}
use Rattle.common.proofs.Choice.{if_true, if_false, if_ind, or_left, or_right}
use Rattle.common.specs.Lists.{overlaid}
use Rattle.device.specs.declared.Part.{Part}
use Rattle.device.specs.declared.Device.{Device}
use Rattle.model_types.specs.declared.Pins.{Pins}
use Rattle.model_types.specs.declared.Mode.TheVariants.{Array, Status}
use Rattle.model_types.specs.Cells.{ones}
use Rattle.units.specs.Units.{top}
use Rattle.model_levels.specs.Levels.{vpp_low}
use Rattle.model_states.specs.States.{is_at_rest}
use Rattle.loader_walk.specs.Walks.{rises_in, diff_from}
use Rattle.loader_blocks.specs.Blocks.{costs, work_costs, work_done}
use Rattle.loader_blocks.proofs.Laws.{costs_most}
use Rattle.loader_run.specs.declared.Ran.{Ran}
use Rattle.loader_run_claims.specs.Wear.{differing, erases_of, programs_in, formula, load_formula}
use Rattle.loader_run_claims.specs.Ends.{as_wanted, shut, end_number, fault_status, loaded_mode, erased_from, well_ran, fault_ran, ran_as, bytes_as, scratch_as}
use Rattle.loader_run_claims.proofs.SameBlock.{same_list, none_risen, none_differing, none_ahead, some_ahead, risen_differs}
use Rattle.loader_quick.specs.Quick.{stuck_by, fault_end, fault_bits, looked_at, tried_of, mode_by, finished_of, Timed}
use Rattle.loader_run.specs.declared.Job.{Job}

-- what the programs cost is a product, and nothing exactly where no unit differs
costs_are : (k each i : ℕ) (w s : List ℕ) → costs k each i w s ≡ differing k i w s * each
costs_are zero each i w s = sym (zero-mul each)
costs_are (suc k) each i w s = go (eqb (get_or s i 0) (get_or w i 0)) (costs_are k each (i + 1) w s)
  where
    go : (t : Bool) → costs k each (i + 1) w s ≡ differing k (i + 1) w s * each
        → (if t then 0 else each) + costs k each (i + 1) w s ≡ ((if t then 0 else 1) + differing k (i + 1) w s) * each
    go true e = rw e (let z = zero-add (differing k (i + 1) w s) in rw z (omega arith))
    go false e = rw (e, add-mul 1 (differing k (i + 1) w s) each, one-mul each) refl

costs_none : (k each i : ℕ) (w s : List ℕ) → 0 < each → eqb (costs k each i w s) 0 ≡ eqb (differing k i w s) 0
costs_none zero each i w s h = refl
costs_none (suc k) each i w s h = go (eqb (get_or s i 0) (get_or w i 0)) (costs_none k each (i + 1) w s h)
  where
    go : (t : Bool) → eqb (costs k each (i + 1) w s) 0 ≡ eqb (differing k (i + 1) w s) 0
        → eqb ((if t then 0 else each) + costs k each (i + 1) w s) 0 ≡ eqb ((if t then 0 else 1) + differing k (i + 1) w s) 0
    go true e = rw (zero-add (costs k each (i + 1) w s), zero-add (differing k (i + 1) w s)) e
    go false e = ne_eqb (each + costs k each (i + 1) w s) 0 (λ (q : each + costs k each (i + 1) w s ≡ 0). omega arith) ∙ sym (ne_eqb (1 + differing k (i + 1) w s) 0 (λ (q : 1 + differing k (i + 1) w s ≡ 0). omega arith))

is_wanted : (w ys : List ℕ) → as_wanted w ys ≡ eqb (differing (length w) 0 w ys) 0
unfolding as_wanted
is_wanted w ys = refl

module _ (part : Part) (once each : ℕ) (w ys : List ℕ) where
  pub work_most : once ≤ 65537 → each ≤ 65537 → work_costs part.word once each w ys ≤ 65537 + length w * 4294967295
  unfolding work_costs
  work_most o e =
      if_ind (λ (n : ℕ). n ≤ 65537 + length w * 4294967295) (rises_in w ys) (once + costs (length w) each 0 w (replicate (length w) (top part.word))) (costs (length w) each 0 w ys)
      (λ q. let m = costs_most (length w) each 0 w (replicate (length w) (top part.word)) (let x : each ≤ 4294967295 = omega arith in x) in omega arith)
      (λ q. let m = costs_most (length w) each 0 w ys (let x : each ≤ 4294967295 = omega arith in x) in omega arith)

  work_cost : work_costs part.word once each w ys ≡ erases_of w ys * once + programs_in part w ys * each
  unfolding work_costs ones
  work_cost = go (rises_in w ys)
    where
      go : (t : Bool) → (if t then once + costs (length w) each 0 w (replicate (length w) (top part.word)) else costs (length w) each 0 w ys)
          ≡ (if t then 1 else 0) * once + differing (length w) 0 w (if t then replicate (length w) (top part.word) else ys) * each
      go true = rw (one-mul once, costs_are (length w) each 0 w (replicate (length w) (top part.word))) refl
      go false = rw (zero-mul once, costs_are (length w) each 0 w ys) (sym (zero-add (differing (length w) 0 w ys * each)))

  work_mode : length ys ≡ length w → 0 < once → 0 < each → mode_by (work_costs part.word once each w ys) ≡ loaded_mode w ys
  unfolding mode_by work_costs
  work_mode l o h = go (rises_in w ys) refl
    where
      R : List ℕ
      R = replicate (length w) (top part.word)

      go : (t : Bool) → rises_in w ys ≡ t → (if eqb (if rises_in w ys then once + costs (length w) each 0 w R else costs (length w) each 0 w ys) 0 then Array else Status) ≡ loaded_mode w ys
      go true e =
          rw e (if_false (eqb (once + costs (length w) each 0 w R) 0) Array Status (ne_eqb (once + costs (length w) each 0 w R) 0 (λ (q : once + costs (length w) each 0 w R ≡ 0). omega arith)) ∙ sym (if_false (as_wanted w ys) Array Status (risen_differs w ys l e)))
      go false e = rw e (ap (λ (b : Bool). if b then Array else Status) (costs_none (length w) each 0 w ys h ∙ sym (is_wanted w ys)))

-- no run makes more cycles, of a block that is no longer than any
pub formula_most : (d : Device) (w ys : List ℕ) → Timed d → length w ≤ 1048576 → formula d w ys ≤ 4503603929972731
formula_most d w ys t l =
    let c = work_cost d.part (2 + d.erase) (2 + d.program) w ys in
    let m = work_most d.part (2 + d.erase) (2 + d.program) w ys (omega (arith, t.1)) (omega (arith, t.0)) in
    omega arith

-- the first difference says whether the block is as wanted
module _ (w ys : List ℕ) (long : length ys ≡ length w) where
  pub differs_if : diff_from 0 w ys < length w → as_wanted w ys ≡ false
  differs_if h = go (as_wanted w ys) refl
    where
      go : (t : Bool) → as_wanted w ys ≡ t → as_wanted w ys ≡ false
      go true e = absurd (let q : diff_from 0 w ys ≡ length w = ap (λ (z : List ℕ). diff_from 0 w z) (same_list w ys long e) ∙ none_ahead w in let y : ⊥ = omega arith in y)
      go false e = e

  pub same_if : length w ≤ diff_from 0 w ys → as_wanted w ys ≡ true
  same_if h = go (as_wanted w ys) refl
    where
      go : (t : Bool) → as_wanted w ys ≡ t → as_wanted w ys ≡ true
      go true e = e
      go false e = absurd (let q = some_ahead w ys e in let y : ⊥ = omega arith in y)

wanted_ends : (d : Device) (p : Pins) (k : ℕ) (w ys : List ℕ) → as_wanted w ys ≡ true → end_number d p k w ys ≡ 0
unfolding end_number
wanted_ends d p k w ys o = if_true (as_wanted w ys) 0 (if vpp_low d.part p then 21 else if shut d.part p k then (if rises_in w ys then 23 else 24) else 0) o

-- a load whose operations cannot start
module _ (j : Job) (w ys : List ℕ) (stuck : stuck_by j.device.part j.pins j.block ≡ true) where
  fault_ends : as_wanted w ys ≡ false → end_number j.device j.pins j.block w ys ≡ fault_end j.device.part j.pins (rises_in w ys)
  unfolding end_number stuck_by fault_end
  fault_ends o = go (vpp_low j.device.part j.pins) refl stuck
    where
      go : (v : Bool) → vpp_low j.device.part j.pins ≡ v → (vpp_low j.device.part j.pins || shut j.device.part j.pins j.block) ≡ true
          → ◌≡◌ {A = ℕ} (if as_wanted w ys then 0 else if vpp_low j.device.part j.pins then 21 else if shut j.device.part j.pins j.block then (if rises_in w ys then 23 else 24) else 0)
          (if vpp_low j.device.part j.pins then 21 else if rises_in w ys then 23 else 24)
      go true v q = rw (o, v) refl
      go false v q = let z : shut j.device.part j.pins j.block ≡ true = sym (ap (λ (b : Bool). b || shut j.device.part j.pins j.block) v) ∙ q in rw (o, v, z) refl

  some_number : (part : Part) (r : Bool) → eqb (fault_end part j.pins r) 0 ≡ false
  unfolding fault_end
  some_number part r = go (vpp_low part j.pins) r
    where
      go : (v r : Bool) → eqb (if v then 21 else if r then 23 else 24) 0 ≡ false
      go true r = refl
      go false true = refl
      go false false = refl

  pub none_well : as_wanted w ys ≡ false → eqb (end_number j.device j.pins j.block w ys) 0 ≡ false
  none_well o = ap (λ (n : ℕ). eqb n 0) (fault_ends o) ∙ some_number j.device.part (rises_in w ys)

  bits_are : fault_status j.device j.pins w ys ≡ fault_bits j.device.part j.pins (rises_in w ys)
  unfolding fault_status fault_bits
  bits_are = refl

  fault_is : as_wanted w ys ≡ false
      → ◌≡◌ {A = Ran} (record { count = length w + 5; end = fault_end j.device.part j.pins (rises_in w ys); address = 0; state = is_at_rest j.state Status (fault_bits j.device.part j.pins (rises_in w ys)) }) (ran_as false j w ys)
  unfolding ran_as
  fault_is o =
      sym (if_false (eqb (end_number j.device j.pins j.block w ys) 0) (well_ran false j.device j.state j.block w ys) (fault_ran j.device j.state j.pins w ys (end_number j.device j.pins j.block w ys)) (none_well o)
      ∙ (λ i. record { count = length w + 5; end = fault_ends o i; address = 0; state = is_at_rest j.state Status (bits_are i) }))

  same_is : length ys ≡ length w → as_wanted w ys ≡ true → ◌≡◌ {A = Ran} (record { count = length w + 2; end = 0; address = 0; state = is_at_rest j.state Array 128 }) (ran_as false j w ys)
  unfolding ran_as
  same_is l o =
      sym (if_true (eqb (end_number j.device j.pins j.block w ys) 0) (well_ran false j.device j.state j.block w ys) (fault_ran j.device j.state j.pins w ys (end_number j.device j.pins j.block w ys)) (eq-eqb _ 0 (wanted_ends j.device j.pins j.block w ys o))
      ∙ (λ i. record { count = counted i; end = 0; address = 0; state = is_at_rest (erased_from (level i) j.block j.state) (if_true (as_wanted w ys) Array Status o i) 128 }))
    where
      held : ys ≡ w
      held = same_list w ys l o

      level : rises_in w ys ≡ false
      level = ap (λ (z : List ℕ). rises_in w z) held ∙ none_risen w

      counted : load_formula j.device w ys ≡ length w + 2
      counted = rw (level, held, none_differing (length w) 0 w) (omega arith)

  -- a load that only looked
  pub tried_is : length ys ≡ length w → tried_of j.device.part j.state j.pins (length w) (looked_at w ys) ≡ ran_as false j w ys
  unfolding tried_of
  tried_is l = go (ltb (diff_from 0 w ys) (length w)) refl
    where
      go : (t : Bool) → ltb (diff_from 0 w ys) (length w) ≡ t
          → ◌≡◌ {A = Ran} (if t then record { count = length w + 5; end = fault_end j.device.part j.pins (rises_in w ys); address = 0; state = is_at_rest j.state Status (fault_bits j.device.part j.pins (rises_in w ys)) } else record { count = length w + 2; end = 0; address = 0; state = is_at_rest j.state Array 128 })
          (ran_as false j w ys)
      go true e = fault_is (differs_if w ys l (ltb-true _ _ e))
      go false e = same_is l (same_if w ys l (ltb-false _ _ e))

  pub scratch_stuck : length ys ≡ length w → ys ≡ scratch_as j.device j.pins j.block w ys
  unfolding scratch_as
  scratch_stuck l = go (as_wanted w ys) refl
    where
      go : (t : Bool) → as_wanted w ys ≡ t → ys ≡ (if eqb (end_number j.device j.pins j.block w ys) 0 then w else ys)
      go true o = same_list w ys l o ∙ sym (if_true (eqb (end_number j.device j.pins j.block w ys) 0) w ys (eq-eqb _ 0 (wanted_ends j.device j.pins j.block w ys o)))
      go false o = sym (if_false (eqb (end_number j.device j.pins j.block w ys) 0) w ys (none_well o))

  pub bytes_stuck : (a : ℕ) (xs : List ℕ) → length ys ≡ length w → overlaid xs a ys ≡ xs → xs ≡ bytes_as j.device j.pins j.block a w ys xs
  unfolding bytes_as
  bytes_stuck a xs l self = go (as_wanted w ys) refl
    where
      go : (t : Bool) → as_wanted w ys ≡ t → xs ≡ (if eqb (end_number j.device j.pins j.block w ys) 0 then overlaid xs a w else xs)
      go true o = sym self ∙ ap (λ (z : List ℕ). overlaid xs a z) (same_list w ys l o) ∙ sym (if_true (eqb (end_number j.device j.pins j.block w ys) 0) (overlaid xs a w) xs (eq-eqb _ 0 (wanted_ends j.device j.pins j.block w ys o)))
      go false o = sym (if_false (eqb (end_number j.device j.pins j.block w ys) 0) (overlaid xs a w) xs (none_well o))

-- a load whose operations can start
module _ (j : Job) (w ys : List ℕ) (can : stuck_by j.device.part j.pins j.block ≡ false) where
  pub well_ends : end_number j.device j.pins j.block w ys ≡ 0
  unfolding end_number stuck_by
  well_ends = rw (or_left (vpp_low j.device.part j.pins) (shut j.device.part j.pins j.block) can, or_right (vpp_low j.device.part j.pins) (shut j.device.part j.pins j.block) can) (go (as_wanted w ys))
    where
      go : (t : Bool) → ◌≡◌ {A = ℕ} (if t then 0 else 0) 0
      go true = refl
      go false = refl

  pub well_is : (once each : ℕ) → length ys ≡ length w → once ≡ 2 + j.device.erase → each ≡ 2 + j.device.program
      → finished_of j.state j.block (length w) (work_done j.device.part.word once each w ys) ≡ ran_as false j w ys
  unfolding ran_as
  well_is once each l o e =
      (λ i. record { count = counted i; end = 0; address = 0; state = is_at_rest (erased_from (rises_in w ys) j.block j.state) (moded i) 128 })
      ∙ sym (if_true (eqb (end_number j.device j.pins j.block w ys) 0) (well_ran false j.device j.state j.block w ys) (fault_ran j.device j.state j.pins w ys (end_number j.device j.pins j.block w ys)) (eq-eqb _ 0 well_ends))
    where
      costed : work_costs j.device.part.word once each w ys ≡ erases_of w ys * (2 + j.device.erase) + programs_in j.device.part w ys * (2 + j.device.program)
      costed = (λ i. work_costs j.device.part.word (o i) (e i) w ys) ∙ work_cost j.device.part (2 + j.device.erase) (2 + j.device.program) w ys

      counted : length w + 2 + work_costs j.device.part.word once each w ys ≡ load_formula j.device w ys
      counted = omega (arith, costed)

      moded : mode_by (work_costs j.device.part.word once each w ys) ≡ loaded_mode w ys
      moded = work_mode j.device.part once each w ys l (omega (arith, o)) (omega (arith, e))

  pub bytes_free : (a : ℕ) (xs : List ℕ) → overlaid xs a w ≡ bytes_as j.device j.pins j.block a w ys xs
  unfolding bytes_as
  bytes_free a xs = sym (if_true (eqb (end_number j.device j.pins j.block w ys) 0) (overlaid xs a w) xs (eq-eqb _ 0 well_ends))

  pub scratch_free : w ≡ scratch_as j.device j.pins j.block w ys
  unfolding scratch_as
  scratch_free = sym (if_true (eqb (end_number j.device j.pins j.block w ys) 0) w ys (eq-eqb _ 0 well_ends))
