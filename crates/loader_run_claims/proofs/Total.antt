-- Every end of a run that nothing refuses, as one statement.
use mathlib.Core.Path.{◌≡◌, refl, sym, ap, ◌∙◌, subst}
use mathlib.Core.Bool.{Bool, true, false}
use mathlib.Core.List.{List, []}
use Prim.Native.Nat.{ℕ}
use lib.ListN.{length}
use lib.Dec.{eqb}
use borrow.Author.Tests.{eq-eqb, eqb-true}
use Rattle.std.specs.Prelude.{if◌then◌else◌}
use Rattle.common.proofs.Choice.{unlike}
use Rattle.device.specs.declared.Device.{Device}
use Rattle.device.specs.Parts.{start_of}
use Rattle.model_types.specs.declared.Pins.{Pins}
use Rattle.model_types.specs.declared.Effect.{Effect}
use Rattle.model_levels.specs.Levels.{vpp_low, unlocked}
use Rattle.loader_steps.specs.Front.{end_address}
use Rattle.loader_walk.specs.Walks.{rises_in, diff_from}
use Rattle.loader.specs.Statuses.{erase_end, program_end, both_errors}
use Rattle.loader_run.specs.declared.Ran.{Ran}
use Rattle.loader_run_claims.specs.Wear.{held_in}
use Rattle.loader_run_claims.specs.Made.{cycles_by}
use Rattle.loader_run_claims.specs.Ends.{as_wanted, shut, end_number, fault_status, fault_cycles, well_ran, fault_ran, ran_as, bytes_as, scratch_as, cycles_as, Whole}
use Rattle.loader_run_claims.proofs.Answers.{unsupplied_stuck, locked_stuck}
use Rattle.loader_run_claims.specs.Mission.{Taken}
use Rattle.loader_run_claims.proofs.Grounds.{Left}
use Rattle.loader_run_claims.proofs.Demand.{goal, broken, ran_left, bytes_left, scratch_left, good_load, same_load, erase_load, program_load}
use Rattle.loader.specs.declared.Work.TheVariants.{Load}
use Rattle.loader_run.specs.declared.Job.{Job}
use Rattle.loader_run.specs.Runs.{run_left, doing}

module _ (verify : Bool) (j : Job) (xs w sc : List ℕ) (t : Taken j xs w sc) where
  abbrev a : ℕ
  a = start_of j.device.part j.block

  abbrev ys : List ℕ
  ys = held_in (start_of j.device.part j.block) (length w) xs

  -- a run that ends well
  well : (es : List Effect) → end_number j.device j.pins j.block w ys ≡ 0 → Left (doing (Load verify) j) xs w sc (goal verify j xs w sc t) es (cycles_by verify j.device j.pins a w ys) → Whole verify j xs w sc
  unfolding ran_as bytes_as scratch_as cycles_as end_address
  well es n left =
      record {
        ran = rw n (ran_left verify j xs w sc t _ es _ left);
        bytes = rw n (bytes_left verify j xs w sc t _ es _ left);
        scratch = rw n (scratch_left verify j xs w sc t _ es _ left);
        made = rw n left.made;
        smooth = left.smooth;
      }

  -- a run that a fault ends
  fault : (n x i : ℕ) → end_number j.device j.pins j.block w ys ≡ n → eqb n 0 ≡ false → eqb n 25 ≡ false → fault_status j.device j.pins w ys ≡ x → Left (doing (Load verify) j) xs w sc (broken verify j xs w sc t n x i) [] (fault_cycles j.pins a w ys)
      → Whole verify j xs w sc
  unfolding ran_as bytes_as scratch_as cycles_as end_address
  fault n x i e z y q left =
      record {
        ran = rw (e, z, q) (ran_left verify j xs w sc t _ [] _ left ∙ rw y refl);
        bytes = rw (e, z) (bytes_left verify j xs w sc t _ [] _ left);
        scratch = rw (e, z) (scratch_left verify j xs w sc t _ [] _ left);
        made = rw (e, z) left.made;
        smooth = left.smooth;
      }

  pub every_end : Whole verify j xs w sc
  unfolding end_number fault_status shut erase_end program_end both_errors
  every_end = held (as_wanted w ys) refl
    where
      shut_block : vpp_low j.device.part j.pins ≡ false → eqb j.block 0 ≡ true → unlocked j.device.part j.pins 0 ≡ false → as_wanted w ys ≡ false → (r : Bool) → rises_in w ys ≡ r → Whole verify j xs w sc
      shut_block v z f o true r = fault 23 160 0 (simp (o, v, z, f, r)) refl refl (simp (v, r)) (erase_load verify j xs w sc t 0 160 23 (locked_stuck j.device j.pins j.block v z f) refl refl refl refl refl r)
      shut_block v z f o false r =
          fault 24 144 (diff_from 0 w ys) (simp (o, v, z, f, r)) refl refl (simp (v, r)) (program_load verify j xs w sc t 0 144 24 (locked_stuck j.device j.pins j.block v z f) refl refl refl refl refl r o)

      low_supply : vpp_low j.device.part j.pins ≡ true → as_wanted w ys ≡ false → (r : Bool) → rises_in w ys ≡ r → Whole verify j xs w sc
      low_supply v o true r = fault 21 168 0 (simp (o, v)) refl refl (simp (v, r)) (erase_load verify j xs w sc t 8 168 21 (unsupplied_stuck j.device j.pins j.block v) refl refl refl refl refl r)
      low_supply v o false r =
          fault 21 152 (diff_from 0 w ys) (simp (o, v)) refl refl (simp (v, r)) (program_load verify j xs w sc t 8 152 21 (unsupplied_stuck j.device j.pins j.block v) refl refl refl refl refl r o)

      other_block : vpp_low j.device.part j.pins ≡ false → as_wanted w ys ≡ false → eqb j.block 0 ≡ false → Whole verify j xs w sc
      other_block v o z = well _ (simp (o, v, z)) (good_load verify j xs w sc t v (λ q. absurd (unlike (sym (eq-eqb j.block 0 q) ∙ z))))

      boot_block : vpp_low j.device.part j.pins ≡ false → as_wanted w ys ≡ false → eqb j.block 0 ≡ true → (f : Bool) → unlocked j.device.part j.pins 0 ≡ f → Whole verify j xs w sc
      boot_block v o z true f = well _ (simp (o, v, z, f)) (good_load verify j xs w sc t v (λ q. f))
      boot_block v o z false f = shut_block v z f o (rises_in w ys) refl

      blocks : vpp_low j.device.part j.pins ≡ false → as_wanted w ys ≡ false → (z : Bool) → eqb j.block 0 ≡ z → Whole verify j xs w sc
      blocks v o true z = boot_block v o z (unlocked j.device.part j.pins 0) refl
      blocks v o false z = other_block v o z

      supply : as_wanted w ys ≡ false → (v : Bool) → vpp_low j.device.part j.pins ≡ v → Whole verify j xs w sc
      supply o true v = low_supply v o (rises_in w ys) refl
      supply o false v = blocks v o (eqb j.block 0) refl

      held : (o : Bool) → as_wanted w ys ≡ o → Whole verify j xs w sc
      held true o = well [] (simp o) (same_load verify j xs w sc t o)
      held false o = supply o (vpp_low j.device.part j.pins) refl

-- the ends: 20, 22 and 25 are not among them
pub only_ends : (d : Device) (p : Pins) (k : ℕ) (w ys : List ℕ) (P : ℕ → Type 0) → P 0 → P 21 → P 23 → P 24 → P (end_number d p k w ys)
unfolding end_number
only_ends d p k w ys P p0 p21 p23 p24 = go (as_wanted w ys) (vpp_low d.part p) (shut d.part p k) (rises_in w ys)
  where
    go : (a b c e : Bool) → P (if a then 0 else if b then 21 else if c then (if e then 23 else 24) else 0)
    go true b c e = p0
    go false true c e = p21
    go false false true true = p23
    go false false true false = p24
    go false false false e = p0

module _ (verify : Bool) (j : Job) (xs w sc : List ℕ) (t : Taken j xs w sc) where
  -- no run ends with 20, 22 or 25
  abbrev three : ℕ → Type 0
  three n = (n ≡ 20 → ⊥) × (n ≡ 22 → ⊥) × (n ≡ 25 → ⊥)

  end_is : (run_left (doing (Load verify) j) xs w sc).ran.end ≡ end_number j.device j.pins j.block w (held_in (start_of j.device.part j.block) (length w) xs)
  unfolding ran_as
  end_is = ap (λ (r : Ran). r.end) (every_end verify j xs w sc t).ran ∙ go (end_number j.device j.pins j.block w (held_in (start_of j.device.part j.block) (length w) xs)) (eqb (end_number j.device j.pins j.block w (held_in (start_of j.device.part j.block) (length w) xs)) 0) refl
    where
      go : (n : ℕ) (z : Bool) → eqb n 0 ≡ z → (if z then well_ran verify j.device j.state j.block w (held_in (start_of j.device.part j.block) (length w) xs) else fault_ran j.device j.state j.pins w (held_in (start_of j.device.part j.block) (length w) xs) n).end ≡ n
      go n true e = sym (eqb-true n 0 e)
      go n false e = refl

  pub never : ((run_left (doing (Load verify) j) xs w sc).ran.end ≡ 20 → ⊥) × ((run_left (doing (Load verify) j) xs w sc).ran.end ≡ 22 → ⊥) × ((run_left (doing (Load verify) j) xs w sc).ran.end ≡ 25 → ⊥)
  never =
      subst three (sym end_is)
      (only_ends j.device j.pins j.block w (held_in (start_of j.device.part j.block) (length w) xs) three (λ e. apart 0 20 refl e, λ e. apart 0 22 refl e, λ e. apart 0 25 refl e) (λ e. apart 21 20 refl e, λ e. apart 21 22 refl e, λ e. apart 21 25 refl e)
      (λ e. apart 23 20 refl e, λ e. apart 23 22 refl e, λ e. apart 23 25 refl e) (λ e. apart 24 20 refl e, λ e. apart 24 22 refl e, λ e. apart 24 25 refl e))
    where
      apart : (m n : ℕ) → eqb m n ≡ false → m ≡ n → ⊥
      apart m n e q = unlike (sym (eq-eqb m n q) ∙ e)
