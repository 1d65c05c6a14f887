-- A verify alone against the model: its end, and that it ends well exactly where the block holds what is wanted.
use mathlib.Core.Path.{◌≡◌, refl, sym, ap, ◌∙◌, subst}
use mathlib.Core.Bool.{Bool, true, false, ◌&&◌}
use mathlib.Core.List.{List, []}
use mathlib.Core.Logic.{◌↔◌}
use Prim.Native.Nat.{ℕ, zero, suc, ◌+◌, ◌-◌, ◌%◌, ◌≤◌, ◌<◌}
use native.Mathlib.Omega.{arith}
use lib.ListN.{length, get_or}
use lib.Dec.{eqb, ltb}
use borrow.Author.Tests.{lt-ltb, le-ltb, eq-eqb, eqb-true, eqb-false}
use Rattle.std.specs.Prelude.{if◌then◌else◌}
use Rattle.common.proofs.Choice.{if_true, if_false}
use Rattle.common.specs.Lists.{overwritten}
use Rattle.common.specs.Numbers.{NoRow}
use Rattle.common.proofs.Numbers.{no_row_given}
use Rattle.device.specs.Parts.{start_of}
use Rattle.model_types.specs.declared.Mode.TheVariants.{Array}
use Rattle.model_states.specs.States.{is_at_rest}
use Rattle.loader.specs.declared.Stage.TheVariants.{Ended}
use Rattle.loader_walk.specs.Walks.{next_diff, diff_from}
use Rattle.loader_steps.specs.Front.{end_address}
use Rattle.loader_run.specs.declared.Ran.{Ran}
use Rattle.loader_run.specs.Turns.{Config}
use Rattle.loader_run.specs.Runs.{run_rows, run_number, run_first, run_left, doing}
use Rattle.loader_run_claims.specs.Wear.{differing, held_in, held_by}
use Rattle.loader_run_claims.specs.Made.{closing_of}
use Rattle.loader_run_claims.specs.Ends.{as_wanted}
use Rattle.model_types.specs.Cells.{Cells}
use Rattle.loader_steps.specs.Addresses.{first_address}
use Rattle.loader_steps.specs.Inner.{here_of}
use Rattle.loader_steps.specs.Outs.{byte_here}
use Rattle.loader_run_claims.proofs.LoadLists.{over_self, cells_held}
use Rattle.loader_run_claims.proofs.Grounds as grounds
use Rattle.loader_run_claims.proofs.Grounds.{Left}
use Rattle.loader_run_claims.proofs.Phases as phases
use Rattle.loader_run_claims.proofs.SameBlock.{same_list, none_ahead, some_ahead, none_differing}
use Rattle.units.specs.Address.{byte_at}
use Rattle.loader_verify_claims.specs.Verified.{units_read, byte_apart, verify_end, verify_address, Verified, Met}
use Rattle.loader.specs.declared.Work.TheVariants.{Verify}
use Rattle.loader_run.specs.declared.Job.{Job}

-- bytes that are what is wanted are found so
pub as_wanted_lem : (w : List ℕ) → as_wanted w w ≡ true
unfolding as_wanted
as_wanted_lem w = eq-eqb (differing (length w) 0 w w) 0 (none_differing (length w) 0 w)

-- the walk stops at a byte that differs, and all before it are the same
next_met : (n i : ℕ) (w s : List ℕ) → next_diff n i w s < i + n → get_or s (next_diff n i w s) 0 ≡ get_or w (next_diff n i w s) 0 → ⊥
next_met zero i w s h = absurd (omega arith)
next_met (suc n) i w s h = go (eqb (get_or s i 0) (get_or w i 0)) refl (next_met n (i + 1) w s) h
  where
    go : (t : Bool) → eqb (get_or s i 0) (get_or w i 0) ≡ t
        → (next_diff n (i + 1) w s < i + 1 + n → get_or s (next_diff n (i + 1) w s) 0 ≡ get_or w (next_diff n (i + 1) w s) 0 → ⊥)
        → (if t then next_diff n (i + 1) w s else i) < i + suc n
        → get_or s (if t then next_diff n (i + 1) w s else i) 0 ≡ get_or w (if t then next_diff n (i + 1) w s else i) 0 → ⊥
    go true e more g = more (omega arith)
    go false e more g = eqb-false (get_or s i 0) (get_or w i 0) e

next_before : (n i : ℕ) (w s : List ℕ) (j : ℕ) → i ≤ j → j < next_diff n i w s → get_or s j 0 ≡ get_or w j 0
next_before zero i w s j a b = absurd (omega arith)
next_before (suc n) i w s j a b = go (eqb (get_or s i 0) (get_or w i 0)) refl (next_before n (i + 1) w s j) b (eqb i j) refl
  where
    go : (t : Bool) → eqb (get_or s i 0) (get_or w i 0) ≡ t → (i + 1 ≤ j → j < next_diff n (i + 1) w s → get_or s j 0 ≡ get_or w j 0)
        → j < (if t then next_diff n (i + 1) w s else i) → (u : Bool) → eqb i j ≡ u → get_or s j 0 ≡ get_or w j 0
    go true e more g true q = subst (λ (x : ℕ). get_or s x 0 ≡ get_or w x 0) (eqb-true i j q) (eqb-true (get_or s i 0) (get_or w i 0) e)
    go true e more g false q = more (let z : i ≡ j → ⊥ = eqb-false i j q in omega arith) g
    go false e more g u q = absurd (omega arith)

-- the byte that differs at a place, as the record has it
apart_at : (word : Bool) (x y v u : ℕ) → x ≡ y
    → byte_at word x (word && eqb (v % 256) (u % 256)) ≡ byte_at word y (eqb (v % 256) (u % 256))
apart_at true x y v u e = ap (λ (z : ℕ). byte_at true z (eqb (v % 256) (u % 256))) e
apart_at false x y v u e = e

module _ (j : Job) (xs w sc : List ℕ) (cx : Cells j.device.part xs) (free : NoRow (run_rows j (length xs) (length w) (length sc))) where
  none : run_number j (length xs) (length w) (length sc) ≡ 0
  unfolding run_first
  none = no_row_given free

  abbrev a : ℕ
  a = start_of j.device.part j.block

  abbrev ys : List ℕ
  ys = held_in (start_of j.device.part j.block) (length w) xs

  -- the place of the first difference, or the block's length
  abbrev met : ℕ
  met = diff_from 0 w ys

  ly : length ys ≡ length w
  ly = grounds.ly j xs w sc none

  cy : Cells j.device.part ys
  cy = cells_held j.device.part a (length w) xs cx

  -- where it ends by a number after n units
  abbrev ended : ℕ → Bool → ℕ → Config
  ended number high n =
      phases.verified_by true j.device j.pins j.block (grounds.u j xs w sc none) j.state w (grounds.g j xs w sc none).wanted (grounds.some j xs w sc none) xs (grounds.g j xs w sc none).sized ys sc ly cy
      ((grounds.g j xs w sc none).scratch ∙ sym (grounds.g j xs w sc none).wanted) j.state.status
      (grounds.ready_status j.device j.state (grounds.g j xs w sc none).proper (grounds.g j xs w sc none).free) number high n (0 + (1 + n))

  abbrev reads : ℕ
  reads = if ltb met (length w) then met + 1 else length w

  abbrev number : ℕ
  number = if ltb met (length w) then 25 else 0

  -- of the word that differs only the high bytes do
  abbrev apart : Bool
  apart = j.device.part.word && eqb (get_or ys met 0 % 256) (get_or w met 0 % 256)

  abbrev high : Bool
  high = if ltb met (length w) then apart else false

  left : Left (doing Verify j) xs w sc (ended number high reads) [] (closing_of j.pins a reads)
  left =
      grounds.comes j xs w sc none Verify (ended number high reads) [] (closing_of j.pins a reads) refl
      (grounds.from_rest j xs w sc none Verify (ended number high reads) [] (closing_of j.pins a reads)
      (phases.closing true j.device j.pins j.block (grounds.u j xs w sc none) j.state w (grounds.g j xs w sc none).wanted (grounds.some j xs w sc none) xs (grounds.g j xs w sc none).sized ys sc ly cy
      ((grounds.g j xs w sc none).scratch ∙ sym (grounds.g j xs w sc none).wanted) j.state.status
      (grounds.ready_status j.device j.state (grounds.g j xs w sc none).proper (grounds.g j xs w sc none).free) j.state.mode 0))

  -- by the number and the units read
  told : (m n : ℕ) (h : Bool) → number ≡ m → reads ≡ n → high ≡ h → verify_end w ys ≡ m → units_read w ys ≡ n → end_address (ended m h n).loader m ≡ verify_address j.device.part a w ys → Verified j xs w sc
  told m n h q r v e b adr =
      let l : Left (doing Verify j) xs w sc (ended m h n) [] (closing_of j.pins a n) =
      subst (λ (x : Bool). Left (doing Verify j) xs w sc (ended m x n) [] (closing_of j.pins a n)) v
      (subst (λ (x : ℕ). Left (doing Verify j) xs w sc (ended x high n) [] (closing_of j.pins a n)) q (subst (λ (x : ℕ). Left (doing Verify j) xs w sc (ended number high x) [] (closing_of j.pins a x)) r left)) in
      let c : 0 + (1 + n) ≡ 1 + units_read w ys = omega (arith, b) in
      record {
        ran = grounds.ran_left j xs w sc none Verify (ended m h n) [] (closing_of j.pins a n) l
            ∙ (λ i. record { count = c i; end = sym e i; address = adr i; state = is_at_rest j.state Array j.state.status });
        bytes = grounds.bytes_left j xs w sc none Verify (ended m h n) [] (closing_of j.pins a n) l ∙ over_self xs a (length w) (grounds.fitting j xs w sc none);
        scratch = grounds.scratch_left j xs w sc none Verify (ended m h n) [] (closing_of j.pins a n) l ∙ ap (λ (x : ℕ). overwritten x ys sc) (sym b);
        begins = l.begun;
        made = l.made ∙ ap (λ (x : ℕ). closing_of j.pins a x) (sym b);
        smooth = l.smooth;
      }

  -- the block as wanted: no byte is met that differs
  none_met : as_wanted w ys ≡ true → met ≡ length w
  none_met e = ap (λ (z : List ℕ). diff_from 0 w z) (same_list w ys ly e) ∙ none_ahead w

  pub verified : Verified j xs w sc
  unfolding units_read verify_end verify_address end_address byte_here here_of first_address
  verified = go (as_wanted w ys) refl
    where
      go : (t : Bool) → as_wanted w ys ≡ t → Verified j xs w sc
      go true e =
          let z : ltb met (length w) ≡ false = le-ltb met (length w) (let y = none_met e in omega arith) in
          told 0 (length w) false (if_false (ltb met (length w)) 25 0 z) (if_false (ltb met (length w)) (met + 1) (length w) z) (if_false (ltb met (length w)) apart false z) (if_true (as_wanted w ys) 0 25 e)
          (if_true (as_wanted w ys) (length w) (met + 1) e) (sym (if_true (as_wanted w ys) 0 (byte_apart j.device.part (a + met) (get_or ys met 0) (get_or w met 0)) e))
      go false e =
          let h : met < length w = some_ahead w ys e in
          let z : ltb met (length w) ≡ true = lt-ltb met (length w) h in
          told 25 (met + 1) apart (if_true (ltb met (length w)) 25 0 z) (if_true (ltb met (length w)) (met + 1) (length w) z) (if_true (ltb met (length w)) apart false z) (if_false (as_wanted w ys) 0 25 e)
          (if_false (as_wanted w ys) (length w) (met + 1) e)
          (apart_at j.device.part.word _ (a + met) (get_or ys met 0) (get_or w met 0)
          (phases.here true j.device j.pins j.block (grounds.u j xs w sc none) j.state w (grounds.g j xs w sc none).wanted (grounds.some j xs w sc none) (Ended 25) (met + 1 - 1) 0 (omega arith)
          ∙ (let y : a + (met + 1 - 1) ≡ a + met = omega arith in y)) ∙ sym (if_false (as_wanted w ys) 0 (byte_apart j.device.part (a + met) (get_or ys met 0) (get_or w met 0)) e))

  -- what the block holds, by its own length
  held_is : ys ≡ held_by j.device.part j.block xs
  held_is = ap (λ (n : ℕ). held_in a n xs) (grounds.g j xs w sc none).wanted

  -- it ends well exactly where the block holds what is wanted
  pub well_exactly : ((run_left (doing Verify j) xs w sc).ran.end ≡ 0) ↔ (held_by j.device.part j.block xs ≡ w)
  unfolding verify_end
  well_exactly = (λ e. forth e (as_wanted w ys) refl, back)
    where
      end_is : (run_left (doing Verify j) xs w sc).ran.end ≡ (if as_wanted w ys then 0 else 25)
      end_is = ap (λ (r : Ran). r.end) verified.ran

      forth : (run_left (doing Verify j) xs w sc).ran.end ≡ 0 → (t : Bool) → as_wanted w ys ≡ t → held_by j.device.part j.block xs ≡ w
      forth e true q = sym held_is ∙ same_list w ys ly q
      forth e false q = absurd (let z : 25 ≡ 0 = sym (end_is ∙ if_false (as_wanted w ys) 0 25 q) ∙ e in omega arith)

      back : held_by j.device.part j.block xs ≡ w → (run_left (doing Verify j) xs w sc).ran.end ≡ 0
      back q = end_is ∙ if_true (as_wanted w ys) 0 25 (ap (λ (z : List ℕ). as_wanted w z) (held_is ∙ q) ∙ as_wanted_lem w)

  -- and where it does not, 25 at the first place that differs
  pub first_difference : (held_by j.device.part j.block xs ≡ w → ⊥) → Met j xs w sc met
  unfolding units_read verify_end verify_address diff_from
  first_difference z = go (as_wanted w ys) refl
    where
      go : (t : Bool) → as_wanted w ys ≡ t → Met j xs w sc met
      go true e = absurd (z (sym held_is ∙ same_list w ys ly e))
      go false e =
          let h : met < length w = some_ahead w ys e in
          record {
            inside = h;
            differs = next_met (length w - 0) 0 w ys (omega arith);
            same_before = λ o b. next_before (length w - 0) 0 w ys o (omega arith) b;
            ran = verified.ran
                ∙ (λ i. record {
                  count = (ap (λ (n : ℕ). 1 + n) (if_false (as_wanted w ys) (length w) (met + 1) e) ∙ (let y : 1 + (met + 1) ≡ met + 2 = omega arith in y)) i;
                  end = if_false (as_wanted w ys) 0 25 e i;
                  address = if_false (as_wanted w ys) 0 (byte_apart j.device.part (a + met) (get_or ys met 0) (get_or w met 0)) e i;
                  state = is_at_rest j.state Array j.state.status;
                });
            scratch = verified.scratch ∙ ap (λ (n : ℕ). overwritten n ys sc) (if_false (as_wanted w ys) (length w) (met + 1) e);
          }

  -- there is no third end
  pub only_25 : ((run_left (doing Verify j) xs w sc).ran.end ≡ 25 → ⊥) → (run_left (doing Verify j) xs w sc).ran.end ≡ 0
  unfolding verify_end
  only_25 z = go (as_wanted w ys) refl
    where
      go : (t : Bool) → as_wanted w ys ≡ t → (run_left (doing Verify j) xs w sc).ran.end ≡ 0
      go true e = ap (λ (r : Ran). r.end) verified.ran ∙ if_true (as_wanted w ys) 0 25 e
      go false e = absurd (z (ap (λ (r : Ran). r.end) verified.ran ∙ if_false (as_wanted w ys) 0 25 e))
