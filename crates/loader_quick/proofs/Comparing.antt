-- What a verify comes to, and a load with the verify after it.
use mathlib.Core.Path.{◌≡◌, refl, sym, ap, ◌∙◌}
use mathlib.Core.Bool.{Bool, true, false, not}
use mathlib.Core.List.{List, ◌++◌}
use Prim.Native.Nat.{ℕ, ◌+◌, ◌≤◌}
use native.Mathlib.Omega.{arith}
use lib.ListN.{length, get_or, take, drop}
use lib.Seq.{take_at, drop_at, length-take-le}
use lib.Dec.{eqb, ltb}
use borrow.Author.Tests.{lt-ltb, le-ltb, eq-eqb, eqb-true}
use Rattle.std.specs.Prelude.{if◌then◌else◌}
use Rattle.common.proofs.Choice.{if_true, if_false, unlike}
use Rattle.common.specs.Lists.{overlaid, overwritten}
use Rattle.common.proofs.Lists.{overwritten_all}
use Rattle.device.specs.declared.Part.{Part}
use Rattle.model_types.specs.declared.Mode.TheVariants.{Array}
use Rattle.model_types.specs.declared.State.{State}
use Rattle.model_states.specs.States.{is_at_rest}
use Rattle.loader_walk.specs.Walks.{rises_in, diff_from}
use Rattle.loader_blocks.specs.Blocks.{read_to}
use Rattle.loader_run.specs.declared.Ran.{Ran}
use Rattle.loader_run_claims.specs.Wear.{held_in, formula, load_formula}
use Rattle.loader_run_claims.specs.Ends.{as_wanted, end_number, erased_from, well_ran, fault_ran, ran_as, bytes_as, scratch_as}
use Rattle.loader_run_claims.proofs.SameBlock.{same_list, none_ahead, some_ahead}
use Rattle.loader_verify_claims.specs.Verified.{units_read, byte_apart, verify_end, verify_address, verify_ran}
use Rattle.loader_verify_claims.proofs.Verifying.{as_wanted_lem}
use Rattle.units.specs.Units.{units}
use Rattle.loader_quick.specs.declared.Made.{Made}
use Rattle.loader_quick.specs.Quick.{verdict_of, held_units, made_of, load_made}
use Rattle.loader_run.specs.declared.Job.{Job}

module _ (w ys : List ℕ) (long : length ys ≡ length w) where
  all_same : as_wanted w ys ≡ true → ltb (diff_from 0 w ys) (length w) ≡ false
  all_same e = le-ltb (diff_from 0 w ys) (length w) (let q : diff_from 0 w ys ≡ length w = ap (λ (z : List ℕ). diff_from 0 w z) (same_list w ys long e) ∙ none_ahead w in omega arith)

  some_other : as_wanted w ys ≡ false → ltb (diff_from 0 w ys) (length w) ≡ true
  some_other e = lt-ltb (diff_from 0 w ys) (length w) (some_ahead w ys e)

  -- the units that a verify reads
  pub read_is : read_to w ys ≡ units_read w ys
  unfolding read_to units_read
  read_is = go (as_wanted w ys) refl
    where
      go : (t : Bool) → as_wanted w ys ≡ t → (if ltb (diff_from 0 w ys) (length w) then diff_from 0 w ys + 1 else length w) ≡ (if as_wanted w ys then length w else diff_from 0 w ys + 1)
      go true e = rw (all_same e, e) refl
      go false e = rw (some_other e, e) refl

  -- how it ends
  pub verdict_is : (part : Part) (s : State) (a : ℕ) → verdict_of part.word s a (length w) (diff_from 0 w ys) (get_or ys (diff_from 0 w ys) 0) (get_or w (diff_from 0 w ys) 0) ≡ verify_ran part s a w ys
  unfolding verdict_of units_read verify_end verify_address
  verdict_is part s a = go (as_wanted w ys) refl
    where
      m : ℕ
      m = diff_from 0 w ys

      x : ℕ
      x = byte_apart part (a + diff_from 0 w ys) (get_or ys (diff_from 0 w ys) 0) (get_or w (diff_from 0 w ys) 0)

      go : (t : Bool) → as_wanted w ys ≡ t
          → (if ltb m (length w) then record { count = m + 2; end = 25; address = x; state = is_at_rest s Array s.status } else record { count = length w + 1; end = 0; address = 0; state = is_at_rest s Array s.status })
          ≡ verify_ran part s a w ys
      go true e =
          if_false (ltb m (length w)) _ _ (all_same e)
          ∙ (λ i. record {
            count = ((let q : length w + 1 ≡ 1 + length w = omega arith in q) ∙ ap (λ (n : ℕ). 1 + n) (sym (if_true (as_wanted w ys) (length w) (m + 1) e))) i;
            end = sym (if_true (as_wanted w ys) 0 25 e) i;
            address = sym (if_true (as_wanted w ys) 0 x e) i;
            state = is_at_rest s Array s.status;
          })
      go false e =
          if_true (ltb m (length w)) _ _ (some_other e)
          ∙ (λ i. record {
            count = ((let q : m + 2 ≡ 1 + (m + 1) = omega arith in q) ∙ ap (λ (n : ℕ). 1 + n) (sym (if_false (as_wanted w ys) (length w) (m + 1) e))) i;
            end = sym (if_false (as_wanted w ys) 0 25 e) i;
            address = sym (if_false (as_wanted w ys) 0 x e) i;
            state = is_at_rest s Array s.status;
          })

-- a block laid over the array is what is held there
pub held_over : (xs : List ℕ) (a : ℕ) (w : List ℕ) → a ≤ length xs → held_in a (length w) (overlaid xs a w) ≡ w
held_over xs a w h =
    ap (λ (z : List ℕ). take (length w) z) (drop_at (take a xs) (w ++ drop (length w) (drop a xs)) a (length-take-le a xs h))
    ∙ take_at w (drop (length w) (drop a xs)) (length w) refl

-- the verify of a block that holds what is wanted
same_verified : (part : Part) (t : State) (a : ℕ) (w : List ℕ) → verify_ran part t a w w ≡ record { count = 1 + length w; end = 0; address = 0; state = is_at_rest t Array t.status }
unfolding units_read verify_end verify_address
same_verified part t a w =
    let e = as_wanted_lem w in
    λ i. record {
      count = 1 + if_true (as_wanted w w) (length w) (diff_from 0 w w + 1) e i;
      end = if_true (as_wanted w w) 0 25 e i;
      address = if_true (as_wanted w w) 0 (byte_apart part (a + diff_from 0 w w) (get_or w (diff_from 0 w w) 0) (get_or w (diff_from 0 w w) 0)) e i;
      state = is_at_rest t Array t.status;
    }

pub same_read : (w : List ℕ) → overwritten (units_read w w) w w ≡ w
unfolding units_read
same_read w = ap (λ (n : ℕ). overwritten n w w) (if_true (as_wanted w w) (length w) (diff_from 0 w w + 1) (as_wanted_lem w)) ∙ overwritten_all w w refl

module _ (j : Job) (w ys : List ℕ) where
  abbrev N : ℕ
  N = end_number j.device j.pins j.block w ys

  -- a load that did not end well is the run's end
  pub fault_load_verify : ((ran_as false j w ys).end ≡ 0 → ⊥) → ran_as false j w ys ≡ ran_as true j w ys
  unfolding ran_as
  fault_load_verify = go (eqb N 0)
    where
      go : (t : Bool) → ((if t then well_ran false j.device j.state j.block w ys else fault_ran j.device j.state j.pins w ys N).end ≡ 0 → ⊥)
          → (if t then well_ran false j.device j.state j.block w ys else fault_ran j.device j.state j.pins w ys N) ≡ (if t then well_ran true j.device j.state j.block w ys else fault_ran j.device j.state j.pins w ys N)
      go true h = absurd (h refl)
      go false h = refl

  pub ends_none : (ran_as false j w ys).end ≡ 0 → N ≡ 0
  unfolding ran_as
  ends_none = go (eqb N 0) refl
    where
      go : (t : Bool) → eqb N 0 ≡ t → (if t then well_ran false j.device j.state j.block w ys else fault_ran j.device j.state j.pins w ys N).end ≡ 0 → N ≡ 0
      go true e h = eqb-true N 0 e
      go false e h = h

  module _ (z : N ≡ 0) where
    pub well_ran_lem : (verify : Bool) → ran_as verify j w ys ≡ well_ran verify j.device j.state j.block w ys
    unfolding ran_as
    well_ran_lem verify = if_true (eqb N 0) (well_ran verify j.device j.state j.block w ys) (fault_ran j.device j.state j.pins w ys N) (eq-eqb N 0 z)

    pub well_bytes : (a : ℕ) (xs : List ℕ) → bytes_as j.device j.pins j.block a w ys xs ≡ overlaid xs a w
    unfolding bytes_as
    well_bytes a xs = if_true (eqb N 0) (overlaid xs a w) xs (eq-eqb N 0 z)

    pub well_scratch : scratch_as j.device j.pins j.block w ys ≡ w
    unfolding scratch_as
    well_scratch = if_true (eqb N 0) w ys (eq-eqb N 0 z)

    -- the load, then the verify of what it left
    pub load_verify_ran : (a : ℕ) (l v : Ran) (zs : List ℕ) → l ≡ ran_as false j w ys → v ≡ verify_ran j.device.part l.state a w zs → zs ≡ w
        → ◌≡◌ {A = Ran} (record { count = l.count + v.count; end = v.end; address = v.address; state = v.state }) (ran_as true j w ys)
    load_verify_ran a l v zs e f h =
        (λ i. join (first i) (second i)) ∙ (λ i. record { count = summed i; end = 0; address = 0; state = is_at_rest (erased_from (rises_in w ys) j.block j.state) Array 128 }) ∙ sym (well_ran_lem true)
      where
        join : Ran → Ran → Ran
        join l v = record { count = l.count + v.count; end = v.end; address = v.address; state = v.state }

        first : l ≡ well_ran false j.device j.state j.block w ys
        first = e ∙ well_ran_lem false

        second : v ≡ record { count = 1 + length w; end = 0; address = 0; state = is_at_rest (erased_from (rises_in w ys) j.block j.state) Array 128 }
        second = f ∙ (λ i. verify_ran j.device.part (first i).state a w (h i)) ∙ same_verified j.device.part (well_ran false j.device j.state j.block w ys).state a w

        summed : load_formula j.device w ys + (1 + length w) ≡ formula j.device w ys
        summed = omega arith

-- a load that did not end well has no verify after it
pub over_made : (j : Job) (xs w : List ℕ) (verify : Bool) (m : Made) → m ≡ load_made false j xs w → (m.ran.end ≡ 0 → ⊥) → m ≡ load_made verify j xs w
over_made j xs w false m e n = e
over_made j xs w true m e n =
    let W : List ℕ = units j.device.part.word w in
    let Y : List ℕ = held_units j.device.part j.block xs w in
    e ∙ (λ i. made_of (fault_load_verify j W Y (λ z. n (ap (λ (x : Made). x.ran.end) e ∙ z)) i) (rises_in W Y))

-- a verify is asked
pub not-false : (b : Bool) → not b ≡ false → b ≡ true
not-false true e = refl
not-false false e = absurd (unlike e)
