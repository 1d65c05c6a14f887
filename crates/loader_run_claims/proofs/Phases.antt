-- The phases of a load against the model, from the back, each whatever follows.
use mathlib.Core.Path.{◌≡◌, refl, sym, ap, ◌∙◌, subst}
use mathlib.Core.Bool.{Bool, true, false, not, ◌&&◌, ◌||◌}
use mathlib.Core.List.{List, [], ◌∷◌}
use Prim.Native.Nat.{ℕ, zero, suc, ◌+◌, ◌-◌, ◌*◌, ◌/◌, ◌%◌, ◌≤◌, ◌<◌}
use native.Mathlib.Nat.{not-suc-le-zero, le_of_suc-le-suc, zero-mul, one-mul, add-mul, zero-add}
use native.Mathlib.Omega.{arith}
use lib.ListN.{length, get_or, set, replicate, length-replicate, get_or-replicate}
use lib.Dec.{eqb, ltb, leb}
use lib.Bits.{bit_and}
use borrow.Author.Tests.{lt-ltb, le-ltb, eq-eqb, ne_eqb, eqb-true, lt-leb, not-false}
use Rattle.model_types.specs.Cells.{ones, Cells}
use Rattle.model_types.proofs.Ones.{and_ones}
use Rattle.std.specs.Prelude.{if◌then◌else◌}
use Rattle.common.proofs.Choice.{if_ind, if_true, if_false, and_right, or_left, or_right, unlike}
use Rattle.model.proofs.Status.{fits, all_below_lem}
use Rattle.common.specs.Lists.{overlaid, overwritten}
use Rattle.common.proofs.Lists.{overwritten_more, overwritten_all}
use Rattle.common.proofs.Bytes.{overlaid_in, overlaid_length}
use Rattle.device.specs.declared.Device.{Device}
use Rattle.device.specs.Parts.{size_of, length_of, start_of, block_of}
use Rattle.device.proofs.Claims.{blocks_end_inside, blocks_apart}
use Rattle.model_types.specs.declared.Pins.{Pins}
use Rattle.model_types.specs.declared.Kind.{Kind}
use Rattle.model_types.specs.declared.Kind.TheVariants.{Read, Write}
use Rattle.model_types.specs.declared.Mode.{Mode}
use Rattle.model_types.specs.declared.Mode.TheVariants.{Array, Status}
use Rattle.model_types.specs.declared.Phase.{Phase}
use Rattle.model_types.specs.declared.Phase.TheVariants.{Free, EraseAwaited, DataAwaited, Programming, Erasing, Suspending, Suspended}
use Rattle.model_types.specs.declared.Effect.{Effect}
use Rattle.model_types.specs.declared.Effect.TheVariants.{Nothing, Program, Erase}
use Rattle.model_types.specs.declared.Reply.{Reply}
use Rattle.model_types.specs.declared.Reply.TheVariants.{Quiet, Gives, GivesArray}
use Rattle.model_types.specs.declared.State.{State}
use Rattle.model_states.specs.States.{is_at_rest, most_left}
use Rattle.model_rules.specs.Cycles.{decide_of, decided_as}
use Rattle.model.specs.Arrays.{erased}
use Rattle.model.proofs.Keeping.{st}
use Rattle.loader.specs.declared.Stage.{Stage}
use Rattle.loader.specs.declared.Stage.TheVariants.{Clearing, Opening, Reading, EraseAsking, EraseConfirming, EraseWaiting, ProgramAsking, ProgramSending, ProgramWaiting, Closing, Verifying, Ended}
use Rattle.loader.specs.declared.Loader.{Loader}
use Rattle.loader_walk.specs.Walks.{must_rise, rises, next_diff, diff_from, rises_in}
use Rattle.loader_moves.specs.Moves.{next_of, loaded_stage, onward, after_reads, after_read, poll_more, erase_polled, program_polled, verify_more}
use Rattle.loader.specs.Statuses.{erase_end, program_end, both_errors}
use Rattle.loader_moves.specs.Inner.{past}
use Rattle.loader_steps.specs.Addresses.{first_address}
use Rattle.loader_steps.specs.Inner.{here_of}
use Rattle.loader_steps.specs.Outs.{cycle_of}
use Rattle.loader_stores.specs.Stores.{store_of, erased_well, programmed_well}
use Rattle.loader_steps.proofs.SmallAddresses.{length_small}
use Rattle.loader_walk.proofs.Walking.{diff_round, diff_over}
use Rattle.model_types.specs.declared.Cycle.{Cycle}
use Rattle.model.specs.Begun.{pending_in, begun_from}
use Rattle.model_types.specs.Phases.{is_busy, is_awaited}
use Rattle.loader_run.specs.Turns.{Config, turn_of}
use Rattle.loader.specs.Stages.{is_ended}
use Rattle.loader_run_claims.specs.Wear.{programs_of, differing, base_of, operations_of}
use Rattle.loader_run.proofs.Turning.{conf}
use Rattle.loader_run_claims.specs.Made.{is_smooth, reads_then, polls_then, opening_then, erase_then, program_then, programs_then, closing_of, programming_then, load_then, bus_cycle as cyc}
use Rattle.loader_run_claims.proofs.Reaching.{Reach, Answered, Does, does_as, arrive, prepend, turned, does}
use Rattle.loader_run_claims.proofs.LoadLists.{put_over, over_over, overwritten_length, overwritten_here, overwritten_agree}
use Rattle.loader_run_claims.specs.Ends.{erased_from, as_wanted, loaded_mode}
use Rattle.loader_run_claims.proofs.SameBlock.{risen_differs}
use Rattle.units.specs.Units.{carried}
use Rattle.units.proofs.Widths.{carried_cell}
use Rattle.loader_run_claims.proofs.Answers as answers
use Rattle.loader_run_claims.proofs.Answers.{Up, Ready, Runs}

-- 50H leaves SR.7 alone of a ready status
cleared : (x : ℕ) → fits 2 x ≡ true → bit_and x 199 ≡ 128
cleared x f =
    let q : x / 64 ≡ 2 = eqb-true (x / 64) 2 (and_right (eqb (x % 8) 0) (eqb (x / 64) 2) f) in
    eqb-true (bit_and x 199) 128 (imply (fits 2 x) (eqb (bit_and x 199) 128) (all_below_lem (λ y. not (fits 2 y) || eqb (bit_and y 199) 128) 256 refl x (omega arith)) f)
  where
    imply : (x y : Bool) → (not x || y) ≡ true → x ≡ true → y ≡ true
    imply true y h k = h
    imply false y h k = absurd (unlike (sym k))

-- where no bit must rise, every unit held keeps the bits wanted
no_rise : (n i : ℕ) (w s : List ℕ) → rises n i w s ≡ false → (j : ℕ) → j < n → must_rise (get_or s (i + j) 0) (get_or w (i + j) 0) ≡ false
no_rise zero i w s e j h = absurd (not-suc-le-zero h)
no_rise (suc n) i w s e zero h =
    subst (λ (m : ℕ). must_rise (get_or s m 0) (get_or w m 0) ≡ false) (let q : i ≡ i + 0 = omega arith in q)
    (or_left (must_rise (get_or s i 0) (get_or w i 0)) (rises n (i + 1) w s) e)
no_rise (suc n) i w s e (suc j) h =
    subst (λ (m : ℕ). must_rise (get_or s m 0) (get_or w m 0) ≡ false) (let q : i + 1 + j ≡ i + suc j = omega arith in q)
    (no_rise n (i + 1) w s (or_right (must_rise (get_or s i 0) (get_or w i 0)) (rises n (i + 1) w s) e) j (le_of_suc-le-suc h))

-- `was` is the state that the load began in; `verify` is whether the verify follows it
module _ (verify : Bool) (d : Device) (p : Pins) (k : ℕ) (u : Up d p) (was : State) (w : List ℕ) (lw : length w ≡ length_of d.part k) (some : 0 < length w) where
  abbrev pub a : ℕ
  a = start_of d.part k

  abbrev pub rec_as : Stage → ℕ → ℕ → Bool → Loader
  rec_as stage place polls high = record { part = d.part; pins = p; block = k; stage = stage; place = place; polls = polls; verify = verify; high = high }

  abbrev pub rec : Stage → ℕ → ℕ → Loader
  rec stage place polls = rec_as stage place polls false

  pub inside : (i : ℕ) → i < length w → a + i < size_of d.part
  inside i h = omega (arith, blocks_end_inside d.part k)

  pub a_inside : a < size_of d.part
  a_inside = omega (arith, blocks_end_inside d.part k)

  a_within : (xs : List ℕ) → length xs ≡ size_of d.part → a ≤ length xs
  a_within xs e = omega (arith, a_inside)

  -- every address of the block is in the block
  pub block_at : (i : ℕ) → i < length w → block_of d.part (a + i) ≡ k
  unfolding start_of length_of
  block_at i h = blocks_apart d.part k (a + i) (record { from = omega arith; to = omega arith })

  pub block_first : block_of d.part a ≡ k
  block_first = subst (λ (x : ℕ). block_of d.part x ≡ k) (let q : a + 0 ≡ a = omega arith in q) (block_at 0 some)

  pub first : (stage : Stage) (i q : ℕ) → first_address (rec stage i q) ≡ a
  unfolding first_address
  first stage i q = refl

  pub here : (stage : Stage) (i q : ℕ) → i < length w → here_of (rec stage i q) ≡ a + i
  unfolding here_of first_address
  here stage i q h = if_true (ltb i 16777216) (a + i) a (lt-ltb i 16777216 (omega (arith, length_small d.part k)))

  -- a stage whose cycle goes to an address known, and what the model decides on it
  pub answered_here : (stage : Stage) (i q : ℕ) (kind : Kind) (b : ℕ) (s : State) (reply : Reply) (s' : State) (e : Effect) → i < length w → cycle_of (rec stage i q) w ≡ cyc p kind (here_of (rec stage i q)) b
      → decide_of d s (cyc p kind (a + i) b) (size_of d.part) 0 ≡ decided_as reply s' e → is_smooth (decided_as reply s' e) ≡ true → Answered d w (rec stage i q) s (cyc p kind (a + i) b) reply s' e
  answered_here stage i q kind b s reply s' e h o x f = record { out = o ∙ ap (λ (y : ℕ). cyc p kind y b) (here stage i q h); decided = x; fine = f }

  pub answered_first : (stage : Stage) (i q : ℕ) (kind : Kind) (b : ℕ) (s : State) (reply : Reply) (s' : State) (e : Effect) → cycle_of (rec stage i q) w ≡ cyc p kind (first_address (rec stage i q)) b
      → decide_of d s (cyc p kind a b) (size_of d.part) 0 ≡ decided_as reply s' e → is_smooth (decided_as reply s' e) ≡ true → Answered d w (rec stage i q) s (cyc p kind a b) reply s' e
  answered_first stage i q kind b s reply s' e o x f = record { out = o ∙ ap (λ (y : ℕ). cyc p kind y b) (first stage i q); decided = x; fine = f }

  -- a cell is carried whole
  pub cell : (v : ℕ) → v ≤ ones d.part → carried d.part.word v ≡ v
  unfolding ones
  cell v h = carried_cell d.part.word v h

  -- the verify: unit i reads as wanted, and the next or the end follows
  -- of two words that differ, only the high bytes do
  abbrev pub only_high : ℕ → ℕ → Bool
  only_high v wanted = d.part.word && eqb (v % 256) (wanted % 256)

  verify_next : (i b : ℕ) → b ≤ ones d.part → b ≡ get_or w i 0 → i + 1 < length w → verify_more (rec Verifying i 0) b w ≡ rec Verifying (i + 1) 0
  unfolding verify_more
  verify_next i b c e h =
      if_true (eqb (carried d.part.word b) (get_or w i 0)) _ _ (eq-eqb (carried d.part.word b) (get_or w i 0) (cell b c ∙ e)) ∙ if_true (ltb i (length w - 1)) _ _ (lt-ltb i (length w - 1) (omega arith))

  verify_last : (i b : ℕ) → b ≤ ones d.part → b ≡ get_or w i 0 → i + 1 ≡ length w → verify_more (rec Verifying i 0) b w ≡ rec (Ended 0) i 0
  unfolding verify_more
  verify_last i b c e h =
      if_true (eqb (carried d.part.word b) (get_or w i 0)) _ _ (eq-eqb (carried d.part.word b) (get_or w i 0) (cell b c ∙ e)) ∙ if_false (ltb i (length w - 1)) _ _ (le-ltb i (length w - 1) (omega arith))

  verify_differs : (i b : ℕ) → b ≤ ones d.part → eqb b (get_or w i 0) ≡ false → verify_more (rec Verifying i 0) b w ≡ rec_as (Ended 25) i 0 (only_high b (get_or w i 0))
  unfolding verify_more
  verify_differs i b c e = if_false (eqb (carried d.part.word b) (get_or w i 0)) _ _ (ap (λ (v : ℕ). eqb v (get_or w i 0)) (cell b c) ∙ e)

  -- what a verify reads whose first difference is at place j, and its end
  abbrev pub reads_to : ℕ → ℕ
  reads_to j = if ltb j (length w) then j + 1 else length w

  abbrev pub end_at : ℕ → ℕ
  end_at j = if ltb j (length w) then 25 else 0

  reads_past : (i j : ℕ) → i < length w → i ≤ j → i < reads_to j
  reads_past i j h g = if_ind (λ (n : ℕ). i < n) (ltb j (length w)) (j + 1) (length w) (λ e. omega arith) (λ e. h)

  ahead : (n i : ℕ) (ys : List ℕ) → i ≤ next_diff n i w ys
  ahead zero i ys = omega arith
  ahead (suc n) i ys = if_ind (λ (j : ℕ). i ≤ j) (eqb (get_or ys i 0) (get_or w i 0)) (next_diff n (i + 1) w ys) i (λ e. omega (arith, ahead n (i + 1) ys)) (λ e. omega arith)

  -- on to the first differing byte from place i on, or to what follows the last program
  abbrev pub onto : ℕ → List ℕ → Loader
  onto i sc = if ltb (diff_from i w sc) (length w) then rec ProgramAsking (diff_from i w sc) 0 else rec (loaded_stage verify) 0 0

  onward_onto : (stage : Stage) (i q j : ℕ) (sc : List ℕ) → onward (rec stage i q) j w sc ≡ onto j sc
  unfolding onward
  onward_onto stage i q j sc = refl

  module _ (xs : List ℕ) (lx : length xs ≡ size_of d.part) where
    -- the array with a block laid over it
    in_block : (ys : List ℕ) → length ys ≡ length w → a + length ys ≤ length xs
    in_block ys e = omega (arith, blocks_end_inside d.part k)

    pub sized : (ys : List ℕ) → length ys ≡ length w → length (overlaid xs a ys) ≡ size_of d.part
    sized ys e = overlaid_length xs a ys (in_block ys e) ∙ lx

    byte_at_lem : (ys : List ℕ) (i : ℕ) → length ys ≡ length w → i < length w → get_or (overlaid xs a ys) (a + i) 0 ≡ get_or ys i 0
    byte_at_lem ys i e h = overlaid_in xs a ys (in_block ys e) i (omega arith)

    -- a number of bytes that is not 0, as one more
    one_more : suc (length w - 1) ≡ length w
    one_more = omega arith

    -- the verify of a block that holds ys, from a device at rest with status x
    module _ (ys sc : List ℕ) (ly : length ys ≡ length w) (cy : Cells d.part ys) (ls : length sc ≡ length w) (x : ℕ) (f : fits 2 x ≡ true) where
      abbrev X : List ℕ
      X = overlaid xs a ys

      -- the end by a number after n units; of the word at a difference only the high bytes may differ
      abbrev pub verified_by : ℕ → Bool → ℕ → ℕ → Config
      verified_by number high n c = conf (rec_as (Ended number) (n - 1) 0 high) (is_at_rest was Array x) X (overwritten n ys sc) c

      abbrev pub high_at : ℕ → Bool
      high_at j = if ltb j (length w) then only_high (get_or ys j 0) (get_or w j 0) else false

      -- .. whose first difference is at place j
      abbrev pub verified : ℕ → ℕ → Config
      verified j c = verified_by (end_at j) (high_at j) (reads_to j) c

      -- one byte of the verify
      verify_answered : (i : ℕ) (h : i < length w) → Answered d w (rec Verifying i 0) (is_at_rest was Array x) (cyc p Read (a + i) 0) (GivesArray (a + i)) (is_at_rest was Array x) Nothing
      verify_answered i h = answered_here Verifying i 0 Read 0 (is_at_rest was Array x) (GivesArray (a + i)) (is_at_rest was Array x) Nothing h refl (answers.reads d p u was x (a + i) f (inside i h)) refl

      verify_turn : (i cnt : ℕ) (h : i < length w) (l' : Loader) → verify_more (rec Verifying i 0) (get_or ys i 0) w ≡ l'
          → turn_of d w (conf (rec Verifying i 0) (is_at_rest was Array x) X (overwritten i ys sc) cnt) ≡ conf l' (is_at_rest was Array x) X (overwritten (i + 1) ys sc) (cnt + 1)
      verify_turn i cnt h l' e =
          turned d w (rec Verifying i 0) (is_at_rest was Array x) X (overwritten i ys sc) cnt refl (sized ys ly) (cyc p Read (a + i) 0) (GivesArray (a + i)) (is_at_rest was Array x) Nothing (verify_answered i h)
          ∙ (λ t. conf ((ap (λ (b : ℕ). verify_more (rec Verifying i 0) b w) (byte_at_lem ys i ly h) ∙ e) t) (is_at_rest was Array x) X
          ((ap (λ (b : ℕ). set (overwritten i ys sc) i b) (ap (carried d.part.word) (byte_at_lem ys i ly h) ∙ cell (get_or ys i 0) (cy i)) ∙ overwritten_more ys sc i (omega arith) (omega arith)) t) (cnt + 1))

      verify_does : (i cnt : ℕ) (h : i < length w) → Does d w (conf (rec Verifying i 0) (is_at_rest was Array x) X (overwritten i ys sc) cnt) Nothing (cyc p Read (a + i) 0)
      verify_does i cnt h = does d w (rec Verifying i 0) (is_at_rest was Array x) X (overwritten i ys sc) cnt refl (sized ys ly) (cyc p Read (a + i) 0) (GivesArray (a + i)) (is_at_rest was Array x) Nothing (verify_answered i h)

      -- the byte that ends it
      ending : (i cnt number : ℕ) (high : Bool) (h : i < length w) → verify_more (rec Verifying i 0) (get_or ys i 0) w ≡ rec_as (Ended number) i 0 high
          → Reach d w (conf (rec Verifying i 0) (is_at_rest was Array x) X (overwritten i ys sc) cnt) (verified_by number high (i + 1) (cnt + 1)) [] (reads_then p 1 a i [])
      ending i cnt number high h e =
          prepend d w _ _ _ Nothing (cyc p Read (a + i) 0) [] [] (verify_turn i cnt h (rec_as (Ended number) i 0 high) e) (verify_does i cnt h)
          (arrive d w _ _ (λ t. conf (rec_as (Ended number) ((let z : i ≡ i + 1 - 1 = omega arith in z) t) 0 high) (is_at_rest was Array x) X (overwritten (i + 1) ys sc) (cnt + 1)))

      -- from place i on, by the place of the first difference
      abbrev From : ℕ → ℕ → ℕ → Type 0
      From i cnt j = Reach d w (conf (rec Verifying i 0) (is_at_rest was Array x) X (overwritten i ys sc) cnt) (verified j (cnt + (reads_to j - i))) [] (reads_then p (reads_to j - i) a i [])

      -- .. where the byte at i ends it
      ends_as : (i cnt j number : ℕ) (high : Bool) → i < length w → reads_to j ≡ i + 1 → end_at j ≡ number → high_at j ≡ high → verify_more (rec Verifying i 0) (get_or ys i 0) w ≡ rec_as (Ended number) i 0 high → From i cnt j
      ends_as i cnt j number high h r n v e =
          rw (r, n, v) (subst (λ (m : ℕ). Reach d w (conf (rec Verifying i 0) (is_at_rest was Array x) X (overwritten i ys sc) cnt) (verified_by number high (i + 1) (cnt + m)) [] (reads_then p m a i []))
          (let z : 1 ≡ i + 1 - i = omega arith in z) (ending i cnt number high h e))

      differs_at : (i cnt : ℕ) → i < length w → eqb (get_or ys i 0) (get_or w i 0) ≡ false → From i cnt i
      differs_at i cnt h e =
          ends_as i cnt i 25 (only_high (get_or ys i 0) (get_or w i 0)) h (if_true (ltb i (length w)) (i + 1) (length w) (lt-ltb i (length w) h)) (if_true (ltb i (length w)) 25 0 (lt-ltb i (length w) h))
          (if_true (ltb i (length w)) (only_high (get_or ys i 0) (get_or w i 0)) false (lt-ltb i (length w) h)) (verify_differs i (get_or ys i 0) (cy i) e)

      verifying : (n i cnt : ℕ) → i + (n + 1) ≡ length w → From i cnt (next_diff (suc n) i w ys)
      verifying zero i cnt e = go (eqb (get_or ys i 0) (get_or w i 0)) refl
        where
          go : (t : Bool) → eqb (get_or ys i 0) (get_or w i 0) ≡ t → From i cnt (if t then i + 1 else i)
          go true q =
              ends_as i cnt (i + 1) 0 false (omega arith) (if_false (ltb (i + 1) (length w)) (i + 1 + 1) (length w) (le-ltb (i + 1) (length w) (omega arith)) ∙ (let z : length w ≡ i + 1 = omega arith in z))
              (if_false (ltb (i + 1) (length w)) 25 0 (le-ltb (i + 1) (length w) (omega arith)))
              (if_false (ltb (i + 1) (length w)) (only_high (get_or ys (i + 1) 0) (get_or w (i + 1) 0)) false (le-ltb (i + 1) (length w) (omega arith))) (verify_last i (get_or ys i 0) (cy i) (eqb-true _ _ q) (omega arith))
          go false q = differs_at i cnt (omega arith) q
      verifying (suc n) i cnt e = go (eqb (get_or ys i 0) (get_or w i 0)) refl (verifying n (i + 1) (cnt + 1) (omega arith)) (ahead (suc n) (i + 1) ys)
        where
          h : i < length w
          h = omega arith

          next : (j : ℕ) → i + 1 ≤ j → eqb (get_or ys i 0) (get_or w i 0) ≡ true → From (i + 1) (cnt + 1) j → From i cnt j
          next j g q r =
              let past : i < reads_to j = reads_past i j h (omega arith) in
              subst (λ (m : ℕ). Reach d w (conf (rec Verifying i 0) (is_at_rest was Array x) X (overwritten i ys sc) cnt) (verified j (cnt + m)) [] (reads_then p m a i []))
              (let z : suc (reads_to j - (i + 1)) ≡ reads_to j - i = omega arith in z)
              (prepend d w _ _ _ Nothing (cyc p Read (a + i) 0) [] (reads_then p (reads_to j - (i + 1)) a (i + 1) [])
              (verify_turn i cnt h (rec Verifying (i + 1) 0) (verify_next i (get_or ys i 0) (cy i) (eqb-true _ _ q) (omega arith))) (verify_does i cnt h)
              (subst (λ (c : ℕ). Reach d w (conf (rec Verifying (i + 1) 0) (is_at_rest was Array x) X (overwritten (i + 1) ys sc) (cnt + 1)) (verified j c) [] (reads_then p (reads_to j - (i + 1)) a (i + 1) []))
              (let z : cnt + 1 + (reads_to j - (i + 1)) ≡ cnt + suc (reads_to j - (i + 1)) = omega arith in z) r))

          go : (t : Bool) → eqb (get_or ys i 0) (get_or w i 0) ≡ t → From (i + 1) (cnt + 1) (next_diff (suc n) (i + 1) w ys) → i + 1 ≤ next_diff (suc n) (i + 1) w ys
              → From i cnt (if t then next_diff (suc n) (i + 1) w ys else i)
          go true q r g = next (next_diff (suc n) (i + 1) w ys) g q r
          go false q r g = differs_at i cnt h q

      -- the whole verify: FFH, and the reads up to the first difference
      pub closing : (m : Mode) (cnt : ℕ)
          → Reach d w (conf (rec Closing 0 0) (is_at_rest was m x) X sc cnt) (verified (diff_from 0 w ys) (cnt + (1 + reads_to (diff_from 0 w ys)))) [] (closing_of p a (reads_to (diff_from 0 w ys)))
      unfolding diff_from
      closing m cnt =
          prepend d w _ _ _ Nothing (cyc p Write a 0xFF) [] _
          (turned d w (rec Closing 0 0) (is_at_rest was m x) X sc cnt refl (sized ys ly) (cyc p Write a 0xFF) Quiet (is_at_rest was Array x) Nothing answered)
          (does d w (rec Closing 0 0) (is_at_rest was m x) X sc cnt refl (sized ys ly) (cyc p Write a 0xFF) Quiet (is_at_rest was Array x) Nothing answered)
          (all (next_diff (length w - 0) 0 w ys) (subst (λ (n : ℕ). From 0 (cnt + 1) (next_diff n 0 w ys)) (let z : suc (length w - 1) ≡ length w - 0 = omega arith in z) (verifying (length w - 1) 0 (cnt + 1) (omega arith))))
        where
          answered : Answered d w (rec Closing 0 0) (is_at_rest was m x) (cyc p Write a 0xFF) Quiet (is_at_rest was Array x) Nothing
          answered = answered_first Closing 0 0 Write 0xFF (is_at_rest was m x) Quiet (is_at_rest was Array x) Nothing refl (answers.opens d p u was m x a f a_inside) refl

          all : (j : ℕ) → From 0 (cnt + 1) j
              → Reach d w (conf (rec Verifying 0 0) (is_at_rest was Array x) X sc (cnt + 1)) (verified j (cnt + (1 + reads_to j))) [] (reads_then p (reads_to j) a 0 [])
          all j r =
              subst (λ (c : ℕ). Reach d w (conf (rec Verifying 0 0) (is_at_rest was Array x) X sc (cnt + 1)) (verified j c) [] (reads_then p (reads_to j) a 0 [])) (let z : cnt + 1 + reads_to j ≡ cnt + (1 + reads_to j) = omega arith in z)
              (subst (λ (m : ℕ). Reach d w (conf (rec Verifying 0 0) (is_at_rest was Array x) X sc (cnt + 1)) (verified j (cnt + 1 + m)) [] (reads_then p m a 0 [])) (let z : reads_to j - 0 ≡ reads_to j = omega arith in z) r)

    -- where a load stands after its last program
    abbrev pub loaded : Mode → ℕ → Config
    loaded m cnt = conf (rec (loaded_stage verify) 0 0) (is_at_rest was m 128) (overlaid xs a w) w cnt

    -- .. with the counts of another state
    abbrev pub loaded_as : State → Mode → ℕ → Config
    loaded_as sx m cnt = conf (rec (loaded_stage verify) 0 0) (is_at_rest sx m 128) (overlaid xs a w) w cnt

    -- the last of some polls, put to the others
    polls_last : (n x : ℕ) (cs : List Cycle) → polls_then p n x (cyc p Read x 0 ∷ cs) ≡ polls_then p (suc n) x cs
    polls_last zero x cs = refl
    polls_last (suc n) x cs = ap (λ (z : List Cycle). cyc p Read x 0 ∷ z) (polls_last n x cs)

    -- the polls of an operation, of either kind, while cycles are left
    module _ (sx : State) (r : Ready d p k) (W : Stage) (i : ℕ) (ph : Phase) (adr to : ℕ) (going : is_ended W ≡ false) (busy : Runs ph) (adr-in : adr < size_of d.part) (to_in : to < size_of d.part)
        (X sc : List ℕ) (l_x : length X ≡ size_of d.part) (goes : (q : ℕ) → cycle_of (rec W i q) w ≡ cyc p Read to 0)
        (polled : (q : ℕ) → next_of (rec W i q) 0 w (store_of (rec W i q) 0 w sc) ≡ poll_more (rec W i q) W) (kept : (q : ℕ) → store_of (rec W i q) 0 w sc ≡ sc) where
      poll_more_lem : (q : ℕ) → q < 65534 → poll_more (rec W i q) W ≡ rec W i (q + 1)
      unfolding poll_more
      poll_more_lem q h = if_false (leb 65534 q) _ _ (lt-leb 65534 q h)

      waiting : (left q cnt : ℕ) (e : Config) (es : List Effect) (cs : List Cycle) → q + (left + 1) ≤ 65535 → left + 1 ≤ most_left d ph
          → ((q' cnt' : ℕ) → cnt' ≡ cnt + left → Reach d w (conf (rec W i q') (st sx Status 0 ph 1 adr) X sc cnt') e es cs)
          → Reach d w (conf (rec W i q) (st sx Status 0 ph (left + 1) adr) X sc cnt) e es (polls_then p left to cs)
      waiting zero q cnt e es cs h m rest = rest q cnt (omega arith)
      waiting (suc left) q cnt e es cs h m rest =
          subst (λ (n : ℕ). Reach d w (conf (rec W i q) (st sx Status 0 ph n adr) X sc cnt) e es (polls_then p (suc left) to cs)) (let z : left + 1 + 1 ≡ suc left + 1 = omega arith in z)
          (prepend d w _ (conf (rec W i (q + 1)) (st sx Status 0 ph (left + 1) adr) X sc (cnt + 1)) e Nothing (cyc p Read to 0) es (polls_then p left to cs)
          (turned d w (rec W i q) (st sx Status 0 ph (left + 1 + 1) adr) X sc cnt going l_x (cyc p Read to 0) (Gives 0) (st sx Status 0 ph (left + 1) adr) Nothing answered
          ∙ (λ t. conf ((polled q ∙ poll_more_lem q (omega arith)) t) (st sx Status 0 ph (left + 1) adr) X (kept q t) (cnt + 1)))
          (does_as d w _ _ Nothing (cyc p Read to 0) none (does d w (rec W i q) (st sx Status 0 ph (left + 1 + 1) adr) X sc cnt going l_x (cyc p Read to 0) (Gives 0) (st sx Status 0 ph (left + 1) adr) Nothing answered))
          (waiting left (q + 1) (cnt + 1) e es cs (omega arith) (omega arith) (λ q' cnt' z. rest q' cnt' (omega arith))))
        where
          answered : Answered d w (rec W i q) (st sx Status 0 ph (left + 1 + 1) adr) (cyc p Read to 0) (Gives 0) (st sx Status 0 ph (left + 1) adr) Nothing
          answered = record { out = goes q; decided = answers.waits d p u sx k r ph (left + 1) adr to busy (omega arith) (omega arith) adr-in to_in; fine = refl }

          none : begun_from d.part (st sx Status 0 ph (left + 1 + 1) adr) (st sx Status 0 ph (left + 1) adr) ≡ Nothing
          none = quiet ph busy.0
            where
              quiet : (x : Phase) → is_busy x ≡ true → (if is_awaited x then pending_in x d.part adr else Nothing) ≡ Nothing
              quiet Free b = refl
              quiet EraseAwaited b = absurd (unlike (sym b))
              quiet DataAwaited b = absurd (unlike (sym b))
              quiet (Programming y) b = refl
              quiet Erasing b = refl
              quiet (Suspending m) b = refl
              quiet Suspended b = refl

      -- all the polls of an operation that takes n cycles
      waiting_all : (n cnt : ℕ) (e : Config) (es : List Effect) (cs : List Cycle) → 0 < n → n ≤ 65535 → n ≤ most_left d ph
          → ((q cnt' : ℕ) → cnt' + 1 ≡ cnt + n → Reach d w (conf (rec W i q) (st sx Status 0 ph 1 adr) X sc cnt') e es (cyc p Read to 0 ∷ cs))
          → Reach d w (conf (rec W i 0) (st sx Status 0 ph n adr) X sc cnt) e es (polls_then p n to cs)
      waiting_all n cnt e es cs z b m rest =
          subst (λ (x : ℕ). Reach d w (conf (rec W i 0) (st sx Status 0 ph x adr) X sc cnt) e es (polls_then p n to cs)) (let t : n - 1 + 1 ≡ n = omega arith in t)
          (subst (λ (y : List Cycle). Reach d w (conf (rec W i 0) (st sx Status 0 ph (n - 1 + 1) adr) X sc cnt) e es y)
          (polls_last (n - 1) to cs ∙ ap (λ (x : ℕ). polls_then p x to cs) (let t : suc (n - 1) ≡ n = omega arith in t))
          (waiting (n - 1) 0 cnt e es (cyc p Read to 0 ∷ cs) (omega arith) (omega arith) (λ q cnt' t. rest q cnt' (omega arith))))

    -- a program that ended well goes on to the next differing byte
    programmed : (i q : ℕ) (sc : List ℕ) → i < length w → program_polled (rec ProgramWaiting i q) 128 w sc ≡ onto (i + 1) sc
    unfolding program_polled program_end both_errors past
    programmed i q sc h = ap (λ (j : ℕ). onward (rec ProgramWaiting i q) j w sc) (if_true (ltb i (length w)) (i + 1) i (lt-ltb i (length w) h)) ∙ onward_onto ProgramWaiting i q (i + 1) sc

    program_poll : (i q : ℕ) (sc : List ℕ) → next_of (rec ProgramWaiting i q) 0 w sc ≡ poll_more (rec ProgramWaiting i q) ProgramWaiting
    unfolding program_polled
    program_poll i q sc = refl

    -- scratch takes the byte as its program ends well, and not before
    program_keeps : (i q : ℕ) (sc : List ℕ) → store_of (rec ProgramWaiting i q) 0 w sc ≡ sc
    unfolding programmed_well
    program_keeps i q sc = refl

    program_stores : (i q : ℕ) (sc : List ℕ) → store_of (rec ProgramWaiting i q) 128 w sc ≡ set sc i (get_or w i 0)
    unfolding programmed_well program_end both_errors
    program_stores i q sc = refl

    -- one byte programmed: 40H, the byte, P polls
    one_program : (sx : State) (r : Ready d p k) (m : Mode) (i cnt : ℕ) (ys sc : List ℕ) (e : Config) (es : List Effect) (cs : List Cycle) → i < length w → length ys ≡ length w → get_or w i 0 ≤ ones d.part
        → bit_and (get_or ys i 0) (get_or w i 0) ≡ get_or w i 0
        → 0 < d.program → d.program ≤ 65535
        → ((cnt' : ℕ) → cnt' ≡ cnt + (2 + d.program) → Reach d w (conf (onto (i + 1) (set sc i (get_or w i 0))) (is_at_rest sx Status 128) (overlaid xs a (set ys i (get_or w i 0))) (set sc i (get_or w i 0)) cnt') e es cs)
        → Reach d w (conf (rec ProgramAsking i 0) (is_at_rest sx m 128) (overlaid xs a ys) sc cnt) e (Program (a + i) (get_or w i 0) ∷ es) (program_then d p (a + i) (get_or w i 0) cs)
    one_program sx r m i cnt ys sc e es cs h ly cell-w falls z b rest =
        prepend d w _ _ e Nothing (cyc p Write (a + i) 0x40) (Program (a + i) v ∷ es) _
        (turned d w (rec ProgramAsking i 0) (is_at_rest sx m 128) X sc cnt refl l_x (cyc p Write (a + i) 0x40) Quiet asked Nothing answered1)
        (does d w (rec ProgramAsking i 0) (is_at_rest sx m 128) X sc cnt refl l_x (cyc p Write (a + i) 0x40) Quiet asked Nothing answered1)
        (prepend d w _ _ e (Program (a + i) v) (cyc p Write (a + i) v) es _
        (turned d w (rec ProgramSending i 0) asked X sc (cnt + 1) refl l_x (cyc p Write (a + i) v) Quiet (st sx Status 0 (Programming v) d.program (a + i)) Nothing answered2)
        (does d w (rec ProgramSending i 0) asked X sc (cnt + 1) refl l_x (cyc p Write (a + i) v) Quiet (st sx Status 0 (Programming v) d.program (a + i)) Nothing answered2)
        (waiting_all sx r ProgramWaiting i (Programming v) (a + i) (a + i) refl (refl, refl) (inside i h) (inside i h) X sc l_x
        (λ q. ap (λ (x : ℕ). cyc p Read x 0) (here ProgramWaiting i q h)) (λ q. ap (λ (y : List ℕ). next_of (rec ProgramWaiting i q) 0 w y) (program_keeps i q sc) ∙ program_poll i q sc) (λ q. program_keeps i q sc)
        d.program (cnt + 1 + 1) e es cs z b (omega arith)
        (λ q cnt' t. prepend d w _ _ e Nothing (cyc p Read (a + i) 0) es cs
        (turned d w (rec ProgramWaiting i q) (st sx Status 0 (Programming v) 1 (a + i)) X sc cnt' refl l_x (cyc p Read (a + i) 0) (Gives 128) (is_at_rest sx Status 128) (Program (a + i) v) (answered3 q)
        ∙ (λ x. conf ((ap (λ (y : List ℕ). next_of (rec ProgramWaiting i q) 128 w y) (program_stores i q sc) ∙ programmed i q (set sc i v) h) x) (is_at_rest sx Status 128) (stored x) (program_stores i q sc x) (cnt' + 1)))
        (does d w (rec ProgramWaiting i q) (st sx Status 0 (Programming v) 1 (a + i)) X sc cnt' refl l_x (cyc p Read (a + i) 0) (Gives 128) (is_at_rest sx Status 128) (Program (a + i) v) (answered3 q))
        (rest (cnt' + 1) (omega arith)))))
      where
        v : ℕ
        v = get_or w i 0

        X : List ℕ
        X = overlaid xs a ys

        l_x : length X ≡ size_of d.part
        l_x = sized ys ly

        asked : State
        asked = st sx Status 128 DataAwaited 0 0

        answered1 : Answered d w (rec ProgramAsking i 0) (is_at_rest sx m 128) (cyc p Write (a + i) 0x40) Quiet asked Nothing
        answered1 = answered_here ProgramAsking i 0 Write 0x40 (is_at_rest sx m 128) Quiet asked Nothing h refl (answers.asks_program_lem d p u sx m 128 (a + i) refl (inside i h)) refl

        answered2 : Answered d w (rec ProgramSending i 0) asked (cyc p Write (a + i) v) Quiet (st sx Status 0 (Programming v) d.program (a + i)) Nothing
        answered2 = answered_here ProgramSending i 0 Write v asked Quiet (st sx Status 0 (Programming v) d.program (a + i)) Nothing h refl (answers.sends d p u sx k r (a + i) v (inside i h) (block_at i h) cell-w) refl

        answered3 : (q : ℕ) → Answered d w (rec ProgramWaiting i q) (st sx Status 0 (Programming v) 1 (a + i)) (cyc p Read (a + i) 0) (Gives 128) (is_at_rest sx Status 128) (Program (a + i) v)
        answered3 q =
            answered_here ProgramWaiting i q Read 0 (st sx Status 0 (Programming v) 1 (a + i)) (Gives 128) (is_at_rest sx Status 128) (Program (a + i) v) h refl
            (answers.ends d p u sx k r (Programming v) (a + i) (a + i) (refl, refl) z (inside i h) (inside i h)) refl

        stored : set X (a + i) (bit_and (get_or X (a + i) 0) v) ≡ overlaid xs a (set ys i v)
        stored =
            ap (λ (x : ℕ). set X (a + i) (bit_and x v)) (byte_at_lem ys i ly h) ∙ ap (λ (x : ℕ). set X (a + i) x) falls
            ∙ put_over xs a ys i v (a_within xs lx) (omega arith)

    -- the cycles that the programs take
    abbrev pub costs : ℕ → ℕ → List ℕ → ℕ
    costs zero i sc = 0
    costs (suc j) i sc = (if eqb (get_or sc i 0) (get_or w i 0) then 0 else 2 + d.program) + costs j (i + 1) sc

    onto_past : (i : ℕ) (sc : List ℕ) → length w ≤ i → onto i sc ≡ rec (loaded_stage verify) 0 0
    unfolding diff_from
    onto_past i sc h = if_false (ltb (next_diff (length w - i) i w sc) (length w)) _ _ (le-ltb _ (length w) (rw (diff_over (length w) i w sc h) h))

    onto_differs : (i : ℕ) (sc : List ℕ) → i < length w → eqb (get_or sc i 0) (get_or w i 0) ≡ false → onto i sc ≡ rec ProgramAsking i 0
    unfolding diff_from
    onto_differs i sc h e =
        let q : next_diff (length w - i) i w sc ≡ i = diff_round (length w) i w sc h ∙ if_false (eqb (get_or sc i 0) (get_or w i 0)) (next_diff (length w - (i + 1)) (i + 1) w sc) i e in
        ap (λ (j : ℕ). (if ltb j (length w) then rec ProgramAsking j 0 else rec (loaded_stage verify) 0 0)) q ∙ if_true (ltb i (length w)) _ _ (lt-ltb i (length w) h)

    onto_agrees : (i : ℕ) (sc : List ℕ) → i < length w → eqb (get_or sc i 0) (get_or w i 0) ≡ true → onto i sc ≡ onto (i + 1) sc
    unfolding diff_from
    onto_agrees i sc h e =
        let q : next_diff (length w - i) i w sc ≡ next_diff (length w - (i + 1)) (i + 1) w sc =
        diff_round (length w) i w sc h ∙ if_true (eqb (get_or sc i 0) (get_or w i 0)) (next_diff (length w - (i + 1)) (i + 1) w sc) i e in
        ap (λ (j : ℕ). (if ltb j (length w) then rec ProgramAsking j 0 else rec (loaded_stage verify) 0 0)) q

    -- the mode that n programs leave: read status after the first
    abbrev pub mode_after : Mode → ℕ → Mode
    mode_after m n = if eqb n 0 then m else Status

    status_stays : (m : Mode) (n : ℕ) → mode_after Status n ≡ mode_after m (1 + n)
    status_stays m n = if_ind (λ (x : Mode). x ≡ mode_after m (1 + n)) (eqb n 0) Status Status (λ e. later) (λ e. later)
      where
        later : Status ≡ mode_after m (1 + n)
        later = sym (if_false (eqb (1 + n) 0) m Status (ne_eqb (1 + n) 0 (λ q. omega arith)))

    -- the programs from place i on, whatever follows; scratch is the block so far
    pub walking : (sx : State) (r : Ready d p k) → Cells d.part w → (sc : List ℕ) → length sc ≡ length w → ((i : ℕ) → i < length w → bit_and (get_or sc i 0) (get_or w i 0) ≡ get_or w i 0) → 0 < d.program → d.program ≤ 65535
        → (e : Config) (cs : List Cycle) (j i cnt : ℕ) (m : Mode) → i + j ≡ length w
        → ((cnt' : ℕ) (m' : Mode) → cnt' ≡ cnt + costs j i sc → m' ≡ mode_after m (differing j i w sc) → Reach d w (loaded_as sx m' cnt') e [] cs)
        → Reach d w (conf (onto i (overwritten i w sc)) (is_at_rest sx m 128) (overlaid xs a (overwritten i w sc)) (overwritten i w sc) cnt) e (programs_of j a i w sc) (programs_then d p j a i w sc cs)
    walking sx r cw sc ls falls z b e cs zero i cnt m q rest =
        subst (λ (l : Loader). Reach d w (conf l (is_at_rest sx m 128) (overlaid xs a (overwritten i w sc)) (overwritten i w sc) cnt) e [] cs) (sym (onto_past i (overwritten i w sc) (omega arith)))
        (subst (λ (y : List ℕ). Reach d w (conf (rec (loaded_stage verify) 0 0) (is_at_rest sx m 128) (overlaid xs a y) y cnt) e [] cs) (sym whole) (rest cnt m (omega arith) refl))
      where
        whole : overwritten i w sc ≡ w
        whole = ap (λ (n : ℕ). overwritten n w sc) (let t : i ≡ length sc = omega arith in t) ∙ overwritten_all w sc (sym ls)
    walking sx r cw sc ls falls z b e cs (suc j) i cnt m q rest = go (eqb (get_or sc i 0) (get_or w i 0)) refl (walking sx r cw sc ls falls z b e cs j (i + 1)) rest
      where
        h : i < length w
        h = omega arith

        here_is : get_or (overwritten i w sc) i 0 ≡ get_or sc i 0
        here_is = overwritten_here w sc (sym ls) i (omega arith)

        fs : List Effect
        fs = programs_of j a (i + 1) w sc

        ds : List Cycle
        ds = programs_then d p j a (i + 1) w sc cs

        From : Loader → List ℕ → ℕ → Mode → List Effect → List Cycle → Type 0
        From l y n m' es ds' = Reach d w (conf l (is_at_rest sx m' 128) (overlaid xs a y) y n) e es ds'

        go : (t : Bool) → eqb (get_or sc i 0) (get_or w i 0) ≡ t
            → ((cnt' : ℕ) (m' : Mode) → i + 1 + j ≡ length w
            → ((c : ℕ) (o : Mode) → c ≡ cnt' + costs j (i + 1) sc → o ≡ mode_after m' (differing j (i + 1) w sc) → Reach d w (loaded_as sx o c) e [] cs)
            → From (onto (i + 1) (overwritten (i + 1) w sc)) (overwritten (i + 1) w sc) cnt' m' fs ds)
            → ((c : ℕ) (o : Mode) → c ≡ cnt + ((if t then 0 else 2 + d.program) + costs j (i + 1) sc) → o ≡ mode_after m ((if t then 0 else 1) + differing j (i + 1) w sc) → Reach d w (loaded_as sx o c) e [] cs)
            → From (onto i (overwritten i w sc)) (overwritten i w sc) cnt m (if t then fs else Program (a + i) (get_or w i 0) ∷ fs) (if t then ds else program_then d p (a + i) (get_or w i 0) ds)
        go true t more over =
            subst (λ (l : Loader). From l (overwritten i w sc) cnt m fs ds) (sym (onto_agrees i (overwritten i w sc) h (ap (λ (x : ℕ). eqb x (get_or w i 0)) here_is ∙ t)))
            (subst (λ (y : List ℕ). From (onto (i + 1) y) y cnt m fs ds) (sym (overwritten_agree w sc (sym ls) i (omega arith) (eqb-true _ _ t)))
            (more cnt m (omega arith) (λ c o x y. over c o (omega arith) (y ∙ ap (λ (n : ℕ). mode_after m n) (let v : differing j (i + 1) w sc ≡ 0 + differing j (i + 1) w sc = omega arith in v)))))
        go false t more over =
            subst (λ (l : Loader). From l (overwritten i w sc) cnt m (Program (a + i) (get_or w i 0) ∷ fs) (program_then d p (a + i) (get_or w i 0) ds))
            (sym (onto_differs i (overwritten i w sc) h (ap (λ (x : ℕ). eqb x (get_or w i 0)) here_is ∙ t)))
            (one_program sx r m i cnt (overwritten i w sc) (overwritten i w sc) e fs ds h (overwritten_length w sc (sym ls) i (omega arith) ∙ ls) (cw i)
            (ap (λ (x : ℕ). bit_and x (get_or w i 0)) here_is ∙ falls i h) z b
            (λ cnt' s. subst (λ (y : List ℕ). From (onto (i + 1) y) y cnt' Status fs ds) (sym (overwritten_more w sc i h (omega arith)))
            (more cnt' Status (omega arith) (λ c o x y. over c o (omega arith) (y ∙ status_stays m (differing j (i + 1) w sc))))))

    unrisen : (ys : List ℕ) → rises_in w ys ≡ false → (i : ℕ) → i < length w → bit_and (get_or ys i 0) (get_or w i 0) ≡ get_or w i 0
    unfolding rises_in
    unrisen ys e i h =
        subst (λ (m : ℕ). bit_and (get_or ys m 0) (get_or w m 0) ≡ get_or w m 0) (let q : 0 + i ≡ i = omega arith in q)
        (eqb-true (bit_and (get_or ys (0 + i) 0) (get_or w (0 + i) 0)) (get_or w (0 + i) 0) (not-false (eqb (bit_and (get_or ys (0 + i) 0) (get_or w (0 + i) 0)) (get_or w (0 + i) 0)) (no_rise (length w) 0 w ys e i h)))

    -- the block all ones
    abbrev pub blank : List ℕ
    blank = replicate (length w) (ones d.part)

    pub erased_blank : (X : List ℕ) (j : ℕ) → j ≡ k → erased d.part j X ≡ overlaid X a blank
    unfolding erased
    erased_blank X j e = ap (λ (i : ℕ). overlaid X (start_of d.part i) (replicate (length_of d.part i) (ones d.part))) e ∙ ap (λ (n : ℕ). overlaid X a (replicate n (ones d.part))) (sym lw)

    erase_poll : (q : ℕ) (sc : List ℕ) → next_of (rec EraseWaiting 0 q) 0 w sc ≡ poll_more (rec EraseWaiting 0 q) EraseWaiting
    unfolding erase_polled
    erase_poll q sc = refl

    erase_keeps : (q : ℕ) (sc : List ℕ) → store_of (rec EraseWaiting 0 q) 0 w sc ≡ sc
    unfolding erased_well erase_end both_errors
    erase_keeps q sc = refl

    pub erase_fills : (q : ℕ) (sc : List ℕ) → length sc ≡ length w → store_of (rec EraseWaiting 0 q) 128 w sc ≡ blank
    unfolding erased_well erase_end both_errors
    erase_fills q sc e = ap (λ (n : ℕ). replicate n (ones d.part)) e

    pub erased_on : (q : ℕ) (sc : List ℕ) → next_of (rec EraseWaiting 0 q) 128 w sc ≡ onto 0 sc
    unfolding erase_polled erase_end both_errors
    erased_on q sc = onward_onto EraseWaiting 0 q 0 sc

    -- the erase: 20H, D0H, E polls
    erasing : (r : Ready d p k) (m : Mode) (cnt : ℕ) (ys sc : List ℕ) (e : Config) (es : List Effect) (cs : List Cycle) → length ys ≡ length w → length sc ≡ length w → 0 < d.erase → d.erase ≤ 65535
        → ((cnt' : ℕ) → cnt' ≡ cnt + (2 + d.erase) → Reach d w (conf (onto 0 blank) (is_at_rest (erased_from true k was) Status 128) (overlaid xs a blank) blank cnt') e es cs)
        → Reach d w (conf (rec EraseAsking 0 0) (is_at_rest was m 128) (overlaid xs a ys) sc cnt) e (Erase k ∷ es) (erase_then d p a cs)
    erasing r m cnt ys sc e es cs ly ls z b rest =
        prepend d w _ _ e Nothing (cyc p Write a 0x20) (Erase k ∷ es) _
        (turned d w (rec EraseAsking 0 0) (is_at_rest was m 128) X sc cnt refl l_x (cyc p Write a 0x20) Quiet asked Nothing answered1)
        (does d w (rec EraseAsking 0 0) (is_at_rest was m 128) X sc cnt refl l_x (cyc p Write a 0x20) Quiet asked Nothing answered1)
        (prepend d w _ _ e (Erase k) (cyc p Write a 0xD0) es _
        (turned d w (rec EraseConfirming 0 0) asked X sc (cnt + 1) refl l_x (cyc p Write a 0xD0) Quiet (st counted Status 0 Erasing d.erase a) Nothing answered2)
        (does_as d w _ _ (Erase k) (cyc p Write a 0xD0) (ap Erase block_first)
        (does d w (rec EraseConfirming 0 0) asked X sc (cnt + 1) refl l_x (cyc p Write a 0xD0) Quiet (st counted Status 0 Erasing d.erase a) Nothing answered2))
        (waiting_all counted r EraseWaiting 0 Erasing a a refl (refl, refl) a_inside a_inside X sc l_x
        (λ q. ap (λ (x : ℕ). cyc p Read x 0) (first EraseWaiting 0 q)) (λ q. ap (λ (y : List ℕ). next_of (rec EraseWaiting 0 q) 0 w y) (erase_keeps q sc) ∙ erase_poll q sc) (λ q. erase_keeps q sc)
        d.erase (cnt + 1 + 1) e es cs z b (omega arith)
        (λ q cnt' t. prepend d w _ _ e Nothing (cyc p Read a 0) es cs
        (turned d w (rec EraseWaiting 0 q) (st counted Status 0 Erasing 1 a) X sc cnt' refl l_x (cyc p Read a 0) (Gives 128) (is_at_rest counted Status 128) (Erase (block_of d.part a)) (answered3 q)
        ∙ (λ x. conf ((ap (λ (y : List ℕ). next_of (rec EraseWaiting 0 q) 128 w y) (erase_fills q sc ls) ∙ erased_on q blank) x) (is_at_rest counted Status 128) (all_erased x) (erase_fills q sc ls x) (cnt' + 1)))
        (does d w (rec EraseWaiting 0 q) (st counted Status 0 Erasing 1 a) X sc cnt' refl l_x (cyc p Read a 0) (Gives 128) (is_at_rest counted Status 128) (Erase (block_of d.part a)) (answered3 q))
        (rest (cnt' + 1) (omega arith)))))
      where
        X : List ℕ
        X = overlaid xs a ys

        l_x : length X ≡ size_of d.part
        l_x = sized ys ly

        counted : State
        counted = erased_from true k was

        asked : State
        asked = st was Status 128 EraseAwaited 0 0

        answered1 : Answered d w (rec EraseAsking 0 0) (is_at_rest was m 128) (cyc p Write a 0x20) Quiet asked Nothing
        answered1 = answered_first EraseAsking 0 0 Write 0x20 (is_at_rest was m 128) Quiet asked Nothing refl (answers.asks_erase d p u was m 128 a refl a_inside) refl

        answered2 : Answered d w (rec EraseConfirming 0 0) asked (cyc p Write a 0xD0) Quiet (st counted Status 0 Erasing d.erase a) Nothing
        answered2 = answered_first EraseConfirming 0 0 Write 0xD0 asked Quiet (st counted Status 0 Erasing d.erase a) Nothing refl (answers.confirms d p u was k r a a_inside block_first) refl

        answered3 : (q : ℕ) → Answered d w (rec EraseWaiting 0 q) (st counted Status 0 Erasing 1 a) (cyc p Read a 0) (Gives 128) (is_at_rest counted Status 128) (Erase (block_of d.part a))
        answered3 q = answered_first EraseWaiting 0 q Read 0 (st counted Status 0 Erasing 1 a) (Gives 128) (is_at_rest counted Status 128) (Erase (block_of d.part a)) refl (answers.ends d p u counted k r Erasing a a (refl, refl) z a_inside a_inside) refl

        all_erased : erased d.part (block_of d.part a) X ≡ overlaid xs a blank
        all_erased = erased_blank X (block_of d.part a) block_first ∙ over_over xs a ys blank (a_within xs lx) (ly ∙ sym (length-replicate (length w) (ones d.part)))

    -- one more byte of the first reads
    read_next : (i : ℕ) (sc : List ℕ) → i + 1 < length w → after_read (rec Reading i 0) w sc ≡ rec Reading (i + 1) 0
    unfolding after_read
    read_next i sc h = if_true (ltb i (length w - 1)) _ _ (lt-ltb i (length w - 1) (omega arith))

    read_last : (i : ℕ) (sc : List ℕ) → i + 1 ≡ length w → after_read (rec Reading i 0) w sc ≡ after_reads (rec Reading i 0) w sc
    unfolding after_read
    read_last i sc h = if_false (ltb i (length w - 1)) _ _ (le-ltb i (length w - 1) (omega arith))

    after_same : (i : ℕ) (sc : List ℕ) → after_reads (rec Reading i 0) w sc ≡ (if rises_in w sc then rec EraseAsking 0 0 else onto 0 sc)
    unfolding after_reads onward
    after_same i sc = refl

    module _ (ys sc : List ℕ) (ly : length ys ≡ length w) (cy : Cells d.part ys) (ls : length sc ≡ length w) where
      read_answered : (i : ℕ) (h : i < length w) → Answered d w (rec Reading i 0) (is_at_rest was Array 128) (cyc p Read (a + i) 0) (GivesArray (a + i)) (is_at_rest was Array 128) Nothing
      read_answered i h = answered_here Reading i 0 Read 0 (is_at_rest was Array 128) (GivesArray (a + i)) (is_at_rest was Array 128) Nothing h refl (answers.reads d p u was 128 (a + i) refl (inside i h)) refl

      overwritten_read : (i : ℕ) (h : i < length w) → set (overwritten i ys sc) i (carried d.part.word (get_or (overlaid xs a ys) (a + i) 0)) ≡ overwritten (i + 1) ys sc
      overwritten_read i h = ap (λ (v : ℕ). set (overwritten i ys sc) i v) (ap (carried d.part.word) (byte_at_lem ys i ly h) ∙ cell (get_or ys i 0) (cy i)) ∙ overwritten_more ys sc i (omega arith) (omega arith)

      reading : (j i cnt : ℕ) (e : Config) (es : List Effect) (cs : List Cycle) → i + (j + 1) ≡ length w
          → ((cnt' : ℕ) → cnt' ≡ cnt + (j + 1) → Reach d w (conf (if rises_in w ys then rec EraseAsking 0 0 else onto 0 ys) (is_at_rest was Array 128) (overlaid xs a ys) ys cnt') e es cs)
          → Reach d w (conf (rec Reading i 0) (is_at_rest was Array 128) (overlaid xs a ys) (overwritten i ys sc) cnt) e es (reads_then p (suc j) a i cs)
      reading zero i cnt e es cs q rest =
          let h : i < length w = omega arith in
          prepend d w _ _ e Nothing (cyc p Read (a + i) 0) es cs
          (turned d w (rec Reading i 0) (is_at_rest was Array 128) (overlaid xs a ys) (overwritten i ys sc) cnt refl (sized ys ly) (cyc p Read (a + i) 0) (GivesArray (a + i)) (is_at_rest was Array 128) Nothing (read_answered i h)
          ∙ (λ t. conf ((ap (λ (y : List ℕ). after_read (rec Reading i 0) w y) (overwritten_read i h ∙ whole) ∙ read_last i ys (omega arith) ∙ after_same i ys) t) (is_at_rest was Array 128) (overlaid xs a ys) ((overwritten_read i h ∙ whole) t) (cnt + 1)))
          (does d w (rec Reading i 0) (is_at_rest was Array 128) (overlaid xs a ys) (overwritten i ys sc) cnt refl (sized ys ly) (cyc p Read (a + i) 0) (GivesArray (a + i)) (is_at_rest was Array 128) Nothing (read_answered i h))
          (rest (cnt + 1) (omega arith))
        where
          whole : overwritten (i + 1) ys sc ≡ ys
          whole = ap (λ (m : ℕ). overwritten m ys sc) (let z : i + 1 ≡ length sc = omega arith in z) ∙ overwritten_all ys sc (ly ∙ sym ls)
      reading (suc j) i cnt e es cs q rest =
          let h : i < length w = omega arith in
          prepend d w _ _ e Nothing (cyc p Read (a + i) 0) es (reads_then p (suc j) a (i + 1) cs)
          (turned d w (rec Reading i 0) (is_at_rest was Array 128) (overlaid xs a ys) (overwritten i ys sc) cnt refl (sized ys ly) (cyc p Read (a + i) 0) (GivesArray (a + i)) (is_at_rest was Array 128) Nothing (read_answered i h)
          ∙ (λ t. conf (read_next i (set (overwritten i ys sc) i (carried d.part.word (get_or (overlaid xs a ys) (a + i) 0))) (omega arith) t) (is_at_rest was Array 128) (overlaid xs a ys) (overwritten_read i h t) (cnt + 1)))
          (does d w (rec Reading i 0) (is_at_rest was Array 128) (overlaid xs a ys) (overwritten i ys sc) cnt refl (sized ys ly) (cyc p Read (a + i) 0) (GivesArray (a + i)) (is_at_rest was Array 128) Nothing (read_answered i h))
          (reading j (i + 1) (cnt + 1) e es cs (omega arith) (λ cnt' z. rest cnt' (omega arith)))

      -- where a load stands before it, and after the first reads
      abbrev pub fore : Mode → ℕ → Config
      fore m x = conf (rec Clearing 0 0) (is_at_rest was m x) (overlaid xs a ys) sc 0

      abbrev pub judged : ℕ → Config
      judged cnt = conf (if rises_in w ys then rec EraseAsking 0 0 else onto 0 ys) (is_at_rest was Array 128) (overlaid xs a ys) ys cnt

      -- 50H, FFH and the first reads, from any mode and any error bits
      pub opening : (m : Mode) (x : ℕ) → fits 2 x ≡ true → (e : Config) (es : List Effect) (cs : List Cycle) → Reach d w (judged (2 + length w)) e es cs
          → Reach d w (fore m x) e es (opening_then p a (length w) cs)
      opening m x f e es cs rest =
          prepend d w _ _ e Nothing (cyc p Write a 0x50) es _
          (turned d w (rec Clearing 0 0) (is_at_rest was m x) (overlaid xs a ys) sc 0 refl (sized ys ly) (cyc p Write a 0x50) Quiet (is_at_rest was m 128) Nothing answered1)
          (does d w (rec Clearing 0 0) (is_at_rest was m x) (overlaid xs a ys) sc 0 refl (sized ys ly) (cyc p Write a 0x50) Quiet (is_at_rest was m 128) Nothing answered1)
          (prepend d w _ _ e Nothing (cyc p Write a 0xFF) es _
          (turned d w (rec Opening 0 0) (is_at_rest was m 128) (overlaid xs a ys) sc (0 + 1) refl (sized ys ly) (cyc p Write a 0xFF) Quiet (is_at_rest was Array 128) Nothing answered2)
          (does d w (rec Opening 0 0) (is_at_rest was m 128) (overlaid xs a ys) sc (0 + 1) refl (sized ys ly) (cyc p Write a 0xFF) Quiet (is_at_rest was Array 128) Nothing answered2)
          (subst (λ (n : ℕ). Reach d w (conf (rec Reading 0 0) (is_at_rest was Array 128) (overlaid xs a ys) sc (0 + 1 + 1)) e es (reads_then p n a 0 cs)) one_more
          (reading (length w - 1) 0 (0 + 1 + 1) e es cs (omega arith)
          (λ cnt z. subst (λ (n : ℕ). Reach d w (judged n) e es cs) (let y : 2 + length w ≡ cnt = omega arith in y) rest))))
        where
          answered1 : Answered d w (rec Clearing 0 0) (is_at_rest was m x) (cyc p Write a 0x50) Quiet (is_at_rest was m 128) Nothing
          answered1 =
              answered_first Clearing 0 0 Write 0x50 (is_at_rest was m x) Quiet (is_at_rest was m 128) Nothing refl
              (answers.clears d p u was m x a f a_inside ∙ ap (λ (y : ℕ). decided_as Quiet (is_at_rest was m y) Nothing) (cleared x f)) refl

          answered2 : Answered d w (rec Opening 0 0) (is_at_rest was m 128) (cyc p Write a 0xFF) Quiet (is_at_rest was Array 128) Nothing
          answered2 = answered_first Opening 0 0 Write 0xFF (is_at_rest was m 128) Quiet (is_at_rest was Array 128) Nothing refl (answers.opens d p u was m 128 a refl a_inside) refl

      -- the whole load, whether some bit must rise or none, whatever follows
      pub loading : (r : Ready d p k) (m : Mode) (x : ℕ) → fits 2 x ≡ true → Cells d.part w → 0 < d.program → d.program ≤ 65535 → 0 < d.erase → d.erase ≤ 65535
          → (e : Config) (cs : List Cycle)
          → ((cnt' : ℕ) → cnt' ≡ 2 + length w + ((if rises_in w ys then 2 + d.erase else 0) + costs (length w) 0 (base_of d.part w ys)) → Reach d w (loaded_as (erased_from (rises_in w ys) k was) (loaded_mode w ys) cnt') e [] cs)
          → Reach d w (fore m x) e (operations_of d.part k a w ys) (load_then d p a w ys cs)
      unfolding as_wanted
      loading r m x f bw zp bp ze be e cs rest = opening m x f e _ _ (go (rises_in w ys) refl rest)
        where
          After : List Effect → List Cycle → Type 0
          After es ds = Reach d w (judged (2 + length w)) e es ds

          modes : (t : Bool) → rises_in w ys ≡ t → (m' : Mode) (n : ℕ) → m' ≡ loaded_mode w ys
              → Reach d w (loaded_as (erased_from (rises_in w ys) k was) (loaded_mode w ys) n) e [] cs → Reach d w (loaded_as (erased_from t k was) m' n) e [] cs
          modes t z m' n q v = subst (λ (c : Config). Reach d w c e [] cs) (λ i. loaded_as (erased_from (z i) k was) (sym q i) n) v

          go : (t : Bool) → rises_in w ys ≡ t
              → ((cnt' : ℕ) → cnt' ≡ 2 + length w + ((if rises_in w ys then 2 + d.erase else 0) + costs (length w) 0 (base_of d.part w ys)) → Reach d w (loaded_as (erased_from (rises_in w ys) k was) (loaded_mode w ys) cnt') e [] cs)
              → After (operations_of d.part k a w ys) (if rises_in w ys then erase_then d p a (programming_then d p a w ys cs) else programming_then d p a w ys cs)
          go true t over =
              rw t
              (erasing r Array (2 + length w) ys ys e (programs_of (length w) a 0 w blank) (programs_then d p (length w) a 0 w blank cs) ly ly ze be
              (λ cnt' y. walking (erased_from true k was) r bw blank (length-replicate (length w) (ones d.part)) (λ i h. full i h) zp bp e cs (length w) 0 cnt' Status (omega arith)
              (λ c o q v. modes true t o c (v ∙ risen) (over c (rw t (omega arith))))))
            where
              full : (i : ℕ) → i < length w → bit_and (get_or blank i 0) (get_or w i 0) ≡ get_or w i 0
              full i h = ap (λ (y : ℕ). bit_and y (get_or w i 0)) (get_or-replicate (length w) i (ones d.part) 0 h) ∙ and_ones d.part (get_or w i 0) (bw i)

              risen : mode_after Status (differing (length w) 0 w blank) ≡ loaded_mode w ys
              risen = if_ind (λ (o : Mode). o ≡ loaded_mode w ys) (eqb (differing (length w) 0 w blank) 0) Status Status (λ q. differs) (λ q. differs)
                where
                  differs : Status ≡ loaded_mode w ys
                  differs = sym (if_false (as_wanted w ys) Array Status (risen_differs w ys ly t))
          go false t over =
              rw t
              (walking was r bw ys ly (λ i h. unrisen ys t i h) zp bp e cs (length w) 0 (2 + length w) Array (omega arith) (λ c o q v. modes false t o c v (over c (rw t (omega arith)))))

    -- the cost of the programs is a product
    pub costs_are : (j i : ℕ) (sc : List ℕ) → costs j i sc ≡ differing j i w sc * (2 + d.program)
    costs_are zero i sc = sym (zero-mul (2 + d.program))
    costs_are (suc j) i sc = go (eqb (get_or sc i 0) (get_or w i 0)) (costs_are j (i + 1) sc)
      where
        go : (t : Bool) → costs j (i + 1) sc ≡ differing j (i + 1) w sc * (2 + d.program)
            → (if t then 0 else 2 + d.program) + costs j (i + 1) sc ≡ ((if t then 0 else 1) + differing j (i + 1) w sc) * (2 + d.program)
        go true e = rw e (let z = zero-add (differing j (i + 1) w sc) in rw z (omega arith))
        go false e = rw (e, add-mul 1 (differing j (i + 1) w sc) (2 + d.program), one-mul (2 + d.program)) refl
