-- The ends that need no operation, and those where none can start.
use mathlib.Core.Path.{◌≡◌, refl, sym, ap, ◌∙◌, subst}
use mathlib.Core.Bool.{Bool, true, false, ◌&&◌}
use mathlib.Core.List.{List, [], ◌∷◌}
use Prim.Native.Nat.{ℕ, ◌+◌, ◌-◌, ◌/◌, ◌%◌, ◌<◌}
use native.Mathlib.Omega.{arith}
use lib.ListN.{length, get_or, set, replicate}
use lib.Dec.{eqb, ltb}
use lib.Bits.{bit_or}
use borrow.Author.Tests.{lt-ltb, le-ltb, eqb-true}
use Rattle.model_types.specs.Cells.{ones, Cells}
use Rattle.std.specs.Prelude.{if◌then◌else◌}
use Rattle.common.proofs.Choice.{if_true, if_false, and_right}
use Rattle.common.specs.Lists.{overlaid}
use Rattle.common.proofs.Lists.{overwritten_all}
use Rattle.device.specs.declared.Device.{Device}
use Rattle.device.specs.Parts.{size_of, length_of, start_of}
use Rattle.model_types.specs.declared.Pins.{Pins}
use Rattle.model_types.specs.declared.Kind.TheVariants.{Read, Write}
use Rattle.model_types.specs.declared.Cycle.{Cycle}
use Rattle.model_types.specs.declared.Mode.{Mode}
use Rattle.model_types.specs.declared.Mode.TheVariants.{Array, Status}
use Rattle.model_types.specs.declared.Phase.TheVariants.{EraseAwaited, DataAwaited}
use Rattle.model_types.specs.declared.Effect.TheVariants.{Nothing}
use Rattle.model_types.specs.declared.Reply.TheVariants.{Quiet, Gives}
use Rattle.model_types.specs.declared.State.{State}
use Rattle.model_states.specs.States.{is_at_rest}
use Rattle.model_rules.specs.Cycles.{decided_as}
use Rattle.model.proofs.Status.{fits}
use Rattle.model.proofs.Keeping.{st}
use Rattle.model.specs.Begun.{begun_from}
use Rattle.loader.specs.declared.Stage.{Stage}
use Rattle.loader.specs.declared.Stage.TheVariants.{EraseAsking, EraseConfirming, EraseWaiting, ProgramAsking, ProgramSending, ProgramWaiting, Ended}
use Rattle.loader.specs.declared.Loader.{Loader}
use Rattle.loader_walk.specs.Walks.{rises_in, diff_from}
use Rattle.loader_moves.specs.Moves.{next_of, loaded_stage, erase_polled, program_polled}
use Rattle.loader.specs.Statuses.{is_ready, erase_end, program_end}
use Rattle.loader_stores.specs.Stores.{store_of, erased_well, programmed_well}
use Rattle.loader_run.specs.Turns.{Config}
use Rattle.loader.specs.Stages.{is_ended}
use Rattle.loader_run.proofs.Turning.{conf}
use Rattle.loader_run_claims.specs.Made.{closing_of, closing_by, bus_cycle as cyc}
use Rattle.loader_run_claims.specs.Ends.{as_wanted, erase_tried, program_tried}
use Rattle.loader_run_claims.proofs.Answers as answers
use Rattle.loader_run_claims.proofs.Answers.{Up, Stuck}
use Rattle.loader_run_claims.proofs.Reaching.{Reach, Answered, does_as, arrive, prepend, turned, does}
use Rattle.loader_run_claims.proofs.SameBlock.{same_list, none_risen, none_ahead, some_ahead}
use Rattle.loader_run_claims.proofs.Phases as phases

-- a ready status is in the low 8 bits
pub low_eight : (x : ℕ) → fits 2 x ≡ true → x % 256 ≡ x
low_eight x f = let q : x / 64 ≡ 2 = eqb-true (x / 64) 2 (and_right (eqb (x % 8) 0) (eqb (x / 64) 2) f) in omega arith

-- what follows a load: the verify of a block as wanted, or its end
pub finishing : (verify : Bool) (d : Device) (p : Pins) (k : ℕ) (u : Up d p) (was : State) (w : List ℕ) (lw : length w ≡ length_of d.part k) (some : 0 < length w)
    (cw : Cells d.part w) (xs : List ℕ) (lx : length xs ≡ size_of d.part) (m : Mode) (cnt : ℕ)
    → Reach d w (phases.loaded verify d p k u was w lw some xs lx m cnt)
    (conf (phases.rec verify d p k u was w lw some (Ended 0) (if verify then length w - 1 else 0) 0) (is_at_rest was (if verify then Array else m) 128) (overlaid xs (start_of d.part k) w) w
    (cnt + (if verify then 1 + length w else 0))) [] (closing_by verify p (start_of d.part k) (length w))
finishing true d p k u was w lw some cw xs lx m cnt =
    met (phases.reads_to true d p k u was w lw some j) (phases.end_at true d p k u was w lw some j) (phases.high_at true d p k u was w lw some xs lx w w refl cw refl 128 refl j)
    (if_false (ltb j (length w)) (j + 1) (length w) z) (if_false (ltb j (length w)) 25 0 z) (if_false (ltb j (length w)) (phases.only_high true d p k u was w lw some (get_or w j 0) (get_or w j 0)) false z)
    (phases.closing true d p k u was w lw some xs lx w w refl cw refl 128 refl m cnt)
  where
    j : ℕ
    j = diff_from 0 w w

    z : ltb j (length w) ≡ false
    z = le-ltb j (length w) (let y = none_ahead w in omega arith)

    met : (n e : ℕ) (hi : Bool) → n ≡ length w → e ≡ 0 → hi ≡ false
        → Reach d w (phases.loaded true d p k u was w lw some xs lx m cnt) (phases.verified_by true d p k u was w lw some xs lx w w refl cw refl 128 refl e hi n (cnt + (1 + n))) []
        (closing_of p (start_of d.part k) n)
        → Reach d w (phases.loaded true d p k u was w lw some xs lx m cnt)
        (conf (phases.rec true d p k u was w lw some (Ended 0) (length w - 1) 0) (is_at_rest was Array 128) (overlaid xs (start_of d.part k) w) w (cnt + (1 + length w))) []
        (closing_of p (start_of d.part k) (length w))
    met n e hi q y v r =
        subst (λ (v : List ℕ). Reach d w (phases.loaded true d p k u was w lw some xs lx m cnt)
        (conf (phases.rec true d p k u was w lw some (Ended 0) (length w - 1) 0) (is_at_rest was Array 128) (overlaid xs (start_of d.part k) w) v (cnt + (1 + length w))) []
        (closing_of p (start_of d.part k) (length w))) (overwritten_all w w refl)
        (subst (λ (b : Bool). Reach d w (phases.loaded true d p k u was w lw some xs lx m cnt) (phases.verified_by true d p k u was w lw some xs lx w w refl cw refl 128 refl 0 b (length w) (cnt + (1 + length w))) []
        (closing_of p (start_of d.part k) (length w))) v
        (subst (λ (v : ℕ). Reach d w (phases.loaded true d p k u was w lw some xs lx m cnt) (phases.verified_by true d p k u was w lw some xs lx w w refl cw refl 128 refl v hi (length w) (cnt + (1 + length w))) []
        (closing_of p (start_of d.part k) (length w))) y
        (subst (λ (v : ℕ). Reach d w (phases.loaded true d p k u was w lw some xs lx m cnt) (phases.verified_by true d p k u was w lw some xs lx w w refl cw refl 128 refl e hi v (cnt + (1 + v))) []
        (closing_of p (start_of d.part k) v)) q r)))
finishing false d p k u was w lw some cw xs lx m cnt =
    arrive d w _ _ (λ t. phases.loaded false d p k u was w lw some xs lx m ((let z : cnt ≡ cnt + 0 = omega arith in z) t))

-- `was` is the state that the load began in; `verify` is whether the verify follows it
module _ (verify : Bool) (d : Device) (p : Pins) (k : ℕ) (u : Up d p) (was : State) (w : List ℕ) (lw : length w ≡ length_of d.part k) (some : 0 < length w) where
  abbrev a : ℕ
  a = start_of d.part k

  abbrev pub rec : Stage → ℕ → ℕ → Loader
  rec stage place polls = record { part = d.part; pins = p; block = k; stage = stage; place = place; polls = polls; verify = verify; high = false }

  -- two writes and a poll that finds a fault: the end by its number, with nothing begun
  module _ (A B C : Stage) (goA : is_ended A ≡ false) (goB : is_ended B ≡ false) (goC : is_ended C ≡ false) (i x n : ℕ) (asked : State) (c1 c2 c3 : Cycle)
      (t1 : Answered d w (rec A i 0) (is_at_rest was Array 128) c1 Quiet asked Nothing) (t2 : Answered d w (rec B i 0) asked c2 Quiet (is_at_rest was Status x) Nothing)
      (t3 : Answered d w (rec C i 0) (is_at_rest was Status x) c3 (Gives x) (is_at_rest was Status x) Nothing) (b2 : begun_from d.part asked (is_at_rest was Status x) ≡ Nothing)
      (X sc : List ℕ) (l_x : length X ≡ size_of d.part)
      (n1 : next_of (rec A i 0) 0 w (store_of (rec A i 0) 0 w sc) ≡ rec B i 0) (k1 : store_of (rec A i 0) 0 w sc ≡ sc)
      (n2 : next_of (rec B i 0) 0 w (store_of (rec B i 0) 0 w sc) ≡ rec C i 0) (k2 : store_of (rec B i 0) 0 w sc ≡ sc)
      (n3 : next_of (rec C i 0) x w (store_of (rec C i 0) x w sc) ≡ rec (Ended n) i 0) (k3 : store_of (rec C i 0) x w sc ≡ sc) where
    failing : (cnt : ℕ) → Reach d w (conf (rec A i 0) (is_at_rest was Array 128) X sc cnt) (conf (rec (Ended n) i 0) (is_at_rest was Status x) X sc (cnt + 3)) [] (c1 ∷ c2 ∷ c3 ∷ [])
    failing cnt =
        prepend d w _ _ _ Nothing c1 [] (c2 ∷ c3 ∷ [])
        (turned d w (rec A i 0) (is_at_rest was Array 128) X sc cnt goA l_x c1 Quiet asked Nothing t1 ∙ (λ t. conf (n1 t) asked X (k1 t) (cnt + 1)))
        (does d w (rec A i 0) (is_at_rest was Array 128) X sc cnt goA l_x c1 Quiet asked Nothing t1)
        (prepend d w _ _ _ Nothing c2 [] (c3 ∷ [])
        (turned d w (rec B i 0) asked X sc (cnt + 1) goB l_x c2 Quiet (is_at_rest was Status x) Nothing t2 ∙ (λ t. conf (n2 t) (is_at_rest was Status x) X (k2 t) (cnt + 1 + 1)))
        (does_as d w _ _ Nothing c2 b2 (does d w (rec B i 0) asked X sc (cnt + 1) goB l_x c2 Quiet (is_at_rest was Status x) Nothing t2))
        (prepend d w _ _ _ Nothing c3 [] []
        (turned d w (rec C i 0) (is_at_rest was Status x) X sc (cnt + 1 + 1) goC l_x c3 (Gives x) (is_at_rest was Status x) Nothing t3 ∙ (λ t. conf (n3 t) (is_at_rest was Status x) X (k3 t) (cnt + 1 + 1 + 1)))
        (does d w (rec C i 0) (is_at_rest was Status x) X sc (cnt + 1 + 1) goC l_x c3 (Gives x) (is_at_rest was Status x) Nothing t3)
        (arrive d w _ _ (ap (λ (m : ℕ). conf (rec (Ended n) i 0) (is_at_rest was Status x) X sc m) (let z : cnt + 1 + 1 + 1 ≡ cnt + 3 = omega arith in z)))))

  -- a ready status with a fault ends the load, and scratch stays
  pub erase_ends : (x n : ℕ) (sc : List ℕ) → x % 256 ≡ x → is_ready x ≡ true → erase_end x ≡ n → eqb n 0 ≡ false → next_of (rec EraseWaiting 0 0) x w sc ≡ rec (Ended n) 0 0
  unfolding erase_polled
  erase_ends x n sc y ready e z = simp (y, ready, e, z)

  pub erase_keeps : (x n : ℕ) (sc : List ℕ) → x % 256 ≡ x → erase_end x ≡ n → eqb n 0 ≡ false → store_of (rec EraseWaiting 0 0) x w sc ≡ sc
  unfolding erased_well
  erase_keeps x n sc y e z = rw (y, e, z) (go (is_ready x))
    where
      go : (t : Bool) → (if t && false then replicate (length sc) (ones d.part) else sc) ≡ sc
      go true = refl
      go false = refl

  program_ends : (i x n : ℕ) (sc : List ℕ) → x % 256 ≡ x → is_ready x ≡ true → program_end x ≡ n → eqb n 0 ≡ false → next_of (rec ProgramWaiting i 0) x w sc ≡ rec (Ended n) i 0
  unfolding program_polled
  program_ends i x n sc y ready e z = simp (y, ready, e, z)

  program_keeps : (i x n : ℕ) (sc : List ℕ) → x % 256 ≡ x → program_end x ≡ n → eqb n 0 ≡ false → store_of (rec ProgramWaiting i 0) x w sc ≡ sc
  unfolding programmed_well
  program_keeps i x n sc y e z = rw (y, e, z) (go (is_ready x))
    where
      go : (t : Bool) → (if t && false then set sc i (get_or w i 0) else sc) ≡ sc
      go true = refl
      go false = refl

  module _ (xs : List ℕ) (lx : length xs ≡ size_of d.part) (ys : List ℕ) (ly : length ys ≡ length w) where
    abbrev X : List ℕ
    X = overlaid xs a ys

    l_x : length X ≡ size_of d.part
    l_x = phases.sized verify d p k u was w lw some xs lx ys ly

    abbrev pub judged : ℕ → Config
    judged cnt = conf (if rises_in w ys then rec EraseAsking 0 0 else phases.onto verify d p k u was w lw some 0 ys) (is_at_rest was Array 128) X ys cnt

    -- an erase that cannot start
    pub erase_fails : (low x n cnt : ℕ) → Stuck d p k low → bit_or (bit_or 128 low) 32 ≡ x → fits 2 x ≡ true → is_ready x ≡ true → erase_end x ≡ n → eqb n 0 ≡ false → rises_in w ys ≡ true
        → Reach d w (judged cnt) (conf (rec (Ended n) 0 0) (is_at_rest was Status x) X ys (cnt + 3)) [] (erase_tried p a)
    erase_fails low x n cnt stuck q f ready e z t =
        subst (λ (l : Loader). Reach d w (conf l (is_at_rest was Array 128) X ys cnt) (conf (rec (Ended n) 0 0) (is_at_rest was Status x) X ys (cnt + 3)) [] (erase_tried p a))
        (sym (if_true (rises_in w ys) _ _ t))
        (failing EraseAsking EraseConfirming EraseWaiting refl refl refl 0 x n (st was Status 128 EraseAwaited 0 0) (cyc p Write a 0x20) (cyc p Write a 0xD0) (cyc p Read a 0)
        (phases.answered_first verify d p k u was w lw some EraseAsking 0 0 Write 0x20 (is_at_rest was Array 128) Quiet (st was Status 128 EraseAwaited 0 0) Nothing refl (answers.asks_erase d p u was Array 128 a refl a_inside) refl)
        (phases.answered_first verify d p k u was w lw some EraseConfirming 0 0 Write 0xD0 (st was Status 128 EraseAwaited 0 0) Quiet (is_at_rest was Status x) Nothing refl
        (answers.confirm_fails d p u was k low a stuck a_inside (phases.block_first verify d p k u was w lw some) ∙ ap (λ (y : ℕ). decided_as Quiet (is_at_rest was Status y) Nothing) q) refl)
        (phases.answered_first verify d p k u was w lw some EraseWaiting 0 0 Read 0 (is_at_rest was Status x) (Gives x) (is_at_rest was Status x) Nothing refl (answers.reads_status d p u was x a f a_inside) refl)
        refl X ys l_x refl refl refl refl (ap (λ (v : List ℕ). next_of (rec EraseWaiting 0 0) x w v) (erase_keeps x n ys (low_eight x f) e z) ∙ erase_ends x n ys (low_eight x f) ready e z) (erase_keeps x n ys (low_eight x f) e z) cnt)
      where
        a_inside : a < size_of d.part
        a_inside = phases.a_inside verify d p k u was w lw some

    -- a program that cannot start
    pub program_fails : (low x n cnt : ℕ) → Stuck d p k low → bit_or (bit_or 128 low) 16 ≡ x → fits 2 x ≡ true → is_ready x ≡ true → program_end x ≡ n → eqb n 0 ≡ false → rises_in w ys ≡ false
        → as_wanted w ys ≡ false
        → Reach d w (judged cnt) (conf (rec (Ended n) (diff_from 0 w ys) 0) (is_at_rest was Status x) X ys (cnt + 3)) []
        (program_tried p (a + diff_from 0 w ys) (get_or w (diff_from 0 w ys) 0))
    program_fails low x n cnt stuck q f ready e z t s =
        subst (λ (l : Loader). Reach d w (conf l (is_at_rest was Array 128) X ys cnt) (conf (rec (Ended n) i 0) (is_at_rest was Status x) X ys (cnt + 3)) [] (program_tried p (a + i) v))
        (sym (if_false (rises_in w ys) _ _ t ∙ if_true (ltb i (length w)) _ _ (lt-ltb i (length w) h)))
        (failing ProgramAsking ProgramSending ProgramWaiting refl refl refl i x n (st was Status 128 DataAwaited 0 0) (cyc p Write (a + i) 0x40) (cyc p Write (a + i) v) (cyc p Read (a + i) 0)
        (phases.answered_here verify d p k u was w lw some ProgramAsking i 0 Write 0x40 (is_at_rest was Array 128) Quiet (st was Status 128 DataAwaited 0 0) Nothing h refl (answers.asks_program_lem d p u was Array 128 (a + i) refl inside) refl)
        (phases.answered_here verify d p k u was w lw some ProgramSending i 0 Write v (st was Status 128 DataAwaited 0 0) Quiet (is_at_rest was Status x) Nothing h refl
        (answers.data_fails d p u was k low (a + i) v stuck inside (phases.block_at verify d p k u was w lw some i h) ∙ ap (λ (y : ℕ). decided_as Quiet (is_at_rest was Status y) Nothing) q) refl)
        (phases.answered_here verify d p k u was w lw some ProgramWaiting i 0 Read 0 (is_at_rest was Status x) (Gives x) (is_at_rest was Status x) Nothing h refl (answers.reads_status d p u was x (a + i) f inside) refl)
        refl X ys l_x refl refl refl refl (ap (λ (y : List ℕ). next_of (rec ProgramWaiting i 0) x w y) (program_keeps i x n ys (low_eight x f) e z) ∙ program_ends i x n ys (low_eight x f) ready e z) (program_keeps i x n ys (low_eight x f) e z) cnt)
      where
        i : ℕ
        i = diff_from 0 w ys

        v : ℕ
        v = get_or w i 0

        h : i < length w
        h = some_ahead w ys s

        inside : a + i < size_of d.part
        inside = phases.inside verify d p k u was w lw some i h

    -- a block that holds what is wanted: nothing to do, whatever follows
    pub nothing_done : (cnt : ℕ) (e : Config) (cs : List Cycle) → as_wanted w ys ≡ true → Reach d w (phases.loaded verify d p k u was w lw some xs lx Array cnt) e [] cs → Reach d w (judged cnt) e [] cs
    nothing_done cnt e cs t r =
        subst (λ (l : Loader). Reach d w (conf l (is_at_rest was Array 128) X ys cnt) e [] cs) (sym closes)
        (subst (λ (z : List ℕ). Reach d w (conf (rec (loaded_stage verify) 0 0) (is_at_rest was Array 128) (overlaid xs a z) z cnt) e [] cs) (sym same) r)
      where
        same : ys ≡ w
        same = same_list w ys ly t

        closes : (if rises_in w ys then rec EraseAsking 0 0 else phases.onto verify d p k u was w lw some 0 ys) ≡ rec (loaded_stage verify) 0 0
        closes =
            ap (λ (z : List ℕ). (if rises_in w z then rec EraseAsking 0 0 else phases.onto verify d p k u was w lw some 0 z)) same
            ∙ if_false (rises_in w w) _ _ (none_risen w)
            ∙ if_false (ltb (diff_from 0 w w) (length w)) _ _ (le-ltb (diff_from 0 w w) (length w) (let y = none_ahead w in omega arith))
