-- A load whose erase cannot start, its one poll interrupted or not: it ends by the same number.
use mathlib.Core.Path.{◌≡◌, refl, ap, ◌∙◌, subst}
use mathlib.Core.Bool.{Bool, true, false}
use mathlib.Core.List.{List, [], ◌∷◌}
use Prim.Native.Nat.{ℕ, ◌+◌, ◌%◌, ◌<◌}
use native.Mathlib.Omega.{arith}
use lib.ListN.{length}
use lib.Bits.{bit_or}
use lib.Dec.{eqb}
use Rattle.std.specs.Prelude.{if◌then◌else◌}
use Rattle.common.specs.Lists.{overlaid}
use Rattle.device.specs.Parts.{size_of, start_of}
use Rattle.model_types.specs.declared.Kind.TheVariants.{Read, Write}
use Rattle.model_types.specs.declared.Mode.TheVariants.{Array, Status}
use Rattle.model_types.specs.declared.Phase.TheVariants.{EraseAwaited}
use Rattle.model_types.specs.declared.Effect.TheVariants.{Nothing}
use Rattle.model_types.specs.declared.Reply.TheVariants.{Quiet, Gives}
use Rattle.model_states.specs.States.{is_at_rest}
use Rattle.model_rules.specs.Cycles.{decided_as}
use Rattle.model.proofs.Keeping.{st}
use Rattle.model.proofs.Status.{fits}
use Rattle.loader.specs.declared.Stage.{Stage}
use Rattle.loader.specs.declared.Stage.TheVariants.{EraseAsking, EraseConfirming, EraseWaiting, Ended}
use Rattle.loader.specs.declared.Loader.{Loader}
use Rattle.loader_walk.specs.Walks.{rises_in}
use Rattle.loader_moves.specs.Moves.{next_of}
use Rattle.loader.specs.Statuses.{is_ready, erase_end}
use Rattle.loader_stores.specs.Stores.{store_of}
use Rattle.loader_run_claims.specs.Made.{opening_then, bus_cycle as cyc}
use Rattle.loader_run_claims.specs.Mission.{Taken}
use Rattle.loader_run_claims.proofs.Answers as answers
use Rattle.loader_run_claims.proofs.Answers.{Up, Stuck}
use Rattle.loader_run_claims.proofs.LoadLists.{over_self}
use Rattle.loader_run_claims.proofs.Phases as phases
use Rattle.loader_run_claims.proofs.Faults as faults
use Rattle.loader_held.specs.declared.Step.TheVariants.{Halting, Looking, Settling}
use Rattle.loader_held.specs.declared.Hold.{Hold}
use Rattle.loader_held.specs.Holds.{listed, hold_as, usual, pair_of, after_poll, numbered, settled_by}
use Rattle.loader_held_run.specs.HeldTurns.{HeldConfig, beside}
use Rattle.loader_held_run.specs.HeldRuns.{held_conf}
use Rattle.loader_held_claims.specs.HeldMade.{HeldReach}
use Rattle.loader_held_claims.specs.HeldEnds.{tried_poll, added_tried}
use Rattle.loader_held_claims.proofs.HeldAnswers as own
use Rattle.loader_held_claims.proofs.HeldReaching.{arrive, goes}
use Rattle.loader_run.specs.declared.Job.{Job}
use Rattle.loader_held_claims.proofs.Starting as start

-- the first poll of an erase
first_poll : (ps : List ℕ) → (if listed 1 ps then hold_as Halting 1 0 0 false else usual 1) ≡ after_poll 0 ps
unfolding after_poll
first_poll ps = refl

-- a ready status with a fault ends the suspend's own wait, and the load
settle_ends : (l : Loader) (h : Hold) (x n : ℕ) → x % 256 ≡ x → is_ready x ≡ true → erase_end x ≡ n → eqb n 0 ≡ false
    → settled_by l h (x % 256) ≡ pair_of (record { part = l.part; pins = l.pins; block = l.block; stage = Ended n; place = l.place; polls = 0; verify = l.verify; high = false }) (usual h.number)
unfolding settled_by
settle_ends l h x n y ready e z = simp (y, ready, e, z)

module _ (verify : Bool) (j : Job) (xs w sc : List ℕ) (t : Taken j xs w sc) (bs ps room : List ℕ) where
  abbrev u : Up j.device j.pins
  u = start.u verify j xs w sc t

  abbrev a : ℕ
  a = start_of j.device.part j.block

  abbrev ys : List ℕ
  ys = start.ys verify j xs w sc t

  abbrev X : List ℕ
  X = overlaid xs a ys

  abbrev rec : Stage → Loader
  rec stage = record { part = j.device.part; pins = j.pins; block = j.block; stage = stage; place = 0; polls = 0; verify = verify; high = false }

  some : 0 < length w
  some = start.some verify j xs w sc t

  at_in : a < size_of j.device.part
  at_in = phases.a_inside verify j.device j.pins j.block u j.state w t.wanted some

  l_x : length X ≡ size_of j.device.part
  l_x = phases.sized verify j.device j.pins j.block u j.state w t.wanted some xs t.sized ys (start.ly verify j xs w sc t)

  out : (stage : Stage) → phases.rec verify j.device j.pins j.block u j.state w t.wanted some stage 0 0 ≡ rec stage
  out stage = refl

  -- the load that a fault ends after so many cycles
  abbrev pub failed : ℕ → ℕ → ℕ → HeldConfig
  failed n x cnt = held_conf (rec (Ended n)) (usual 1) (is_at_rest j.state Status x) xs ys room cnt

  module _ (low x n : ℕ) (stuck : Stuck j.device j.pins j.block low) (q : bit_or (bit_or 128 low) 32 ≡ x) (f : fits 2 x ≡ true) (ready : is_ready x ≡ true) (e : erase_end x ≡ n) (z : eqb n 0 ≡ false) where
    abbrev W : Loader
    W = rec EraseWaiting

    abbrev there : ℕ → HeldConfig
    there cnt = held_conf (rec (Ended n)) (usual 1) (is_at_rest j.state Status x) X ys room cnt

    kept : store_of W x w ys ≡ ys
    kept = faults.erase_keeps verify j.device j.pins j.block u j.state w t.wanted some x n ys (faults.low_eight x f) e z

    next : next_of W x w (store_of W x w ys) ≡ rec (Ended n)
    next = ap (λ (v : List ℕ). next_of W x w v) kept ∙ faults.erase_ends verify j.device j.pins j.block u j.state w t.wanted some x n ys (faults.low_eight x f) ready e z

    -- its one poll
    polled : (b : Bool) (c₀ cnt : ℕ) → cnt ≡ c₀ + (1 + (if b then 2 else 0))
        → HeldReach j.device w bs ps (held_conf W (if b then hold_as Halting 1 0 0 false else usual 1) (is_at_rest j.state Status x) X ys room c₀) (there cnt) [] (if b then cyc j.pins Write a 0xB0 ∷ cyc j.pins Write a 0x70 ∷ cyc j.pins Read a 0 ∷ [] else cyc j.pins Read a 0 ∷ [])
    polled true c₀ cnt y =
        goes j.device w bs ps (held_conf W (hold_as Halting 1 0 0 false) (is_at_rest j.state Status x) X ys room c₀) (cyc j.pins Write a 0xB0) Quiet (is_at_rest j.state Array x) Nothing refl l_x (ap (λ (v : ℕ). cyc j.pins Write v 0xB0) (phases.first verify j.device j.pins j.block u j.state w t.wanted some EraseWaiting 0 0))
        (own.halts_rest j.device j.pins u j.state Status x a f at_in) refl
        (held_conf W (hold_as Looking 1 0 0 false) (is_at_rest j.state Array x) X ys room (c₀ + 1)) (there cnt) [] _ refl refl
        (goes j.device w bs ps (held_conf W (hold_as Looking 1 0 0 false) (is_at_rest j.state Array x) X ys room (c₀ + 1)) (cyc j.pins Write a 0x70) Quiet (is_at_rest j.state Status x) Nothing refl l_x (ap (λ (v : ℕ). cyc j.pins Write v 0x70) (phases.first verify j.device j.pins j.block u j.state w t.wanted some EraseWaiting 0 0))
        (own.looks_rest j.device j.pins u j.state Array x a f at_in) refl
        (held_conf W (hold_as Settling 1 0 0 false) (is_at_rest j.state Status x) X ys room (c₀ + 1 + 1)) (there cnt) [] _ refl refl
        (goes j.device w bs ps (held_conf W (hold_as Settling 1 0 0 false) (is_at_rest j.state Status x) X ys room (c₀ + 1 + 1)) (cyc j.pins Read a 0) (Gives x) (is_at_rest j.state Status x) Nothing refl l_x (ap (λ (v : ℕ). cyc j.pins Read v 0) (phases.first verify j.device j.pins j.block u j.state w t.wanted some EraseWaiting 0 0))
        (answers.reads_status j.device j.pins u j.state x a f at_in) refl
        (there (c₀ + 1 + 1 + 1)) (there cnt) [] [] refl
        (λ i. held_conf (settled i).loader (settled i).hold (is_at_rest j.state Status x) X ys room (c₀ + 1 + 1 + 1))
        (arrive j.device w bs ps (there (c₀ + 1 + 1 + 1)) (there cnt) (ap there (let v : c₀ + 1 + 1 + 1 ≡ cnt = omega arith in v)))))
      where
        settled : settled_by W (hold_as Settling 1 0 0 false) (x % 256) ≡ pair_of (rec (Ended n)) (usual 1)
        settled = settle_ends W (hold_as Settling 1 0 0 false) x n (faults.low_eight x f) ready e z
    polled false c₀ cnt y =
        goes j.device w bs ps (held_conf W (usual 1) (is_at_rest j.state Status x) X ys room c₀) (cyc j.pins Read a 0) (Gives x) (is_at_rest j.state Status x) Nothing refl l_x (ap (λ (v : ℕ). cyc j.pins Read v 0) (phases.first verify j.device j.pins j.block u j.state w t.wanted some EraseWaiting 0 0))
        (answers.reads_status j.device j.pins u j.state x a f at_in) refl
        (there (c₀ + 1)) (there cnt) [] [] refl
        (λ i. held_conf (next i) (numbered (next i).stage 1 ps) (is_at_rest j.state Status x) X (kept i) room (c₀ + 1))
        (arrive j.device w bs ps (there (c₀ + 1)) (there cnt) (ap there (let v : c₀ + 1 ≡ cnt = omega arith in v)))

    -- 20H, D0H and that poll
    asked : HeldReach j.device w bs ps (beside (start.asking verify j xs w sc t) (usual 0) room) (there (length w + 5 + added_tried ps)) [] (cyc j.pins Write a 0x20 ∷ cyc j.pins Write a 0xD0 ∷ tried_poll j.pins a ps)
    asked =
        goes j.device w bs ps (held_conf (rec EraseAsking) (usual 0) (is_at_rest j.state Array 128) X ys room (2 + length w)) (cyc j.pins Write a 0x20) Quiet (st j.state Status 128 EraseAwaited 0 0) Nothing refl l_x (ap (λ (v : ℕ). cyc j.pins Write v 0x20) (phases.first verify j.device j.pins j.block u j.state w t.wanted some EraseAsking 0 0))
        (answers.asks_erase j.device j.pins u j.state Array 128 a refl at_in) refl
        (held_conf (rec EraseConfirming) (usual 0) (st j.state Status 128 EraseAwaited 0 0) X ys room (2 + length w + 1)) (there (length w + 5 + added_tried ps)) [] _ refl refl
        (goes j.device w bs ps (held_conf (rec EraseConfirming) (usual 0) (st j.state Status 128 EraseAwaited 0 0) X ys room (2 + length w + 1)) (cyc j.pins Write a 0xD0) Quiet (is_at_rest j.state Status x) Nothing refl l_x (ap (λ (v : ℕ). cyc j.pins Write v 0xD0) (phases.first verify j.device j.pins j.block u j.state w t.wanted some EraseConfirming 0 0))
        (answers.confirm_fails j.device j.pins u j.state j.block low a stuck at_in (phases.block_first verify j.device j.pins j.block u j.state w t.wanted some) ∙ ap (λ (v : ℕ). decided_as Quiet (is_at_rest j.state Status v) Nothing) q) refl
        (held_conf W (after_poll 0 ps) (is_at_rest j.state Status x) X ys room (2 + length w + 1 + 1)) (there (length w + 5 + added_tried ps)) [] _ refl refl
        (subst (λ (h : Hold). HeldReach j.device w bs ps (held_conf W h (is_at_rest j.state Status x) X ys room (2 + length w + 1 + 1)) (there (length w + 5 + added_tried ps)) [] (tried_poll j.pins a ps)) (first_poll ps)
        (polled (listed 1 ps) (2 + length w + 1 + 1) (length w + 5 + added_tried ps) (five (listed 1 ps)))))
      where
        five : (b : Bool) → length w + 5 + (if b then 2 else 0) ≡ 2 + length w + 1 + 1 + (1 + (if b then 2 else 0))
        five true = omega arith
        five false = omega arith

    -- the whole load
    pub tried : rises_in w ys ≡ true
        → HeldReach j.device w bs ps (beside (start.started verify j xs w sc t) (usual 0) room) (failed n x (length w + 5 + added_tried ps)) []
        (opening_then j.pins a (length w) (cyc j.pins Write a 0x20 ∷ cyc j.pins Write a 0xD0 ∷ tried_poll j.pins a ps))
    tried rise =
        subst (λ (z : List ℕ). HeldReach j.device w bs ps (beside (start.started verify j xs w sc t) (usual 0) room) (held_conf (rec (Ended n)) (usual 1) (is_at_rest j.state Status x) z ys room (length w + 5 + added_tried ps)) []
        (opening_then j.pins a (length w) (cyc j.pins Write a 0x20 ∷ cyc j.pins Write a 0xD0 ∷ tried_poll j.pins a ps))) (over_self xs a (length w) (start.fits_in verify j xs w sc t))
        (start.opened verify j xs w sc t rise bs ps room (there (length w + 5 + added_tried ps)) [] (cyc j.pins Write a 0x20 ∷ cyc j.pins Write a 0xD0 ∷ tried_poll j.pins a ps) asked)
