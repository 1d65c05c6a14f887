-- From 20H on: an erase that is interrupted at any polls, the programs and, where it is asked for, the verify: where they lead, what they
-- begin, the cycles that they make.
use mathlib.Core.Path.{◌≡◌, refl, sym, ap, ◌∙◌, subst}
use mathlib.Core.Bool.{Bool, true, false}
use mathlib.Core.List.{List, [], ◌∷◌, ◌++◌, append-nil}
use Prim.Native.Nat.{ℕ, suc, ◌+◌, ◌-◌, ◌≤◌, ◌<◌}
use native.Mathlib.Omega.{arith}
use lib.ListN.{length, get_or, replicate, length-replicate, get_or-replicate}
use lib.Bits.{bit_and}
use lib.Dec.{ltb}
use Rattle.std.specs.Prelude.{if◌then◌else◌}
use Rattle.common.proofs.Choice.{if_ind}
use Rattle.common.specs.Lists.{overlaid}
use Rattle.device.specs.declared.Device.{Device}
use Rattle.device.specs.Parts.{size_of, length_of, start_of, block_of}
use Rattle.model_types.specs.Cells.{ones, Cells}
use Rattle.model_types.proofs.Ones.{and_ones}
use Rattle.model_types.specs.declared.Pins.{Pins}
use Rattle.model_types.specs.declared.Kind.TheVariants.{Write}
use Rattle.model_types.specs.declared.Mode.{Mode}
use Rattle.model_types.specs.declared.Mode.TheVariants.{Array, Status}
use Rattle.model_types.specs.declared.Phase.TheVariants.{EraseAwaited, Erasing}
use Rattle.model_types.specs.declared.Effect.{Effect}
use Rattle.model_types.specs.declared.Effect.TheVariants.{Nothing, Erase}
use Rattle.model_types.specs.declared.Reply.TheVariants.{Quiet}
use Rattle.model_types.specs.declared.State.{State}
use Rattle.model_types.specs.declared.Cycle.{Cycle}
use Rattle.model_states.specs.States.{is_at_rest}
use Rattle.model.specs.Arrays.{erased}
use Rattle.model.proofs.Keeping.{st}
use Rattle.loader.specs.declared.Stage.{Stage}
use Rattle.loader.specs.declared.Stage.TheVariants.{EraseAsking, EraseConfirming, EraseWaiting, Ended}
use Rattle.loader.specs.declared.Loader.{Loader}
use Rattle.loader_walk.specs.Walks.{rises_in, diff_from}
use Rattle.loader_moves.specs.Moves.{next_of}
use Rattle.loader_steps.specs.Addresses.{first_address}
use Rattle.loader_run.specs.Turns.{Config, after}
use Rattle.loader_run.proofs.Turning.{conf}
use Rattle.loader_run_claims.specs.Made.{programs_then, closing_by, made_in, bus_cycle as cyc}
use Rattle.loader_run_claims.specs.Wear.{programs_of, differing, begun_in}
use Rattle.loader_run_claims.specs.Ends.{erased_from}
use Rattle.loader_run_claims.proofs.Answers as answers
use Rattle.loader_run_claims.proofs.Answers.{Up, Ready}
use Rattle.loader_run_claims.proofs.Reaching.{Reach}
use Rattle.loader_run_claims.proofs.LoadLists.{over_over}
use Rattle.loader_run_claims.proofs.Phases as phases
use Rattle.loader_run_claims.proofs.Faults as faults
use Rattle.loader_held.specs.Holds.{listed, usual, after_poll}
use Rattle.loader_held_run.specs.HeldTurns.{HeldConfig, beside}
use Rattle.loader_held_run.specs.HeldRuns.{held_conf}
use Rattle.loader_held_claims.specs.HeldMade.{HeldReach, Elsewhere, read_at, erase_polls, polls_cost, room_over}
use Rattle.loader_held_claims.proofs.HeldReaching.{arrive, goes, goes_as}
use Rattle.loader_held_claims.proofs.ErasePolling as erase
use Rattle.loader_held_claims.proofs.Lifting.{lift_then, calm_numbered}
use Rattle.loader_held_claims.proofs.QuietTurns.{late, after_load, late_quiet, quiet_after}

module _ (verify : Bool) (d : Device) (p : Pins) (k : ℕ) (r : Ready d p k) (s : State) (w : List ℕ) (lw : length w ≡ length_of d.part k) (some : 0 < length w) (cw : Cells d.part w)
    (xs : List ℕ) (lx : length xs ≡ size_of d.part) (ys : List ℕ) (ly : length ys ≡ length w)
    (bs ps room : List ℕ) (els : Elsewhere d k bs) (roomy : length bs ≤ length room)
    (s0 : 0 < d.suspend) (s1 : d.suspend ≤ 65535) (e0 : 0 < d.erase) (e1 : d.erase ≤ 65535) (p0 : 0 < d.program) (p1 : d.program ≤ 65535) (rise : rises_in w ys ≡ true) where
  abbrev u : Up d p
  u = r.base

  abbrev pub a : ℕ
  a = start_of d.part k

  abbrev pub blank : List ℕ
  blank = replicate (length w) (ones d.part)

  abbrev rec : Stage → ℕ → Loader
  rec stage place = record { part = d.part; pins = p; block = k; stage = stage; place = place; polls = 0; verify = verify; high = false }

  abbrev onto : Loader
  onto = phases.onto verify d p k u s w lw some 0 blank

  abbrev pub sx : State
  sx = erased_from true k s

  -- the mode after the erase, the cycles up to there, the last poll's number, the room
  abbrev pub M : Mode
  M = if listed (0 + (d.erase - 1 + 1)) ps then Array else Status

  abbrev pub C : ℕ
  C = 2 + length w + 1 + 1 + polls_cost d bs ps 0 (suc (d.erase - 1))

  abbrev pub N : ℕ
  N = 0 + (d.erase - 1 + 1)

  abbrev pub X : List ℕ
  X = overlaid xs a ys

  abbrev pub X' : List ℕ
  X' = overlaid xs a blank

  abbrev pub room' : List ℕ
  room' = room_over X bs ps 0 (suc (d.erase - 1)) room

  abbrev end_as : Mode → ℕ → Config
  end_as m c = conf (rec (Ended 0) (if verify then length w - 1 else 0)) (is_at_rest sx (if verify then Array else m) 128) (overlaid xs a w) w (c + (if verify then 1 + length w else 0))

  -- where it ends
  abbrev pub end : Config
  end = end_as (phases.mode_after verify d p k u s w lw some xs lx M (differing (length w) 0 w blank)) (C + phases.costs verify d p k u s w lw some xs lx (length w) 0 blank)

  abbrev closing : List Cycle
  closing = closing_by verify p a (length w)

  abbrev programming : List Cycle
  programming = programs_then d p (length w) a 0 w blank closing

  full : (i : ℕ) → i < length w → bit_and (get_or blank i 0) (get_or w i 0) ≡ get_or w i 0
  full i h = ap (λ (y : ℕ). bit_and y (get_or w i 0)) (get_or-replicate (length w) i (ones d.part) 0 h) ∙ and_ones d.part (get_or w i 0) (cw i)

  after_erase : Reach d w (conf onto (is_at_rest sx M 128) X' blank C) end (programs_of (length w) a 0 w blank) programming
  after_erase =
      phases.walking verify d p k u s w lw some xs lx sx r cw blank (length-replicate (length w) (ones d.part)) full p0 p1 end closing (length w) 0 C M (omega arith)
      (λ cnt' m' q v. subst (λ (c : Config). Reach d w (phases.loaded_as verify d p k u s w lw some xs lx sx m' cnt') c [] closing) (λ i. end_as (v i) (q i))
      (faults.finishing verify d p k u sx w lw some cw xs lx m' cnt'))

  late_onto : late onto.stage ≡ true
  late_onto = if_ind (λ (x : Loader). late x.stage ≡ true) (ltb (diff_from 0 w blank) (length w)) _ _ (λ q. refl) (λ q. after_load verify)

  late_part : HeldReach d w bs ps (held_conf onto (usual N) (is_at_rest sx M 128) X' blank room' C) (beside end (usual N) room') (programs_of (length w) a 0 w blank) programming
  late_part =
      let R = after_erase in
      let c : Config = conf onto (is_at_rest sx M 128) X' blank C in
      let L = lift_then d w bs ps room' N (beside end (usual N) room') [] [] R.turns c (quiet_after d w R.turns c late_onto) R.smooth
      (arrive d w bs ps (beside (after R.turns d w c) (usual N) room') (beside end (usual N) room') (λ i. beside (R.there i) (usual N) room')) in
      subst (λ (z : List Cycle). HeldReach d w bs ps (beside c (usual N) room') (beside end (usual N) room') (programs_of (length w) a 0 w blank) z) (append-nil (made_in R.turns d w c) ∙ R.made)
      (subst (λ (z : List Effect). HeldReach d w bs ps (beside c (usual N) room') (beside end (usual N) room') z (made_in R.turns d w c ++ [])) (append-nil (begun_in R.turns d w c) ∙ R.begun) L)

  at_in : a < size_of d.part
  at_in = phases.a_inside verify d p k u s w lw some

  at_block : block_of d.part a ≡ k
  at_block = phases.block_first verify d p k u s w lw some

  first : (stage : Stage) → first_address (rec stage 0) ≡ a
  unfolding first_address
  first stage = refl

  -- the array's units are cells before and after the erase, and those at the addresses are the same
  module _ (cX : Cells d.part X) (cX' : Cells d.part X') (same : read_at X' bs ≡ read_at X bs) where
    abbrev pub tail : List Cycle
    tail = cyc p Write a 0x20 ∷ cyc p Write a 0xD0 ∷ erase_polls d p a bs ps 0 (suc (d.erase - 1)) programming

    abbrev pub Ends : HeldConfig → List Effect → List Cycle → Type 0
    Ends c es cs = HeldReach d w bs ps c (beside end (usual N) room') es cs

    l_x : length X ≡ size_of d.part
    l_x = phases.sized verify d p k u s w lw some xs lx ys ly

    l_x' : length X' ≡ size_of d.part
    l_x' = phases.sized verify d p k u s w lw some xs lx blank (length-replicate (length w) (ones d.part))

    ended : erased d.part (block_of d.part a) X ≡ X'
    ended =
        phases.erased_blank verify d p k u s w lw some xs lx X (block_of d.part a) at_block
        ∙ over_over xs a ys blank (let z = at_in in omega arith) (ly ∙ sym (length-replicate (length w) (ones d.part)))

    polls : Ends (held_conf (rec EraseWaiting 0) (after_poll 0 ps) (st sx Status 0 Erasing (d.erase - 1 + 1) a) X ys room (2 + length w + 1 + 1)) (programs_of (length w) a 0 w blank) (erase_polls d p a bs ps 0 (suc (d.erase - 1)) programming)
    polls =
        erase.polling verify d p k r sx w bs ps at_in at_block els (beside end (usual N) room') (programs_of (length w) a 0 w blank) s0 s1 X ys l_x cX X' blank ended l_x' cX' same onto
        (λ q. ap (λ (y : List ℕ). next_of (phases.rec verify d p k u s w lw some EraseWaiting 0 q) 0x80 w y) (phases.erase_fills verify d p k u s w lw some xs lx q ys ly) ∙ phases.erased_on verify d p k u s w lw some xs lx q blank)
        (λ q. phases.erase_fills verify d p k u s w lw some xs lx q ys ly)
        (λ n. calm_numbered onto.stage n ps (late_quiet onto.stage late_onto))
        (d.erase - 1) 0 0 (2 + length w + 1 + 1) room programming roomy (omega arith) (omega arith) e1 (omega arith)
        (λ m cnt' v q. subst (λ (c : HeldConfig). Ends c (programs_of (length w) a 0 w blank) programming) (λ i. held_conf onto (usual N) (is_at_rest sx (sym v i) 128) X' blank room' (sym q i)) late_part)

    -- 20H, D0H, the polls and what follows them
    pub asks : Ends (held_conf (rec EraseAsking 0) (usual 0) (is_at_rest s Array 128) X ys room (2 + length w)) (Erase k ∷ programs_of (length w) a 0 w blank) tail
    asks =
        goes d w bs ps (held_conf (rec EraseAsking 0) (usual 0) (is_at_rest s Array 128) X ys room (2 + length w)) (cyc p Write a 0x20) Quiet (st s Status 128 EraseAwaited 0 0) Nothing refl l_x (ap (λ (x : ℕ). cyc p Write x 0x20) (first EraseAsking))
        (answers.asks_erase d p u s Array 128 a refl at_in) refl
        (held_conf (rec EraseConfirming 0) (usual 0) (st s Status 128 EraseAwaited 0 0) X ys room (2 + length w + 1)) (beside end (usual N) room') (Erase k ∷ programs_of (length w) a 0 w blank) _ refl refl
        (goes_as d w bs ps (held_conf (rec EraseConfirming 0) (usual 0) (st s Status 128 EraseAwaited 0 0) X ys room (2 + length w + 1)) (cyc p Write a 0xD0) Quiet (st sx Status 0 Erasing d.erase a) Nothing refl l_x (ap (λ (x : ℕ). cyc p Write x 0xD0) (first EraseConfirming))
        (answers.confirms d p u s k r a at_in at_block) refl
        (Erase k) (held_conf (rec EraseWaiting 0) (after_poll 0 ps) (st sx Status 0 Erasing d.erase a) X ys room (2 + length w + 1 + 1)) (beside end (usual N) room') (programs_of (length w) a 0 w blank) (erase_polls d p a bs ps 0 (suc (d.erase - 1)) programming) (ap Erase at_block) refl
        (subst (λ (n : ℕ). Ends (held_conf (rec EraseWaiting 0) (after_poll 0 ps) (st sx Status 0 Erasing n a) X ys room (2 + length w + 1 + 1)) (programs_of (length w) a 0 w blank) (erase_polls d p a bs ps 0 (suc (d.erase - 1)) programming))
        (let z : d.erase - 1 + 1 ≡ d.erase = omega arith in z) polls))
