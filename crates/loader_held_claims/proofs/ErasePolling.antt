-- The polls of an erase, any of them interrupted, whatever follows.
use mathlib.Core.Path.{◌≡◌, refl, sym, ap, ◌∙◌, subst}
use mathlib.Core.Bool.{Bool, true, false}
use mathlib.Core.List.{List, ◌∷◌}
use Prim.Native.Nat.{ℕ, zero, suc, ◌+◌, ◌-◌, ◌≤◌, ◌<◌}
use native.Mathlib.Omega.{arith}
use lib.ListN.{length, take, drop, length-append, length-take, length-drop}
use lib.Dec.{ltb, leb}
use borrow.Author.Tests.{lt-ltb, lt-leb}
use Rattle.std.specs.Prelude.{if◌then◌else◌}
use Rattle.common.proofs.Choice.{if_true, if_false}
use Rattle.common.specs.Lists.{overwritten}
use Rattle.device.specs.declared.Device.{Device}
use Rattle.device.specs.Parts.{size_of, start_of, block_of}
use Rattle.model_types.specs.Cells.{Cells}
use Rattle.model_types.specs.declared.Pins.{Pins}
use Rattle.model_types.specs.declared.Kind.TheVariants.{Read}
use Rattle.model_types.specs.declared.Mode.{Mode}
use Rattle.model_types.specs.declared.Mode.TheVariants.{Array, Status}
use Rattle.model_types.specs.declared.Phase.TheVariants.{Erasing}
use Rattle.model_types.specs.declared.Effect.{Effect}
use Rattle.model_types.specs.declared.Effect.TheVariants.{Nothing, Erase}
use Rattle.model_types.specs.declared.Reply.TheVariants.{Gives}
use Rattle.model_types.specs.declared.State.{State}
use Rattle.model_types.specs.declared.Cycle.{Cycle}
use Rattle.model_states.specs.States.{is_at_rest}
use Rattle.model.specs.Arrays.{erased}
use Rattle.model.proofs.Keeping.{st}
use Rattle.loader.specs.declared.Stage.TheVariants.{EraseWaiting}
use Rattle.loader.specs.declared.Loader.{Loader}
use Rattle.loader_moves.specs.Moves.{next_of, poll_more, erase_polled}
use Rattle.loader_steps.specs.Addresses.{first_address}
use Rattle.loader_stores.specs.Stores.{store_of, erased_well}
use Rattle.loader_run_claims.specs.Made.{bus_cycle as cyc}
use Rattle.loader_run_claims.proofs.Answers as answers
use Rattle.loader_run_claims.proofs.Answers.{Ready}
use Rattle.loader_held.specs.declared.Step.TheVariants.{Halting}
use Rattle.loader_held.specs.declared.Hold.{Hold}
use Rattle.loader_held.specs.Holds.{listed, hold_as, usual, after_poll, numbered}
use Rattle.loader_held_run.specs.HeldTurns.{HeldConfig}
use Rattle.loader_held_run.specs.HeldRuns.{held_conf}
use Rattle.loader_held_claims.specs.HeldMade.{HeldReach, Elsewhere, read_at, filled_by, waits_of, held_then, found_then, erase_polls, polls_cost, room_over}
use Rattle.loader_held_claims.proofs.HeldReaching.{goes}
use Rattle.loader_held_claims.proofs.Interrupting as one

-- an interruption fills no more of the room than it has
pub filled_length : (n : ℕ) (zs xs : List ℕ) → length zs ≡ n → n ≤ length xs → length (overwritten n zs xs) ≡ length xs
filled_length n zs xs e h = rw (length-append (take n zs) (drop n xs), length-take n zs, length-drop n xs) (omega arith)

module _ (verify : Bool) (d : Device) (p : Pins) (k : ℕ) (r : Ready d p k) (sx : State) (w bs ps : List ℕ) (at_in : start_of d.part k < size_of d.part) (at_block : block_of d.part (start_of d.part k) ≡ k)
    (els : Elsewhere d k bs) (e : HeldConfig) (es : List Effect) (s0 : 0 < d.suspend) (s1 : d.suspend ≤ 65535)
    (X sc : List ℕ) (l_x : length X ≡ size_of d.part) (cX : Cells d.part X)
    (X' sc' : List ℕ) (ended : erased d.part (block_of d.part (start_of d.part k)) X ≡ X') (l_x' : length X' ≡ size_of d.part) (cX' : Cells d.part X') (same : read_at X' bs ≡ read_at X bs) where
  abbrev a : ℕ
  a = start_of d.part k

  abbrev pub wait : ℕ → Loader
  wait j = record { part = d.part; pins = p; block = k; stage = EraseWaiting; place = 0; polls = j; verify = verify; high = false }

  abbrev Goes : HeldConfig → List Cycle → Type 0
  Goes c cs = HeldReach d w bs ps c e es cs

  first : (q : ℕ) → first_address (wait q) ≡ a
  unfolding first_address
  first q = refl

  -- a poll that is not ready: another
  waits_more : (q : ℕ) → q < 65534 → next_of (wait q) 0 w sc ≡ wait (q + 1)
  unfolding erase_polled poll_more
  waits_more q h = if_false (leb 65534 q) _ _ (lt-leb 65534 q h)

  waits_keep : (q : ℕ) → store_of (wait q) 0 w sc ≡ sc
  unfolding erased_well
  waits_keep q = refl

  after_poll_lem : (n : ℕ) → n < 4294967295 → (if listed (n + 1) ps then hold_as Halting (n + 1) 0 0 false else usual (n + 1)) ≡ after_poll n ps
  unfolding after_poll
  after_poll_lem n h = sym (if_true (ltb n 4294967295) _ _ (lt-ltb n 4294967295 h))

  -- what the loader makes of the ready poll
  module _ (done : Loader) (ready : (q : ℕ) → next_of (wait q) 0x80 w (store_of (wait q) 0x80 w sc) ≡ done) (stored : (q : ℕ) → store_of (wait q) 0x80 w sc ≡ sc')
      (calm : (n : ℕ) → numbered done.stage n ps ≡ usual n) where
    -- where the polls lead: the mode is read array after an interruption in the last one's place
    abbrev pub Follows : ℕ → ℕ → ℕ → List ℕ → List Cycle → Type 0
    Follows last cost cnt room cs = (m : Mode) (cnt' : ℕ) → m ≡ (if listed last ps then Array else Status) → cnt' ≡ cnt + cost → Goes (held_conf done (usual last) (is_at_rest sx m 0x80) X' sc' room cnt') cs

    pub polling : (left n q cnt : ℕ) (room : List ℕ) (cs : List Cycle) → length bs ≤ length room → q + (left + 1) ≤ 65535 → left + 1 ≤ d.erase → d.erase ≤ 65535 → n + (left + 1) ≤ 65535
        → Follows (n + (left + 1)) (polls_cost d bs ps n (suc left)) cnt (room_over X bs ps n (suc left) room) cs
        → Goes (held_conf (wait q) (after_poll n ps) (st sx Status 0 Erasing (left + 1) a) X sc room cnt) (erase_polls d p a bs ps n (suc left) cs)
    polling zero n q cnt room cs roomy b m m' h rest =
        subst (λ (x : Hold). Goes (held_conf (wait q) x (st sx Status 0 Erasing 1 a) X sc room cnt) (erase_polls d p a bs ps n 1 cs)) (after_poll_lem n (omega arith)) (go (listed (n + 1) ps) refl rest)
      where
        go : (t : Bool) → listed (n + 1) ps ≡ t → Follows (n + (0 + 1)) ((if t then length bs + 4 + 0 else 1) + 0) cnt (if t then filled_by X bs room else room) cs
            → Goes (held_conf (wait q) (if t then hold_as Halting (n + 1) 0 0 false else usual (n + 1)) (st sx Status 0 Erasing 1 a) X sc room cnt) (if t then found_then p a bs cs else cyc p Read a 0 ∷ cs)
        go true f on =
            one.found verify d p k r sx w bs ps at_in at_block els q (n + 1) e es X sc room l_x roomy X' ended l_x' cX' (omega arith) cnt cs
            (λ cnt' y. subst (λ (c : HeldConfig). Goes c cs)
            (λ t. held_conf (sym (ready q) t) (usual (n + 1)) (is_at_rest sx Array 0x80) X' (sym (stored q) t) (overwritten (length bs) (sym same t) room) cnt')
            (on Array cnt' (sym (if_true (listed (n + 1) ps) Array Status f)) (omega arith)))
        go false f on =
            goes d w bs ps (held_conf (wait q) (usual (n + 1)) (st sx Status 0 Erasing 1 a) X sc room cnt) (cyc p Read a 0) (Gives 0x80) (is_at_rest sx Status 0x80) (Erase (block_of d.part a)) refl l_x (ap (λ (x : ℕ). cyc p Read x 0) (first q))
            (answers.ends d p r.base sx k r Erasing a a (refl, refl) (omega arith) at_in at_in) refl
            (held_conf done (usual (n + 1)) (is_at_rest sx Status 0x80) X' sc' room (cnt + 1)) e es cs refl
            ((λ t. held_conf (ready q t) (numbered (ready q t).stage (n + 1) ps) (is_at_rest sx Status 0x80) (ended t) (stored q t) room (cnt + 1))
            ∙ (λ t. held_conf done (calm (n + 1) t) (is_at_rest sx Status 0x80) X' sc' room (cnt + 1)))
            (on Status (cnt + 1) (sym (if_false (listed (n + 1) ps) Array Status f)) (omega arith))
    polling (suc left) n q cnt room cs roomy b m m' h rest =
        subst (λ (x : Hold). Goes (held_conf (wait q) x (st sx Status 0 Erasing (suc left + 1) a) X sc room cnt) (erase_polls d p a bs ps n (suc (suc left)) cs)) (after_poll_lem n (omega arith))
        (subst (λ (x : ℕ). Goes (held_conf (wait q) (if listed (n + 1) ps then hold_as Halting (n + 1) 0 0 false else usual (n + 1)) (st sx Status 0 Erasing x a) X sc room cnt) (erase_polls d p a bs ps n (suc (suc left)) cs)) (let z : left + 1 + 1 ≡ suc left + 1 = omega arith in z)
        (go (listed (n + 1) ps)
        (λ q' cnt₁ room₁. polling left (n + 1) q' cnt₁ room₁ cs) rest))
      where
        last : n + 1 + (left + 1) ≡ n + (suc left + 1)
        last = omega arith

        go : (t : Bool)
            → ((q' cnt₁ : ℕ) (room₁ : List ℕ) → length bs ≤ length room₁ → q' + (left + 1) ≤ 65535 → left + 1 ≤ d.erase → d.erase ≤ 65535 → n + 1 + (left + 1) ≤ 65535
            → Follows (n + 1 + (left + 1)) (polls_cost d bs ps (n + 1) (suc left)) cnt₁ (room_over X bs ps (n + 1) (suc left) room₁) cs
            → Goes (held_conf (wait q') (after_poll (n + 1) ps) (st sx Status 0 Erasing (left + 1) a) X sc room₁ cnt₁) (erase_polls d p a bs ps (n + 1) (suc left) cs))
            → Follows (n + (suc left + 1)) ((if t then length bs + 4 + waits_of d.suspend else 1) + polls_cost d bs ps (n + 1) (suc left)) cnt (room_over X bs ps (n + 1) (suc left) (if t then filled_by X bs room else room)) cs
            → Goes (held_conf (wait q) (if t then hold_as Halting (n + 1) 0 0 false else usual (n + 1)) (st sx Status 0 Erasing (left + 1 + 1) a) X sc room cnt)
            (if t then held_then d p a bs (erase_polls d p a bs ps (n + 1) (suc left) cs) else cyc p Read a 0 ∷ erase_polls d p a bs ps (n + 1) (suc left) cs)
        go true again on =
            one.interrupted verify d p k r sx w bs ps at_in at_block els q (n + 1) e es (left + 1) (omega arith) (omega arith) X sc room l_x cX roomy cnt (erase_polls d p a bs ps (n + 1) (suc left) cs) s0 s1
            (λ cnt₁ y. again 0 cnt₁ (filled_by X bs room)
            (let z = filled_length (length bs) (read_at X bs) room (one.read_length X bs) roomy in omega arith) (omega arith) (omega arith) m' (omega arith)
            (λ o cnt' v y'. subst (λ (x : ℕ). Goes (held_conf done (usual x) (is_at_rest sx o 0x80) X' sc' (room_over X bs ps (n + 1) (suc left) (filled_by X bs room)) cnt') cs) (sym last)
            (on o cnt' (v ∙ ap (λ (x : ℕ). if listed x ps then Array else Status) last) (omega arith))))
        go false again on =
            goes d w bs ps (held_conf (wait q) (usual (n + 1)) (st sx Status 0 Erasing (left + 1 + 1) a) X sc room cnt) (cyc p Read a 0) (Gives 0) (st sx Status 0 Erasing (left + 1) a) Nothing refl l_x (ap (λ (x : ℕ). cyc p Read x 0) (first q))
            (answers.waits d p r.base sx k r Erasing (left + 1) a a (refl, refl) (omega arith) (omega arith) at_in at_in) refl
            (held_conf (wait (q + 1)) (after_poll (n + 1) ps) (st sx Status 0 Erasing (left + 1) a) X sc room (cnt + 1)) e es (erase_polls d p a bs ps (n + 1) (suc left) cs) refl
            (λ t. held_conf (more t) (numbered (more t).stage (n + 1) ps) (st sx Status 0 Erasing (left + 1) a) X (waits_keep q t) room (cnt + 1))
            (again (q + 1) (cnt + 1) room roomy (omega arith) (omega arith) m' (omega arith)
            (λ o cnt' v y'. subst (λ (x : ℕ). Goes (held_conf done (usual x) (is_at_rest sx o 0x80) X' sc' (room_over X bs ps (n + 1) (suc left) room) cnt') cs) (sym last)
            (on o cnt' (v ∙ ap (λ (x : ℕ). if listed x ps then Array else Status) last) (omega arith))))
          where
            more : next_of (wait q) 0 w (store_of (wait q) 0 w sc) ≡ wait (q + 1)
            more = ap (λ (y : List ℕ). next_of (wait q) 0 w y) (waits_keep q) ∙ waits_more q (omega arith)
