-- One interruption of an erase against the model, whatever follows.
use mathlib.Core.Path.{◌≡◌, refl, sym, ap, ◌∙◌, subst}
use mathlib.Core.Bool.{Bool, true, false}
use mathlib.Core.List.{List, [], ◌∷◌}
use Prim.Native.Nat.{ℕ, zero, suc, ◌+◌, ◌-◌, ◌≤◌, ◌<◌}
use native.Mathlib.Nat.{not-suc-le-zero, le_of_suc-le-suc}
use native.Mathlib.Omega.{arith}
use lib.ListN.{length, get_or, set}
use lib.Dec.{eqb, ltb, leb}
use borrow.Author.Tests.{lt-ltb, le-ltb, lt-leb, ltb-true, ltb-false}
use Rattle.std.specs.Prelude.{if◌then◌else◌}
use Rattle.common.proofs.Choice.{if_true, if_false}
use Rattle.common.specs.Lists.{overwritten}
use Rattle.common.proofs.Lists.{overwritten_more}
use Rattle.units.specs.Units.{carried}
use Rattle.units.proofs.Widths.{carried_cell}
use Rattle.device.specs.declared.Device.{Device}
use Rattle.device.specs.Parts.{size_of, start_of, block_of}
use Rattle.model_types.specs.Cells.{ones, Cells}
use Rattle.model_types.specs.declared.Pins.{Pins}
use Rattle.model_types.specs.declared.Kind.TheVariants.{Read, Write}
use Rattle.model_types.specs.declared.Mode.TheVariants.{Array, Status}
use Rattle.model_types.specs.declared.Phase.TheVariants.{Erasing, Suspending, Suspended}
use Rattle.model_types.specs.declared.Effect.{Effect}
use Rattle.model_types.specs.declared.Effect.TheVariants.{Nothing, Erase}
use Rattle.model_types.specs.declared.Reply.TheVariants.{Quiet, Gives, GivesArray}
use Rattle.model_types.specs.declared.State.{State}
use Rattle.model_types.specs.declared.Cycle.{Cycle}
use Rattle.model_states.specs.States.{is_at_rest}
use Rattle.model_rules.specs.Cycles.{decide_of, decided_as}
use Rattle.model.specs.Arrays.{erased}
use Rattle.model.specs.Begun.{begun_from}
use Rattle.model.proofs.Keeping.{st}
use Rattle.loader.specs.declared.Stage.TheVariants.{EraseWaiting}
use Rattle.loader.specs.declared.Loader.{Loader}
use Rattle.loader_moves.specs.Moves.{next_of}
use Rattle.loader.specs.Statuses.{erase_end, both_errors}
use Rattle.loader_moves.specs.Inner.{past}
use Rattle.loader_steps.specs.Addresses.{first_address}
use Rattle.loader_stores.specs.Stores.{store_of}
use Rattle.loader_run_claims.specs.Made.{polls_then, bus_cycle as cyc}
use Rattle.loader_run_claims.proofs.Answers as answers
use Rattle.loader_run_claims.proofs.Answers.{Up, Ready}
use Rattle.loader_held.specs.declared.Step.TheVariants.{Halting, Looking, Settling, ArrayAsking, Fetching, Resuming}
use Rattle.loader_held.specs.declared.Hold.{Hold}
use Rattle.loader_held.specs.declared.Pair.{Pair}
use Rattle.loader_held.specs.Holds.{hold_as, usual, pair_of, after_poll, settled_by, fetch_on, fetch_stored}
use Rattle.loader_held_run.specs.HeldTurns.{HeldConfig}
use Rattle.loader_held_run.specs.HeldRuns.{held_conf}
use Rattle.loader_held_claims.specs.HeldMade.{HeldReach, Elsewhere, read_at, filled_by, fetches_then, waits_of, held_then, found_then}
use Rattle.loader_held_claims.proofs.HeldAnswers as own
use Rattle.loader_held_claims.proofs.HeldReaching.{goes}

pub read_length : (xs bs : List ℕ) → length (read_at xs bs) ≡ length bs
read_length xs [] = refl
read_length xs (b ∷ bs) = ap suc (read_length xs bs)

pub read_place : (xs bs : List ℕ) (i : ℕ) → i < length bs → get_or (read_at xs bs) i 0 ≡ get_or xs (get_or bs i 0) 0
read_place xs [] i h = absurd (not-suc-le-zero h)
read_place xs (b ∷ bs) zero h = refl
read_place xs (b ∷ bs) (suc i) h = read_place xs bs i (le_of_suc-le-suc h)

module _ (verify : Bool) (d : Device) (p : Pins) (k : ℕ) (r : Ready d p k) (sx : State) (w bs ps : List ℕ) (at_in : start_of d.part k < size_of d.part) (at_block : block_of d.part (start_of d.part k) ≡ k)
    (els : Elsewhere d k bs) (q n : ℕ) (e : HeldConfig) (es : List Effect) where
  abbrev u : Up d p
  u = r.base

  abbrev a : ℕ
  a = start_of d.part k

  -- the loader's record, which waits meanwhile
  abbrev pub wait : ℕ → Loader
  wait j = record { part = d.part; pins = p; block = k; stage = EraseWaiting; place = 0; polls = j; verify = verify; high = false }

  abbrev L : Loader
  L = wait q

  first : first_address L ≡ a
  unfolding first_address
  first = refl

  abbrev Goes : HeldConfig → List Cycle → Type 0
  Goes c cs = HeldReach d w bs ps c e es cs

  -- where the reads are over
  abbrev over_pair : Bool → List ℕ → Pair
  over_pair kept sc = if kept then pair_of L (hold_as Resuming n 0 0 kept) else pair_of (next_of L 0x80 w (store_of L 0x80 w sc)) (usual n)

  abbrev over_scratch : Bool → List ℕ → List ℕ
  over_scratch kept sc = if kept then sc else store_of L 0x80 w sc

  module _ (h : Hold) (hn : h.number ≡ n) (sc : List ℕ) where
    fetch_more : (i m : ℕ) → i < m → fetch_on L h i m w sc ≡ pair_of L (hold_as Fetching n i 0 h.suspended)
    unfolding fetch_on
    fetch_more i m g = if_true (ltb i m) _ _ (lt-ltb i m g) ∙ ap (λ (x : ℕ). pair_of L (hold_as Fetching x i 0 h.suspended)) hn

    fetch_over : (i m : ℕ) → m ≤ i → fetch_on L h i m w sc ≡ over_pair h.suspended sc
    unfolding fetch_on
    fetch_over i m g = if_false (ltb i m) _ _ (le-ltb i m g) ∙ ap (λ (x : ℕ). if h.suspended then pair_of L (hold_as Resuming x 0 0 h.suspended) else pair_of (next_of L 0x80 w (store_of L 0x80 w sc)) (usual x)) hn

    stored_more : (i m : ℕ) → i < m → fetch_stored L h i m w sc ≡ sc
    unfolding fetch_stored
    stored_more i m g = if_true (ltb i m) _ _ (lt-ltb i m g)

    stored_over : (i m : ℕ) → m ≤ i → fetch_stored L h i m w sc ≡ over_scratch h.suspended sc
    unfolding fetch_stored
    stored_over i m g = if_false (ltb i m) _ _ (le-ltb i m g)

  past_more : (i m : ℕ) → i < m → past i m ≡ i + 1
  unfolding past
  past_more i m g = if_true (ltb i m) (i + 1) i (lt-ltb i m g)

  cell : (v : ℕ) → v ≤ ones d.part → carried d.part.word v ≡ v
  unfolding ones
  cell v h = carried_cell d.part.word v h

  -- the reads, from a state T that gives the array at each address and stays
  module _ (kept : Bool) (T : State) (X sc : List ℕ) (l_x : length X ≡ size_of d.part) (cX : Cells d.part X) (room : List ℕ) (roomy : length bs ≤ length room)
      (quiet : begun_from d.part T T ≡ Nothing)
      (gives : (i : ℕ) → i < length bs → decide_of d T (cyc p Read (get_or bs i 0) 0) (size_of d.part) 0 ≡ decided_as (GivesArray (get_or bs i 0)) T Nothing) where
    abbrev Z : List ℕ
    Z = read_at X bs

    abbrev over : ℕ → HeldConfig
    over cnt = held_conf (over_pair kept sc).loader (over_pair kept sc).hold T X (over_scratch kept sc) (filled_by X bs room) cnt

    abbrev at : ℕ → ℕ → HeldConfig
    at i cnt = held_conf L (hold_as Fetching n i 0 kept) T X sc (overwritten i Z room) cnt

    stores : (i : ℕ) → i < length bs → set (overwritten i Z room) i (carried d.part.word (get_or X (get_or bs i 0) 0)) ≡ overwritten (i + 1) Z room
    stores i h =
        ap (λ (v : ℕ). set (overwritten i Z room) i v) (cell (get_or X (get_or bs i 0) 0) (cX (get_or bs i 0)) ∙ sym (read_place X bs i h))
        ∙ overwritten_more Z room i (let z = read_length X bs in omega arith) (omega arith)

    fetching : (j i cnt : ℕ) (cs : List Cycle) → i + (j + 1) ≡ length bs → ((cnt' : ℕ) → cnt' ≡ cnt + (j + 1) → Goes (over cnt') cs) → Goes (at i cnt) (fetches_then p (suc j) bs i cs)
    fetching zero i cnt cs z rest =
        let h : i < length bs = omega arith in
        let o : past i (length bs) ≡ length bs = past_more i (length bs) h ∙ (let y : i + 1 ≡ length bs = omega arith in y) in
        let H : Hold = hold_as Fetching n i 0 kept in
        let f : fetch_on L H (past i (length bs)) (length bs) w sc ≡ over_pair kept sc = fetch_over H refl sc (past i (length bs)) (length bs) (omega arith) in
        goes d w bs ps (at i cnt) (cyc p Read (get_or bs i 0) 0) (GivesArray (get_or bs i 0)) T Nothing refl l_x refl (gives i h) refl
        (over (cnt + 1)) e es cs quiet
        (λ t. held_conf (f t).loader (f t).hold T X (stored_over H refl sc (past i (length bs)) (length bs) (omega arith) t)
        ((stores i h ∙ ap (λ (m : ℕ). overwritten m Z room) (let y : i + 1 ≡ length bs = omega arith in y)) t) (cnt + 1))
        (rest (cnt + 1) (omega arith))
    fetching (suc j) i cnt cs z rest =
        let h : i < length bs = omega arith in
        let o : past i (length bs) ≡ i + 1 = past_more i (length bs) h in
        let H : Hold = hold_as Fetching n i 0 kept in
        let f : fetch_on L H (past i (length bs)) (length bs) w sc ≡ pair_of L (hold_as Fetching n (i + 1) 0 kept) =
        ap (λ (m : ℕ). fetch_on L H m (length bs) w sc) o ∙ fetch_more H refl sc (i + 1) (length bs) (omega arith) in
        goes d w bs ps (at i cnt) (cyc p Read (get_or bs i 0) 0) (GivesArray (get_or bs i 0)) T Nothing refl l_x refl (gives i h) refl
        (at (i + 1) (cnt + 1)) e es (fetches_then p (suc j) bs (i + 1) cs) quiet
        (λ t. held_conf (f t).loader (f t).hold T X (stored_more H refl sc (past i (length bs)) (length bs) (omega arith) t) (stores i h t) (cnt + 1))
        (fetching j (i + 1) (cnt + 1) cs (omega arith) (λ cnt' y. rest cnt' (omega arith)))

    -- .. from where FFH leaves the records
    fetched : (cnt : ℕ) (cs : List Cycle) → ((cnt' : ℕ) → cnt' ≡ cnt + length bs → Goes (over cnt') cs)
        → let H : Hold = hold_as ArrayAsking n 0 0 kept in
        Goes (held_conf (fetch_on L H 0 (length bs) w sc).loader (fetch_on L H 0 (length bs) w sc).hold T X (fetch_stored L H 0 (length bs) w sc) room cnt) (fetches_then p (length bs) bs 0 cs)
    fetched cnt cs rest = go (length bs) refl
      where
        H : Hold
        H = hold_as ArrayAsking n 0 0 kept

        go : (m : ℕ) → length bs ≡ m → Goes (held_conf (fetch_on L H 0 (length bs) w sc).loader (fetch_on L H 0 (length bs) w sc).hold T X (fetch_stored L H 0 (length bs) w sc) room cnt) (fetches_then p m bs 0 cs)
        go zero z =
            let f : over_pair kept sc ≡ fetch_on L H 0 (length bs) w sc = sym (fetch_over H refl sc 0 (length bs) (omega arith)) in
            let g : over_scratch kept sc ≡ fetch_stored L H 0 (length bs) w sc = sym (stored_over H refl sc 0 (length bs) (omega arith)) in
            subst (λ (c : HeldConfig). Goes c cs) (λ t. held_conf (f t).loader (f t).hold T X (g t) (overwritten (z t) Z room) cnt) (rest cnt (omega arith))
        go (suc j) z =
            let f : pair_of L (hold_as Fetching n 0 0 kept) ≡ fetch_on L H 0 (length bs) w sc = sym (fetch_more H refl sc 0 (length bs) (omega arith)) in
            let g : sc ≡ fetch_stored L H 0 (length bs) w sc = sym (stored_more H refl sc 0 (length bs) (omega arith)) in
            subst (λ (c : HeldConfig). Goes c (fetches_then p (suc j) bs 0 cs)) (λ t. held_conf (f t).loader (f t).hold T X (g t) room cnt)
            (fetching j 0 cnt cs (omega arith) (λ cnt' y. rest cnt' (omega arith)))

  -- ---- before the erase's last poll: it is held, with one cycle less to go
  module _ (left : ℕ) (some : 0 < left) (most : left + 1 ≤ d.erase) (X sc room : List ℕ) (l_x : length X ≡ size_of d.part) (cX : Cells d.part X) (roomy : length bs ≤ length room) where
    settle_more : (j : ℕ) → j < 65534 → settled_by L (hold_as Settling n 0 j false) 0 ≡ pair_of L (hold_as Settling n 0 (j + 1) false)
    unfolding settled_by
    settle_more j h = if_false (leb 65534 j) _ _ (lt-leb 65534 j h)

    settle_held : (j : ℕ) → settled_by L (hold_as Settling n 0 j false) 0xC0 ≡ pair_of L (hold_as ArrayAsking n 0 0 true)
    unfolding settled_by erase_end both_errors
    settle_held j = refl

    abbrev held : ℕ → HeldConfig
    held cnt = held_conf L (hold_as ArrayAsking n 0 0 true) (st sx Status 0xC0 Suspended left a) X sc room cnt

    -- the polls of the suspend's own wait
    settling : (m j cnt : ℕ) (cs : List Cycle) → j + m ≤ 65534 → m + 1 ≤ d.suspend → ((cnt' : ℕ) → cnt' ≡ cnt + (m + 1) → Goes (held cnt') cs)
        → Goes (held_conf L (hold_as Settling n 0 j false) (st sx Status 0 (Suspending (m + 1)) left a) X sc room cnt) (polls_then p (suc m) a cs)
    settling zero j cnt cs y z rest =
        goes d w bs ps _ (cyc p Read a 0) (Gives 0xC0) (st sx Status 0xC0 Suspended left a) Nothing refl l_x (ap (λ (x : ℕ). cyc p Read x 0) first)
        (answers.held d p u sx k r left a a (omega arith) some (omega arith) at_in at_in) refl
        (held (cnt + 1)) e es cs refl
        (λ t. held_conf (settle_held j t).loader (settle_held j t).hold (st sx Status 0xC0 Suspended left a) X sc room (cnt + 1))
        (rest (cnt + 1) (omega arith))
    settling (suc m) j cnt cs y z rest =
        subst (λ (x : ℕ). Goes (held_conf L (hold_as Settling n 0 j false) (st sx Status 0 (Suspending x) left a) X sc room cnt) (polls_then p (suc (suc m)) a cs)) (let v : m + 1 + 1 ≡ suc m + 1 = omega arith in v)
        (goes d w bs ps (held_conf L (hold_as Settling n 0 j false) (st sx Status 0 (Suspending (m + 1 + 1)) left a) X sc room cnt) (cyc p Read a 0) (Gives 0) (st sx Status 0 (Suspending (m + 1)) left a) Nothing refl l_x (ap (λ (x : ℕ). cyc p Read x 0) first)
        (answers.holds_on d p u sx k r (m + 1) left a a (omega arith) (omega arith) some (omega arith) at_in at_in) refl
        (held_conf L (hold_as Settling n 0 (j + 1) false) (st sx Status 0 (Suspending (m + 1)) left a) X sc room (cnt + 1)) e es (polls_then p (suc m) a cs) refl
        (λ t. held_conf (settle_more j (omega arith) t).loader (settle_more j (omega arith) t).hold (st sx Status 0 (Suspending (m + 1)) left a) X sc room (cnt + 1))
        (settling m (j + 1) (cnt + 1) cs (omega arith) (omega arith) (λ cnt' v. rest cnt' (omega arith))))

    -- FFH, the reads, D0H: the erase's polls go on, counted afresh
    reading : (cnt : ℕ) (cs : List Cycle)
        → ((cnt' : ℕ) → cnt' ≡ cnt + (2 + length bs) → Goes (held_conf (wait 0) (after_poll n ps) (st sx Status 0 Erasing left a) X sc (filled_by X bs room) cnt') cs)
        → Goes (held cnt) (cyc p Write a 0xFF ∷ fetches_then p (length bs) bs 0 (cyc p Write a 0xD0 ∷ cs))
    reading cnt cs rest =
        goes d w bs ps (held cnt) (cyc p Write a 0xFF) Quiet T Nothing refl l_x (ap (λ (x : ℕ). cyc p Write x 0xFF) first) (own.turns_held d p u sx k r left a a some (omega arith) at_in at_in) refl
        _ e es _ refl refl
        (fetched true T X sc l_x cX room roomy refl
        (λ i h. own.reads_held d p u sx k r left a (get_or bs i 0) some (omega arith) at_in (els.inside i h) (ap (λ (x : ℕ). eqb (block_of d.part (get_or bs i 0)) x) at_block ∙ els.other i h))
        (cnt + 1) (cyc p Write a 0xD0 ∷ cs)
        (λ cnt' y. goes d w bs ps (held_conf L (hold_as Resuming n 0 0 true) T X sc (filled_by X bs room) cnt') (cyc p Write a 0xD0) Quiet (st sx Status 0 Erasing left a) Nothing refl l_x (ap (λ (x : ℕ). cyc p Write x 0xD0) first)
        (own.resumes d p u sx k r left a a some (omega arith) at_in at_in) refl
        (held_conf (wait 0) (after_poll n ps) (st sx Status 0 Erasing left a) X sc (filled_by X bs room) (cnt' + 1)) e es cs refl refl
        (rest (cnt' + 1) (omega arith))))
      where
        T : State
        T = st sx Array 0xC0 Suspended left a

    -- the whole interruption
    pub interrupted : (cnt : ℕ) (cs : List Cycle) → 0 < d.suspend → d.suspend ≤ 65535
        → ((cnt' : ℕ) → cnt' ≡ cnt + (length bs + 4 + waits_of d.suspend) → Goes (held_conf (wait 0) (after_poll n ps) (st sx Status 0 Erasing left a) X sc (filled_by X bs room) cnt') cs)
        → Goes (held_conf L (hold_as Halting n 0 0 false) (st sx Status 0 Erasing (left + 1) a) X sc room cnt) (held_then d p a bs cs)
    interrupted cnt cs s0 s1 rest =
        goes d w bs ps (held_conf L (hold_as Halting n 0 0 false) (st sx Status 0 Erasing (left + 1) a) X sc room cnt) (cyc p Write a 0xB0) Quiet (st sx Status 0 (Suspending d.suspend) left a) Nothing refl l_x (ap (λ (x : ℕ). cyc p Write x 0xB0) first)
        (answers.suspends d p u sx k r left a a some most at_in at_in) refl
        (held_conf L (hold_as Looking n 0 0 false) (st sx Status 0 (Suspending d.suspend) left a) X sc room (cnt + 1)) e es _ refl refl
        (go (ltb d.suspend 2) refl rest)
      where
        after : List Cycle
        after = cyc p Write a 0xFF ∷ fetches_then p (length bs) bs 0 (cyc p Write a 0xD0 ∷ cs)

        go : (b : Bool) → ltb d.suspend 2 ≡ b
            → ((cnt' : ℕ) → cnt' ≡ cnt + (length bs + 4 + (if b then 1 else d.suspend - 1)) → Goes (held_conf (wait 0) (after_poll n ps) (st sx Status 0 Erasing left a) X sc (filled_by X bs room) cnt') cs)
            → Goes (held_conf L (hold_as Looking n 0 0 false) (st sx Status 0 (Suspending d.suspend) left a) X sc room (cnt + 1)) (cyc p Write a 0x70 ∷ polls_then p (if b then 1 else d.suspend - 1) a after)
        go true f on =
            let one : 1 ≡ d.suspend = (let v = ltb-true d.suspend 2 f in omega arith) in
            subst (λ (x : ℕ). Goes (held_conf L (hold_as Looking n 0 0 false) (st sx Status 0 (Suspending x) left a) X sc room (cnt + 1)) (cyc p Write a 0x70 ∷ polls_then p 1 a after)) one
            (goes d w bs ps (held_conf L (hold_as Looking n 0 0 false) (st sx Status 0 (Suspending 1) left a) X sc room (cnt + 1)) (cyc p Write a 0x70) Quiet (st sx Status 0xC0 Suspended left a) Nothing refl l_x (ap (λ (x : ℕ). cyc p Write x 0x70) first)
            (own.looks_held d p u sx k r left a a (omega arith) some (omega arith) at_in at_in) refl
            (held_conf L (hold_as Settling n 0 0 false) (st sx Status 0xC0 Suspended left a) X sc room (cnt + 1 + 1)) e es (cyc p Read a 0 ∷ after) refl refl
            (goes d w bs ps (held_conf L (hold_as Settling n 0 0 false) (st sx Status 0xC0 Suspended left a) X sc room (cnt + 1 + 1)) (cyc p Read a 0) (Gives 0xC0) (st sx Status 0xC0 Suspended left a) Nothing refl l_x (ap (λ (x : ℕ). cyc p Read x 0) first)
            (own.shows_held d p u sx k r left a a some (omega arith) at_in at_in) refl
            (held (cnt + 1 + 1 + 1)) e es after refl
            (λ t. held_conf (settle_held 0 t).loader (settle_held 0 t).hold (st sx Status 0xC0 Suspended left a) X sc room (cnt + 1 + 1 + 1))
            (reading (cnt + 1 + 1 + 1) cs (λ cnt' v. on cnt' (omega arith)))))
        go false f on =
            let g : 2 ≤ d.suspend = ltb-false d.suspend 2 f in
            let m : ℕ = d.suspend - 2 in
            subst (λ (x : ℕ). Goes (held_conf L (hold_as Looking n 0 0 false) (st sx Status 0 (Suspending x) left a) X sc room (cnt + 1)) (cyc p Write a 0x70 ∷ polls_then p (d.suspend - 1) a after)) (let v : d.suspend - 2 + 1 + 1 ≡ d.suspend = omega arith in v)
            (subst (λ (x : ℕ). Goes (held_conf L (hold_as Looking n 0 0 false) (st sx Status 0 (Suspending (d.suspend - 2 + 1 + 1)) left a) X sc room (cnt + 1)) (cyc p Write a 0x70 ∷ polls_then p x a after)) (let v : suc (d.suspend - 2) ≡ d.suspend - 1 = omega arith in v)
            (goes d w bs ps (held_conf L (hold_as Looking n 0 0 false) (st sx Status 0 (Suspending (d.suspend - 2 + 1 + 1)) left a) X sc room (cnt + 1)) (cyc p Write a 0x70) Quiet (st sx Status 0 (Suspending (d.suspend - 2 + 1)) left a) Nothing refl l_x (ap (λ (x : ℕ). cyc p Write x 0x70) first)
            (own.looks_on d p u sx k r (d.suspend - 2 + 1) left a a (omega arith) (omega arith) some (omega arith) at_in at_in) refl
            (held_conf L (hold_as Settling n 0 0 false) (st sx Status 0 (Suspending (d.suspend - 2 + 1)) left a) X sc room (cnt + 1 + 1)) e es (polls_then p (suc (d.suspend - 2)) a after) refl refl
            (settling (d.suspend - 2) 0 (cnt + 1 + 1) after (omega arith) (omega arith)
            (λ c₁ v. reading c₁ cs (λ cnt' v'. on cnt' (omega arith))))))

  -- ---- in the place of the erase's last poll: it is found finished, and the loader goes on as after a ready poll
  module _ (X sc room : List ℕ) (l_x : length X ≡ size_of d.part) (roomy : length bs ≤ length room) (X' : List ℕ) (ended : erased d.part (block_of d.part a) X ≡ X')
      (l_x' : length X' ≡ size_of d.part) (cX' : Cells d.part X') (short : 1 ≤ d.erase) where
    settle_found : settled_by L (hold_as Settling n 0 0 false) 0x80 ≡ pair_of L (hold_as ArrayAsking n 0 0 false)
    unfolding settled_by erase_end both_errors
    settle_found = refl

    pub found : (cnt : ℕ) (cs : List Cycle)
        → ((cnt' : ℕ) → cnt' ≡ cnt + (length bs + 4) → Goes (held_conf (next_of L 0x80 w (store_of L 0x80 w sc)) (usual n) (is_at_rest sx Array 0x80) X' (store_of L 0x80 w sc) (filled_by X' bs room) cnt') cs)
        → Goes (held_conf L (hold_as Halting n 0 0 false) (st sx Status 0 Erasing 1 a) X sc room cnt) (found_then p a bs cs)
    found cnt cs rest =
        goes d w bs ps (held_conf L (hold_as Halting n 0 0 false) (st sx Status 0 Erasing 1 a) X sc room cnt) (cyc p Write a 0xB0) Quiet (is_at_rest sx Array 0x80) (Erase (block_of d.part a)) refl l_x (ap (λ (x : ℕ). cyc p Write x 0xB0) first)
        (own.halts_last d p u sx k r a a short at_in at_in) refl
        (held_conf L (hold_as Looking n 0 0 false) (is_at_rest sx Array 0x80) X' sc room (cnt + 1)) e es _ refl
        (λ t. held_conf L (hold_as Looking n 0 0 false) (is_at_rest sx Array 0x80) (ended t) sc room (cnt + 1))
        (goes d w bs ps (held_conf L (hold_as Looking n 0 0 false) (is_at_rest sx Array 0x80) X' sc room (cnt + 1)) (cyc p Write a 0x70) Quiet (is_at_rest sx Status 0x80) Nothing refl l_x' (ap (λ (x : ℕ). cyc p Write x 0x70) first)
        (own.looks_rest d p u sx Array 0x80 a refl at_in) refl
        (held_conf L (hold_as Settling n 0 0 false) (is_at_rest sx Status 0x80) X' sc room (cnt + 1 + 1)) e es _ refl refl
        (goes d w bs ps (held_conf L (hold_as Settling n 0 0 false) (is_at_rest sx Status 0x80) X' sc room (cnt + 1 + 1)) (cyc p Read a 0) (Gives 0x80) (is_at_rest sx Status 0x80) Nothing refl l_x' (ap (λ (x : ℕ). cyc p Read x 0) first)
        (answers.reads_status d p u sx 0x80 a refl at_in) refl
        (held_conf L (hold_as ArrayAsking n 0 0 false) (is_at_rest sx Status 0x80) X' sc room (cnt + 1 + 1 + 1)) e es _ refl
        (λ t. held_conf (settle_found t).loader (settle_found t).hold (is_at_rest sx Status 0x80) X' sc room (cnt + 1 + 1 + 1))
        (goes d w bs ps (held_conf L (hold_as ArrayAsking n 0 0 false) (is_at_rest sx Status 0x80) X' sc room (cnt + 1 + 1 + 1)) (cyc p Write a 0xFF) Quiet (is_at_rest sx Array 0x80) Nothing refl l_x' (ap (λ (x : ℕ). cyc p Write x 0xFF) first)
        (answers.opens d p u sx Status 0x80 a refl at_in) refl
        _ e es _ refl refl
        (fetched false (is_at_rest sx Array 0x80) X' sc l_x' cX' room roomy refl
        (λ i h. answers.reads d p u sx 0x80 (get_or bs i 0) refl (els.inside i h))
        (cnt + 1 + 1 + 1 + 1) cs (λ cnt' y. rest cnt' (omega arith))))))
