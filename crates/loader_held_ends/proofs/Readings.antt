-- What an interruption adds exactly, what the room holds place by place, and loads that no poll of theirs is interrupted in.
use mathlib.Core.Path.{◌≡◌, refl, sym, ap, ◌∙◌, subst}
use mathlib.Core.Bool.{Bool, true, false, ◌&&◌}
use mathlib.Core.List.{List, [], ◌∷◌}
use Prim.Native.Nat.{ℕ, zero, suc, ◌+◌, ◌-◌, ◌*◌, ◌≤◌, ◌<◌, max}
use native.Mathlib.Nat.{one-mul, add-mul}
use native.Mathlib.Omega.{arith}
use lib.ListN.{length, get_or, take, drop, length-take, get_or-append}
use lib.Seq.{get_or-take, get_or-drop, get_or-append-add}
use lib.Dec.{eqb, ltb}
use borrow.Author.Tests.{eq-eqb, ltb-true, ltb-false}
use Rattle.std.specs.Prelude.{if◌then◌else◌}
use Rattle.common.proofs.Choice.{or_both, unlike, and_none}
use Rattle.device.specs.declared.Device.{Device}
use Rattle.device.specs.Parts.{row_of, in_words, shape_of, size_in, length_in, offset_in, start_in, size_of, start_of, length_of, block_of}
use Rattle.units.specs.Units.{units}
use Rattle.model_types.specs.declared.Pins.{Pins}
use Rattle.loader_walk.specs.Walks.{rises_in}
use Rattle.loader_run.specs.declared.Ran.{Ran}
use Rattle.loader_run_claims.specs.Wear.{held_in, programs_in}
use Rattle.loader_run_claims.specs.Ends.{end_number, Whole}
use Rattle.loader_run_claims.specs.Mission.{Taken}
use Rattle.loader_run_claims.proofs.Total as total
use Rattle.loader_held_lists.specs.Listings.{past_array, in_loaded, short_room, held_number}
use Rattle.loader_held.specs.Holds.{listed}
use Rattle.loader_held_run.specs.HeldRuns.{held_ran, lent_held}
use Rattle.loader_held_claims.specs.HeldMade.{Elsewhere, read_at, filled_by, waits_of, interrupts, interruptions, added_at, added_in}
use Rattle.loader_held_claims.specs.HeldEnds.{erases, added_tried, added_by, ends_turned, ran_more, held_ran_as}
use Rattle.loader_held_claims.proofs.Interrupting.{read_length, read_place}
use Rattle.loader_held_claims.proofs.Rooms.{added_most, none_added}
use Rattle.loader_held_claims.proofs.Starting as start
use Rattle.loader_held_ends.specs.HeldMission.{held_end, HeldStart}
use Rattle.loader_held_ends.specs.HeldLent.{LentTaken, LentBeside, room_in}
use Rattle.loader_held_ends.specs.HeldAnchors.{all_lists, figures}
use Rattle.loader_held_ends.proofs.HeldGrounds.{whole}
use Rattle.loader_held_ends.proofs.HeldMission.{demand_3}
use Rattle.loader_held_ends.proofs.HeldLent.{taken, lent_beside}
use Rattle.loader.specs.declared.Work.TheVariants.{Load}
use Rattle.loader_run.specs.declared.Job.{Job}
use Rattle.loader_run.specs.Runs.{run_left, lent_run, doing}

-- the polls of a suspend's own wait are max(1, S - 1)
waits_are : (s : ℕ) → waits_of s ≡ max 1 (s - 1)
waits_are s = go (ltb s 2) refl
  where
    go : (t : Bool) → ltb s 2 ≡ t → (if t then 1 else s - 1) ≡ max 1 (s - 1)
    go true e = let h = ltb-true s 2 e in omega arith
    go false e = let h = ltb-false s 2 e in omega arith

-- an interruption before the last poll, and in its place
pub adds_before_last : (d : Device) (bs : List ℕ) (left : ℕ) → added_at d bs (suc left) ≡ length bs + 3 + max 1 (d.suspend - 1)
adds_before_last d bs left = ap (λ (n : ℕ). length bs + 3 + n) (waits_are d.suspend)

pub adds_at_last : (d : Device) (bs : List ℕ) → added_at d bs 0 ≡ length bs + 3
adds_at_last d bs = omega arith

-- the room place by place
pub room_holds : (xs bs room : List ℕ) (i : ℕ) → i < length bs → get_or (filled_by xs bs room) i 0 ≡ get_or xs (get_or bs i 0) 0
room_holds xs bs room i h =
    get_or-append (take (length bs) (read_at xs bs)) (drop (length bs) room) 0 i (rw (length-take (length bs) (read_at xs bs)) (omega (arith, read_length xs bs)))
    ∙ get_or-take (length bs) (read_at xs bs) i 0 h
    ∙ read_place xs bs i h

pub room_past : (xs bs room : List ℕ) (i : ℕ) → get_or (filled_by xs bs room) (length bs + i) 0 ≡ get_or room (length bs + i) 0
room_past xs bs room i =
    ap (λ (n : ℕ). get_or (filled_by xs bs room) (n + i) 0) (let z : length bs ≡ length (take (length bs) (read_at xs bs)) = sym (length-take (length bs) (read_at xs bs) ∙ (let y = read_length xs bs in omega arith)) in z)
    ∙ get_or-append-add (take (length bs) (read_at xs bs)) (drop (length bs) room) i 0
    ∙ get_or-drop (length bs) room i 0

-- what was read stands there still when the load has ended
pub still_there : (verify : Bool) (j : Job) (xs w sc bs ps room : List ℕ) → HeldStart verify j xs w sc bs ps room
    → (i : ℕ) → i < length bs → get_or (held_end verify j xs w sc bs ps room).bytes (get_or bs i 0) 0 ≡ get_or xs (get_or bs i 0) 0
still_there verify j xs w sc bs ps room st i h =
    (demand_3 verify j xs w sc bs ps room st).others (get_or bs i 0) (λ q. unlike (sym (eq-eqb (block_of j.device.part (get_or bs i 0)) j.block q) ∙ st.elsewhere.other i h))

-- a load that no number 1 to E is told to: nothing is added
none_interrupted : (ps : List ℕ) (m n : ℕ) → ((i : ℕ) → n < i → i ≤ n + m → listed i ps ≡ false) → interrupts ps n m ≡ false
none_interrupted ps zero n f = refl
none_interrupted ps (suc m) n f =
    or_both (listed (n + 1) ps) (interrupts ps (n + 1) m) (f (n + 1) (omega arith) (omega arith)) (none_interrupted ps m (n + 1) (λ i g h. f i (omega arith) (omega arith)))

module _ (d : Device) (p : Pins) (k : ℕ) (w ys bs ps : List ℕ) (some : 0 < d.erase) (none : (i : ℕ) → 0 < i → i ≤ d.erase → listed i ps ≡ false) where
  pub uninterrupted : interrupts ps 0 d.erase ≡ false
  uninterrupted = none_interrupted ps d.erase 0 (λ i g h. none i g (omega arith))

  pub adds_nothing : added_by d p k w ys bs ps ≡ 0
  unfolding added_by
  adds_nothing =
      (λ t. if rises_in w ys then (if eqb (end_number d p k w ys) 0 then none_added d bs ps d.erase 0 uninterrupted t else (if none 1 (omega arith) (omega arith) t then 2 else 0)) else 0)
      ∙ zeros (rises_in w ys) (eqb (end_number d p k w ys) 0)
    where
      zeros : (a b : Bool) → ◌≡◌ {A = ℕ} (if a then (if b then 0 else 0) else 0) 0
      zeros true true = refl
      zeros true false = refl
      zeros false b = refl

  pub turns_not : ends_turned d p k w ys ps ≡ false
  unfolding ends_turned
  turns_not = ap (λ (b : Bool). (erases d p k w ys && eqb (programs_in d.part w ys) 0) && b) (none d.erase some (omega arith)) ∙ and_none (erases d p k w ys && eqb (programs_in d.part w ys) 0)

-- whatever the end, each interruption adds at most S + k + 4
pub added_by_most : (d : Device) (p : Pins) (k : ℕ) (w ys bs ps : List ℕ) → 0 < d.erase → added_by d p k w ys bs ps ≤ interruptions ps 0 d.erase * (d.suspend + length bs + 4)
unfolding added_by
added_by_most d p k w ys bs ps some = go (rises_in w ys) (eqb (end_number d p k w ys) 0)
  where
    M : ℕ
    M = d.suspend + length bs + 4

    one : (t : Bool) (r : ℕ) → (if t then 2 else 0) ≤ ((if t then 1 else 0) + r) * M
    one true r = rw (add-mul 1 r M, one-mul M) (omega arith)
    one false r = omega arith

    tried : added_tried ps ≤ interruptions ps 0 d.erase * M
    tried =
        subst (λ (n : ℕ). added_tried ps ≤ interruptions ps 0 n * M) (let z : suc (d.erase - 1) ≡ d.erase = omega arith in z) (one (listed 1 ps) (interruptions ps 1 (d.erase - 1)))

    go : (a b : Bool) → (if a then (if b then added_in d bs ps 0 d.erase else added_tried ps) else 0) ≤ interruptions ps 0 d.erase * M
    go true true = added_most d bs ps d.erase 0
    go true false = tried
    go false b = omega arith

-- and the count is the old one with what is added
pub count_added : (verify : Bool) (j : Job) (xs w sc : List ℕ) → Taken j xs w sc → (bs ps room : List ℕ) → Elsewhere j.device j.block bs → length bs ≤ length room
    → (held_ran (held_end verify j xs w sc bs ps room)).count
    ≡ (run_left (doing (Load verify) j) xs w sc).ran.count + added_by j.device j.pins j.block w (held_in (start_of j.device.part j.block) (length w) xs) bs ps
unfolding held_ran_as
count_added verify j xs w sc t bs ps room els roomy =
    let H = whole verify j xs w sc t bs ps room els roomy in
    let E : Whole verify j xs w sc = total.every_end verify j xs w sc t in
    ap (λ (r : Ran). r.count) H.ran ∙ ap (λ (r : Ran). r.count + added_by j.device j.pins j.block w (held_in (start_of j.device.part j.block) (length w) xs) bs ps) (sym E.ran)

-- nothing added is the run without interruptions
plain : (r : Ran) (n : ℕ) (b : Bool) → n ≡ 0 → b ≡ false → ran_more r n b ≡ r
plain r n b e f =
    (λ i. ran_more r (e i) (f i))
    ∙ (λ i. record { count = (let z : r.count + 0 ≡ r.count = omega arith in z) i; end = r.end; address = r.address; state = r.state })

-- .. on lent bytes: the same result, array and scratch, and the room as it was
pub no_interruption : (verify : Bool) (j : Job) (array wanted scratch ps bs room : List ℕ) → LentTaken j array wanted scratch bs room
    → ((i : ℕ) → 0 < i → i ≤ j.device.erase → listed i ps ≡ false)
    → lent_held (doing (Load verify) j) array wanted scratch ps bs room
    ≡ record {
      ran = (lent_run (doing (Load verify) j) array wanted scratch).ran;
      bytes = (lent_run (doing (Load verify) j) array wanted scratch).bytes;
      scratch = (lent_run (doing (Load verify) j) array wanted scratch).scratch;
      room = room;
    }
no_interruption verify j array wanted scratch ps bs room t none =
    let B : LentBeside verify j array wanted scratch ps bs room = lent_beside verify j array wanted scratch ps bs room t in
    let some : 0 < j.device.erase = start.e0 verify j (units j.device.part.word array) (units j.device.part.word wanted) (units j.device.part.word scratch) (taken verify j array wanted scratch ps bs room t) in
    let wu : List ℕ = units j.device.part.word wanted in
    let yu : List ℕ = held_in (start_of j.device.part j.block) (length_of j.device.part j.block) (units j.device.part.word array) in
    let ran_is = B.ran ∙ plain (lent_run (doing (Load verify) j) array wanted scratch).ran (added_by j.device j.pins j.block wu yu bs ps) (ends_turned j.device j.pins j.block wu yu ps) (adds_nothing j.device j.pins j.block wu yu bs ps some none) (turns_not j.device j.pins j.block wu yu bs ps some none) in
    let room_is = B.filled ∙ ap (λ (b : Bool). if erases j.device j.pins j.block wu yu && b then room_in j.device.part.word array bs room else room) (uninterrupted j.device j.pins j.block wu yu bs ps some none)
    ∙ ap (λ (b : Bool). if b then room_in j.device.part.word array bs room else room) (and_none (erases j.device j.pins j.block wu yu)) in
    λ i. record { ran = ran_is i; bytes = B.bytes i; scratch = B.scratch_left i; room = room_is i }

-- 20, 22 and 25 never come from the model, whatever the polls told
pub never : (verify : Bool) (j : Job) (xs w sc : List ℕ) → Taken j xs w sc → (bs ps room : List ℕ) → Elsewhere j.device j.block bs → length bs ≤ length room
    → ((held_ran (held_end verify j xs w sc bs ps room)).end ≡ 20 → ⊥) × ((held_ran (held_end verify j xs w sc bs ps room)).end ≡ 22 → ⊥) × ((held_ran (held_end verify j xs w sc bs ps room)).end ≡ 25 → ⊥)
unfolding held_ran_as
never verify j xs w sc t bs ps room els roomy =
    let H = whole verify j xs w sc t bs ps room els roomy in
    let E : Whole verify j xs w sc = total.every_end verify j xs w sc t in
    let same : (held_ran (held_end verify j xs w sc bs ps room)).end ≡ (run_left (doing (Load verify) j) xs w sc).ran.end = ap (λ (r : Ran). r.end) H.ran ∙ ap (λ (r : Ran). r.end) (sym E.ran) in
    let n = total.never verify j xs w sc t in
    (λ q. n.0 (sym same ∙ q), λ q. n.1 (sym same ∙ q), λ q. n.2 (sym same ∙ q))

-- lists that there are
pub all_lists_lem : all_lists ≡ true
unfolding held_number past_array in_loaded short_room size_of start_of length_of row_of in_words shape_of size_in length_in offset_in start_in
all_lists_lem = refl

-- some figures
pub some_figures :
    (figures 1 [] (1 ∷ []) ≡ 4) × (figures 1 [] (3 ∷ []) ≡ 3) × (figures 2 (0 ∷ 1 ∷ []) (2 ∷ 1 ∷ 2 ∷ 0 ∷ 9 ∷ []) ≡ 12) × (figures 3 (0 ∷ 1 ∷ []) (3 ∷ []) ≡ 5)
    × (figures 7 (0 ∷ 1 ∷ []) (3 ∷ 2 ∷ 1 ∷ []) ≡ 27)
unfolding listed
some_figures = (refl, refl, refl, refl, refl)
