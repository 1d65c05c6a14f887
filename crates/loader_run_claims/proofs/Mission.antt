-- Demand 3 and least wear in the mission's own words: what a run returns and leaves, how much it wears, and that nothing wears
-- less.
use mathlib.Core.Path.{◌≡◌, refl, sym, ap, ◌∙◌, subst}
use mathlib.Core.Bool.{Bool, true, false}
use mathlib.Core.List.{List, [], ◌∷◌}
use Prim.Native.Nat.{ℕ, zero, suc, ◌+◌, ◌-◌, ◌*◌, ◌≤◌, ◌<◌, min}
use native.Mathlib.Nat.{zero-mul, one-mul, add-mul, zero-add}
use native.Mathlib.Omega.{arith}
use lib.ListN.{length, get_or, take, drop}
use lib.Seq.{take_at, drop_at, length-take-le}
use lib.Dec.{eqb, ltb}
use borrow.Author.Tests.{eq-eqb, ne_eqb, le-ltb, lt-ltb, ltb-true, ltb-false}
use Rattle.model_types.specs.Cells.{Cells}
use Rattle.std.specs.Prelude.{if◌then◌else◌}
use Rattle.common.proofs.Choice.{if_false, if_ind}
use Rattle.common.specs.Lists.{overlaid}
use Rattle.common.proofs.Bytes.{overlaid_before, overlaid_after}
use Rattle.device.specs.declared.Part.{Part}
use Rattle.device.specs.declared.Device.{Device}
use Rattle.device.specs.declared.Shape.{Shape}
use Rattle.device.specs.Parts.{row_of, in_words, shape_of, start_of, block_of, length_of, length_in}
use Rattle.device.proofs.Rows.{by_rows}
use Rattle.device.proofs.Claims.{blocks_end_inside}
use Rattle.model_types.specs.declared.Pins.{Pins}
use Rattle.model_types.specs.declared.Cycle.{Cycle}
use Rattle.model_types.specs.declared.Effect.{Effect}
use Rattle.model_types.specs.declared.Effect.TheVariants.{Nothing, Program, Erase}
use Rattle.model_states.specs.States.{is_at_rest}
use Rattle.model_types.specs.declared.Wear.{Wear}
use Rattle.model_types.specs.Counts.{stop, count_of, raised, raised_at, worn}
use Rattle.model_types.proofs.Wears.{count_worn}
use Rattle.model_history.proofs.Counting.{count_begun}
use Rattle.model_levels.proofs.Bands.{not_low}
use Rattle.loader_steps.specs.Front.{end_address}
use Rattle.loader_walk.specs.Walks.{rises_in}
use Rattle.loader_run.specs.declared.Ran.{Ran}
use Rattle.loader_run.specs.Inner.{bound}
use Rattle.loader_run.specs.Runs.{driven, beginning, run_end, run_left, doing}
use Rattle.loader_run_claims.specs.Wear.{begun_at, held_in, held_by, base_of, erases_of, programs_in, programs_of, differing, formula, load_formula, formula_by, operations_of}
use Rattle.model_history.specs.History.{Bus, World, world_of, world_after, effects_in, begun_over, uncut, total_of, erase_of, program_in, program_of, erases_begun, programs_begun}
use Rattle.loader_run.proofs.UnrefusedRun.{good}
use Rattle.loader_run_claims.specs.Made.{cycles_at, smooth_at, cycles_by, reads_then, polls_then, opening_then, erase_then, program_then, programs_then, closing_by, programming_then, load_then}
use Rattle.loader_run_claims.specs.Ends.{end_mode, erased_from}
use Rattle.loader_run_claims.specs.Mission.{Start, Brings, own_cycles, NoFewer, Demand3}
use Rattle.loader_run_claims.proofs.Grounds.{Left, some_bytes}
use Rattle.loader_run_claims.proofs.Demand.{goal, good_load, ran_left, bytes_left, scratch_left}
use Rattle.loader_run_claims.proofs.Starts.{none_refuses}
use Rattle.model_history.proofs.Wearing.{lies}
use Rattle.loader_run_claims.proofs.Least.{least}
use Rattle.loader_run_claims.proofs.OwnHistory.{noted_total, device_in, own_leads as leads, own_begins as begins, own_smooth as smooth}
use Rattle.loader.specs.declared.Work.TheVariants.{Load}
use Rattle.loader_run.specs.declared.Job.{Job}

-- the programs of a load are counted, all in the block, and none of them is an erase
programs_counted : (j i a n b : ℕ) (w s : List ℕ) → a ≤ b + i → b + i + j ≤ a + n → total_of (program_in a n) (programs_of j b i w s) ≡ differing j i w s
programs_counted zero i a n b w s lo hi = refl
programs_counted (suc j) i a n b w s lo hi = go (eqb (get_or s i 0) (get_or w i 0)) (programs_counted j (i + 1) a n b w s (omega arith) (omega arith))
  where
    go : (t : Bool) → total_of (program_in a n) (programs_of j b (i + 1) w s) ≡ differing j (i + 1) w s
        → total_of (program_in a n) (if t then programs_of j b (i + 1) w s else Program (b + i) (get_or w i 0) ∷ programs_of j b (i + 1) w s) ≡ (if t then 0 else 1) + differing j (i + 1) w s
    go true e = omega arith
    go false e = rw (le-ltb (b + i) a lo, lt-ltb (b + i) (a + n) (omega arith)) (omega arith)

no_erase : (j i k b : ℕ) (w s : List ℕ) → total_of (erase_of k) (programs_of j b i w s) ≡ 0
no_erase zero i k b w s = refl
no_erase (suc j) i k b w s = go (eqb (get_or s i 0) (get_or w i 0)) (no_erase j (i + 1) k b w s)
  where
    go : (t : Bool) → total_of (erase_of k) (programs_of j b (i + 1) w s) ≡ 0 → total_of (erase_of k) (if t then programs_of j b (i + 1) w s else Program (b + i) (get_or w i 0) ∷ programs_of j b (i + 1) w s) ≡ 0
    go true e = e
    go false e = omega arith

no_program : (n a k : ℕ) (es : List Effect) → total_of (program_in a n) (Erase k ∷ es) ≡ total_of (program_in a n) es
no_program n a k es = omega arith

operations_erase : (part : Part) (k a : ℕ) (w ys : List ℕ) → total_of (erase_of k) (operations_of part k a w ys) ≡ erases_of w ys
operations_erase part k a w ys = go (rises_in w ys) (no_erase (length w) 0 k a w (base_of part w ys))
  where
    go : (t : Bool) → total_of (erase_of k) (programs_of (length w) a 0 w (base_of part w ys)) ≡ 0
        → total_of (erase_of k) (if t then Erase k ∷ programs_of (length w) a 0 w (base_of part w ys) else programs_of (length w) a 0 w (base_of part w ys)) ≡ (if t then 1 else 0)
    go true e = rw (eq-eqb k k refl) (omega arith)
    go false e = e

operations_program : (part : Part) (k a : ℕ) (w ys : List ℕ) → total_of (program_in a (length w)) (operations_of part k a w ys) ≡ programs_in part w ys
operations_program part k a w ys = go (rises_in w ys) (programs_counted (length w) 0 a (length w) a w (base_of part w ys) (omega arith) (omega arith))
  where
    go : (t : Bool) → total_of (program_in a (length w)) (programs_of (length w) a 0 w (base_of part w ys)) ≡ programs_in part w ys
        → total_of (program_in a (length w)) (if t then Erase k ∷ programs_of (length w) a 0 w (base_of part w ys) else programs_of (length w) a 0 w (base_of part w ys)) ≡ programs_in part w ys
    go true e = no_program (length w) a k (programs_of (length w) a 0 w (base_of part w ys)) ∙ e
    go false e = e

-- the length of the list of cycles is the formula
pub reads_long : (p : Pins) (n a i : ℕ) (cs : List Cycle) → length (reads_then p n a i cs) ≡ n + length cs
reads_long p zero a i cs = omega arith
reads_long p (suc n) a i cs = let e = reads_long p n a (i + 1) cs in omega arith

polls_long : (p : Pins) (n x : ℕ) (cs : List Cycle) → length (polls_then p n x cs) ≡ n + length cs
polls_long p zero x cs = omega arith
polls_long p (suc n) x cs = let e = polls_long p n x cs in omega arith

programs_long : (d : Device) (p : Pins) (k a i : ℕ) (w s : List ℕ) (cs : List Cycle) → length (programs_then d p k a i w s cs) ≡ differing k i w s * (2 + d.program) + length cs
programs_long d p zero a i w s cs = rw (zero-mul (2 + d.program)) (omega arith)
programs_long d p (suc k) a i w s cs = go (eqb (get_or s i 0) (get_or w i 0)) (programs_long d p k a (i + 1) w s cs)
  where
    go : (t : Bool) → length (programs_then d p k a (i + 1) w s cs) ≡ differing k (i + 1) w s * (2 + d.program) + length cs
        → length (if t then programs_then d p k a (i + 1) w s cs else program_then d p (a + i) (get_or w i 0) (programs_then d p k a (i + 1) w s cs)) ≡ ((if t then 0 else 1) + differing k (i + 1) w s) * (2 + d.program) + length cs
    go true e = rw (zero-add (differing k (i + 1) w s)) e
    go false e = rw (add-mul 1 (differing k (i + 1) w s) (2 + d.program), one-mul (2 + d.program)) (let f = polls_long p d.program (a + i) (programs_then d p k a (i + 1) w s cs) in omega arith)

-- what follows a load, by its own length
closing_long : (verify : Bool) (p : Pins) (a n : ℕ) → length (closing_by verify p a n) ≡ (if verify then n + 1 else 0)
closing_long true p a n = let r = reads_long p n a 0 [] in omega arith
closing_long false p a n = refl

load_long : (d : Device) (p : Pins) (a : ℕ) (w ys : List ℕ) (cs : List Cycle) → length (load_then d p a w ys cs) ≡ load_formula d w ys + length cs
load_long d p a w ys cs = go (rises_in w ys) (programs_long d p (length w) a 0 w (base_of d.part w ys) cs)
  where
    go : (t : Bool) → length (programming_then d p a w ys cs) ≡ programs_in d.part w ys * (2 + d.program) + length cs
        → length (opening_then p a (length w) (if t then erase_then d p a (programming_then d p a w ys cs) else programming_then d p a w ys cs))
        ≡ length w + 2 + (if t then 1 else 0) * (2 + d.erase) + programs_in d.part w ys * (2 + d.program) + length cs
    go true e =
        rw (one-mul (2 + d.erase))
        (let r = reads_long p (length w) a 0 (erase_then d p a (programming_then d p a w ys cs)) in let f = polls_long p d.erase a (programming_then d p a w ys cs) in omega arith)
    go false e = rw (zero-mul (2 + d.erase)) (let r = reads_long p (length w) a 0 (programming_then d p a w ys cs) in omega arith)

-- the count of a run is that of its load, and n + 1 for the verify
pub formula_load_verify : (d : Device) (w ys : List ℕ) → formula d w ys ≡ load_formula d w ys + (length w + 1)
formula_load_verify d w ys = go (length w) (erases_of w ys * (2 + d.erase)) (programs_in d.part w ys * (2 + d.program))
  where
    go : (n e q : ℕ) → 2 * n + 3 + e + q ≡ n + 2 + e + q + (n + 1)
    go n e q = omega arith

pub cycles_long : (verify : Bool) (d : Device) (p : Pins) (a : ℕ) (w ys : List ℕ) → length (cycles_by verify d p a w ys) ≡ formula_by verify d w ys
cycles_long true d p a w ys =
    load_long d p a w ys (closing_by true p a (length w)) ∙ ap (λ (n : ℕ). load_formula d w ys + n) (closing_long true p a (length w)) ∙ sym (formula_load_verify d w ys)
cycles_long false d p a w ys = load_long d p a w ys [] ∙ (let z : load_formula d w ys + 0 ≡ load_formula d w ys = omega arith in z)

-- no part has an eighth block
no_eighth : (part : Part) (k : ℕ) → length_in (shape_of part) (suc (suc (suc (suc (suc (suc (suc k))))))) ≡ 0
unfolding shape_of row_of in_words length_in
no_eighth part k =
    let Past : Shape → Type 0 = λ s. length_in s (suc (suc (suc (suc (suc (suc (suc k))))))) ≡ 0 in
    if_ind Past part.word (in_words (row_of part.number)) (row_of part.number)
    (λ e. by_rows (λ s. Past (in_words s)) refl refl refl refl refl refl refl refl refl part.number)
    (λ e. by_rows Past refl refl refl refl refl refl refl refl refl part.number)

-- a block that is there is one of seven
seven : (part : Part) (k : ℕ) → (length_of part k ≡ 0 → ⊥) → k < 7
unfolding length_of length_in
seven part zero h = omega arith
seven part (suc zero) h = omega arith
seven part (suc (suc zero)) h = omega arith
seven part (suc (suc (suc zero))) h = omega arith
seven part (suc (suc (suc (suc zero)))) h = omega arith
seven part (suc (suc (suc (suc (suc zero))))) h = omega arith
seven part (suc (suc (suc (suc (suc (suc zero)))))) h = omega arith
seven part (suc (suc (suc (suc (suc (suc (suc k))))))) h = absurd (h (no_eighth part k))

-- one more erase, or none, of block k, as the counts have it
own_count : (t : Bool) (v : Wear) (k : ℕ) → k < 7 → count_of v k ≤ stop → count_of (if t then worn v k else v) k ≡ min (count_of v k + (if t then 1 else 0)) stop
own_count true v k h c = count_begun (Erase k) v k h c ∙ rw (eq-eqb k k refl) refl
own_count false v k h c = omega arith

other_count : (t : Bool) (v : Wear) (k j : ℕ) → j < 7 → (j ≡ k → ⊥) → count_of (if t then worn v k else v) j ≡ count_of v j
unfolding raised_at
other_count true v k j h z = count_worn v k j h ∙ if_false (eqb k j) (raised (count_of v j)) (count_of v j) (ne_eqb k j (λ e. z (sym e)))
other_count false v k j h z = refl

module _ (verify : Bool) (j : Job) (xs w sc : List ℕ) (start : Start j xs w sc) where
  abbrev a : ℕ
  a = start_of j.device.part j.block

  abbrev ys : List ℕ
  ys = held_in (start_of j.device.part j.block) (length w) xs

  -- how the load is left
  loaded : Left (doing (Load verify) j) xs w sc (goal verify j xs w sc start.base) (operations_of j.device.part j.block a w ys) (cycles_by verify j.device j.pins a w ys)
  loaded = good_load verify j xs w sc start.base (not_low j.device.part j.pins start.high) start.unlock

  -- a load ends well, with the count of the formula, in mode read array with status 80H
  pub ends_well_lem : (run_left (doing (Load verify) j) xs w sc).ran ≡ record { count = formula_by verify j.device w ys; end = 0; address = 0; state = is_at_rest (erased_from (rises_in w ys) j.block j.state) (end_mode verify w ys) 128 }
  unfolding end_address
  ends_well_lem = ran_left verify j xs w sc start.base _ _ _ loaded

  -- the array is as before with the wanted bytes over the block, and scratch holds them too
  pub array_left : (run_left (doing (Load verify) j) xs w sc).bytes ≡ overlaid xs a w
  array_left = bytes_left verify j xs w sc start.base _ _ _ loaded

  pub scratch_wanted : (run_left (doing (Load verify) j) xs w sc).scratch ≡ w
  scratch_wanted = scratch_left verify j xs w sc start.base _ _ _ loaded

  inside : a + length w ≤ length xs
  inside = let g = good j (length xs) (length w) (length sc) (none_refuses j xs w sc start.base) in omega (arith, blocks_end_inside j.device.part j.block, g.sized, g.wanted)

  -- the block holds the wanted bytes
  pub block_holds : held_in a (length w) (run_left (doing (Load verify) j) xs w sc).bytes ≡ w
  block_holds =
      ap (λ (z : List ℕ). held_in a (length w) z) array_left
      ∙ ap (λ (z : List ℕ). take (length w) z) (drop_at (take a xs) _ a (length-take-le a xs (let h = inside in omega arith)))
      ∙ take_at w (drop (length w) (drop a xs)) (length w) refl

  -- every other byte is as before
  pub others_stay : (x : ℕ) → (x < a → get_or (run_left (doing (Load verify) j) xs w sc).bytes x 0 ≡ get_or xs x 0) × (a + length w ≤ x → get_or (run_left (doing (Load verify) j) xs w sc).bytes x 0 ≡ get_or xs x 0)
  others_stay x = (
    λ h. rw array_left (overlaid_before xs a w inside x h),
    λ h. rw array_left (subst (λ (y : ℕ). get_or (overlaid xs a w) y 0 ≡ get_or xs y 0) (let q : a + (length w + (x - a - length w)) ≡ x = omega arith in q) (overlaid_after xs a w inside (x - a - length w))),
  )

  -- it erases once if some bit must rise, otherwise never; it programs each byte that then differs once and no other
  pub begins_just : begun_at (doing (Load verify) j) xs w sc ≡ operations_of j.device.part j.block a w ys
  begins_just = loaded.begun

  -- the cycles that it makes, one after the other; the model refuses none of them, and none cuts an operation
  pub cycles_are : cycles_at (doing (Load verify) j) xs w sc ≡ cycles_by verify j.device j.pins a w ys
  cycles_are = loaded.made

  pub none_refused : smooth_at (doing (Load verify) j) xs w sc ≡ true
  none_refused = loaded.smooth

  -- no uncut cycles from the same start to the same block contents begin fewer erases of the block or fewer programs in it
  pub nothing_less : (bs : List Bus) → Cells j.device.part xs → uncut (effects_in j.device (world_of j.state xs) bs) ≡ true
      → held_in a (length w) (world_after j.device (world_of j.state xs) bs).bytes ≡ w
      → (total_of (erase_of j.block) (begun_at (doing (Load verify) j) xs w sc) ≤ total_of (erase_of j.block) (begun_over j.device (world_of j.state xs) bs))
      × (total_of (program_in a (length w)) (begun_at (doing (Load verify) j) xs w sc) ≤ total_of (program_in a (length w)) (begun_over j.device (world_of j.state xs) bs))
  nothing_less bs bx u h =
      let g = good j (length xs) (length w) (length sc) (none_refuses j xs w sc start.base) in
      let m = least j.device j.block (world_of j.state xs) w bs g.sized g.wanted bx g.free u h in
      let e = ap (λ (es : List Effect). total_of (erase_of j.block) es) begins_just ∙ operations_erase j.device.part j.block a w ys in
      let q = ap (λ (es : List Effect). total_of (program_in a (length w)) es) begins_just ∙ operations_program j.device.part j.block a w ys in
      (omega (arith, m.0), omega (arith, m.1))

  -- what the block held, by the block's own length
  held_is : (zs : List ℕ) → held_in a (length w) zs ≡ held_by j.device.part j.block zs
  held_is zs = ap (λ (n : ℕ). held_in a n zs) start.base.wanted

  pub cycles_listed : cycles_at (doing (Load verify) j) xs w sc ≡ cycles_by verify j.device j.pins a w (held_by j.device.part j.block xs)
  cycles_listed = cycles_are ∙ ap (λ (zs : List ℕ). cycles_by verify j.device j.pins a w zs) (held_is xs)

  -- an address outside the block
  others_are : (x : ℕ) → (block_of j.device.part x ≡ j.block → ⊥) → get_or (run_left (doing (Load verify) j) xs w sc).bytes x 0 ≡ get_or xs x 0
  others_are x h = go (ltb x a) refl (ltb x (a + length w)) refl
    where
      go : (b : Bool) → ltb x a ≡ b → (c : Bool) → ltb x (a + length w) ≡ c → get_or (run_left (doing (Load verify) j) xs w sc).bytes x 0 ≡ get_or xs x 0
      go true e c f = (others_stay x).0 (ltb-true x a e)
      go false e false f = (others_stay x).1 (ltb-false x (a + length w) f)
      go false e true f =
          absurd (h (lies j.device.part j.block x (ltb-false x a e) (subst (λ (n : ℕ). x < a + n) start.base.wanted (ltb-true x (a + length w) f))))

  abbrev own : List Bus
  own = own_cycles verify j xs w sc

  -- where the load's own cycles lead
  own_world : world_after j.device (world_of j.state xs) own ≡ world_of (run_left (doing (Load verify) j) xs w sc).ran.state (run_left (doing (Load verify) j) xs w sc).bytes
  unfolding run_end driven
  own_world =
      leads j.device w (bound (length w)) (beginning (doing (Load verify) j) xs sc)
      ∙ ap device_in loaded.end
      ∙ sym (λ i. world_of (ends_well_lem i).state (array_left i))

  own_holds : Brings j.device (world_of j.state xs) j.block w own
  own_holds =
      record {
        whole = (smooth j.device w (bound (length w)) (beginning (doing (Load verify) j) xs sc) none_refused).1;
        there = ap (λ (v : World). held_by j.device.part j.block v.bytes) own_world ∙ sym (held_is (run_left (doing (Load verify) j) xs w sc).bytes) ∙ block_holds;
      }

  -- the counts of erases
  wear_left : (run_left (doing (Load verify) j) xs w sc).ran.state.wear ≡ (if rises_in w ys then worn j.state.wear j.block else j.state.wear)
  wear_left = ap (λ (r : Ran). r.state.wear) ends_well_lem

  -- with no bit to raise every count is as it was
  pub wear_kept : rises_in w ys ≡ false → (run_left (doing (Load verify) j) xs w sc).ran.state.wear ≡ j.state.wear
  wear_kept e = wear_left ∙ if_false (rises_in w ys) (worn j.state.wear j.block) j.state.wear e

  worn_block : count_of j.state.wear j.block ≤ stop
      → count_of (run_left (doing (Load verify) j) xs w sc).ran.state.wear j.block ≡ min (count_of j.state.wear j.block + total_of (erase_of j.block) (begun_at (doing (Load verify) j) xs w sc)) stop
  worn_block c =
      ap (λ (v : Wear). count_of v j.block) wear_left
      ∙ own_count (rises_in w ys) j.state.wear j.block (seven j.device.part j.block (some_bytes j.device j.block start.base.block)) c
      ∙ ap (λ (n : ℕ). min (count_of j.state.wear j.block + n) stop) (sym (ap (λ (es : List Effect). total_of (erase_of j.block) es) begins_just ∙ operations_erase j.device.part j.block a w ys))

  worn_others : (o : ℕ) → o < 7 → (o ≡ j.block → ⊥) → count_of (run_left (doing (Load verify) j) xs w sc).ran.state.wear o ≡ count_of j.state.wear o
  worn_others o h z = ap (λ (v : Wear). count_of v o) wear_left ∙ other_count (rises_in w ys) j.state.wear j.block o h z

  -- nothing wears less than the load's own cycles
  least_wear : Cells j.device.part xs → (bs : List Bus) → Brings j.device (world_of j.state xs) j.block w bs → NoFewer j.device (world_of j.state xs) j.block own bs
  least_wear bx bs h =
      let m = nothing_less bs bx h.whole (held_is (world_after j.device (world_of j.state xs) bs).bytes ∙ h.there) in
      record {
        erases = subst (λ (n : ℕ). n ≤ erases_begun j.device (world_of j.state xs) j.block bs) (sym (weighs (erase_of j.block) refl)) m.0;
        programs =
            subst (λ (n : ℕ). n ≤ programs_begun j.device (world_of j.state xs) j.block bs) (sym (weighs (program_of j.device.part j.block) refl))
            (subst (λ (n : ℕ). total_of (program_in a n) (begun_at (doing (Load verify) j) xs w sc) ≤ total_of (program_in a n) (begun_over j.device (world_of j.state xs) bs)) start.base.wanted m.1);
      }
    where
      weighs : (f : Effect → ℕ) → f Nothing ≡ 0 → total_of f (begun_over j.device (world_of j.state xs) own) ≡ total_of f (begun_at (doing (Load verify) j) xs w sc)
      weighs f z =
          sym (noted_total f z (begun_over j.device (world_of j.state xs) own))
          ∙ ap (λ (es : List Effect). total_of f es) (begins j.device w (bound (length w)) (beginning (doing (Load verify) j) xs sc))

  -- demand 3 whole
  pub demand_3 : Demand3 verify j xs w sc
  demand_3 =
      record {
        well = ap (λ (r : Ran). r.end) ends_well_lem;
        block = sym (held_is (run_left (doing (Load verify) j) xs w sc).bytes) ∙ block_holds;
        others = others_are;
        array_left = array_left;
        begins = begins_just ∙ ap (λ (ys : List ℕ). operations_of j.device.part j.block a w ys) (held_is xs);
        own_accepted = (smooth j.device w (bound (length w)) (beginning (doing (Load verify) j) xs sc) none_refused).0;
        own_brings = own_holds;
        own_leads = own_world;
        own_begins = begins j.device w (bound (length w)) (beginning (doing (Load verify) j) xs sc);
        least_wear = least_wear;
        counted = ap (λ (r : Ran). r.count) ends_well_lem ∙ sym (ap (λ (cs : List Cycle). length cs) cycles_are ∙ cycles_long verify j.device j.pins a w ys);
        by_formula = ap (λ (r : Ran). r.count) ends_well_lem ∙ ap (λ (ys : List ℕ). formula_by verify j.device w ys) (held_is xs);
        worn_block = worn_block;
        worn_others = worn_others;
        scratch_left = scratch_wanted;
      }
