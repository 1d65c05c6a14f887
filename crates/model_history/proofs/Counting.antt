-- The counts of erases under any cycles: what was there and what was begun, up to the stop.
use mathlib.Core.Path.{◌≡◌, refl, ap, ◌∙◌}
use mathlib.Core.Bool.{Bool, true, false}
use mathlib.Core.List.{List, [], ◌∷◌}
use Prim.Native.Nat.{ℕ, ◌+◌, ◌≤◌, ◌<◌, min}
use native.Mathlib.Omega.{arith}
use lib.ListN.{length}
use lib.Dec.{eqb}
use borrow.Author.Tests.{eqb-true}
use Rattle.std.specs.Prelude.{if◌then◌else◌}
use Rattle.device.specs.declared.Part.{Part}
use Rattle.device.specs.declared.Device.{Device}
use Rattle.device.specs.Parts.{length_of}
use Rattle.model_types.specs.declared.Wear.{Wear}
use Rattle.model_types.specs.declared.Effect.{Effect}
use Rattle.model_types.specs.declared.Effect.TheVariants.{Nothing, Program, Erase, CutProgram, CutErase}
use Rattle.model_types.specs.Counts.{stop, unworn, count_of, raised, raised_at, worn_by}
use Rattle.model_states.specs.States.{fresh_state}
use Rattle.model_types.proofs.Wears.{count_worn, count_unworn, raised_is}
use Rattle.model.specs.Arrays.{answer_of}
use Rattle.model.specs.Begun.{begun_by}
use Rattle.model.proofs.Worn.{wear_after_lem, There, begun_there}
use Rattle.model_history.specs.History.{Bus, World, world_of, stepped, world_after, erase_of, erases_begun}

-- a count after one more erase, by which block it is of
by_test : (k j n m : ℕ) → (if eqb j k then raised n else n) ≡ m → raised_at k j n ≡ m
unfolding raised_at
by_test k j n m e = e

-- an operation that is no erase of a block leaves its count
other_begun : (e : Effect) (w : Wear) (k : ℕ) → k < 7 → erase_of k e ≡ 0 → count_of (worn_by e w) k ≡ count_of w k
other_begun Nothing w k h q = refl
other_begun (Program at b) w k h q = refl
other_begun (Erase j) w k h q = count_worn w j k h ∙ by_test k j (count_of w k) (count_of w k) (go (eqb j k) q)
  where
    go : (b : Bool) → ◌≡◌ {A = ℕ} (if b then 1 else 0) 0 → (if b then raised (count_of w k) else count_of w k) ≡ count_of w k
    go true q = absurd (omega arith)
    go false q = refl
other_begun (CutProgram at b) w k h q = refl
other_begun (CutErase j) w k h q = refl

-- what an operation that is begun makes of one count
pub count_begun : (e : Effect) (w : Wear) (k : ℕ) → k < 7 → count_of w k ≤ stop → count_of (worn_by e w) k ≡ min (count_of w k + erase_of k e) stop
count_begun Nothing w k h s = omega arith
count_begun (Program at b) w k h s = omega arith
count_begun (Erase j) w k h s = count_worn w j k h ∙ by_test k j (count_of w k) (min (count_of w k + (if eqb j k then 1 else 0)) stop) (at (eqb j k))
  where
    at : (b : Bool) → (if b then raised (count_of w k) else count_of w k) ≡ min (count_of w k + (if b then 1 else 0)) stop
    at true = raised_is (count_of w k) s
    at false = omega arith
count_begun (CutProgram at b) w k h s = omega arith
count_begun (CutErase j) w k h s = omega arith

-- the counts after one cycle
step_wear : (d : Device) (v : World) (b : Bus) → (stepped d v b).state.wear ≡ worn_by (begun_by d v.state b.cycle (length v.bytes) (length b.residue)) v.state.wear
unfolding answer_of
step_wear d v b = wear_after_lem d v.state b.cycle (length v.bytes) (length b.residue)

step_count : (d : Device) (v : World) (b : Bus) (k : ℕ) → k < 7 → count_of v.state.wear k ≤ stop
    → count_of (stepped d v b).state.wear k
    ≡ min (count_of v.state.wear k + erase_of k (begun_by d v.state b.cycle (length v.bytes) (length b.residue))) stop
step_count d v b k h s =
    ap (λ (w : Wear). count_of w k) (step_wear d v b)
    ∙ count_begun (begun_by d v.state b.cycle (length v.bytes) (length b.residue)) v.state.wear k h s

-- .. and after any cycles from any start
pub stored : (bs : List Bus) (d : Device) (v : World) (k : ℕ) → k < 7 → count_of v.state.wear k ≤ stop
    → count_of (world_after d v bs).state.wear k ≡ min (count_of v.state.wear k + erases_begun d v k bs) stop
stored [] d v k h s = omega arith
stored (b ∷ bs) d v k h s = join (count_of v.state.wear k) (erase_of k e) (count_of (stepped d v b).state.wear k) (erases_begun d (stepped d v b) k bs) (count_of (world_after d (stepped d v b) bs).state.wear k) s one (stored bs d (stepped d v b) k h)
  where
    e : Effect
    e = begun_by d v.state b.cycle (length v.bytes) (length b.residue)

    one : count_of (stepped d v b).state.wear k ≡ min (count_of v.state.wear k + erase_of k e) stop
    one = step_count d v b k h s

    join : (a x m y z : ℕ) → a ≤ stop → m ≡ min (a + x) stop → (m ≤ stop → z ≡ min (m + y) stop) → z ≡ min (a + (x + y)) stop
    join a x m y z s p q = let r = q (omega arith) in omega arith

-- a trace from a fresh device
pub stored_fresh : (bs : List Bus) (d : Device) (xs : List ℕ) (k : ℕ) → k < 7
    → count_of (world_after d (world_of fresh_state xs) bs).state.wear k ≡ min (erases_begun d (world_of fresh_state xs) k bs) stop
stored_fresh bs d xs k h =
    let z : count_of unworn k ≡ 0 = count_unworn k h in
    let r = stored bs d (world_of fresh_state xs) k h (omega arith) in
    omega arith

-- no erase is begun of a block that the part has not ..
absent : (e : Effect) (part : Part) (k : ℕ) → length_of part k ≡ 0 → There part e → erase_of k e ≡ 0
absent Nothing part k z t = refl
absent (Program at b) part k z t = refl
absent (Erase j) part k z t = go (eqb j k) refl
  where
    go : (b : Bool) → eqb j k ≡ b → ◌≡◌ {A = ℕ} (if b then 1 else 0) 0
    go true e = let q : length_of part j ≡ length_of part k = ap (λ (i : ℕ). length_of part i) (eqb-true j k e) in absurd (omega arith)
    go false e = refl
absent (CutProgram at b) part k z t = refl
absent (CutErase j) part k z t = refl

pub none_begun : (bs : List Bus) (d : Device) (v : World) (k : ℕ) → length_of d.part k ≡ 0 → erases_begun d v k bs ≡ 0
none_begun [] d v k z = refl
none_begun (b ∷ bs) d v k z =
    let e = begun_by d v.state b.cycle (length v.bytes) (length b.residue) in
    let p : erase_of k e ≡ 0 = absent e d.part k z (begun_there d v.state b.cycle (length v.bytes) (length b.residue)) in
    let q : erases_begun d (stepped d v b) k bs ≡ 0 = none_begun bs d (stepped d v b) k z in
    omega arith

-- .. so its count is never touched
pub untouched : (bs : List Bus) (d : Device) (v : World) (k : ℕ) → k < 7 → length_of d.part k ≡ 0 → count_of (world_after d v bs).state.wear k ≡ count_of v.state.wear k
untouched [] d v k h z = refl
untouched (b ∷ bs) d v k h z =
    untouched bs d (stepped d v b) k h z
    ∙ ap (λ (w : Wear). count_of w k) (step_wear d v b)
    ∙ other_begun (begun_by d v.state b.cycle (length v.bytes) (length b.residue)) v.state.wear k h
    (absent (begun_by d v.state b.cycle (length v.bytes) (length b.residue)) d.part k z (begun_there d v.state b.cycle (length v.bytes) (length b.residue)))
