-- Card 2, for every P: busy until the P-th read.
use mathlib.Core.Path.{◌≡◌, refl, sym, ap, ◌∙◌, subst}
use mathlib.Core.Bool.{Bool, true, false}
use mathlib.Core.List.{List, [], ◌∷◌, ◌++◌}
use Prim.Native.Nat.{ℕ, zero, suc, ◌+◌, ◌≤◌, ◌<◌}
use native.Mathlib.Omega.{arith}
use native.Mathlib.Numerals.{add-one}
use lib.ListN.{length, get_or, set, replicate}
use lib.Seq.{set-get_or}
use lib.Bits.{bit_and}
use Rattle.device.specs.declared.Device.{Device}
use Rattle.device.specs.Parts.{unknown_device, size_of, block_of}
use Rattle.model_types.specs.declared.Mode.TheVariants.{Array, Status}
use Rattle.model_types.specs.declared.Phase.TheVariants.{DataAwaited, Programming}
use Rattle.model_types.specs.declared.Effect.{Effect}
use Rattle.model_types.specs.declared.Effect.TheVariants.{Nothing, Program}
use Rattle.model_types.specs.declared.Reply.{Reply}
use Rattle.model_types.specs.declared.Reply.TheVariants.{Quiet, Gives}
use Rattle.model_types.specs.declared.State.{State}
use Rattle.model_types.specs.declared.Cycle.{Cycle}
use Rattle.model_states.specs.States.{is_at_rest, fresh_state}
use Rattle.model_rules.specs.Cycles.{decide_of, decided_as}
use Rattle.model.specs.declared.Seen.{Seen}
use Rattle.model.specs.declared.Seen.TheVariants.{NoData, Data}
use Rattle.model.specs.Arrays.{array_of, seen_of}
use Rattle.model.proofs.Keeping.{st}
use Rattle.model_history.specs.History.{Bus, World, stepped, seen_on}
use Rattle.loader_run_claims.proofs.Answers.{Up, Ready, asks_program_lem, sends, waits, ends}
use Rattle.cards.specs.Table.{normal, write, read, fresh, cycles2, Card2}
use Rattle.device.specs.declared.Part.{Part}
use Rattle.units.specs.Units.{top}
use Rattle.model_types.specs.Cells.{ones}
use Rattle.cards.proofs.Leading as leading
use Rattle.cards.proofs.Leading.{Leads, before}
use Rattle.loader_run_claims.specs.Made.{bus_cycle as cyc}

-- FFH is a cell of either width
byte_cell : (part : Part) → 255 ≤ ones part
unfolding ones
byte_cell part = go part.word
  where
    go : (w : Bool) → 255 ≤ top w
    go true = omega arith
    go false = omega arith

module _ (d : Device) (a : ℕ) (xs : List ℕ) (known : unknown_device d ≡ false) (inside : a < size_of d.part) (free : block_of d.part a ≡ 0 → ⊥)
    (sized : length xs ≡ size_of d.part) (held : get_or xs a 0 ≡ 60) where
  abbrev world : State → World
  world s = leading.world d a xs known free sized s

  up : Up d normal
  up = leading.up d a xs known free sized

  ready : Ready d normal (block_of d.part a)
  ready = leading.ready d a xs known free sized

  step : (s t : State) (c : Cycle) (r : Reply) (e : Effect) → decide_of d s c (size_of d.part) 0 ≡ decided_as r t e → array_of e d.part [] xs ≡ xs
      → (stepped d (world s) (record { cycle = c; residue = [] }) ≡ world t) × (seen_on d (world s) (record { cycle = c; residue = [] }) ≡ seen_of r xs)
  step = leading.step d a xs known free sized

  -- FFH over 3CH is 3CH
  keeps : set xs a (bit_and (get_or xs a 0) 255) ≡ xs
  keeps =
      let e : bit_and (get_or xs a 0) 255 ≡ get_or xs a 0 = ap (λ (x : ℕ). bit_and x 255) held ∙ sym held in
      ap (λ (x : ℕ). set xs a x) e ∙ set-get_or xs a 0

  polls : (m : ℕ) → suc m ≤ d.program
      → Leads d (world (st fresh_state Status 0 (Programming 255) (suc m) a)) (replicate {A = Bus} (suc m) (read normal a)) (replicate {A = Seen} m (Data 0) ++ (Data 128 ∷ [])) (world (is_at_rest fresh_state Status 128))
  polls zero h =
      before d (world (st fresh_state Status 0 (Programming 255) 1 a)) (world (is_at_rest fresh_state Status 128)) (world (is_at_rest fresh_state Status 128)) (read normal a) [] (Data 128) []
      (step (st fresh_state Status 0 (Programming 255) 1 a) (is_at_rest fresh_state Status 128) (cyc normal (read normal a).cycle.kind a 0) (Gives 128) (Program a 255)
      (ends d normal up fresh_state (block_of d.part a) ready (Programming 255) a a (refl, refl) h inside inside) keeps)
      (refl, refl)
  polls (suc m) h =
      before d (world (st fresh_state Status 0 (Programming 255) (suc (suc m)) a)) (world (st fresh_state Status 0 (Programming 255) (suc m) a)) (world (is_at_rest fresh_state Status 128)) (read normal a)
      (replicate {A = Bus} (suc m) (read normal a)) (Data 0) (replicate {A = Seen} m (Data 0) ++ (Data 128 ∷ []))
      (step (st fresh_state Status 0 (Programming 255) (suc (suc m)) a) (st fresh_state Status 0 (Programming 255) (suc m) a) (cyc normal (read normal a).cycle.kind a 0) (Gives 0) Nothing
      (subst (λ (j : ℕ). decide_of d (st fresh_state Status 0 (Programming 255) j a) (cyc normal (read normal a).cycle.kind a 0) (size_of d.part) 0
      ≡ decided_as (Gives 0) (st fresh_state Status 0 (Programming 255) (suc m) a) Nothing) (add-one (suc m))
      (waits d normal up fresh_state (block_of d.part a) ready (Programming 255) (suc m) a a (refl, refl) (omega arith) (omega (arith, h)) inside inside)) refl)
      (polls m (omega (arith, h)))

  whole : (m : ℕ) → d.program ≡ suc m → Leads d (fresh xs) (cycles2 m a) (NoData ∷ NoData ∷ (replicate {A = Seen} m (Data 0) ++ (Data 128 ∷ []))) (world (is_at_rest fresh_state Status 128))
  whole m e =
      before d (fresh xs) (world (st fresh_state Status 128 DataAwaited 0 0)) (world (is_at_rest fresh_state Status 128)) (write normal a 0x40) (write normal a 0xFF ∷ replicate {A = Bus} (suc m) (read normal a))
      NoData (NoData ∷ (replicate {A = Seen} m (Data 0) ++ (Data 128 ∷ [])))
      (step fresh_state (st fresh_state Status 128 DataAwaited 0 0) (write normal a 0x40).cycle Quiet Nothing (asks_program_lem d normal up fresh_state Array 128 a refl inside) refl)
      (before d (world (st fresh_state Status 128 DataAwaited 0 0)) (world (st fresh_state Status 0 (Programming 255) (suc m) a)) (world (is_at_rest fresh_state Status 128)) (write normal a 0xFF)
      (replicate {A = Bus} (suc m) (read normal a)) NoData (replicate {A = Seen} m (Data 0) ++ (Data 128 ∷ []))
      (step (st fresh_state Status 128 DataAwaited 0 0) (st fresh_state Status 0 (Programming 255) (suc m) a) (write normal a 0xFF).cycle Quiet Nothing
      (sends d normal up fresh_state (block_of d.part a) ready a 255 inside refl (byte_cell d.part) ∙ ap (λ (j : ℕ). decided_as Quiet (st fresh_state Status 0 (Programming 255) j a) Nothing) e) refl)
      (polls m (omega (arith, e))))

pub two : Card2
two d m a xs known e inside free sized held =
    let w = whole d a xs known inside free sized held m e in
    (w.0, w.1, ap (λ (v : World). get_or v.bytes a 0) w.1 ∙ held)
