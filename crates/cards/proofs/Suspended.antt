-- Card 7, for every S: suspended on the S-th read.
use mathlib.Core.Path.{◌≡◌, refl, ap, ◌∙◌, subst}
use mathlib.Core.Bool.{true, false}
use mathlib.Core.List.{List, [], ◌∷◌, ◌++◌}
use Prim.Native.Nat.{ℕ, zero, suc, ◌+◌, ◌≤◌, ◌<◌}
use native.Mathlib.Omega.{arith}
use native.Mathlib.Numerals.{add-one}
use lib.ListN.{length, replicate}
use Rattle.device.specs.declared.Device.{Device}
use Rattle.device.specs.Parts.{unknown_device, size_of, block_of}
use Rattle.model_types.specs.declared.Mode.TheVariants.{Array, Status}
use Rattle.model_types.specs.declared.Phase.TheVariants.{EraseAwaited, Erasing, Suspending, Suspended}
use Rattle.model_types.specs.declared.Effect.TheVariants.{Nothing}
use Rattle.model_types.specs.declared.Reply.{Reply}
use Rattle.model_types.specs.declared.Reply.TheVariants.{Quiet, Gives}
use Rattle.model_types.specs.declared.State.{State}
use Rattle.model_states.specs.States.{fresh_state}
use Rattle.model_rules.specs.Cycles.{decide_of, decided_as}
use Rattle.model.specs.declared.Seen.{Seen}
use Rattle.model.specs.declared.Seen.TheVariants.{NoData, Data}
use Rattle.model.specs.Arrays.{seen_of}
use Rattle.model.proofs.Keeping.{st}
use Rattle.model_history.specs.History.{Bus, World, stepped, seen_on}
use Rattle.loader_run_claims.specs.Ends.{erased_from}
use Rattle.loader_run_claims.proofs.Answers.{Up, Ready, asks_erase, confirms, suspends, holds_on, held}
use Rattle.cards.specs.Table.{normal, write, read, fresh, cycles7, Card7}
use Rattle.cards.proofs.Leading as leading
use Rattle.cards.proofs.Leading.{Leads, before}

module _ (d : Device) (a : ℕ) (xs : List ℕ) (known : unknown_device d ≡ false) (inside : a < size_of d.part) (free : block_of d.part a ≡ 0 → ⊥)
    (sized : length xs ≡ size_of d.part) where
  abbrev world : State → World
  world s = leading.world d a xs known free sized s

  up : Up d normal
  up = leading.up d a xs known free sized

  ready : Ready d normal (block_of d.part a)
  ready = leading.ready d a xs known free sized

  -- a cycle that does nothing to the array
  step : (s t : State) (b : Bus) (r : Reply) → b.residue ≡ [] → decide_of d s b.cycle (size_of d.part) 0 ≡ decided_as r t Nothing
      → (stepped d (world s) (record { cycle = b.cycle; residue = [] }) ≡ world t) × (seen_on d (world s) (record { cycle = b.cycle; residue = [] }) ≡ seen_of r xs)
  step s t b r z q = leading.step d a xs known free sized s t b.cycle r Nothing q refl

  -- the erase is counted where it starts
  abbrev worn_once : State
  worn_once = erased_from true (block_of d.part a) fresh_state

  abbrev holding : ℕ → ℕ → State
  holding n l = st worn_once Status 0 (Suspending n) l a

  abbrev done : ℕ → World
  done l = world (st worn_once Status 0xC0 Suspended l a)

  polls : (m l : ℕ) → suc m ≤ d.suspend → 0 < l → l ≤ d.erase
      → Leads d (world (holding (suc m) l)) (replicate {A = Bus} (suc m) (read normal a)) (replicate {A = Seen} m (Data 0) ++ (Data 0xC0 ∷ [])) (done l)
  polls zero l h z t =
      before d (world (holding 1 l)) (done l) (done l) (read normal a) [] (Data 0xC0) []
      (step (holding 1 l) (st worn_once Status 0xC0 Suspended l a) (read normal a) (Gives 0xC0) refl
      (held d normal up worn_once (block_of d.part a) ready l a a (omega (arith, h)) z t inside inside))
      (refl, refl)
  polls (suc m) l h z t =
      before d (world (holding (suc (suc m)) l)) (world (holding (suc m) l)) (done l) (read normal a)
      (replicate {A = Bus} (suc m) (read normal a)) (Data 0) (replicate {A = Seen} m (Data 0) ++ (Data 0xC0 ∷ []))
      (step (holding (suc (suc m)) l) (holding (suc m) l) (read normal a) (Gives 0) refl
      (subst (λ (j : ℕ). decide_of d (holding j l) (read normal a).cycle (size_of d.part) 0 ≡ decided_as (Gives 0) (holding (suc m) l) Nothing) (add-one (suc m))
      (holds_on d normal up worn_once (block_of d.part a) ready (suc m) l a a (omega arith) (omega (arith, h)) z t inside inside)))
      (polls m l (omega (arith, h)) z t)

  whole : (e m : ℕ) → d.erase ≡ e + 2 → d.suspend ≡ suc m
      → Leads d (fresh xs) (cycles7 m a) (NoData ∷ NoData ∷ NoData ∷ (replicate {A = Seen} m (Data 0) ++ (Data 0xC0 ∷ []))) (done (e + 1))
  whole e m p q =
      let asked : State = st fresh_state Status 128 EraseAwaited 0 0 in
      let running : State = st worn_once Status 0 Erasing (e + 1 + 1) a in
      let rest = replicate {A = Bus} (suc m) (read normal a) in
      let shown = replicate {A = Seen} m (Data 0) ++ (Data 0xC0 ∷ []) in
      before d (fresh xs) (world asked) (done (e + 1)) (write normal a 0x20) (write normal a 0xD0 ∷ write normal a 0xB0 ∷ rest) NoData (NoData ∷ NoData ∷ shown)
      (step fresh_state asked (write normal a 0x20) Quiet refl (asks_erase d normal up fresh_state Array 128 a refl inside))
      (before d (world asked) (world running) (done (e + 1)) (write normal a 0xD0) (write normal a 0xB0 ∷ rest) NoData (NoData ∷ shown)
      (step asked running (write normal a 0xD0) Quiet refl
      (confirms d normal up fresh_state (block_of d.part a) ready a inside refl
      ∙ ap (λ (j : ℕ). decided_as Quiet (st worn_once Status 0 Erasing j a) Nothing) (p ∙ (let z : e + 2 ≡ e + 1 + 1 = omega arith in z))))
      (before d (world running) (world (holding (suc m) (e + 1))) (done (e + 1)) (write normal a 0xB0) rest NoData shown
      (step running (holding (suc m) (e + 1)) (write normal a 0xB0) Quiet refl
      (suspends d normal up worn_once (block_of d.part a) ready (e + 1) a a (omega arith) (omega (arith, p)) inside inside
      ∙ ap (λ (j : ℕ). decided_as Quiet (holding j (e + 1)) Nothing) q))
      (polls m (e + 1) (omega (arith, q)) (omega arith) (omega (arith, p)))))

pub seven : Card7
seven d e m a xs known p q inside free sized = whole d a xs known inside free sized e m p q
