-- Cycles of a card, one before the other: what the host sees of them, and where they lead.
use mathlib.Core.Path.{◌≡◌, refl, ap, ◌∙◌}
use mathlib.Core.Bool.{Bool, true, false}
use mathlib.Core.List.{List, [], ◌∷◌}
use Prim.Native.Nat.{ℕ}
use lib.ListN.{length}
use Rattle.device.specs.declared.Device.{Device}
use Rattle.device.specs.Parts.{is_large, unknown_device, size_of, block_of}
use Rattle.model_types.specs.declared.Effect.{Effect}
use Rattle.model_types.specs.declared.Reply.{Reply}
use Rattle.model_types.specs.declared.State.{State}
use Rattle.model_types.specs.declared.Cycle.{Cycle}
use Rattle.model_types.specs.declared.Decision.{Decision}
use Rattle.model_levels.specs.Levels.{at_twelve, at_five, bad_wp, vpp_low, vpp_high, bad_pins}
use Rattle.model_rules.specs.Cycles.{decide_of, decided_as}
use Rattle.model.specs.declared.Seen.{Seen}
use Rattle.model.specs.Arrays.{array_of, seen_of, array_after, answer_of}
use Rattle.model_history.specs.History.{Bus, World, stepped, world_after, seen_on, seen_in}
use Rattle.loader_run_claims.proofs.Answers.{Up, Ready}
use Rattle.cards.specs.Table.{normal}

supplied : (d : Device) → (bad_pins d.part normal ≡ false) × (vpp_low d.part normal ≡ false)
unfolding vpp_low at_twelve at_five vpp_high bad_wp bad_pins
supplied d = go (is_large d.part) refl
  where
    go : (t : Bool) → is_large d.part ≡ t → (bad_pins d.part normal ≡ false) × (vpp_low d.part normal ≡ false)
    go true e = (simp e, simp e)
    go false e = (simp e, simp e)

-- what the host sees of some cycles, and where they lead
abbrev pub Leads : Device → World → List Bus → List Seen → World → Type 0
Leads d v bs os u = (seen_in d v bs ≡ os) × (world_after d v bs ≡ u)

pub before : (d : Device) (v n u : World) (b : Bus) (bs : List Bus) (o : Seen) (os : List Seen) → (stepped d v b ≡ n) × (seen_on d v b ≡ o) → Leads d n bs os u → Leads d v (b ∷ bs) (o ∷ os) u
before d v n u b bs o os h l = (
  ap (λ (x : Seen). x ∷ seen_in d (stepped d v b) bs) h.1 ∙ ap (λ (y : World). o ∷ seen_in d y bs) h.0 ∙ ap (λ (ys : List Seen). o ∷ ys) l.0,
  ap (λ (y : World). world_after d y bs) h.0 ∙ l.1,
)

module _ (d : Device) (a : ℕ) (xs : List ℕ) (known : unknown_device d ≡ false) (free : block_of d.part a ≡ 0 → ⊥) (sized : length xs ≡ size_of d.part) where
  abbrev pub world : State → World
  world s = record { state = s; bytes = xs }

  pub up : Up d normal
  up = record { known = known; levels = (supplied d).0; up = refl }

  pub ready : Ready d normal (block_of d.part a)
  ready = record { base = up; high = (supplied d).1; unlock = λ e. absurd (free e) }

  -- one cycle, from what the device decides
  pub step : (s t : State) (c : Cycle) (r : Reply) (e : Effect) → decide_of d s c (size_of d.part) 0 ≡ decided_as r t e → array_of e d.part [] xs ≡ xs
      → (stepped d (world s) (record { cycle = c; residue = [] }) ≡ world t) × (seen_on d (world s) (record { cycle = c; residue = [] }) ≡ seen_of r xs)
  unfolding answer_of array_after
  step s t c r e q z =
      let h : decide_of d s c (length xs) 0 ≡ decided_as r t e = ap (λ (n : ℕ). decide_of d s c n 0) sized ∙ q in (
        ap (λ (x : Decision). record { state = x.state; bytes = array_of x.effect d.part [] xs }) h ∙ ap (λ (ys : List ℕ). record { state = t; bytes = ys }) z,
        ap (λ (x : Decision). seen_of x.reply (array_of x.effect d.part [] xs)) h ∙ ap (λ (ys : List ℕ). seen_of r ys) z,
      )
