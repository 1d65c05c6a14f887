-- One cycle on lent bytes, by rules: which bytes it leaves as they were, and where it only clears bits.
use mathlib.Core.Path.{◌≡◌, refl, sym, ap, ap₂, subst, ◌∙◌}
use mathlib.Core.Bool.{Bool, true, false}
use mathlib.Core.List.{List}
use Prim.Native.Nat.{ℕ}
use lib.ListN.{length, get_or}
use lib.Bits.{bit_and, and_self}
use Rattle.common.specs.Lists.{Bytes}
use Rattle.units.specs.Units.{units, lent, back, torn}
use Rattle.units.proofs.Widths.{lent_even, units_back, back_units}
use Rattle.device.specs.declared.Device.{Device}
use Rattle.model_types.specs.declared.Effect.{Effect}
use Rattle.model_types.specs.declared.Effect.TheVariants.{Nothing}
use Rattle.model_rules.specs.Cycles.{decide_of}
use Rattle.model.specs.Arrays.{array_of, is_refusal, array_after}
use Rattle.model.proofs.Reach.{within}
use Rattle.model.proofs.Borders.{sized_whole, done_sized, kept, done}
use Rattle.model_history.specs.History.{Bus, World}
use Rattle.model_touch.specs.Touch.{by_rules, after_cycle, effect_on, is_on, byte_in}
use Rattle.model_touch.proofs.Pieces.{unit_at, piece, piece_at, unit_kept, erases, unit_clears, piece_clears}

-- bytes that are those of their units, where they are a whole number of them
abbrev pub Whole : Bool → List ℕ → Type 0
Whole w xs = torn w (length xs) ≡ false → back w (units w xs) ≡ xs

pub bytes_whole : (w : Bool) (xs : List ℕ) → Bytes xs → Whole w xs
bytes_whole w xs b t = back_units w xs t b

module _ (d : Device) (v : World) (b : Bus) where
  abbrev w : Bool
  w = d.part.word

  abbrev us : List ℕ
  us = lent w v.bytes

  abbrev ts : List ℕ
  ts = units w b.residue

  abbrev refuses : Bool
  refuses = is_refusal (decide_of d v.state b.cycle (length us) (length ts)).reply

  -- the units that the effect leaves
  abbrev os : List ℕ
  os = array_of (effect_on d v b) d.part ts us

  abbrev ys : List ℕ
  ys = (after_cycle by_rules d v b).bytes

  refused : refuses ≡ true → ys ≡ v.bytes
  refused r = kept d v.state b.cycle v.bytes b.residue r

  is : refuses ≡ false → ys ≡ back w os
  unfolding array_after
  is r = done d v.state b.cycle v.bytes b.residue r

  was : Whole w v.bytes → refuses ≡ false → back w us ≡ v.bytes
  was k r =
      let even : torn w (length v.bytes) ≡ false = sized_whole d v.bytes (done_sized d v.state b.cycle (length us) (length ts) r) in
      ap (back w) (lent_even w v.bytes even) ∙ k even

  pub stays_whole : Whole w v.bytes → Whole w ys
  stays_whole k = go refuses refl
    where
      go : (t : Bool) → refuses ≡ t → Whole w ys
      go true r = subst (Whole w) (sym (refused r)) k
      go false r = subst (Whole w) (sym (is r)) (λ t. ap (back w) (units_back w os))

  -- a byte that the effect is not on stays
  pub byte_kept : Whole w v.bytes → (x : ℕ) → is_on d.part (effect_on d v b) x ≡ false → byte_in (after_cycle by_rules d v b) x ≡ byte_in v x
  byte_kept k x o = go refuses refl
    where
      go : (t : Bool) → refuses ≡ t → get_or ys x 0 ≡ byte_in v x
      go true r = ap (λ (zs : List ℕ). get_or zs x 0) (refused r)
      go false r =
          ap (λ (zs : List ℕ). get_or zs x 0) (is r) ∙ piece_at w os x
          ∙ ap (piece w x) (unit_kept (effect_on d v b) d.part ts us x (within d v.state b.cycle (length us) (length ts)) o)
          ∙ sym (piece_at w us x) ∙ ap (λ (zs : List ℕ). get_or zs x 0) (was k r)

  -- an effect that is no erase only clears bits
  pub byte_clears : Whole w v.bytes → erases (effect_on d v b) ≡ false → (x : ℕ) → bit_and (byte_in v x) (byte_in (after_cycle by_rules d v b) x) ≡ byte_in (after_cycle by_rules d v b) x
  byte_clears k h x = go refuses refl
    where
      pieces : bit_and (piece w x (get_or us (unit_at w x) 0)) (piece w x (get_or os (unit_at w x) 0)) ≡ piece w x (get_or os (unit_at w x) 0)
      pieces = piece_clears w x (get_or us (unit_at w x) 0) (get_or os (unit_at w x) 0) (unit_clears (effect_on d v b) d.part ts us (unit_at w x) h)

      go : (t : Bool) → refuses ≡ t → bit_and (byte_in v x) (get_or ys x 0) ≡ get_or ys x 0
      go true r = rw (refused r) (and_self (byte_in v x))
      go false r =
          let p : byte_in v x ≡ piece w x (get_or us (unit_at w x) 0) = sym (ap (λ (zs : List ℕ). get_or zs x 0) (was k r)) ∙ piece_at w us x in
          let q : get_or ys x 0 ≡ piece w x (get_or os (unit_at w x) 0) = ap (λ (zs : List ℕ). get_or zs x 0) (is r) ∙ piece_at w os x in
          ap₂ (λ (m n : ℕ). bit_and m n) p q ∙ pieces ∙ sym q

  -- no effect leaves all bytes
  pub all_kept : Whole w v.bytes → effect_on d v b ≡ Nothing → ys ≡ v.bytes
  all_kept k e = go refuses refl
    where
      go : (t : Bool) → refuses ≡ t → ys ≡ v.bytes
      go true r = refused r
      go false r = is r ∙ ap (λ (x : Effect). back w (array_of x d.part ts us)) e ∙ was k r
