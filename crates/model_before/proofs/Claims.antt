-- On devices 1 to 4 the model is the one from before devices 5 to 8.
use mathlib.Core.Path.{◌≡◌, ap, ◌∙◌}
use mathlib.Core.Bool.{false}
use mathlib.Core.List.{List}
use Prim.Native.Nat.{ℕ, ◌<◌}
use native.Mathlib.Nat.{mod-eq_of_lt}
use Rattle.units.specs.Units.{units, lent}
use Rattle.device.specs.declared.Device.{Device}
use Rattle.model_types.specs.declared.State.{State}
use Rattle.model_types.specs.declared.Cycle.{Cycle}
use Rattle.model.specs.Arrays.{answer_of, bytes_after}
use Rattle.model.specs.Words.{narrow}
use Rattle.model.proofs.Borders.{byte_lent, byte_units, byte_mode_bytes}
use Rattle.model_before.specs.Before as before
use Rattle.model_before.proofs.SameAnswers.{leaves, array_same, answer_same}

-- eight bits of data are the cycle itself
narrow_same : (c : Cycle) → c.data < 256 → narrow c ≡ c
narrow_same c h = λ i. record { kind = c.kind; pins = c.pins; oe = c.oe; address = c.address; «data» = mod-eq_of_lt h i }

module _ (d : Device) (known : before.unknown_part d.part ≡ false) (byte : d.part.word ≡ false) where
  -- A cycle with eight bits of data, in any state, with any lent array and residue: the answer is the one from before ..
  pub answers_as_before : (s : State) (c : Cycle) (array residue : List ℕ) → c.data < 256
      → answer_of d s c (lent d.part.word array) (units d.part.word residue) ≡ before.answer_of d s c array residue
  answers_as_before s c array residue h =
      answer_same d (leaves d.part known byte) s c (lent d.part.word array) (units d.part.word residue)
      ∙ (λ i. before.answer_of d s (narrow_same c h i) (byte_lent d.part.word array byte i) (byte_units d.part.word residue byte i))

  -- .. and so are the lent bytes that it leaves.
  pub leaves_as_before : (s : State) (c : Cycle) (array residue : List ℕ) → c.data < 256 → bytes_after d s c array residue ≡ before.array_after d s c array residue
  leaves_as_before s c array residue h =
      byte_mode_bytes d s c array residue byte ∙ array_same d (leaves d.part known byte) s c array residue ∙ ap (λ (x : Cycle). before.array_after d s x array residue) (narrow_same c h)
