-- An array read of a suspended device: 8 in the block that is suspended, the unit elsewhere.
use mathlib.Core.Path.{◌≡◌, refl, sym, ◌∙◌}
use mathlib.Core.Bool.{Bool, true, false}
use lib.ListN.{length, get_or}
use lib.Dec.{eqb}
use Rattle.std.specs.Prelude.{if◌then◌else◌}
use Rattle.common.proofs.Choice.{unlike}
use Rattle.device.specs.declared.Device.{Device}
use Rattle.device.specs.Parts.{block_of}
use Rattle.model_types.specs.declared.Kind.TheVariants.{Read}
use Rattle.model_types.specs.declared.Mode.TheVariants.{Array}
use Rattle.model_types.specs.declared.Phase.{Phase}
use Rattle.model_types.specs.declared.Phase.TheVariants.{Free, EraseAwaited, DataAwaited, Programming, Erasing, Suspending, Suspended}
use Rattle.model_types.specs.declared.Effect.TheVariants.{Nothing}
use Rattle.model_types.specs.declared.Reply.TheVariants.{GivesArray, Refuses}
use Rattle.model_levels.specs.Levels.{rp_low, vpp_low}
use Rattle.model_types.specs.Phases.{is_busy, is_suspended}
use Rattle.model_operation.specs.Settling.{settled_as}
use Rattle.model_rules.specs.Cycles.{decided_as, decide_of}
use Rattle.model_rules.specs.Inner.{in_suspended, decide_array}
use Rattle.model.specs.declared.Seen.TheVariants.{Data, Refused}
use Rattle.model.specs.Arrays.{seen_of}
use Rattle.model_history.specs.History.{Bus, World, stepped, seen_on}
use Rattle.model_sheet.specs.Sheet.{Judged}
use Rattle.model_sheet.proofs.SettledCases.{settle_held, when_read, leads, shows}

held_still : (ph : Phase) → is_suspended ph ≡ true → is_busy ph ≡ false
held_still Free e = refl
held_still EraseAwaited e = refl
held_still DataAwaited e = refl
held_still (Programming b) e = absurd (unlike (sym e))
held_still Erasing e = absurd (unlike (sym e))
held_still (Suspending n) e = absurd (unlike (sym e))
held_still Suspended e = refl

module _ (d : Device) (v : World) (b : Bus) (judged : Judged d v b) (held : is_suspended v.state.phase ≡ true) (mode : v.state.mode ≡ Array)
    (kind : b.cycle.kind ≡ Read) (up : rp_low b.cycle.pins ≡ false) (high : vpp_low d.part b.cycle.pins ≡ false) where
  abbrev inside : Bool
  inside = eqb (block_of d.part b.cycle.address) (block_of d.part v.state.address)

  read : decide_of d v.state b.cycle (length v.bytes) (length b.residue)
      ≡ decided_as (if inside then Refuses 8 else GivesArray b.cycle.address) v.state Nothing
  unfolding decide_array in_suspended
  read =
      when_read d v b judged up (settled_as v.state Nothing)
      (settle_held d.part v.state b.cycle.pins up high (held_still v.state.phase held)) Array mode kind
      ∙ go inside refl
    where
      go : (x : Bool) → inside ≡ x
          → decide_array d.part v.state b.cycle (settled_as v.state Nothing) ≡ decided_as (if inside then Refuses 8 else GivesArray b.cycle.address) v.state Nothing
      go true e = simp (held, e)
      go false e = simp (held, e)

  pub reads : (seen_on d v b ≡ (if inside then Refused 8 else Data (get_or v.bytes b.cycle.address 0))) × (stepped d v b ≡ v)
  reads = (
    shows d v b (if inside then Refuses 8 else GivesArray b.cycle.address) v.state Nothing read ∙ go inside,
    leads d v b (if inside then Refuses 8 else GivesArray b.cycle.address) v.state Nothing read,
  )
    where
      go : (x : Bool) → seen_of (if x then Refuses 8 else GivesArray b.cycle.address) v.bytes ≡ (if x then Refused 8 else Data (get_or v.bytes b.cycle.address 0))
      go true = refl
      go false = refl
