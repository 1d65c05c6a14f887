-- A start told as the code asks: nothing bars it, and the second write asks for an operation.
use mathlib.Core.Path.{◌≡◌, refl, sym, ◌∙◌}
use mathlib.Core.Bool.{Bool, true, false}
use lib.Dec.{eqb}
use Rattle.std.specs.Prelude.{if◌then◌else◌}
use Rattle.common.proofs.Choice.{if_ap}
use Rattle.device.specs.declared.Part.{Part}
use Rattle.device.specs.Parts.{block_of}
use Rattle.model_types.specs.declared.Cycle.{Cycle}
use Rattle.model_types.specs.declared.Effect.TheVariants.{Nothing, Erase}
use Rattle.model_types.specs.declared.State.{State}
use Rattle.model_types.specs.declared.Phase.{Phase}
use Rattle.model_types.specs.declared.Phase.TheVariants.{Free, EraseAwaited, DataAwaited, Programming, Erasing, Suspending, Suspended}
use Rattle.model_commands.specs.Commands.{command_of}
use Rattle.model.specs.Begun.{asked_by, starts_of}
use Rattle.recording.specs.Recordings.{is_operation, starts}
use Rattle.recording.specs.Inner.{unbarred, asks}

itself : (b : Bool) → (if b then true else false) ≡ b
itself true = refl
itself false = refl

-- what is asked for is an operation exactly where the write asks
asked : (ph : Phase) (part : Part) (c : Cycle) → is_operation (asked_by ph part c) ≡ asks ph c
asked Free part c = refl
asked EraseAwaited part c = if_ap is_operation (eqb (command_of c) 0xD0) (Erase (block_of part c.address)) Nothing ∙ itself (eqb (command_of c) 0xD0)
asked DataAwaited part c = refl
asked (Programming b) part c = refl
asked Erasing part c = refl
asked (Suspending n) part c = refl
asked Suspended part c = refl

module _ (part : Part) (s : State) (c : Cycle) where
  pub starts_unbarred : unbarred part s c ≡ true → asks s.phase c ≡ starts part s c
  unfolding starts starts_of unbarred
  starts_unbarred e = simp (e, asked s.phase part c)

  pub starts_barred : unbarred part s c ≡ false → false ≡ starts part s c
  unfolding starts starts_of unbarred
  starts_barred e = simp e

  -- what is asked for first, and then what bars it
  pub starts_asked : asks s.phase c ≡ true → unbarred part s c ≡ starts part s c
  starts_asked e = go (unbarred part s c) refl
    where
      go : (b : Bool) → unbarred part s c ≡ b → b ≡ starts part s c
      go true u = sym e ∙ starts_unbarred u
      go false u = starts_barred u

  pub starts_unasked : asks s.phase c ≡ false → false ≡ starts part s c
  starts_unasked e = go (unbarred part s c) refl
    where
      go : (b : Bool) → unbarred part s c ≡ b → false ≡ starts part s c
      go true u = sym e ∙ starts_unbarred u
      go false u = starts_barred u
