-- What the second engine's answer tells by its cases is what its cycle tells.
use mathlib.Core.Path.{◌≡◌, ap, ◌∙◌}
use mathlib.Core.List.{List}
use Prim.Native.Nat.{ℕ}
use lib.ListN.{length}
use Rattle.device.specs.declared.Device.{Device}
use Rattle.model_types.specs.declared.State.{State}
use Rattle.model_types.specs.declared.Cycle.{Cycle}
use Rattle.model.specs.declared.Answer.{Answer}
use Rattle.model.specs.Arrays.{seen_told}
use Rattle.model.proofs.Told.{reply_told_lem}
use Rattle.table_engine.specs.Engine.{table_decide, table_array, table_answer, table_told}

-- an answer's equation with what it tells, and with what is left
pub table_too : {r : Answer} {Left : Type 0} (d : Device) (s : State) (c : Cycle) (xs rs : List ℕ) → r ≡ table_answer d s c xs rs → Left
    → (r ≡ table_answer d s c xs rs) × ((seen_told r.seen ≡ table_told d s c xs rs) × Left)
unfolding table_answer table_told
table_too d s c xs rs e left =
    (e, (ap (λ (x : Answer). seen_told x.seen) e ∙ reply_told_lem (table_decide d s c (length xs) (length rs)).reply (table_array d s c xs rs), left))
