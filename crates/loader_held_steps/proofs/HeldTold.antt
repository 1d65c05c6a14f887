-- What a saying tells by its cases is what its start, or its step, tells.
use mathlib.Core.Path.{◌≡◌, ap, ◌∙◌}
use mathlib.Core.Bool.{Bool}
use mathlib.Core.List.{List, []}
use Prim.Native.Nat.{ℕ}
use lib.ListN.{length}
use lib.Dec.{eqb}
use Rattle.std.specs.Prelude.{if◌then◌else◌}
use Rattle.common.proofs.Choice.{if_ap}
use Rattle.device.specs.declared.Part.{Part}
use Rattle.model_types.specs.declared.Pins.{Pins}
use Rattle.model_types.specs.declared.Cycle.{Cycle}
use Rattle.loader.specs.declared.Loader.{Loader}
use Rattle.loader.specs.declared.Stage.TheVariants.{Clearing, Ended}
use Rattle.loader.specs.declared.Saying.TheVariants.{Out, Over}
use Rattle.loader.specs.Stages.{is_ended, end_by}
use Rattle.loader_steps.specs.Front.{end_address, saying_told}
use Rattle.loader_held.specs.declared.Hold.{Hold}
use Rattle.loader_held.specs.declared.Pair.{Pair}
use Rattle.loader_held.specs.Holds.{pair_of, held_cycle}
use Rattle.loader_held_steps.specs.declared.HeldResponse.{HeldResponse}
use Rattle.loader_held_steps.specs.HeldFront.{start_held_number, step_held_number, held_response, held_told, held_refused, beginning, start_held_response, start_held_told, held_move, step_held_response, step_held_told}

abbrev told : HeldResponse → ℕ × List Cycle × List ℕ
told g = saying_told g.saying

pair_told : (q : Pair) (w bs : List ℕ) → told (held_response q w bs) ≡ held_told q w bs
pair_told q w bs =
    let l = q.loader in
    if_ap saying_told (is_ended l.stage) (Over (end_by l.stage) (end_address l (end_by l.stage))) (Out (held_cycle q.hold.step l q.hold w bs))

-- a number that lets the records through or not
by_number : (n : ℕ) (q bars : Pair) (w bs : List ℕ) → told (if eqb n 0 then held_response q w bs else held_refused n bars) ≡ (if eqb n 0 then held_told q w bs else (n, [], []))
by_number n q bars w bs =
    if_ap told (eqb n 0) (held_response q w bs) (held_refused n bars) ∙ ap (λ (z : ℕ × List Cycle × List ℕ). if eqb n 0 then z else (n, [], [])) (pair_told q w bs)

-- an answer's equation with what it tells
pub start_too : {r : HeldResponse} (verify : Bool) (part : Part) (p : Pins) (k : ℕ) (w sc bs : List ℕ) (room : ℕ) → r ≡ start_held_response verify part p k w sc bs room
    → (r ≡ start_held_response verify part p k w sc bs room) × (saying_told r.saying ≡ start_held_told verify part p k w sc bs room)
unfolding start_held_response start_held_told
start_too verify part p k w sc bs room e =
    let n = start_held_number part p k (length w) (length sc) bs room in
    (e, ap told e ∙ by_number n (beginning part p k Clearing verify) (beginning part p k (Ended n) verify) w bs)

-- .. and with what is left
pub step_too : {r : HeldResponse} {Left : Type 0} (l : Loader) (h : Hold) (v : ℕ) (w sc ps bs : List ℕ) (room : ℕ) → r ≡ step_held_response l h v w sc ps bs room → Left
    → (r ≡ step_held_response l h v w sc ps bs room) × ((saying_told r.saying ≡ step_held_told l h v w sc ps bs room) × Left)
unfolding step_held_response step_held_told
step_too l h v w sc ps bs room e left =
    (e, (ap told e ∙ by_number (step_held_number l h (length w) (length sc) bs room) (held_move l h v w sc ps bs) (pair_of l h) w bs, left))
