-- What a saying tells by its cases is what its start, or its step, tells.
use mathlib.Core.Path.{◌≡◌, ap, ◌∙◌}
use mathlib.Core.List.{List, []}
use Prim.Native.Nat.{ℕ}
use lib.ListN.{length}
use lib.Dec.{eqb}
use Rattle.std.specs.Prelude.{if◌then◌else◌}
use Rattle.common.proofs.Choice.{if_ap}
use Rattle.device.specs.declared.Part.{Part}
use Rattle.model_types.specs.declared.Pins.{Pins}
use Rattle.model_types.specs.declared.Cycle.{Cycle}
use Rattle.loader.specs.declared.Stage.TheVariants.{Ended}
use Rattle.loader.specs.declared.Loader.{Loader}
use Rattle.loader.specs.declared.Saying.TheVariants.{Out, Over}
use Rattle.loader.specs.declared.Response.{Response}
use Rattle.loader.specs.Stages.{is_ended, end_by, verifies}
use Rattle.loader_moves.specs.Moves.{next_of}
use Rattle.loader_steps.specs.Outs.{cycle_of}
use Rattle.loader_stores.specs.Stores.{store_of}
use Rattle.loader_steps.specs.Front.{start_number, step_number, record_at, end_address, response_at, refused_by, start_response, step_response, saying_told, record_told, start_told, step_told, record_of}
use Rattle.loader.specs.declared.Work.{Work}

abbrev told : Response → ℕ × List Cycle × List ℕ
told g = saying_told g.saying

record_told_lem : (l : Loader) (w : List ℕ) → told (response_at l w) ≡ record_told l w
record_told_lem l w = if_ap saying_told (is_ended l.stage) (Over (end_by l.stage) (end_address l (end_by l.stage))) (Out (cycle_of l w))

-- a number that lets the record through or not
by_number : (n : ℕ) (l bars : Loader) (w : List ℕ) → told (if eqb n 0 then response_at l w else refused_by n bars) ≡ (if eqb n 0 then record_told l w else (n, [], []))
by_number n l bars w =
    if_ap told (eqb n 0) (response_at l w) (refused_by n bars) ∙ ap (λ (z : ℕ × List Cycle × List ℕ). if eqb n 0 then z else (n, [], [])) (record_told_lem l w)

-- an answer's equation with what it tells
pub start_too : {r : Response} (work : Work) (part : Part) (p : Pins) (k : ℕ) (w sc : List ℕ) → r ≡ start_response work part p k w sc
    → (r ≡ start_response work part p k w sc) × (saying_told r.saying ≡ start_told work part p k w sc)
unfolding start_response start_told
start_too work part p k w sc e =
    let n = start_number part p k (length w) (length sc) in
    (e, ap told e ∙ by_number n (record_of work part p k) (record_at part p k (Ended n) (verifies work)) w)

-- .. and with what is left
pub step_too : {r : Response} {Left : Type 0} (l : Loader) (v : ℕ) (w sc : List ℕ) → r ≡ step_response l v w sc → Left
    → (r ≡ step_response l v w sc) × ((saying_told r.saying ≡ step_told l v w sc) × Left)
unfolding step_response step_told
step_too l v w sc e left =
    (e, (ap told e ∙ by_number (step_number l (length w) (length sc)) (next_of l v w (store_of l v w sc)) l w, left))
