-- What a step with the lists does not look at: in byte mode the high byte of the data, and in a status at either width.
use mathlib.Core.Path.{◌≡◌, refl, ap, ◌∙◌}
use mathlib.Core.Bool.{Bool, true, false}
use mathlib.Core.List.{List, [], ◌++◌}
use Prim.Native.Nat.{ℕ, ◌%◌}
use native.Mathlib.Omega.{arith}
use lib.ListN.{length, set}
use lib.Dec.{eqb}
use Rattle.std.specs.Prelude.{if◌then◌else◌}
use Rattle.units.specs.Units.{units, spare, back, lent, carried}
use Rattle.loader.specs.declared.Loader.{Loader}
use Rattle.loader_moves.specs.Moves.{next_of}
use Rattle.loader_stores.specs.Stores.{store_of}
use Rattle.loader_steps.proofs.Unread.{next_unread, store_unread}
use Rattle.loader_held.specs.declared.Step.{Step}
use Rattle.loader_held.specs.declared.Step.TheVariants.{Usual, Halting, Looking, Settling, ArrayAsking, Fetching, Resuming}
use Rattle.loader_held.specs.declared.Hold.{Hold}
use Rattle.loader_held.specs.declared.Pair.{Pair}
use Rattle.loader_held.specs.Holds.{pair_of, moved_on, settled_by, held_next, held_scratch, held_room}
use Rattle.loader_held_steps.specs.HeldFront.{step_held_number, held_response, held_refused, step_held_response, held_scratch_left, held_room_left}

again : (w : Bool) (v : ℕ) → carried w (carried w v) ≡ carried w v
again true v = refl
again false v = omega arith

low : (w : Bool) (v : ℕ) → carried w v % 256 ≡ v % 256
low true v = refl
low false v = omega arith

module _ (l : Loader) (h : Hold) (v k : ℕ) (w sc ps : List ℕ) where
  abbrev u : ℕ
  u = carried l.part.word v

  moved_unread : (step : Step) → held_next step l h u k w sc ps ≡ held_next step l h v k w sc ps
  moved_unread Usual =
      ap (λ (zs : List ℕ). moved_on (next_of l u w zs) h.number ps) (store_unread l v w sc l.stage)
      ∙ ap (λ (r : Loader). moved_on r h.number ps) (next_unread l v w (store_of l v w sc) l.stage)
  moved_unread Halting = refl
  moved_unread Looking = refl
  moved_unread Settling = ap (λ (b : ℕ). settled_by l h b) (low l.part.word v)
  moved_unread ArrayAsking = refl
  moved_unread Fetching = refl
  moved_unread Resuming = refl

  scratch_unread : (step : Step) → held_scratch step l h u k w sc ≡ held_scratch step l h v k w sc
  scratch_unread Usual = store_unread l v w sc l.stage
  scratch_unread Halting = refl
  scratch_unread Looking = refl
  scratch_unread Settling = refl
  scratch_unread ArrayAsking = refl
  scratch_unread Fetching = refl
  scratch_unread Resuming = refl

room_unread : (step : Step) (word : Bool) (h : Hold) (v : ℕ) (us : List ℕ) → held_room step word h (carried word v) us ≡ held_room step word h v us
room_unread Usual word h v us = refl
room_unread Halting word h v us = refl
room_unread Looking word h v us = refl
room_unread Settling word h v us = refl
room_unread ArrayAsking word h v us = refl
room_unread Fetching word h v us = ap (λ (x : ℕ). set us h.place x) (again word v)
room_unread Resuming word h v us = refl

-- a step gives and leaves what it would with the carried bits alone
pub step_unread : (l : Loader) (h : Hold) (v : ℕ) (w sc ps bs : List ℕ) (room : ℕ) → step_held_response l h (carried l.part.word v) w sc ps bs room ≡ step_held_response l h v w sc ps bs room
unfolding step_held_response
step_unread l h v w sc ps bs room =
    let n = step_held_number l h (length w) (length sc) bs room in
    ap (λ (q : Pair). if eqb n 0 then held_response q w bs else held_refused n (pair_of l h)) (moved_unread l h v (length bs) w sc ps h.step)

pub bytes_unread : (l : Loader) (h : Hold) (v : ℕ) (wanted scratch bs room : List ℕ)
    → (held_scratch_left l h (carried l.part.word v) wanted scratch bs (length room) ≡ held_scratch_left l h v wanted scratch bs (length room))
    × (held_room_left l h (carried l.part.word v) wanted scratch bs room ≡ held_room_left l h v wanted scratch bs room)
unfolding held_scratch_left held_room_left
bytes_unread l h v wanted scratch bs room =
    let o = l.part.word in
    let n = step_held_number l h (length (lent o wanted)) (length (lent o scratch)) bs (length room) in (
      ap (λ (zs : List ℕ). if eqb n 0 then back o zs else scratch) (scratch_unread l h v (length bs) (lent o wanted) (lent o scratch) [] h.step),
      ap (λ (zs : List ℕ). if eqb n 0 then back o zs ++ spare o room else room) (room_unread h.step o h v (units o room)),
    )
