-- Start and step with the lists: their refusals exactly, and what a refusal leaves.
use mathlib.Core.Path.{◌≡◌, refl, sym, ap, ◌∙◌}
use mathlib.Core.Bool.{Bool, true, false}
use mathlib.Core.List.{List, ◌++◌}
use mathlib.Core.Logic.{◌↔◌}
use Prim.Native.Nat.{ℕ}
use lib.ListN.{length}
use lib.Dec.{eqb}
use borrow.Author.Tests.{eqb-true, eq-eqb, ne_eqb}
use Rattle.std.specs.Prelude.{if◌then◌else◌}
use Rattle.common.specs.Numbers.{Foremost, NoRow, given}
use Rattle.common.proofs.Choice.{if_ind, if_true, if_false, unlike}
use Rattle.common.proofs.Numbers.{given_foremost, foremost_given, given_no_row, no_row_given}
use Rattle.device.specs.declared.Part.{Part}
use Rattle.units.specs.Units.{units, spare, back, lent}
use Rattle.model_types.specs.declared.Pins.{Pins}
use Rattle.loader.specs.declared.Loader.{Loader}
use Rattle.loader.specs.declared.Stage.TheVariants.{Clearing, Ended}
use Rattle.loader.specs.declared.Saying.{Saying}
use Rattle.loader.specs.declared.Saying.TheVariants.{Refused}
use Rattle.loader.specs.Stages.{is_ended}
use Rattle.loader_steps.specs.Front.{says_refused}
use Rattle.loader_steps.proofs.StartAndStep.{refused_number}
use Rattle.loader_held.specs.declared.Hold.{Hold}
use Rattle.loader_held.specs.declared.Pair.{Pair}
use Rattle.loader_held.specs.Holds.{pair_of, held_scratch, held_room}
use Rattle.loader_held_steps.specs.declared.HeldResponse.{HeldResponse}
use Rattle.loader_held_steps.specs.HeldFront.{start_held_rows, start_held_number, step_held_rows, step_held_number, held_saying_in, held_response, held_refused, beginning, start_held_response, held_move, step_held_response, held_scratch_left, held_room_left}

-- the records' own answer is no refusal
free : (q : Pair) (w bs : List ℕ) → says_refused (held_response q w bs).saying ≡ false
free q w bs = if_ind (λ (t : Saying). says_refused t ≡ false) (is_ended q.loader.stage) _ _ (λ e. refl) (λ e. refl)

none : (q : Pair) (w bs : List ℕ) → refused_number (held_response q w bs).saying ≡ 0
none q w bs = if_ind (λ (t : Saying). refused_number t ≡ 0) (is_ended q.loader.stage) _ _ (λ e. refl) (λ e. refl)

-- an answer by a number: what is given where it is 0, the refusal with its records where it is not
module _ (n : ℕ) (q : Pair) (w bs : List ℕ) (r : Pair) where
  abbrev answer : HeldResponse
  answer = if eqb n 0 then held_response q w bs else held_refused n r

  number_told : refused_number answer.saying ≡ n
  number_told = if_ind (λ (g : HeldResponse). refused_number g.saying ≡ n) (eqb n 0) _ _ (λ e. none q w bs ∙ sym (eqb-true n 0 e)) (λ e. refl)

  bars : (n ≡ 0 → ⊥) → answer ≡ held_refused n r
  bars z = if_false (eqb n 0) (held_response q w bs) (held_refused n r) (ne_eqb n 0 z)

  pub answers : n ≡ 0 → answer ≡ held_response q w bs
  answers e = if_true (eqb n 0) (held_response q w bs) (held_refused n r) (eq-eqb n 0 e)

  unbarred : says_refused answer.saying ≡ false → n ≡ 0
  unbarred =
      if_ind (λ (g : HeldResponse). says_refused g.saying ≡ false → n ≡ 0) (eqb n 0) _ _ (λ e o. eqb-true n 0 e) (λ e o. absurd (unlike o))

  leaves : (m : ℕ) → answer.saying ≡ Refused m → (n ≡ m) × (answer.pair ≡ r) × (eqb n 0 ≡ false)
  leaves m o = (sym number_told ∙ ap refused_number o, both.0, both.1)
    where
      both : (answer.pair ≡ r) × (eqb n 0 ≡ false)
      both =
          if_ind (λ (g : HeldResponse). says_refused g.saying ≡ true → (g.pair ≡ r) × (eqb n 0 ≡ false)) (eqb n 0) _ _
          (λ e b. absurd (unlike (sym b ∙ free q w bs))) (λ e b. (refl, e)) (ap says_refused o)

module _ (verify : Bool) (part : Part) (p : Pins) (k : ℕ) (w sc bs : List ℕ) (room : ℕ) where
  abbrev first : ℕ
  first = start_held_number part p k (length w) (length sc) bs room

  abbrev begun : Pair
  begun = beginning part p k Clearing verify

  abbrev ended : Pair
  ended = beginning part p k (Ended first) verify

  -- refused by m exactly where m's row is the first that holds
  pub start_numbers : (m : ℕ) → (m ≡ 0 → ⊥) → ((start_held_response verify part p k w sc bs room).saying ≡ Refused m) ↔ Foremost (start_held_rows part p k (length w) (length sc) bs room) m
  unfolding start_held_response start_held_number
  start_numbers m z = (
    λ e. given_foremost (start_held_rows part p k (length w) (length sc) bs room) m z (sym (number_told first begun w bs ended) ∙ ap refused_number e),
    λ f. let o : given (start_held_rows part p k (length w) (length sc) bs room) ≡ m = foremost_given f in
        ap (λ (g : HeldResponse). g.saying) (bars first begun w bs ended (λ e. z (sym o ∙ e))) ∙ ap Refused o,
  )

  pub start_accepted : (says_refused (start_held_response verify part p k w sc bs room).saying ≡ false) ↔ NoRow (start_held_rows part p k (length w) (length sc) bs room)
  unfolding start_held_response start_held_number
  start_accepted = (
    λ e. given_no_row (start_held_rows part p k (length w) (length sc) bs room) refl (unbarred first begun w bs ended e),
    λ f. ap (λ (g : HeldResponse). says_refused g.saying) (answers first begun w bs ended (no_row_given f)) ∙ free begun w bs,
  )

  -- a refused start gives a record that has ended with the number
  pub start_refused : (m : ℕ) → (start_held_response verify part p k w sc bs room).saying ≡ Refused m → (start_held_response verify part p k w sc bs room).pair ≡ beginning part p k (Ended m) verify
  unfolding start_held_response
  start_refused m e =
      let h = leaves first begun w bs ended m e in
      h.1 ∙ ap (λ (n : ℕ). beginning part p k (Ended n) verify) h.0

  pub start_on : first ≡ 0 → start_held_response verify part p k w sc bs room ≡ held_response begun w bs
  unfolding start_held_response
  start_on e = answers first begun w bs ended e

module _ (l : Loader) (h : Hold) (v : ℕ) (w sc ps bs : List ℕ) (room : ℕ) where
  abbrev number : ℕ
  number = step_held_number l h (length w) (length sc) bs room

  abbrev moved : Pair
  moved = held_move l h v w sc ps bs

  pub step_numbers : (m : ℕ) → (m ≡ 0 → ⊥) → ((step_held_response l h v w sc ps bs room).saying ≡ Refused m) ↔ Foremost (step_held_rows l h (length w) (length sc) bs room) m
  unfolding step_held_response step_held_number
  step_numbers m z = (
    λ e. given_foremost (step_held_rows l h (length w) (length sc) bs room) m z (sym (number_told number moved w bs (pair_of l h)) ∙ ap refused_number e),
    λ f. let o : given (step_held_rows l h (length w) (length sc) bs room) ≡ m = foremost_given f in
        ap (λ (g : HeldResponse). g.saying) (bars number moved w bs (pair_of l h) (λ e. z (sym o ∙ e))) ∙ ap Refused o,
  )

  pub step_accepted : (says_refused (step_held_response l h v w sc ps bs room).saying ≡ false) ↔ NoRow (step_held_rows l h (length w) (length sc) bs room)
  unfolding step_held_response step_held_number
  step_accepted = (
    λ e. given_no_row (step_held_rows l h (length w) (length sc) bs room) refl (unbarred number moved w bs (pair_of l h) e),
    λ f. ap (λ (g : HeldResponse). says_refused g.saying) (answers number moved w bs (pair_of l h) (no_row_given f)) ∙ free moved w bs,
  )

  pub step_on : number ≡ 0 → step_held_response l h v w sc ps bs room ≡ held_response moved w bs
  unfolding step_held_response
  step_on e = answers number moved w bs (pair_of l h) e

  refused : (m : ℕ) → (step_held_response l h v w sc ps bs room).saying ≡ Refused m → ((step_held_response l h v w sc ps bs room).pair ≡ pair_of l h) × (eqb number 0 ≡ false)
  unfolding step_held_response
  refused m e = let o = leaves number moved w bs (pair_of l h) m e in (o.1, o.2)

-- a refused step leaves both records, scratch and the room, the lent bytes themselves
pub step_refused : (l : Loader) (h : Hold) (v : ℕ) (xs ys ps bs rs : List ℕ) (m : ℕ)
    → (step_held_response l h v (lent l.part.word xs) (lent l.part.word ys) ps bs (length rs)).saying ≡ Refused m
    → ((step_held_response l h v (lent l.part.word xs) (lent l.part.word ys) ps bs (length rs)).pair ≡ pair_of l h)
    × (held_scratch_left l h v xs ys bs (length rs) ≡ ys)
    × (held_room_left l h v xs ys bs rs ≡ rs)
unfolding held_scratch_left held_room_left
step_refused l h v xs ys ps bs rs m e =
    let u = l.part.word in
    let o = refused l h v (lent u xs) (lent u ys) ps bs (length rs) m e in
    let n = step_held_number l h (length (lent u xs)) (length (lent u ys)) bs (length rs) in (
      o.0,
      if_false (eqb n 0) (back u (held_scratch h.step l h v (length bs) (lent u xs) (lent u ys))) ys o.1,
      if_false (eqb n 0) (back u (held_room h.step u h v (units u rs)) ++ spare u rs) rs o.1,
    )
