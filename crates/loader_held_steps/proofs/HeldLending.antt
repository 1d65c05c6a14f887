-- Lent bytes that a start or a step with the lists takes are whole units, and its promises speak of them.
use mathlib.Core.Path.{◌≡◌, refl, sym, ap, ap₂, ◌∙◌}
use mathlib.Core.Bool.{Bool, false}
use mathlib.Core.List.{List, ◌++◌}
use Prim.Native.Nat.{ℕ, ◌<◌}
use lib.ListN.{length}
use lib.Dec.{eqb}
use borrow.Author.Tests.{eq-eqb, ne_eqb}
use Rattle.common.specs.Lists.{Bytes}
use Rattle.common.proofs.Choice.{if_true, if_false}
use Rattle.device.specs.declared.Part.{Part}
use Rattle.model_types.specs.declared.Pins.{Pins}
use Rattle.units.specs.Units.{units, spare, back, torn, lent, lent_in}
use Rattle.units.proofs.Widths.{lent_length, lent_is, lent_whole, back_units, all_bytes}
use Rattle.loader.specs.declared.Loader.{Loader}
use Rattle.loader.specs.declared.Stage.TheVariants.{Clearing, Ended}
use Rattle.loader_steps.specs.Front.{record_at}
use Rattle.loader_steps.proofs.StartAndStep.{first_taken}
use Rattle.loader_steps.proofs.Lending.{step_some}
use Rattle.loader_held.specs.declared.Hold.{Hold}
use Rattle.loader_held.specs.declared.Pair.{Pair}
use Rattle.loader_held.specs.Holds.{pair_of, held_scratch, held_room}
use Rattle.loader_held.proofs.HeldKept.{held_kept}
use Rattle.loader_held_steps.specs.declared.HeldResponse.{HeldResponse}
use Rattle.loader_held_steps.specs.HeldFront.{start_held_number, step_held_number, held_response, held_refused, beginning, start_held_response, held_move, step_held_response, held_scratch_left, held_room_left}
use Rattle.loader_held_steps.proofs.Passed.{start_passed, step_passed}

-- a start
module _ (verify : Bool) (part : Part) (p : Pins) (k : ℕ) (xs ys bs : List ℕ) (room : ℕ) where
  abbrev u : Bool
  u = part.word

  abbrev first : ℕ
  first = start_held_number part p k (length (lent u xs)) (length (lent u ys)) bs room

  -- the number as the code finds it
  pub start_lent : (n x y : ℕ) → n ≡ start_held_number part p k x y bs room → x ≡ lent_in u (length xs) → y ≡ lent_in u (length ys) → n ≡ first
  start_lent n x y e a b = e ∙ ap₂ (λ (i j : ℕ). start_held_number part p k i j bs room) (a ∙ sym (lent_length u xs)) (b ∙ sym (lent_length u ys))

  pub start_gives : (q : Pair) (g : HeldResponse) → first ≡ 0 → q ≡ beginning part p k Clearing verify → g ≡ held_response q (units q.loader.part.word xs) bs
      → g ≡ start_held_response verify part p k (lent u xs) (lent u ys) bs room
  unfolding start_held_response
  start_gives q g z a b =
      let o = (start_passed part p k (length (lent u xs)) (length (lent u ys)) bs room z).0 in
      let s = step_some (record_at part p k Clearing verify) xs ys (first_taken Clearing verify part p k (length (lent u xs)) (length (lent u ys)) o) in
      b ∙ ap (λ (r : Pair). held_response r (units r.loader.part.word xs) bs) a
      ∙ ap (λ (us : List ℕ). held_response (beginning part p k Clearing verify) us bs) (sym (lent_is u xs s.0))
      ∙ sym (if_true (eqb first 0) (held_response (beginning part p k Clearing verify) (lent u xs) bs) (held_refused first (beginning part p k (Ended first) verify)) (eq-eqb first 0 z))

  pub start_bars : (n : ℕ) (q : Pair) (g : HeldResponse) → n ≡ first → (n ≡ 0 → ⊥) → q ≡ beginning part p k (Ended n) verify → g ≡ held_refused n q
      → g ≡ start_held_response verify part p k (lent u xs) (lent u ys) bs room
  unfolding start_held_response
  start_bars n q g e z a b =
      b ∙ ap (λ (r : Pair). held_refused n r) a ∙ ap (λ (m : ℕ). held_refused m (beginning part p k (Ended m) verify)) e
      ∙ sym (if_false (eqb first 0) (held_response (beginning part p k Clearing verify) (lent u xs) bs) (held_refused first (beginning part p k (Ended first) verify)) (ne_eqb first 0 (λ o. z (e ∙ o))))

-- a step
module _ (l : Loader) (h : Hold) (v : ℕ) (xs ys ps bs : List ℕ) (room : ℕ) where
  abbrev w : Bool
  w = l.part.word

  abbrev number : ℕ
  number = step_held_number l h (length (lent w xs)) (length (lent w ys)) bs room

  pub step_lent : (n x y : ℕ) → n ≡ step_held_number l h x y bs room → x ≡ lent_in w (length xs) → y ≡ lent_in w (length ys) → n ≡ number
  step_lent n x y e a b = e ∙ ap₂ (λ (i j : ℕ). step_held_number l h i j bs room) (a ∙ sym (lent_length w xs)) (b ∙ sym (lent_length w ys))

  some : number ≡ 0 → (0 < length (lent w xs)) × (0 < length (lent w ys))
  some z = step_some l xs ys (step_passed l h (length (lent w xs)) (length (lent w ys)) bs room z).old

  -- a step that is taken: what it gives, by the units
  pub step_gives : (m : Pair) (g : HeldResponse) → number ≡ 0 → m ≡ held_move l h v (units w xs) (units w ys) ps bs
      → g ≡ held_response m (units m.loader.part.word xs) bs → g ≡ step_held_response l h v (lent w xs) (lent w ys) ps bs room
  unfolding step_held_response
  step_gives m g z a b =
      let s = some z in
      let on : List ℕ → List ℕ → Pair = λ us vs. held_move l h v us vs ps bs in
      let same : (on (units w xs) (units w ys)).loader.part.word ≡ w =
      ap (λ (r : Loader). r.part.word) (held_kept l h (length bs) (units w xs) (units w ys) ps h.step v).same in
      b ∙ ap (λ (r : Pair). held_response r (units r.loader.part.word xs) bs) a ∙ ap (λ (t : Bool). held_response (on (units w xs) (units w ys)) (units t xs) bs) same
      ∙ ap₂ (λ (us vs : List ℕ). held_response (on us vs) us bs) (sym (lent_is w xs s.0)) (sym (lent_is w ys s.1))
      ∙ sym (if_true (eqb number 0) (held_response (on (lent w xs) (lent w ys)) (lent w xs) bs) (held_refused number (pair_of l h)) (eq-eqb number 0 z))

  -- .. what it leaves in scratch
  abbrev stored : List ℕ → List ℕ → List ℕ
  stored us vs = held_scratch h.step l h v (length bs) us vs

  pub step_leaves : (zs : List ℕ) → number ≡ 0 → length zs ≡ length ys → Bytes zs → units w zs ≡ stored (units w xs) (units w ys) → zs ≡ held_scratch_left l h v xs ys bs room
  unfolding held_scratch_left
  step_leaves zs z n b f =
      let s = some z in
      let whole : torn w (length zs) ≡ false = ap (λ (k : ℕ). torn w k) n ∙ lent_whole w ys s.1 in
      sym (back_units w zs whole b) ∙ ap (λ (us : List ℕ). back w us) (f ∙ ap₂ stored (sym (lent_is w xs s.0)) (sym (lent_is w ys s.1)))
      ∙ sym (if_true (eqb number 0) (back w (stored (lent w xs) (lent w ys))) ys (eq-eqb number 0 z))

  -- a step that is refused
  pub step_bars : (n : ℕ) (g : HeldResponse) → n ≡ number → (n ≡ 0 → ⊥) → g ≡ held_refused n (pair_of l h) → g ≡ step_held_response l h v (lent w xs) (lent w ys) ps bs room
  unfolding step_held_response
  step_bars n g e z q =
      q ∙ ap (λ (m : ℕ). held_refused m (pair_of l h)) e
      ∙ sym (if_false (eqb number 0) (held_response (held_move l h v (lent w xs) (lent w ys) ps bs) (lent w xs) bs) (held_refused number (pair_of l h)) (ne_eqb number 0 (λ o. z (e ∙ o))))

  pub step_keeps : (n : ℕ) → n ≡ number → (n ≡ 0 → ⊥) → ys ≡ held_scratch_left l h v xs ys bs room
  unfolding held_scratch_left
  step_keeps n e z = sym (if_false (eqb number 0) (back w (stored (lent w xs) (lent w ys))) ys (ne_eqb number 0 (λ o. z (e ∙ o))))

-- .. and in the room
module _ (l : Loader) (h : Hold) (v : ℕ) (xs ys bs rs : List ℕ) where
  abbrev word : Bool
  word = l.part.word

  abbrev judged : ℕ
  judged = step_held_number l h (length (lent word xs)) (length (lent word ys)) bs (length rs)

  abbrev filled : List ℕ
  filled = held_room h.step word h v (units word rs)

  pub room_leaves : (zs : List ℕ) → judged ≡ 0 → Bytes zs → units word zs ≡ filled → spare word zs ≡ spare word rs → zs ≡ held_room_left l h v xs ys bs rs
  unfolding held_room_left
  room_leaves zs z b f o =
      sym (all_bytes word zs b) ∙ ap₂ (λ (us t : List ℕ). back word us ++ t) f o
      ∙ sym (if_true (eqb judged 0) (back word filled ++ spare word rs) rs (eq-eqb judged 0 z))

  pub room_keeps : (n : ℕ) → n ≡ judged → (n ≡ 0 → ⊥) → rs ≡ held_room_left l h v xs ys bs rs
  unfolding held_room_left
  room_keeps n e z = sym (if_false (eqb judged 0) (back word filled ++ spare word rs) rs (ne_eqb judged 0 (λ o. z (e ∙ o))))
