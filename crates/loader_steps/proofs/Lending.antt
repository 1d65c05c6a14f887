-- Lent bytes that a start or a step takes are whole units, and its promises speak of them.
use mathlib.Core.Path.{◌≡◌, sym, ap, ap₂, ◌∙◌, subst}
use mathlib.Core.Bool.{Bool, false, not}
use mathlib.Core.List.{List}
use Prim.Native.Nat.{ℕ, ◌<◌}
use lib.ListN.{length}
use lib.Dec.{eqb}
use borrow.Author.Tests.{eqb-true, eq-eqb, ne_eqb, not-false}
use Rattle.common.specs.Lists.{Bytes}
use Rattle.common.proofs.Choice.{if_true, if_false, or_left, or_right}
use Rattle.device.specs.declared.Part.{Part}
use Rattle.device.specs.Parts.{length_of}
use Rattle.units.specs.Units.{units, back, torn, lent, lent_in}
use Rattle.units.proofs.Widths.{lent_length, lent_is, lent_whole, back_units}
use Rattle.loader.specs.declared.Loader.{Loader}
use Rattle.loader.specs.declared.Response.{Response}
use Rattle.loader_moves.specs.Moves.{next_of}
use Rattle.loader_stores.specs.Stores.{store_of}
use Rattle.loader_steps.specs.Front.{no_block, wrong_lengths, step_number, response_at, refused_by, step_response, scratch_after, scratch_left}
use Rattle.loader_steps.proofs.StartAndStep.{taken, some_block, kept_next, step_on}

-- lengths that are not wrong are the block's
pub both_lengths : (part : Part) (k x y : ℕ) → wrong_lengths part k x y ≡ false → (x ≡ length_of part k) × (y ≡ length_of part k)
unfolding wrong_lengths
both_lengths part k x y e =
    let a = eqb x (length_of part k) in
    let b = eqb y (length_of part k) in
    (eqb-true x _ (not-false a (or_left (not a) (not b) e)), eqb-true y _ (not-false b (or_right (not a) (not b) e)))

-- .. and a block that there is has some
pub some_lent : (part : Part) (k x y : ℕ) → no_block part k ≡ false → wrong_lengths part k x y ≡ false → (0 < x) × (0 < y)
some_lent part k x y n e =
    let b = both_lengths part k x y e in
    let h = some_block part k n in
    (subst (λ (j : ℕ). 0 < j) (sym b.0) h, subst (λ (j : ℕ). 0 < j) (sym b.1) h)

module _ (l : Loader) (xs ys : List ℕ) where
  abbrev w : Bool
  w = l.part.word

  abbrev number : ℕ
  number = step_number l (length (lent w xs)) (length (lent w ys))

  -- the number as the code finds it
  pub step_lent : (n x y : ℕ) → n ≡ step_number l x y → x ≡ lent_in w (length xs) → y ≡ lent_in w (length ys) → n ≡ number
  step_lent n x y e p q = e ∙ ap₂ (λ (i j : ℕ). step_number l i j) (p ∙ sym (lent_length w xs)) (q ∙ sym (lent_length w ys))

  pub step_some : number ≡ 0 → (0 < length (lent w xs)) × (0 < length (lent w ys))
  step_some e = let t = taken l (length (lent w xs)) (length (lent w ys)) e in some_lent l.part l.block _ _ t.block t.lengths

  -- a step that is taken: what it gives, by the units
  pub step_gives : (v : ℕ) (m : Loader) (g : Response) → number ≡ 0 → m ≡ next_of l v (units w xs) (store_of l v (units w xs) (units w ys))
      → g ≡ response_at m (units m.part.word xs) → g ≡ step_response l v (lent w xs) (lent w ys)
  step_gives v m g e p q =
      let s = step_some e in
      let a = lent_is w xs s.0 in
      let b = lent_is w ys s.1 in
      let on : List ℕ → List ℕ → Loader = λ us vs. next_of l v us (store_of l v us vs) in
      let same : (on (units w xs) (units w ys)).part.word ≡ w = ap (λ (r : Loader). r.part.word) (kept_next l (units w xs) l.stage v (store_of l v (units w xs) (units w ys))).same in
      q ∙ ap (λ (r : Loader). response_at r (units r.part.word xs)) p ∙ ap (λ (t : Bool). response_at (on (units w xs) (units w ys)) (units t xs)) same
      ∙ ap₂ (λ (us vs : List ℕ). response_at (on us vs) us) (sym a) (sym b) ∙ sym (step_on l v (lent w xs) (lent w ys) e).0

  -- .. and what it leaves in scratch
  pub step_leaves : (v : ℕ) (zs : List ℕ) → number ≡ 0 → length zs ≡ length ys → Bytes zs → units w zs ≡ store_of l v (units w xs) (units w ys) → zs ≡ scratch_left l v xs ys
  unfolding scratch_left
  step_leaves v zs e n b f =
      let s = step_some e in
      let whole : torn w (length zs) ≡ false = ap (λ (k : ℕ). torn w k) n ∙ lent_whole w ys s.1 in
      sym (back_units w zs whole b) ∙ ap (λ (us : List ℕ). back w us) (f ∙ ap₂ (λ (us vs : List ℕ). store_of l v us vs) (sym (lent_is w xs s.0)) (sym (lent_is w ys s.1)) ∙ sym (step_on l v (lent w xs) (lent w ys) e).1)
      ∙ sym (if_true (eqb number 0) (back w (scratch_after l v (lent w xs) (lent w ys))) ys (eq-eqb number 0 e))

  -- a step that is refused
  pub step_bars : (v n : ℕ) (g : Response) → n ≡ number → (n ≡ 0 → ⊥) → g ≡ refused_by n l → g ≡ step_response l v (lent w xs) (lent w ys)
  unfolding step_response
  step_bars v n g e z q =
      q ∙ ap (λ (m : ℕ). refused_by m l) e
      ∙ sym (if_false (eqb number 0) (response_at (next_of l v (lent w xs) (store_of l v (lent w xs) (lent w ys))) (lent w xs)) (refused_by number l) (ne_eqb number 0 (λ o. z (e ∙ o))))

  pub step_keeps : (v n : ℕ) → n ≡ number → (n ≡ 0 → ⊥) → ys ≡ scratch_left l v xs ys
  unfolding scratch_left
  step_keeps v n e z = sym (if_false (eqb number 0) (back w (scratch_after l v (lent w xs) (lent w ys))) ys (ne_eqb number 0 (λ o. z (e ∙ o))))
