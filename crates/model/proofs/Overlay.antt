-- A block's units in the array.
use mathlib.Core.Path.{◌≡◌, ap, ◌∙◌}
use mathlib.Core.List.{List}
use Prim.Native.Nat.{ℕ, ◌+◌, ◌≤◌}
use lib.ListN.{length, take, replicate}
use Rattle.common.specs.Lists.{overlaid}
use Rattle.units.specs.Units.{top}
use Rattle.device.specs.declared.Part.{Part}
use Rattle.device.specs.Parts.{size_of, start_of, length_of}
use Rattle.device.proofs.Claims.{blocks_end_inside}
use Rattle.model_types.specs.Cells.{ones}
use Rattle.model.specs.Arrays.{erased, residual}

module _ (part : Part) (k : ℕ) (us : List ℕ) (a n : ℕ) (ea : a ≡ start_of part k) (en : n ≡ length_of part k) where
  -- the block ends inside the array
  pub inside : length us ≡ size_of part → a + n ≤ length us
  inside el = rw (ea, en, el) (blocks_end_inside part k)

  pub enough : (r : ℕ) → length_of part k ≤ r → n ≤ r
  enough r h = rw en h

  pub filled : (vs : List ℕ) → vs ≡ overlaid us a (replicate n (top part.word)) → vs ≡ erased part k us
  unfolding erased ones
  filled vs e = e ∙ ap (λ (m : ℕ). overlaid us a (replicate m (top part.word))) en ∙ ap (λ (m : ℕ). overlaid us m (replicate (length_of part k) (top part.word))) ea

  pub left_over : (rs vs : List ℕ) → vs ≡ overlaid us a (take n rs) → vs ≡ residual part k rs us
  unfolding residual
  left_over rs vs e = e ∙ ap (λ (m : ℕ). overlaid us a (take m rs)) en ∙ ap (λ (m : ℕ). overlaid us m (take (length_of part k) rs)) ea
