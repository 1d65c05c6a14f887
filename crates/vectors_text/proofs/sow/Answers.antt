-- `vectors_text::sow` meets its contract.
use Rattle.std.proofs.Common.{◌≡◌, ℕ, ◌+◌, arith, List, ◌++◌, length, take, drop, length-take, min, refl}
use Rattle.vectors_text.specs.Text.{number_read, field_of}
use Rattle.vectors_text.specs.Patterns.{sown, pattern_of}
use Rattle.vectors_text.proofs.sow.Goals as goal

module _ (s row ys : List ℕ) (asked n from at first step : ℕ) where
  pub laid : n ≡ min asked (length s) → from ≡ at → first ≡ number_read 10 (field_of row from 3) → step ≡ number_read 10 (field_of row (from + 4) 3) → ys ≡ pattern_of 256 first step (length (take n s)) → ys ++ drop n s ≡ sown s asked row at
  unfolding sown
  laid e f g h r =
      let m : length (take n s) ≡ min asked (length s) = omega (arith, length-take {A = ℕ}) in
      rw (r, m, g, h, e, f) refl

pub returns : goal.returns
returns c =
    laid c.args.s.now c.args.row.now c.pattern.new.s c.args.asked c.min-n.result c.from-from.result c.args.at c.size_at-first.result c.size_at-step.result c.min-n.ensures c.from-from.ensures c.size_at-first.ensures c.size_at-step.ensures c.pattern.ensures
