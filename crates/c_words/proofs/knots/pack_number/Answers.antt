-- `knots::pack_number` meets its contract.
use mathlib.Core.Path.{sym, ap, ◌∙◌}
use mir.Syntax.{w32}
use mir.ValLaws.{to_z-of_z}
use borrow.Author.Tests.{lt-ltb, le-ltb}
use Rattle.reading_table.specs.Table.{in_range}
use Rattle.c_words.specs.Knots.{tenths_fit, pack_number}
use Rattle.c_words.proofs.knots.pack_number.Goals as goal

pub returns-then-place-n : goal.returns-then-place-n
unfolding pack_number
returns-then-place-n c =
    simp (
      ap in_range (sym (to_z-of_z w32 c.args.microvolts c.ranges.microvolts)) ∙ (sym c.in_range.ensures ∙ c.if-in_range.true),
      ap tenths_fit (sym (to_z-of_z w32 c.args.tenths c.ranges.tenths)) ∙ (sym c.tenths_fit.ensures ∙ c.if-tenths_fit.true),
      lt-ltb _ _ c.if-place-n.true,
    )

pub returns-then-tenths_fit : goal.returns-then-tenths_fit
unfolding pack_number
returns-then-tenths_fit c =
    simp (
      ap in_range (sym (to_z-of_z w32 c.args.microvolts c.ranges.microvolts)) ∙ (sym c.in_range.ensures ∙ c.if-in_range.true),
      ap tenths_fit (sym (to_z-of_z w32 c.args.tenths c.ranges.tenths)) ∙ (sym c.tenths_fit.ensures ∙ c.if-tenths_fit.true),
      le-ltb _ _ c.if-place-n.false,
    )

pub returns-then-in_range : goal.returns-then-in_range
unfolding pack_number
returns-then-in_range c =
    simp (
      ap in_range (sym (to_z-of_z w32 c.args.microvolts c.ranges.microvolts)) ∙ (sym c.in_range.ensures ∙ c.if-in_range.true),
      ap tenths_fit (sym (to_z-of_z w32 c.args.tenths c.ranges.tenths)) ∙ (sym c.tenths_fit.ensures ∙ c.if-tenths_fit.false),
    )

pub returns : goal.returns
unfolding pack_number
returns c = simp (ap in_range (sym (to_z-of_z w32 c.args.microvolts c.ranges.microvolts)) ∙ (sym c.in_range.ensures ∙ c.if-in_range.false))
