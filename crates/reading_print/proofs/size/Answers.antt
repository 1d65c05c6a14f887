use Rattle.std.proofs.Common.{ℤ, pos, sym, ap, ◌∙◌, w32}
use lib.Signed.{lt_z}
use mir.ValLaws.{to_z-of_z}
use Rattle.reading_print.proofs.Signed.{less_fits, cast_fits, add_fits, size_is, plain_fits, plain_is}
use Rattle.reading_print.proofs.size.Goals as goal

pub overflow_sub-d : goal.overflow_sub-d
overflow_sub-d c = less_fits c.args.z c.ranges.z (sym (ap (λ (y : ℤ). lt_z y (pos 0)) (to_z-of_z w32 c.args.z c.ranges.z)) ∙ c.if-z-lt0.true)

pub overflow_cast-result : goal.overflow_cast-result
overflow_cast-result c = cast_fits c.args.z c.ranges.z (sym (ap (λ (y : ℤ). lt_z y (pos 0)) (to_z-of_z w32 c.args.z c.ranges.z)) ∙ c.if-z-lt0.true)

pub overflow_add-result : goal.overflow_add-result
overflow_add-result c = add_fits c.args.z c.ranges.z (sym (ap (λ (y : ℤ). lt_z y (pos 0)) (to_z-of_z w32 c.args.z c.ranges.z)) ∙ c.if-z-lt0.true)

pub returns-then-z-lt0 : goal.returns-then-z-lt0
returns-then-z-lt0 c = size_is c.args.z c.ranges.z (sym (ap (λ (y : ℤ). lt_z y (pos 0)) (to_z-of_z w32 c.args.z c.ranges.z)) ∙ c.if-z-lt0.true)

pub overflow_cast-result-2 : goal.overflow_cast-result-2
overflow_cast-result-2 c = plain_fits c.args.z c.ranges.z (sym (ap (λ (y : ℤ). lt_z y (pos 0)) (to_z-of_z w32 c.args.z c.ranges.z)) ∙ c.if-z-lt0.false)

pub returns : goal.returns
returns c = plain_is c.args.z c.ranges.z (sym (ap (λ (y : ℤ). lt_z y (pos 0)) (to_z-of_z w32 c.args.z c.ranges.z)) ∙ c.if-z-lt0.false)
