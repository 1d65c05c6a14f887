use Rattle.std.proofs.Common.{T, sym, ◌∙◌, subst}
use lib.Ieee.{of_bits, neg}
use Rattle.reading_print.proofs.Shown.{whole_in, whole_high, whole_low}
use Rattle.reading_print.proofs.whole.Goals as goal

pub truncating_f64_to_u64-requires : goal.truncating_f64_to_u64-requires
unfolding of_bits neg
truncating_f64_to_u64-requires c = record { lower_bound = subst T (sym c.if-d.true) tt; upper_bound = subst T (sym c.if-d-2.true) tt }

pub returns-then-d-2 : goal.returns-then-d-2
unfolding of_bits neg
returns-then-d-2 c = c.truncating_f64_to_u64.ensures ∙ sym (whole_in _ c.if-d.true c.if-d-2.true)

pub returns-then-d : goal.returns-then-d
unfolding of_bits neg
returns-then-d c = sym (whole_high _ c.if-d.true c.if-d-2.false)

pub returns : goal.returns
unfolding of_bits neg
returns c = sym (whole_low _ c.if-d.false)
