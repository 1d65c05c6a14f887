use mathlib.Core.Path.{sym, ap, ap₂, ◌∙◌, subst}
use mathlib.Core.Bool.{true, false}
use Prim.Native.Nat.{ℕ, ◌+◌, ◌<◌}
use native.Mathlib.Omega.{arith}
use lib.Ieee.{of_int, binary64}
use mir.Syntax.{w32}
use mir.ValLaws.{to_z-of_z}
use Rattle.reading_pair.specs.Pairs.{interpolated}
use Rattle.reading_table.specs.Table.{knots}
use Rattle.reading.specs.declared.Reading.TheVariants.{Temperature, Below, Above}
use Rattle.reading.specs.Readings.{pair_at}
use Rattle.reading.proofs.Handed.{under_handed, over_handed, seek_handed}
use Rattle.reading.proofs.WaysOut.{reads_below, reads_above, reads_between, next_knot}
use Rattle.reading.proofs.judged_at.Goals as goal

pub overflow_sub-last : goal.overflow_sub-last
overflow_sub-last c = omega (arith, c.requires)

pub returns-then-under : goal.returns-then-under
returns-then-under c = ap Below c.heat.ensures ∙ reads_below _ _ (under_handed c.args.payload.now c.args.x _ true c.ranges.x c.under.ensures c.if-under.true)

pub returns-then-over : goal.returns-then-over
returns-then-over c = ap Above c.heat-then-over.ensures ∙ reads_above _ _ (under_handed c.args.payload.now c.args.x _ false c.ranges.x c.under.ensures c.if-under.false) (over_handed c.args.payload.now c.args.x _ true c.ranges.x c.over.ensures c.if-over.true)

pub pair_at-p-requires : goal.pair_at-p-requires
pair_at-p-requires c =
    subst (λ (i : ℕ). i + 1 < knots c.args.payload.now) (sym (seek_handed c.args.payload.now c.args.x _ c.ranges.x c.seek-i.ensures)) (next_knot _ _ (under_handed c.args.payload.now c.args.x _ false c.ranges.x c.under.ensures c.if-under.false) (over_handed c.args.payload.now c.args.x _ false c.ranges.x c.over.ensures c.if-over.false) c.requires)

pub returns : goal.returns
returns c =
    ap Temperature
    (c.interpolate.ensures
    ∙ ap₂ interpolated (c.pair_at-p.ensures ∙ ap (pair_at c.args.payload.now) (seek_handed c.args.payload.now c.args.x _ c.ranges.x c.seek-i.ensures)) (c.wide.ensures ∙ ap (of_int binary64) (to_z-of_z w32 c.args.x c.ranges.x)))
    ∙ reads_between _ _ (under_handed c.args.payload.now c.args.x _ false c.ranges.x c.under.ensures c.if-under.false) (over_handed c.args.payload.now c.args.x _ false c.ranges.x c.over.ensures c.if-over.false)
