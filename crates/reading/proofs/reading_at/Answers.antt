use mathlib.Core.Path.{◌≡◌, sym, ap, ap₂, ◌∙◌, subst}
use mathlib.Core.Bool.{true, false}
use mathlib.Core.List.{List}
use Prim.Native.Nat.{ℕ, ◌+◌, ◌-◌, ◌<◌}
use native.Mathlib.Omega.{arith}
use lib.IntN.{ℤ}
use lib.Signed.{lt_z}
use lib.Ieee.{of_int, binary64}
use mir.Syntax.{w32}
use mir.ValLaws.{to_z-of_z}
use Rattle.reading_pair.specs.Pairs.{interpolated}
use Rattle.reading_table.specs.Table.{volts_of, knots, rises_to, shape_wrong}
use Rattle.reading_table.specs.Search.{seek_of}
use Rattle.reading_table.proofs.Judged.{shape_right}
use Rattle.reading.specs.declared.Reading.TheVariants.{Temperature, Below, Above}
use Rattle.reading.specs.declared.ReadingAnswer.TheVariants.{Read}
use Rattle.reading.specs.Readings.{pair_at}
use Rattle.reading.proofs.Told.{told_too}
use Rattle.reading.proofs.Handed.{under_handed, over_handed, seek_handed}
use Rattle.reading.proofs.WaysOut.{next_knot, refused_40, refused_ends, answers_below, answers_above, refused_pair, answers_between}
use Rattle.reading.proofs.reading_at.Goals as goal

-- the knot found has a next
next_held : (p : List ℕ) (x : ℤ) (i : ℕ) → i ≡ seek_of p x → lt_z x (volts_of p 0) ≡ false → lt_z (volts_of p (knots p - 1)) x ≡ false → shape_wrong p ≡ false → i + 1 < knots p
next_held p x i e u o s = subst (λ (k : ℕ). k + 1 < knots p) (sym e) (next_knot p x u o (shape_right p s).1)

pub returns-then-shape_wrong : goal.returns-then-shape_wrong
returns-then-shape_wrong c = let both = told_too _ _ (refused_40 _ _ (sym c.shape_wrong.ensures ∙ c.if-shape_wrong.true)) in record { result = both.0; told = both.1 }

pub overflow_sub-last : goal.overflow_sub-last
overflow_sub-last c = let n = (shape_right _ (sym c.shape_wrong.ensures ∙ c.if-shape_wrong.false)).1 in omega (arith, n)

pub returns-then-not-rises_to : goal.returns-then-not-rises_to
returns-then-not-rises_to c = let both = told_too _ _ (refused_ends _ _ (sym c.shape_wrong.ensures ∙ c.if-shape_wrong.false) (sym c.rises_to.ensures ∙ c.if-not-rises_to.true)) in record { result = both.0; told = both.1 }

pub returns-then-under : goal.returns-then-under
returns-then-under c =
    let both = told_too _ _ (ap (λ r. Read (Below r)) c.heat.ensures ∙ answers_below _ _ (sym c.shape_wrong.ensures ∙ c.if-shape_wrong.false) (sym c.rises_to.ensures ∙ c.if-not-rises_to.false) (under_handed c.args.payload.now c.args.x _ true c.ranges.x c.under.ensures c.if-under.true)) in record { result = both.0; told = both.1 }

pub returns-then-over : goal.returns-then-over
returns-then-over c =
    let both = told_too _ _ (ap (λ r. Read (Above r)) c.heat-then-over.ensures ∙ answers_above _ _ (sym c.shape_wrong.ensures ∙ c.if-shape_wrong.false) (sym c.rises_to.ensures ∙ c.if-not-rises_to.false) (under_handed c.args.payload.now c.args.x _ false c.ranges.x c.under.ensures c.if-under.false) (over_handed c.args.payload.now c.args.x _ true c.ranges.x c.over.ensures c.if-over.true)) in record { result = both.0; told = both.1 }

pub overflow_add-i : goal.overflow_add-i
overflow_add-i c = let n = next_held c.args.payload.now c.args.x _ (seek_handed c.args.payload.now c.args.x _ c.ranges.x c.seek-i.ensures) (under_handed c.args.payload.now c.args.x _ false c.ranges.x c.under.ensures c.if-under.false) (over_handed c.args.payload.now c.args.x _ false c.ranges.x c.over.ensures c.if-over.false) (sym c.shape_wrong.ensures ∙ c.if-shape_wrong.false) in let g = c.well_formed.0.0 in record { fits = omega (arith, n, g) }

pub returns-then-not-rises_to-2 : goal.returns-then-not-rises_to-2
returns-then-not-rises_to-2 c =
    let both = told_too _ _ (refused_pair _ _ (sym c.shape_wrong.ensures ∙ c.if-shape_wrong.false) (sym c.rises_to.ensures ∙ c.if-not-rises_to.false) (under_handed c.args.payload.now c.args.x _ false c.ranges.x c.under.ensures c.if-under.false) (over_handed c.args.payload.now c.args.x _ false c.ranges.x c.over.ensures c.if-over.false) (sym (c.rises_to-2.ensures ∙ ap (λ (i : ℕ). rises_to c.args.payload.now i (i + 1)) (seek_handed c.args.payload.now c.args.x _ c.ranges.x c.seek-i.ensures)) ∙ c.if-not-rises_to-2.true)) in record { result = both.0; told = both.1 }

pub pair_at-p-requires : goal.pair_at-p-requires
pair_at-p-requires c = next_held c.args.payload.now c.args.x _ (seek_handed c.args.payload.now c.args.x _ c.ranges.x c.seek-i.ensures) (under_handed c.args.payload.now c.args.x _ false c.ranges.x c.under.ensures c.if-under.false) (over_handed c.args.payload.now c.args.x _ false c.ranges.x c.over.ensures c.if-over.false) (sym c.shape_wrong.ensures ∙ c.if-shape_wrong.false)

pub returns : goal.returns
returns c =
    let both = told_too _ _
    (ap (λ r. Read (Temperature r))
    (c.interpolate.ensures
    ∙ ap₂ interpolated (c.pair_at-p.ensures ∙ ap (pair_at c.args.payload.now) (seek_handed c.args.payload.now c.args.x _ c.ranges.x c.seek-i.ensures)) (c.wide.ensures ∙ ap (of_int binary64) (to_z-of_z w32 c.args.x c.ranges.x)))
    ∙ answers_between _ _ (sym c.shape_wrong.ensures ∙ c.if-shape_wrong.false) (sym c.rises_to.ensures ∙ c.if-not-rises_to.false) (under_handed c.args.payload.now c.args.x _ false c.ranges.x c.under.ensures c.if-under.false) (over_handed c.args.payload.now c.args.x _ false c.ranges.x c.over.ensures c.if-over.false) (sym (c.rises_to-2.ensures ∙ ap (λ (i : ℕ). rises_to c.args.payload.now i (i + 1)) (seek_handed c.args.payload.now c.args.x _ c.ranges.x c.seek-i.ensures)) ∙ c.if-not-rises_to-2.false)) in record { result = both.0; told = both.1 }
