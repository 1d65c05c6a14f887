use mathlib.Core.Bool.{true, false}
use mathlib.Core.Path.{◌≡◌, sym, ap, ◌∙◌}
use Prim.Native.Nat.{ℕ, ◌+◌, ◌-◌, ◌≤◌, ◌<◌}
use native.Mathlib.Omega.{arith}
use lib.IntN.{ℤ}
use lib.Signed.{le_z, mag}
use mir.Syntax.{w32}
use mir.ValLaws.{to_z-of_z}
use mir.Val.{to_z, of_z}
use Rattle.reading_table.specs.Search.{seek_of, rounds_left}
use Rattle.reading_table.proofs.Steps.{mid, halved_start, halved_few, halved_round, halved_end}
use Rattle.reading_table.proofs.Rounds.{rounds_fall}
use Rattle.reading_table.proofs.seek.Goals as goal

-- either half has a round fewer to come
lowered : (lo hi : ℕ) → hi ≤ 9223372036854775808 → lo + 1 < hi → (rounds_left (mid lo hi) hi < rounds_left lo hi) × (rounds_left lo (mid lo hi) < rounds_left lo hi)
lowered lo hi f h =
    (rounds_fall 63 (hi - lo) (hi - mid lo hi) (omega (arith, f)) (omega (arith, h)) (omega (arith, h)), rounds_fall 63 (hi - lo) (mid lo hi - lo) (omega (arith, f, h)) (omega (arith, h)) (omega (arith, h)))

-- a knot read, in the test
read : (v z x : ℤ) → mag v < 2147483648 → v ≡ z → le_z z (to_z w32 (of_z w32 x)) ≡ le_z (to_z w32 (of_z w32 v)) (to_z w32 (of_z w32 x))
read v z x l e = ap (λ (y : ℤ). le_z y (to_z w32 (of_z w32 x))) (sym (to_z-of_z w32 v (record { sfits = l }) ∙ e))

pub returns-then-n-lt2 : goal.returns-then-n-lt2
returns-then-n-lt2 c = halved_few _ _ c.if-n-lt2.true

pub loop-lo-init : goal.loop-lo-init
loop-lo-init c = halved_start _ _ c.if-n-lt2.false

pub overflow_add-lo : goal.overflow_add-lo
overflow_add-lo c = let i = c.loop-lo.invariant in record { fits = omega (arith, i.order, i.within, c.well_formed.0.0) }

pub overflow_sub-mid : goal.overflow_sub-mid
overflow_sub-mid c = c.loop-lo.invariant.order

pub overflow_add-mid : goal.overflow_add-mid
overflow_add-mid c = let i = c.loop-lo.invariant in record { fits = omega (arith, i.order, i.within, c.well_formed.0.0, c.loop-lo-test.true) }

pub volts_at-v-requires : goal.volts_at-v-requires
volts_at-v-requires c = let i = c.loop-lo.invariant in omega (arith, i.order, i.within, c.loop-lo-test.true)

pub loop-lo-smaller-then-v-x : goal.loop-lo-smaller-then-v-x
loop-lo-smaller-then-v-x c = let i = c.loop-lo.invariant in (lowered c.loop-lo.lo c.loop-lo.hi (omega (arith, i.within, c.well_formed.0.0)) c.loop-lo-test.true).0

pub loop-lo-preserved-then-v-x : goal.loop-lo-preserved-then-v-x
loop-lo-preserved-then-v-x c = halved_round c.loop-lo.invariant c.loop-lo-test.true true (read _ _ c.args.x c.volts_at-v.type_inv c.volts_at-v.ensures ∙ c.if-v-x.true)

pub loop-lo-smaller : goal.loop-lo-smaller
loop-lo-smaller c = let i = c.loop-lo.invariant in (lowered c.loop-lo.lo c.loop-lo.hi (omega (arith, i.within, c.well_formed.0.0)) c.loop-lo-test.true).1

pub loop-lo-preserved : goal.loop-lo-preserved
loop-lo-preserved c = halved_round c.loop-lo.invariant c.loop-lo-test.true false (read _ _ c.args.x c.volts_at-v.type_inv c.volts_at-v.ensures ∙ c.if-v-x.false)

pub returns : goal.returns
returns c = halved_end c.loop-lo.invariant c.loop-lo-test.false ∙ ap (seek_of c.args.s.now) (to_z-of_z w32 c.args.x c.ranges.x)
