-- `knots::bits` meets its contract.
use mathlib.Core.Path.{sym, ap, ◌∙◌}
use Prim.Native.Nat.{◌-◌}
use native.Mathlib.Omega.{arith}
use lib.IntN.{ℤ, pos, nat_abs}
use lib.Signed.{lt_z}
use mir.Syntax.{w32}
use mir.ValLaws.{to_z-of_z}
use Rattle.reading_print.proofs.Signed.{less_fits, held, cast_fits, plain_fits, plain_is}
use Rattle.c_words.proofs.Signed.{bits_under, bits_plain}
use Rattle.c_words.proofs.knots.bits.Goals as goal

pub overflow_sub-d : goal.overflow_sub-d
overflow_sub-d c = less_fits c.args.z c.ranges.z (sym (ap (λ (y : ℤ). lt_z y (pos 0)) (to_z-of_z w32 c.args.z c.ranges.z)) ∙ c.if-z-lt0.true)

pub overflow_cast-result : goal.overflow_cast-result
overflow_cast-result c = cast_fits c.args.z c.ranges.z (sym (ap (λ (y : ℤ). lt_z y (pos 0)) (to_z-of_z w32 c.args.z c.ranges.z)) ∙ c.if-z-lt0.true)

pub overflow_sub-result : goal.overflow_sub-result
overflow_sub-result c =
    let q = (cast_fits c.args.z c.ranges.z (sym (ap (λ (y : ℤ). lt_z y (pos 0)) (to_z-of_z w32 c.args.z c.ranges.z)) ∙ c.if-z-lt0.true)).1.fits in
    omega (arith, q)

pub returns-then-z-lt0 : goal.returns-then-z-lt0
returns-then-z-lt0 c =
    let h = sym (ap (λ (y : ℤ). lt_z y (pos 0)) (to_z-of_z w32 c.args.z c.ranges.z)) ∙ c.if-z-lt0.true in
    ap (λ (y : ℤ). 4294967295 - nat_abs y) (held c.args.z c.ranges.z h) ∙ bits_under c.args.z h

pub overflow_cast-result-2 : goal.overflow_cast-result-2
overflow_cast-result-2 c = plain_fits c.args.z c.ranges.z (sym (ap (λ (y : ℤ). lt_z y (pos 0)) (to_z-of_z w32 c.args.z c.ranges.z)) ∙ c.if-z-lt0.false)

pub returns : goal.returns
returns c =
    let h = sym (ap (λ (y : ℤ). lt_z y (pos 0)) (to_z-of_z w32 c.args.z c.ranges.z)) ∙ c.if-z-lt0.false in
    plain_is c.args.z c.ranges.z h ∙ bits_plain c.args.z h
