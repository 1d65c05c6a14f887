-- `loader_blocks::program_all` meets its contract.
use mathlib.Core.Path.{sym, ap, ◌∙◌}
use Prim.Native.Nat.{ℕ, ◌*◌, ◌≤◌}
use native.Mathlib.Nat.{mul-le-mul_right}
use native.Mathlib.Omega.{arith}
use lib.ListN.{length}
use Rattle.common.proofs.Lists.{copied_whole}
use Rattle.units.specs.Units.{units}
use Rattle.loader_blocks.proofs.Laws.{costs_each, costs_few}
use Rattle.loader_blocks.proofs.Lent.{units_few}
use Rattle.loader_blocks.proofs.program_all.Goals as goal

pub unlike_units-n-requires : goal.unlike_units-n-requires
unlike_units-n-requires c = (c.requires.1, c.requires.2)

pub keep_bits-requires : goal.keep_bits-requires
keep_bits-requires c = c.requires.0

pub overflow_mul-result : goal.overflow_mul-result
overflow_mul-result c =
    let a = c.args in
    let p = c.requires in
    let W = units a.word a.wanted.now in
    let S = units a.word a.scratch.now in
    let n = c.unlike_units-n.result in
    let l : n ≤ 16777216 = omega (arith, c.unlike_units-n.ensures, costs_few (length W) 0 W S, units_few a.word a.wanted.now, p.2) in
    let m : n * a.each ≤ 16777216 * a.each = mul-le-mul_right a.each l in
    record { fits = omega (arith, m, p.3) }

pub returns : goal.returns
returns c =
    let a = c.args in
    let p = c.requires in
    let w = a.wanted.now in
    let W = units a.word w in
    let S = units a.word a.scratch.now in
    record { result = ap (λ (n : ℕ). n * a.each) c.unlike_units-n.ensures ∙ sym (costs_each (length W) a.each 0 W S); held_left = c.keep_bits.ensures; scratch_left = c.copy.ensures ∙ copied_whole a.scratch.now w p.1 }
