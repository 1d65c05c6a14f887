-- `loader_blocks::work` meets its contract.
use mathlib.Core.Path.{◌≡◌, sym, ap, ◌∙◌}
use mathlib.Core.Bool.{true, false}
use mathlib.Core.List.{List}
use Prim.Native.Nat.{ℕ, ◌+◌, ◌*◌, ◌≤◌}
use native.Mathlib.Omega.{arith}
use lib.ListN.{length, replicate, length-replicate}
use Rattle.common.proofs.Choice.{if_true, if_false}
use Rattle.units.specs.Units.{units, top}
use Rattle.loader_walk.specs.Walks.{rises_in}
use Rattle.loader_blocks.specs.Blocks.{costs, work_costs}
use Rattle.loader_blocks.proofs.Laws.{as_held, as_erased, costs_most}
use Rattle.loader_blocks.proofs.Bytewise.{rises_units}
use Rattle.loader_blocks.proofs.Lent.{units_same, units_few}
use Rattle.loader_blocks.proofs.work.Goals as goal

pub program_all-c-requires : goal.program_all-c-requires
program_all-c-requires c =
    let a = c.args in
    let p = c.requires in
    let w = a.wanted.now in
    let f = c.fill_units in
    let g = c.fill_units-then-rises in (
      as_erased f.new.s w (length a.held.now) f.ensures.s_filled (ap (λ (z : List ℕ). length z) p.0.read ∙ p.0.long) (λ i. (c.shared_slice_known-1.given i).fits),
      ap (λ (z : List ℕ). length z) g.ensures.s_filled ∙ length-replicate (length a.scratch.now) 255 ∙ p.0.long,
      p.0.short,
      p.2,
    )

pub overflow_add-result : goal.overflow_add-result
overflow_add-result c =
    let a = c.args in
    let p = c.requires in
    let f = c.program_all-c in
    let W : List ℕ = units a.word a.wanted.now in
    let S : List ℕ = units a.word c.fill_units-then-rises.new.s in
    let m : costs (length W) a.each 0 W S ≤ length W * 4294967295 = costs_most (length W) a.each 0 W S p.2 in
    record { fits = omega (arith, m, f.ensures.result, units_few a.word a.wanted.now, p.0.short, p.1, p.2) }

pub returns-then-rises : goal.returns-then-rises
unfolding work_costs
returns-then-rises c =
    let a = c.args in
    let p = c.requires in
    let b = a.word in
    let W : List ℕ = units b a.wanted.now in
    let S : List ℕ = units b a.scratch.now in
    let f = c.program_all-c in
    let g = c.fill_units-then-rises in
    let t : rises_in W S ≡ true = rises_units b a.wanted.now a.scratch.now p.0.long p.0.whole (λ i. (c.shared_slice_known-1.given i).fits) (λ i. (c.slice_known-2-1.given i).fits) ∙ sym c.rises.ensures ∙ c.if-rises.true in
    let e : units b g.new.s ≡ replicate (length W) (top b) = g.ensures.s_left ∙ ap (λ (n : ℕ). replicate n (top b)) (units_same b a.scratch.now a.wanted.now p.0.long) in
    let q : a.once + f.result ≡ work_costs b a.once a.each W S = ap (λ (n : ℕ). a.once + n) (f.ensures.result ∙ ap (λ (z : List ℕ). costs (length W) a.each 0 W z) e) ∙ sym (if_true (rises_in W S) _ _ t) in
    record { result = (λ i. record { cycles = q i; erased = sym t i }); held_left = ap (λ (z : List ℕ). units b z) f.ensures.held_left; scratch_left = ap (λ (z : List ℕ). units b z) f.ensures.scratch_left }

pub program_all-c-requires-2 : goal.program_all-c-requires-2
program_all-c-requires-2 c =
    let a = c.args in
    let p = c.requires in
    let t : rises_in a.wanted.now a.scratch.now ≡ false = sym c.rises.ensures ∙ c.if-rises.false in
    (as_held a.held.now a.wanted.now a.scratch.now p.0.read p.0.long t, p.0.long, p.0.short, p.2)

pub returns : goal.returns
unfolding work_costs
returns c =
    let a = c.args in
    let p = c.requires in
    let b = a.word in
    let W : List ℕ = units b a.wanted.now in
    let S : List ℕ = units b a.scratch.now in
    let f = c.program_all-c-2 in
    let t : rises_in W S ≡ false = rises_units b a.wanted.now a.scratch.now p.0.long p.0.whole (λ i. (c.shared_slice_known-1.given i).fits) (λ i. (c.slice_known-2-1.given i).fits) ∙ sym c.rises.ensures ∙ c.if-rises.false in
    let q : f.result ≡ work_costs b a.once a.each W S = f.ensures.result ∙ sym (if_false (rises_in W S) _ _ t) in
    record { result = (λ i. record { cycles = q i; erased = sym t i }); held_left = ap (λ (z : List ℕ). units b z) f.ensures.held_left; scratch_left = ap (λ (z : List ℕ). units b z) f.ensures.scratch_left }
