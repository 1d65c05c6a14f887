-- `trace_wear::count` meets its contract: the good lines are counted, and replayed where nothing is left over.
use mathlib.Core.Path.{sym, subst}
use Prim.Native.Nat.{ℕ, ◌*◌, ◌≤◌}
use native.Mathlib.Omega.{arith}
use lib.ListN.{length}
use Rattle.trace_replay.proofs.Scans.{good_most, good_fit}
use Rattle.trace_wear.proofs.Walks.{worn_too, inside, bad_worn, bad_array, good_worn, good_array}
use Rattle.trace_wear.proofs.count.Goals as goal

pub overflow_mul-g : goal.overflow_mul-g
overflow_mul-g c =
    let a = c.args in
    let g = c.good_lines-g in
    record { fits = omega (arith, subst (λ (m : ℕ). 20 * m ≤ length a.text.now) (sym g.ensures) (good_fit 9998 a.text.now)) }

pub overflow_add-result : goal.overflow_add-result
overflow_add-result c =
    let a = c.args in
    let g = c.good_lines-g in
    record { fits = omega (arith, subst (λ (m : ℕ). m ≤ 9998) (sym g.ensures) (good_most 9998 a.text.now)) }

pub returns-then-g-text : goal.returns-then-g-text
returns-then-g-text c =
    let a = c.args in
    let g = c.good_lines-g in
    let both = worn_too a.array.now a.residue.now a.text.now
    (bad_worn g.result a.array.now a.residue.now a.text.now g.ensures c.if-g-text.true)
    (bad_array g.result a.array.now a.residue.now a.text.now g.ensures c.if-g-text.true) in record { result = both.0; told = both.1.0; array_left = both.1.1 }

pub last_state-requires : goal.last_state-requires
last_state-requires c =
    let a = c.args in
    let g = c.good_lines-g in
    inside g.result a.array.now a.residue.now a.text.now g.ensures

pub returns : goal.returns
returns c =
    let a = c.args in
    let g = c.good_lines-g in
    let k = c.last_state in
    let h = c.if-g-text.false in
    let both = worn_too a.array.now a.residue.now a.text.now
    (good_worn g.result a.array.now a.residue.now a.text.now g.ensures h k.result k.ensures.result)
    (good_array g.result a.array.now a.residue.now a.text.now g.ensures h k.new.array k.ensures.array_left) in record { result = both.0; told = both.1.0; array_left = both.1.1 }
