-- `loader_blocks::verify_to_first` meets its contract.
use mathlib.Core.Path.{◌≡◌, sym, ap, ◌∙◌}
use mathlib.Core.List.{◌++◌}
use Prim.Native.Nat.{ℕ, ◌+◌, min}
use native.Mathlib.Omega.{arith}
use lib.ListN.{length, take, drop}
use lib.Seq.{length-take-le}
use Rattle.common.specs.Lists.{overwritten}
use Rattle.units.specs.Units.{units}
use Rattle.units.proofs.Widths.{units_length, left_there}
use Rattle.loader_walk.specs.Walks.{diff_from}
use Rattle.loader_blocks.proofs.Laws.{read_least, diff_most}
use Rattle.loader_blocks.proofs.Lent.{units_few, units_same}
use Rattle.loader_blocks.proofs.verify_to_first.Goals as goal

pub overflow_add-i : goal.overflow_add-i
overflow_add-i c =
    let a = c.args in
    record { fits = omega (arith, c.first_unlike-i.ensures, diff_most (units a.word a.wanted.now) (units a.word a.held.now), units_few a.word a.wanted.now, c.requires.2) }

pub returns-clause-scratch_left : goal.returns-clause-scratch_left
returns-clause-scratch_left c =
    let p = c.requires in
    let b = c.args.word in
    let h = units b c.args.held.now in
    let w = units b c.args.wanted.now in
    let s = units b c.args.scratch.now in
    let m : c.least.result ≡ min (diff_from 0 w h + 1) (length w) = c.least.ensures ∙ (λ j. min (c.first_unlike-i.ensures j + 1) ((c.units_in-n.ensures ∙ sym (units_length b c.args.wanted.now)) j)) in
    let hl : length h ≡ length w = units_same b c.args.held.now c.args.wanted.now p.0 in
    let sl : length s ≡ length w = units_same b c.args.scratch.now c.args.wanted.now p.1 in
    let n = c.least.result in
    let t : length (take n h) ≡ n = length-take-le n h (omega (arith, m, hl)) in
    c.leave_units.ensures.s_left
    ∙ left_there 0 n h s (omega (arith, m, sl)) (omega (arith, m, hl))
    ∙ ap (λ (k : ℕ). take n h ++ drop k s) t
    ∙ ap (λ (k : ℕ). overwritten k h s) (m ∙ read_least w h)
