-- `device::in_words` meets its contract.
use Rattle.std.proofs.Common.{◌≡◌, ◌∙◌, ap, ℕ, List, ◌/◌, length, set, get_or}
use native.Mathlib.Omega.{arith}
use Rattle.std.specs.Prelude.{map}
use Rattle.common.specs.Lists.{overwritten}
use Rattle.device.proofs.Halves.{halved_more, halved_all}
use Rattle.device.specs.declared.Shape.{Shape}
use Rattle.device.specs.Parts.{in_words}
use Rattle.device.proofs.in_words.Goals as goal

pub loop-l-preserved : goal.loop-l-preserved
loop-l-preserved c =
    let l = c.loop-l in
    let ls = c.args.s.lengths in
    ap (λ (x : List ℕ). set x l.l-index (get_or x l.l-index 0 / 2)) l.invariant ∙ halved_more ls l.l-index (omega arith)

pub returns : goal.returns
unfolding in_words
returns c =
    let ls = c.args.s.lengths in
    let i : c.loop-l.l-index ≡ length ls = omega arith in
    let of : List ℕ → Shape = λ x. record { lengths = x; top = c.args.s.top; code = c.args.s.code } in
    ap of (c.loop-l.invariant ∙ ap (λ (n : ℕ). overwritten n (map (λ x. x / 2) ls) ls) i ∙ halved_all ls)
