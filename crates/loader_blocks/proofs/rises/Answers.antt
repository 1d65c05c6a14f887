-- `loader_blocks::rises` meets its contract: the bits gathered over all pairs of bytes say it.
use Rattle.std.proofs.Common.{ap, rules, tests, ◌∙◌}
use Rattle.std.proofs.lemmas.Iterator.{YieldsList-from_slice, YieldsList-from_zip}
use Rattle.std.proofs.lemmas.Iterator.Consumers.{fold_from_yields_List}
use Rattle.std.specs.Prelude.{ℕ, not, eqb}
use Rattle.std.specs.Int.Bits.{bit_and, bit_or, bit_xor}
use Rattle.loader_walk.specs.Walks.{rises_in}
use Rattle.loader_blocks.proofs.Bytewise.{rises_folded}
use Rattle.loader_blocks.proofs.rises.Goals as goal

pub returns : goal.returns
unfolding rises_in
returns c =
    let w = c.args.wanted.now in
    let s = c.args.scratch.now in
    let bits = fold_from_yields_List _ (λ (b : ℕ) (p : ℕ × ℕ). bit_or b (bit_xor (bit_and p.1 p.0) p.0)) 0 c.fold-bits.result c.fold-bits.ensures.ran (YieldsList-from_zip (YieldsList-from_slice w cc) (YieldsList-from_slice s cc)) (λ a x b q k. search (rules, tests)) in
    ap (λ (x : ℕ). not (eqb x 0)) bits ∙ rises_folded 0 w s c.requires
