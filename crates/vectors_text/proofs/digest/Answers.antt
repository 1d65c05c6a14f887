-- `vectors_text::digest` meets its contract.
use Rattle.std.proofs.Common.{List, ℕ, ap, ◌∙◌, arith, fold}
use lib.Seq.{take_all}
use Rattle.vectors_text.specs.Patterns.{digest_of, digest_more}
use Rattle.vectors_text.proofs.digest.Goals as goal

pub returns : goal.returns
unfolding digest_of
returns c = c.loop-b.invariant.1 ∙ ap (λ (xs : List ℕ). fold digest_more 0 xs) (take_all c.loop-b.b-index c.args.s.now (omega arith))
