-- `c_answers::ended` meets its contract.
use mathlib.Core.Path.{◌∙◌}
use lib.Bits.{bit_or}
use Rattle.c_ordinary.specs.Ordinary.{rested_as}
use Rattle.c_answers.proofs.ended.Goals as goal

pub returns : goal.returns
returns c = c.rested.ensures ∙ (λ i. rested_as c.args.n (c.seen_in.ensures i) (c.shown_in.ensures i) 1 (bit_or c.args.n.status 0x80) 0)
