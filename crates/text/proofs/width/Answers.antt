-- `text::width` meets its contract.
use Rattle.std.proofs.Common.{rules}
use Rattle.text.specs.Digits.{width_of}
use Rattle.text.proofs.Spelling.{width_is}
use Rattle.text.proofs.width.Goals as goal

pub returns : goal.returns
unfolding width_of
returns c = search (rules, width_is)
