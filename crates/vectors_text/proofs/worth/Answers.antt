-- `vectors_text::worth` meets its contract.
use Rattle.std.proofs.Common.{rules}
use Rattle.vectors_text.specs.Text.{digit_read}
use Rattle.vectors_text.proofs.worth.Goals as goal

pub returns-then-is_hex : goal.returns-then-is_hex
unfolding digit_read
returns-then-is_hex c = search rules

pub returns : goal.returns
unfolding digit_read
returns c = search rules
