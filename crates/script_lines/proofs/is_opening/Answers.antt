-- `script_lines::is_opening` meets its contract.
use mathlib.Core.Path.{sym}
use Rattle.script_lines.specs.Words.{is_opening, open_form}
use Rattle.script_lines.proofs.Words.{cut_off}
use Rattle.script_lines.proofs.is_opening.Goals as goal

pub returns-then-text-lt6 : goal.returns-then-text-lt6
unfolding is_opening
returns-then-text-lt6 c = sym (cut_off open_form c.args.text.now c.if-text-lt6.true)

pub returns : goal.returns
unfolding is_opening
returns c = simp c.open_line.ensures
