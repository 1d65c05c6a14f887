-- `script_lines::is_closing` meets its contract.
use mathlib.Core.Path.{sym}
use Rattle.script_lines.specs.Words.{is_closing, close_form}
use Rattle.script_lines.proofs.Words.{cut_off}
use Rattle.script_lines.proofs.is_closing.Goals as goal

pub returns-then-text-lt2 : goal.returns-then-text-lt2
unfolding is_closing
returns-then-text-lt2 c = sym (cut_off close_form c.args.text.now c.if-text-lt2.true)

pub returns : goal.returns
unfolding is_closing
returns c = simp c.close_line.ensures
