-- `script_lines::is_traced` meets its contract.
use mathlib.Core.Path.{sym}
use Rattle.script_lines.specs.Words.{is_traced}
use Rattle.trace_lines.specs.Lines.{line_form, is_line}
use Rattle.script_lines.proofs.Words.{cut_off}
use Rattle.script_lines.proofs.is_traced.Goals as goal

pub returns-then-text-lt20 : goal.returns-then-text-lt20
unfolding is_traced is_line
returns-then-text-lt20 c = sym (cut_off line_form c.args.text.now c.if-text-lt20.true)

pub returns : goal.returns
unfolding is_traced
returns c = simp c.is_line.ensures
