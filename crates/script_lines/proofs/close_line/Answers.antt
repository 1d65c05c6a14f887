-- `script_lines::close_line` meets its contract.
use mathlib.Core.Path.{sym}
use Rattle.trace_lines.proofs.Runs.{form_met}
use Rattle.script_lines.specs.Words.{close_form}
use Rattle.script_lines.proofs.close_line.Goals as goal

pub returns : goal.returns
returns c = simp (c.nth-2.ensures, c.nth.ensures) (sym (form_met close_form _))
