-- `script_lines::open_line` meets its contract.
use mathlib.Core.Path.{sym}
use Rattle.trace_lines.proofs.Runs.{form_met}
use Rattle.script_lines.specs.Words.{open_form}
use Rattle.script_lines.proofs.open_line.Goals as goal

pub returns : goal.returns
returns c = simp (c.nth-6.ensures, c.is_digit-3.ensures, c.nth-5.ensures, c.is_digit-2.ensures, c.nth-4.ensures, c.is_digit.ensures, c.nth-3.ensures, c.nth-2.ensures, c.nth.ensures) (sym (form_met open_form _))
