-- `recording_lines::good_cycle` meets its contract.
use mathlib.Core.Path.{ap, ◌∙◌}
use mathlib.Core.List.{List}
use Prim.Native.Nat.{ℕ}
use Rattle.trace_lines.specs.Lines.{is_line}
use Rattle.recording_lines.proofs.SameLines.{laid}
use Rattle.recording_lines.proofs.good_cycle.Goals as goal

pub returns : goal.returns
returns c =
    c.is_line.ensures ∙ ap (λ (l : List ℕ). is_line l) (c.copy.ensures ∙ laid c.args.line.now c.requires)
