-- `c_steps::bytes_of` meets its contract.
use mathlib.Core.Path.{sym, ap}
use mathlib.Core.Bool.{Bool}
use Rattle.units.specs.Units.{bytes_in}
use Rattle.c_steps.proofs.bytes_of.Goals as goal

pub returns-then-word : goal.returns-then-word
returns-then-word c = ap (λ (b : Bool). bytes_in b c.args.n) (sym c.if-word.true)

pub returns : goal.returns
returns c = ap (λ (b : Bool). bytes_in b c.args.n) (sym c.if-word.false)
