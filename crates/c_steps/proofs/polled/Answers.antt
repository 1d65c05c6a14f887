-- `c_steps::polled` meets its contract.
use mathlib.Core.Path.{◌≡◌, sym, ap, ◌∙◌}
use mathlib.Core.Bool.{true}
use native.Mathlib.Omega.{arith}
use Rattle.common.proofs.Choice.{unlike}
use Rattle.c_steps.specs.declared.Next.{Next}
use Rattle.c_steps.proofs.polled.Goals as goal

pub overflow_add-n : goal.overflow_add-n
overflow_add-n c = record { fits = let p = c.polls_on.ensures c.if-polls_on.true in omega (arith, p.1) }

pub returns-then-polls_on : goal.returns-then-polls_on
returns-then-polls_on c = record { led = (λ e. let p = c.polls_on.ensures c.if-polls_on.true in (c.reads.ensures, p.0, p.1)); near = let q : c.reads.result.place ≡ c.args.n.place = ap (λ (x : Next). x.place) c.reads.ensures in omega (arith, q) }

pub returns : goal.returns
returns c = record { led = (λ e. absurd (unlike (sym e ∙ c.elsewhere.ensures.0))); near = omega (arith, c.elsewhere.ensures.1) }
