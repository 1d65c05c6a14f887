-- `loader_held_quick::lower` meets its contract.
use mathlib.Core.Path.{sym}
use Rattle.common.proofs.Choice.{if_true, if_false}
use Rattle.loader_held_quick.specs.HeldQuick.{lower_of}
use Rattle.loader_held_quick.proofs.lower.Goals as goal

pub returns-then-from-p : goal.returns-then-from-p
unfolding lower_of
returns-then-from-p c = sym (if_true _ _ _ c.if-from-p.true)

pub returns : goal.returns
unfolding lower_of
returns c = sym (if_false _ _ _ c.if-from-p.false)
