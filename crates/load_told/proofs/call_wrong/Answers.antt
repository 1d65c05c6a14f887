-- `load_told::call_wrong` meets its contract.
use mathlib.Core.Path.{refl}
use Rattle.load_told.specs.Tellings.{call_wrong}
use Rattle.load_told.proofs.call_wrong.Goals as goal

pub returns : goal.returns
unfolding call_wrong
returns c = refl
