-- `loader_quick::verify_made` meets its contract.
use mathlib.Core.Bool.{false}
use Rattle.loader_quick.specs.Quick.{made_of}
use Rattle.loader_quick.proofs.verify_made.Goals as goal

pub returns : goal.returns
returns c = let v = c.verified-r in record { result = (λ i. made_of (v.ensures.result i) false); scratch_left = v.ensures.scratch_left }
