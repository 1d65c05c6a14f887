use mathlib.Core.Path.{ap, ◌∙◌}
use Prim.Native.Nat.{ℕ}
use lib.Dec.{leb}
use Rattle.loader_held_lists.specs.Listings.{some_of, past_array}
use Rattle.loader_held_lists.proofs.some_past.Goals as goal

-- src/lib.rt:77:1
pub returns : goal.returns
unfolding past_array
returns c = c.some_lies.ensures ∙ ap (λ (n : ℕ). some_of (λ x. leb n x) c.args.addresses.now) c.size.ensures
