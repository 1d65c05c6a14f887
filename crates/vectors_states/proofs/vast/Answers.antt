-- `vectors_states::vast` meets its contract.
use mathlib.Core.Path.{◌≡◌, refl, sym, ap, ◌∙◌}
use mathlib.Core.List.{List}
use Prim.Native.Nat.{ℕ}
use lib.ListN.{length, replicate, length-replicate}
use Rattle.vectors_states.proofs.vast.Goals as goal

-- a list of n zeros is n long
zeros : (n : ℕ) (r : List ℕ) → r ≡ replicate n 0 → (r ≡ replicate n 0) × (n ≡ length r)
zeros n r e = (e, sym (ap length e ∙ length-replicate n 0))

pub returns : goal.returns
returns c = zeros 524289 _ refl
