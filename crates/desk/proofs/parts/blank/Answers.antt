-- As many zeros as are asked for.
use Rattle.std.proofs.Common.{◌≡◌, ℕ, List, length, refl, sym, ap, ◌∙◌}
use lib.ListN.{replicate, length-replicate}
use Rattle.desk.proofs.parts.blank.Goals as goal

-- a list of n zeros is n long
zeros : (n : ℕ) (r : List ℕ) → r ≡ replicate n 0 → n ≡ length r
zeros n r e = sym (ap length e ∙ length-replicate n 0)

pub returns : goal.returns
returns c = zeros 524289 _ refl
