-- The check of a block, a blank block, and numbers of two bytes.
use Rattle.std.specs.Prelude.{List, [], ◌∷◌, Bool, true, false, not, ℕ, suc, ◌+◌, ◌*◌, ◌%◌, length, get_or, take, eqb, if◌then◌else◌}
use Rattle.common.specs.Numbers.{row, given}

-- k times the first byte, k + 1 times the next, and so on, added up
abbrev pub wsum : ℕ → List ℕ → ℕ
wsum k [] = 0
wsum k (x ∷ xs) = k * x + wsum (suc k) xs

-- the check over a list of bytes: 1 plus the weighted sum, modulo 65,521 (R-file-2)
unfoldable pub check_of : List ℕ → ℕ
check_of bs = (1 + wsum 1 bs) % 65521

-- two bytes as one number, the high byte first
abbrev pub pair : ℕ → ℕ → ℕ
pair h l = h * 256 + l

-- the check that a block carries in bytes 510 and 511 (R-file-1)
abbrev pub stored_of : List ℕ → ℕ
stored_of b = pair (get_or b 510 0) (get_or b 511 0)

-- a block's check is wrong: what it carries is not the check over its first 510 bytes
unfoldable pub check_wrong : List ℕ → Bool
check_wrong b = not (eqb (check_of (take 510 b)) (stored_of b))

-- every number of the list is b
abbrev pub all_are : ℕ → List ℕ → Bool
all_are b [] = true
all_are b (x ∷ xs) = if eqb x b then all_are b xs else false

-- 38: the block is blank, as an erase leaves it: 512 bytes, each of them FFH, those of the check too (R-number-38)
unfoldable pub is_blank : List ℕ → Bool
is_blank b = if eqb (length b) 512 then all_are 255 b else false

-- 31: the check is wrong and the block is not blank (R-number-31)
unfoldable pub is_damaged : List ℕ → Bool
is_damaged b = if is_blank b then false else check_wrong b

-- what the check alone says of a block: its refusal, or 0
unfoldable pub check_number : List ℕ → ℕ
check_number b = given (row 38 (is_blank b) ∷ row 31 (is_damaged b) ∷ [])
