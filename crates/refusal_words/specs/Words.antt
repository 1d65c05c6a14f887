-- A refusal by its number, and what a refusal of a load file means, in words.
use Rattle.std.specs.Prelude.{List, ◌++◌, ℕ, eqb, if◌then◌else◌}
use Rattle.text.specs.Digits.{decimal_of}
use Rattle.text.specs.Writing.{bytes}

-- 31 to 35 and 38; the list of numbers has every other
unfoldable pub file_words : ℕ → List ℕ
file_words n =
    if eqb n 31 then bytes "a block's check is wrong\n"
    else if eqb n 32 then bytes "a block's letter is none, or not the first block's\n"
    else if eqb n 33 then bytes "a block's number or count is wrong\n"
    else if eqb n 34 then bytes "a block's used count or padding is wrong\n"
    else if eqb n 35 then bytes "the file's letter is not the one asked for\n"
    else if eqb n 38 then bytes "a block of the file is blank, not damaged: it was never loaded\n"
    else bytes "as the list of numbers says\n"

-- a refusal by its number
abbrev pub refused_text : ℕ → List ℕ
refused_text n = bytes "refused " ++ decimal_of n
