-- The words of every number that is given back, and where they are left.
use Rattle.std.specs.Prelude.{List, [], ◌∷◌, ◌++◌, ℕ, ◌-◌, eqb, leb, ltb, length, take, if◌then◌else◌}
use Rattle.text.specs.Writing.{bytes, laid_at}
use Rattle.refusal_words.specs.Words.{file_words}

-- 0 to 9: no refusal, and those of a cycle
unfoldable pub cycle_line : ℕ → List ℕ
cycle_line n =
    if eqb n 0 then bytes "no refusal, and the good end of a load\n"
    else if eqb n 1 then bytes "no such device or mode here, P or E zero, or S not 1 to 100\n"
    else if eqb n 2 then bytes "the array is not as long as the part\n"
    else if eqb n 3 then bytes "no state that a cycle leaves, or no record of a load\n"
    else if eqb n 4 then bytes "a level that is none here, or no such kind of cycle\n"
    else if eqb n 5 then bytes "the address is past the array\n"
    else if eqb n 6 then bytes "a cut meets a residue that is too short\n"
    else if eqb n 7 then bytes "what is written is no command here\n"
    else if eqb n 8 then bytes "an array read in the block whose erase is suspended\n"
    else bytes "an identifier read where there is none\n"

-- 10 to 12: a loader's and a run's
unfoldable pub run_line : ℕ → List ℕ
run_line n =
    if eqb n 10 then bytes "there is no such flash block\n"
    else if eqb n 11 then bytes "a slice is not as long as the block, or counts not seven a trace\n"
    else if eqb n 12 then bytes "begun while something is awaited, running or suspended\n"
    else bytes "\n"

-- 20 to 25: the ends of a load
unfoldable pub end_line : ℕ → List ℕ
end_line n =
    if eqb n 20 then bytes "65,535 polls, and the part is not ready\n"
    else if eqb n 21 then bytes "ready with VPP low\n"
    else if eqb n 22 then bytes "ready with both error bits\n"
    else if eqb n 23 then bytes "the erase failed, or the boot block is locked\n"
    else if eqb n 24 then bytes "the program failed, or the boot block is locked\n"
    else if eqb n 25 then bytes "the verify read another byte\n"
    else bytes "\n"

-- 30 to 38: a load file's; those of its blocks as refusal_words has them
unfoldable pub file_line : ℕ → List ℕ
file_line n =
    if eqb n 30 then bytes "file length zero, over 114,688, no multiple of 512, or over the block's\n"
    else if eqb n 36 then bytes "the payload is empty or longer than 113,120 bytes\n"
    else if eqb n 37 then bytes "the room lent is too short\n"
    else if eqb n 39 then bytes "\n"
    else file_words n

-- 40 to 48: a table's, a store's, an interruption's and a report's
unfoldable pub table_line : ℕ → List ℕ
table_line n =
    if eqb n 40 then bytes "the payload is no multiple of six, or has fewer than two knots\n"
    else if eqb n 41 then bytes "a knot's microvolts are out of range, or do not rise\n"
    else if eqb n 42 then bytes "the store has no file of that letter\n"
    else if eqb n 43 then bytes "the files need more places than the main block has\n"
    else if eqb n 44 then bytes "the main block is no proper store\n"
    else if eqb n 45 then bytes "a read during an erase in the block that is loaded\n"
    else if eqb n 46 then bytes "more than 4,096 reads in one interruption\n"
    else if eqb n 47 then bytes "a report on more than 65,535 traces\n"
    else if eqb n 48 then bytes "a trace of another device number than the report's\n"
    else bytes "\n"

-- the words of any number and a newline: where there is no such number, an empty line
unfoldable pub line_of : ℕ → List ℕ
line_of n =
    if ltb n 10 then cycle_line n
    else if ltb n 20 then run_line n
    else if ltb n 30 then end_line n
    else if ltb n 40 then file_line n
    else table_line n

-- .. without the newline
unfoldable pub words_of : ℕ → List ℕ
words_of n = take (length (line_of n) - 1) (line_of n)

-- a lent slice with the words and a 0 behind them in its front; as it was, where it has no room for both
unfoldable pub words_left : ℕ → List ℕ → List ℕ
words_left n out = if leb (length out) (length (words_of n)) then out else laid_at out 0 (words_of n ++ (0 ∷ []))
