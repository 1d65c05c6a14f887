-- What is said of a recording: a fault with its line, what was seen and what the rules give; a line that is none; the end; acceptance.
use Rattle.std.specs.Prelude.{List, [], ◌∷◌, ◌++◌, ℕ, suc, eqb, ltb, length, if◌then◌else◌, Option, Some, None}
use Rattle.text.specs.Digits.{spelled, decimal_of}
use Rattle.text.specs.Writing.{bytes}
use Rattle.model_types.specs.declared.Phase.{Phase}
use Rattle.model_types.specs.declared.Phase.TheVariants.{Free, EraseAwaited, DataAwaited, Programming, Erasing, Suspending, Suspended}
use Rattle.recording.specs.declared.Why.{Why}

-- the hexadecimal digits that data below 2 to the 64 is told in: two, four, eight or sixteen, so that none is left out
unfoldable pub data_width : ℕ → ℕ
data_width v =
    if ltb v 0x100 then 2
    else if ltb v 0x10000 then 4
    else if ltb v 0x100000000 then 8
    else 16

-- .. and an address: four at least
unfoldable pub address_width : ℕ → ℕ
address_width v = if ltb v 0x100 then 4 else data_width v

-- data in hexadecimal digits
abbrev pub data_text : ℕ → List ℕ
data_text v = spelled 16 (data_width v) v []

-- an address in hexadecimal digits
abbrev pub address_text : ℕ → List ℕ
address_text v = spelled 16 (address_width v) v []

-- the answer seen, as its line has it
abbrev pub heard_text : Option ℕ → List ℕ
heard_text None = bytes "N --"
heard_text (Some w) = bytes "D " ++ data_text w

-- a number between two texts
abbrev pub around : List ℕ → ℕ → List ℕ → List ℕ
around before n after = (before ++ decimal_of n) ++ after

-- data that the rules give
abbrev pub given_text : ℕ → List ℕ
given_text v = (bytes "give D " ++ data_text v) ++ bytes "\n"

-- what the rules do with a cycle, by kind and value: 3 refuse it, 4 give no data, else data
unfoldable pub rules_text : ℕ → ℕ → List ℕ
rules_text kind value =
    if eqb kind 3 then around (bytes "refuse the cycle by number ") value (bytes "\n")
    else if eqb kind 4 then bytes "give N --\n"
    else given_text value

-- what was seen, and what the rules do
abbrev pub seen_text : Option ℕ → ℕ → ℕ → List ℕ
seen_text h kind value = ((bytes "seen " ++ heard_text h) ++ bytes ", the rules ") ++ rules_text kind value

-- why a record is at fault
unfoldable pub why_text : Option ℕ → Why → List ℕ
why_text h w =
    if eqb w.kind 1 then around (bytes "the count ") w.value (bytes " is not 1 to 65535\n")
    else if eqb w.kind 2 then bytes "an operation is cut\n"
    else seen_text h w.kind w.value

-- a record at fault, by its line
abbrev pub fault_line : ℕ → Option ℕ → Why → List ℕ
fault_line n h w = around (bytes "line ") n (bytes " is at fault: ") ++ why_text h w

-- a line that is none
abbrev pub bad_line : ℕ → List ℕ
bad_line n = around (bytes "line ") n (bytes " is no line of a recording\n")

-- all is as it must be, with so many records
abbrev pub accepted_line : ℕ → List ℕ
accepted_line n = around (bytes "accepted: ") n (bytes " records, and the array is the one promised\n")

-- where two lists first differ: how many elements are the same in front of both
abbrev pub first_apart : List ℕ → List ℕ → ℕ
first_apart [] ys = 0
first_apart (x ∷ xs) [] = 0
first_apart (x ∷ xs) (y ∷ ys) = if eqb x y then suc (first_apart xs ys) else 0

-- the array differs from the one promised at an address
abbrev pub differs_text : ℕ → List ℕ
differs_text v = (bytes "the end is at fault: the array differs from the one promised at " ++ address_text v) ++ bytes "\n"

-- the array promised is shorter: n bytes, and the part has m
abbrev pub shorter_text : ℕ → ℕ → List ℕ
shorter_text n m =
    (around (bytes "the end is at fault: the array promised has ") n (bytes " bytes, the part ") ++ decimal_of m) ++ bytes "\n"

-- the array promised has another length, n bytes where the part has m; a number of 32 bits is told
unfoldable pub lengths_text : ℕ → ℕ → List ℕ
lengths_text n m =
    if ltb 0xFFFFFFFF m then bytes "the end is at fault: the array promised is not as long as the part\n"
    else if ltb m n then around (bytes "the end is at fault: the array promised has more bytes than the part's ") m (bytes "\n")
    else shorter_text n m

-- two arrays of m bytes differ first at v; past the end they do not
unfoldable pub place_text : ℕ → ℕ → List ℕ
place_text v m = if ltb v m then differs_text v else bytes "the end is as it must be\n"

-- the array promised against the part's
unfoldable pub array_text : List ℕ → List ℕ → List ℕ
array_text promised xs =
    if eqb (length promised) (length xs) then place_text (first_apart promised xs) (length xs)
    else lengths_text (length promised) (length xs)

-- the end, by what is awaited, running or suspended there: where nothing is, the array decides
abbrev pub end_text : Phase → List ℕ → List ℕ → List ℕ
end_text Free promised xs = array_text promised xs
end_text EraseAwaited promised xs = bytes "the end is at fault: not idle, an erase waits for its confirm\n"
end_text DataAwaited promised xs = bytes "the end is at fault: not idle, a program waits for its data\n"
end_text (Programming b) promised xs = bytes "the end is at fault: not idle, a program is running\n"
end_text Erasing promised xs = bytes "the end is at fault: not idle, an erase is running\n"
end_text (Suspending n) promised xs = bytes "the end is at fault: not idle, an erase is being suspended\n"
end_text Suspended promised xs = bytes "the end is at fault: not idle, an erase is suspended\n"
