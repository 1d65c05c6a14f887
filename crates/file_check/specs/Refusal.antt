-- The refusals of a load file and their numbers.
use Rattle.std.specs.Prelude.{ℕ, Result, Ok, Err, eqb, if◌then◌else◌}
use Rattle.file_check.specs.declared.refusal.FileRefusal.{FileRefusal}
use Rattle.file_check.specs.declared.refusal.FileRefusal.TheVariants.{Length, Damaged, Letter, Place}
use Rattle.file_check.specs.declared.refusal.FileRefusal.TheVariants.{Padding, OtherLetter, Payload, Room, Blank}

-- the number of a refusal
abbrev pub number_of : FileRefusal → ℕ
number_of Length = 30
number_of Damaged = 31
number_of Letter = 32
number_of Place = 33
number_of Padding = 34
number_of OtherLetter = 35
number_of Payload = 36
number_of Room = 37
number_of Blank = 38

-- the refusal of a number from 30 to 38, and of any other 38's
unfoldable pub refusal_of : ℕ → FileRefusal
refusal_of n =
    if eqb n 30 then Length
    else if eqb n 31 then Damaged
    else if eqb n 32 then Letter
    else if eqb n 33 then Place
    else if eqb n 34 then Padding
    else if eqb n 35 then OtherLetter
    else if eqb n 36 then Payload
    else if eqb n 37 then Room
    else Blank

-- the number of what a test found: that of the refusal, 0 where there is none
abbrev pub found_number : Result (Unit {0}) FileRefusal → ℕ
found_number (Ok sound) = 0
found_number (Err refusal) = number_of refusal
