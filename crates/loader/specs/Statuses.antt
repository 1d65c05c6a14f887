-- What a status says of an operation that is waited for: whether it is over, and how it ended.
use Rattle.std.specs.Prelude.{Bool, ◌&&◌, ℕ, ◌/◌, ◌%◌, eqb, leb, if◌then◌else◌}

-- a status is in the low 8 bits of what is read
abbrev pub status_in : ℕ → ℕ
status_in v = v % 256

-- SR.7 of a status (R-load-6)
abbrev pub is_ready : ℕ → Bool
is_ready sr = leb 0x80 sr

-- bit k of a status as a test: SR.3, SR.4, SR.5
abbrev pub sr3 : ℕ → Bool
sr3 sr = eqb (sr / 0x08 % 2) 1

-- SR.4 is set
abbrev pub sr4 : ℕ → Bool
sr4 sr = eqb (sr / 0x10 % 2) 1

-- SR.5 is set
abbrev pub sr5 : ℕ → Bool
sr5 sr = eqb (sr / 0x20 % 2) 1

-- SR.4 and SR.5 together: a wrong second write
unfoldable pub both_errors : ℕ → Bool
both_errors sr = sr4 sr && sr5 sr

-- a ready status of an erase: 21 with SR.3, else 22 with SR.4 and SR.5, else 23 with SR.5, else 0 (R-number-21, R-number-22, R-number-23)
unfoldable pub erase_end : ℕ → ℕ
erase_end sr =
    if sr3 sr then 21
    else if both_errors sr then 22
    else if sr5 sr then 23
    else 0

-- a ready status of a program: the same with 24 and SR.4 (R-number-24)
unfoldable pub program_end : ℕ → ℕ
program_end sr =
    if sr3 sr then 21
    else if both_errors sr then 22
    else if sr4 sr then 24
    else 0
