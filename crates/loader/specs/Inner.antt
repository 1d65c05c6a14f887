-- What only the code's shape asks for: the number of an end is asked of an end alone.
use Rattle.std.specs.Prelude.{ℕ}

-- before its end a load has no number, and this one stands for that
abbrev pub no_end : ℕ
no_end = 255
