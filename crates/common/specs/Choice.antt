-- When a promise has one answer.
use Rattle.std.specs.Prelude.{◌≡◌}

-- a promise is met by at most one value (R-promise-1)
abbrev pub Unique : {A : Type 0} → (A → Type 0) → Type 0
Unique {A} P = (x y : A) → P x → P y → x ≡ y
