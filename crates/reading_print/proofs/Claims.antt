-- What is claimed of a temperature as text.
use Rattle.std.proofs.Common.{ℕ, ◌*◌, ◌<◌, Bool, T, ℤ}
use lib.Ieee.{fin, binary64, up, down, fits}
use Rattle.reading_print.specs.Texts.{tenths_shown, NearestTo}
use Rattle.reading_print.proofs.Nearest as nearest

-- The tenths shown are the whole number nearest to the temperature's size, a half going up: for every finite f64 of less than 2 to the 31.
-- The f64 `fin s m e` is m * up e / down e in size.
pub nearest_tenth : (s : Bool) (m : ℕ) (e : ℤ) → T (fits binary64 (fin s m e)) → m * up e < 2147483648 * down e → NearestTo (tenths_shown (fin s m e)) (m * up e) (down e)
nearest_tenth = nearest.nearest_tenth
