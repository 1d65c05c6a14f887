-- `text::hex_digit` meets its contract.
use mathlib.Core.Path.{refl}
use native.Mathlib.Omega.{arith}
use borrow.Author.Tests.{lt-ltb, le-ltb}
use Rattle.text.specs.Digits.{hex_of}
use Rattle.text.proofs.hex_digit.Goals as goal

pub returns-then-b-lt65 : goal.returns-then-b-lt65
unfolding hex_of
returns-then-b-lt65 c = simp (lt-ltb _ _ c.if-b-lt65.true) (refl, omega arith)

pub returns : goal.returns
unfolding hex_of
returns c = simp (le-ltb _ _ c.if-b-lt65.false) (refl, omega arith)
