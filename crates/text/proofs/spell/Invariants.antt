-- `text::spell` meets its contract: what is left to spell, before what is written, is what was to be spelt.
use mathlib.Core.Path.{◌≡◌}
use mathlib.Core.List.{[]}
use lib.ListN.{length, drop}
use Rattle.text.specs.Digits.{spelled}
use Rattle.text.proofs.spell.Given as goal

abbrev pub invariant-loop-i : goal.invariant-loop-i
invariant-loop-i l = spelled l.base l.i l.rest (drop l.i l.out) ≡ spelled l.base (length l.fn.out) l.x []
