use Prim.Native.Nat.{ℕ}
use mathlib.Core.Path.{ap, refl, ◌∙◌}
use lib.ListN.{set}
use Rattle.units.proofs.put_unit.Goals as goal

pub returns-then-word : goal.returns-then-word
returns-then-word c = simp c.if-word.true c.put_word.ensures

pub returns : goal.returns
returns c =
    simp c.if-word.false (record { s_left = c.put_byte.ensures ∙ ap (λ (x : ℕ). set c.args.s.now c.args.at x) c.low.ensures; s_spare = refl })
