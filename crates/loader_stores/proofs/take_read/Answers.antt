use mathlib.Core.Path.{ap, ◌∙◌}
use mathlib.Core.List.{List}
use Prim.Native.Nat.{ℕ}
use Rattle.loader_moves.specs.Moves.{after_read}
use Rattle.units.specs.Units.{units}
use Rattle.loader_stores.proofs.take_read.Goals as goal

pub returns : goal.returns
returns c =
    let a = c.args in
    let e = c.put_unit.ensures in
    record { result = c.read_more.ensures ∙ ap (λ (z : List ℕ). after_read a.l (units a.l.part.word a.wanted.now) z) e.s_left; scratch_left = e.s_left; scratch_spare = e.s_spare }
