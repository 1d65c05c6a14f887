use mathlib.Core.Path.{ap, ◌∙◌}
use mathlib.Core.List.{List}
use Prim.Native.Nat.{ℕ}
use Rattle.loader_moves.specs.Moves.{erase_polled}
use Rattle.units.specs.Units.{units}
use Rattle.loader_stores.proofs.take_erase.Goals as goal

pub returns : goal.returns
returns c =
    let a = c.args in
    let e = c.store_erase.ensures in
    record { result = c.erase_polled.ensures ∙ ap (λ (z : List ℕ). erase_polled a.l a.b (units a.l.part.word a.wanted.now) z) e.scratch_left; scratch_left = e.scratch_left; scratch_spare = e.scratch_spare }
