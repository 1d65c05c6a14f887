use native.Mathlib.Omega.{arith}
use Rattle.loader_held_lists.proofs.Looking.{end_small}
use Rattle.loader_held_lists.proofs.end_of.Goals as goal

pub overflow_add-result : goal.overflow_add-result
overflow_add-result c =
    let a = c.args in
    record { fits = omega (arith, c.length.ensures, c.start.ensures, end_small a.part a.block) }
