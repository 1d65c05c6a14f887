-- The engine by the table meets the contract of an engine, because the engines agree.
use mathlib.Core.Path.{◌∙◌}
use Rattle.units.specs.Units.{units, lent}
use Rattle.model.proofs.Told.{answer_too}
use Rattle.table_engine.proofs.Claims.{engines_agree}
use Rattle.engines.proofs.TableEngine.cycle.Goals as goal

pub returns : goal.returns
returns c =
    let a = c.args in
    let agree = engines_agree a.d a.s a.c a.array.now a.residue.now in
    let both = answer_too a.d a.s a.c (lent a.d.part.word a.array.now) (units a.d.part.word a.residue.now)
    (c.cycle.ensures.result ∙ agree.0) (c.cycle.ensures.array_left ∙ agree.1) in record { result = both.0; told = both.1.0; array_left = both.1.1 }
