use Rattle.units.specs.Units.{units}
use Rattle.model.proofs.Told.{seen_too}
use Rattle.model.proofs.see.Goals as goal

pub returns-in-Gives : goal.returns-in-Gives
returns-in-Gives c = let a = c.args in let both = seen_too a.reply (units a.word a.array.now) (simp c.in-Gives.is) in record { result = both.0; told = both.1 }

pub returns-in-GivesArray : goal.returns-in-GivesArray
returns-in-GivesArray c =
    let a = c.args in
    let both = seen_too a.reply (units a.word a.array.now) (simp (c.get_unit.ensures.0, c.index.ensures, c.in-GivesArray.is)) in record { result = both.0; told = both.1 }

pub returns-in-Refuses : goal.returns-in-Refuses
returns-in-Refuses c = let a = c.args in let both = seen_too a.reply (units a.word a.array.now) (simp c.in-Refuses.is) in record { result = both.0; told = both.1 }
