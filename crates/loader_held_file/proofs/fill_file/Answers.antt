use Rattle.loader_from_file.proofs.Filling.{filled}
use Rattle.loader_held_file.proofs.fill_file.Goals as goal

pub returns : goal.returns
returns c =
    let a = c.args in
    filled a.file.now a.wanted.now c.copy.new.dst c.fill.new.s c.requires c.copy.ensures c.fill.ensures
