use lib.ListN.{length}
use Rattle.file_codec.specs.File.{limit}
use Rattle.store_places.specs.Store.{drop_of}
use Rattle.store_survey.specs.Survey.{reader_number}
use Rattle.store.specs.Stores.{main_of, drop_number}
use Rattle.store.proofs.Leaving.{change_told}
use Rattle.store.proofs.drop_letter.Goals as goal

pub returns : goal.returns
returns c =
    let a = c.args in
    let k = c.drop_prepared-n.ensures in
    let e = c.change.ensures in
    let both = change_told (drop_number a.d a.s a.p a.array.now (length a.memory.now) (length a.scratch.now) a.letter) (drop_of (reader_number limit) a.letter (main_of a.d.part a.array.now)) a.d a.s a.p a.array.now a.memory.now a.scratch.now _ k.memory_left _ _ _ e.result e.array_left e.scratch_left k.result in record { result = both.0; array_left = both.1.0; memory_left = both.1.1.0; scratch_left = both.1.1.1 }
