use lib.ListN.{length}
use Rattle.file_codec.specs.File.{limit}
use Rattle.store_places.specs.Store.{add_of}
use Rattle.store_survey.specs.Survey.{reader_number}
use Rattle.store.specs.Stores.{main_of, add_number}
use Rattle.store.proofs.Leaving.{change_told}
use Rattle.store.proofs.add_file.Goals as goal

pub returns : goal.returns
returns c =
    let a = c.args in
    let k = c.add_prepared-number.ensures in
    let e = c.change.ensures in
    let both = change_told (add_number a.d a.s a.p a.array.now (length a.memory.now) (length a.scratch.now) a.file.now a.letter) (add_of (reader_number limit) a.letter a.file.now (main_of a.d.part a.array.now)) a.d a.s a.p a.array.now a.memory.now a.scratch.now _ k.memory_left _ _ _ e.result e.array_left e.scratch_left k.result in record { result = both.0; array_left = both.1.0; memory_left = both.1.1.0; scratch_left = both.1.1.1 }
