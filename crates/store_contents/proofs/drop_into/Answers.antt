use mathlib.Core.Path.{sym, ◌∙◌}
use mathlib.Core.Path.{ap}
use Prim.Native.Nat.{ℕ, ◌/◌}
use lib.ListN.{length}
use Rattle.store_contents.specs.Contents.{drop_in_number, memory_by}
use Rattle.file_codec.specs.File.{limit}
use Rattle.store_places.specs.Store.{drop_of}
use Rattle.store_survey.specs.Survey.{reader_number}
use Rattle.store_contents.specs.Inner.{zeroed_from}
use Rattle.store_contents.proofs.Numbers.{drop_number, drop_let, drop_fits, drop_new, memory_like}
use Rattle.store_contents.proofs.drop_into.Goals as goal

pub drop_by-requires : goal.drop_by-requires
drop_by-requires c = let a = c.args in let k = c.seek-s in let d = c.drop_number-n in let e = d.ensures ∙ drop_number a.main.now a.letter (length a.memory.now) k.result k.ensures in λ z. (let y = sym e ∙ z in ((drop_let a.main.now a.letter (length a.memory.now) k.result k.ensures y).0, drop_fits a.main.now a.letter (length a.memory.now) k.result k.ensures y))

pub returns : goal.returns
returns c = let a = c.args in let k = c.seek-s in let d = c.drop_number-n in let e = d.ensures ∙ drop_number a.main.now a.letter (length a.memory.now) k.result k.ensures in record { result = e; memory_left = c.drop_by.ensures ∙ ap (λ (n : ℕ). memory_by n (zeroed_from (k.result.size / 512) k.result.from a.main.now) a.memory.now) e ∙ memory_like (drop_in_number a.main.now a.letter (length a.memory.now)) (zeroed_from (k.result.size / 512) k.result.from a.main.now) (drop_of (reader_number limit) a.letter a.main.now) a.memory.now (drop_new a.main.now a.letter (length a.memory.now) k.result k.ensures) }
