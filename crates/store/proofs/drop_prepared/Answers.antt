use mathlib.Core.Path.{sym, ◌∙◌}
use mathlib.Core.List.{List}
use Prim.Native.Nat.{ℕ}
use lib.ListN.{length}
use Rattle.file_codec.specs.File.{limit}
use Rattle.store_places.specs.Store.{drop_of}
use Rattle.store_survey.specs.Survey.{reader_number}
use Rattle.store_contents.specs.Contents.{drop_in_number}
use Rattle.store.specs.Stores.{main_of}
use Rattle.store.proofs.Judging.{drop_refused, drop_is, ready, prepared_on}
use Rattle.store.proofs.drop_prepared.Goals as goal

pub returns-then-n-ne0 : goal.returns-then-n-ne0
returns-then-n-ne0 c = let a = c.args in let k = c.change_number-n in let both = drop_refused a.d a.s a.p a.array.now a.memory.now a.scratch k.result k.ensures c.if-n-ne0.true a.letter (drop_of (reader_number limit) a.letter (main_of a.d.part a.array.now)) in record { result = both.0; memory_left = both.1 }

pub main_block-requires : goal.main_block-requires
main_block-requires c = let a = c.args in let k = c.change_number-n in (ready a.d a.s a.p (length a.array.now) (length a.memory.now) a.scratch (sym k.ensures ∙ c.if-n-ne0.false)).sized

pub returns : goal.returns
returns c = let a = c.args in
    let k = c.change_number-n in
    let e = c.drop_into.ensures in
    let both = prepared_on (λ (x : List ℕ). drop_in_number x a.letter (length a.memory.now)) (λ (x : List ℕ). drop_of (reader_number limit) a.letter x) _ (main_of a.d.part a.array.now) a.memory.now _ _ _
    c.main_block.ensures
    (drop_is a.d a.s a.p a.array.now (length a.memory.now) a.scratch (sym k.ensures ∙ c.if-n-ne0.false) a.letter) e.result e.memory_left in record { result = both.0; memory_left = both.1 }
