use mathlib.Core.Path.{refl, ◌∙◌}
use mathlib.Core.Path.{ap}
use mathlib.Core.List.{List}
use Prim.Native.Nat.{ℕ}
use lib.ListN.{length}
use mir.Syntax.{w32}
use mir.ValLaws.{to_z-of_z}
use Rattle.file_codec.specs.File.{Outcome, refused, in_room}
use Rattle.store_find.specs.Finds.{found_in, read_by}
use Rattle.store_find.proofs.Reading.{read_told, read_on}
use Rattle.store.specs.Stores.{found_on}
use Rattle.store.proofs.Judging.{found_not, found_sized, found_there}
use Rattle.store.proofs.read_letter.Goals as goal

pub returns-then-n-ne0 : goal.returns-then-n-ne0
returns-then-n-ne0 c = let a = c.args in let k = c.part_number-n in let both = read_told a.x a.room.now (in_room (length a.room.now) (read_by a.letter (found_on a.part a.array.now a.letter))) (refused k.result) (ap (λ (o : Outcome). in_room (length a.room.now) (read_by a.letter o)) (found_not a.part a.array.now a.letter k.result k.ensures c.if-n-ne0.true)) refl refl refl in record { result = both.0; told = both.1.0; room_left = both.1.1 }

pub main_block-requires : goal.main_block-requires
main_block-requires c = let a = c.args in let k = c.part_number-n in found_sized a.part a.array.now a.letter k.result k.ensures c.if-n-ne0.false

pub returns : goal.returns
returns c = let a = c.args in let k = c.part_number-n in let e = c.read_in.ensures in let both = read_on a.x _ (to_z-of_z w32 a.x c.ranges.x) a.room.now (read_by a.letter (found_on a.part a.array.now a.letter)) _ (ap (λ (x : List ℕ). read_by a.letter (found_in x a.letter)) c.main_block.ensures ∙ ap (read_by a.letter) (found_there a.part a.array.now a.letter k.result k.ensures c.if-n-ne0.false)) _ _ e.result e.told e.room_left in record { result = both.0; told = both.1.0; room_left = both.1.1 }
