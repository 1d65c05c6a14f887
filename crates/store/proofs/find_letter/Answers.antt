use mathlib.Core.Path.{refl, sym, ◌∙◌}
use mathlib.Core.Path.{ap}
use mathlib.Core.List.{List}
use Prim.Native.Nat.{ℕ}
use Rattle.file_codec.specs.File.{refused}
use Rattle.store_find.specs.Finds.{found_in}
use Rattle.store.proofs.Judging.{found_not, found_sized, found_there, find_on}
use Rattle.store.proofs.find_letter.Goals as goal

pub returns-then-n-ne0 : goal.returns-then-n-ne0
returns-then-n-ne0 c = let a = c.args in let k = c.part_number-n in let both = find_on a.room.now (refused k.result) _ (sym (found_not a.part a.array.now a.letter k.result k.ensures c.if-n-ne0.true)) _ _ refl refl in record { result = both.0; room_left = both.1 }

pub main_block-requires : goal.main_block-requires
main_block-requires c = let a = c.args in let k = c.part_number-n in found_sized a.part a.array.now a.letter k.result k.ensures c.if-n-ne0.false

pub returns : goal.returns
returns c = let a = c.args in let k = c.part_number-n in let e = c.find_in.ensures in let both = find_on a.room.now _ _ (ap (λ (x : List ℕ). found_in x a.letter) c.main_block.ensures ∙ found_there a.part a.array.now a.letter k.result k.ensures c.if-n-ne0.false) _ _ e.result e.room_left in record { result = both.0; room_left = both.1 }
