-- `c_store::tb_store_find` meets its contract.
use mathlib.Core.Path.{ap, ◌∙◌}
use lib.ListN.{length}
use Rattle.device.specs.declared.Part.{Part}
use Rattle.file_codec.specs.File.{in_room, left_in}
use Rattle.store_find.specs.declared.Found.{Found}
use Rattle.store_find.specs.Finds.{found_as}
use Rattle.store.specs.Stores.{found_on}
use Rattle.c_store.specs.Calls.{found_out, store_found, room_found}
use Rattle.c_store.proofs.tb_store_find.Goals as goal

pub returns : goal.returns
unfolding store_found room_found
returns c =
    let a = c.args in
    let R = a.room.now in
    let X = a.array.now in
    let p = c.part_in-p.ensures in
    let f = c.find_letter-f in record { result = c.found_out.ensures ∙ ap (λ (z : Found). found_out z) f.ensures.result ∙ ap (λ (z : Part). found_out (found_as (in_room (length R) (found_on z X a.letter)))) p; room_left = f.ensures.room_left ∙ ap (λ (z : Part). left_in R (in_room (length R) (found_on z X a.letter))) p }
