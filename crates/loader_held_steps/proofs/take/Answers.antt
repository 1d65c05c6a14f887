use Rattle.loader_held_steps.proofs.take.Reads as reads
use Rattle.loader_held_steps.proofs.take.Lts as lts
use Rattle.loader_held.proofs.holds.held_next.Reads as held-next-reads
use Rattle.loader_held.proofs.holds.store_room.Reads as store-room-reads
use Rattle.loader_held_steps.proofs.take.Goals as goal

-- src/lib.rt:267:1
pub returns : goal.returns
returns c =
    let n = c.held_next in
    let r = c.store_room in
    record { result = n.ensures.result; scratch_left = n.ensures.scratch_left; room_left = r.ensures.room_left; room_spare = r.ensures.room_spare }
