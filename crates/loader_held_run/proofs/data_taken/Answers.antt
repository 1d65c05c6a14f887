use Rattle.loader_held_run.proofs.data_taken.Goals as goal

-- src/lib.rt:54:1
pub returns : goal.returns
returns c =
    let n = c.held_next in
    let s = c.store_room in
    record { result = n.ensures.result; scratch_left = n.ensures.scratch_left; room_left = s.ensures.room_left; room_spare = s.ensures.room_spare }
