use Rattle.c_recording.proofs.records.bus_seen.Goals as goal

pub returns : goal.returns
returns c = simp c.kind_seen.ensures
