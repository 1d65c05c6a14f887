use Rattle.c_recording.proofs.records.record_in.Goals as goal

pub returns : goal.returns
returns c = simp (c.heard_in.ensures, c.cycle_in.ensures, c.bus_seen-bus.ensures)
