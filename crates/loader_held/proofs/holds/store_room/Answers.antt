use mathlib.Core.Path.{refl}
use Rattle.loader_held.proofs.holds.store_room.Reads as reads
use Rattle.loader_held.proofs.holds.store_room.Lts as lts
use Rattle.units.proofs.put_unit.Reads as put-unit-reads
use Rattle.loader_held.proofs.holds.store_room.Goals as goal

-- src/holds.rt:183:1
pub returns-in-Usual : goal.returns-in-Usual
returns-in-Usual c = simp c.in-Usual.is (record { room_left = refl; room_spare = refl })

-- src/holds.rt:183:1
pub returns-in-Halting : goal.returns-in-Halting
returns-in-Halting c = simp c.in-Halting.is (record { room_left = refl; room_spare = refl })

-- src/holds.rt:183:1
pub returns-in-Looking : goal.returns-in-Looking
returns-in-Looking c = simp c.in-Looking.is (record { room_left = refl; room_spare = refl })

-- src/holds.rt:183:1
pub returns-in-Settling : goal.returns-in-Settling
returns-in-Settling c = simp c.in-Settling.is (record { room_left = refl; room_spare = refl })

-- src/holds.rt:183:1
pub returns-in-ArrayAsking : goal.returns-in-ArrayAsking
returns-in-ArrayAsking c = simp c.in-ArrayAsking.is (record { room_left = refl; room_spare = refl })

-- src/holds.rt:183:1
pub returns-in-Fetching : goal.returns-in-Fetching
returns-in-Fetching c = simp (c.put_unit.ensures.s_left, c.put_unit.ensures.s_spare, c.in-Fetching.is) (record { room_left = refl; room_spare = refl })

-- src/holds.rt:183:1
pub returns-in-Resuming : goal.returns-in-Resuming
returns-in-Resuming c = simp c.in-Resuming.is (record { room_left = refl; room_spare = refl })
