-- The walk over the records as the code makes it, with the first fault held in its state. Not part of what a buyer must believe: that it
-- comes to the check's answer is proved.
use Rattle.std.specs.Prelude.{Bool, not, ◌&&◌, List, [], ◌∷◌, ℕ, ◌+◌, eqb, ltb, if◌then◌else◌}
use Rattle.device.specs.declared.Device.{Device}
use Rattle.model_types.specs.declared.State.{State}
use Rattle.recording.specs.declared.Noted.{Noted}
use Rattle.recording.specs.declared.Recorded.{Recorded}
use Rattle.recording.specs.Recordings.{recorded_of, bytes_recorded}
use Rattle.recording_walk.specs.declared.Checked.{Checked}
use Rattle.recording_walk.specs.declared.Walk.{Walk}
use Rattle.recording_walk.specs.Lists.{held_of, ends_well, start_number}

-- the largest place
abbrev pub most : ℕ
most = 18446744073709551615

-- the place after a record: a fault stays where it is
unfoldable pub place_after : Bool → ℕ → ℕ
place_after fault at =
    if fault then at
    else if ltb at most then at + 1
    else at

-- the walk after a record that it made
abbrev pub went_by : Walk → Recorded → Walk
went_by w x = record { device = w.device; state = x.state; number = w.number; stopped = x.fault; at = place_after x.fault w.at }

-- one record more: a walk that has stopped stays
unfoldable pub went_on : Walk → Noted → List ℕ → Walk
went_on w r bytes = if w.stopped then w else went_by w (recorded_of w.device w.state r bytes)

-- .. the array after it
unfoldable pub bytes_on : Walk → Noted → List ℕ → List ℕ
bytes_on w r bytes = if w.stopped then bytes else bytes_recorded w.device w.state r bytes

-- the whole list
abbrev pub bytes_over : List ℕ → Walk → List Noted → List ℕ
bytes_over bytes w [] = bytes
bytes_over bytes w (r ∷ rs) = bytes_over (bytes_on w r bytes) (went_on w r bytes) rs

-- .. where the walk stands after the whole list
abbrev pub went_over : List ℕ → Walk → List Noted → Walk
went_over bytes w [] = w
went_over bytes w (r ∷ rs) = went_over (bytes_on w r bytes) (went_on w r bytes) rs

-- the walk at its start: it has stopped where it is refused
unfoldable pub walk_from : Device → State → ℕ → Walk
walk_from d s n = record { device = d; state = s; number = start_number d s n; stopped = not (eqb (start_number d s n) 0); at = 0 }

-- what a walk that has come to the end of the list answers
unfoldable pub end_of : Walk → List ℕ → List ℕ → Checked
end_of w promised bytes =
    record { number = w.number; accepted = not w.stopped && ends_well (held_of w.state bytes) promised; at = w.at; state = w.state }
