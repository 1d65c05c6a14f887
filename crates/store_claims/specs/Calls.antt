-- Calls of the store on one device, one after the other: each an add or a drop made by its run, or refused.
use Rattle.std.specs.Prelude.{◌≡◌, List, [], ◌∷◌, ◌++◌, true, false, ℕ, ◌+◌, ◌/◌, ◌≤◌, ◌<◌, length, get_or, eqb, ltb, if◌then◌else◌}
use Rattle.common.specs.Lists.{Bytes}
use Rattle.device.specs.declared.Part.{Part}
use Rattle.device.specs.declared.Device.{Device}
use Rattle.device.specs.Parts.{length_of, start_of}
use Rattle.model_types.specs.declared.Pins.{Pins}
use Rattle.model_types.specs.declared.State.{State}
use Rattle.model_levels.specs.Levels.{vpp_high}
use Rattle.model_history.specs.History.{total_of, erase_of}
use Rattle.loader_walk.specs.Walks.{rises_in}
use Rattle.loader_run_claims.specs.Wear.{begun_at}
use Rattle.store_places.specs.Store.{Change, adds, drops, done_by, is_proper, find_of, changed_all, last_under}
use Rattle.store_survey.specs.Survey.{reader_number}
use Rattle.file_codec.specs.File.{limit, Outcome, refused, made}
use Rattle.store.specs.Stores.{main_of, drop_number, add_number, ChangeLeft, drop_left, add_left, change_job}

-- the places of a part's main block
abbrev pub places_for : Part → ℕ
places_for part = length_of part 3 / 512

-- 224 places, 28 on the bench devices (R-store-3)
abbrev pub places_at : ℕ → ℕ
places_at number = if ltb number 3 then 224 else 28

-- a call: the device's state and the levels, lent memory and scratch, and the change asked for
pub record Call : Type 0 where
  pub state : State
  pub pins : Pins
  pub memory : List ℕ
  pub scratch : List ℕ
  pub change : Change

-- the first refusal of a change on an array, 0 where nothing refuses it
abbrev pub number_by : Change → Device → State → Pins → List ℕ → ℕ → ℕ → ℕ
number_by (adds ℓ b) d s p xs memory scratch = add_number d s p xs memory scratch b ℓ
number_by (drops ℓ) d s p xs memory scratch = drop_number d s p xs memory scratch ℓ

-- .. of a call
abbrev pub call_number : Device → List ℕ → Call → ℕ
call_number d xs c = number_by c.change d c.state c.pins xs (length c.memory) (length c.scratch)

-- what a change returns and leaves
abbrev pub change_left_by : Change → Device → State → Pins → List ℕ → List ℕ → List ℕ → ChangeLeft
change_left_by (adds ℓ b) d s p xs memory scratch = add_left d s p xs memory scratch b ℓ
change_left_by (drops ℓ) d s p xs memory scratch = drop_left d s p xs memory scratch ℓ

-- .. of a call
abbrev pub call_left : Device → List ℕ → Call → ChangeLeft
call_left d xs c = change_left_by c.change d c.state c.pins xs c.memory c.scratch

-- what a call wants in the main block: its contents after the change
abbrev pub contents_by : Device → List ℕ → Call → List ℕ
contents_by d xs c = done_by (reader_number limit) c.change (main_of d.part xs)

-- a call is refused before a cycle, or its run ends well (R-store-4)
abbrev pub Settled : Device → List ℕ → Call → Type 0
Settled d xs c = call_number d xs c ≡ 0 → (call_left d xs c).ran.end ≡ 0

-- the array after calls, one after the other
abbrev pub array_through : Device → List Call → List ℕ → List ℕ
array_through d [] xs = xs
array_through d (c ∷ cs) xs = array_through d cs (call_left d xs c).bytes

-- each of them is refused before a cycle or ends well
abbrev pub AllSettled : Device → List Call → List ℕ → Type 0
AllSettled d [] xs = Unit {0}
AllSettled d (c ∷ cs) xs = Settled d xs c × AllSettled d cs (call_left d xs c).bytes

-- the changes of those that nothing refused
abbrev pub changes_made : Device → List Call → List ℕ → List Change
changes_made d [] xs = []
changes_made d (c ∷ cs) xs = (if eqb (call_number d xs c) 0 then c.change ∷ [] else []) ++ changes_made d cs (call_left d xs c).bytes

-- a file that is handed over is bytes
abbrev pub FileBytes : Change → Type 0
FileBytes (adds ℓ b) = Bytes b
FileBytes (drops ℓ) = Unit {0}

-- .. in each of several calls
abbrev pub AllBytes : List Call → Type 0
AllBytes [] = Unit {0}
AllBytes (c ∷ cs) = FileBytes c.change × AllBytes cs

-- busy times of 16 bits, as all that code can be handed
pub record Timed (d : Device) : Type 0 where
  pub programs : d.program ≤ 65535
  pub erases : d.erase ≤ 65535

-- what any calls leave, each refused before a cycle or ended well (R-store-4)
pub record Kept (d : Device) (cs : List Call) (xs : List ℕ) : Type 0 where
  -- the main block is what the changes that were made leave of it, one after the other
  pub block : main_of d.part (array_through d cs xs) ≡ changed_all (reader_number limit) (changes_made d cs xs) (main_of d.part xs)
  -- under each letter stands the file last added and not dropped, or the one that stood there at first
  pub found : (m : ℕ) → find_of (reader_number limit) m (main_of d.part (array_through d cs xs))
      ≡ last_under m (changes_made d cs xs) (find_of (reader_number limit) m (main_of d.part xs))
  -- a proper store stays one
  pub proper : is_proper (reader_number limit) (main_of d.part xs) ≡ true
      → is_proper (reader_number limit) (main_of d.part (array_through d cs xs)) ≡ true
  -- every byte outside the main block is as before
  pub before : (x : ℕ) → x < start_of d.part 3 → get_or (array_through d cs xs) x 0 ≡ get_or xs x 0
  pub behind : (x : ℕ) → start_of d.part 3 + length_of d.part 3 ≤ x → get_or (array_through d cs xs) x 0 ≡ get_or xs x 0
  pub size : length (array_through d cs xs) ≡ length xs
  pub bytes : Bytes (array_through d cs xs)

-- what a find answers of the file that should stand under a letter: 42 where there is none (R-number-42)
abbrev pub file_or42 : List ℕ → Outcome
file_or42 [] = refused 42
file_or42 (x ∷ f) = made (x ∷ f)

-- VPP is high in each call
abbrev pub AllHigh : Device → List Call → Type 0
AllHigh d [] = Unit {0}
AllHigh d (c ∷ cs) = (vpp_high d.part c.pins ≡ true) × AllHigh d cs

-- a call that begins no erase: no bit must rise, no erase is among the operations begun, and no count of erases goes up
pub record Spared (d : Device) (xs : List ℕ) (c : Call) : Type 0 where
  pub falls : rises_in (contents_by d xs c) (main_of d.part xs) ≡ false
  pub begun : (k : ℕ) → total_of (erase_of k) (begun_at (change_job d c.state c.pins) xs (contents_by d xs c) c.scratch) ≡ 0
  pub wear : (call_left d xs c).ran.state.wear ≡ c.state.wear
