-- The sentences of a loader that is fed by hand, a field for each part.
use Rattle.std.specs.Prelude.{◌≡◌, Bool, true, false, List, ◌↔◌, ℕ, ◌≤◌, ◌<◌, length, get_or, set, replicate, eqb, if◌then◌else◌}
use Rattle.std.specs.Int.Bits.{bit_and}
use Rattle.device.specs.declared.Part.{Part}
use Rattle.model_types.specs.Cells.{ones}
use Rattle.model_types.specs.declared.Pins.{Pins}
use Rattle.loader.specs.declared.Stage.{Stage}
use Rattle.loader.specs.declared.Stage.TheVariants.{EraseWaiting, ProgramWaiting}
use Rattle.loader.specs.Statuses.{status_in}
use Rattle.loader_steps.specs.Front.{start_number}
use Rattle.loader_sheet.specs.Hand.{Hand, start_hand, fed, fed_all, Takes, EndedBy, is_polling, WaitBegins, is_first, never_ready}
use Rattle.loader_sheet.specs.Hand.{WantedTo}

-- which status ends a load at a poll of its erase: bits SR.7, SR.5, SR.4 and SR.3 (R-number-20, R-number-21, R-number-22, R-number-23)
pub record ErasePoll (w : List ℕ) (h : Hand) (v : ℕ) : Type 0 where
  pub by_20 : EndedBy 20 (fed w h v) ↔ ((bit_and (status_in v) 0x80 ≡ 0) × (h.loader.polls ≡ 65534))
  pub by_21 : EndedBy 21 (fed w h v) ↔ (bit_and (status_in v) 0x88 ≡ 0x88)
  pub by_22 : EndedBy 22 (fed w h v) ↔ (bit_and (status_in v) 0xB8 ≡ 0xB0)
  pub by_23 : EndedBy 23 (fed w h v) ↔ (bit_and (status_in v) 0xB8 ≡ 0xA0)
  pub not_24 : EndedBy 24 (fed w h v) → ⊥
  -- ready without SR.5 and SR.3 fills scratch with ones, and nothing else touches it
  pub scratch : (fed w h v).scratch
      ≡ (if eqb (bit_and (status_in v) 0xA8) 0x80 then replicate (length h.scratch) (ones h.loader.part) else h.scratch)

-- .. and at a poll of a program (R-number-24)
pub record ProgramPoll (w : List ℕ) (h : Hand) (v : ℕ) : Type 0 where
  pub by_20 : EndedBy 20 (fed w h v) ↔ ((bit_and (status_in v) 0x80 ≡ 0) × (h.loader.polls ≡ 65534))
  pub by_21 : EndedBy 21 (fed w h v) ↔ (bit_and (status_in v) 0x88 ≡ 0x88)
  pub by_22 : EndedBy 22 (fed w h v) ↔ (bit_and (status_in v) 0xB8 ≡ 0xB0)
  pub by_24 : EndedBy 24 (fed w h v) ↔ (bit_and (status_in v) 0xB8 ≡ 0x90)
  pub not_23 : EndedBy 23 (fed w h v) → ⊥
  -- ready without SR.4 and SR.3 puts the wanted unit into scratch, and nothing else touches it
  pub scratch : (fed w h v).scratch
      ≡ (if eqb (bit_and (status_in v) 0x98) 0x80 then set h.scratch h.loader.place (get_or w h.loader.place 0) else h.scratch)

-- a loader that is fed by hand, whatever it is handed
pub record FedByHand (w : List ℕ) : Type 0 where
  -- which byte gives 21 to 24, and what the polls do to scratch
  pub erase_poll : (h : Hand) (v : ℕ) → Takes w h → h.loader.stage ≡ EraseWaiting → ErasePoll w h v
  pub program_poll : (h : Hand) (v : ℕ) → Takes w h → h.loader.stage ≡ ProgramWaiting → ProgramPoll w h v
  -- each wait begins without polls ..
  pub afresh : (h : Hand) (v : ℕ) → Takes w h → is_polling h.loader.stage ≡ false → is_polling (fed w h v).loader.stage ≡ true
      → (fed w h v).loader.polls ≡ 0
  -- .. fewer than 65,535 polls without SR.7 leave it waiting, with scratch as it was ..
  pub waits : (h : Hand) (vs : List ℕ) → WaitBegins w h → never_ready vs ≡ true → length vs < 65535
      → ((fed_all w h vs).loader.stage ≡ h.loader.stage) × ((fed_all w h vs).loader.polls ≡ length vs)
      × ((fed_all w h vs).scratch ≡ h.scratch)
  -- .. and the 65,535th ends it by 20
  pub gives_up : (h : Hand) (vs : List ℕ) → WaitBegins w h → never_ready vs ≡ true → length vs ≡ 65535
      → EndedBy 20 (fed_all w h vs) × ((fed_all w h vs).scratch ≡ h.scratch)
  -- an end by 20 to 24 leaves scratch as the polls before it left it
  pub fault_leaves : (h : Hand) (v n : ℕ) → Takes w h → 20 ≤ n → n ≤ 24 → EndedBy n (fed w h v) → (fed w h v).scratch ≡ h.scratch
  -- from a start, a good end leaves scratch as wanted ..
  pub well_ends : (stage : Stage) (verify : Bool) (part : Part) (p : Pins) (k : ℕ) (sc vs : List ℕ) → is_first stage ≡ true
      → start_number part p k (length w) (length sc) ≡ 0 → EndedBy 0 (fed_all w (start_hand stage verify part p k sc) vs)
      → (fed_all w (start_hand stage verify part p k sc) vs).scratch ≡ w
  -- .. and an end by 25 as wanted below the place that it tells, and not so there
  pub apart_ends : (stage : Stage) (verify : Bool) (part : Part) (p : Pins) (k : ℕ) (sc vs : List ℕ) → is_first stage ≡ true
      → start_number part p k (length w) (length sc) ≡ 0 → EndedBy 25 (fed_all w (start_hand stage verify part p k sc) vs)
      → let e : Hand = fed_all w (start_hand stage verify part p k sc) vs in
      WantedTo e.loader.place w e.scratch × (get_or e.scratch e.loader.place 0 ≡ get_or w e.loader.place 0 → ⊥)
