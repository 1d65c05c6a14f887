-- The bench cards, on bench T (device 3) and bench B (device 4) with P 2, E 3 and S 1 where nothing else is said.
use Rattle.std.specs.Prelude.{◌≡◌, Bool, true, false, ◌&&◌, List, [], ◌∷◌, ◌++◌, ℕ, suc, ◌+◌, ◌<◌, length, get_or, replicate, eqb}
use Rattle.device.specs.declared.Device.{Device}
use Rattle.device.specs.Parts.{unknown_device, size_of, block_of}
use Rattle.common.specs.Lists.{Bytes}
use Rattle.model_types.specs.declared.Kind.TheVariants.{Read, Write}
use Rattle.model_types.specs.declared.Pins.{Pins}
use Rattle.model_types.specs.declared.Mode.TheVariants.{Array, Status}
use Rattle.model_types.specs.declared.Phase.TheVariants.{Suspended}
use Rattle.model_states.specs.States.{fresh_state, is_at_rest}
use Rattle.model_types.specs.Counts.{unworn, worn}
use Rattle.model.specs.declared.Seen.{Seen}
use Rattle.model.specs.declared.Seen.TheVariants.{NoData, Data, Refused}
use Rattle.file_check.specs.Check.{check_of}
use Rattle.model_history.specs.History.{Bus, World, world_after, seen_on, seen_in}
use Rattle.loader_run_claims.specs.Wear.{held_in}
use Rattle.loader_run_claims.specs.Ends.{erased_from}
use Rattle.loader.specs.declared.Work.TheVariants.{Load}
use Rattle.loader_run.specs.Runs.{run_left, job_of}

-- a part with P and E; S is 1
abbrev pub device : ℕ → ℕ → ℕ → Device
device number program erase = record { part = record { number = number; word = false }; program = program; erase = erase; suspend = 1 }

-- bench T with P 2 and E 3
abbrev pub device_t : Device
device_t = device 3 2 3

-- bench B with P 2 and E 3
abbrev pub device_b : Device
device_b = device 4 2 3

-- RP# high or at V_HH, with VPP in millivolts
abbrev pub pins_at : ℕ → ℕ → Pins
pins_at rp vpp = record { rp = rp; vpp = vpp; wp = 0 }

-- RP# high and 12 V
abbrev pub normal : Pins
normal = pins_at 1 12000

-- a write and a status or array read, OE# normal, with the residue that is lent
abbrev pub write : Pins → ℕ → ℕ → Bus
write p a b = record { cycle = record { kind = Write; pins = p; oe = 0; address = a; «data» = b }; residue = [] }

-- a read at an address
abbrev pub read : Pins → ℕ → Bus
read p a = record { cycle = record { kind = Read; pins = p; oe = 0; address = a; «data» = 0 }; residue = [] }

-- a cycle with residue lent
abbrev pub lent : List ℕ → Bus → Bus
lent rs b = record { cycle = b.cycle; residue = rs }

-- n bytes of one value
abbrev pub same : ℕ → ℕ → List ℕ
same n b = replicate {A = ℕ} n b

-- a fresh device with these bytes
abbrev pub fresh : List ℕ → World
fresh xs = record { state = fresh_state; bytes = xs }

-- two lists are the same
abbrev pub alike : List ℕ → List ℕ → Bool
alike [] [] = true
alike [] (y ∷ ys) = false
alike (x ∷ xs) [] = false
alike (x ∷ xs) (y ∷ ys) = eqb x y && alike xs ys

-- this status and this whole array
abbrev pub shows : World → ℕ → List ℕ → Bool
shows v sr xs = eqb v.state.status sr && alike v.bytes xs

-- a read gave this byte
abbrev pub gives : ℕ → Seen → Bool
gives b NoData = false
gives b (Data x) = eqb b x
gives b (Refused n) = false

-- a cycle was refused by this number
abbrev pub refuses : ℕ → Seen → Bool
refuses n NoData = false
refuses n (Data x) = false
refuses n (Refused m) = eqb n m

-- a bench array of one value, and one with another byte at 10H
abbrev pub plain : ℕ → List ℕ
plain b = same 16384 b

-- a bench array of one value with another byte at 10H
abbrev pub spot : ℕ → ℕ → List ℕ
spot b x = same 16 b ++ (x ∷ same 16367 b)

-- 1: 5AH programmed over A5H leaves 00H, and the status is 80H (R-card-1)
abbrev pub card1 : Bool
card1 =
    shows (world_after device_t (fresh (spot 255 0xA5)) (write normal 16 0x40 ∷ write normal 16 0x5A ∷ read normal 16
    ∷ read normal 16 ∷ []))
    0x80 (spot 255 0)

-- 2: FFH programmed over 3CH, on every device with P = m + 1, at every address outside the boot block: m reads give 00H, busy, the
-- P-th gives 80H, and every byte is what it was, the 3CH too (R-card-2)
abbrev pub cycles2 : ℕ → ℕ → List Bus
cycles2 m a = write normal a 0x40 ∷ write normal a 0xFF ∷ replicate {A = Bus} (suc m) (read normal a)

-- .. what the cycles of card 2 show and leave
abbrev pub Card2 : Type 0
Card2 = (d : Device) (m a : ℕ) (xs : List ℕ) → unknown_device d ≡ false → d.program ≡ suc m → a < size_of d.part
    → (block_of d.part a ≡ 0 → ⊥)
    → length xs ≡ size_of d.part → get_or xs a 0 ≡ 0x3C
    → (seen_in d (fresh xs) (cycles2 m a) ≡ NoData ∷ NoData ∷ (replicate {A = Seen} m (Data 0) ++ (Data 0x80 ∷ [])))
    × (world_after d (fresh xs) (cycles2 m a) ≡ record { state = is_at_rest fresh_state Status 0x80; bytes = xs })
    × (get_or (world_after d (fresh xs) (cycles2 m a)).bytes a 0 ≡ 0x3C)

-- 3: 20H and then FFH show B0H, and nothing is erased in the E cycles and one more that follow (R-card-3)
abbrev pub card3 : Bool
card3 =
    shows (world_after device_b (fresh (plain 0))
    (write normal 1024 0x20 ∷ write normal 1024 0xFF ∷ read normal 1024 ∷ read normal 1024 ∷ read normal 1024 ∷ read normal 1024 ∷ []))
    0xB0 (plain 0)

-- 4: data sent, and an erase confirmed, at 6,500 mV show 98H and A8H; nothing starts (R-card-4)
abbrev pub card4 : Bool
card4 =
    shows (world_after device_b (fresh (plain 255))
    (write normal 1024 0x40 ∷ write (pins_at 1 6500) 1024 0 ∷ read normal 1024 ∷ read normal 1024 ∷ [])) 0x98 (plain 255)
    && shows
    (world_after device_b (fresh (plain 0))
    (write normal 1024 0x20 ∷ write (pins_at 1 6500) 1024 0xD0 ∷ read normal 1024 ∷ read normal 1024 ∷ read normal 1024 ∷ [])) 0xA8
    (plain 0)

-- 5: 6,501 and 11,399 mV are refused 4, and the awaited byte is still awaited; at 11,400 it is programmed (R-card-5)
abbrev pub awaiting : World
awaiting = world_after device_t (fresh (spot 255 0xA5)) (write normal 16 0x40 ∷ [])

-- .. what they show and leave
abbrev pub card5 : Bool
card5 =
    (refuses 4 (seen_on device_t awaiting (write (pins_at 1 6501) 16 0x5A))
    && refuses 4 (seen_on device_t awaiting (write (pins_at 1 11399) 16 0x5A)))
    && shows
    (world_after device_t awaiting
    (write (pins_at 1 6501) 16 0 ∷ write (pins_at 1 11399) 16 0 ∷ write (pins_at 1 11400) 16 0x5A ∷ read (pins_at 1 11400) 16
    ∷ read (pins_at 1 11400) 16 ∷ [])) 0x80 (spot 255 0)

-- 6: an erase of the boot block with RP# high shows A0H and erases nothing; with RP# at V_HH it erases that block alone (R-card-6)
abbrev pub card6 : Bool
card6 =
    shows (world_after device_b (fresh (plain 0))
    (write normal 0 0x20 ∷ write normal 0 0xD0 ∷ read normal 0 ∷ read normal 0 ∷ read normal 0 ∷ [])) 0xA0 (plain 0)
    && shows
    (world_after device_b (fresh (plain 0))
    (write normal 0 0x20 ∷ write (pins_at 2 12000) 0 0xD0 ∷ read normal 0 ∷ read normal 0 ∷ read normal 0 ∷ [])) 0x80
    (same 1024 255 ++ same 15360 0)

-- 7: an erase suspended, on every device with E = e + 2 and S = m + 1, at every address outside the boot block: after B0H m reads
-- give 00H, the S-th gives C0H, the erase has one cycle less to go and is counted once, at its block, and every byte is what it was
-- (R-card-7)
abbrev pub cycles7 : ℕ → ℕ → List Bus
cycles7 m a = write normal a 0x20 ∷ write normal a 0xD0 ∷ write normal a 0xB0 ∷ replicate {A = Bus} (suc m) (read normal a)

-- .. what the cycles of card 7 show and leave
abbrev pub Card7 : Type 0
Card7 = (d : Device) (e m a : ℕ) (xs : List ℕ) → unknown_device d ≡ false → d.erase ≡ e + 2 → d.suspend ≡ suc m → a < size_of d.part
    → (block_of d.part a ≡ 0 → ⊥) → length xs ≡ size_of d.part
    → (seen_in d (fresh xs) (cycles7 m a) ≡ NoData ∷ NoData ∷ NoData ∷ (replicate {A = Seen} m (Data 0) ++ (Data 0xC0 ∷ [])))
    × (world_after d (fresh xs) (cycles7 m a)
    ≡ record {
      state = record {
        mode = Status;
        status = 0xC0;
        phase = Suspended;
        left = e + 1;
        address = a;
        wear = worn unworn (block_of d.part a);
      };
      bytes = xs;
    })

-- 8: 20H in block 1 and D0H in block 2 erase block 2, and no other (R-card-8)
abbrev pub card8 : Bool
card8 =
    shows (world_after device_b (fresh (plain 0))
    (write normal 1024 0x20 ∷ write normal 1536 0xD0 ∷ read normal 1024 ∷ read normal 1024 ∷ read normal 1024 ∷ [])) 0x80
    (same 1536 0 ++ (same 512 255 ++ same 14336 0))

-- 9: a program of 0FH over F0H, cut by VPP with a residue of 33H, leaves 30H and shows 98H (R-card-9)
abbrev pub card9 : Bool
card9 =
    shows (world_after device_t (fresh (spot 255 0xF0))
    (write normal 16 0x40 ∷ write normal 16 0x0F ∷ lent (0x33 ∷ []) (read (pins_at 1 5000) 16) ∷ [])) 0x98 (spot 255 0x30)

-- a good run on block 1 of bench T, fresh, makes n cycles and counts one erase of that block or none, whatever the other blocks and
-- scratch hold
abbrev pub Counts : ℕ → Bool → List ℕ → List ℕ → Type 0
Counts n erases held wanted = (xs sc : List ℕ) → Bytes xs → length xs ≡ 16384 → length sc ≡ 512 → held_in 0x3A00 512 xs ≡ held
    → (run_left (job_of (Load true) device_t fresh_state normal 1) xs wanted sc).ran ≡ record {
      count = n;
      end = 0;
      address = 0;
      state = is_at_rest (erased_from erases 1 fresh_state) Array 0x80;
    }

-- 10: the block held FFH, wanted is 5AH and then FFH: 1,031 cycles, no erase (R-card-10)
abbrev pub Card10 : Type 0
Card10 = Counts 1031 false (same 512 255) (0x5A ∷ same 511 255)

-- 11: it held 00H, wanted is FFH: 1,032, one erase; it held what is wanted, whatever that is: 1,027, none (R-card-11)
abbrev pub Card11 : Type 0
Card11 = Counts 1032 true (same 512 0) (same 512 255) × ((w : List ℕ) → length w ≡ 512 → Bytes w → Counts 1027 false w w)

-- a good load alone there makes n cycles, and its scratch ends as wanted
abbrev pub LoadCounts : ℕ → List ℕ → List ℕ → Type 0
LoadCounts n held wanted = (xs sc : List ℕ) → Bytes xs → length xs ≡ 16384 → length sc ≡ 512 → held_in 0x3A00 512 xs ≡ held
    → ((run_left (job_of (Load false) device_t fresh_state normal 1) xs wanted sc).ran.count ≡ n)
    × ((run_left (job_of (Load false) device_t fresh_state normal 1) xs wanted sc).ran.end ≡ 0)
    × ((run_left (job_of (Load false) device_t fresh_state normal 1) xs wanted sc).scratch ≡ wanted)

-- 10 and 11 without the verify: 518; 519 and 514
abbrev pub Loads : Type 0
Loads =
    LoadCounts 518 (same 512 255) (0x5A ∷ same 511 255) × LoadCounts 519 (same 512 0) (same 512 255)
    × ((w : List ℕ) → length w ≡ 512 → Bytes w → LoadCounts 514 w w)

-- 12: the check over 510 bytes FFH is 8,629 (R-card-12)
abbrev pub card12 : Bool
card12 = eqb (check_of (same 510 255)) 8629

-- the table of all twelve, and the loads alone of 10 and 11 (R-card-13)
pub record Cards : Type 0 where
  pub one : card1 ≡ true
  pub two : Card2
  pub three : card3 ≡ true
  pub four : card4 ≡ true
  pub five : card5 ≡ true
  pub six : card6 ≡ true
  pub seven : Card7
  pub eight : card8 ≡ true
  pub nine : card9 ≡ true
  pub ten : Card10
  pub eleven : Card11
  pub twelve : card12 ≡ true
  pub loads : Loads
