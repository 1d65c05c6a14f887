-- What a cycle does to the array, and what the host sees: on lists of units, and at the end on the lent bytes.
use Rattle.std.specs.Prelude.{◌≡◌, Bool, true, false, List, [], ◌∷◌, ℕ, length, get_or, set, take, replicate, if◌then◌else◌}
use Rattle.std.specs.Int.Bits.{bit_and, bit_or}
use Rattle.model_types.specs.Cells.{ones}
use Rattle.common.specs.Lists.{overlaid}
use Rattle.device.specs.Parts.{start_of, length_of}
use Rattle.device.specs.declared.Part.{Part}
use Rattle.device.specs.declared.Device.{Device}
use Rattle.model_types.specs.declared.Effect.{Effect}
use Rattle.model_types.specs.declared.Effect.TheVariants.{Nothing, Program, Erase, CutProgram, CutErase}
use Rattle.model_types.specs.declared.Reply.{Reply}
use Rattle.model_types.specs.declared.Reply.TheVariants.{Quiet, Gives, GivesArray, Refuses}
use Rattle.model_types.specs.declared.State.{State}
use Rattle.model_types.specs.declared.Cycle.{Cycle}
use Rattle.units.specs.Units.{units, lent, back}
use Rattle.model_rules.specs.Cycles.{decide_of}
use Rattle.model.specs.declared.Seen.{Seen}
use Rattle.model.specs.declared.Seen.TheVariants.{NoData, Data, Refused}
use Rattle.model.specs.declared.Answer.{Answer}

-- an erase that ends leaves ones in its whole block (R-cycle-5)
unfoldable pub erased : Part → ℕ → List ℕ → List ℕ
erased part k xs = overlaid xs (start_of part k) (replicate (length_of part k) (ones part))

-- an erase that is cut leaves residue unit i at unit i of the block (R-cycle-7)
unfoldable pub residual : Part → ℕ → List ℕ → List ℕ → List ℕ
residual part k rs xs = overlaid xs (start_of part k) (take (length_of part k) rs)

-- the array after an effect: a program leaves old AND data; cut, it leaves old AND (data OR r), r the residue's first unit
-- (R-cycle-5, R-cycle-7)
abbrev pub array_of : Effect → Part → List ℕ → List ℕ → List ℕ
array_of Nothing part rs xs = xs
array_of (Program at b) part rs xs = set xs at (bit_and (get_or xs at 0) b)
array_of (Erase k) part rs xs = erased part k xs
array_of (CutProgram at b) part rs xs = set xs at (bit_and (get_or xs at 0) (bit_or b (get_or rs 0 0)))
array_of (CutErase k) part rs xs = residual part k rs xs

-- a reply that is a refusal
abbrev pub is_refusal : Reply → Bool
is_refusal Quiet = false
is_refusal (Gives b) = false
is_refusal (GivesArray a) = false
is_refusal (Refuses m) = true

-- what the host sees of a reply
abbrev pub seen_of : Reply → List ℕ → Seen
seen_of Quiet xs = NoData
seen_of (Gives v) xs = Data v
seen_of (GivesArray a) xs = Data (get_or xs a 0)
seen_of (Refuses n) xs = Refused n

-- what the host sees by its cases: the refusal's number, 0 where there is none, and the data given (R-promise-2)
abbrev pub seen_told : Seen → ℕ × List ℕ
seen_told NoData = (0, [])
seen_told (Data v) = (0, v ∷ [])
seen_told (Refused n) = (n, [])

-- what a reply tells: of the array, the unit at its address
abbrev pub reply_told : Reply → List ℕ → ℕ × List ℕ
reply_told Quiet xs = (0, [])
reply_told (Gives v) xs = (0, v ∷ [])
reply_told (GivesArray a) xs = (0, get_or xs a 0 ∷ [])
reply_told (Refuses n) xs = (n, [])

-- a cycle is accepted: what the host sees is no refusal
abbrev pub Accepted : Answer → Type 0
Accepted a = (m : ℕ) → a.seen ≡ Refused m → ⊥

-- the array after a cycle
unfoldable pub array_after : Device → State → Cycle → List ℕ → List ℕ → List ℕ
array_after d s c xs rs = array_of (decide_of d s c (length xs) (length rs)).effect d.part rs xs

-- the answer to a cycle: its read sees the array as steps 1 to 3 leave it (R-demand-2)
unfoldable pub answer_of : Device → State → Cycle → List ℕ → List ℕ → Answer
answer_of d s c xs rs =
    record {
      seen = seen_of (decide_of d s c (length xs) (length rs)).reply (array_after d s c xs rs);
      state = (decide_of d s c (length xs) (length rs)).state;
    }

-- what a cycle tells
unfoldable pub cycle_told : Device → State → Cycle → List ℕ → List ℕ → ℕ × List ℕ
cycle_told d s c xs rs = reply_told (decide_of d s c (length xs) (length rs)).reply (array_after d s c xs rs)

-- the lent bytes after a cycle: a refused cycle leaves them as they are, an accepted one the bytes of the array's units (R-cycle-8)
unfoldable pub bytes_after : Device → State → Cycle → List ℕ → List ℕ → List ℕ
bytes_after d s c array residue =
    let us : List ℕ = lent d.part.word array in
    let rs : List ℕ = units d.part.word residue in
    if is_refusal (decide_of d s c (length us) (length rs)).reply then array else back d.part.word (array_after d s c us rs)
