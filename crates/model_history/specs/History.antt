-- Any cycles on a device, one after the other: where they lead, what the host sees, what they do to the array and what they begin.
use Rattle.std.specs.Prelude.{Bool, true, false, not, ◌&&◌, List, [], ◌∷◌, ℕ, ◌+◌, length, eqb, ltb, if◌then◌else◌}
use Rattle.device.specs.declared.Part.{Part}
use Rattle.device.specs.declared.Device.{Device}
use Rattle.device.specs.Parts.{length_of, start_of}
use Rattle.model_types.specs.declared.State.{State}
use Rattle.model_types.specs.declared.Cycle.{Cycle}
use Rattle.model_types.specs.declared.Effect.{Effect}
use Rattle.model_types.specs.declared.Effect.TheVariants.{Nothing, Program, Erase, CutProgram, CutErase}
use Rattle.model_rules.specs.Cycles.{decide_of}
use Rattle.model.specs.declared.Seen.{Seen}
use Rattle.model.specs.Arrays.{is_refusal, answer_of, array_after}
use Rattle.model.specs.Begun.{begun_by}

-- a cycle with the residue that is lent with it
pub record Bus : Type 0 where
  pub cycle : Cycle
  pub residue : List ℕ

-- a device between two cycles
pub record World : Type 0 where
  pub state : State
  pub bytes : List ℕ

-- .. by its two parts
abbrev pub world_of : State → List ℕ → World
world_of s xs = record { state = s; bytes = xs }

-- cycles with no residue
abbrev pub buses_of : List Cycle → List Bus
buses_of [] = []
buses_of (c ∷ cs) = record { cycle = c; residue = [] } ∷ buses_of cs

-- a device after one cycle
abbrev pub stepped : Device → World → Bus → World
stepped d v b =
    record {
      state = (answer_of d v.state b.cycle v.bytes b.residue).state;
      bytes = array_after d v.state b.cycle v.bytes b.residue;
    }

-- where the cycles lead
abbrev pub world_after : Device → World → List Bus → World
world_after d v [] = v
world_after d v (b ∷ bs) = world_after d (stepped d v b) bs

-- what the host sees of one cycle, and of the cycles
abbrev pub seen_on : Device → World → Bus → Seen
seen_on d v b = (answer_of d v.state b.cycle v.bytes b.residue).seen

-- .. of each of the cycles, in their order
abbrev pub seen_in : Device → World → List Bus → List Seen
seen_in d v [] = []
seen_in d v (b ∷ bs) = seen_on d v b ∷ seen_in d (stepped d v b) bs

-- what one cycle does to the array
abbrev pub effect_by : Device → World → Bus → Effect
effect_by d v b = (decide_of d v.state b.cycle (length v.bytes) (length b.residue)).effect

-- what they do to the array
abbrev pub effects_in : Device → World → List Bus → List Effect
effects_in d v [] = []
effects_in d v (b ∷ bs) = effect_by d v b ∷ effects_in d (stepped d v b) bs

-- what they begin
abbrev pub begun_over : Device → World → List Bus → List Effect
begun_over d v [] = []
begun_over d v (b ∷ bs) = begun_by d v.state b.cycle (length v.bytes) (length b.residue) ∷ begun_over d (stepped d v b) bs

-- the model accepts every one of them
abbrev pub accepts_all : Device → World → List Bus → Bool
accepts_all d v [] = true
accepts_all d v (b ∷ bs) =
    not (is_refusal (decide_of d v.state b.cycle (length v.bytes) (length b.residue)).reply) && accepts_all d (stepped d v b) bs

-- an effect that cuts an operation
abbrev pub is_cut : Effect → Bool
is_cut Nothing = false
is_cut (Program a b) = false
is_cut (Erase k) = false
is_cut (CutProgram a b) = true
is_cut (CutErase k) = true

-- no operation is cut (R-demand-3)
abbrev pub uncut : List Effect → Bool
uncut [] = true
uncut (e ∷ es) = not (is_cut e) && uncut es

-- the sum of a weight over operations
abbrev pub total_of : (Effect → ℕ) → List Effect → ℕ
total_of f [] = 0
total_of f (e ∷ es) = f e + total_of f es

-- the weight of an erase of block k, of a program at an address, and of a program in n bytes from a on
abbrev pub erase_of : ℕ → Effect → ℕ
erase_of k Nothing = 0
erase_of k (Program at b) = 0
erase_of k (Erase j) = if eqb j k then 1 else 0
erase_of k (CutProgram at b) = 0
erase_of k (CutErase j) = 0

-- the weight of a program at an address
abbrev pub program_at : ℕ → Effect → ℕ
program_at x Nothing = 0
program_at x (Program at b) = if eqb at x then 1 else 0
program_at x (Erase j) = 0
program_at x (CutProgram at b) = 0
program_at x (CutErase j) = 0

-- the weight of a program in n bytes from a on
abbrev pub program_in : ℕ → ℕ → Effect → ℕ
program_in a n Nothing = 0
program_in a n (Program at b) =
    if ltb at a then 0
    else if ltb at (a + n) then 1
    else 0
program_in a n (Erase j) = 0
program_in a n (CutProgram at b) = 0
program_in a n (CutErase j) = 0

-- the weight of a program in block k
abbrev pub program_of : Part → ℕ → Effect → ℕ
program_of part k = program_in (start_of part k) (length_of part k)

-- how many erases of block k cycles begin, and how many programs in it (R-demand-3, R-wear-3)
abbrev pub erases_begun : Device → World → ℕ → List Bus → ℕ
erases_begun d v k bs = total_of (erase_of k) (begun_over d v bs)

-- how many programs in block k cycles begin
abbrev pub programs_begun : Device → World → ℕ → List Bus → ℕ
programs_begun d v k bs = total_of (program_of d.part k) (begun_over d v bs)
