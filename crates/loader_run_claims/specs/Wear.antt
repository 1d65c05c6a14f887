-- The operations that a load begins, by the model's own definition, and what is wanted of it.
use Rattle.std.specs.Prelude.{Bool, true, List, [], ◌∷◌, ℕ, zero, suc, ◌+◌, ◌*◌, length, get_or, take, drop, replicate, eqb, if◌then◌else◌}
use Rattle.model_types.specs.Cells.{ones}
use Rattle.device.specs.declared.Part.{Part}
use Rattle.device.specs.declared.Device.{Device}
use Rattle.device.specs.Parts.{length_of, start_of}
use Rattle.model_types.specs.declared.Effect.{Effect}
use Rattle.model_types.specs.declared.Effect.TheVariants.{Nothing, Program, Erase, CutProgram, CutErase}
use Rattle.model.specs.Begun.{begun_by}
use Rattle.loader_steps.specs.Outs.{cycle_of}
use Rattle.loader_walk.specs.Walks.{rises_in}
use Rattle.loader_run.specs.Turns.{Config, turn_of}
use Rattle.loader_run.specs.Inner.{bound}
use Rattle.loader.specs.Stages.{is_ended}
use Rattle.loader.specs.declared.Work.TheVariants.{Load}
use Rattle.loader_run.specs.declared.Job.{Job}
use Rattle.loader_run.specs.Runs.{beginning, doing}

-- an operation noted before those that follow
abbrev pub noted : Effect → List Effect → List Effect
noted Nothing es = es
noted (Program a b) es = Program a b ∷ es
noted (Erase k) es = Erase k ∷ es
noted (CutProgram a b) es = CutProgram a b ∷ es
noted (CutErase k) es = CutErase k ∷ es

-- the operations of a list, without the places where nothing is
abbrev pub noted_all : List Effect → List Effect
noted_all [] = []
noted_all (e ∷ es) = noted e (noted_all es)

-- what one turn begins
unfoldable pub begun_turn : Device → List ℕ → Config → Effect
begun_turn d w c = if is_ended c.loader.stage then Nothing else begun_by d c.state (cycle_of c.loader w) (length c.bytes) 0

-- what k turns begin, in their order
abbrev pub begun_in : ℕ → Device → List ℕ → Config → List Effect
begun_in zero d w c = []
begun_in (suc k) d w c = noted (begun_turn d w c) (begun_in k d w (turn_of d w c))

-- what a job begins up to its end
abbrev pub begun_at : Job → List ℕ → List ℕ → List ℕ → List Effect
begun_at j xs w sc = begun_in (bound (length w)) j.device w (beginning j xs sc)

-- .. by a run
abbrev pub begun_by_load : Job → List ℕ → List ℕ → List ℕ → List Effect
begun_by_load j xs w sc = begun_at (doing (Load true) j) xs w sc

-- the programs that bring the bytes from place i on, k of them, from s to w, in a block that starts at a
abbrev pub programs_of : ℕ → ℕ → ℕ → List ℕ → List ℕ → List Effect
programs_of zero a i w s = []
programs_of (suc k) a i w s = if eqb (get_or s i 0) (get_or w i 0) then programs_of k a (i + 1) w s
    else Program (a + i) (get_or w i 0) ∷ programs_of k a (i + 1) w s

-- how many bytes differ
abbrev pub differing : ℕ → ℕ → List ℕ → List ℕ → ℕ
differing zero i w s = 0
differing (suc k) i w s = (if eqb (get_or s i 0) (get_or w i 0) then 0 else 1) + differing k (i + 1) w s

-- the n bytes that an array holds from a on
abbrev pub held_in : ℕ → ℕ → List ℕ → List ℕ
held_in a n xs = take n (drop a xs)

-- what block k of an array holds
abbrev pub held_by : Part → ℕ → List ℕ → List ℕ
held_by part k xs = held_in (start_of part k) (length_of part k) xs

-- what the programs of a load start from: all ones if some bit must rise, else what was held
abbrev pub base_of : Part → List ℕ → List ℕ → List ℕ
base_of part w ys = if rises_in w ys then replicate (length w) (ones part) else ys

-- erases and programs that a load begins
abbrev pub erases_of : List ℕ → List ℕ → ℕ
erases_of w ys = if rises_in w ys then 1 else 0

-- .. the programs: one for each unit that differs
abbrev pub programs_in : Part → List ℕ → List ℕ → ℕ
programs_in part w ys = differing (length w) 0 w (base_of part w ys)

-- the count of a good run: 2n + 3 + e(2 + E) + p(2 + P) (R-load-5)
abbrev pub formula : Device → List ℕ → List ℕ → ℕ
formula d w ys = 2 * length w + 3 + erases_of w ys * (2 + d.erase) + programs_in d.part w ys * (2 + d.program)

-- the count of a good load alone: n + 2 + e(2 + E) + p(2 + P) (R-load-5)
abbrev pub load_formula : Device → List ℕ → List ℕ → ℕ
load_formula d w ys = length w + 2 + erases_of w ys * (2 + d.erase) + programs_in d.part w ys * (2 + d.program)

-- .. with or without the verify after it
abbrev pub formula_by : Bool → Device → List ℕ → List ℕ → ℕ
formula_by verify d w ys = if verify then formula d w ys else load_formula d w ys

-- the operations that a load of a block k at a begins, in their order (R-demand-3)
abbrev pub operations_of : Part → ℕ → ℕ → List ℕ → List ℕ → List Effect
operations_of part k a w ys = if rises_in w ys then Erase k ∷ programs_of (length w) a 0 w (base_of part w ys)
    else programs_of (length w) a 0 w (base_of part w ys)
