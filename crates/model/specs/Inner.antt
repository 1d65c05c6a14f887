-- A cycle after it was judged, on any array and residue. Not part of what a buyer must believe, and meant only for callers that know
-- refusals 1 to 6 not to apply: that it then is the cycle's answer is proved (`judged_answer`). Where one of them would apply, it
-- answers what the rules forbid: data, a new state or a changed array instead of the refusal.
use Rattle.std.specs.Prelude.{◌≡◌, Bool, true, ◌&&◌, List, ℕ, ◌≤◌, ◌<◌, length, eqb, ltb, leb, if◌then◌else◌}
use Rattle.device.specs.Parts.{size_of, length_of}
use Rattle.device.specs.declared.Part.{Part}
use Rattle.device.specs.declared.Device.{Device}
use Rattle.model_types.specs.declared.Effect.{Effect}
use Rattle.model_types.specs.declared.Effect.TheVariants.{Nothing, Program, Erase, CutProgram, CutErase}
use Rattle.model_types.specs.declared.State.{State}
use Rattle.model_types.specs.declared.Cycle.{Cycle}
use Rattle.model_rules.specs.Inner.{decide_judged}
use Rattle.model.specs.declared.Answer.{Answer}
use Rattle.model.specs.Arrays.{array_of, seen_of, reply_told}

-- an effect finds its units in an array and a residue of these lengths
abbrev pub Within : Effect → Part → ℕ → ℕ → Type 0
Within Nothing part n r = n ≡ n
Within (Program at b) part n r = at < n
Within (Erase k) part n r = n ≡ size_of part
Within (CutProgram at b) part n r = (at < n) × (0 < r)
Within (CutErase k) part n r = (n ≡ size_of part) × (length_of part k ≤ r)

-- the same as a test
abbrev pub finds_in : Effect → Part → ℕ → ℕ → Bool
finds_in Nothing part n r = true
finds_in (Program at b) part n r = ltb at n
finds_in (Erase k) part n r = eqb n (size_of part)
finds_in (CutProgram at b) part n r = ltb at n && ltb 0 r
finds_in (CutErase k) part n r = eqb n (size_of part) && leb (length_of part k) r

-- an effect done where it finds its units, and left undone elsewhere
abbrev pub done_of : Effect → Part → List ℕ → List ℕ → List ℕ
done_of e part rs xs = if finds_in e part (length xs) (length rs) then array_of e part rs xs else xs

-- the array after a cycle that was judged: only where refusals 1 to 6 do not apply
unfoldable pub array_judged : Device → State → Cycle → List ℕ → List ℕ → List ℕ
array_judged d s c xs rs = done_of (decide_judged d s c).effect d.part rs xs

-- the answer to it: only where they do not apply
unfoldable pub answer_judged : Device → State → Cycle → List ℕ → List ℕ → Answer
answer_judged d s c xs rs =
    record { seen = seen_of (decide_judged d s c).reply (array_judged d s c xs rs); state = (decide_judged d s c).state }

-- what it tells: only where they do not apply
unfoldable pub passed_told : Device → State → Cycle → List ℕ → List ℕ → ℕ × List ℕ
passed_told d s c xs rs = reply_told (decide_judged d s c).reply (array_judged d s c xs rs)
