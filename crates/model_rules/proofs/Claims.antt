-- What is claimed of a judged cycle. What the rules amount to is claimed with the model, whose cycle applies them.
use mathlib.Core.Path.{◌≡◌, refl}
use mathlib.Core.Bool.{Bool, true, false}
use mathlib.Core.List.{List, [], ◌∷◌}
use Prim.Native.Nat.{ℕ}
use lib.Dec.{ltb}
use Rattle.std.specs.Prelude.{if◌then◌else◌}
use Rattle.device.specs.Parts.{row_of, in_words, shape_of, is_large, code_of}
use Rattle.device.specs.declared.Part.{Part}
use Rattle.device.specs.declared.Device.{Device}
use Rattle.model_types.specs.declared.State.{State}
use Rattle.model_types.specs.declared.Cycle.{Cycle}
use Rattle.model_rules.specs.Cycles.{skips_last, code_place, identifier_of, decide_of}
use Rattle.model_judge.specs.Judging.{judge_of}
use Rattle.model_rules.specs.Inner.{decide_judged}
use Rattle.model_rules.proofs.Passing as passing

-- Where refusals 1 to 6 do not apply, `decide_judged` gives the table's decision.
pub passes : (d : Device) (s : State) (c : Cycle) (array residue : ℕ) → judge_of d s c array residue ≡ 0 → decide_of d s c array residue ≡ decide_judged d s c
passes = passing.passes

-- What identifier reads at addresses 0 to 4 give, 9 where they are refused 9: on devices 5 to 8 in byte mode A-1 does not matter.
abbrev named : Part → ℕ → ℕ
named p a = if ltb 1 (code_place p a) then 9 else identifier_of p a

abbrev pub named_as : ℕ → Bool → List ℕ
named_as n w =
    let p : Part = record { number = n; word = w } in
    named p 0 ∷ named p 1 ∷ named p 2 ∷ named p 3 ∷ named p 4 ∷ []

pub identifiers :
    (named_as 1 false ≡ 0x89 ∷ 0x94 ∷ 9 ∷ 9 ∷ 9 ∷ [])
    × (named_as 2 false ≡ 0x89 ∷ 0x95 ∷ 9 ∷ 9 ∷ 9 ∷ [])
    × (named_as 3 false ≡ 0x89 ∷ 0x94 ∷ 9 ∷ 9 ∷ 9 ∷ [])
    × (named_as 4 false ≡ 0x89 ∷ 0x95 ∷ 9 ∷ 9 ∷ 9 ∷ [])
    × (named_as 5 false ≡ 0x89 ∷ 0x89 ∷ 0x74 ∷ 0x74 ∷ 9 ∷ [])
    × (named_as 6 false ≡ 0x89 ∷ 0x89 ∷ 0x75 ∷ 0x75 ∷ 9 ∷ [])
    × (named_as 7 false ≡ 0x89 ∷ 0x89 ∷ 0x70 ∷ 0x70 ∷ 9 ∷ [])
    × (named_as 8 false ≡ 0x89 ∷ 0x89 ∷ 0x71 ∷ 0x71 ∷ 9 ∷ [])
    × (named_as 5 true ≡ 0x89 ∷ 0x2274 ∷ 9 ∷ 9 ∷ 9 ∷ [])
    × (named_as 6 true ≡ 0x89 ∷ 0x2275 ∷ 9 ∷ 9 ∷ 9 ∷ [])
    × (named_as 7 true ≡ 0x89 ∷ 0x4470 ∷ 9 ∷ 9 ∷ 9 ∷ [])
    × (named_as 8 true ≡ 0x89 ∷ 0x4471 ∷ 9 ∷ 9 ∷ 9 ∷ [])
unfolding row_of in_words shape_of is_large code_of skips_last code_place identifier_of
identifiers = (refl, refl, refl, refl, refl, refl, refl, refl, refl, refl, refl, refl)
