-- Two results that a promise of this crate allows are equal, and so is what it leaves in each thing lent.
use mathlib.Core.Path.{◌≡◌}
use mathlib.Core.List.{List}
use Prim.Native.Nat.{ℕ}
use Rattle.common.specs.Choice.{Unique}
use Rattle.common.proofs.Choice.{only}
use Rattle.common.specs.Lists.{Bytes}
use Rattle.units.specs.Units.{units, spare}
use Rattle.units.proofs.Unique.{left_unique}
use Rattle.device.specs.declared.Part.{Part}
use Rattle.device.specs.declared.Device.{Device}
use Rattle.model_types.specs.declared.Effect.{Effect}
use Rattle.model_types.specs.declared.Reply.{Reply}
use Rattle.model_types.specs.declared.State.{State}
use Rattle.model_types.specs.declared.Cycle.{Cycle}
use Rattle.model_states.specs.States.{fresh_state, reset_of}
use Rattle.model.specs.declared.Seen.{Seen}
use Rattle.model.specs.declared.Answer.{Answer}
use Rattle.model.specs.Arrays.{seen_of, answer_of, bytes_after, reply_told, cycle_told}
use Rattle.model.specs.Inner.{done_of, answer_judged, array_judged, passed_told}

pub cycle_unique : (d : Device) (s : State) (c : Cycle) (us rs : List ℕ) → Unique (λ (r : Answer). r ≡ answer_of d s c us rs)
cycle_unique d s c us rs = only (answer_of d s c us rs)

pub cycle_told_unique : (d : Device) (s : State) (c : Cycle) (us rs : List ℕ) → Unique (λ (told : ℕ × List ℕ). told ≡ cycle_told d s c us rs)
cycle_told_unique d s c us rs = only (cycle_told d s c us rs)

pub cycle_array_unique : (d : Device) (s : State) (c : Cycle) (array residue : List ℕ) → Unique (λ (left : List ℕ). left ≡ bytes_after d s c array residue)
cycle_array_unique d s c array residue = only (bytes_after d s c array residue)

pub fresh_unique : Unique (λ (r : State). r ≡ fresh_state)
fresh_unique = only fresh_state

pub reset_unique : (s : State) → Unique (λ (r : State). r ≡ reset_of s)
reset_unique s = only (reset_of s)

pub after_judging_unique : (d : Device) (s : State) (c : Cycle) (xs rs : List ℕ) → Unique (λ (r : Answer). r ≡ answer_judged d s c xs rs)
after_judging_unique d s c xs rs = only (answer_judged d s c xs rs)

pub after_judging_told_unique : (d : Device) (s : State) (c : Cycle) (xs rs : List ℕ) → Unique (λ (told : ℕ × List ℕ). told ≡ passed_told d s c xs rs)
after_judging_told_unique d s c xs rs = only (passed_told d s c xs rs)

-- what is left is told by its units and the byte that is in none; that a slice's elements are below 256 is a fact of slices
pub after_judging_array_unique : (d : Device) (s : State) (c : Cycle) (us rs rest xs ys : List ℕ) → Bytes xs → Bytes ys
    → (units d.part.word xs ≡ array_judged d s c us rs) × (spare d.part.word xs ≡ rest)
    → (units d.part.word ys ≡ array_judged d s c us rs) × (spare d.part.word ys ≡ rest)
    → xs ≡ ys
after_judging_array_unique d s c us rs rest xs ys = left_unique d.part.word (array_judged d s c us rs) rest xs ys

pub see_unique : (reply : Reply) (us : List ℕ) → Unique (λ (r : Seen). r ≡ seen_of reply us)
see_unique reply us = only (seen_of reply us)

pub see_told_unique : (reply : Reply) (us : List ℕ) → Unique (λ (told : ℕ × List ℕ). told ≡ reply_told reply us)
see_told_unique reply us = only (reply_told reply us)

pub put_array_unique : (effect : Effect) (part : Part) (us rs rest xs ys : List ℕ) → Bytes xs → Bytes ys
    → (units part.word xs ≡ done_of effect part rs us) × (spare part.word xs ≡ rest)
    → (units part.word ys ≡ done_of effect part rs us) × (spare part.word ys ≡ rest)
    → xs ≡ ys
put_array_unique effect part us rs rest xs ys = left_unique part.word (done_of effect part rs us) rest xs ys
