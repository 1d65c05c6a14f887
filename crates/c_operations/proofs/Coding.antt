-- An identifier read at rest: the code, or refusal 9.
use mathlib.Core.Path.{◌≡◌, refl}
use mathlib.Core.Bool.{Bool, true, false}
use mathlib.Core.List.{List}
use Prim.Native.Nat.{ℕ}
use lib.ListN.{length}
use lib.Dec.{ltb}
use Rattle.std.specs.Prelude.{if◌then◌else◌}
use Rattle.model_rules.specs.Cycles.{code_place, identifier_of}
use Rattle.c_cycle.specs.Values.{device_in}
use Rattle.c_cycle.specs.declared.DeviceNumbers.{DeviceNumbers}
use Rattle.c_cycle.specs.declared.StateNumbers.{StateNumbers}
use Rattle.c_cycle.specs.declared.BusNumbers.{BusNumbers}
use Rattle.c_ordinary.specs.Ordinary.{Ordinary, Resting}
use Rattle.c_ordinary.proofs.Rest as rests
use Rattle.c_answers.specs.Answers.{refused_as, given_as}
use Rattle.c_operations.specs.Operations.{coded_as}
use Rattle.c_operations.proofs.Moving.{Told}

-- for code
pub codes : (d : DeviceNumbers) (n : StateNumbers) (b : BusNumbers) (xs rs : List ℕ) → Ordinary d b (length xs) → Resting n → b.kind ≡ 0 → n.mode ≡ 2
    → Told d n b xs rs (coded_as (device_in d).part n b.address)
unfolding coded_as
codes d n b xs rs o r k m = go (ltb 1 (code_place (device_in d).part b.address)) refl
  where
    go : (t : Bool) → ltb 1 (code_place (device_in d).part b.address) ≡ t
        → Told d n b xs rs (if t then refused_as n 9 else given_as n (identifier_of (device_in d).part b.address))
    go true e = rests.no_code d n b xs rs o r k m e
    go false e = rests.code_given d n b xs rs o r k m e (identifier_of (device_in d).part b.address) refl
