-- Two results that a promise of this crate allows are equal.
use mathlib.Core.Path.{◌≡◌}
use mathlib.Core.List.{List}
use Prim.Native.Nat.{ℕ}
use Rattle.common.specs.Choice.{Unique}
use Rattle.common.proofs.Choice.{only}
use Rattle.script_judge.specs.declared.Judged.{Judged}
use Rattle.script_judge.specs.Judges.{script_judged}

pub judge_script_unique : (text : List ℕ) → Unique (λ (r : Judged). r ≡ script_judged text)
judge_script_unique text = only (script_judged text)
