-- `file_writer::put_check` meets its contract.
use mathlib.Core.List.{[], ◌∷◌, ◌++◌}
use Prim.Native.Nat.{ℕ, ◌/◌, ◌%◌}
use lib.ListN.{take, drop}
use lib.Seq.{sets-eq}
use Rattle.file_check.specs.Check.{check_of}
use native.Mathlib.Omega.{arith}
use mathlib.Core.Path.{◌≡◌, ap, ◌∙◌}
use Rattle.file_writer.proofs.put_check.Goals as goal

pub returns : goal.returns
returns c =
    let o = c.args.out.now in
    let r = c.check-c.result in
    let e : r ≡ check_of (take 510 o) = c.check-c.ensures in
    sets-eq (r / 256 ∷ r % 256 ∷ []) o 510 (omega arith) ∙ ap (λ (v : ℕ). (take 510 o ++ (v / 256 ∷ v % 256 ∷ [])) ++ drop 512 o) e
