-- `trace_replay::answers::low_digit` meets its contract.
use mathlib.Core.Path.{◌≡◌, ap, ◌∙◌}
use Prim.Native.Nat.{◌%◌}
use native.Mathlib.Omega.{arith}
use Rattle.text.specs.Digits.{digit_letter}
use Rattle.trace_replay.proofs.answers.low_digit.Goals as goal

pub returns : goal.returns
returns c =
    let v = c.args.v in
    let e : v % 16 % 16 ≡ v % 16 = omega arith in
    c.letter.ensures ∙ ap digit_letter e
