-- `recording_answer::put_hex` meets its contract: the last of sixteen digits.
use mathlib.Core.Path.{refl, ap, ◌∙◌}
use mathlib.Core.List.{List}
use Prim.Native.Nat.{ℕ, ◌-◌}
use lib.ListN.{take, drop}
use Rattle.text.specs.Writing.{laid_at, behind}
use Rattle.recording_answer.proofs.Widths.{hex_last}
use Rattle.recording_answer.proofs.put_hex.Goals as goal

pub returns : goal.returns
returns c =
    let a = c.args in
    let p = c.put_text in
    let from = 16 - a.n in
    let e = ap (λ (z : List ℕ). take (16 - from) (drop from z)) c.hex.ensures ∙ hex_last a.n a.v from c.requires refl in
    record { result = p.ensures.result ∙ ap (λ (z : List ℕ). behind a.out.now a.at z) e; out_left = p.ensures.out_left ∙ ap (λ (z : List ℕ). laid_at a.out.now a.at z) e }
