-- `recording_answer::put_data` meets its contract.
use mathlib.Core.Path.{sym, ap, ◌∙◌, subst}
use mathlib.Core.List.{[]}
use Prim.Native.Nat.{ℕ, ◌≤◌}
use Rattle.text.specs.Digits.{spelled}
use Rattle.text.specs.Writing.{laid_at, behind}
use Rattle.recording_answer.proofs.Widths.{data_most}
use Rattle.recording_answer.proofs.put_data.Goals as goal

pub put_hex-requires : goal.put_hex-requires
put_hex-requires c = subst (λ (k : ℕ). k ≤ 16) (sym c.data_width-n.ensures) (data_most c.args.v)

pub returns : goal.returns
returns c =
    let a = c.args in
    let p = c.put_hex in
    let w = c.data_width-n.ensures in record { result = p.ensures.result ∙ ap (λ (n : ℕ). behind a.out.now a.at (spelled 16 n a.v [])) w; out_left = p.ensures.out_left ∙ ap (λ (n : ℕ). laid_at a.out.now a.at (spelled 16 n a.v [])) w }
