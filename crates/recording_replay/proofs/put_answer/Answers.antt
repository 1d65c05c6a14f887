-- `recording_replay::put_answer` meets its contract.
use mathlib.Core.Path.{◌≡◌, ap, ◌∙◌}
use mathlib.Core.List.{List, [], ◌∷◌}
use Prim.Native.Nat.{ℕ}
use lib.ListN.{take}
use Rattle.text.specs.Writing.{laid_at, behind}
use Rattle.text.proofs.Laying.{laid_first, laid_more}
use Rattle.trace_replay.specs.Answers.{answer_text}
use Rattle.recording_replay.proofs.put_answer.Goals as goal

pub returns : goal.returns
unfolding answer_text
returns c =
    let a = c.args in
    let xs = a.out.now in
    let w = c.write_answer in
    let p0 = c.put_text-a in
    let p1 = c.put_text in
    let q : take 4 w.new.out ≡ take 4 (answer_text a.seen 0) = ap (λ (z : List ℕ). take 4 z) w.ensures in
    let f0 = laid_first xs (32 ∷ []) p0.new.out a.at p0.result p0.ensures.result p0.ensures.out_left in
    let f1 = laid_more xs (32 ∷ []) (take 4 (answer_text a.seen 0)) p0.new.out p1.new.out a.at p0.result p1.result f0
    (p1.ensures.result ∙ ap (λ (z : List ℕ). behind p0.new.out p0.result z) q) (p1.ensures.out_left ∙ ap (λ (z : List ℕ). laid_at p0.new.out p0.result z) q) in
    record { result = f1.place; out_left = f1.bytes }
