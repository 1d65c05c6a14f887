-- `verify_answer::answer` meets its contract.
use mathlib.Core.Path.{◌≡◌, sym, ap, ◌∙◌}
use mathlib.Core.Bool.{true, false}
use Prim.Native.Nat.{ℕ}
use lib.ListN.{get_or}
use Rattle.text.specs.Writing.{laid_at, behind, told_on}
use Rattle.text.proofs.Laying.{front_used}
use Rattle.loader_run.specs.declared.Ran.{Ran}
use Rattle.verify_answer.specs.Answers.{call_wrong, numeral_of, end_text, part_of, verify_of, usage, Answered, ended, bytes_of}
use Rattle.verify_answer.proofs.AnswerCases.{answered_wrong, answered_right}
use Rattle.verify_answer.proofs.answer.Goals as goal

pub returns-then-call_wrong : goal.returns-then-call_wrong
returns-then-call_wrong c =
    let a = c.args in
    let out = a.out.now in
    let p = c.put_usage in
    let w : call_wrong a.count a.letter.now (numeral_of a.mode.now) ≡ true = ap (call_wrong a.count a.letter.now) (sym c.numeral-m.ensures) ∙ sym c.call_wrong.ensures ∙ c.if-call_wrong.true in
    let e = answered_wrong a.count a.image.now a.device.now a.block.now a.file.now a.letter.now a.mode.now a.wanted.now a.scratch.now w in record { result = ap (λ (z : ℕ). record { used = z; stream = 2 }) p.ensures.result ∙ ap (λ (z : Answered). told_on z.stream out z.line) e; out_left = p.ensures.out_left ∙ ap (λ (z : Answered). laid_at out 0 z.line) e; image_left = ap (λ (z : Answered). z.image) e; wanted_left = ap (λ (z : Answered). z.wanted) e; scratch_left = ap (λ (z : Answered). z.scratch) e; out_used = front_used out usage p.new.out p.result p.ensures.result p.ensures.out_left }

pub returns : goal.returns
returns c =
    let a = c.args in
    let out = a.out.now in
    let X = a.image.now in
    let W = a.wanted.now in
    let S = a.scratch.now in
    let F = a.file.now in
    let v = c.verified-x in
    let q = c.put_end in
    let m = c.numeral-m in
    let w : call_wrong a.count a.letter.now (numeral_of a.mode.now) ≡ false = ap (call_wrong a.count a.letter.now) (sym m.ensures) ∙ sym c.call_wrong.ensures ∙ c.if-call_wrong.false in
    let d = c.numeral in
    let k = c.numeral-2 in
    let l = c.nth in
    let g : ended (verify_of (part_of d.result m.result) k.result X W S F l.result) (bytes_of (part_of d.result m.result) k.result W S) W S
    ≡ ended (verify_of (part_of (numeral_of a.device.now) (numeral_of a.mode.now)) (numeral_of a.block.now) X W S F (get_or a.letter.now 0 0)) (bytes_of (part_of (numeral_of a.device.now) (numeral_of a.mode.now)) (numeral_of a.block.now) W S) W S
    = λ i. ended (verify_of (part_of (d.ensures i) (m.ensures i)) (k.ensures i) X W S F (l.ensures i)) (bytes_of (part_of (d.ensures i) (m.ensures i)) (k.ensures i) W S) W S
    in
    let e = g ∙ answered_right a.count X a.device.now a.block.now F a.letter.now a.mode.now W S w in record { result = ap (λ (z : ℕ). record { used = z; stream = 1 }) (q.ensures.result ∙ ap (λ (z : Ran). behind out 0 (end_text z.end z.address)) v.ensures.result) ∙ ap (λ (z : Answered). told_on z.stream out z.line) e; out_left = q.ensures.out_left ∙ ap (λ (z : Ran). laid_at out 0 (end_text z.end z.address)) v.ensures.result ∙ ap (λ (z : Answered). laid_at out 0 z.line) e; image_left = v.ensures.image_left ∙ ap (λ (z : Answered). z.image) e; wanted_left = v.ensures.wanted_left ∙ ap (λ (z : Answered). z.wanted) e; scratch_left = v.ensures.scratch_left ∙ ap (λ (z : Answered). z.scratch) e; out_used = front_used out (end_text v.result.end v.result.address) q.new.out q.result q.ensures.result q.ensures.out_left }
