-- `store_told::answer` meets its contract.
use mathlib.Core.Path.{◌≡◌, sym, ap, ◌∙◌}
use mathlib.Core.Bool.{false}
use Prim.Native.Nat.{ℕ}
use native.Mathlib.Omega.{arith}
use lib.ListN.{length, get_or}
use Rattle.text.specs.Writing.{laid_at}
use Rattle.text.proofs.Laying.{used, front_used}
use Rattle.loader_run.specs.declared.Ran.{Ran}
use Rattle.store_told.specs.declared.Said.{Said}
use Rattle.store_answer.specs.Words.{change_line}
use Rattle.store_told.specs.Sayings.{is_change, usage, part_of, asked, bytes_of, change_of, Answered, ended, shown, answered_on, said_on}
use lib.Dec.{eqb}
use Rattle.store_told.proofs.AnswerCases.{asked_inside, answered_wrong, answered_change, answered_asked}
use Rattle.store_told.proofs.answer.Goals as goal

pub returns-then-call_wrong : goal.returns-then-call_wrong
returns-then-call_wrong c =
    let a = c.args in
    let out = a.out.now in
    let M = a.memory.now in
    let S = a.scratch.now in
    let p = c.put_usage in
    let e = answered_wrong a.count a.word.now a.image.now a.device.now a.letter.now a.volts.now a.file.now M S (sym c.call_wrong.ensures ∙ c.if-call_wrong.true) in
    let s = c.as_said.ensures in record { result = s ∙ ap (λ (u : ℕ). record { used = u; stream = 2; filled = 0; changed = false }) p.ensures.result ∙ ap (λ (z : Answered). answered_on out z) e; out_left = p.ensures.out_left ∙ ap (λ (z : Answered). laid_at out 0 z.line) e; image_left = ap (λ (z : Answered). z.image) e; memory_left = ap (λ (z : Answered). z.memory) e; scratch_left = ap (λ (z : Answered). z.scratch) e; out_used = front_used out usage p.new.out _ (ap (λ (z : Said). z.used) s ∙ p.ensures.result) p.ensures.out_left; memory_used = used _ M (let g = ap (λ (z : Said). z.filled) s in omega (arith, g)) }

pub returns-then-is_change : goal.returns-then-is_change
returns-then-is_change c =
    let a = c.args in
    let out = a.out.now in
    let X = a.image.now in
    let M = a.memory.now in
    let S = a.scratch.now in
    let U = a.volts.now in
    let F = a.file.now in
    let d = c.part_of-part in
    let b = c.nth-b in
    let l = c.nth-l in
    let w = sym c.call_wrong.ensures ∙ c.if-call_wrong.false in
    let t = ap is_change (sym b.ensures) ∙ sym c.is_change.ensures ∙ c.if-is_change.true in
    let v = c.change_made-ran in
    let s = c.change_said in
    let g : ended (change_of b.result d.result X M S F l.result) (bytes_of d.result M S) M S
    ≡ ended (change_of (get_or a.word.now 0 0) (part_of a.device.now) X M S F (get_or a.letter.now 0 0)) (bytes_of (part_of a.device.now) M S) M S
    = λ i. ended (change_of (b.ensures i) (d.ensures i) X M S F (l.ensures i)) (bytes_of (d.ensures i) M S) M S
    in
    let e = g ∙ answered_change a.count a.word.now X a.device.now a.letter.now U F M S w t in record { result = s.ensures.result ∙ ap (λ (z : Ran). said_on out (change_line z.end z.state.wear.block3) 2 0 (eqb z.end 0)) v.ensures.result ∙ ap (λ (z : Answered). answered_on out z) e; out_left = s.ensures.out_left ∙ ap (λ (z : Ran). laid_at out 0 (change_line z.end z.state.wear.block3)) v.ensures.result ∙ ap (λ (z : Answered). laid_at out 0 z.line) e; image_left = v.ensures.image_left ∙ ap (λ (z : Answered). z.image) e; memory_left = v.ensures.memory_left ∙ ap (λ (z : Answered). z.memory) e; scratch_left = v.ensures.scratch_left ∙ ap (λ (z : Answered). z.scratch) e; out_used = front_used out (change_line v.result.end v.result.state.wear.block3) s.new.out _ (ap (λ (z : Said). z.used) s.ensures.result) s.ensures.out_left; memory_used = used _ _ (let n = ap (λ (z : Said). z.filled) s.ensures.result in omega (arith, n)) }

pub returns : goal.returns
returns c =
    let a = c.args in
    let out = a.out.now in
    let X = a.image.now in
    let M = a.memory.now in
    let S = a.scratch.now in
    let U = a.volts.now in
    let F = a.file.now in
    let d = c.part_of-part in
    let b = c.nth-b in
    let l = c.nth-l in
    let w = sym c.call_wrong.ensures ∙ c.if-call_wrong.false in
    let t = ap is_change (sym b.ensures) ∙ sym c.is_change.ensures ∙ c.if-is_change.false in
    let p = c.question in
    let q = asked b.result d.result X l.result U M in
    let g : shown q X S ≡ shown (asked (get_or a.word.now 0 0) (part_of a.device.now) X (get_or a.letter.now 0 0) U M) X S
    = λ i. shown (asked (b.ensures i) (d.ensures i) X (l.ensures i) U M) X S
    in
    let e = g ∙ answered_asked a.count a.word.now X a.device.now a.letter.now U F M S w t in
    let i = asked_inside b.result d.result X l.result U M in
    let n = ap (λ (z : Said). z.filled) p.ensures.result in
    let m = ap length p.ensures.memory_left in record { result = p.ensures.result ∙ ap (λ (z : Answered). answered_on out z) e; out_left = p.ensures.out_left ∙ ap (λ (z : Answered). laid_at out 0 z.line) e; image_left = ap (λ (z : Answered). z.image) e; memory_left = p.ensures.memory_left ∙ ap (λ (z : Answered). z.memory) e; scratch_left = ap (λ (z : Answered). z.scratch) e; out_used = front_used out q.line p.new.out _ (ap (λ (z : Said). z.used) p.ensures.result) p.ensures.out_left; memory_used = used _ _ (omega (arith, i, n, m)) }
