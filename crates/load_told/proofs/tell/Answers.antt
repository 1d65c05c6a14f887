-- `load_told::tell` meets its contract.
use mathlib.Core.Path.{◌≡◌, sym, ap, ◌∙◌}
use mathlib.Core.Bool.{true, false}
use Prim.Native.Nat.{ℕ}
use lib.Dec.{eqb}
use lib.ListN.{get_or}
use Rattle.text.specs.Writing.{laid_at, behind}
use Rattle.text.proofs.Laying.{front_used}
use Rattle.loader_run.specs.declared.Ran.{Ran}
use Rattle.verify_answer.specs.Answers.{numeral_of, part_of}
use Rattle.load_told.specs.Tellings.{call_wrong, usage, time_of, device_of, end_text, Loaded, ended_by, said_on}
use Rattle.load_told.proofs.AnswerCases.{told_wrong, told_right}
use Rattle.load_told.proofs.tell.Goals as goal

pub returns-then-call_wrong : goal.returns-then-call_wrong
returns-then-call_wrong c =
    let a = c.args in
    let out = a.out.now in
    let p = c.put_usage in
    let w : call_wrong a.count a.letter.now (numeral_of a.mode.now) ≡ true = ap (call_wrong a.count a.letter.now) (sym c.numeral-m.ensures) ∙ sym c.call_wrong.ensures ∙ c.if-call_wrong.true in
    let e = told_wrong a.count a.image.now a.device.now a.block.now a.file.now a.letter.now a.mode.now a.program.now a.erase.now a.wanted.now a.scratch.now w in record { result = ap (λ (z : ℕ). record { used = z; loaded = false }) p.ensures.result ∙ ap (λ (z : Loaded). said_on out z) e; out_left = p.ensures.out_left ∙ ap (λ (z : Loaded). laid_at out 0 z.line) e; image_left = ap (λ (z : Loaded). z.image) e; wanted_left = ap (λ (z : Loaded). z.wanted) e; scratch_left = ap (λ (z : Loaded). z.scratch) e; out_used = front_used out usage p.new.out p.result p.ensures.result p.ensures.out_left }

pub returns : goal.returns
returns c =
    let a = c.args in
    let out = a.out.now in
    let X = a.image.now in
    let W = a.wanted.now in
    let S = a.scratch.now in
    let F = a.file.now in
    let v = c.loaded-x in
    let q = c.put_end in
    let m = c.numeral-m in
    let w : call_wrong a.count a.letter.now (numeral_of a.mode.now) ≡ false = ap (call_wrong a.count a.letter.now) (sym m.ensures) ∙ sym c.call_wrong.ensures ∙ c.if-call_wrong.false in
    let k = c.numeral-k in
    let n = c.numeral in
    let tp = c.time_of in
    let te = c.time_of-2 in
    let l = c.nth in
    let D = device_of (part_of n.result m.result) tp.result te.result in
    let g : ended_by D k.result X W S F l.result
    ≡ ended_by (device_of (part_of (numeral_of a.device.now) (numeral_of a.mode.now)) (time_of a.program.now) (time_of a.erase.now)) (numeral_of a.block.now) X W S F (get_or a.letter.now 0 0)
    = λ i. ended_by (device_of (part_of (n.ensures i) (m.ensures i)) (tp.ensures i) (te.ensures i)) (k.ensures i) X W S F (l.ensures i)
    in
    let e = g ∙ told_right a.count a.image.now a.device.now a.block.now a.file.now a.letter.now a.mode.now a.program.now a.erase.now a.wanted.now a.scratch.now w in record { result = ap (λ (z : ℕ). record { used = z; loaded = eqb v.result.end 0 }) q.ensures.result ∙ ap (λ (z : Ran). record { used = behind out 0 (end_text D k.result z); loaded = eqb z.end 0 }) v.ensures.result ∙ ap (λ (z : Loaded). said_on out z) e; out_left = q.ensures.out_left ∙ ap (λ (z : Ran). laid_at out 0 (end_text D k.result z)) v.ensures.result ∙ ap (λ (z : Loaded). laid_at out 0 z.line) e; image_left = v.ensures.image_left ∙ ap (λ (z : Loaded). z.image) e; wanted_left = v.ensures.wanted_left ∙ ap (λ (z : Loaded). z.wanted) e; scratch_left = v.ensures.scratch_left ∙ ap (λ (z : Loaded). z.scratch) e; out_used = front_used out (end_text D k.result v.result) q.new.out q.result q.ensures.result q.ensures.out_left }
