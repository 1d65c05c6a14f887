-- `reading_answer::answer` meets its contract.
use mathlib.Core.Path.{sym, ap, ◌∙◌}
use Prim.Native.Nat.{ℕ}
use lib.IntN.{ℤ}
use mir.Syntax.{w32}
use mir.ValLaws.{to_z-of_z}
use Rattle.text.specs.Writing.{laid_at, told_on}
use Rattle.text.proofs.Laying.{front_used}
use Rattle.std.specs.Prelude.{Some, None}
use Rattle.reading_answer.specs.Lines.{usage, read_by, Answered}
use Rattle.reading_answer.proofs.AnswerCases.{answered_wrong, answered_right}
use Rattle.reading_answer.proofs.answer.Goals as goal

pub returns-then-call_wrong : goal.returns-then-call_wrong
returns-then-call_wrong c =
    let a = c.args in
    let out = a.out.now in
    let p = c.put_usage-used in
    let w = sym c.call_wrong.ensures ∙ c.if-call_wrong.true in
    let e = answered_wrong a.count a.file.now a.letter.now a.volts.now a.room.now w in record { result = ap (λ (z : ℕ). record { used = z; stream = 2 }) p.ensures.result ∙ ap (λ (z : Answered). told_on z.stream out z.line) e; out_left = p.ensures.out_left ∙ ap (λ (z : Answered). laid_at out 0 z.line) e; room_left = ap (λ (z : Answered). z.room) e; out_used = front_used out usage p.new.out p.result p.ensures.result p.ensures.out_left }

pub returns-in-Some : goal.returns-in-Some
returns-in-Some c =
    let a = c.args in
    let out = a.out.now in
    let R = a.room.now in
    let F = a.file.now in
    let q = c.put_read-used in
    let l = c.nth in
    let x = to_z-of_z w32 c.in-Some.x (record { sfits = c.in-Some.known_told-1-own.given.0.1 }) in
    let w = sym c.call_wrong.ensures ∙ c.if-call_wrong.false in
    let e = answered_right a.count F a.letter.now a.volts.now R (Some c.in-Some.x) w (sym c.read_number.ensures.result ∙ c.in-Some.is) in
    let m = ap (λ (z : ℤ). read_by (Some z) F l.result R) x ∙ ap (λ (z : ℕ). read_by (Some c.in-Some.x) F z R) l.ensures ∙ e in record { result = ap (λ (z : ℕ). record { used = z; stream = 1 }) q.ensures.result ∙ ap (λ (z : Answered). told_on z.stream out z.line) m; out_left = q.ensures.out_left ∙ ap (λ (z : Answered). laid_at out 0 z.line) m; room_left = q.ensures.room_left ∙ ap (λ (z : Answered). z.room) m; out_used = front_used out (read_by (Some _) F l.result R).line _ q.result q.ensures.result q.ensures.out_left }

pub returns-in-None : goal.returns-in-None
returns-in-None c =
    let a = c.args in
    let out = a.out.now in
    let p = c.put_usage-used-in-None in
    let w = sym c.call_wrong.ensures ∙ c.if-call_wrong.false in
    let e = answered_right a.count a.file.now a.letter.now a.volts.now a.room.now None w (sym c.read_number.ensures.result ∙ c.in-None.is) in record { result = ap (λ (z : ℕ). record { used = z; stream = 2 }) p.ensures.result ∙ ap (λ (z : Answered). told_on z.stream out z.line) e; out_left = p.ensures.out_left ∙ ap (λ (z : Answered). laid_at out 0 z.line) e; room_left = ap (λ (z : Answered). z.room) e; out_used = front_used out usage p.new.out p.result p.ensures.result p.ensures.out_left }
