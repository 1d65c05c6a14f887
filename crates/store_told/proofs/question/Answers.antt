-- `store_told::question` meets its contract.
use mathlib.Core.Path.{ap, ◌∙◌}
use mathlib.Core.Bool.{false}
use Prim.Native.Nat.{ℕ}
use borrow.Author.Tests.{eq-eqb, ne_eqb}
use Rattle.text.specs.Writing.{laid_at}
use Rattle.store_told.specs.Sayings.{Asked, asked_on}
use Rattle.store_told.proofs.AnswerCases.{asked_list, asked_find, asked_read}
use Rattle.store_told.proofs.question.Goals as goal

pub returns-then-b-eq76 : goal.returns-then-b-eq76
returns-then-b-eq76 c =
    let a = c.args in
    let out = a.out.now in
    let p = c.put_listed in
    let e = asked_list a.b a.part a.image.now a.letter a.volts.now a.memory.now (eq-eqb _ _ c.if-b-eq76.true) in record { result = c.as_said.ensures ∙ ap (λ (u : ℕ). record { used = u; stream = 1; filled = 0; changed = false }) p.ensures.result ∙ ap (λ (z : Asked). asked_on out z) e; out_left = p.ensures.out_left ∙ ap (λ (z : Asked). laid_at out 0 z.line) e; memory_left = ap (λ (z : Asked). z.memory) e }

pub returns-then-b-eq70 : goal.returns-then-b-eq70
returns-then-b-eq70 c =
    let a = c.args in
    let out = a.out.now in
    let p = c.found in
    let e = asked_find a.b a.part a.image.now a.letter a.volts.now a.memory.now (ne_eqb _ _ c.if-b-eq76.false) (eq-eqb _ _ c.if-b-eq70.true) in
    record { result = p.ensures.result ∙ ap (λ (z : Asked). asked_on out z) e; out_left = p.ensures.out_left ∙ ap (λ (z : Asked). laid_at out 0 z.line) e; memory_left = p.ensures.memory_left ∙ ap (λ (z : Asked). z.memory) e }

pub returns : goal.returns
returns c =
    let a = c.args in
    let out = a.out.now in
    let p = c.read_asked in
    let e = asked_read a.b a.part a.image.now a.letter a.volts.now a.memory.now (ne_eqb _ _ c.if-b-eq76.false) (ne_eqb _ _ c.if-b-eq70.false) in
    record { result = p.ensures.result ∙ ap (λ (z : Asked). asked_on out z) e; out_left = p.ensures.out_left ∙ ap (λ (z : Asked). laid_at out 0 z.line) e; memory_left = p.ensures.memory_left ∙ ap (λ (z : Asked). z.memory) e }
