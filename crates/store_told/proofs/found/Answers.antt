-- `store_told::found` meets its contract.
use mathlib.Core.Path.{ap, ◌∙◌}
use mathlib.Core.Bool.{false}
use mathlib.Core.List.{List}
use Prim.Native.Nat.{ℕ, zero-le}
use Rattle.text.specs.Writing.{laid_at, behind}
use Rattle.text.proofs.Laying.{laid_none}
use Rattle.store_find.specs.declared.Found.{Found}
use Rattle.store_told.specs.Sayings.{find_line, said_on}
use Rattle.store_told.proofs.AnswerCases.{find_refused, find_silent}
use Rattle.store_told.proofs.found.Goals as goal

pub returns-then-n-ne0 : goal.returns-then-n-ne0
returns-then-n-ne0 c =
    let out = c.args.out.now in
    let f = c.find_letter-f in
    let p = c.say_refusal in
    let e = find_refused f.result c.if-n-ne0.true in record {
      result = c.as_said.ensures
          ∙ ap (λ (u : ℕ). record { used = u; stream = 2; filled = f.result.length; changed = false }) (p.ensures.result ∙ ap (λ (z : List ℕ). behind out 0 z) e)
          ∙ ap (λ (z : Found). said_on out (find_line z) 2 z.length false) f.ensures.result;
      out_left = p.ensures.out_left ∙ ap (λ (z : List ℕ). laid_at out 0 z) e ∙ ap (λ (z : Found). laid_at out 0 (find_line z)) f.ensures.result;
      memory_left = f.ensures.room_left;
    }

pub returns : goal.returns
returns c =
    let out = c.args.out.now in
    let f = c.find_letter-f in
    let l = laid_none out 0 zero-le in
    let e = find_silent f.result c.if-n-ne0.false in record {
      result = c.as_said-2.ensures
          ∙ ap (λ (u : ℕ). record { used = u; stream = 2; filled = f.result.length; changed = false }) (l.place ∙ ap (λ (z : List ℕ). behind out 0 z) e)
          ∙ ap (λ (z : Found). said_on out (find_line z) 2 z.length false) f.ensures.result;
      out_left = l.bytes ∙ ap (λ (z : List ℕ). laid_at out 0 z) e ∙ ap (λ (z : Found). laid_at out 0 (find_line z)) f.ensures.result;
      memory_left = f.ensures.room_left;
    }
