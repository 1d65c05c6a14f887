-- `store_told::put_listed` meets its contract.
use mathlib.Core.Path.{ap, ◌∙◌}
use mathlib.Core.List.{List}
use Prim.Native.Nat.{ℕ}
use Rattle.text.specs.Writing.{laid_at, behind}
use Rattle.store.proofs.Blocks.{handed, handed_ends}
use Rattle.store.proofs.Judging.{found_sized}
use Rattle.store_answer.specs.Listing.{list_of}
use Rattle.store_told.proofs.AnswerCases.{list_refused, list_told}
use borrow.Author.Rules.{rules}
use Rattle.store_told.proofs.put_listed.Goals as goal

pub returns-then-n-ne0 : goal.returns-then-n-ne0
returns-then-n-ne0 c =
    let a = c.args in
    let k = c.part_number-n in
    let p = c.say_refusal in
    let e = list_refused a.part a.image.now k.result k.ensures c.if-n-ne0.true in
    record { result = p.ensures.result ∙ ap (λ (z : List ℕ). behind a.out.now 0 z) e; out_left = p.ensures.out_left ∙ ap (λ (z : List ℕ). laid_at a.out.now 0 z) e }

pub overflow_add-to : goal.overflow_add-to
overflow_add-to c =
    let h = (let a = c.args in let k = c.part_number-n in handed_ends a.part a.image.now c.start-from.result c.length.result c.start-from.ensures c.length.ensures (found_sized a.part a.image.now 0 k.result k.ensures c.if-n-ne0.false)) in
    search rules

pub slice_bounds-list-end : goal.slice_bounds-list-end
slice_bounds-list-end c =
    let a = c.args in
    let k = c.part_number-n in
    handed_ends a.part a.image.now c.start-from.result c.length.result c.start-from.ensures c.length.ensures (found_sized a.part a.image.now 0 k.result k.ensures c.if-n-ne0.false)

pub returns : goal.returns
returns c =
    let a = c.args in
    let k = c.part_number-n in
    let p = c.list in
    let h = handed a.part a.image.now c.start-from.result c.length.result c.start-from.ensures c.length.ensures in
    let e = ap list_of h ∙ list_told a.part a.image.now k.result k.ensures c.if-n-ne0.false in
    record { result = p.ensures.result ∙ ap (λ (z : List ℕ). behind a.out.now 0 z) e; out_left = p.ensures.out_left ∙ ap (λ (z : List ℕ). laid_at a.out.now 0 z) e }
