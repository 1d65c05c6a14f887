-- `loader_quick::run_tested` meets its contract.
use mathlib.Core.Path.{◌≡◌, sym, ap, ◌∙◌}
use mathlib.Core.Bool.{true, false}
use lib.ListN.{length}
use Rattle.loader_quick.specs.Quick.{made_of, is_placed, MadeLeft}
use Rattle.loader_quick.proofs.Tested.{placed_if, whole_if, left_bytes, tested_is, tested_none}
use Rattle.loader_quick.proofs.run_tested.Goals as goal

pub staged-requires : goal.staged-requires
staged-requires c =
    let a = c.args in
    placed_if a.j.device.part a.j.block (length a.array.now) (length a.wanted.now) (length a.scratch.now) (sym c.are_placed.ensures ∙ c.if-are_placed.true)

pub returns-then-are_placed : goal.returns-then-are_placed
returns-then-are_placed c =
    let a = c.args in
    let part = a.j.device.part in
    let xs = a.array.now in
    let w = a.wanted.now in
    let sc = a.scratch.now in
    let t : is_placed part a.j.block (length xs) (length w) (length sc) ≡ true = sym c.are_placed.ensures ∙ c.if-are_placed.true in
    let q = tested_is a.j xs w sc t in
    let o = whole_if part a.j.block (length xs) (length w) (length sc) t in
    let f = c.staged in record { result = f.ensures.result ∙ sym (ap (λ (x : MadeLeft). x.made) q); array_left = left_bytes part.word (length xs) f.new.array _ f.auto.array o.0 (λ i. (c.slice_known-then-are_placed-1.given i).fits) f.ensures.array_left ∙ sym (ap (λ (x : MadeLeft). x.bytes) q); scratch_left = left_bytes part.word (length sc) f.new.scratch _ f.auto.scratch o.1 (λ i. (c.slice_known-then-are_placed-2-1.given i).fits) f.ensures.scratch_left ∙ sym (ap (λ (x : MadeLeft). x.scratch) q) }

pub returns : goal.returns
returns c =
    let a = c.args in
    let q = tested_none a.j a.array.now a.wanted.now a.scratch.now (sym c.are_placed.ensures ∙ c.if-are_placed.false) in
    record { result = (λ i. made_of (c.refused-r.ensures i) false) ∙ sym (ap (λ (x : MadeLeft). x.made) q); array_left = sym (ap (λ (x : MadeLeft). x.bytes) q); scratch_left = sym (ap (λ (x : MadeLeft). x.scratch) q) }
