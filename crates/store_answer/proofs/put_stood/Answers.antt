-- `store_answer::put_stood` meets its contract.
use mathlib.Core.Path.{◌≡◌, sym, subst}
use mathlib.Core.List.{List, ◌++◌}
use Prim.Native.Nat.{ℕ, ◌+◌, ◌-◌, ◌*◌, ◌≤◌}
use native.Mathlib.Omega.{arith}
use lib.ListN.{length, take, drop}
use borrow.Author.Tests.{le-leb, lt-leb}
use Rattle.text.specs.Writing.{bytes}
use Rattle.text.proofs.Laying.{Laid, laid_first, laid_more}
use Rattle.file_codec.specs.File.{limit, in_room, reader_of}
use Rattle.store_answer.specs.Listing.{file_text, head_text, body_text}
use Rattle.store_answer.proofs.put_stood.Goals as goal

same_size : (p n : ℕ) → (512 * p + 512 * n) - 512 * p ≡ 512 * n
same_size p n = omega arith

-- a file that is whole inside the block, its end by a width of its own
inside : (main : List ℕ) (p ℓ n w : ℕ) → w ≡ n → 512 * p + 512 * w ≤ length main
    → body_text main p ℓ n ≡ file_text (in_room 113120 (reader_of limit (take ((512 * p + 512 * w) - 512 * p) (drop (512 * p) main)) ℓ))
unfolding body_text
inside main p ℓ n w e h = simp (same_size p w, sym e, le-leb _ _ h)

pub returns-then-to-main : goal.returns-then-to-main
returns-then-to-main c =
    let a = c.args in
    let out = a.out.now in
    let X = file_text (in_room 113120 (reader_of limit (take ((512 * a.p + 512 * c.from.result) - 512 * a.p) (drop (512 * a.p) a.main.now)) a.letter)) in
    let e : body_text a.main.now a.p a.letter a.n ≡ X = inside a.main.now a.p a.letter a.n c.from.result c.from.ensures c.if-to-main.true in
    let p0 = c.put_head-a in
    let p1 = c.put_file in
    let f0 = laid_first out (head_text a.letter a.p a.n) p0.new.out a.at p0.result p0.ensures.result p0.ensures.out_left in
    let f1 = laid_more out (head_text a.letter a.p a.n) (X) p0.new.out p1.new.out a.at p0.result p1.result f0 p1.ensures.result p1.ensures.out_left in
    let g = subst (λ (z : List ℕ). Laid out a.at (head_text a.letter a.p a.n ++ z) p1.new.out p1.result) (sym e) f1 in
    record { result = g.place; out_left = g.bytes }

pub returns : goal.returns
unfolding body_text
returns c =
    let a = c.args in
    let out = a.out.now in
    let X = bytes "cut off\n" in
    let e : body_text a.main.now a.p a.letter a.n ≡ X = simp (sym c.from.ensures, lt-leb _ _ c.if-to-main.false) in
    let p0 = c.put_head-a in
    let p1 = c.put_text in
    let f0 = laid_first out (head_text a.letter a.p a.n) p0.new.out a.at p0.result p0.ensures.result p0.ensures.out_left in
    let f1 = laid_more out (head_text a.letter a.p a.n) (X) p0.new.out p1.new.out a.at p0.result p1.result f0 p1.ensures.result p1.ensures.out_left in
    let g = subst (λ (z : List ℕ). Laid out a.at (head_text a.letter a.p a.n ++ z) p1.new.out p1.result) (sym e) f1 in
    record { result = g.place; out_left = g.bytes }
