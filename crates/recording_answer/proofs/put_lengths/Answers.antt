-- `recording_answer::put_lengths` meets its contract.
use mathlib.Core.Path.{◌≡◌, sym, ap, ◌∙◌}
use mathlib.Core.List.{List}
use Prim.Native.Nat.{ℕ}
use borrow.Author.Tests.{lt-ltb, le-ltb}
use Rattle.text.specs.Writing.{bytes, laid_at, behind}
use Rattle.recording_answer.specs.Lines.{around, shorter_text, lengths_text}
use Rattle.recording_answer.proofs.put_lengths.Goals as goal

pub returns-then-m-gt4294967295 : goal.returns-then-m-gt4294967295
unfolding lengths_text
returns-then-m-gt4294967295 c =
    let a = c.args in
    let xs = a.out.now in
    let p = c.put_text in
    let e : lengths_text a.n a.m ≡ bytes "the end is at fault: the array promised is not as long as the part\n" = simp (lt-ltb _ _ c.if-m-gt4294967295.true) in
    record { result = p.ensures.result ∙ ap (λ (z : List ℕ). behind xs a.at z) (sym e); out_left = p.ensures.out_left ∙ ap (λ (z : List ℕ). laid_at xs a.at z) (sym e) }

pub returns-then-m-n : goal.returns-then-m-n
unfolding lengths_text
returns-then-m-n c =
    let a = c.args in
    let xs = a.out.now in
    let p = c.put_around in
    let e : lengths_text a.n a.m ≡ around (bytes "the end is at fault: the array promised has more bytes than the part's ") a.m (bytes "\n") = simp (lt-ltb _ _ c.if-m-n.true, le-ltb _ _ c.if-m-gt4294967295.false) in
    record { result = p.ensures.result ∙ ap (λ (z : List ℕ). behind xs a.at z) (sym e); out_left = p.ensures.out_left ∙ ap (λ (z : List ℕ). laid_at xs a.at z) (sym e) }

pub returns : goal.returns
unfolding lengths_text
returns c =
    let a = c.args in
    let xs = a.out.now in
    let p = c.put_shorter in
    let e : lengths_text a.n a.m ≡ shorter_text a.n a.m = simp (le-ltb _ _ c.if-m-n.false, le-ltb _ _ c.if-m-gt4294967295.false) in
    record { result = p.ensures.result ∙ ap (λ (z : List ℕ). behind xs a.at z) (sym e); out_left = p.ensures.out_left ∙ ap (λ (z : List ℕ). laid_at xs a.at z) (sym e) }
