-- `tb_words` meets its contract.
use mathlib.Core.Path.{◌≡◌, refl, sym, ap, ◌∙◌}
use mathlib.Core.List.{List, [], ◌∷◌, ◌++◌}
use Prim.Native.Nat.{ℕ, ◌-◌}
use native.Mathlib.Omega.{arith}
use lib.ListN.{length, take, replicate}
use Rattle.text.specs.Writing.{laid_at}
use Rattle.text.proofs.Laying.{laid_first, laid_more}
use Rattle.c_words.specs.Words.{line_of, words_of}
use Rattle.c_words.proofs.Counts.{line_some, size_is, words_count, words_front, words_kept, words_laid}
use Rattle.c_words.proofs.tb_words.Goals as goal

-- the array that the line is laid in
abbrev blank : List ℕ
blank = replicate 96 0

pub overflow_sub-n : goal.overflow_sub-n
overflow_sub-n c =
    let a = c.args in
    let l = c.lay_line-size in
    let s = size_is a.number l.result blank refl l.ensures.result in
    let h = line_some a.number in
    omega (arith, s, h)

pub returns-then-out-n : goal.returns-then-out-n
returns-then-out-n c =
    let a = c.args in
    let l = c.lay_line-size in
    let s = size_is a.number l.result blank refl l.ensures.result in
    let w : l.result - 1 ≡ length (words_of a.number) = ap (λ (m : ℕ). m - 1) s ∙ sym (words_count a.number) in
    let t = c.if-out-n.true in
    record { result = w; out_left = sym (words_kept a.number a.out.now (omega (arith, w, t))) }

pub returns : goal.returns
returns c =
    let a = c.args in
    let l = c.lay_line-size in
    let p = c.put_text-behind in
    let q = c.put_text in
    let out = a.out.now in
    let s = size_is a.number l.result blank refl l.ensures.result in
    let w : l.result - 1 ≡ length (words_of a.number) = ap (λ (m : ℕ). m - 1) s ∙ sym (words_count a.number) in
    let t = c.if-out-n.false in
    let front = take (l.result - 1 - 0) l.new.out in
    let m : l.result - 1 - 0 ≡ length (line_of a.number) - 1 = omega (arith, s) in
    let e : front ≡ words_of a.number = ap (λ (k : ℕ). take k l.new.out) m ∙ words_front a.number blank l.new.out refl l.ensures.out_left in
    let f0 = laid_first out front p.new.out 0 p.result p.ensures.result p.ensures.out_left in
    let f1 = laid_more out front (0 ∷ []) p.new.out q.new.out 0 p.result q.result f0 q.ensures.result q.ensures.out_left in
    record { result = w; out_left = f1.bytes ∙ ap (λ (z : List ℕ). laid_at out 0 (z ++ (0 ∷ []))) e ∙ sym (words_laid a.number out (omega (arith, w, t))) }
