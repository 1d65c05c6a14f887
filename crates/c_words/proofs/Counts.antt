-- How long the lines of numbers are, and what of them is left.
use mathlib.Core.Path.{◌≡◌, refl, sym, ap, ◌∙◌}
use mathlib.Core.Bool.{Bool, true, false}
use mathlib.Core.List.{List, [], ◌∷◌, ◌++◌}
use Prim.Native.Nat.{ℕ, ◌-◌, ◌≤◌, ◌<◌}
use native.Mathlib.Omega.{arith}
use lib.Dec.{eqb, leb, ltb}
use lib.ListN.{length, take, drop}
use lib.Seq.{length-take-le, take-append-le}
use borrow.Author.Tests.{leb-true, le-leb, lt-leb}
use Rattle.std.specs.Prelude.{if◌then◌else◌}
use Rattle.common.proofs.Choice.{if_true, if_false}
use Rattle.text.specs.Writing.{laid_at, behind}
use Rattle.text.proofs.Laying.{laid_whole}
use Rattle.refusal_words.specs.Words.{file_words}
use Rattle.c_words.specs.Words.{cycle_line, run_line, end_line, file_line, table_line, line_of, words_of, words_left}

-- some bytes, and no more than the array has that they are laid in
record Roomy (line : List ℕ) : Type 0 where
  some : leb 1 (length line) ≡ true
  few : leb (length line) 96 ≡ true

ok : {line : List ℕ} → leb 1 (length line) ≡ true → leb (length line) 96 ≡ true → Roomy line
ok s f = record { some = s; few = f }

either : (b : Bool) {x y : List ℕ} → Roomy x → Roomy y → Roomy (if b then x else y)
either true p q = p
either false p q = q

words_roomy : (n : ℕ) → Roomy (file_words n)
unfolding file_words
words_roomy n =
    either (eqb n 31) (ok refl refl) (
    either (eqb n 32) (ok refl refl) (
    either (eqb n 33) (ok refl refl) (
    either (eqb n 34) (ok refl refl) (
    either (eqb n 35) (ok refl refl) (
    either (eqb n 38) (ok refl refl) (
    ok refl refl))))))

cycle_roomy : (n : ℕ) → Roomy (cycle_line n)
unfolding cycle_line
cycle_roomy n =
    either (eqb n 0) (ok refl refl) (
    either (eqb n 1) (ok refl refl) (
    either (eqb n 2) (ok refl refl) (
    either (eqb n 3) (ok refl refl) (
    either (eqb n 4) (ok refl refl) (
    either (eqb n 5) (ok refl refl) (
    either (eqb n 6) (ok refl refl) (
    either (eqb n 7) (ok refl refl) (
    either (eqb n 8) (ok refl refl) (
    ok refl refl)))))))))

run_roomy : (n : ℕ) → Roomy (run_line n)
unfolding run_line
run_roomy n =
    either (eqb n 10) (ok refl refl) (
    either (eqb n 11) (ok refl refl) (
    either (eqb n 12) (ok refl refl) (
    ok refl refl)))

end_roomy : (n : ℕ) → Roomy (end_line n)
unfolding end_line
end_roomy n =
    either (eqb n 20) (ok refl refl) (
    either (eqb n 21) (ok refl refl) (
    either (eqb n 22) (ok refl refl) (
    either (eqb n 23) (ok refl refl) (
    either (eqb n 24) (ok refl refl) (
    either (eqb n 25) (ok refl refl) (
    ok refl refl))))))

file_roomy : (n : ℕ) → Roomy (file_line n)
unfolding file_line
file_roomy n =
    either (eqb n 30) (ok refl refl) (
    either (eqb n 36) (ok refl refl) (
    either (eqb n 37) (ok refl refl) (
    either (eqb n 39) (ok refl refl) (
    words_roomy n))))

table_roomy : (n : ℕ) → Roomy (table_line n)
unfolding table_line
table_roomy n =
    either (eqb n 40) (ok refl refl) (
    either (eqb n 41) (ok refl refl) (
    either (eqb n 42) (ok refl refl) (
    either (eqb n 43) (ok refl refl) (
    either (eqb n 44) (ok refl refl) (
    either (eqb n 45) (ok refl refl) (
    either (eqb n 46) (ok refl refl) (
    either (eqb n 47) (ok refl refl) (
    either (eqb n 48) (ok refl refl) (
    ok refl refl)))))))))

line_roomy : (n : ℕ) → Roomy (line_of n)
unfolding line_of
line_roomy n = either (ltb n 10) (cycle_roomy n) (either (ltb n 20) (run_roomy n) (either (ltb n 30) (end_roomy n) (either (ltb n 40) (file_roomy n) (table_roomy n))))

-- the same in numbers
pub line_some : (n : ℕ) → 1 ≤ length (line_of n)
line_some n = leb-true 1 (length (line_of n)) (line_roomy n).some

line_few : (n : ℕ) → length (line_of n) ≤ 96
line_few n = leb-true (length (line_of n)) 96 (line_roomy n).few

-- a line laid in 96 bytes is laid whole
pub size_is : (n r : ℕ) (xs : List ℕ) → length xs ≡ 96 → r ≡ behind xs 0 (line_of n) → r ≡ length (line_of n)
size_is n r xs h e = let f = line_few n in omega (arith, h, e, f)

-- the words are as long as the line without its newline
pub words_count : (n : ℕ) → length (words_of n) ≡ length (line_of n) - 1
unfolding words_of
words_count n = length-take-le (length (line_of n) - 1) (line_of n) (omega arith)

-- .. and stand in front of these bytes
pub words_front : (n : ℕ) (xs ys : List ℕ) → length xs ≡ 96 → ys ≡ laid_at xs 0 (line_of n) → take (length (line_of n) - 1) ys ≡ words_of n
unfolding words_of
words_front n xs ys h e =
    let f = line_few n in
    ap (take (length (line_of n) - 1)) (e ∙ laid_whole xs (line_of n) (omega (arith, h, f))) ∙ take-append-le (length (line_of n) - 1) (line_of n) (drop (length (line_of n)) xs) (omega arith)

-- what is left in a slice
pub words_kept : (n : ℕ) (out : List ℕ) → length out ≤ length (words_of n) → words_left n out ≡ out
unfolding words_left
words_kept n out h = if_true (leb (length out) (length (words_of n))) out (laid_at out 0 (words_of n ++ (0 ∷ []))) (le-leb _ _ h)

pub words_laid : (n : ℕ) (out : List ℕ) → length (words_of n) < length out → words_left n out ≡ laid_at out 0 (words_of n ++ (0 ∷ []))
unfolding words_left
words_laid n out h = if_false (leb (length out) (length (words_of n))) out (laid_at out 0 (words_of n ++ (0 ∷ []))) (lt-leb _ _ h)
