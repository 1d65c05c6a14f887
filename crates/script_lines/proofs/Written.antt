-- The count of the lines written out is their number, times the product around them.
use mathlib.Core.Path.{◌≡◌, ap}
use mathlib.Core.List.{List}
use Prim.Native.Nat.{ℕ, zero, suc, ◌+◌, ◌*◌, ◌≤◌}
use native.Mathlib.Omega.{arith}
use native.Mathlib.Nat.{mul_assoc, mul-add, suc-mul, mul-le-mul_left}
use lib.ListN.{length, length-append}
use Rattle.model_types.specs.declared.Cycle.{Cycle}
use Rattle.script_lines.specs.Scripts.{Script, done, line, group, Some, Formed, written_in, lines_written, times_on}

times_length : (n : ℕ) (cs ds : List Cycle) → length (times_on n cs ds) ≡ n * length cs + length ds
unfolding times_on
times_length zero cs ds = omega arith
times_length (suc n) cs ds =
    let i = times_length n cs ds in let j = length-append cs (times_on n cs ds) in let k = suc-mul n (length cs) in omega arith

pub written_length : (s : Script) (p : ℕ) → written_in p s ≡ p * length (lines_written s)
unfolding written_in lines_written
written_length done p = omega arith
written_length (line c r) p =
    let i = written_length r p in let j = mul-add p 1 (length (lines_written r)) in
    let e : 1 + length (lines_written r) ≡ suc (length (lines_written r)) = omega arith in
    let f = ap (λ (m : ℕ). p * m) e in omega arith
written_length (group n b r) p =
    let i = written_length b (p * n) in let j = written_length r p in
    let k = times_length n (lines_written b) (lines_written r) in
    let l = ap (λ (m : ℕ). p * m) k in
    let m = mul-add p (n * length (lines_written b)) (length (lines_written r)) in
    let o = mul_assoc p n (length (lines_written b)) in
    omega arith

-- a list that is not empty writes out at least once the product around it
pub at_least : (d p : ℕ) (b : Script) → Formed d b → Some b → p ≤ written_in p b
unfolding Formed written_in
at_least d p done f s = absurd s
at_least d p (line k r) f s = omega arith
at_least zero p (group n b r) f s = absurd f
at_least (suc d) p (group n b r) f s =
    let i = at_least d (p * n) b f.3 f.2 in
    let j = grows p n f.0 in
    omega arith
  where
    grows : (p n : ℕ) → 1 ≤ n → p ≤ p * n
    grows p n l = let k = mul-le-mul_left p l in omega arith
