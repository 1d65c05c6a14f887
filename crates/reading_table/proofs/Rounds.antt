-- The rounds of the code's own search: each lowers what is left of them, and few are left at the start.
use mathlib.Core.Path.{◌≡◌, refl, sym, subst}
use mathlib.Core.Bool.{Bool, true, false}
use Prim.Native.Nat.{ℕ, zero, suc, ◌+◌, ◌*◌, ◌^◌, ◌≤◌, ◌<◌, zero-le}
use native.Mathlib.Nat.{pow-suc}
use native.Mathlib.Omega.{arith}
use lib.Dec.{ltb}
use lib.Pow.{pow_mono}
use borrow.Author.Tests.{ltb-true, ltb-false, lt-ltb, le-ltb}
use Rattle.std.specs.Prelude.{if◌then◌else◌}
use Rattle.common.proofs.Choice.{if_true, if_false}
use Rattle.reading_table.specs.Search.{powers_under}

-- one power
abbrev bit : ℕ → ℕ → ℕ
bit k d = if ltb (2 ^ k) d then 1 else 0

bit_less : (k d : ℕ) → bit k d ≤ 1
bit_less k d = go (ltb (2 ^ k) d)
  where
    go : (t : Bool) → (if t then 1 else 0) ≤ 1
    go true = omega arith
    go false = omega arith

-- half as far apart, rounded up: every power under the half has its double under the whole
bit_half : (k d e : ℕ) → 2 * e ≤ d + 1 → bit k e ≤ bit (suc k) d
bit_half k d e h = go (ltb (2 ^ k) e) refl
  where
    go : (t : Bool) → ltb (2 ^ k) e ≡ t → bit k e ≤ bit (suc k) d
    go false q = subst (λ (n : ℕ). n ≤ bit (suc k) d) (sym (if_false (ltb (2 ^ k) e) 1 0 q)) zero-le
    go true q =
        let l : 2 ^ k < e = ltb-true (2 ^ k) e q in
        let s : 2 ^ suc k ≡ 2 ^ k * 2 = pow-suc 2 k in
        let b : bit (suc k) d ≡ 1 = if_true (ltb (2 ^ suc k) d) 1 0 (lt-ltb (2 ^ suc k) d (omega (arith, l, s, h))) in
        subst (λ (n : ℕ). bit k e ≤ n) (sym b) (bit_less k e)

halved : (k d e : ℕ) → 2 * e ≤ d + 1 → 1 < d → powers_under k e + 1 ≤ powers_under (suc k) d
unfolding powers_under
halved zero d e h g = let b : bit 0 d ≡ 1 = if_true (ltb (2 ^ 0) d) 1 0 (lt-ltb (2 ^ 0) d g) in omega (arith, b)
halved (suc k) d e h g = let i = halved k d e h g in let b = bit_half k d e h in omega (arith, i, b)

-- each round lowers it, where the powers reach as far as the ends are apart
pub rounds_fall : (k d e : ℕ) → e ≤ 2 ^ k → 2 * e ≤ d + 1 → 1 < d → powers_under (suc k) e < powers_under (suc k) d
unfolding powers_under
rounds_fall k d e f h g =
    let b : bit k e ≡ 0 = if_false (ltb (2 ^ k) e) 1 0 (le-ltb (2 ^ k) e f) in
    let i = halved k d e h g in
    omega (arith, b, i)

-- ends that are at most 2 ^ k apart have at most k left
no_more : (j d : ℕ) → powers_under j d ≤ j
unfolding powers_under
no_more zero d = zero-le
no_more (suc j) d = let i = no_more j d in let b = bit_less j d in omega (arith, i, b)

pub rounds_few : (k j d : ℕ) → d ≤ 2 ^ k → powers_under j d ≤ k
unfolding powers_under
rounds_few k zero d h = zero-le
rounds_few k (suc j) d h = go (ltb (2 ^ j) d) refl (rounds_few k j d h)
  where
    reach : 2 ^ j < d → j < k
    reach l = at (ltb j k) refl
      where
        at : (t : Bool) → ltb j k ≡ t → j < k
        at true q = ltb-true j k q
        at false q = let m : 2 ^ k ≤ 2 ^ j = pow_mono (ltb-false j k q) in absurd (let z : ◌≡◌ {A = ℕ} 0 1 = omega (arith, l, h, m) in omega arith)

    go : (t : Bool) → ltb (2 ^ j) d ≡ t → powers_under j d ≤ k → bit j d + powers_under j d ≤ k
    go true q ih = let m = no_more j d in let r = reach (ltb-true (2 ^ j) d q) in let b = bit_less j d in omega (arith, m, r, b)
    go false q ih = let b : bit j d ≡ 0 = if_false (ltb (2 ^ j) d) 1 0 q in omega (arith, b, ih)
