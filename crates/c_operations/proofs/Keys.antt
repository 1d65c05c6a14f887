-- What the first four numbers of a state have of the number that they make up.
use mathlib.Core.Path.{◌≡◌, sym, ap, ◌∙◌}
use Prim.Native.Nat.{ℕ, ◌+◌, ◌*◌, ◌/◌, ◌%◌, ◌≤◌, ◌<◌}
use native.Mathlib.Omega.{arith}
use Rattle.c_cycle.specs.declared.StateNumbers.{StateNumbers}
use Rattle.c_ordinary.specs.Ordinary.{key_of}

-- the mode with the low bits of the status, and SR.7 and SR.6 with the phase and the suspend
pub record Parts (n : StateNumbers) (key : ℕ) : Type 0 where
  pub low : key % 2048 ≡ n.mode + 256 * (n.status % 8)
  pub high : key / 16384 ≡ n.status / 64 + 4 * n.phase + 1024 * n.suspend
  pub small : n.mode < 256
  pub few : n.status / 64 < 4
  pub byte : n.phase < 256

-- for code
pub parts : (n : StateNumbers) (key : ℕ) → key ≡ key_of n → n.mode < 256 → n.status < 256 → n.phase < 256 → Parts n key
parts n key e m s p =
    record {
      low = omega (arith, e, m);
      high = omega (arith, e, m, s);
      small = m;
      few = omega (arith, s);
      byte = p;
    }
