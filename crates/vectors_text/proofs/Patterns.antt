-- Laws of patterns of bytes.
use mathlib.Core.Path.{◌≡◌, refl, sym, ◌∙◌, ap}
use mathlib.Core.List.{List, ◌∷◌}
use Prim.Native.Nat.{ℕ, zero, suc, ◌+◌, ◌-◌, ◌%◌, ◌<◌}
use native.Mathlib.Omega.{arith}
use lib.ListN.{length, get_or, drop}
use lib.Seq.{get_or-drop, drop-drop}
use Rattle.vectors_text.specs.Patterns.{pattern_from}

-- a pattern has as many bytes as it is asked for
pub pattern_length : (m d n v : ℕ) → length (pattern_from m d n v) ≡ n
pattern_length m d zero v = refl
pattern_length m d (suc n) v = ap suc (pattern_length m d n ((v + d) % m))

-- the byte at a place, and the place after it, in a list that goes on as a pattern from there
module _ (m d v n i : ℕ) (zs : List ℕ) (h : i < n) (e : drop i zs ≡ pattern_from m d (n - i) v) where
  rest : drop i zs ≡ v % 256 ∷ pattern_from m d (n - (i + 1)) ((v + d) % m)
  rest = let p : n - i ≡ suc (n - (i + 1)) = omega arith in e ∙ ap (λ (k : ℕ). pattern_from m d k v) p

  pub pattern_byte : get_or zs i 0 ≡ v % 256
  pattern_byte = let p : i ≡ i + 0 = omega arith in ap (λ (j : ℕ). get_or zs j 0) p ∙ sym (get_or-drop i zs 0 0) ∙ ap (λ (l : List ℕ). get_or l 0 0) rest

  pub pattern_next : drop (i + 1) zs ≡ pattern_from m d (n - (i + 1)) ((v + d) % m)
  pattern_next = sym (drop-drop 1 i zs) ∙ ap (λ (l : List ℕ). drop 1 l) rest
