-- The whole tenths nearest to a temperature, way by way.
use Rattle.std.proofs.Common.{◌≡◌, ℕ, ◌+◌, ◌/◌, ◌<◌, ◌≤◌, Bool, true, false, ltb, pos, sym, ap, ◌∙◌, le-ltb, lt-ltb}
use lib.Ieee.{Float, fin, binary64, add, lt, to_unsigned}
use Rattle.std.specs.Prelude.{if◌then◌else◌}
use Rattle.common.proofs.Choice.{if_true, if_false}
use Rattle.reading_print.specs.Texts.{size_shown, whole_of, tenths_shown}

module _ (d : Float) where
  abbrev low : Bool
  low = lt (fin true 1 (pos 0)) d

  abbrev high : Bool
  high = lt d (fin false 1 (pos 64))

  pub whole_in : low ≡ true → high ≡ true → whole_of d ≡ to_unsigned 64 d
  unfolding whole_of
  whole_in e f = if_true low (if high then to_unsigned 64 d else 0) 0 e ∙ if_true high (to_unsigned 64 d) 0 f

  pub whole_high : low ≡ true → high ≡ false → whole_of d ≡ 0
  unfolding whole_of
  whole_high e f = if_true low (if high then to_unsigned 64 d else 0) 0 e ∙ if_false high (to_unsigned 64 d) 0 f

  pub whole_low : low ≡ false → whole_of d ≡ 0
  unfolding whole_of
  whole_low e = if_false low (if high then to_unsigned 64 d else 0) 0 e

module _ (t a : Float) (u : ℕ) (e : a ≡ size_shown t) (f : u ≡ whole_of (add binary64 a a)) where
  same : u ≡ whole_of (add binary64 (size_shown t) (size_shown t))
  same = f ∙ ap (λ (z : Float). whole_of (add binary64 z z)) e

  pub shown_in : u < 4294967296 → (u + 1) / 2 ≡ tenths_shown t
  unfolding tenths_shown
  shown_in h = sym (if_true (ltb u 4294967296) ((u + 1) / 2) 0 (lt-ltb _ _ h)) ∙ ap (λ (z : ℕ). if ltb z 4294967296 then (z + 1) / 2 else 0) same

  pub shown_none : 4294967296 ≤ u → 0 ≡ tenths_shown t
  unfolding tenths_shown
  shown_none h = sym (if_false (ltb u 4294967296) ((u + 1) / 2) 0 (le-ltb _ _ h)) ∙ ap (λ (z : ℕ). if ltb z 4294967296 then (z + 1) / 2 else 0) same
