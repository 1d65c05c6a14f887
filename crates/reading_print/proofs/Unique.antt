-- Two results that a promise of this crate allows are equal, and so is what it leaves in the slice lent.
use Rattle.std.proofs.Common.{◌≡◌, ℕ, List, ℤ}
use lib.Ieee.{Float}
use Rattle.common.specs.Choice.{Unique}
use Rattle.common.proofs.Choice.{only}
use Rattle.text.specs.Writing.{laid_at, behind}
use Rattle.reading_print.specs.Texts.{knot_text, temperature_text}

pub put_knot_unique : (out : List ℕ) (at : ℕ) (volts tenths : ℤ) → Unique (λ (r : ℕ). r ≡ behind out at (knot_text volts tenths))
put_knot_unique out at volts tenths = only (behind out at (knot_text volts tenths))

pub put_knot_left_unique : (out : List ℕ) (at : ℕ) (volts tenths : ℤ) → Unique (λ (left : List ℕ). left ≡ laid_at out at (knot_text volts tenths))
put_knot_left_unique out at volts tenths = only (laid_at out at (knot_text volts tenths))

pub put_temperature_unique : (out : List ℕ) (at : ℕ) (t : Float) → Unique (λ (r : ℕ). r ≡ behind out at (temperature_text t))
put_temperature_unique out at t = only (behind out at (temperature_text t))

pub put_temperature_left_unique : (out : List ℕ) (at : ℕ) (t : Float) → Unique (λ (left : List ℕ). left ≡ laid_at out at (temperature_text t))
put_temperature_left_unique out at t = only (laid_at out at (temperature_text t))
