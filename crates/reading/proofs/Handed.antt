-- What a test or a search answers of a number that was handed in, as 32 bits, is its answer of the number itself.
use mathlib.Core.Path.{◌≡◌, sym, ap, ◌∙◌}
use mathlib.Core.Bool.{Bool}
use mathlib.Core.List.{List}
use Prim.Native.Nat.{ℕ, ◌-◌}
use lib.IntN.{ℤ}
use lib.Signed.{lt_z}
use mir.Syntax.{w32}
use mir.Val.{to_z, of_z}
use mir.ValLaws.{to_z-of_z}
use Rattle.std.proofs.Common.{SFits}
use Rattle.reading_table.specs.Table.{volts_of, knots}
use Rattle.reading_table.specs.Search.{seek_of}

pub under_handed : (p : List ℕ) (x : ℤ) (r b : Bool) → SFits w32 x → r ≡ lt_z (to_z w32 (of_z w32 x)) (volts_of p 0) → r ≡ b → lt_z x (volts_of p 0) ≡ b
under_handed p x r b f e h = sym (e ∙ ap (λ (z : ℤ). lt_z z (volts_of p 0)) (to_z-of_z w32 x f)) ∙ h

pub over_handed : (p : List ℕ) (x : ℤ) (r b : Bool) → SFits w32 x → r ≡ lt_z (volts_of p (knots p - 1)) (to_z w32 (of_z w32 x)) → r ≡ b → lt_z (volts_of p (knots p - 1)) x ≡ b
over_handed p x r b f e h = sym (e ∙ ap (lt_z (volts_of p (knots p - 1))) (to_z-of_z w32 x f)) ∙ h

pub seek_handed : (p : List ℕ) (x : ℤ) (i : ℕ) → SFits w32 x → i ≡ seek_of p (to_z w32 (of_z w32 x)) → i ≡ seek_of p x
seek_handed p x i f e = e ∙ ap (seek_of p) (to_z-of_z w32 x f)
