-- The supply bands do not meet.
use mathlib.Core.Path.{◌≡◌, refl}
use mathlib.Core.Bool.{Bool, true, false, ◌&&◌, ◌||◌}
use Prim.Native.Nat.{ℕ, suc}
use native.Mathlib.Omega.{arith}
use lib.Dec.{leb}
use borrow.Author.Tests.{lt-leb, leb-true}
use Rattle.std.specs.Prelude.{if◌then◌else◌}
use Rattle.common.proofs.Choice.{and_left}
use Rattle.device.specs.Parts.{is_large}
use Rattle.device.specs.declared.Part.{Part}
use Rattle.model_types.specs.declared.Pins.{Pins}
use Rattle.model_levels.specs.Levels.{vpp_low, at_twelve, at_five, vpp_high}

-- a voltage of at least 4,500 mV, where the low band ends at 1,500, or at least 11,400, where it ends at 6,500
above : (v n : ℕ) (b : Bool) → (leb n v && b) ≡ true → (m : ℕ) → leb (suc m) n ≡ true → leb v m ≡ false
above v n b e m h = lt-leb v m (let z = leb-true n v (and_left (leb n v) b e) in let y = leb-true (suc m) n h in omega arith)

either : (a b : Bool) (P : Type 0) → (a ≡ true → P) → (b ≡ true → P) → (a || b) ≡ true → P
either true b P f g e = f refl
either false b P f g e = g e

-- VPP in a high band is not in the low one
pub not_low : (part : Part) (p : Pins) → vpp_high part p ≡ true → vpp_low part p ≡ false
unfolding vpp_high vpp_low at_twelve at_five
not_low part p e = go (is_large part) e
  where
    five : Bool
    five = leb 4500 p.vpp && leb p.vpp 5500

    twelve : Bool
    twelve = leb 11400 p.vpp && leb p.vpp 12600

    go : (l : Bool) → (if l then five || twelve else twelve) ≡ true → (if l then leb p.vpp 1500 else leb p.vpp 6500) ≡ false
    go true h = either five twelve (leb p.vpp 1500 ≡ false) (λ f. above p.vpp 4500 (leb p.vpp 5500) f 1500 refl) (λ t. above p.vpp 11400 (leb p.vpp 12600) t 1500 refl) h
    go false h = above p.vpp 11400 (leb p.vpp 12600) h 6500 refl
