-- Two results that the promise of this crate allows are equal, and so is what it leaves in each thing lent.
use mathlib.Core.Path.{◌≡◌}
use mathlib.Core.List.{List}
use Prim.Native.Nat.{ℕ}
use Rattle.common.specs.Choice.{Unique}
use Rattle.common.proofs.Choice.{only}
use Rattle.text.specs.Writing.{laid_at}
use Rattle.load_told.specs.declared.Said.{Said}
use Rattle.load_told.specs.Tellings.{told, said_on}

pub tell_unique : (count : ℕ) (image device block file letter mode program erase wanted scratch out : List ℕ)
    → Unique (λ (r : Said). r ≡ said_on out (told count image device block file letter mode program erase wanted scratch))
tell_unique count image device block file letter mode program erase wanted scratch out = only (said_on out (told count image device block file letter mode program erase wanted scratch))

pub tell_out_unique : (count : ℕ) (image device block file letter mode program erase wanted scratch out : List ℕ)
    → Unique (λ (left : List ℕ). left ≡ laid_at out 0 (told count image device block file letter mode program erase wanted scratch).line)
tell_out_unique count image device block file letter mode program erase wanted scratch out = only (laid_at out 0 (told count image device block file letter mode program erase wanted scratch).line)

pub tell_image_unique : (count : ℕ) (image device block file letter mode program erase wanted scratch out : List ℕ)
    → Unique (λ (left : List ℕ). left ≡ (told count image device block file letter mode program erase wanted scratch).image)
tell_image_unique count image device block file letter mode program erase wanted scratch out = only (told count image device block file letter mode program erase wanted scratch).image

pub tell_wanted_unique : (count : ℕ) (image device block file letter mode program erase wanted scratch out : List ℕ)
    → Unique (λ (left : List ℕ). left ≡ (told count image device block file letter mode program erase wanted scratch).wanted)
tell_wanted_unique count image device block file letter mode program erase wanted scratch out = only (told count image device block file letter mode program erase wanted scratch).wanted

pub tell_scratch_unique : (count : ℕ) (image device block file letter mode program erase wanted scratch out : List ℕ)
    → Unique (λ (left : List ℕ). left ≡ (told count image device block file letter mode program erase wanted scratch).scratch)
tell_scratch_unique count image device block file letter mode program erase wanted scratch out = only (told count image device block file letter mode program erase wanted scratch).scratch
