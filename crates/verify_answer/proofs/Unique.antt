-- Two results that the promise of this crate allows are equal, and so is what it leaves in each thing lent.
use mathlib.Core.Path.{◌≡◌}
use mathlib.Core.List.{List}
use Prim.Native.Nat.{ℕ, min}
use Rattle.common.specs.Choice.{Unique}
use Rattle.common.proofs.Choice.{only}
use Rattle.device.specs.declared.Part.{Part}
use Rattle.device.specs.Parts.{length_of}
use Rattle.text.specs.declared.Told.{Told}
use Rattle.text.specs.Writing.{laid_at, behind, told_on}
use Rattle.verify_answer.specs.Answers.{numeral_of, refused_line, narrowed, answered, told}

pub numeral_unique : (word : List ℕ) → Unique (λ (r : ℕ). r ≡ numeral_of word)
numeral_unique word = only (numeral_of word)

pub put_refusal_unique : (out : List ℕ) (n : ℕ) → Unique (λ (r : ℕ). r ≡ behind out 0 (refused_line n))
put_refusal_unique out n = only (behind out 0 (refused_line n))

pub put_refusal_out_unique : (out : List ℕ) (n : ℕ) → Unique (λ (left : List ℕ). left ≡ laid_at out 0 (refused_line n))
put_refusal_out_unique out n = only (laid_at out 0 (refused_line n))

pub block_bytes_unique : (part : Part) (k wanted scratch : ℕ) → Unique (λ (r : ℕ). r ≡ min (length_of (narrowed part) k) (min wanted scratch))
block_bytes_unique part k wanted scratch = only (min (length_of (narrowed part) k) (min wanted scratch))

pub answer_unique : (count : ℕ) (image device block file letter mode wanted scratch out : List ℕ)
    → Unique (λ (r : Told). r ≡ told_on (answered count image device block file letter mode wanted scratch).stream out (answered count image device block file letter mode wanted scratch).line)
answer_unique count image device block file letter mode wanted scratch out = only (told_on (answered count image device block file letter mode wanted scratch).stream out (answered count image device block file letter mode wanted scratch).line)

pub answer_out_unique : (count : ℕ) (image device block file letter mode wanted scratch out : List ℕ)
    → Unique (λ (left : List ℕ). left ≡ laid_at out 0 (answered count image device block file letter mode wanted scratch).line)
answer_out_unique count image device block file letter mode wanted scratch out = only (laid_at out 0 (answered count image device block file letter mode wanted scratch).line)

pub answer_image_unique : (count : ℕ) (image device block file letter mode wanted scratch out : List ℕ)
    → Unique (λ (left : List ℕ). left ≡ (answered count image device block file letter mode wanted scratch).image)
answer_image_unique count image device block file letter mode wanted scratch out = only (answered count image device block file letter mode wanted scratch).image

pub answer_wanted_unique : (count : ℕ) (image device block file letter mode wanted scratch out : List ℕ)
    → Unique (λ (left : List ℕ). left ≡ (answered count image device block file letter mode wanted scratch).wanted)
answer_wanted_unique count image device block file letter mode wanted scratch out = only (answered count image device block file letter mode wanted scratch).wanted

pub answer_scratch_unique : (count : ℕ) (image device block file letter mode wanted scratch out : List ℕ)
    → Unique (λ (left : List ℕ). left ≡ (answered count image device block file letter mode wanted scratch).scratch)
answer_scratch_unique count image device block file letter mode wanted scratch out = only (answered count image device block file letter mode wanted scratch).scratch

pub tell_unique : (count : ℕ) (image device block file letter mode out : List ℕ)
    → Unique (λ (r : Told). r ≡ told_on (told count image device block file letter mode).stream out (told count image device block file letter mode).line)
tell_unique count image device block file letter mode out = only (told_on (told count image device block file letter mode).stream out (told count image device block file letter mode).line)

pub tell_out_unique : (count : ℕ) (image device block file letter mode out : List ℕ)
    → Unique (λ (left : List ℕ). left ≡ laid_at out 0 (told count image device block file letter mode).line)
tell_out_unique count image device block file letter mode out = only (laid_at out 0 (told count image device block file letter mode).line)

pub tell_image_unique : (count : ℕ) (image device block file letter mode out : List ℕ)
    → Unique (λ (left : List ℕ). left ≡ (told count image device block file letter mode).image)
tell_image_unique count image device block file letter mode out = only (told count image device block file letter mode).image
