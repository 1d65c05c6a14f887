-- What is claimed of letters, in one place: a letter that is written is read back.
use mathlib.Core.Path.{◌≡◌, refl}
use Rattle.model_types.specs.declared.Mode.{Mode}
use Rattle.model_types.specs.declared.Mode.TheVariants.{Array, Status, Identifier}
use Rattle.vectors_states.specs.Letters.{mode_by, mode_letter}

-- the letter of a mode is read back as that mode
pub mode_back : (m : Mode) → mode_by (mode_letter m) ≡ m
unfolding mode_by
mode_back Array = refl
mode_back Status = refl
mode_back Identifier = refl
