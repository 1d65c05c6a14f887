-- Each promise of a public function has one answer.
use mathlib.Core.Path.{◌≡◌}
use mathlib.Core.List.{List}
use Prim.Native.Nat.{ℕ}
use Rattle.common.specs.Choice.{Unique}
use Rattle.common.proofs.Choice.{only}
use Rattle.store_survey.specs.Survey.{spot_in, survey_of}
use Rattle.store_survey.specs.declared.Spot.{Spot}
use Rattle.store_survey.specs.declared.Survey.{Survey}

pub spot_at_unique : (main : List ℕ) (place : ℕ) → Unique (λ (r : Spot). r ≡ spot_in main place)
spot_at_unique main place = only (spot_in main place)

pub survey_of_unique : (main : List ℕ) (letter blocks : ℕ) → Unique (λ (r : Survey). r ≡ survey_of letter blocks main)
survey_of_unique main letter blocks = only (survey_of letter blocks main)
