-- Steps one after the other, each with the data that a host hands in, and the sayings that they give.
use Rattle.std.specs.Prelude.{◌≡◌, List, [], ◌∷◌, ℕ, length, eqb, if◌then◌else◌}
use Rattle.loader.specs.declared.Loader.{Loader}
use Rattle.loader.specs.declared.Saying.{Saying}
use Rattle.loader_steps.specs.Front.{step_response, scratch_after}
use Rattle.loader_held.specs.declared.Hold.{Hold}
use Rattle.loader_held.specs.Holds.{usual, held_scratch}
use Rattle.loader.specs.declared.Response.{Response}
use Rattle.loader_held_steps.specs.declared.HeldResponse.{HeldResponse}
use Rattle.loader_held_steps.specs.HeldFront.{step_held_number, step_held_response}

-- no interruption is under way
pub record Still (h : Hold) : Type 0 where
  pub number : ℕ
  pub is : h ≡ usual number

-- a step with the lists gives what the loader's own gives: the same saying and record, and no interruption is under way
pub record AsOld (g : HeldResponse) (o : Response) : Type 0 where
  pub saying : g.saying ≡ o.saying
  pub loader : g.pair.loader ≡ o.loader
  pub hold : Still g.pair.hold

-- what a step with the lists leaves in scratch, in units
unfoldable pub held_scratch_after : Loader → Hold → ℕ → List ℕ → List ℕ → List ℕ → ℕ → List ℕ
held_scratch_after l h v w sc bs room = if eqb (step_held_number l h (length w) (length sc) bs room) 0
    then held_scratch h.step l h v (length bs) w sc else sc

-- the sayings that steps of the loader alone give for such data
abbrev pub old_sayings : List ℕ → Loader → List ℕ → List ℕ → List Saying
old_sayings [] l w sc = []
old_sayings (v ∷ vs) l w sc = (step_response l v w sc).saying ∷ old_sayings vs (step_response l v w sc).loader w (scratch_after l v w sc)

-- .. and those of steps with the lists
abbrev pub held_sayings : List ℕ → Loader → Hold → List ℕ → List ℕ → List ℕ → List ℕ → ℕ → List Saying
held_sayings [] l h w sc ps bs room = []
held_sayings (v ∷ vs) l h w sc ps bs room =
    (step_held_response l h v w sc ps bs room).saying
    ∷ held_sayings vs (step_held_response l h v w sc ps bs room).pair.loader (step_held_response l h v w sc ps bs room).pair.hold w
    (held_scratch_after l h v w sc bs room) ps bs room
