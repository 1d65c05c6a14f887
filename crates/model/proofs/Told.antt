-- What the host sees tells by its cases what the cycle tells.
use mathlib.Core.Path.{◌≡◌, refl, ap, ◌∙◌}
use mathlib.Core.List.{List}
use Prim.Native.Nat.{ℕ}
use lib.ListN.{length}
use Rattle.device.specs.declared.Device.{Device}
use Rattle.model_types.specs.declared.Reply.{Reply}
use Rattle.model_types.specs.declared.Reply.TheVariants.{Quiet, Gives, GivesArray, Refuses}
use Rattle.model_types.specs.declared.State.{State}
use Rattle.model_types.specs.declared.Cycle.{Cycle}
use Rattle.model_rules.specs.Cycles.{decide_of}
use Rattle.model_rules.specs.Inner.{decide_judged}
use Rattle.model.specs.declared.Seen.{Seen}
use Rattle.model.specs.declared.Answer.{Answer}
use Rattle.model.specs.Arrays.{seen_of, answer_of, array_after, seen_told, reply_told, cycle_told}
use Rattle.model.specs.Inner.{answer_judged, array_judged, passed_told}

-- by the kinds of reply
pub reply_told_lem : (reply : Reply) (xs : List ℕ) → seen_told (seen_of reply xs) ≡ reply_told reply xs
reply_told_lem Quiet xs = refl
reply_told_lem (Gives v) xs = refl
reply_told_lem (GivesArray a) xs = refl
reply_told_lem (Refuses n) xs = refl

-- what is seen, with what it tells
pub seen_too : {r : Seen} (reply : Reply) (xs : List ℕ) → r ≡ seen_of reply xs → (r ≡ seen_of reply xs) × (seen_told r ≡ reply_told reply xs)
seen_too reply xs e = (e, ap seen_told e ∙ reply_told_lem reply xs)

-- an answer's equation with what it tells, and with what is left
pub answer_too : {r : Answer} {Left : Type 0} (d : Device) (s : State) (c : Cycle) (xs rs : List ℕ) → r ≡ answer_of d s c xs rs → Left
    → (r ≡ answer_of d s c xs rs) × ((seen_told r.seen ≡ cycle_told d s c xs rs) × Left)
unfolding answer_of cycle_told
answer_too d s c xs rs e left =
    (e, (ap (λ (x : Answer). seen_told x.seen) e ∙ reply_told_lem (decide_of d s c (length xs) (length rs)).reply (array_after d s c xs rs), left))

pub judged_too : {r : Answer} {Left : Type 0} (d : Device) (s : State) (c : Cycle) (xs rs : List ℕ) → r ≡ answer_judged d s c xs rs → Left
    → (r ≡ answer_judged d s c xs rs) × ((seen_told r.seen ≡ passed_told d s c xs rs) × Left)
unfolding answer_judged passed_told
judged_too d s c xs rs e left =
    (e, (ap (λ (x : Answer). seen_told x.seen) e ∙ reply_told_lem (decide_judged d s c).reply (array_judged d s c xs rs), left))
