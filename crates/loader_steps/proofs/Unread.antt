-- What a step does not look at: in byte mode the high byte of the data, and in a status at either width.
use mathlib.Core.Path.{◌≡◌, refl, ap, ◌∙◌}
use mathlib.Core.Bool.{Bool, true, false, ◌&&◌}
use mathlib.Core.List.{List}
use Prim.Native.Nat.{ℕ, ◌+◌, ◌-◌, ◌%◌}
use native.Mathlib.Omega.{arith}
use lib.ListN.{length, get_or, set}
use lib.Dec.{eqb, ltb}
use Rattle.std.specs.Prelude.{if◌then◌else◌}
use Rattle.units.specs.Units.{carried}
use Rattle.loader.specs.declared.Stage.{Stage}
use Rattle.loader.specs.declared.Stage.TheVariants.{Clearing, Opening, Reading, EraseAsking, EraseConfirming, EraseWaiting, ProgramAsking, ProgramSending, ProgramWaiting, Closing, Verifying, Ended}
use Rattle.loader.specs.declared.Loader.{Loader}
use Rattle.loader_moves.specs.Moves.{moved_to, ended_by, ended_apart, erase_polled, program_polled, verify_more, next_in, next_of}
use Rattle.loader_stores.specs.Stores.{erase_stored, program_stored, store_in, store_of}
use Rattle.loader_steps.specs.Front.{step_number, response_at, refused_by, step_response, scratch_after}

twice : (v : ℕ) → v % 256 % 256 ≡ v % 256
twice v = omega arith

-- what is carried is carried whole, and has the same low 8 bits
carried_again : (w : Bool) (v : ℕ) → carried w (carried w v) ≡ carried w v
carried_again true v = refl
carried_again false v = twice v

carried_low : (w : Bool) (v : ℕ) → carried w v % 256 ≡ v % 256
carried_low true v = refl
carried_low false v = twice v

module _ (l : Loader) (v : ℕ) (w sc : List ℕ) where
  abbrev u : ℕ
  u = carried l.part.word v

  verify_unread : verify_more l u w ≡ verify_more l v w
  unfolding verify_more
  verify_unread =
      λ i. if eqb (carried_again l.part.word v i) (get_or w l.place 0)
      then (if ltb l.place (length w - 1) then moved_to l Verifying (l.place + 1) 0 else ended_by l 0)
      else apart i
    where
      apart : ended_apart l u (get_or w l.place 0) ≡ ended_apart l v (get_or w l.place 0)
      apart = λ i. record { part = l.part; pins = l.pins; block = l.block; stage = Ended 25; place = l.place; polls = 0; verify = l.verify; high = l.part.word && eqb (carried_low l.part.word v i) (get_or w l.place 0 % 256) }

  pub next_unread : (stage : Stage) → next_in stage l u w sc ≡ next_in stage l v w sc
  next_unread Clearing = refl
  next_unread Opening = refl
  next_unread Reading = refl
  next_unread EraseAsking = refl
  next_unread EraseConfirming = refl
  next_unread EraseWaiting = ap (λ (b : ℕ). erase_polled l b w sc) (carried_low l.part.word v)
  next_unread ProgramAsking = refl
  next_unread ProgramSending = refl
  next_unread ProgramWaiting = ap (λ (b : ℕ). program_polled l b w sc) (carried_low l.part.word v)
  next_unread Closing = refl
  next_unread Verifying = verify_unread
  next_unread (Ended n) = refl

  pub store_unread : (stage : Stage) → store_in stage l.part l.place u w sc ≡ store_in stage l.part l.place v w sc
  store_unread Clearing = refl
  store_unread Opening = refl
  store_unread Reading = ap (λ (x : ℕ). set sc l.place x) (carried_again l.part.word v)
  store_unread EraseAsking = refl
  store_unread EraseConfirming = refl
  store_unread EraseWaiting = ap (λ (b : ℕ). erase_stored l.part b sc) (carried_low l.part.word v)
  store_unread ProgramAsking = refl
  store_unread ProgramSending = refl
  store_unread ProgramWaiting = ap (λ (b : ℕ). program_stored l.place b w sc) (carried_low l.part.word v)
  store_unread Closing = refl
  store_unread Verifying = ap (λ (x : ℕ). set sc l.place x) (carried_again l.part.word v)
  store_unread (Ended n) = refl

-- a step gives and leaves what it would with the carried bits alone
pub step_unread : (l : Loader) (v : ℕ) (w sc : List ℕ)
    → (step_response l (carried l.part.word v) w sc ≡ step_response l v w sc) × (scratch_after l (carried l.part.word v) w sc ≡ scratch_after l v w sc)
unfolding step_response scratch_after
step_unread l v w sc =
    let s : store_of l (carried l.part.word v) w sc ≡ store_of l v w sc = store_unread l v w sc l.stage in
    let n : next_of l (carried l.part.word v) w (store_of l (carried l.part.word v) w sc) ≡ next_of l v w (store_of l v w sc) =
    ap (λ (z : List ℕ). next_of l (carried l.part.word v) w z) s ∙ next_unread l v w (store_of l v w sc) l.stage in (
      ap (λ (r : Loader). if eqb (step_number l (length w) (length sc)) 0 then response_at r w else refused_by (step_number l (length w) (length sc)) l) n,
      ap (λ (z : List ℕ). if eqb (step_number l (length w) (length sc)) 0 then z else sc) s,
    )
