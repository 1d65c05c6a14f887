-- After its end a load with interruptions repeats that end.
use mathlib.Core.Path.{◌≡◌, refl, sym, ap, ◌∙◌}
use mathlib.Core.Bool.{true}
use mathlib.Core.List.{List}
use Prim.Native.Nat.{ℕ}
use lib.ListN.{length}
use Rattle.common.proofs.Choice.{unlike}
use Rattle.loader.specs.declared.Stage.{Stage}
use Rattle.loader.specs.declared.Stage.TheVariants.{Ended}
use Rattle.loader.specs.declared.Loader.{Loader}
use Rattle.loader.specs.declared.Saying.{Saying}
use Rattle.loader.specs.declared.Saying.TheVariants.{Over}
use Rattle.loader_moves.specs.Moves.{next_in, next_of}
use Rattle.loader_stores.specs.Stores.{store_in, store_of}
use Rattle.loader_steps.specs.Front.{end_address, saying_in}
use Rattle.loader_held.specs.declared.Step.{Step}
use Rattle.loader_held.specs.declared.Step.TheVariants.{Usual, Halting, Looking, Settling, ArrayAsking, Fetching, Resuming}
use Rattle.loader_held.specs.declared.Hold.{Hold}
use Rattle.loader_held.specs.declared.Pair.{Pair}
use Rattle.loader_held.specs.Holds.{usual, pair_of, numbered, moved_on, held_next, held_scratch, held_room}
use Rattle.loader_held_steps.specs.declared.HeldResponse.{HeldResponse}
use Rattle.loader_held_steps.specs.HeldFront.{interrupting, waits_erase, step_held_number, held_response, held_move, step_held_response}
use Rattle.loader_held_steps.proofs.Passed.{step_passed}
use Rattle.loader_held_steps.proofs.HeldAgain.{waits_erase_lem}
use Rattle.loader_held_steps.proofs.HeldAnswering.{step_on}

module _ (l : Loader) (h : Hold) (v n : ℕ) (w sc ps bs : List ℕ) (room : ℕ) (e : step_held_number l h (length w) (length sc) bs room ≡ 0) (q : l.stage ≡ Ended n) where
  -- no interruption is under way
  busy : interrupting h.step ≡ true → ⊥
  busy i = unlike (sym (waits_erase_lem (length bs) l h (step_passed l h (length w) (length sc) bs room e).fit i) ∙ ap waits_erase q)

  pub idle : h.step ≡ Usual
  idle = go h.step refl
    where
      go : (s : Step) → h.step ≡ s → s ≡ Usual
      go Usual o = refl
      go Halting o = absurd (busy (ap interrupting o))
      go Looking o = absurd (busy (ap interrupting o))
      go Settling o = absurd (busy (ap interrupting o))
      go ArrayAsking o = absurd (busy (ap interrupting o))
      go Fetching o = absurd (busy (ap interrupting o))
      go Resuming o = absurd (busy (ap interrupting o))

  abbrev last : HeldResponse
  last = record { saying = Over n (end_address l n); pair = pair_of l (usual h.number) }

  abbrev response_as : Saying → HeldResponse
  response_as t = record { saying = t; pair = pair_of l (usual h.number) }

  pub end_again : (step_held_response l h v w sc ps bs room ≡ last)
      × (held_scratch h.step l h v (length bs) w sc ≡ sc)
      × ((us : List ℕ) → held_room h.step l.part.word h v us ≡ us)
  end_again =
      let stored : store_of l v w sc ≡ sc = ap (λ (st : Stage). store_in st l.part l.place v w sc) q in
      let stays : next_of l v w (store_of l v w sc) ≡ l = ap (λ (st : Stage). next_in st l v w (store_of l v w sc)) q in
      let moves : held_move l h v w sc ps bs ≡ pair_of l (usual h.number) =
      ap (λ (s : Step). held_next s l h v (length bs) w sc ps) idle ∙ ap (λ (r : Loader). moved_on r h.number ps) stays ∙ ap (λ (st : Stage). pair_of l (numbered st h.number ps)) q in (
        step_on l h v w sc ps bs room e ∙ ap (λ (x : Pair). held_response x w bs) moves ∙ ap (λ (st : Stage). response_as (saying_in st l w)) q,
        ap (λ (s : Step). held_scratch s l h v (length bs) w sc) idle ∙ stored,
        λ us. ap (λ (s : Step). held_room s l.part.word h v us) idle,
      )
