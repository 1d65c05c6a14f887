-- The data of a cycle, the loader's or an interruption's, leave a record of the same part, block and levels, its place in the block.
use mathlib.Core.Path.{◌≡◌, refl}
use mathlib.Core.List.{List}
use Prim.Native.Nat.{ℕ, ◌≤◌, ◌<◌}
use native.Mathlib.Omega.{arith}
use lib.ListN.{length}
use lib.Dec.{eqb, ltb, leb}
use Rattle.common.proofs.Choice.{if_ind}
use Rattle.loader.specs.declared.Loader.{Loader}
use Rattle.loader_moves.specs.Moves.{ended_by}
use Rattle.loader.specs.Statuses.{status_in, is_ready, erase_end}
use Rattle.loader_moves.specs.Inner.{past}
use Rattle.loader_stores.specs.Stores.{store_of}
use Rattle.loader_steps.proofs.StartAndStep.{Kept, kept_next}
use Rattle.loader_held.specs.declared.Step.{Step}
use Rattle.loader_held.specs.declared.Step.TheVariants.{Usual, Halting, Looking, Settling, ArrayAsking, Fetching, Resuming}
use Rattle.loader_held.specs.declared.Hold.{Hold}
use Rattle.loader_held.specs.declared.Pair.{Pair}
use Rattle.loader_held.specs.Holds.{settled_by, fetch_on, held_next}

module _ (l : Loader) (h : Hold) (k : ℕ) (w sc ps : List ℕ) where
  abbrev In : Pair → Type 0
  In q = Kept l (length w) q.loader

  same : Kept l (length w) l
  same = record { same = refl; place = λ i. i; polls = λ i. i }

  pub ended_kept : (n : ℕ) → Kept l (length w) (ended_by l n)
  ended_kept n = record { same = refl; place = λ i. i; polls = λ (q : l.polls ≤ 65534). omega arith }

  settled_kept : (sr : ℕ) → In (settled_by l h sr)
  unfolding settled_by
  settled_kept sr =
      if_ind In (is_ready sr) _ _ (λ e. if_ind In (eqb (erase_end sr) 0) _ _ (λ q. same) (λ q. ended_kept (erase_end sr)))
      (λ e. if_ind In (leb 65534 h.waits) _ _ (λ q. ended_kept 20) (λ q. same))

  fetched_kept : (i : ℕ) → In (fetch_on l h i k w sc)
  unfolding fetch_on
  fetched_kept i =
      if_ind In (ltb i k) _ _ (λ q. same) (λ q. if_ind In h.suspended _ _ (λ t. same) (λ t. kept_next l w l.stage 0x80 (store_of l 0x80 w sc)))

  pub held_kept : (step : Step) (v : ℕ) → In (held_next step l h v k w sc ps)
  held_kept Usual v = kept_next l w l.stage v (store_of l v w sc)
  held_kept Halting v = same
  held_kept Looking v = same
  held_kept Settling v = settled_kept (status_in v)
  held_kept ArrayAsking v = fetched_kept 0
  held_kept Fetching v = fetched_kept (past h.place k)
  held_kept Resuming v = record { same = refl; place = λ (i : l.place < length w). omega arith; polls = λ (q : l.polls ≤ 65534). omega arith }
