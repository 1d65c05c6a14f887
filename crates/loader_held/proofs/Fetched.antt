-- The reads are done and the erase was found finished: what follows.
use mathlib.Core.Path.{◌≡◌, ◌∙◌}
use mathlib.Core.Bool.{false}
use mathlib.Core.List.{List}
use Prim.Native.Nat.{ℕ}
use lib.Dec.{ltb}
use Rattle.common.proofs.Choice.{if_false}
use Rattle.loader.specs.declared.Loader.{Loader}
use Rattle.loader_moves.specs.Moves.{next_of}
use Rattle.loader_stores.specs.Stores.{store_of}
use Rattle.loader_held.specs.declared.Hold.{Hold}
use Rattle.loader_held.specs.Holds.{usual, pair_of, fetch_on, fetch_stored}

module _ (l : Loader) (h : Hold) (i k : ℕ) (w sc : List ℕ) (done : ltb i k ≡ false) (free : h.suspended ≡ false) where
  pub fetch_finished : fetch_on l h i k w sc ≡ pair_of (next_of l 0x80 w (store_of l 0x80 w sc)) (usual h.number)
  unfolding fetch_on
  fetch_finished = if_false (ltb i k) _ _ done ∙ if_false h.suspended _ _ free

  pub stored_finished : fetch_stored l h i k w sc ≡ store_of l 0x80 w sc
  unfolding fetch_stored
  stored_finished = if_false (ltb i k) _ _ done ∙ if_false h.suspended _ _ free
