-- What a run leaves, where its number is known.
use mathlib.Core.Path.{◌≡◌}
use mathlib.Core.List.{List}
use Prim.Native.Nat.{ℕ}
use lib.ListN.{length}
use lib.Dec.{eqb}
use borrow.Author.Tests.{eq-eqb, ne_eqb}
use Rattle.common.proofs.Choice.{if_true, if_false}
use Rattle.loader_run.specs.Runs.{run_number, run_made, run_refused, run_end, run_left}
use Rattle.loader_run.specs.declared.Job.{Job}

module _ (j : Job) (xs w sc : List ℕ) where
  abbrev number : ℕ
  number = run_number j (length xs) (length w) (length sc)

  -- nothing refused: what the load leaves
  pub left_made : number ≡ 0 → run_left j xs w sc ≡ run_made (run_end j xs w sc)
  unfolding run_left
  left_made z = if_true (eqb number 0) (run_made (run_end j xs w sc)) (run_refused number j.state xs sc) (eq-eqb number 0 z)

  -- refused: what was lent
  pub left_refused : (number ≡ 0 → ⊥) → run_left j xs w sc ≡ run_refused number j.state xs sc
  unfolding run_left
  left_refused z = if_false (eqb number 0) (run_made (run_end j xs w sc)) (run_refused number j.state xs sc) (ne_eqb number 0 z)
