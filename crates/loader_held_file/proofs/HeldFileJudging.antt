-- The numbers of an interrupted load from a file: a run's first, then the file's, then those of the lists.
use mathlib.Core.Path.{◌≡◌, refl, sym, ap, ◌∙◌}
use mathlib.Core.Bool.{Bool, true, false}
use mathlib.Core.List.{List}
use Prim.Native.Nat.{ℕ}
use lib.Dec.{eqb}
use borrow.Author.Tests.{eqb-true, eq-eqb, ne_eqb}
use Rattle.std.specs.Prelude.{if◌then◌else◌}
use Rattle.common.proofs.Choice.{if_true, if_false, unlike}
use Rattle.common.proofs.Numbers.{given_append}
use Rattle.loader_run.specs.Runs.{lent_number, run_first}
use Rattle.loader_from_file.specs.Loads.{file_number, load_rows, load_number}
use Rattle.loader_from_file.proofs.Judging.{load_numbered, file_after}
use Rattle.loader_held_lists.specs.Listings.{held_rows, held_number}
use Rattle.loader_held_file.specs.HeldLoads.{held_load_number}
use Rattle.loader_run.specs.declared.Job.{Job}

module _ (j : Job) (array w sc : ℕ) (f : List ℕ) (asked : ℕ) (bs : List ℕ) (room : ℕ) where
  abbrev load : ℕ
  load = load_number j array w sc f asked

  abbrev run : ℕ
  run = lent_number j array w sc

  abbrev file : ℕ
  file = file_number f asked w

  abbrev lists : ℕ
  lists = held_number j.device.part j.block bs room

  abbrev number : ℕ
  number = held_load_number j array w sc f asked bs room

  -- the lists are asked where the load's tests give nothing
  pub lists_last : number ≡ (if eqb load 0 then lists else load)
  unfolding run_first held_number
  lists_last = given_append (load_rows j array w sc f asked) (held_rows j.device.part j.block bs room) (load_numbered j array w sc f asked)

  -- by a load's own number
  by_load : (load ≡ 0 → ⊥) → number ≡ load
  by_load z = lists_last ∙ if_false (eqb load 0) lists load (ne_eqb load 0 z)

  -- by the run, by the file, by the lists
  pub by_run : (run ≡ 0 → ⊥) → number ≡ run
  by_run z =
      let e : load ≡ run = file_after j array w sc f asked ∙ if_false (eqb run 0) file run (ne_eqb run 0 z) in
      by_load (λ q. z (sym e ∙ q)) ∙ e

  pub by_file : run ≡ 0 → (file ≡ 0 → ⊥) → number ≡ file
  by_file r z =
      let e : load ≡ file = file_after j array w sc f asked ∙ if_true (eqb run 0) file run (eq-eqb run 0 r) in
      by_load (λ q. z (sym e ∙ q)) ∙ e

  pub by_lists : run ≡ 0 → file ≡ 0 → number ≡ lists
  by_lists r z =
      let e : load ≡ 0 = file_after j array w sc f asked ∙ if_true (eqb run 0) file run (eq-eqb run 0 r) ∙ z in
      lists_last ∙ if_true (eqb load 0) lists load (eq-eqb load 0 e)

  -- where nothing refuses: neither the load's tests nor those of the lists
  pub none_refuses : number ≡ 0 → (load ≡ 0) × (lists ≡ 0)
  none_refuses e = go load lists (sym lists_last ∙ e) (eqb load 0) refl
    where
      go : (a b : ℕ) → (if eqb a 0 then b else a) ≡ 0 → (t : Bool) → eqb a 0 ≡ t → (a ≡ 0) × (b ≡ 0)
      go a b z true q = (eqb-true a 0 q, sym (if_true (eqb a 0) b a q) ∙ z)
      go a b z false q =
          let y : a ≡ 0 = sym (if_false (eqb a 0) b a q) ∙ z in
          absurd (unlike (sym (ap (λ (m : ℕ). eqb m 0) y) ∙ q))
