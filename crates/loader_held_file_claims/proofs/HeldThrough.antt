-- Demand 3 of a load from a file with interruptions: its run has the file and FFH as what is wanted.
use mathlib.Core.Path.{◌≡◌, refl, sym, ap, ◌∙◌, subst}
use mathlib.Core.Bool.{Bool}
use mathlib.Core.List.{List}
use Prim.Native.Nat.{ℕ, ◌-◌}
use native.Mathlib.Omega.{arith}
use lib.ListN.{length, get_or, replicate}
use lib.Dec.{eqb}
use borrow.Author.Tests.{eq-eqb}
use Rattle.common.proofs.Choice.{if_true}
use Rattle.common.proofs.Numbers.{given_no_row}
use Rattle.common.proofs.Bytes.{bytes_append, bytes_replicate}
use Rattle.device.specs.Parts.{start_of}
use Rattle.units.specs.Address.{byte_of}
use Rattle.loader_run.specs.Runs.{lent_number, run_first, doing}
use Rattle.loader_run_claims.specs.Wear.{held_in}
use Rattle.loader_from_file.specs.Loads.{load_number, wanted_of}
use Rattle.loader_from_file.proofs.Filling.{wanted_length}
use Rattle.loader_from_file.proofs.Judging as file-judging
use Rattle.loader_held_lists.specs.Listings.{held_number}
use Rattle.loader_held_run.specs.HeldRuns.{held_run_rows, held_run_number, lent_held}
use Rattle.loader_held_run.proofs.HeldJudging.{lists_after}
use Rattle.loader_held_ends.specs.HeldLent.{LentHeldStart, LentHeldDemand3}
use Rattle.loader_held_ends.proofs.HeldLent.{lent_held_demand_3}
use Rattle.loader_held_file.specs.HeldLoads.{held_load_number, HeldLoadLeft, held_load_made, held_file_left}
use Rattle.loader_held_file.proofs.HeldFileJudging as judging
use Rattle.loader_held_file.proofs.HeldFileLeaving as leaving
use Rattle.loader_held_file_claims.specs.HeldThrough.{HeldFileStart, HeldFileLoaded}
use Rattle.loader_run.specs.declared.Job.{Job}
use Rattle.loader.specs.declared.Work.TheVariants.{Load}

module _ (verify : Bool) (j : Job) (xs w sc f : List ℕ) (asked : ℕ) (ps bs room : List ℕ) (t : HeldFileStart j xs w sc f asked bs room) where
  abbrev wish : List ℕ
  wish = wanted_of f (length w)

  none : held_load_number j (length xs) (length w) (length sc) f asked bs (length room) ≡ 0
  none = leaving.rows_none (doing (Load verify) j) xs w sc f asked ps bs room t.accepted

  load_none : load_number j (length xs) (length w) (length sc) f asked ≡ 0
  load_none = (judging.none_refuses j (length xs) (length w) (length sc) f asked bs (length room) none).0

  lists_none : held_number j.device.part j.block bs (length room) ≡ 0
  lists_none = (judging.none_refuses j (length xs) (length w) (length sc) f asked bs (length room) none).1

  -- nothing is refused, so what is wanted is as long as the block
  long : length wish ≡ length w
  long = wanted_length f (length w) (file-judging.short_file j (length xs) (length w) (length sc) f asked load_none)

  run_none : lent_number j (length xs) (length wish) (length sc) ≡ 0
  run_none = subst (λ (n : ℕ). lent_number j (length xs) n (length sc) ≡ 0) (sym long) (file-judging.none_refuses j (length xs) (length w) (length sc) f asked load_none).0

  held_none : held_run_number j (length xs) (length wish) (length sc) bs (length room) ≡ 0
  held_none =
      lists_after j (length xs) (length wish) (length sc) bs (length room)
      ∙ if_true (eqb (lent_number j (length xs) (length wish) (length sc)) 0) (held_number j.device.part j.block bs (length room)) (lent_number j (length xs) (length wish) (length sc)) (eq-eqb (lent_number j (length xs) (length wish) (length sc)) 0 run_none)
      ∙ lists_none

  -- the run's start
  start : LentHeldStart j xs wish sc bs room
  unfolding run_first
  start =
      record {
        base =
            record {
              accepted = given_no_row (held_run_rows j (length xs) (length wish) (length sc) bs (length room)) refl held_none;
              array_bytes = t.array_bytes;
              wanted_bytes = bytes_append f (replicate (length w - length f) 255) t.file_bytes (bytes_replicate (length w - length f) 255 (omega arith));
              room_bytes = t.room_bytes;
              programs = t.programs;
              erase_time = t.erase_time;
            };
        high = t.high;
        unlock = t.unlock;
      }

  -- the load leaves what its run leaves, and wanted filled
  left : held_file_left (doing (Load verify) j) xs w sc f asked ps bs room ≡ held_load_made (lent_held (doing (Load verify) j) xs wish sc ps bs room) wish
  left = leaving.made_left (doing (Load verify) j) xs w sc f asked ps bs room none

  -- demand 3 of that run
  demand : LentHeldDemand3 verify j xs wish sc ps bs room
  demand = lent_held_demand_3 verify j xs wish sc ps bs room start

  pub loaded : HeldFileLoaded verify j xs w sc f asked ps bs room
  loaded =
      record {
        well = ap (λ (x : HeldLoadLeft). x.ran.end) left ∙ demand.well;
        counted = ap (λ (x : HeldLoadLeft). x.ran.count) left ∙ demand.by_formula;
        holds =
            ap (λ (x : HeldLoadLeft). held_in (byte_of j.device.part.word (start_of j.device.part j.block)) (length w) x.bytes) left
            ∙ subst (λ (n : ℕ). held_in (byte_of j.device.part.word (start_of j.device.part j.block)) n (lent_held (doing (Load verify) j) xs wish sc ps bs room).bytes ≡ wish) long demand.block;
        before = λ x h. ap (λ (y : HeldLoadLeft). get_or y.bytes x 0) left ∙ demand.before x h;
        behind = λ x h. ap (λ (y : HeldLoadLeft). get_or y.bytes x 0) left ∙ demand.behind x (omega (arith, long));
        wanted_left = ap (λ (x : HeldLoadLeft). x.wanted) left;
        scratch_left = ap (λ (x : HeldLoadLeft). x.scratch) left ∙ demand.scratch_left;
        room_left = ap (λ (x : HeldLoadLeft). x.room) left ∙ demand.room_left;
        demand = demand;
        left = left;
      }
