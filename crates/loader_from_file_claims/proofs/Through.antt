-- Demand 3 of a run, and a verify, with the file and FFH as what is wanted.
use mathlib.Core.Path.{◌≡◌, refl, sym, ap, ◌∙◌, subst}
use mathlib.Core.Bool.{true}
use mathlib.Core.List.{List}
use mathlib.Core.Logic.{◌↔◌}
use Prim.Native.Nat.{ℕ, ◌-◌}
use native.Mathlib.Omega.{arith}
use lib.ListN.{length, get_or, replicate}
use Rattle.common.specs.Lists.{Bytes}
use Rattle.common.specs.Numbers.{NoRow}
use Rattle.common.proofs.Numbers.{given_no_row}
use Rattle.common.proofs.Bytes.{bytes_append, bytes_replicate}
use Rattle.loader_run.specs.Runs.{lent_rows, lent_number, lent_run, run_first, doing}
use Rattle.loader_run_claims.specs.Wear.{held_in}
use Rattle.loader_run_claims.specs.Lent.{LentStart, LentDemand3}
use Rattle.loader_run_claims.proofs.Claims as run-claims
use Rattle.loader_verify_claims.proofs.Claims as verify-claims
use Rattle.loader_from_file.specs.Loads.{load_rows, load_number, wanted_of, LoadLeft, load_made, load_left}
use Rattle.loader_from_file.proofs.Filling.{wanted_length}
use Rattle.loader_from_file.proofs.Judging.{none_refuses, short_file}
use Rattle.loader_from_file.proofs.Leaving.{made_left, rows_none}
use Rattle.loader_from_file_claims.specs.Through.{first_of, FileStart, FileLoaded}
use Rattle.loader.specs.declared.Work.TheVariants.{Load, Verify}
use Rattle.loader_run.specs.declared.Job.{Job}

module _ (j : Job) (xs w sc f : List ℕ) (asked : ℕ) (t : FileStart j xs w sc f asked) where
  -- what the load wants
  abbrev wish : List ℕ
  wish = wanted_of f (length w)

  -- nothing is refused, so what is wanted is as long as the block
  none : load_number j (length xs) (length w) (length sc) f asked ≡ 0
  none = rows_none (doing (Load true) j) xs w sc f asked t.accepted

  long : length wish ≡ length w
  long = wanted_length f (length w) (short_file j (length xs) (length w) (length sc) f asked none)

  -- the run's start
  start : LentStart j xs wish sc
  unfolding run_first
  start =
      record {
        accepted =
            given_no_row (lent_rows j (length xs) (length wish) (length sc)) refl
            (subst (λ (n : ℕ). lent_number j (length xs) n (length sc) ≡ 0) (sym long) (none_refuses j (length xs) (length w) (length sc) f asked none).0);
        high = t.high;
        unlock = t.unlock;
        array_bytes = t.array;
        wanted_bytes = bytes_append f (replicate (length w - length f) 255) t.bytes (bytes_replicate (length w - length f) 255 (omega arith));
        programs = t.programs;
        erases = t.erases;
      }

  -- the load leaves what its run leaves, and wanted filled
  left : load_left (doing (Load true) j) xs w sc f asked ≡ load_made (lent_run (doing (Load true) j) xs wish sc) wish
  left = made_left (doing (Load true) j) xs w sc f asked none

  -- demand 3 of that run
  demand : LentDemand3 true j xs wish sc
  demand = run-claims.lent_demand_3 j xs wish sc start

  pub loaded : FileLoaded j xs w sc f asked
  loaded =
      record {
        ran = ap (λ (x : LoadLeft). x.ran) left ∙ demand.returned;
        holds =
            ap (λ (x : LoadLeft). held_in (first_of j.device j.block) (length w) x.bytes) left
            ∙ subst (λ (n : ℕ). held_in (first_of j.device j.block) n (lent_run (doing (Load true) j) xs wish sc).bytes ≡ wish) long demand.block;
        before = λ x h. ap (λ (y : LoadLeft). get_or y.bytes x 0) left ∙ demand.before x h;
        behind = λ x h. ap (λ (y : LoadLeft). get_or y.bytes x 0) left ∙ demand.behind x (omega (arith, long));
        wanted = ap (λ (x : LoadLeft). x.wanted) left;
        scratch = ap (λ (x : LoadLeft). x.scratch) left ∙ demand.scratch_left;
        demand = demand;
        left = left;
      }

-- a verify from a file is the verify alone with the file and FFH as what is wanted
module _ (j : Job) (xs w sc f : List ℕ) (asked : ℕ) (free : NoRow (load_rows j (length xs) (length w) (length sc) f asked)) where
  unrefused : load_number j (length xs) (length w) (length sc) f asked ≡ 0
  unrefused = rows_none (doing Verify j) xs w sc f asked free

  pub verified : load_left (doing Verify j) xs w sc f asked ≡ load_made (lent_run (doing Verify j) xs (wanted_of f (length w)) sc) (wanted_of f (length w))
  verified = made_left (doing Verify j) xs w sc f asked unrefused

  long_wish : length (wanted_of f (length w)) ≡ length w
  long_wish = wanted_length f (length w) (short_file j (length xs) (length w) (length sc) f asked unrefused)

  -- it ends well exactly where the block holds them
  pub verified_exactly : Bytes f → Bytes xs → ((load_left (doing Verify j) xs w sc f asked).ran.end ≡ 0) ↔ (held_in (first_of j.device j.block) (length w) xs ≡ wanted_of f (length w))
  unfolding run_first
  verified_exactly bf bx =
      subst (λ (n : ℕ). ((load_left (doing Verify j) xs w sc f asked).ran.end ≡ 0) ↔ (held_in (first_of j.device j.block) n xs ≡ wanted_of f (length w))) long_wish
      (subst (λ (x : LoadLeft). (x.ran.end ≡ 0) ↔ (held_in (first_of j.device j.block) (length (wanted_of f (length w))) xs ≡ wanted_of f (length w))) (sym verified)
      (verify-claims.lent_well_exactly j xs (wanted_of f (length w)) sc bx (bytes_append f (replicate (length w - length f) 255) bf (bytes_replicate (length w - length f) 255 (omega arith)))
      (given_no_row (lent_rows j (length xs) (length (wanted_of f (length w))) (length sc)) refl ok)))
    where
      ok : lent_number j (length xs) (length (wanted_of f (length w))) (length sc) ≡ 0
      ok = subst (λ (n : ℕ). lent_number j (length xs) n (length sc) ≡ 0) (sym long_wish) (none_refuses j (length xs) (length w) (length sc) f asked unrefused).0
