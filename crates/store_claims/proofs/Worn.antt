-- What a call wears: an erase exactly where some bit must rise; none by a drop, and none by an add that finds a run.
use mathlib.Core.Path.{◌≡◌, refl, sym, ◌∙◌, ap, subst}
use mathlib.Core.List.{List, ◌∷◌}
use mathlib.Core.Bool.{Bool, true, false}
use Prim.Native.Nat.{ℕ, zero, suc, ◌+◌}
use native.Mathlib.Omega.{arith}
use lib.ListN.{length, get_or}
use lib.Dec.{eqb}
use Rattle.std.specs.Prelude.{if◌then◌else◌}
use Rattle.common.specs.Lists.{Bytes}
use Rattle.common.proofs.Choice.{if_false}
use Rattle.device.specs.declared.Device.{Device}
use Rattle.device.specs.Parts.{start_of}
use Rattle.model_types.specs.declared.Effect.{Effect}
use Rattle.model_types.specs.declared.Effect.TheVariants.{Program}
use Rattle.model_types.specs.Counts.{worn}
use Rattle.model_levels.specs.Levels.{vpp_high}
use Rattle.model_history.specs.History.{total_of, erase_of}
use Rattle.file_codec.specs.File.{limit}
use Rattle.loader_walk.specs.Walks.{rises_in}
use Rattle.loader_run.specs.declared.Ran.{Ran}
use Rattle.loader_run.specs.Runs.{RunLeft}
use Rattle.loader_run_claims.specs.Wear.{held_in, programs_of, base_of}
use Rattle.loader_run_claims.specs.Mission.{Start, Demand3}
use Rattle.loader_run_claims.proofs.Mission.{demand_3, ends_well_lem}
use Rattle.store_places.specs.Store.{Change, adds, drops, items_in, places_in, run_for, change_place_number, done_by}
use Rattle.store_places.proofs.Claims.{drop_falls, add_falls, add_let}
use Rattle.store_survey.specs.Survey.{reader_number}
use Rattle.store_survey.proofs.Reader.{file_reader}
use Rattle.store.specs.Stores.{main_of, ChangeLeft, change_job}
use Rattle.store_claims.specs.Calls.{places_for, Call, call_number, call_left, contents_by, FileBytes, Timed, Spared}
use Rattle.store_claims.proofs.Contents.{falls_rises}
use Rattle.store_claims.proofs.Calls.{found_proper, own_none, made_by_run, of_bytes, taken, new_long}

-- programs are no erases
no_erases : (k j a i : ℕ) (w s : List ℕ) → total_of (erase_of k) (programs_of j a i w s) ≡ 0
no_erases k zero a i w s = refl
no_erases k (suc j) a i w s = go (eqb (get_or s i 0) (get_or w i 0)) (no_erases k j a (i + 1) w s)
  where
    go : (t : Bool) → total_of (erase_of k) (programs_of j a (i + 1) w s) ≡ 0 → total_of (erase_of k) (if t then programs_of j a (i + 1) w s else Program (a + i) (get_or w i 0) ∷ programs_of j a (i + 1) w s) ≡ 0
    go true e = e
    go false e = omega arith

module _ (d : Device) (xs : List ℕ) (c : Call) (T : Timed d) (B : Bytes xs) (F : FileBytes c.change) (z : call_number d xs c ≡ 0) (v : vpp_high d.part c.pins ≡ true) where
  abbrev main : List ℕ
  main = main_of d.part xs

  abbrev new : List ℕ
  new = contents_by d xs c

  start : Start (change_job d c.state c.pins) xs (contents_by d xs c) c.scratch
  start = record { base = taken d xs c T B F z; high = v; unlock = λ (e : ◌≡◌ {A = ℕ} 3 0). absurd (omega arith) }

  demand : Demand3 true (change_job d c.state c.pins) xs (contents_by d xs c) c.scratch
  demand = demand_3 true (change_job d c.state c.pins) xs (contents_by d xs c) c.scratch start

  -- the counts of erases: one more of the main block where some bit must rise, else as they were
  pub wear_is : (call_left d xs c).ran.state.wear ≡ (if rises_in new main then worn c.state.wear 3 else c.state.wear)
  wear_is =
      ap (λ (x : ChangeLeft). x.ran.state.wear) (made_by_run d xs c T B F z)
      ∙ ap (λ (x : RunLeft). x.ran.state.wear) (of_bytes d xs c T B F z)
      ∙ ap (λ (r : Ran). r.state.wear) (ends_well_lem true (change_job d c.state c.pins) xs (contents_by d xs c) c.scratch start)
      ∙ ap (λ (n : ℕ). if rises_in (contents_by d xs c) (held_in (start_of d.part 3) n xs) then worn c.state.wear 3 else c.state.wear) (new_long d xs c T B F z)

  -- where no bit must rise, nothing is erased
  pub spared : rises_in new main ≡ false → Spared d xs c
  spared h =
      record {
        falls = h;
        begun = λ (k : ℕ). ap (λ (es : List Effect). total_of (erase_of k) es) (demand.begins ∙ if_false (rises_in (contents_by d xs c) (main_of d.part xs)) _ (programs) h) ∙ no_erases k (length (contents_by d xs c)) (start_of d.part 3) 0 (contents_by d xs c) (base_of d.part (contents_by d xs c) (main_of d.part xs));
        wear = wear_is ∙ if_false (rises_in (contents_by d xs c) (main_of d.part xs)) (worn c.state.wear 3) c.state.wear h;
      }
    where
      programs : List Effect
      programs = programs_of (length (contents_by d xs c)) (start_of d.part 3) 0 (contents_by d xs c) (base_of d.part (contents_by d xs c) (main_of d.part xs))

  pub drop_spares : (ℓ : ℕ) → c.change ≡ drops ℓ → Spared d xs c
  drop_spares ℓ e =
      spared
      (ap (λ (x : Change). rises_in (done_by (reader_number limit) x (main_of d.part xs)) (main_of d.part xs)) e
      ∙ falls_rises _ (main_of d.part xs) (drop_falls (reader_number limit) (file_reader limit) (places_for d.part) ℓ (main_of d.part xs) (found_proper d xs c T B F z)))

  pub add_spares : (ℓ : ℕ) (b : List ℕ) → c.change ≡ adds ℓ b → run_for ℓ (places_in b) (items_in (reader_number limit) main) ≡ true → Spared d xs c
  add_spares ℓ b e h =
      let P = found_proper d xs c T B F z in
      let o = ap (λ (x : Change). no_of_of x) e in
      spared
      (ap (λ (x : Change). rises_in (done_by (reader_number limit) x (main_of d.part xs)) (main_of d.part xs)) e
      ∙ falls_rises _ (main_of d.part xs)
      (add_falls (reader_number limit) (file_reader limit) (places_for d.part) ℓ b (main_of d.part xs) P
      (add_let (reader_number limit) (file_reader limit) (places_for d.part) ℓ b (main_of d.part xs) P (sym o ∙ own_none d xs c T B F z)).0 (subst FileBytes e F) h))
    where
      no_of_of : Change → ℕ
      no_of_of x = change_place_number (reader_number limit) x (main_of d.part xs)
