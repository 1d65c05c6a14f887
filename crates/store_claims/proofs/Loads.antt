-- A load of one file into the main block leaves a proper store that holds it.
use mathlib.Core.Path.{◌≡◌, refl, sym, ◌∙◌, ap, subst}
use mathlib.Core.List.{List, [], ◌∷◌}
use mathlib.Core.Bool.{Bool, true, false, not, ◌||◌}
use Prim.Native.Nat.{ℕ, ◌*◌, ◌≤◌}
use native.Mathlib.Omega.{arith}
use lib.ListN.{length, get_or}
use lib.Dec.{eqb, ltb}
use borrow.Author.Tests.{eqb-true, eqb-false, ltb-false}
use Rattle.std.specs.Prelude.{if◌then◌else◌}
use Rattle.common.specs.Numbers.{row, given}
use Rattle.common.proofs.Numbers.{no_row_given, given_append}
use Rattle.device.specs.declared.Device.{Device}
use Rattle.device.specs.Parts.{is_large, start_of}
use Rattle.units.specs.Address.{byte_of}
use Rattle.model_types.specs.declared.Pins.{Pins}
use Rattle.model_types.specs.declared.State.{State}
use Rattle.file_codec.specs.File.{limit, length_wrong, blocks_in, blocks_rows}
use Rattle.loader_run.specs.Runs.{lent_rows, run_first}
use Rattle.loader_run_claims.specs.Wear.{held_in}
use Rattle.loader_from_file.specs.Loads.{file_rows, wanted_of, load_left}
use Rattle.loader_from_file_claims.specs.Through.{FileStart}
use Rattle.loader_from_file_claims.proofs.Claims.{file_loaded}
use Rattle.store_places.specs.Store.{find_of, Proper}
use Rattle.store_survey.specs.Survey.{reader_number}
use Rattle.store.specs.Stores.{main_of, change_job}
use Rattle.store_claims.specs.Calls.{places_for}
use Rattle.store_claims.proofs.MainBlock.{there}
use Rattle.store_claims.proofs.FullAndFound.{load_leaves}

-- two tables of which nothing is given, one below the other
both_none : (r s : ℕ) → (if eqb r 0 then s else r) ≡ 0 → (r ≡ 0) × (s ≡ 0)
both_none r s = go (eqb r 0) refl
  where
    go : (t : Bool) → eqb r 0 ≡ t → (if t then s else r) ≡ 0 → (r ≡ 0) × (s ≡ 0)
    go true q e = (eqb-true r 0 q, e)
    go false q e = absurd (eqb-false r 0 q e)

-- a file that a load takes is read, and fits
taken_file : (f : List ℕ) (asked n : ℕ) → given (file_rows f asked n) ≡ 0 → (reader_number limit asked f ≡ 0) × (length f ≤ n)
taken_file f asked n e = go (length_wrong limit (length f)) refl (ltb n (length f)) refl e
  where
    go : (a : Bool) → length_wrong limit (length f) ≡ a → (b : Bool) → ltb n (length f) ≡ b
        → (if a || b then 30 else given (blocks_rows (blocks_in f) (get_or f 0 0) 0 (blocks_in f) f (row 35 (not (eqb (get_or f 0 0) asked)) ∷ []))) ≡ 0
        → ((if length_wrong limit (length f) then 30 else given (blocks_rows (blocks_in f) (get_or f 0 0) 0 (blocks_in f) f (row 35 (not (eqb (get_or f 0 0) asked)) ∷ []))) ≡ 0) × (length f ≤ n)
    go true x b y e = absurd (omega arith)
    go false x true y e = absurd (omega arith)
    go false x false y e = (ap (λ (t : Bool). if t then 30 else given (blocks_rows (blocks_in f) (get_or f 0 0) 0 (blocks_in f) f (row 35 (not (eqb (get_or f 0 0) asked)) ∷ []))) x ∙ e, ltb-false n (length f) y)

pub load_makes_store : (d : Device) (s : State) (p : Pins) (xs w sc f : List ℕ) (asked : ℕ) → is_large d.part ≡ false → FileStart (change_job d s p) xs w sc f asked
    → Proper (reader_number limit) (places_for d.part) (main_of d.part (load_left (change_job d s p) xs w sc f asked).bytes)
    × (find_of (reader_number limit) asked (main_of d.part (load_left (change_job d s p) xs w sc f asked).bytes) ≡ f)
unfolding run_first
load_makes_store d s p xs w sc f asked g S =
    let rows = lent_rows (change_job d s p) (length xs) (length w) (length sc) in
    let n = both_none (given rows) (given (file_rows f asked (length w))) (sym (given_append rows (file_rows f asked (length w)) refl) ∙ no_row_given S.accepted) in
    let t = there d s p xs (length w) (length sc) g n.0 in
    let r = taken_file f asked (length w) n.1 in
    let l : length w ≡ 512 * places_for d.part = t.memory_long ∙ t.whole in
    let X = (load_left (change_job d s p) xs w sc f asked).bytes in
    let h : main_of d.part X ≡ wanted_of f (512 * places_for d.part) =
    ap (λ (k : ℕ). held_in (start_of d.part 3) k X) (sym t.memory_long)
    ∙ ap (λ (v : Bool). held_in (byte_of v (start_of d.part 3)) (length w) X) (sym t.small.bytes)
    ∙ (file_loaded (change_job d s p) xs w sc f asked S).holds ∙ ap (wanted_of f) l in
    subst (λ (m : List ℕ). Proper (reader_number limit) (places_for d.part) m × (find_of (reader_number limit) asked m ≡ f)) (sym h)
    (load_leaves (places_for d.part) asked f r.0 (subst (λ (k : ℕ). length f ≤ k) l r.1))
