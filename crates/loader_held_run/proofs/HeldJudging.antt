-- The tests of an interrupted run: a run's first, then those of the addresses and the room, and what is known where none refuses.
use mathlib.Core.Path.{◌≡◌, refl, sym, ap, ◌∙◌}
use mathlib.Core.Bool.{Bool, true, false}
use mathlib.Core.List.{List, [], ◌∷◌}
use Prim.Native.Nat.{ℕ, zero, suc, ◌≤◌, ◌<◌}
use lib.ListN.{length, get_or}
use lib.Dec.{eqb}
use borrow.Author.Tests.{eqb-true, leb-false, ltb-false}
use Rattle.std.specs.Prelude.{if◌then◌else◌}
use Rattle.common.proofs.Choice.{if_true, if_false, or_left, or_right, unlike}
use Rattle.common.proofs.Numbers.{given_append, given_no_row, no_head, no_tail}
use Rattle.device.specs.declared.Device.{Device}
use Rattle.device.specs.Parts.{size_of}
use Rattle.device.proofs.Claims.{sizes_some}
use Rattle.loader_run.specs.Runs.{lent_rows, lent_number, run_first}
use Rattle.loader_held_lists.specs.Listings.{some_of, past_array, held_rows, held_number}
use Rattle.loader_held_run.specs.HeldRuns.{held_run_number}
use Rattle.loader_held_run.specs.Inner.{ReadsInside}
use Rattle.loader_run.specs.declared.Job.{Job}

-- the lists are asked where the run's tests give nothing
pub lists_after : (j : Job) (array w sc : ℕ) (bs : List ℕ) (room : ℕ)
    → held_run_number j array w sc bs room ≡ (if eqb (lent_number j array w sc) 0 then held_number j.device.part j.block bs room else lent_number j array w sc)
unfolding run_first held_number
lists_after j array w sc bs room = given_append (lent_rows j array w sc) (held_rows j.device.part j.block bs room) refl

-- a run that nothing refuses: neither its own tests nor those of the lists
pub none_refuses : (j : Job) (array w sc : ℕ) (bs : List ℕ) (room : ℕ) → held_run_number j array w sc bs room ≡ 0
    → (lent_number j array w sc ≡ 0) × (held_number j.device.part j.block bs room ≡ 0)
none_refuses j array w sc bs room e = go (lent_number j array w sc) (held_number j.device.part j.block bs room) (sym (lists_after j array w sc bs room) ∙ e) (eqb (lent_number j array w sc) 0) refl
  where
    go : (a b : ℕ) → (if eqb a 0 then b else a) ≡ 0 → (t : Bool) → eqb a 0 ≡ t → (a ≡ 0) × (b ≡ 0)
    go a b z true q = (eqb-true a 0 q, sym (if_true (eqb a 0) b a q) ∙ z)
    go a b z false q =
        let y : a ≡ 0 = sym (if_false (eqb a 0) b a q) ∙ z in
        absurd (unlike (sym (ap (λ (m : ℕ). eqb m 0) y) ∙ q))

-- where no address meets the test, none at any place does
none_at : (test : ℕ → Bool) (bs : List ℕ) → some_of test bs ≡ false → (P : ℕ → Type 0) → P 0 → ((a : ℕ) → test a ≡ false → P a) → (i : ℕ) → P (get_or bs i 0)
none_at test [] e P z f i = z
none_at test (b ∷ bs) e P z f zero = f b (or_left (test b) (some_of test bs) e)
none_at test (b ∷ bs) e P z f (suc i) = none_at test bs (or_right (test b) (some_of test bs) e) P z f i

pub lists_inside : (d : Device) (k : ℕ) (bs : List ℕ) (room : ℕ) → held_number d.part k bs room ≡ 0 → ReadsInside d bs
unfolding held_number past_array
lists_inside d k bs room e =
    let r = given_no_row (held_rows d.part k bs room) refl e in
    none_at (past_array d.part) bs (no_head r) (λ (a : ℕ). a < size_of d.part) (sizes_some d.part) (λ a q. leb-false (size_of d.part) a q)

pub lists_few : (d : Device) (k : ℕ) (bs : List ℕ) (room : ℕ) → held_number d.part k bs room ≡ 0 → length bs ≤ 4096
unfolding held_number
lists_few d k bs room e =
    let r = given_no_row (held_rows d.part k bs room) refl e in
    ltb-false 4096 (length bs) (no_head (no_tail (no_tail r)))
