-- What a read's data do to scratch, through its units.
use mathlib.Core.Path.{◌≡◌, sym, ap, ◌∙◌}
use mathlib.Core.Bool.{Bool, true, false}
use mathlib.Core.List.{List, ◌++◌, append-nil}
use Prim.Native.Nat.{ℕ, ◌≤◌}
use native.Mathlib.Omega.{arith}
use lib.ListN.{length, get_or, set, replicate, length-replicate, drop_of_length-le}
use Rattle.common.specs.Lists.{overlaid}
use Rattle.common.proofs.Choice.{if_true, if_false}
use Rattle.device.specs.declared.Part.{Part}
use Rattle.model_types.specs.Cells.{ones}
use Rattle.units.specs.Units.{units, units_in, carried, top}
use Rattle.units.proofs.Widths.{units_length, carried_cell}
use Rattle.loader_stores.specs.Stores.{erased_well, erase_stored, programmed_well, program_stored}

over_all : (us : List ℕ) (n v : ℕ) → n ≡ length us → overlaid us 0 (replicate n v) ≡ replicate (length us) v
over_all us n v e =
    ap (λ (z : List ℕ). replicate n v ++ z) (drop_of_length-le us {i = length (replicate n v)} (omega (arith, length-replicate n v))) ∙ append-nil (replicate n v) ∙ ap (λ (k : ℕ). replicate k v) e

pub erased_so : (part : Part) (b n : ℕ) (xs ys : List ℕ) → erased_well b ≡ true → n ≡ units_in part.word (length xs)
    → units part.word ys ≡ overlaid (units part.word xs) 0 (replicate n (top part.word)) → units part.word ys ≡ erase_stored part b (units part.word xs)
unfolding ones
erased_so part b n xs ys t e f =
    f ∙ over_all (units part.word xs) n (top part.word) (e ∙ sym (units_length part.word xs))
    ∙ sym (if_true (erased_well b) (replicate (length (units part.word xs)) (top part.word)) (units part.word xs) t)

pub erased_not : (part : Part) (b : ℕ) (xs : List ℕ) → erased_well b ≡ false → units part.word xs ≡ erase_stored part b (units part.word xs)
erased_not part b xs t = sym (if_false (erased_well b) (replicate (length (units part.word xs)) (ones part)) (units part.word xs) t)

pub programmed_so : (word : Bool) (place b v : ℕ) (ws xs ys : List ℕ) → programmed_well b ≡ true → v ≡ get_or (units word ws) place 0 → v ≤ top word
    → units word ys ≡ set (units word xs) place (carried word v) → units word ys ≡ program_stored place b (units word ws) (units word xs)
programmed_so word place b v ws xs ys t e h f =
    f ∙ ap (λ (x : ℕ). set (units word xs) place x) (carried_cell word v h ∙ e)
    ∙ sym (if_true (programmed_well b) (set (units word xs) place (get_or (units word ws) place 0)) (units word xs) t)

pub programmed_not : (word : Bool) (place b : ℕ) (ws xs : List ℕ) → programmed_well b ≡ false → units word xs ≡ program_stored place b (units word ws) (units word xs)
programmed_not word place b ws xs t = sym (if_false (programmed_well b) (set (units word xs) place (get_or (units word ws) place 0)) (units word xs) t)
