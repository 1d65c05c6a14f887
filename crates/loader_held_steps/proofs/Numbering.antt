-- The numbers as the code finds them: levels, block and lengths first, then the lists.
use mathlib.Core.Path.{◌≡◌, refl, sym, ap, ◌∙◌}
use mathlib.Core.Bool.{false}
use mathlib.Core.List.{List, ◌++◌}
use Prim.Native.Nat.{ℕ}
use lib.ListN.{length}
use lib.Dec.{eqb}
use Rattle.std.specs.Prelude.{if◌then◌else◌}
use Rattle.common.specs.Numbers.{Row, given}
use Rattle.common.proofs.Choice.{if_false}
use Rattle.common.proofs.Numbers.{given_append}
use Rattle.device.specs.declared.Part.{Part}
use Rattle.device.specs.Parts.{unknown_part}
use Rattle.model_types.specs.declared.Pins.{Pins}
use Rattle.loader.specs.declared.Loader.{Loader}
use Rattle.loader_steps.specs.Front.{setup_rows, setup_number}
use Rattle.loader_held_lists.specs.Listings.{held_rows, held_number}
use Rattle.loader_held.specs.declared.Hold.{Hold}
use Rattle.loader_held_steps.specs.HeldFront.{bad_pair, place_next, used_rows, used_number, start_held_number, step_held_number}

-- the rows below levels, block and lengths
below_setup : (part : Part) (p : Pins) (k w sc n : ℕ) (rest : List Row) → n ≡ setup_number part p k w sc
    → given (setup_rows part p k w sc ++ rest) ≡ (if eqb n 0 then given rest else n)
unfolding setup_number
below_setup part p k w sc n rest q = given_append (setup_rows part p k w sc) rest refl ∙ ap (λ (m : ℕ). if eqb m 0 then given rest else m) (sym q)

pub start_below : (part : Part) (p : Pins) (k w sc : ℕ) (bs : List ℕ) (room n : ℕ) → unknown_part part ≡ false → n ≡ setup_number part p k w sc
    → start_held_number part p k w sc bs room ≡ (if eqb n 0 then held_number part k bs room else n)
unfolding start_held_number held_number
start_below part p k w sc bs room n u q = if_false (unknown_part part) _ _ u ∙ below_setup part p k w sc n (held_rows part k bs room) q

pub step_below : (l : Loader) (h : Hold) (w sc : ℕ) (bs : List ℕ) (room n : ℕ) → unknown_part l.part ≡ false → bad_pair (length bs) l h ≡ false → n ≡ setup_number l.part l.pins l.block w sc
    → step_held_number l h w sc bs room ≡ (if eqb n 0 then used_number l.part l.block (place_next h.step h.place (length bs)) bs room else n)
unfolding step_held_number used_number
step_below l h w sc bs room n u b q =
    if_false (unknown_part l.part) _ _ u ∙ if_false (bad_pair (length bs) l h) _ _ b
    ∙ below_setup l.part l.pins l.block w sc n (used_rows l.part l.block (place_next h.step h.place (length bs)) bs room) q
