-- What is claimed of a run whose erase is interrupted, in one place: with the verify after the load or without.
use mathlib.Core.Path.{◌≡◌}
use mathlib.Core.Bool.{true, false}
use mathlib.Core.List.{List}
use mathlib.Core.Logic.{◌↔◌}
use Prim.Native.Nat.{ℕ, ◌-◌, ◌<◌}
use lib.ListN.{length}
use Rattle.common.specs.Numbers.{Foremost, NoRow}
use Rattle.device.specs.declared.Device.{Device}
use Rattle.units.specs.Units.{units}
use Rattle.model_judge.specs.Judging.{judge_of}
use Rattle.loader.specs.Stages.{is_ended}
use Rattle.loader_run.specs.declared.Ran.{Ran}
use Rattle.loader_held_run.specs.HeldTurns.{HeldConfig, out_of, held_after}
use Rattle.loader_held_run.specs.HeldRuns.{held_run_rows, held_driven, held_refused, lent_held}
use Rattle.loader_held_run.specs.HeldPromises.{HeldFirstEnd, held_at, HeldPromise}
use Rattle.loader_run.specs.declared.Job.{Job}
use Rattle.loader_held_run.proofs.HeldEnding as ending
use Rattle.loader_held_run.proofs.HeldBorders as borders

-- The numbers: a run makes no cycle and ends with m exactly where m's own condition holds and that of no number before it does: those of a
-- run, then 5, 45, 46 and 37. The polls are not looked at: they are judged even where no interruption will come.
pub refused_exactly : (j : Job) (array wanted scratch ps bs room : List ℕ) (m : ℕ) → (m ≡ 0 → ⊥)
    → (((lent_held j array wanted scratch ps bs room).ran.count ≡ 0) × ((lent_held j array wanted scratch ps bs room).ran.end ≡ m))
    ↔ Foremost (held_run_rows j (length array) (length wanted) (length scratch) bs (length room)) m
refused_exactly = borders.held_numbers

-- It makes cycles exactly where none of these conditions holds.
pub accepted_exactly : (j : Job) (array wanted scratch ps bs room : List ℕ)
    → (0 < (lent_held j array wanted scratch ps bs room).ran.count) ↔ NoRow (held_run_rows j (length array) (length wanted) (length scratch) bs (length room))
accepted_exactly = borders.held_accepted

-- A refused run has count 0 and the number, and leaves state, array, scratch and room as they were.
pub refused_leaves : (j : Job) (array wanted scratch ps bs room : List ℕ) (m : ℕ) → (m ≡ 0 → ⊥)
    → Foremost (held_run_rows j (length array) (length wanted) (length scratch) bs (length room)) m
    → lent_held j array wanted scratch ps bs room ≡ held_refused m j.state array scratch room
refused_leaves = borders.held_leaves

-- What any number of turns leaves is what as many cycles leave as were counted; and no list of polls makes a load that does not end:
-- from any input whatever, any records, lists and state.
pub counted : (d : Device) (w bs ps : List ℕ) (j : ℕ) (c : HeldConfig) → held_after j d w bs ps c ≡ held_after ((held_after j d w bs ps c).count - c.count) d w bs ps c
counted = ending.counted

pub always_ends : (d : Device) (w bs ps : List ℕ) (c : HeldConfig) → is_ended (held_driven d w bs ps c).loader.stage ≡ true
always_ends = ending.always_ends

-- An end that any number of turns reaches is the end that the definition of the run speaks of: its bound is only large enough.
pub end_only : (d : Device) (w bs ps : List ℕ) (j : ℕ) (c : HeldConfig) → is_ended (held_after j d w bs ps c).loader.stage ≡ true → held_driven d w bs ps c ≡ held_after j d w bs ps c
end_only = ending.end_only

-- The promise of a run that nothing refuses: the count is the first number of cycles after which the load has ended, and the end, the
-- address, the state, the array, scratch and the room are what those cycles leave; in word mode an odd byte of the room stays.
pub first_end : (j : Job) (array wanted scratch ps bs room : List ℕ)
    → NoRow (held_run_rows j (length array) (length wanted) (length scratch) bs (length room))
    → HeldPromise j array wanted scratch ps bs room (lent_held j array wanted scratch ps bs room).ran (lent_held j array wanted scratch ps bs room).bytes
    (lent_held j array wanted scratch ps bs room).scratch (lent_held j array wanted scratch ps bs room).room
first_end = borders.held_first

-- There is one such number: an early stop or an invented count does not meet it.
pub first_only : (d : Device) (w bs ps : List ℕ) (c e : HeldConfig) → HeldFirstEnd d w bs ps c e → (j : ℕ) → is_ended (held_after j d w bs ps c).loader.stage ≡ true
    → ((i : ℕ) → i < j → is_ended (held_after i d w bs ps c).loader.stage ≡ false) → j ≡ e.count
first_only = ending.first_only

pub promise_once : (j : Job) (array wanted scratch ps bs room : List ℕ) (r t : Ran) (x y u v a b : List ℕ)
    → HeldPromise j array wanted scratch ps bs room r x u a → HeldPromise j array wanted scratch ps bs room t y v b → (r ≡ t) × (x ≡ y) × (u ≡ v) × (a ≡ b)
promise_once = borders.promise_once

-- None of refusals 1 to 6 ever applies to the cycle that is out, its own or one of an interruption: the loop need not test them again.
pub passes_ever : (j : Job) (array wanted scratch ps bs room : List ℕ)
    → NoRow (held_run_rows j (length array) (length wanted) (length scratch) bs (length room)) → (i : ℕ)
    → is_ended (held_at j array wanted scratch ps bs room i).loader.stage ≡ false
    → judge_of j.device (held_at j array wanted scratch ps bs room i).state (out_of (units j.device.part.word wanted) bs (held_at j array wanted scratch ps bs room i))
    (length (held_at j array wanted scratch ps bs room i).bytes) 0
    ≡ 0
passes_ever = borders.passes_ever
