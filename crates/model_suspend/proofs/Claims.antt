-- What is claimed of a suspend.
use mathlib.Core.Path.{◌≡◌, refl}
use mathlib.Core.Bool.{true, false}
use mathlib.Core.List.{List, [], ◌∷◌, ◌++◌}
use Prim.Native.Nat.{ℕ, suc}
use lib.ListN.{length}
use Rattle.device.specs.declared.Device.{Device}
use Rattle.model_types.specs.declared.Phase.TheVariants.{Erasing}
use Rattle.model_types.specs.Status.{SR7, SR6, is_set}
use Rattle.model.specs.declared.Seen.TheVariants.{NoData}
use Rattle.model_history.specs.History.{Bus, World, world_after, seen_in}
use Rattle.model_suspend.specs.Suspends.{is_suspend, is_resume, is_opening, Unfinished, Smooth, held_status, shown_as, shown_all, Suspends}
use Rattle.model_suspend.proofs.SuspendedCycles as held

-- B0H in a running erase that it does not end, and S cycles after it, whatever they are, all accepted and none cutting or resetting:
-- the erase is suspended, at its address, with one cycle less to go, in mode read status, and the array is as before. Where the last
-- of them is D0H it is heard already, and the same erase runs again; FFH is heard too, and the mode is read array.
pub leads_to_suspended : (d : Device) (v : World) (b : Bus) (bs : List Bus) (last : Bus) → Unfinished v.state → is_suspend b.cycle ≡ true
    → suc (length bs) ≡ d.suspend → Smooth d v (b ∷ (bs ++ (last ∷ [])))
    → Suspends v (world_after d v (b ∷ (bs ++ (last ∷ [])))) (is_resume last.cycle) (is_opening last.cycle)
leads_to_suspended d v b bs last erase asks long smooth = (held.suspends d v b bs last erase asks long smooth).0

-- Meanwhile every read shows the status as it was, S - 1 times at most, and on the last cycle with SR.7 and SR.6 set.
pub shows_meanwhile : (d : Device) (v : World) (b : Bus) (bs : List Bus) (last : Bus) → Unfinished v.state → is_suspend b.cycle ≡ true
    → suc (length bs) ≡ d.suspend → Smooth d v (b ∷ (bs ++ (last ∷ [])))
    → seen_in d v (b ∷ (bs ++ (last ∷ []))) ≡ NoData ∷ (shown_all v.state.status bs ++ (shown_as (held_status v.state.status) last ∷ []))
shows_meanwhile d v b bs last erase asks long smooth = (held.suspends d v b bs last erase asks long smooth).1

-- In that status both bits are clear, and then both are set ..
pub clear_then_set : (d : Device) (v : World) (b : Bus) (bs : List Bus) → v.state.phase ≡ Erasing → Smooth d v (b ∷ bs)
    → let sr = v.state.status in (is_set sr SR7 ≡ false) × (is_set sr SR6 ≡ false) × (is_set (held_status sr) SR7 ≡ true) × (is_set (held_status sr) SR6 ≡ true)
clear_then_set = held.shows

-- .. so where no error bit stands 00H is shown, and then C0H.
pub no_error_bit : ◌≡◌ {A = ℕ} (held_status 0) 0xC0
no_error_bit = refl
