-- When a state is at rest.
use mathlib.Core.Path.{◌≡◌, refl, sym, subst, ◌∙◌}
use mathlib.Core.Bool.{false, ◌||◌}
use Prim.Native.Nat.{ℕ}
use lib.Dec.{eqb}
use borrow.Author.Tests.{eqb-true, not-false}
use Rattle.common.proofs.Choice.{or_left, or_right, unlike}
use Rattle.device.specs.declared.Device.{Device}
use Rattle.model_types.specs.declared.Phase.{Phase}
use Rattle.model_types.specs.declared.Phase.TheVariants.{Free, EraseAwaited, DataAwaited, Programming, Erasing, Suspending, Suspended}
use Rattle.model_types.specs.declared.State.{State}
use Rattle.model_types.specs.Phases.{under_way}
use Rattle.model_states.specs.States.{improper, is_at_rest}
use Rattle.model_states.specs.Inner.{bad_mode, bad_status, bad_left, bad_address}
use Rattle.model_states.proofs.Proper.{improper_parts}

-- what is not under way is free
pub free_phase : (ph : Phase) → under_way ph ≡ false → ph ≡ Free
free_phase Free e = refl
free_phase EraseAwaited e = absurd (unlike e)
free_phase DataAwaited e = absurd (unlike e)
free_phase (Programming b) e = absurd (unlike e)
free_phase Erasing e = absurd (unlike e)
free_phase (Suspending n) e = absurd (unlike e)
free_phase Suspended e = absurd (unlike e)

none_left : (d : Device) (n : ℕ) → bad_left d Free n ≡ false → n ≡ 0
unfolding bad_left
none_left d n h = eqb-true n 0 (not-false (eqb n 0) h)

none_at : (d : Device) (n : ℕ) → bad_address d Free n ≡ false → n ≡ 0
unfolding bad_address
none_at d n h = eqb-true n 0 (not-false (eqb n 0) h)

-- a state that is not under way, with cycles to go and address as a proper one has them, is at rest
pub resting : (d : Device) (s : State) → under_way s.phase ≡ false → bad_left d s.phase s.left ≡ false → bad_address d s.phase s.address ≡ false
    → s ≡ is_at_rest s s.mode s.status
resting d s u bl ba =
    let e : s.phase ≡ Free = free_phase s.phase u in
    let l : s.left ≡ 0 = none_left d s.left (subst (λ (x : Phase). bad_left d x s.left ≡ false) e bl) in
    let r : s.address ≡ 0 = none_at d s.address (subst (λ (x : Phase). bad_address d x s.address ≡ false) e ba) in
    λ i. record { mode = s.mode; status = s.status; phase = e i; left = l i; address = r i; wear = s.wear }

-- so a proper state that is not under way is at rest
pub proper_rests : (d : Device) (s : State) → improper d s ≡ false → under_way s.phase ≡ false → s ≡ is_at_rest s s.mode s.status
proper_rests d s h u =
    let a = bad_mode s.phase s.mode || bad_status s.phase s.status in
    let l = bad_left d s.phase s.left in
    let m = bad_address d s.phase s.address in
    let e : ((a || l) || m) ≡ false = sym (improper_parts d s) ∙ h in
    resting d s u (or_right a l (or_left (a || l) m e)) (or_right (a || l) m e)
