-- What a decided cycle touches lies inside the array and the residue.
use mathlib.Core.Path.{◌≡◌, refl}
use mathlib.Core.Bool.{true, false, not, ◌&&◌, ◌||◌}
use Prim.Native.Nat.{ℕ, ◌-◌, ◌≤◌}
use native.Mathlib.Omega.{arith}
use lib.Dec.{eqb, ltb, leb}
use borrow.Author.Tests.{leb-false, ltb-false}
use Rattle.std.specs.Prelude.{if◌then◌else◌}
use Rattle.common.proofs.Choice.{if_ind, and_rest, and_left}
use Rattle.device.specs.declared.Part.{Part}
use Rattle.device.specs.declared.Device.{Device}
use Rattle.device.specs.Parts.{size_of}
use Rattle.model_types.specs.declared.State.{State}
use Rattle.model_types.specs.declared.Cycle.{Cycle}
use Rattle.model_types.specs.declared.Settled.{Settled}
use Rattle.model_types.specs.declared.Decision.{Decision}
use Rattle.model_types.specs.declared.Phase.{Phase}
use Rattle.model_types.specs.declared.Phase.TheVariants.{Free, EraseAwaited, DataAwaited, Programming, Erasing, Suspending, Suspended}
use Rattle.model_levels.specs.Levels.{rp_low, vpp_low}
use Rattle.model_states.specs.Inner.{bad_address}
use Rattle.model_types.specs.Phases.{is_pending, is_busy, is_suspending, suspend_left}
use Rattle.model_operation.specs.Settling.{cut_of, finish_of, residue_for, cut_by, counted_off, suspend_passed, passed_of, settle_of}
use Rattle.model_judge.specs.Judging.{short_residue}
use Rattle.model_rules.specs.Cycles.{decide_of}
use Rattle.model_rules.proofs.Facts.{Fine}
use Rattle.model.proofs.Outcome.{outcome, accept_effect}
use Rattle.model.specs.Inner.{Within}

-- a cut and an end find their bytes
cut_within : (ph : Phase) (part : Part) (a n r : ℕ) → n ≡ size_of part → (if is_pending ph then leb (size_of part) a else not (eqb a 0)) ≡ false
    → residue_for ph part a ≤ r → Within (cut_of ph part a) part n r
cut_within Free part a n r e b h = refl
cut_within EraseAwaited part a n r e b h = refl
cut_within DataAwaited part a n r e b h = refl
cut_within (Programming x) part a n r e b h = (omega (arith, leb-false (size_of part) a b), h)
cut_within Erasing part a n r e b h = (e, h)
cut_within (Suspending m) part a n r e b h = (e, h)
cut_within Suspended part a n r e b h = (e, h)

end_within : (ph : Phase) (part : Part) (a n r : ℕ) → n ≡ size_of part → (if is_pending ph then leb (size_of part) a else not (eqb a 0)) ≡ false
    → Within (finish_of ph part a) part n r
end_within Free part a n r e b = refl
end_within EraseAwaited part a n r e b = refl
end_within DataAwaited part a n r e b = refl
end_within (Programming x) part a n r e b = omega (arith, leb-false (size_of part) a b)
end_within Erasing part a n r e b = e
end_within (Suspending m) part a n r e b = refl
end_within Suspended part a n r e b = refl

-- steps 1 to 3
settle_within : (d : Device) (s : State) (c : Cycle) (n r : ℕ) → Fine d s c n r → Within (settle_of d.part s c.pins).effect d.part n r
unfolding settle_of cut_by passed_of suspend_passed counted_off bad_address short_residue
settle_within d s c n r f =
    if_ind In (rp_low c.pins) _ _ (λ e. cut_within s.phase d.part s.address n r f.sized f.proper.address (long (simp e)))
    (λ e. if_ind In (vpp_low d.part c.pins && is_pending s.phase) _ _
    (λ v. cut_within s.phase d.part s.address n r f.sized f.proper.address (long (simp (e, and_left (vpp_low d.part c.pins) (is_pending s.phase) v))))
    (λ v. if_ind In (is_busy s.phase) _ _
    (λ b. if_ind In (is_suspending s.phase) _ _ (λ u. if_ind In (eqb (suspend_left s.phase - 1) 0) _ _ (λ l. refl) (λ l. refl))
    (λ u. if_ind In (eqb (s.left - 1) 0) _ _ (λ l. end_within s.phase d.part s.address n r f.sized f.proper.address) (λ l. refl)))
    (λ b. refl)))
  where
    In : Settled → Type 0
    In t = Within t.effect d.part n r

    long : (rp_low c.pins || vpp_low d.part c.pins) ≡ true → residue_for s.phase d.part s.address ≤ r
    long h = ltb-false r _ (and_rest _ (ltb r (residue_for s.phase d.part s.address)) h f.enough)

-- whatever the cycle, its effect finds its bytes
pub within : (d : Device) (s : State) (c : Cycle) (n r : ℕ) → Within (decide_of d s c n r).effect d.part n r
within d s c n r =
    outcome d s c n r (λ (x : Decision). Within x.effect d.part n r) (λ m z e. refl)
    (λ z f. rw (accept_effect d c (settle_of d.part s c.pins)) (settle_within d s c n r f))
