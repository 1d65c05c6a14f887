-- `c_recording::gone_on` meets its contract.
use mathlib.Core.Path.{sym, ap, subst, ◌∙◌}
use Prim.Native.Nat.{ℕ}
use lib.ListN.{length}
use Rattle.common.proofs.Choice.{if_true, if_false}
use Rattle.recording.specs.declared.Recorded.{Recorded}
use Rattle.recording.specs.Recordings.{recorded_of, bytes_recorded}
use Rattle.recording_walk.specs.Inner.{went_by, went_on, bytes_on}
use Rattle.c_cycle.specs.declared.DeviceNumbers.{DeviceNumbers}
use Rattle.c_cycle.specs.Values.{device_in, state_in}
use Rattle.c_recording.specs.Records.{record_in}
use Rattle.c_recording.specs.Known.{walk_in, Sized}
use borrow.Author.Rules.{rules}
use Rattle.c_recording.proofs.gone_on.Goals as goal

pub returns-then-stopped : goal.returns-then-stopped
unfolding went_on bytes_on
returns-then-stopped c = let a = c.args in λ s. (sym (if_true a.w.stopped _ _ c.if-stopped.true), sym (if_true a.w.stopped _ _ c.if-stopped.true), s)

pub returns-then-x : goal.returns-then-x
unfolding went_on bytes_on
returns-then-x c = let a = c.args in let p = c.passed in λ s. let t = c.quick-x.ensures.told c.if-x.true s a.w.wear in (p.ensures.0 ∙ ap (λ (x : Recorded). went_by (walk_in a.w) x) t.0 ∙ sym (if_false a.w.stopped _ _ c.if-stopped.false), t.1 ∙ sym (if_false a.w.stopped _ _ c.if-stopped.false), subst (λ (d : DeviceNumbers). Sized d p.result.units (length a.array.now)) (sym p.ensures.1) (subst (λ (u : ℕ). Sized a.w.device u (length a.array.now)) (sym p.ensures.2) s))

pub shape_of-array-then-n-eq0 : goal.shape_of-array-then-n-eq0
shape_of-array-then-n-eq0 c = let k = c.quick-x.auto.array in let l = c.judged-y.auto.array in search rules

pub returns-then-n-eq0 : goal.returns-then-n-eq0
unfolding went_on bytes_on
returns-then-n-eq0 c = let a = c.args in let p = c.went_by in let j = c.judged-y.ensures in let n = c.state_of.ensures in let kept = c.quick-x.ensures.array_left c.if-x.false in λ s. (p.ensures.0 ∙ ap (λ (x : Recorded). went_by (walk_in a.w) x) (j.result ∙ (λ i. recorded_of (device_in a.w.device) (state_in (n i)) (record_in a.n) (kept i))) ∙ sym (if_false a.w.stopped _ _ c.if-stopped.false), j.array_left ∙ (λ i. bytes_recorded (device_in a.w.device) (state_in (n i)) (record_in a.n) (kept i)) ∙ sym (if_false a.w.stopped _ _ c.if-stopped.false), subst (λ (d : DeviceNumbers). Sized d p.result.units (length a.array.now)) (sym p.ensures.1) (subst (λ (u : ℕ). Sized a.w.device u (length a.array.now)) (sym p.ensures.2) s))

pub shape_of-array : goal.shape_of-array
shape_of-array c = let k = c.quick-x.auto.array in let l = c.judged-y-2.auto.array in search rules

pub returns : goal.returns
unfolding went_on bytes_on
returns c = let a = c.args in let p = c.went_by-2 in let j = c.judged-y-2.ensures in let n = c.state_of-2.ensures in let kept = c.quick-x.ensures.array_left c.if-x.false in λ s. (p.ensures.0 ∙ ap (λ (x : Recorded). went_by (walk_in a.w) x) (j.result ∙ (λ i. recorded_of (device_in a.w.device) (state_in (n i)) (record_in a.n) (kept i))) ∙ sym (if_false a.w.stopped _ _ c.if-stopped.false), j.array_left ∙ (λ i. bytes_recorded (device_in a.w.device) (state_in (n i)) (record_in a.n) (kept i)) ∙ sym (if_false a.w.stopped _ _ c.if-stopped.false), subst (λ (d : DeviceNumbers). Sized d p.result.units (length a.array.now)) (sym p.ensures.1) (subst (λ (u : ℕ). Sized a.w.device u (length a.array.now)) (sym p.ensures.2) s))
