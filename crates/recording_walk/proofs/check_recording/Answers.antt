-- `recording_walk::check_recording` meets its contract: one record more comes at the end of the list, and what the loop leaves is what the
-- check answers.
use Rattle.std.proofs.Common.{◌≡◌, ℕ, ◌+◌, ◌≤◌, ◌<◌, List, [], ◌∷◌, length, take, get_or, ◌++◌, ap, ap₂, sym, ◌∙◌, add-one, arith}
use Rattle.std.proofs.Math.Seq.{take-suc, take_all}
use Rattle.device.specs.declared.Device.{Device}
use Rattle.model_types.specs.declared.State.{State}
use Rattle.recording.specs.declared.Noted.{Noted}
use Rattle.recording_walk.specs.declared.Walk.{Walk}
use Rattle.recording_walk.specs.Lists.{checked_of, bytes_checked}
use Rattle.recording_walk.specs.Inner.{most, walk_from, went_on, bytes_on, went_over, bytes_over, end_of}
use Rattle.recording_walk.proofs.Going.{went_snoc, bytes_snoc, answers}
use Rattle.recording_walk.proofs.check_recording.Goals as goal

-- one record more
module _ (zs : List ℕ) (w₀ : Walk) (ys : List Noted) (i : ℕ) (blank : Noted) (h : i < length ys) (w : Walk) (xs : List ℕ)
    (walk : w ≡ went_over zs w₀ (take i ys)) (bytes : xs ≡ bytes_over zs w₀ (take i ys)) where
  more : take i ys ++ (get_or ys i blank ∷ []) ≡ take (i + 1) ys
  more = sym (ap (λ (k : ℕ). take k ys) (add-one i) ∙ take-suc ys i blank h)

  next_walk : went_on w (get_or ys i blank) xs ≡ went_over zs w₀ (take (i + 1) ys)
  next_walk = ap₂ (λ (v : Walk) (us : List ℕ). went_on v (get_or ys i blank) us) walk bytes ∙ sym (went_snoc zs w₀ (take i ys) (get_or ys i blank)) ∙ ap (went_over zs w₀) more

  next_bytes : bytes_on w (get_or ys i blank) xs ≡ bytes_over zs w₀ (take (i + 1) ys)
  next_bytes = ap₂ (λ (v : Walk) (us : List ℕ). bytes_on v (get_or ys i blank) us) walk bytes ∙ sym (bytes_snoc zs w₀ (take i ys) (get_or ys i blank)) ∙ ap (bytes_over zs w₀) more

-- at the end of the list
closed : (d : Device) (s : State) (ys : List Noted) (promised zs : List ℕ) (i : ℕ) → length ys ≤ i → length ys ≤ most → (w : Walk) (xs : List ℕ)
    → w ≡ went_over zs (walk_from d s (length zs)) (take i ys) → xs ≡ bytes_over zs (walk_from d s (length zs)) (take i ys)
    → (end_of w promised xs ≡ checked_of d s ys promised zs) × (xs ≡ bytes_checked d s ys zs)
closed d s ys promised zs i l m w xs walk bytes =
    let w₀ : Walk = walk_from d s (length zs) in
    let p : w ≡ went_over zs w₀ ys = walk ∙ ap (went_over zs w₀) (take_all i ys l) in
    let q : xs ≡ bytes_over zs w₀ ys = bytes ∙ ap (bytes_over zs w₀) (take_all i ys l) in
    let a = answers d s ys promised zs m in
    (ap₂ (λ (v : Walk) (us : List ℕ). end_of v promised us) p q ∙ a.0, q ∙ a.1)

pub loop-r-preserved : goal.loop-r-preserved
loop-r-preserved c =
    let a = c.args in let l = c.loop-r in let v = l.invariant in let e = c.go_on-w.ensures in
    let w₀ = walk_from a.d a.s (length a.array.now) in
    record {
      walk = e.0 ∙ next_walk a.array.now w₀ a.list.now l.r-index _ c.loop-r-test.true l.w l.array v.walk v.bytes;
      bytes = e.1 ∙ next_bytes a.array.now w₀ a.list.now l.r-index _ c.loop-r-test.true l.w l.array v.walk v.bytes;
    }

pub returns : goal.returns
returns c =
    let a = c.args in let l = c.loop-r in let v = l.invariant in let e = c.end.ensures in
    let r = closed a.d a.s a.list.now a.promised.now a.array.now l.r-index c.loop-r-test.false (omega arith) l.w l.array v.walk v.bytes in
    (e.0 ∙ r.0, e.1 ∙ r.1)
