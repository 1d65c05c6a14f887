-- `tb_recording` meets its promise: one record more comes at the end of the list, and what the loop leaves is what the check answers.
use Rattle.std.proofs.Common.{◌≡◌, ℕ, ◌+◌, ◌≤◌, ◌<◌, List, [], ◌∷◌, length, take, get_or, ◌++◌, ap, ap₂, sym, subst, ◌∙◌, add-one, arith}
use Rattle.std.proofs.Math.Seq.{take-suc, take_all}
use Rattle.recording_walk.specs.declared.Walk.{Walk}
use Rattle.recording_walk.specs.Inner.{most, walk_from, went_on, bytes_on, went_over, bytes_over, end_of}
use Rattle.recording_walk.proofs.Going.{went_snoc, bytes_snoc}
use Rattle.c_cycle.specs.declared.DeviceNumbers.{DeviceNumbers}
use Rattle.c_cycle.specs.declared.StateNumbers.{StateNumbers}
use Rattle.c_cycle.specs.Values.{device_in, state_in}
use Rattle.c_recording.specs.declared.RecordNumbers.{RecordNumbers}
use Rattle.c_recording.specs.Records.{record_in, records_in, checked_out, checked_returned, array_checked}
use Rattle.c_recording.specs.Known.{walk_in, Sized}
use Rattle.c_recording.proofs.Numbers.{records_length, records_snoc, checked_returned_lem, array_returned}
use Rattle.c_recording.proofs.tb_recording.Goals as goal

-- one record more
module _ (zs : List ℕ) (w₀ : Walk) (ys : List RecordNumbers) (i : ℕ) (blank : RecordNumbers) (h : i < length ys) (w : Walk) (xs : List ℕ)
    (walk : w ≡ went_over zs w₀ (records_in (take i ys))) (bytes : xs ≡ bytes_over zs w₀ (records_in (take i ys))) where
  more : records_in (take i ys) ++ (record_in (get_or ys i blank) ∷ []) ≡ records_in (take (i + 1) ys)
  more = sym (
      ap (λ (k : ℕ). records_in (take k ys)) (add-one i) ∙ ap (λ (ns : List RecordNumbers). records_in ns) (take-suc ys i blank h) ∙ records_snoc (take i ys) (get_or ys i blank))

  next_walk : went_on w (record_in (get_or ys i blank)) xs ≡ went_over zs w₀ (records_in (take (i + 1) ys))
  next_walk =
      ap₂ (λ (v : Walk) (us : List ℕ). went_on v (record_in (get_or ys i blank)) us) walk bytes
      ∙ sym (went_snoc zs w₀ (records_in (take i ys)) (record_in (get_or ys i blank)))
      ∙ ap (went_over zs w₀) more

  next_bytes : bytes_on w (record_in (get_or ys i blank)) xs ≡ bytes_over zs w₀ (records_in (take (i + 1) ys))
  next_bytes =
      ap₂ (λ (v : Walk) (us : List ℕ). bytes_on v (record_in (get_or ys i blank)) us) walk bytes
      ∙ sym (bytes_snoc zs w₀ (records_in (take i ys)) (record_in (get_or ys i blank)))
      ∙ ap (bytes_over zs w₀) more

-- at the end of the list
closed : (d : DeviceNumbers) (s : StateNumbers) (ys : List RecordNumbers) (promised zs : List ℕ) (i : ℕ) → length ys ≤ i → length ys ≤ most → (w : Walk) (xs : List ℕ)
    → w ≡ went_over zs (walk_from (device_in d) (state_in s) (length zs)) (records_in (take i ys))
    → xs ≡ bytes_over zs (walk_from (device_in d) (state_in s) (length zs)) (records_in (take i ys))
    → (checked_out s (end_of w promised xs) ≡ checked_returned d s ys promised zs) × (xs ≡ array_checked d s ys zs)
closed d s ys promised zs i l m w xs walk bytes =
    let w₀ : Walk = walk_from (device_in d) (state_in s) (length zs) in
    let full : records_in (take i ys) ≡ records_in ys = ap (λ (ns : List RecordNumbers). records_in ns) (take_all i ys l) in
    let p : w ≡ went_over zs w₀ (records_in ys) = walk ∙ ap (went_over zs w₀) full in
    let q : xs ≡ bytes_over zs w₀ (records_in ys) = bytes ∙ ap (bytes_over zs w₀) full in
    let few : length (records_in ys) ≤ most = subst (λ (k : ℕ). k ≤ most) (sym (records_length ys)) m in (
      checked_returned_lem d s ys promised zs few (checked_out s (end_of w promised xs)) (ap₂ (λ (v : Walk) (us : List ℕ). checked_out s (end_of v promised us)) p q),
      array_returned d s ys promised zs few xs q,
    )

pub loop-r-preserved : goal.loop-r-preserved
loop-r-preserved c =
    let a = c.args in let l = c.loop-r in let v = l.invariant in let g = c.gone_on-w.result in
    let w₀ = walk_from (device_in a.device) (state_in a.state) (length a.array.now) in
    let len : length a.array.now ≡ length l.array = omega arith in
    let e = c.gone_on-w.ensures (subst (λ (k : ℕ). Sized l.w.device l.w.units k) len v.sized) in
    record {
      walk = e.0 ∙ next_walk a.array.now w₀ a.list.now l.r-index _ c.loop-r-test.true (walk_in l.w) l.array v.walk v.bytes;
      bytes = e.1 ∙ next_bytes a.array.now w₀ a.list.now l.r-index _ c.loop-r-test.true (walk_in l.w) l.array v.walk v.bytes;
      sized = subst (λ (k : ℕ). Sized g.device g.units k) (sym len) e.2;
    }

pub returns : goal.returns
returns c =
    let a = c.args in let l = c.loop-r in let v = l.invariant in let e = c.ended.ensures in
    let r = closed a.device a.state a.list.now a.promised.now a.array.now l.r-index c.loop-r-test.false (omega arith) (walk_in l.w) l.array v.walk v.bytes in
    (e.0 ∙ r.0, e.1 ∙ r.1)
