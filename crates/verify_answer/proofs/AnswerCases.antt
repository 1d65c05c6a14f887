-- A call's answer, way by way, and a part of a slice lent.
use mathlib.Core.Path.{◌≡◌, sym, ap, ◌∙◌}
use mathlib.Core.Bool.{true, false}
use mathlib.Core.List.{List, ◌++◌}
use Prim.Native.Nat.{ℕ, ◌-◌}
use native.Mathlib.Omega.{arith}
use lib.ListN.{take, drop}
use borrow.Rule.Slice.PartMut.{put_mid, mid_of}
use Rattle.common.proofs.Choice.{if_true, if_false}
use Rattle.device.specs.declared.Part.{Part}
use Rattle.verify_answer.specs.Answers.{verify_job, verify_of, call_wrong, numeral_of, asked_part, asked_left, misused, ended, answered, bytes_of}
use Rattle.loader_run.specs.declared.Job.{Job}
use Rattle.loader_from_file.specs.Loads.{load_left}

module _ (count : ℕ) (xs device block f letter mode w sc : List ℕ) where
  pub answered_wrong : call_wrong count letter (numeral_of mode) ≡ true → misused xs w sc ≡ answered count xs device block f letter mode w sc
  unfolding answered
  answered_wrong e = sym (if_true (call_wrong count letter (numeral_of mode)) (misused xs w sc) (ended (asked_left device block mode xs w sc f letter) (bytes_of (asked_part device mode) (numeral_of block) w sc) w sc) e)

  pub answered_right : call_wrong count letter (numeral_of mode) ≡ false → ended (asked_left device block mode xs w sc f letter) (bytes_of (asked_part device mode) (numeral_of block) w sc) w sc ≡ answered count xs device block f letter mode w sc
  unfolding answered
  answered_right e = sym (if_false (call_wrong count letter (numeral_of mode)) (misused xs w sc) (ended (asked_left device block mode xs w sc f letter) (bytes_of (asked_part device mode) (numeral_of block) w sc) w sc) e)

-- the front of a slice, lent and put back
front_put : (n : ℕ) (xs ys : List ℕ) → put_mid 0 (n - 0) xs ys ≡ ys ++ drop n xs
front_put n xs ys = ap (λ (k : ℕ). ys ++ drop k xs) (let e : n - 0 ≡ n = omega arith in e)

-- a verify in the front of the rooms lent
pub verify_is : (part : Part) (k : ℕ) (xs w sc f : List ℕ) (letter n : ℕ) (j : Job) → n ≡ bytes_of part k w sc → j ≡ verify_job part k
    → load_left j xs (mid_of 0 (n - 0) w) (mid_of 0 (n - 0) sc) f letter ≡ verify_of part k xs w sc f letter
unfolding verify_of
verify_is part k xs w sc f letter n j e g =
    let m : n - 0 ≡ bytes_of part k w sc = (let z : n - 0 ≡ n = omega arith in z) ∙ e in
    λ i. load_left (g i) xs (take (m i) w) (take (m i) sc) f letter

-- what is put back of a room
pub room_left : (n m : ℕ) (xs ys zs : List ℕ) → n ≡ m → ys ≡ zs → put_mid 0 (n - 0) xs ys ≡ zs ++ drop m xs
room_left n m xs ys zs e f = front_put n xs ys ∙ (λ i. f i ++ drop (e i) xs)
