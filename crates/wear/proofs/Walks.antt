-- The walk of a report over the device numbers, and what is known of one that is not refused.
use mathlib.Core.Path.{◌≡◌, refl, ◌∙◌}
use mathlib.Core.Bool.{Bool, true, false, not, ◌||◌}
use mathlib.Core.List.{List, [], ◌∷◌}
use Rattle.std.specs.List.{fold}
use Prim.Native.Nat.{ℕ, ◌*◌, ◌<◌}
use native.Mathlib.Omega.{arith}
use lib.ListN.{length}
use lib.Dec.{eqb}
use borrow.Author.Tests.{eqb-true, ltb-false, not-false}
use Rattle.std.specs.Prelude.{if◌then◌else◌}
use Rattle.common.proofs.Numbers.{given_no_row, no_head, no_tail}
use Rattle.wear.specs.Refusals.{differ, uneven_counts, report_rows, report_number}

-- a walk that keeps what it found says whether some number is another
pub differ_fold : (n : ℕ) (s : List ℕ) (b : Bool) → fold (λ (b : Bool) (x : ℕ). b || not (eqb x n)) b s ≡ (b || differ n s)
differ_fold n [] true = refl
differ_fold n [] false = refl
differ_fold n (x ∷ s) b = differ_fold n s (b || not (eqb x n)) ∙ step b (eqb x n) (differ n s)
  where
    step : (b t d : Bool) → ((b || not t) || d) ≡ (b || (if t then d else true))
    step true t d = refl
    step false true d = refl
    step false false d = refl

-- what is not refused has at most 65,535 traces, and seven counts for each
pub few : (number : ℕ) (numbers : List ℕ) (counts : ℕ) → report_number number numbers counts ≡ 0 → length numbers < 65536
unfolding report_number
few number numbers counts e =
    let r = given_no_row (report_rows number numbers counts) refl e in
    let r2 = no_tail r in
    let r3 = no_tail r2 in
    let h = ltb-false 65535 (length numbers) (no_head r3) in
    omega arith

pub sevens : (number : ℕ) (numbers : List ℕ) (counts : ℕ) → report_number number numbers counts ≡ 0 → counts ≡ 7 * length numbers
unfolding report_number uneven_counts
sevens number numbers counts e =
    let r = given_no_row (report_rows number numbers counts) refl e in
    eqb-true counts (7 * length numbers) (not-false (eqb counts (7 * length numbers)) (no_head (no_tail r)))
