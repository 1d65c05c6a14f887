-- The report from the stored counts and the one from the cycles.
use mathlib.Core.Path.{◌≡◌, refl, sym, ap, subst, ◌∙◌}
use mathlib.Core.Bool.{Bool, true, false}
use mathlib.Core.List.{List, [], ◌∷◌}
use Prim.Native.Nat.{ℕ, suc, ◌+◌, ◌≤◌, ◌<◌, min}
use native.Mathlib.Omega.{arith}
use lib.ListN.{length}
use lib.Dec.{ltb}
use borrow.Author.Tests.{ltb-true, ltb-false, lt-ltb, le-ltb}
use Rattle.std.specs.Prelude.{if◌then◌else◌}
use Rattle.device.specs.declared.Device.{Device}
use Rattle.device.specs.Parts.{length_of}
use Rattle.model_types.specs.Counts.{stop}
use Rattle.model_states.specs.States.{fresh_state}
use Rattle.model_history.specs.History.{world_of}
use Rattle.model_history.proofs.Counting.{stored_fresh, none_begun}
use Rattle.wear.specs.declared.Tally.{Tally}
use Rattle.wear.specs.Reports.{no_tally, no_report, report_on, tally_of}
use Rattle.wear.specs.Counted.{total_in, largest_in, least_of, smallest_in, passed_in, summary, counts_of, Small}
use Rattle.wear.proofs.Folding.{exact}
use Rattle.wear_claims.specs.Traces.{Trace, begun_of, begun_all, wears_of, line_of, Beside}

abbrev capped : List ℕ → List ℕ
capped [] = []
capped (c ∷ cs) = min c stop ∷ capped cs

-- the stored counts are the cycles', up to the stop
stored_all : (d : Device) (k : ℕ) → k < 7 → (ts : List Trace) → counts_of k (wears_of d ts) ≡ capped (begun_all d k ts)
stored_all d k h [] = refl
stored_all d k h (t ∷ ts) =
    λ i. stored_fresh t.buses d t.held k h i ∷ stored_all d k h ts i

small_capped : (cs : List ℕ) → Small (capped cs)
small_capped [] = omega arith
small_capped (c ∷ cs) = (omega arith, small_capped cs)

long_wears : (d : Device) (ts : List Trace) → length (wears_of d ts) ≡ length ts
long_wears d [] = refl
long_wears d (t ∷ ts) = ap suc (long_wears d ts)

-- what a report says, whether or not some trace reached the stop
told : (d : Device) (ts : List Trace) (k : ℕ) → k < 7 → length ts ≤ 65535 → tally_of (report_on no_report (wears_of d ts)) k ≡ summary (capped (begun_all d k ts))
told d ts k h l =
    exact (wears_of d ts) k h (let e = long_wears d ts in omega arith) (subst Small (sym (stored_all d k h ts)) (small_capped (begun_all d k ts)))
    ∙ ap summary (stored_all d k h ts)

uncapped : (cs : List ℕ) → Small cs → capped cs ≡ cs
uncapped [] s = refl
uncapped (c ∷ cs) s = let e : min c stop ≡ c = let h = s.0 in omega arith in λ i. e i ∷ uncapped cs s.1 i

-- below the stop they agree
pub agree : (d : Device) (ts : List Trace) (k : ℕ) → k < 7 → length ts ≤ 65535 → Small (begun_all d k ts) → tally_of (report_on no_report (wears_of d ts)) k ≡ line_of d ts k
agree d ts k h l s = told d ts k h l ∙ ap summary (uncapped (begun_all d k ts) s)

-- and beyond it
total_capped : (cs : List ℕ) → total_in (capped cs) ≤ total_in cs
total_capped [] = omega arith
total_capped (c ∷ cs) = let h = total_capped cs in omega arith

largest_capped : (cs : List ℕ) → largest_in (capped cs) ≡ min (largest_in cs) stop
largest_capped [] = omega arith
largest_capped (c ∷ cs) = let h = largest_capped cs in omega arith

least_capped : (c : ℕ) (cs : List ℕ) → least_of (min c stop) (capped cs) ≡ min (least_of c cs) stop
least_capped c [] = refl
least_capped c (x ∷ cs) = let h = least_capped x cs in omega arith

smallest_capped : (cs : List ℕ) → smallest_in (capped cs) ≡ min (smallest_in cs) stop
smallest_capped [] = omega arith
smallest_capped (c ∷ cs) = least_capped c cs

pass_capped : (c : ℕ) → ltb 100000 (min c stop) ≡ ltb 100000 c
pass_capped c = go (ltb 100000 c) refl
  where
    go : (b : Bool) → ltb 100000 c ≡ b → ltb 100000 (min c stop) ≡ b
    go true e = let l = ltb-true 100000 c e in lt-ltb 100000 (min c stop) (omega arith)
    go false e = let l = ltb-false 100000 c e in le-ltb 100000 (min c stop) (omega arith)

passed_capped : (cs : List ℕ) → passed_in (capped cs) ≡ passed_in cs
passed_capped [] = refl
passed_capped (c ∷ cs) = λ i. (if pass_capped c i then 1 else 0) + passed_capped cs i

pub beside : (d : Device) (ts : List Trace) (k : ℕ) → k < 7 → length ts ≤ 65535 → Beside (tally_of (report_on no_report (wears_of d ts)) k) (line_of d ts k)
beside d ts k h l =
    subst (λ (t : Tally). Beside t (line_of d ts k)) (sym (told d ts k h l))
    (record {
      total = total_capped (begun_all d k ts);
      largest = largest_capped (begun_all d k ts);
      smallest = smallest_capped (begun_all d k ts);
      passed = passed_capped (begun_all d k ts);
    })

-- a block that the part has not is reported by zeros
pub absent : (d : Device) (ts : List Trace) (k : ℕ) → length_of d.part k ≡ 0 → line_of d ts k ≡ no_tally
absent d ts k z = zeros (begun_all d k ts) (all_none ts)
  where
    Zeros : List ℕ → Type 0
    Zeros cs = (total_in cs ≡ 0) × (largest_in cs ≡ 0) × (smallest_in cs ≡ 0) × (passed_in cs ≡ 0)

    zeros : (cs : List ℕ) → Zeros cs → summary cs ≡ no_tally
    zeros cs h = λ i. record { total = h.0 i; largest = h.1 i; smallest = h.2 i; passed = h.3 i }

    least-none : (c : ℕ) (cs : List ℕ) → c ≡ 0 → least_of c cs ≡ 0
    least-none c [] e = e
    least-none c (x ∷ cs) e = omega arith

    pass-none : (c : ℕ) → c ≡ 0 → ◌≡◌ {A = ℕ} (if ltb 100000 c then 1 else 0) 0
    pass-none c e = rw e refl

    all_none : (ts : List Trace) → Zeros (begun_all d k ts)
    all_none [] = (refl, refl, refl, refl)
    all_none (t ∷ ts) =
        let e : begun_of d k t ≡ 0 = none_begun t.buses d (world_of fresh_state t.held) k z in
        let h = all_none ts in
        let p = pass-none (begun_of d k t) e in
        (omega (arith, h.0), omega (arith, h.1), least-none (begun_of d k t) (begun_all d k ts) e, omega (arith, h.3))
