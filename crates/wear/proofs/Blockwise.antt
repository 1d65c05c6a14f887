-- A block of a report is its own counts, one after the other.
use mathlib.Core.Path.{◌≡◌, refl, sym, ap, ◌∙◌}
use mathlib.Core.Bool.{true, false}
use mathlib.Core.List.{List}
use Prim.Native.Nat.{ℕ, zero, suc, ◌+◌, ◌-◌, ◌*◌, ◌≤◌, ◌<◌}
use native.Mathlib.Omega.{arith}
use lib.ListN.{length, get_or, get_or-eq_default}
use lib.Dec.{eqb}
use borrow.Author.Tests.{lt-ltb, le-ltb}
use Rattle.model_types.specs.Counts.{stop, count_of, raised}
use Rattle.model_types.proofs.Wears.{among, raised_is}
use Rattle.wear.specs.declared.Tally.{Tally}
use Rattle.wear.specs.declared.Report.{Report}
use Rattle.wear.specs.Reports.{passing, tallied, no_tally, no_report, added, wear_at, report_from, tally_of, lowest}
use Rattle.wear.specs.Counted.{counts_of, wears_from}
use Rattle.wear.specs.Columns.{column_from, first_tally}
use Rattle.wear.proofs.Folding.{lowest_is, lowest_first, raised_some, none_tallies, tally_on, folded, from_list}

-- block k's count of trace i
count_there : (cs : List ℕ) (i k : ℕ) → k < 7 → count_of (wear_at cs i) k ≡ get_or cs (7 * i + k) 0
unfolding count_of
count_there cs i =
    among (λ (k : ℕ). count_of (wear_at cs i) k ≡ get_or cs (7 * i + k) 0)
    (ap (λ (n : ℕ). get_or cs n 0) (let q : 7 * i ≡ 7 * i + 0 = omega arith in q)) refl refl refl refl refl refl

-- a column goes on as the fold of its counts does, once there was a trace
column_fold : (n i k : ℕ) (cs : List ℕ) (j : ℕ) (t : Tally) → k < 7 → eqb j 0 ≡ false → column_from n i k cs t ≡ folded j t (counts_of k (wears_from n i cs))
column_fold zero i k cs j t h z = refl
column_fold (suc n) i k cs j t h z =
    column_fold n (i + 1) k cs (raised j) (tallied false t (get_or cs (7 * i + k) 0)) h (raised_some j)
    ∙ (λ x. folded (raised j) (tallied (sym z x) t (sym (count_there cs i k h) x)) (counts_of k (wears_from n (i + 1) cs)))

-- .. and from its first count on as from nothing
first_step : (c : ℕ) → tallied false (first_tally c) c ≡ tallied true no_tally c
first_step c =
    let e : lowest false c c ≡ lowest true 0 c = lowest_is c c ∙ omega arith ∙ sym (lowest_first 0 c) in
    λ i. record { total = (tallied true no_tally c).total; largest = (tallied true no_tally c).largest; smallest = e i; passed = (tallied true no_tally c).passed }

pub column_is : (n k : ℕ) (cs : List ℕ) → k < 7 → length cs ≡ 7 * n → column_from n 0 k cs (first_tally (get_or cs k 0)) ≡ tally_of (report_from n 0 cs no_report) k
column_is n k cs h l =
    go n l ∙ ap (λ (t : Tally). folded 0 t (counts_of k (wears_from n 0 cs))) (sym (none_tallies k h)) ∙ sym (tally_on (wears_from n 0 cs) no_report k h)
    ∙ ap (λ (r : Report). tally_of r k) (sym (from_list n 0 cs no_report))
  where
    go : (n : ℕ) → length cs ≡ 7 * n → column_from n 0 k cs (first_tally (get_or cs k 0)) ≡ folded 0 no_tally (counts_of k (wears_from n 0 cs))
    go zero l = ap first_tally (get_or-eq_default cs 0 {n = k} (omega arith))
    go (suc m) l =
        let q : 7 * 0 + k ≡ k = omega arith in
        let c : ℕ = get_or cs k 0 in
        ap (λ (n : ℕ). column_from m 1 k cs (tallied false (first_tally c) (get_or cs n 0))) q
        ∙ ap (λ (t : Tally). column_from m 1 k cs t) (first_step c)
        ∙ column_fold m 1 k cs (raised 0) (tallied true no_tally c) h (raised_some 0)
        ∙ ap (λ (n : ℕ). folded (raised 0) (tallied true no_tally n) (counts_of k (wears_from m 1 cs))) (sym (count_there cs 0 k h ∙ ap (λ (n : ℕ). get_or cs n 0) q))

-- one part of a column after the other
column_on : (a b i k : ℕ) (cs : List ℕ) (t : Tally) → column_from (a + b) i k cs t ≡ column_from b (i + a) k cs (column_from a i k cs t)
column_on zero b i k cs t =
    let p : 0 + b ≡ b = omega arith in
    let q : i ≡ i + 0 = omega arith in
    λ x. column_from (p x) (q x) k cs t
column_on (suc a) b i k cs t =
    let p : suc a + b ≡ suc (a + b) = omega arith in
    let q : (i + 1) + a ≡ i + suc a = omega arith in
    ap (λ (n : ℕ). column_from n i k cs t) p ∙ column_on a b (i + 1) k cs (tallied false t (get_or cs (7 * i + k) 0))
    ∙ ap (λ (n : ℕ). column_from b n k cs (column_from a (i + 1) k cs (tallied false t (get_or cs (7 * i + k) 0)))) q

pub column_parts : (n m k : ℕ) (cs : List ℕ) (t : Tally) → 2 * m ≤ n
    → column_from (n - 2 * m) (2 * m) k cs (column_from (2 * m) 0 k cs t) ≡ column_from n 0 k cs t
column_parts n m k cs t h =
    let p : 2 * m ≡ 0 + 2 * m = omega arith in
    let q : 2 * m + (n - 2 * m) ≡ n = omega arith in
    ap (λ (j : ℕ). column_from (n - 2 * m) j k cs (column_from (2 * m) 0 k cs t)) p
    ∙ sym (column_on (2 * m) (n - 2 * m) 0 k cs t)
    ∙ ap (λ (j : ℕ). column_from j 0 k cs t) q

-- two counts more, as the code finds them
pub two_more : (m i k : ℕ) (cs : List ℕ) (t : Tally) → i < m
    → column_from (2 * m - 2 * i) (2 * i) k cs t
    ≡ column_from (2 * m - 2 * (i + 1)) (2 * (i + 1)) k cs (tallied false (tallied false t (get_or cs (14 * i + k) 0)) (get_or cs (14 * i + k + 7) 0))
two_more m i k cs t h =
    let n : ℕ = 2 * m - 2 * (i + 1) in
    let p : 2 * m - 2 * i ≡ suc (suc n) = omega arith in
    let a : 7 * (2 * i) + k ≡ 14 * i + k = omega arith in
    let b : 7 * (2 * i + 1) + k ≡ 14 * i + k + 7 = omega arith in
    let c : 2 * i + 1 + 1 ≡ 2 * (i + 1) = omega arith in
    ap (λ (j : ℕ). column_from j (2 * i) k cs t) p
    ∙ (λ x. column_from n (c x) k cs (tallied false (tallied false t (get_or cs (a x) 0)) (get_or cs (b x) 0)))

pub none_more : (m i k : ℕ) (cs : List ℕ) (t : Tally) → m ≤ i → column_from (2 * m - 2 * i) (2 * i) k cs t ≡ t
none_more m i k cs t h = ap (λ (n : ℕ). column_from n (2 * i) k cs t) (let q : 2 * m - 2 * i ≡ 0 = omega arith in q)

-- the traces of a report are counted
pub traces_are : (n i : ℕ) (cs : List ℕ) (r : Report) → r.traces + n ≤ stop → (report_from n i cs r).traces ≡ r.traces + n
traces_are zero i cs r h = omega arith
traces_are (suc n) i cs r h =
    let e : raised r.traces ≡ r.traces + 1 = raised_is r.traces (omega arith) ∙ omega arith in
    traces_are n (i + 1) cs (added r (wear_at cs i)) (omega arith) ∙ omega arith

-- one more where a count passed the sheet's, where there is room
pub passed_none : (a n : ℕ) → n ≤ 100000 → a ≡ passing a n
unfolding passing
passed_none a n h = simp (le-ltb 100000 n h)

pub passed_one : (a n : ℕ) → 100000 < n → a < stop → a + 1 ≡ passing a n
unfolding passing
passed_one a n h r = simp (lt-ltb 100000 n h) (sym (raised_is a (omega arith) ∙ omega arith))
