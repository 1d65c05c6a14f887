-- One trace after the other comes to the line of the whole list, and the order does not matter.
use mathlib.Core.Path.{◌≡◌, refl, sym, ap, ◌∙◌}
use mathlib.Core.Bool.{Bool, true, false}
use mathlib.Core.List.{List, [], ◌∷◌, ◌++◌}
use Prim.Native.Nat.{ℕ, zero, suc, ◌+◌, ◌-◌, ◌*◌, ◌≤◌, ◌<◌, min, max}
use native.Mathlib.Omega.{arith}
use lib.ListN.{length}
use lib.Dec.{eqb, ltb}
use borrow.Author.Tests.{ltb-true, ltb-false, ne_eqb}
use Rattle.std.specs.Prelude.{if◌then◌else◌}
use Rattle.model_types.specs.declared.Wear.{Wear}
use Rattle.model_types.specs.Counts.{stop, count_of, raised}
use Rattle.model_types.proofs.Wears.{among, raised_is}
use Rattle.wear.specs.declared.Tally.{Tally}
use Rattle.wear.specs.declared.Report.{Report}
use Rattle.wear.specs.Reports.{most, added_up, larger, lowest, passing, tallied, no_tally, no_report, added, wear_at, report_from, report_on, tally_of}
use Rattle.wear.specs.Counted.{total_in, largest_in, least_of, passed_in, summary, counts_of, wears_from, Small, Fits, AllFit, Sound}

-- ---- one trace more, number by number
pub added_is : (a n : ℕ) → a ≤ most → n ≤ most → added_up a n ≡ min (a + n) most
unfolding added_up
added_is a n h k = go (ltb (most - n) a) refl
  where
    go : (b : Bool) → ltb (most - n) a ≡ b → (if b then most else a + n) ≡ min (a + n) most
    go true e = let l = ltb-true (most - n) a e in omega arith
    go false e = let l = ltb-false (most - n) a e in omega arith

larger_is : (a n : ℕ) → larger a n ≡ max a n
unfolding larger
larger_is a n = go (ltb a n) refl
  where
    go : (b : Bool) → ltb a n ≡ b → (if b then n else a) ≡ max a n
    go true e = let l = ltb-true a n e in omega arith
    go false e = let l = ltb-false a n e in omega arith

pub lowest_is : (a n : ℕ) → lowest false a n ≡ min a n
unfolding lowest
lowest_is a n = go (ltb n a) refl
  where
    go : (b : Bool) → ltb n a ≡ b → (if b then n else a) ≡ min a n
    go true e = let l = ltb-true n a e in omega arith
    go false e = let l = ltb-false n a e in omega arith

pub lowest_first : (a n : ℕ) → lowest true a n ≡ n
unfolding lowest
lowest_first a n = refl

passing_is : (a n : ℕ) → a + 1 ≤ stop → passing a n ≡ a + (if ltb 100000 n then 1 else 0)
unfolding passing
passing_is a n h = go (ltb 100000 n)
  where
    go : (b : Bool) → (if b then raised a else a) ≡ a + (if b then 1 else 0)
    go true = raised_is a (omega arith) ∙ omega arith
    go false = omega arith

pub raised_some : (n : ℕ) → eqb (raised n) 0 ≡ false
unfolding raised
raised_some n = go (ltb n stop) refl
  where
    go : (b : Bool) → ltb n stop ≡ b → eqb (if b then n + 1 else n) 0 ≡ false
    go true e = ne_eqb (n + 1) 0 (λ z. omega arith)
    go false e = let l = ltb-false n stop e in ne_eqb n 0 (λ z. omega arith)

-- ---- one block of a report
pub tally_added : (r : Report) (w : Wear) (k : ℕ) → k < 7 → tally_of (added r w) k ≡ tallied (eqb r.traces 0) (tally_of r k) (count_of w k)
unfolding tally_of count_of
tally_added r w = among (λ (k : ℕ). tally_of (added r w) k ≡ tallied (eqb r.traces 0) (tally_of r k) (count_of w k)) refl refl refl refl refl refl refl

pub none_tallies : (k : ℕ) → k < 7 → tally_of no_report k ≡ no_tally
unfolding tally_of
none_tallies = among (λ (k : ℕ). tally_of no_report k ≡ no_tally) refl refl refl refl refl refl refl

-- the traces and the seven blocks are all that there is
pub same_report : (r q : Report) → r.traces ≡ q.traces → ((k : ℕ) → k < 7 → tally_of r k ≡ tally_of q k) → r ≡ q
unfolding tally_of
same_report r q e h =
    λ i. record {
      traces = e i;
      block0 = h 0 (omega arith) i;
      block1 = h 1 (omega arith) i;
      block2 = h 2 (omega arith) i;
      block3 = h 3 (omega arith) i;
      block4 = h 4 (omega arith) i;
      block5 = h 5 (omega arith) i;
      block6 = h 6 (omega arith) i;
    }

-- .. and trace after trace
abbrev pub folded : ℕ → Tally → List ℕ → Tally
folded n t [] = t
folded n t (c ∷ cs) = folded (raised n) (tallied (eqb n 0) t c) cs

pub tally_on : (ws : List Wear) (r : Report) (k : ℕ) → k < 7 → tally_of (report_on r ws) k ≡ folded r.traces (tally_of r k) (counts_of k ws)
tally_on [] r k h = refl
tally_on (w ∷ ws) r k h = tally_on ws (added r w) k h ∙ ap (λ (t : Tally). folded (raised r.traces) t (counts_of k ws)) (tally_added r w k h)

fold_total : (cs : List ℕ) (n : ℕ) (t : Tally) → t.total + total_in cs ≤ most → (folded n t cs).total ≡ t.total + total_in cs
fold_total [] n t h = omega arith
fold_total (c ∷ cs) n t h =
    let e : added_up t.total c ≡ t.total + c = added_is t.total c (omega arith) (omega arith) ∙ omega arith in
    fold_total cs (raised n) (tallied (eqb n 0) t c) (omega arith) ∙ omega arith

fold_largest : (cs : List ℕ) (n : ℕ) (t : Tally) → (folded n t cs).largest ≡ max t.largest (largest_in cs)
fold_largest [] n t = omega arith
fold_largest (c ∷ cs) n t =
    let e : larger t.largest c ≡ max t.largest c = larger_is t.largest c in
    fold_largest cs (raised n) (tallied (eqb n 0) t c) ∙ omega arith

least_min : (a c : ℕ) (cs : List ℕ) → least_of (min a c) cs ≡ min a (least_of c cs)
least_min a c [] = refl
least_min a c (x ∷ cs) = omega arith

fold_smallest : (cs : List ℕ) (n : ℕ) (t : Tally) → eqb n 0 ≡ false → (folded n t cs).smallest ≡ least_of t.smallest cs
fold_smallest [] n t z = refl
fold_smallest (c ∷ cs) n t z =
    fold_smallest cs (raised n) (tallied (eqb n 0) t c) (raised_some n)
    ∙ ap (λ (m : ℕ). least_of m cs) (ap (λ (b : Bool). lowest b t.smallest c) z ∙ lowest_is t.smallest c)
    ∙ least_min t.smallest c cs

fold_passed : (cs : List ℕ) (n : ℕ) (t : Tally) → t.passed + length cs ≤ stop → (folded n t cs).passed ≡ t.passed + passed_in cs
fold_passed [] n t h = omega arith
fold_passed (c ∷ cs) n t h =
    let e : passing t.passed c ≡ t.passed + (if ltb 100000 c then 1 else 0) = passing_is t.passed c (omega arith) in
    fold_passed cs (raised n) (tallied (eqb n 0) t c) (let o = at_most (ltb 100000 c) in omega arith) ∙ omega arith
  where
    at_most : (b : Bool) → (if b then 1 else 0) ≤ 1
    at_most true = omega arith
    at_most false = omega arith

total_small : (cs : List ℕ) → Small cs → total_in cs ≤ length cs * 4294967295
total_small [] s = omega arith
total_small (c ∷ cs) s = let h = total_small cs s.1 in let g = s.0 in omega arith

-- the whole list from nothing
fold_whole : (cs : List ℕ) → length cs ≤ 65535 → Small cs → folded 0 no_tally cs ≡ summary cs
fold_whole [] l s = refl
fold_whole (c ∷ cs) l s =
    let b = total_small (c ∷ cs) s in
    let q : total_in (c ∷ cs) ≤ most = omega arith in
    let t : (folded 0 no_tally (c ∷ cs)).total ≡ total_in (c ∷ cs) = fold_total (c ∷ cs) 0 no_tally (omega arith) ∙ omega arith in
    let m : (folded 0 no_tally (c ∷ cs)).largest ≡ largest_in (c ∷ cs) = fold_largest (c ∷ cs) 0 no_tally ∙ omega arith in
    let p : (folded 0 no_tally (c ∷ cs)).passed ≡ passed_in (c ∷ cs) = fold_passed (c ∷ cs) 0 no_tally (omega arith) ∙ omega arith in
    let v : (folded 0 no_tally (c ∷ cs)).smallest ≡ least_of c cs =
    fold_smallest cs (raised 0) (tallied true no_tally c) (raised_some 0) ∙ ap (λ (x : ℕ). least_of x cs) (lowest_first 0 c) in
    λ i. record { total = t i; largest = m i; smallest = v i; passed = p i }

length_counts : (k : ℕ) (ws : List Wear) → length (counts_of k ws) ≡ length ws
length_counts k [] = refl
length_counts k (w ∷ ws) = ap suc (length_counts k ws)

-- the report says of each block what its list of counts says
pub exact : (ws : List Wear) (k : ℕ) → k < 7 → length ws ≤ 65535 → Small (counts_of k ws) → tally_of (report_on no_report ws) k ≡ summary (counts_of k ws)
exact ws k h l s =
    tally_on ws no_report k h
    ∙ ap (λ (t : Tally). folded 0 t (counts_of k ws)) (none_tallies k h)
    ∙ fold_whole (counts_of k ws) (let e = length_counts k ws in omega arith) s

-- the report from slices is that of a list
pub from_list : (n i : ℕ) (cs : List ℕ) (r : Report) → report_from n i cs r ≡ report_on r (wears_from n i cs)
from_list zero i cs r = refl
from_list (suc n) i cs r = from_list n (i + 1) cs (added r (wear_at cs i))

-- ---- the order does not matter
swap_total : (a x y : ℕ) → a ≤ most → x ≤ stop → y ≤ stop → added_up (added_up a x) y ≡ added_up (added_up a y) x
swap_total a x y h p q =
    let e : added_up a x ≡ min (a + x) most = added_is a x h (omega arith) in
    let f : added_up a y ≡ min (a + y) most = added_is a y h (omega arith) in
    added_is (added_up a x) y (omega arith) (omega arith) ∙ (let z : min (added_up a x + y) most ≡ min (added_up a y + x) most = omega arith in z)
    ∙ sym (added_is (added_up a y) x (omega arith) (omega arith))

swap_largest : (a x y : ℕ) → larger (larger a x) y ≡ larger (larger a y) x
swap_largest a x y =
    let e = larger_is a x in
    let f = larger_is a y in
    larger_is (larger a x) y ∙ (let z : max (larger a x) y ≡ max (larger a y) x = omega arith in z) ∙ sym (larger_is (larger a y) x)

swap_smallest : (b : Bool) (a x y : ℕ) → lowest false (lowest b a x) y ≡ lowest false (lowest b a y) x
swap_smallest true a x y = rw (lowest_first a x, lowest_first a y) (lowest_is x y ∙ (let z : min x y ≡ min y x = omega arith in z) ∙ sym (lowest_is y x))
swap_smallest false a x y =
    let e = lowest_is a x in
    let f = lowest_is a y in
    lowest_is (lowest false a x) y ∙ (let z : min (lowest false a x) y ≡ min (lowest false a y) x = omega arith in z) ∙ sym (lowest_is (lowest false a y) x)

swap_passed : (a x y : ℕ) → passing (passing a x) y ≡ passing (passing a y) x
unfolding passing
swap_passed a x y = go (ltb 100000 x) (ltb 100000 y)
  where
    go : (p q : Bool) → (if q then raised (if p then raised a else a) else (if p then raised a else a)) ≡ (if p then raised (if q then raised a else a) else (if q then raised a else a))
    go true true = refl
    go true false = refl
    go false true = refl
    go false false = refl

swap_tally : (n : ℕ) (t : Tally) (x y : ℕ) → t.total ≤ most → x ≤ stop → y ≤ stop
    → tallied (eqb (raised n) 0) (tallied (eqb n 0) t x) y ≡ tallied (eqb (raised n) 0) (tallied (eqb n 0) t y) x
swap_tally n t x y h p q =
    rw (raised_some n)
    (λ i. record {
      total = swap_total t.total x y h p q i;
      largest = swap_largest t.largest x y i;
      smallest = swap_smallest (eqb n 0) t.smallest x y i;
      passed = swap_passed t.passed x y i;
    })

-- two traces in either order, on any report that 64 bits hold
pub swapped : (r : Report) (v w : Wear) → Sound r → Fits v → Fits w
    → added (added r v) w ≡ added (added r w) v
swapped r v w h p q = same_report (added (added r v) w) (added (added r w) v) refl
    (λ k l. tally_added (added r v) w k l ∙ ap (λ (t : Tally). tallied (eqb (raised r.traces) 0) t (count_of w k)) (tally_added r v k l)
    ∙ swap_tally r.traces (tally_of r k) (count_of v k) (count_of w k) (h k l) (p k l) (q k l)
    ∙ sym (tally_added (added r w) v k l ∙ ap (λ (t : Tally). tallied (eqb (raised r.traces) 0) t (count_of v k)) (tally_added r w k l)))

-- .. and anywhere among the traces
added_sound : (r : Report) (w : Wear) → Sound r → Fits w → Sound (added r w)
added_sound r w h f k l =
    let e : (tally_of (added r w) k).total ≡ added_up (tally_of r k).total (count_of w k) = ap (λ (t : Tally). t.total) (tally_added r w k l) in
    let q : added_up (tally_of r k).total (count_of w k) ≡ min ((tally_of r k).total + count_of w k) most = added_is (tally_of r k).total (count_of w k) (h k l) (let g = f k l in omega arith) in
    omega arith

pub anywhere : (us : List Wear) (v w : Wear) (ws : List Wear) (r : Report) → Sound r → AllFit us → Fits v → Fits w
    → report_on r (us ++ (v ∷ w ∷ ws)) ≡ report_on r (us ++ (w ∷ v ∷ ws))
anywhere [] v w ws r h a p q = ap (λ (x : Report). report_on x ws) (swapped r v w h p q)
anywhere (u ∷ us) v w ws r h a p q = anywhere us v w ws (added r u) (added_sound r u h a.0) a.1 p q

pub none_sound : Sound no_report
none_sound k l = let e : (tally_of no_report k).total ≡ 0 = ap (λ (t : Tally). t.total) (none_tallies k l) in omega arith
