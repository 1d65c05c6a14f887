-- What a report says of one block, from the list of its counts, a count a trace.
use Rattle.std.specs.Prelude.{List, [], ◌∷◌, ℕ, zero, suc, ◌+◌, ◌≤◌, ◌<◌, min, max, ltb, if◌then◌else◌}
use Rattle.model_types.specs.declared.Wear.{Wear}
use Rattle.model_types.specs.Counts.{stop, count_of}
use Rattle.wear.specs.declared.Tally.{Tally}
use Rattle.wear.specs.declared.Report.{Report}
use Rattle.wear.specs.Reports.{most, wear_at, tally_of}

-- all of them together
abbrev pub total_in : List ℕ → ℕ
total_in [] = 0
total_in (c ∷ cs) = c + total_in cs

-- the largest, 0 of none
abbrev pub largest_in : List ℕ → ℕ
largest_in [] = 0
largest_in (c ∷ cs) = max c (largest_in cs)

-- the smallest of one and more
abbrev pub least_of : ℕ → List ℕ → ℕ
least_of c [] = c
least_of c (x ∷ cs) = min c (least_of x cs)

-- the smallest, 0 of none
abbrev pub smallest_in : List ℕ → ℕ
smallest_in [] = 0
smallest_in (c ∷ cs) = least_of c cs

-- how many are over 100,000
abbrev pub passed_in : List ℕ → ℕ
passed_in [] = 0
passed_in (c ∷ cs) = (if ltb 100000 c then 1 else 0) + passed_in cs

-- a block's line of the report (R-wear-2)
abbrev pub summary : List ℕ → Tally
summary cs = record { total = total_in cs; largest = largest_in cs; smallest = smallest_in cs; passed = passed_in cs }

-- the counts of block k, a count a trace
abbrev pub counts_of : ℕ → List Wear → List ℕ
counts_of k [] = []
counts_of k (w ∷ ws) = count_of w k ∷ counts_of k ws

-- n traces from trace i on, out of seven counts for each
abbrev pub wears_from : ℕ → ℕ → List ℕ → List Wear
wears_from zero i cs = []
wears_from (suc n) i cs = wear_at cs i ∷ wears_from n (i + 1) cs

-- no count is over the stop: such counts are all that 32 bits hold
abbrev pub Small : List ℕ → Type 0
Small [] = 0 ≤ stop
Small (c ∷ cs) = (c ≤ stop) × Small cs

-- a trace's counts fit 32 bits, those of each trace do, and a report's totals fit 64
abbrev pub Fits : Wear → Type 0
Fits w = (k : ℕ) → k < 7 → count_of w k ≤ stop

-- .. of each of several traces
abbrev pub AllFit : List Wear → Type 0
AllFit [] = 0 ≤ stop
AllFit (w ∷ ws) = Fits w × AllFit ws

-- a report's totals fit 64 bits
abbrev pub Sound : Report → Type 0
Sound r = (k : ℕ) → k < 7 → (tally_of r k).total ≤ most
