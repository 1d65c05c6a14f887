-- The report on the wear of traces, one trace after the other, from the counts of their last states.
use Rattle.std.specs.Prelude.{Bool, List, [], ◌∷◌, ℕ, zero, suc, ◌+◌, ◌-◌, ◌*◌, get_or, eqb, ltb, if◌then◌else◌}
use Rattle.model_types.specs.declared.Wear.{Wear}
use Rattle.model_types.specs.Counts.{raised}
use Rattle.wear.specs.declared.Tally.{Tally}
use Rattle.wear.specs.declared.Report.{Report}

-- the largest number of 64 bits
abbrev pub most : ℕ
most = 18446744073709551615

-- a total with a count more; no report that was made here comes near the largest number
unfoldable pub added_up : ℕ → ℕ → ℕ
added_up a n = if ltb (most - n) a then most else a + n

-- the larger of two
unfoldable pub larger : ℕ → ℕ → ℕ
larger a n = if ltb a n then n else a

-- the smaller of two; of the first trace its own
unfoldable pub lowest : Bool → ℕ → ℕ → ℕ
lowest first a n =
    if first then n
    else if ltb n a then n
    else a

-- one more where a count passed the sheet's 100,000: where it is over it (R-wear-2)
unfoldable pub passing : ℕ → ℕ → ℕ
passing a n = if ltb 100000 n then raised a else a

-- one block, with a trace more (R-wear-2)
abbrev pub tallied : Bool → Tally → ℕ → Tally
tallied first t n =
    record {
      total = added_up t.total n;
      largest = larger t.largest n;
      smallest = lowest first t.smallest n;
      passed = passing t.passed n;
    }

-- a block of which nothing was counted
abbrev pub no_tally : Tally
no_tally = record { total = 0; largest = 0; smallest = 0; passed = 0 }

-- the report on no traces: zeros, the smallest too (R-wear-2)
abbrev pub no_report : Report
no_report =
    record {
      traces = 0;
      block0 = no_tally;
      block1 = no_tally;
      block2 = no_tally;
      block3 = no_tally;
      block4 = no_tally;
      block5 = no_tally;
      block6 = no_tally;
    }

-- a report with one trace more
abbrev pub added : Report → Wear → Report
added r w = record {
  traces = raised r.traces;
  block0 = tallied (eqb r.traces 0) r.block0 w.block0;
  block1 = tallied (eqb r.traces 0) r.block1 w.block1;
  block2 = tallied (eqb r.traces 0) r.block2 w.block2;
  block3 = tallied (eqb r.traces 0) r.block3 w.block3;
  block4 = tallied (eqb r.traces 0) r.block4 w.block4;
  block5 = tallied (eqb r.traces 0) r.block5 w.block5;
  block6 = tallied (eqb r.traces 0) r.block6 w.block6;
}

-- the seven counts of trace i, out of seven for each trace
abbrev pub wear_at : List ℕ → ℕ → Wear
wear_at cs i = record {
  block0 = get_or cs (7 * i) 0;
  block1 = get_or cs (7 * i + 1) 0;
  block2 = get_or cs (7 * i + 2) 0;
  block3 = get_or cs (7 * i + 3) 0;
  block4 = get_or cs (7 * i + 4) 0;
  block5 = get_or cs (7 * i + 5) 0;
  block6 = get_or cs (7 * i + 6) 0;
}

-- n traces more, from trace i on
abbrev pub report_from : ℕ → ℕ → List ℕ → Report → Report
report_from zero i cs r = r
report_from (suc n) i cs r = report_from n (i + 1) cs (added r (wear_at cs i))

-- the report on some traces by their counts
abbrev pub report_on : Report → List Wear → Report
report_on r [] = r
report_on r (w ∷ ws) = report_on (added r w) ws

-- one block of a report
unfoldable pub tally_of : Report → ℕ → Tally
tally_of r k =
    if eqb k 0 then r.block0
    else if eqb k 1 then r.block1
    else if eqb k 2 then r.block2
    else if eqb k 3 then r.block3
    else if eqb k 4 then r.block4
    else if eqb k 5 then r.block5
    else if eqb k 6 then r.block6
    else no_tally
