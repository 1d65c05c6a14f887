-- How the code makes a report: one block by itself, its counts one after the other. Not part of what a buyer must believe.
use Rattle.std.specs.Prelude.{false, List, ℕ, zero, suc, ◌+◌, ◌*◌, ◌≤◌, ◌<◌, get_or}
use Rattle.wear.specs.declared.Tally.{Tally}
use Rattle.wear.specs.Reports.{tallied}

-- a block before its first trace, whose count is the smallest already
abbrev pub first_tally : ℕ → Tally
first_tally c = record { total = 0; largest = 0; smallest = c; passed = 0 }

-- n counts more of block k, from trace i on
abbrev pub column_from : ℕ → ℕ → ℕ → List ℕ → Tally → Tally
column_from zero i k cs t = t
column_from (suc n) i k cs t = column_from n (i + 1) k cs (tallied false t (get_or cs (7 * i + k) 0))

-- what n counts of 32 bits come to at most
pub record Room (n : ℕ) (t : Tally) : Type 0 where
  pub total : t.total ≤ n * 4294967295
  pub passed : t.passed ≤ n

-- a block, and as many traces as a report may have, with seven counts for each
pub record Few (k n counts : ℕ) : Type 0 where
  pub block : k < 7
  pub few : n < 65536
  pub each : 7 * n ≤ counts
