-- Counts of erases begun, one for each block.
use Rattle.std.specs.Prelude.{ℕ, ◌+◌, eqb, ltb, if◌then◌else◌}
use Rattle.model_types.specs.declared.Wear.{Wear}
use Rattle.model_types.specs.declared.Effect.{Effect}
use Rattle.model_types.specs.declared.Effect.TheVariants.{Nothing, Program, Erase, CutProgram, CutErase}

-- a count stops here: 4,294,967,295 (R-wear-1)
abbrev pub stop : ℕ
stop = 4294967295

-- a fresh device (R-wear-1)
abbrev pub unworn : Wear
unworn = record { block0 = 0; block1 = 0; block2 = 0; block3 = 0; block4 = 0; block5 = 0; block6 = 0 }

-- the count of block k; there is none past the seventh
unfoldable pub count_of : Wear → ℕ → ℕ
count_of w k =
    if eqb k 0 then w.block0
    else if eqb k 1 then w.block1
    else if eqb k 2 then w.block2
    else if eqb k 3 then w.block3
    else if eqb k 4 then w.block4
    else if eqb k 5 then w.block5
    else if eqb k 6 then w.block6
    else 0

-- one more, up to the stop (R-wear-1)
unfoldable pub raised : ℕ → ℕ
raised n = if ltb n stop then n + 1 else n

-- the count n of block j after an erase of block k is begun
unfoldable pub raised_at : ℕ → ℕ → ℕ → ℕ
raised_at j k n = if eqb k j then raised n else n

-- the counts after an erase of block k is begun
abbrev pub worn : Wear → ℕ → Wear
worn w k = record {
  block0 = raised_at 0 k w.block0;
  block1 = raised_at 1 k w.block1;
  block2 = raised_at 2 k w.block2;
  block3 = raised_at 3 k w.block3;
  block4 = raised_at 4 k w.block4;
  block5 = raised_at 5 k w.block5;
  block6 = raised_at 6 k w.block6;
}

-- the counts after an operation is begun: an erase counts at its block, nothing else counts (R-wear-1)
abbrev pub worn_by : Effect → Wear → Wear
worn_by Nothing w = w
worn_by (Program at b) w = w
worn_by (Erase k) w = worn w k
worn_by (CutProgram at b) w = w
worn_by (CutErase k) w = w
