-- A verify on lent bytes that ends 25, told in bytes at both widths.
use Rattle.std.specs.Prelude.{◌≡◌, List, ℕ, ◌+◌, ◌<◌, length, get_or}
use Rattle.device.specs.Parts.{start_of}
use Rattle.units.specs.Address.{byte_of}
use Rattle.loader.specs.declared.Work.TheVariants.{Verify}
use Rattle.loader_run.specs.declared.Job.{Job}
use Rattle.loader_run.specs.Runs.{lent_run, doing}

-- i is the first place where bytes from a place on differ from others
pub record FirstByte (xs ws : List ℕ) (from i : ℕ) : Type 0 where
  pub inside : i < length ws
  pub differs : get_or xs (from + i) 0 ≡ get_or ws i 0 → ⊥
  pub same_before : (j : ℕ) → j < i → get_or xs (from + j) 0 ≡ get_or ws j 0

-- a verify that ends 25 gives the byte address of the first byte of the block that differs
pub record LentMet (j : Job) (array wanted scratch : List ℕ) (i : ℕ) : Type 0 where
  pub first : FirstByte array wanted (byte_of j.device.part.word (start_of j.device.part j.block)) i
  pub ended : (lent_run (doing Verify j) array wanted scratch).ran.end ≡ 25
  pub address : (lent_run (doing Verify j) array wanted scratch).ran.address
      ≡ byte_of j.device.part.word (start_of j.device.part j.block) + i
