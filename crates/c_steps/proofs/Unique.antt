-- Two results that a promise of this crate allows are equal, and so is what it leaves in each thing lent.
use mathlib.Core.Path.{◌≡◌}
use mathlib.Core.List.{List}
use Prim.Native.Nat.{ℕ}
use Rattle.loader.specs.declared.Work.{Work}
use Rattle.c_records.specs.declared.LoaderNumbers.{LoaderNumbers}
use Rattle.c_records.specs.declared.ResponseNumbers.{ResponseNumbers}
use Rattle.c_steps.specs.Steps.{stepped_of, scratch_stepped, started_of}
use Rattle.common.specs.Choice.{Unique}
use Rattle.common.proofs.Choice.{only}

pub stepped_unique : (l : LoaderNumbers) (v : ℕ) (w sc : List ℕ) → Unique (λ (r : ResponseNumbers). r ≡ stepped_of l v w sc)
stepped_unique l v w sc = only (stepped_of l v w sc)

pub stepped_scratch_unique : (l : LoaderNumbers) (v : ℕ) (w sc : List ℕ) → Unique (λ (left : List ℕ). left ≡ scratch_stepped l v w sc)
stepped_scratch_unique l v w sc = only (scratch_stepped l v w sc)

pub started_unique : (work : Work) (part word rp wp vpp k : ℕ) (w sc : List ℕ) → Unique (λ (r : ResponseNumbers). r ≡ started_of work part word rp wp vpp k w sc)
started_unique work part word rp wp vpp k w sc = only (started_of work part word rp wp vpp k w sc)
