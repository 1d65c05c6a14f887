-- Two results that a promise of this crate allows are equal, and so is what it leaves in each thing lent.
use mathlib.Core.Path.{◌≡◌}
use Prim.Native.Nat.{ℕ}
use Rattle.common.specs.Choice.{Unique}
use Rattle.common.proofs.Choice.{only}
use Rattle.loader.specs.declared.Loader.{Loader}
use Rattle.loader.specs.declared.Saying.{Saying}
use Rattle.loader_run.specs.declared.Ran.{Ran}
use Rattle.loader_run.specs.declared.Job.{Job}
use Rattle.loader.specs.declared.Work.{Work}
use Rattle.std.specs.Prelude.{Result}
use Rattle.file_check.specs.declared.refusal.FileRefusal.{FileRefusal}
use Rattle.c_records.specs.Records.{loader_in, loader_out, job_in, ran_out, loader_back, saying_out, sized_out}
use Rattle.c_cycle.specs.declared.DeviceNumbers.{DeviceNumbers}
use Rattle.c_cycle.specs.declared.StateNumbers.{StateNumbers}
use Rattle.c_records.specs.declared.LoaderNumbers.{LoaderNumbers}
use Rattle.c_records.specs.declared.SayingNumbers.{SayingNumbers}
use Rattle.c_records.specs.declared.RanNumbers.{RanNumbers}
use Rattle.c_records.specs.declared.SizedNumbers.{SizedNumbers}

pub job_in_unique : (work : Work) (d : DeviceNumbers) (s : StateNumbers) (rp wp vpp k : ℕ) → Unique (λ (r : Job). r ≡ job_in work d s rp wp vpp k)
job_in_unique work d s rp wp vpp k = only (job_in work d s rp wp vpp k)

pub ran_out_unique : (n : StateNumbers) (ran : Ran) → Unique (λ (r : RanNumbers). r ≡ ran_out n ran)
ran_out_unique n ran = only (ran_out n ran)

pub loader_in_unique : (n : LoaderNumbers) → Unique (λ (r : Loader). r ≡ loader_in n)
loader_in_unique n = only (loader_in n)

pub loader_out_unique : (l : Loader) → Unique (λ (r : LoaderNumbers). r ≡ loader_out l)
loader_out_unique l = only (loader_out l)

pub loader_back_unique : (n : LoaderNumbers) (l : Loader) → Unique (λ (r : LoaderNumbers). r ≡ loader_back n l)
loader_back_unique n l = only (loader_back n l)

pub saying_out_unique : (saying : Saying) → Unique (λ (r : SayingNumbers). r ≡ saying_out saying)
saying_out_unique saying = only (saying_out saying)

pub sized_out_unique : (answer : Result ℕ FileRefusal) → Unique (λ (r : SizedNumbers). r ≡ sized_out answer)
sized_out_unique answer = only (sized_out answer)
