-- A run as its load and the verify that follows.
use Rattle.std.specs.Prelude.{List, [], ◌++◌, false, ℕ, ◌+◌, eqb, if◌then◌else◌}
use Rattle.model_types.specs.declared.Cycle.{Cycle}
use Rattle.loader_run.specs.declared.Ran.{Ran}
use Rattle.loader_run.specs.Runs.{RunLeft, run_left, doing, job_of}
use Rattle.loader_run_claims.specs.Made.{cycles_at}
use Rattle.loader.specs.declared.Work.TheVariants.{Load, Verify}
use Rattle.loader_run.specs.declared.Job.{Job}

-- a result with the cycles made before it counted too
abbrev pub counted_on : ℕ → Ran → Ran
counted_on n r = record { count = n + r.count; end = r.end; address = r.address; state = r.state }

-- the verify alone of the same block, from the state that a load left
abbrev pub verify_from : Job → RunLeft → Job
verify_from j l = job_of Verify j.device l.ran.state j.pins j.block

-- a verify from where a load left state, array and scratch, with the load's cycles counted too
abbrev pub verify_after : Job → List ℕ → RunLeft → RunLeft
verify_after j w l =
    record {
      ran = counted_on l.ran.count (run_left (verify_from j l) l.bytes w l.scratch).ran;
      bytes = (run_left (verify_from j l) l.bytes w l.scratch).bytes;
      scratch = (run_left (verify_from j l) l.bytes w l.scratch).scratch;
    }

-- what a load leaves, and, only where it ended well, the verify after it (R-load-5)
abbrev pub then_verify : Job → List ℕ → RunLeft → RunLeft
then_verify j w l = if eqb l.ran.end 0 then verify_after j w l else l

-- a load alone, and then, where it ended well, a verify alone
abbrev pub load_verify_left : Job → List ℕ → List ℕ → List ℕ → RunLeft
load_verify_left j xs w sc = then_verify j w (run_left (doing (Load false) j) xs w sc)

-- the cycles of that verify, and none where the load did not end well
abbrev pub cycles_after : Job → List ℕ → RunLeft → List Cycle
cycles_after j w l = if eqb l.ran.end 0 then cycles_at (verify_from j l) l.bytes w l.scratch else []

-- .. the cycles of both
abbrev pub load_verify_cycles : Job → List ℕ → List ℕ → List ℕ → List Cycle
load_verify_cycles j xs w sc = cycles_at (doing (Load false) j) xs w sc ++ cycles_after j w (run_left (doing (Load false) j) xs w sc)
