-- A loader's start and step on numbers: the typed answer as numbers.
use Rattle.std.specs.Prelude.{Bool, List, ℕ, eqb}
use Rattle.units.specs.Units.{lent}
use Rattle.loader.specs.declared.Work.{Work}
use Rattle.loader.specs.declared.Response.{Response}
use Rattle.c_cycle.specs.Values.{part_in, pins_in}
use Rattle.loader_steps.specs.Front.{start_response, step_response, scratch_left}
use Rattle.c_records.specs.Records.{loader_in, loader_out, loader_back, saying_out}
use Rattle.c_records.specs.declared.LoaderNumbers.{LoaderNumbers}
use Rattle.c_records.specs.declared.ResponseNumbers.{ResponseNumbers}

-- whether the part that a loader's numbers name is in word mode
abbrev pub word_in : LoaderNumbers → Bool
word_in l = (loader_in l).part.word

-- a loader's step: what it says and the record, and scratch
unfoldable pub stepped_of : LoaderNumbers → ℕ → List ℕ → List ℕ → ResponseNumbers
stepped_of l v w sc =
    let g : Response = step_response (loader_in l) v (lent (word_in l) w) (lent (word_in l) sc) in
    record { turn = saying_out g.saying; loader = loader_back l g.loader }

-- .. what it leaves in scratch
unfoldable pub scratch_stepped : LoaderNumbers → ℕ → List ℕ → List ℕ → List ℕ
scratch_stepped l v w sc = scratch_left (loader_in l) v w sc

-- a loader's start, of a load with or without the verify after it, or of a verify alone: what it says and the record
unfoldable pub started_of : Work → ℕ → ℕ → ℕ → ℕ → ℕ → ℕ → List ℕ → List ℕ → ResponseNumbers
started_of work part word rp wp vpp k w sc =
    let g : Response = start_response work (part_in part word) (pins_in rp wp vpp) k (lent (eqb word 1) w) (lent (eqb word 1) sc) in
    record { turn = saying_out g.saying; loader = loader_out g.loader }
