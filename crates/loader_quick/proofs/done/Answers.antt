-- `loader_quick::done` meets its contract.
use mathlib.Core.Path.{ap}
use Rattle.loader_quick.specs.declared.Made.{Made}
use Rattle.loader_quick.proofs.Runs.{placed, load_so, verify_so}
use Rattle.loader_quick.proofs.done.Goals as goal

pub load_by-m-requires : goal.load_by-m-requires
load_by-m-requires c =
    let a = c.args in
    placed a.j a.array.now a.wanted.now a.scratch.now c.requires

pub verified-requires : goal.verified-requires
verified-requires c =
    let a = c.args in
    placed a.j a.array.now a.wanted.now a.scratch.now c.requires

pub returns-in-Load : goal.returns-in-Load
returns-in-Load c =
    let a = c.args in
    let f = c.load_by-m in
    let both = load_so a.j a.array.now a.wanted.now a.scratch.now c.requires _ c.in-Load.is f.ensures.timed
    (λ i. (c.shared_slice_known-1.given i).fits) (λ i. (c.slice_known-1.given i).fits) f.result.ran f.new.array f.new.scratch
    f.auto.array (λ i. (c.slice_known-in-Load-1.given i).fits) f.auto.scratch (λ i. (c.slice_known-in-Load-2-1.given i).fits) (ap (λ (m : Made). m.ran) f.ensures.result) f.ensures.array_left f.ensures.scratch_left in record { result = both.0; array_left = both.1.0; scratch_left = both.1.1 }

pub returns-in-Verify : goal.returns-in-Verify
returns-in-Verify c =
    let a = c.args in
    let f = c.verified in
    let both = verify_so a.j a.array.now a.wanted.now a.scratch.now c.requires c.in-Verify.is (λ i. (c.slice_known-1.given i).fits)
    f.result f.new.scratch f.auto.scratch (λ i. (c.slice_known-in-Verify-1.given i).fits) f.ensures.result f.ensures.scratch_left in record { result = both.0; array_left = both.1.0; scratch_left = both.1.1 }
