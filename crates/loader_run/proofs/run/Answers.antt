-- `loader_run::run` meets its contract, by the laws of lent bytes.
use mathlib.Core.Path.{◌≡◌, sym, ap, ◌∙◌}
use lib.ListN.{length}
use Rattle.loader_run.specs.Runs.{RunLeft, lent_number}
use Rattle.loader_run.proofs.Lending.{number_lent, units_number, lent_refused, ran_so, array_so, scratch_so}
use Rattle.loader_run.proofs.run.Goals as goal

pub drive-requires : goal.drive-requires
drive-requires c =
    let a = c.args in
    let n = number_lent a.j a.array.now a.wanted.now a.scratch.now _ _ _ _ c.run_number-n.ensures c.lent_in.ensures c.lent_in-2.ensures c.lent_in-3.ensures in
    units_number a.j a.array.now a.wanted.now a.scratch.now (sym n ∙ c.if-n-eq0.true)

pub returns-then-n-eq0 : goal.returns-then-n-eq0
returns-then-n-eq0 c =
    let a = c.args in
    let m = c.drive in
    let n = number_lent a.j a.array.now a.wanted.now a.scratch.now _ _ _ _ c.run_number-n.ensures c.lent_in.ensures c.lent_in-2.ensures c.lent_in-3.ensures in
    let z = sym n ∙ c.if-n-eq0.true in record { result = ran_so a.j a.array.now a.wanted.now a.scratch.now z _ m.ensures.result; array_left = array_so a.j a.array.now a.wanted.now a.scratch.now z m.new.array m.auto.array (λ i. (c.slice_known-then-n-eq0-2-1.given i).fits) m.ensures.array_left; scratch_left = scratch_so a.j a.array.now a.wanted.now a.scratch.now z m.new.scratch m.auto.scratch (λ i. (c.slice_known-then-n-eq0-1.given i).fits) m.ensures.scratch_left }

pub returns : goal.returns
returns c =
    let a = c.args in
    let e : c.run_number-n.result ≡ lent_number a.j (length a.array.now) (length a.wanted.now) (length a.scratch.now) = number_lent a.j a.array.now a.wanted.now a.scratch.now _ _ _ _ c.run_number-n.ensures c.lent_in.ensures c.lent_in-2.ensures c.lent_in-3.ensures in
    let m = lent_refused a.j a.array.now a.wanted.now a.scratch.now (λ q. c.if-n-eq0.false (e ∙ q)) in record { result = (λ i. record { count = 0; end = e i; address = 0; state = a.j.state }) ∙ sym (ap (λ (r : RunLeft). r.ran) m); array_left = sym (ap (λ (r : RunLeft). r.bytes) m); scratch_left = sym (ap (λ (r : RunLeft). r.scratch) m) }
