-- `c_functions::tb_cycle` meets its contract.
use mathlib.Core.Path.{refl, sym, ◌∙◌}
use native.Mathlib.Omega.{arith}
use borrow.Author.Tests.{eq-eqb, ne_eqb}
use lib.ListN.{length}
use lib.Dec.{leb}
use Rattle.c_ordinary.specs.Ordinary.{Ordinary, rested_as}
use Rattle.c_ordinary.proofs.Sufficient.{fair_in_lem, resting_is}
use Rattle.c_ordinary.proofs.Rest.{array_answer, status_answer, reads_array, reads_status, unwritten, command_told, known_kind}
use Rattle.c_operations.proofs.Cutting.{resets_rest}
use Rattle.c_functions.proofs.tb_cycle.Goals as goal

pub returns-then-bus-lt3 : goal.returns-then-bus-lt3
returns-then-bus-lt3 c = let a = c.args in
    let r = resting_is a.state (sym c.is_resting.ensures ∙ c.if-is_resting.true) in
    let k = c.if-bus-lt3.true in
    let f = fair_in_lem a.device a.bus _ (sym c.is_fair.ensures ∙ c.if-is_fair.true) (omega (arith, k)) in
    let t = resets_rest a.device a.state a.bus a.array.now a.residue.now f r (eq-eqb a.bus.rp 0 c.if-bus-eq0.true) in
    record { result = c.rested.ensures ∙ t.0; array_left = t.1 a.array.now (λ i. (c.slice_known-1.given i).fits) (λ i. (c.slice_known-1.given i).fits) refl refl refl }

pub returns-then-state-eq0 : goal.returns-then-state-eq0
returns-then-state-eq0 c = let a = c.args in
    let xs = a.array.now in
    let rs = a.residue.now in
    let r = resting_is a.state (sym c.is_resting.ensures ∙ c.if-is_resting.true) in
    let k = c.if-bus-eq0-2.true in
    let f = fair_in_lem a.device a.bus _ (sym c.is_fair.ensures ∙ c.if-is_fair.true) (omega (arith, k)) in
    let o : Ordinary a.device a.bus (length xs) = record { fair = f; up = ne_eqb a.bus.rp 0 c.if-bus-eq0.false } in
    let m = c.if-state-eq0.true in
    record { result = c.rested-then-state-eq0.ensures ∙ array_answer a.device a.state a.bus xs rs o r k m _ c.get_unit-unit.ensures.0; array_left = unwritten a.device a.state a.bus xs rs o r _ _ (reads_array a.device a.state a.bus xs rs o r k m) (λ i. (c.slice_known-1.given i).fits) }

pub returns-then-state-eq1 : goal.returns-then-state-eq1
returns-then-state-eq1 c = let a = c.args in
    let xs = a.array.now in
    let rs = a.residue.now in
    let r = resting_is a.state (sym c.is_resting.ensures ∙ c.if-is_resting.true) in
    let k = c.if-bus-eq0-2.true in
    let f = fair_in_lem a.device a.bus _ (sym c.is_fair.ensures ∙ c.if-is_fair.true) (omega (arith, k)) in
    let o : Ordinary a.device a.bus (length xs) = record { fair = f; up = ne_eqb a.bus.rp 0 c.if-bus-eq0.false } in
    let m = c.if-state-eq1.true in
    record { result = c.rested-then-state-eq1.ensures ∙ (λ i. rested_as a.state 1 c.wide.result (sym m i) a.state.status 0) ∙ status_answer a.device a.state a.bus xs rs o r k m _ c.wide.ensures.0; array_left = unwritten a.device a.state a.bus xs rs o r _ _ (reads_status a.device a.state a.bus xs rs o r k m) (λ i. (c.slice_known-1.given i).fits) }

pub returns-then-set : goal.returns-then-set
returns-then-set c = let a = c.args in
    let xs = a.array.now in
    let rs = a.residue.now in
    let r = resting_is a.state (sym c.is_resting.ensures ∙ c.if-is_resting.true) in
    let q = c.command_by-set in
    let k = known_kind (leb 5 a.device.number) a.bus.kind _ a.state.mode a.state.status q.result q.ensures c.if-set.true in
    let o : Ordinary a.device a.bus (length xs) = record { fair = fair_in_lem a.device a.bus _ (sym c.is_fair.ensures ∙ c.if-is_fair.true) k; up = ne_eqb a.bus.rp 0 c.if-bus-eq0.false } in
    let t = command_told a.device a.state a.bus xs rs o r q.result q.ensures c.if-set.true in
    record { result = c.rested-then-set.ensures ∙ t.0; array_left = t.1 (λ i. (c.slice_known-1.given i).fits) }
