use borrow.Author.Tests.{eq-eqb, ne_eqb}
use mathlib.Core.Path.{◌≡◌, refl, sym, ap, ◌∙◌}
use mathlib.Core.Bool.{false, not}
use mathlib.Core.List.{List, [], ◌∷◌}
use Prim.Native.Nat.{ℕ}
use lib.Dec.{eqb}
use Rattle.std.specs.Prelude.{if◌then◌else◌}
use Rattle.common.specs.Numbers.{Row, row, given}
use Rattle.common.proofs.Choice.{if_true, if_false}
use Rattle.common.proofs.Numbers.{given_append}
use Rattle.device.specs.Parts.{unknown_device, size_of}
use Rattle.model_types.specs.Phases.{under_way}
use Rattle.model_states.specs.States.{improper}
use Rattle.loader_steps.specs.Front.{setup_rows, setup_number}
use Rattle.loader_run.specs.Runs.{run_number, run_first}
use Rattle.loader_run.specs.declared.Job.{Job}
use Rattle.loader_run.proofs.run_number.Goals as goal

-- past refusals 1 to 3 the number is that of levels, block and lengths, and then 12
past : (j : Job) (array w sc n : ℕ) → unknown_device j.device ≡ false → not (eqb array (size_of j.device.part)) ≡ false → improper j.device j.state ≡ false
    → n ≡ setup_number j.device.part j.pins j.block w sc → run_number j array w sc ≡ (if eqb n 0 then (if under_way j.state.phase then 12 else 0) else n)
unfolding run_first setup_number
past j array w sc n known sized proper q =
    let rest : List Row = row 12 (under_way j.state.phase) ∷ [] in
    simp (known, sized, proper) (given_append (setup_rows j.device.part j.pins j.block w sc) rest refl ∙ ap (λ (m : ℕ). if eqb m 0 then given rest else m) (sym q))

pub returns-then-unknown_device : goal.returns-then-unknown_device
unfolding run_first
returns-then-unknown_device c = simp (sym c.unknown_device.ensures ∙ c.if-unknown_device.true)

pub returns-then-wrong_array : goal.returns-then-wrong_array
unfolding run_first
returns-then-wrong_array c = simp (sym c.wrong_array.ensures ∙ c.if-wrong_array.true, sym c.unknown_device.ensures ∙ c.if-unknown_device.false)

pub returns-then-improper : goal.returns-then-improper
unfolding run_first
returns-then-improper c = simp (sym c.improper.ensures ∙ c.if-improper.true, sym c.wrong_array.ensures ∙ c.if-wrong_array.false, sym c.unknown_device.ensures ∙ c.if-unknown_device.false)

pub returns-then-n-ne0 : goal.returns-then-n-ne0
returns-then-n-ne0 c =
    let a = c.args in
    let n = c.setup_number-n.result in
    sym
    (past a.j a.array a.wanted a.scratch n (sym c.unknown_device.ensures ∙ c.if-unknown_device.false) (sym c.wrong_array.ensures ∙ c.if-wrong_array.false) (sym c.improper.ensures ∙ c.if-improper.false) c.setup_number-n.ensures
    ∙ if_false (eqb n 0) (if under_way a.j.state.phase then 12 else 0) n (ne_eqb n 0 c.if-n-ne0.true))

pub returns-then-under_way : goal.returns-then-under_way
returns-then-under_way c =
    let a = c.args in
    let n = c.setup_number-n.result in
    sym
    (past a.j a.array a.wanted a.scratch n (sym c.unknown_device.ensures ∙ c.if-unknown_device.false) (sym c.wrong_array.ensures ∙ c.if-wrong_array.false) (sym c.improper.ensures ∙ c.if-improper.false) c.setup_number-n.ensures
    ∙ if_true (eqb n 0) (if under_way a.j.state.phase then 12 else 0) n (eq-eqb n 0 c.if-n-ne0.false) ∙ if_true (under_way a.j.state.phase) 12 0 (sym c.under_way.ensures ∙ c.if-under_way.true))

pub returns : goal.returns
returns c =
    let a = c.args in
    let n = c.setup_number-n.result in
    sym
    (past a.j a.array a.wanted a.scratch n (sym c.unknown_device.ensures ∙ c.if-unknown_device.false) (sym c.wrong_array.ensures ∙ c.if-wrong_array.false) (sym c.improper.ensures ∙ c.if-improper.false) c.setup_number-n.ensures
    ∙ if_true (eqb n 0) (if under_way a.j.state.phase then 12 else 0) n (eq-eqb n 0 c.if-n-ne0.false) ∙ if_false (under_way a.j.state.phase) 12 0 (sym c.under_way.ensures ∙ c.if-under_way.false))
