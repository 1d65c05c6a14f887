-- `c_steps::started` meets its contract.
use mathlib.Core.Path.{sym, ap, ◌∙◌, subst}
use native.Mathlib.Omega.{arith}
use lib.ListN.{length}
use lib.Dec.{eqb}
use Rattle.device.specs.Inner.{span_of}
use Rattle.loader_steps.proofs.SmallAddresses.{start_small}
use Rattle.c_cycle.specs.Values.{part_in}
use Rattle.c_records.specs.declared.LoaderNumbers.{LoaderNumbers}
use Rattle.c_steps.specs.Inner.{Takes}
use Rattle.c_steps.proofs.Starting.{begins}
use Rattle.c_steps.proofs.started.Goals as goal

pub is_taken-requires : goal.is_taken-requires
is_taken-requires c =
    let e = c.first_record-l.ensures in
    (ap (λ (x : LoaderNumbers). eqb x.word 1) (sym e), c.block_span-span.ensures ∙ ap (λ (x : LoaderNumbers). span_of (record { number = x.part; word = eqb x.word 1 }) x.block) (sym e))

pub first_turn-requires : goal.first_turn-requires
first_turn-requires c =
    let a = c.args in
    let s = c.block_span-span.result in
    let e = c.first_record-l.ensures in
    let T = subst (λ (x : LoaderNumbers). Takes x s (length a.wanted.now) (length a.scratch.now)) e (c.is_taken.ensures c.if-is_taken.true) in
    omega (arith, T.first, start_small (part_in a.part a.word) a.block)

pub returns-then-is_taken : goal.returns-then-is_taken
returns-then-is_taken c =
    let a = c.args in
    let s = c.block_span-span.result in
    let e = c.first_record-l.ensures in
    let T = subst (λ (x : LoaderNumbers). Takes x s (length a.wanted.now) (length a.scratch.now)) e (c.is_taken.ensures c.if-is_taken.true) in
    (λ i. record { turn = c.first_turn.ensures i; loader = e i }) ∙ begins a.work a.part a.word a.rp a.wp a.vpp a.block a.wanted.now a.scratch.now s T
