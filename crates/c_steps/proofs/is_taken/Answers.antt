-- `c_steps::is_taken` meets its contract.
use mathlib.Core.Path.{◌≡◌, sym, ap, ◌∙◌}
use mathlib.Core.Bool.{Bool, true, false}
use native.Mathlib.Omega.{arith}
use lib.Dec.{eqb}
use borrow.Author.Tests.{eqb-true}
use Rattle.common.proofs.Choice.{unlike}
use Rattle.device.specs.declared.Span.{Span}
use Rattle.device.specs.declared.Part.{Part}
use Rattle.units.specs.Units.{bytes_in}
use Rattle.loader_steps.proofs.SmallAddresses.{length_small}
use Rattle.c_steps.proofs.Taking.{takes}
use Rattle.c_steps.proofs.is_taken.Goals as goal

pub returns-then-span-l : goal.returns-then-span-l
returns-then-span-l c = λ e. absurd (unlike (sym e))

pub bytes_of-n-requires : goal.bytes_of-n-requires
bytes_of-n-requires c =
    let a = c.args in
    let p : Part = record { number = a.l.part; word = eqb a.l.word 1 } in
    omega (arith, ap (λ (s : Span). s.length) c.requires.1, length_small p a.l.block)

pub returns-then-wanted-n : goal.returns-then-wanted-n
returns-then-wanted-n c = λ e. absurd (unlike (sym e))

pub returns-then-has_levels : goal.returns-then-has_levels
returns-then-has_levels c =
    λ e.
    let a = c.args in
    let p = c.requires in
    let f = c.is_record.ensures c.if-is_record.true in
    let known : Part = record { number = a.l.part; word = eqb a.l.word 1 } in
    let x : a.wanted ≡ c.bytes_of-n.result = (let u = c.if-wanted-n.false in omega (arith, u)) in
    let b : c.bytes_of-n.result ≡ bytes_in (eqb a.l.word 1) a.span.length = c.bytes_of-n.ensures ∙ ap (λ (w : Bool). bytes_in w a.span.length) p.0 in
    takes a.l a.span a.wanted a.scratch f.0 f.1 f.2 f.3 f.4 f.5 f.6 p.1 (omega (arith, c.if-span-l.false)) (c.has_levels.ensures c.if-has_levels.true known) (x ∙ b) (eqb-true _ _ e ∙ b)

pub returns-then-is_record : goal.returns-then-is_record
returns-then-is_record c = λ e. absurd (unlike (sym e))

pub returns : goal.returns
returns c = λ e. absurd (unlike (sym e))
