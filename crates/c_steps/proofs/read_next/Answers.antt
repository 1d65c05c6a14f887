-- `c_steps::read_next` meets its contract.
use mathlib.Core.Path.{◌≡◌, sym, ap, ◌∙◌, subst}
use mathlib.Core.Bool.{Bool, true, false}
use mathlib.Core.List.{List}
use Prim.Native.Nat.{ℕ, ◌+◌, ◌-◌, ◌<◌}
use native.Mathlib.Omega.{arith}
use lib.ListN.{length, get_or, set}
use Rattle.common.proofs.Choice.{unlike}
use Rattle.units.specs.Units.{units, carried}
use Rattle.c_records.specs.Records.{loader_in}
use Rattle.c_steps.specs.declared.Next.{Next}
use Rattle.c_steps.specs.Inner.{GoesOn}
use Rattle.c_steps.proofs.Stages.{led_2, led_10, stored_2, stored_10}
use Rattle.c_steps.proofs.read_next.Goals as goal

pub returns-then-n-i : goal.returns-then-n-i
returns-then-n-i c = record { led = (λ e. absurd (unlike (sym e ∙ c.elsewhere.ensures.0))); stored = (λ e w sc. absurd (unlike (sym e ∙ c.elsewhere.ensures.0))); near = (λ e. absurd (unlike (sym e ∙ c.elsewhere.ensures.0))) }

pub returns-then-l-eq2 : goal.returns-then-l-eq2
returns-then-l-eq2 c =
    let a = c.args in
    let p = c.requires in
    let w = a.word in
    let W : List ℕ = units w a.wanted.now in
    let e : a.l.stage ≡ 2 = c.if-l-eq2.true in
    let h : a.l.place < length W - 1 = omega (arith, c.if-n-i.false, p.1) in
    let g = c.reads.ensures in record { led = (λ q. subst (λ (x : Next). GoesOn a.l a.v W x) (sym g) (led_2 a.l a.v W h e)); stored = (λ q us sc. stored_2 a.l a.v e us sc ∙ ap (λ (b : Bool). set sc a.l.place (carried b a.v)) (sym p.0)); near = (λ q. let k : c.reads.result.place ≡ a.l.place + 1 = ap (λ (x : Next). x.place) g in omega (arith, k, h, p.1)) }

pub returns-then-l-ne10 : goal.returns-then-l-ne10
returns-then-l-ne10 c = record { led = (λ e. absurd (unlike (sym e ∙ c.elsewhere-then-l-ne10.ensures.0))); stored = (λ e w sc. absurd (unlike (sym e ∙ c.elsewhere-then-l-ne10.ensures.0))); near = (λ e. absurd (unlike (sym e ∙ c.elsewhere-then-l-ne10.ensures.0))) }

pub returns-then-carry-get_unit : goal.returns-then-carry-get_unit
returns-then-carry-get_unit c =
    let a = c.args in
    let p = c.requires in
    let w = a.word in
    let W : List ℕ = units w a.wanted.now in
    let e : a.l.stage ≡ 10 = (let u = c.if-l-ne10.false in omega (arith, u)) in
    let h : a.l.place < length W - 1 = omega (arith, c.if-n-i.false, p.1) in
    let same : carried (loader_in a.l).part.word a.v ≡ get_or W a.l.place 0 = ap (λ (b : Bool). carried b a.v) (sym p.0) ∙ sym c.carry.ensures ∙ c.if-carry-get_unit.true ∙ c.get_unit.ensures.0 in
    let g = c.reads-then-carry-get_unit.ensures in record { led = (λ q. subst (λ (x : Next). GoesOn a.l a.v W x) (sym g) (led_10 a.l a.v W h e same)); stored = (λ q us sc. stored_10 a.l a.v e us sc ∙ ap (λ (b : Bool). set sc a.l.place (carried b a.v)) (sym p.0)); near = (λ q. let k : c.reads-then-carry-get_unit.result.place ≡ a.l.place + 1 = ap (λ (x : Next). x.place) g in omega (arith, k, h, p.1)) }

pub returns : goal.returns
returns c = record { led = (λ e. absurd (unlike (sym e ∙ c.elsewhere-2.ensures.0))); stored = (λ e w sc. absurd (unlike (sym e ∙ c.elsewhere-2.ensures.0))); near = (λ e. absurd (unlike (sym e ∙ c.elsewhere-2.ensures.0))) }
