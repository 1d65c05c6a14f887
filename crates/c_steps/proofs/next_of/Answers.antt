-- `c_steps::next_of` meets its contract.
use mathlib.Core.Path.{◌≡◌, sym, ap, ◌∙◌, subst}
use native.Mathlib.Omega.{arith}
use Rattle.common.proofs.Choice.{unlike}
use Rattle.c_steps.specs.declared.Next.{Next}
use Rattle.c_steps.specs.Inner.{GoesOn}
use Rattle.c_steps.proofs.Stages.{led_0, led_1, led_3, led_4, led_5, led_6, led_7, led_8, led_9, kept_0, kept_1, kept_3, kept_4, kept_5, kept_6, kept_7, kept_8, kept_9}
use Rattle.c_steps.proofs.next_of.Goals as goal

pub returns-in-0 : goal.returns-in-0
returns-in-0 c =
    let a = c.args in
    let e : a.n.stage ≡ 0 = c.in-0.is in
    let g = c.commands.ensures in record { led = (λ q w. subst (λ (x : Next). GoesOn a.n a.v w x) (sym g) (led_0 a.n a.v e w)); kept = (λ q w sc. kept_0 a.n a.v e w sc); near = (let p : c.commands.result.place ≡ 0 = ap (λ (x : Next). x.place) g in omega (arith, p)) }

pub returns-in-1 : goal.returns-in-1
returns-in-1 c =
    let a = c.args in
    let e : a.n.stage ≡ 1 = c.in-1.is in
    let g = c.reads.ensures in record { led = (λ q w. subst (λ (x : Next). GoesOn a.n a.v w x) (sym g) (led_1 a.n a.v e w)); kept = (λ q w sc. kept_1 a.n a.v e w sc); near = (let p : c.reads.result.place ≡ 0 = ap (λ (x : Next). x.place) g in omega (arith, p)) }

pub returns-in-3 : goal.returns-in-3
returns-in-3 c =
    let a = c.args in
    let e : a.n.stage ≡ 3 = c.in-3.is in
    let g = c.commands-in-3.ensures in record { led = (λ q w. subst (λ (x : Next). GoesOn a.n a.v w x) (sym g) (led_3 a.n a.v e w)); kept = (λ q w sc. kept_3 a.n a.v e w sc); near = (let p : c.commands-in-3.result.place ≡ 0 = ap (λ (x : Next). x.place) g in omega (arith, p)) }

pub returns-in-4 : goal.returns-in-4
returns-in-4 c =
    let a = c.args in
    let e : a.n.stage ≡ 4 = c.in-4.is in
    let g = c.reads-in-4.ensures in record { led = (λ q w. subst (λ (x : Next). GoesOn a.n a.v w x) (sym g) (led_4 a.n a.v e w)); kept = (λ q w sc. kept_4 a.n a.v e w sc); near = (let p : c.reads-in-4.result.place ≡ 0 = ap (λ (x : Next). x.place) g in omega (arith, p)) }

pub returns-in-5 : goal.returns-in-5
returns-in-5 c =
    let a = c.args in
    let r = c.polled in
    let e : a.n.stage ≡ 5 = c.in-5.is in record { led = (λ q w. let g = r.ensures.led q in subst (λ (x : Next). GoesOn a.n a.v w x) (sym g.0) (led_5 a.n a.v g.1 g.2 e w)); kept = (λ q w sc. kept_5 a.n a.v (r.ensures.led q).1 e w sc); near = r.ensures.near }

pub returns-in-6 : goal.returns-in-6
returns-in-6 c =
    let a = c.args in
    let e : a.n.stage ≡ 6 = c.in-6.is in
    let g = c.sends.ensures in record { led = (λ q w. subst (λ (x : Next). GoesOn a.n a.v w x) (sym g) (led_6 a.n a.v e w)); kept = (λ q w sc. kept_6 a.n a.v e w sc); near = (let p : c.sends.result.place ≡ a.n.place = ap (λ (x : Next). x.place) g in omega (arith, p)) }

pub returns-in-7 : goal.returns-in-7
returns-in-7 c =
    let a = c.args in
    let e : a.n.stage ≡ 7 = c.in-7.is in
    let g = c.reads-in-7.ensures in record { led = (λ q w. subst (λ (x : Next). GoesOn a.n a.v w x) (sym g) (led_7 a.n a.v e w)); kept = (λ q w sc. kept_7 a.n a.v e w sc); near = (let p : c.reads-in-7.result.place ≡ a.n.place = ap (λ (x : Next). x.place) g in omega (arith, p)) }

pub returns-in-8 : goal.returns-in-8
returns-in-8 c =
    let a = c.args in
    let r = c.polled-in-8 in
    let e : a.n.stage ≡ 8 = c.in-8.is in record { led = (λ q w. let g = r.ensures.led q in subst (λ (x : Next). GoesOn a.n a.v w x) (sym g.0) (led_8 a.n a.v g.1 g.2 e w)); kept = (λ q w sc. kept_8 a.n a.v (r.ensures.led q).1 e w sc); near = r.ensures.near }

pub returns-in-9 : goal.returns-in-9
returns-in-9 c =
    let a = c.args in
    let e : a.n.stage ≡ 9 = c.in-9.is in
    let g = c.reads-in-9.ensures in record { led = (λ q w. subst (λ (x : Next). GoesOn a.n a.v w x) (sym g) (led_9 a.n a.v e w)); kept = (λ q w sc. kept_9 a.n a.v e w sc); near = (let p : c.reads-in-9.result.place ≡ 0 = ap (λ (x : Next). x.place) g in omega (arith, p)) }

pub returns-in_default : goal.returns-in_default
returns-in_default c = record { led = (λ q w. absurd (unlike (sym q ∙ c.elsewhere.ensures.0))); kept = (λ q w sc. absurd (unlike (sym q ∙ c.elsewhere.ensures.0))); near = omega (arith, c.elsewhere.ensures.1) }
