-- `c_steps::ask_next` meets its contract.
use mathlib.Core.Path.{◌≡◌, sym, ap, ◌∙◌, subst}
use mathlib.Core.Bool.{true, false}
use mathlib.Core.List.{List}
use Prim.Native.Nat.{ℕ, ◌+◌, ◌-◌, ◌%◌, ◌<◌}
use native.Mathlib.Omega.{arith}
use lib.ListN.{length}
use Rattle.common.proofs.Choice.{unlike}
use Rattle.units.specs.Units.{units}
use Rattle.loader_walk.specs.Walks.{diff_from}
use Rattle.loader_stores.specs.Stores.{program_stored}
use Rattle.c_steps.specs.declared.Next.{Next}
use Rattle.c_steps.specs.Inner.{GoesTo}
use Rattle.c_steps.proofs.Stages.{stored_ready, led_ready}
use Rattle.c_steps.proofs.ask_next.Goals as goal

pub returns-then-l-ne8 : goal.returns-then-l-ne8
returns-then-l-ne8 c = record { led = (λ e. absurd (unlike (sym e ∙ c.elsewhere.ensures.0))); stored = (λ e w sc. absurd (unlike (sym e ∙ c.elsewhere.ensures.0))); near = (λ e. absurd (unlike (sym e ∙ c.elsewhere.ensures.0))) }

pub returns-then-v-ne128 : goal.returns-then-v-ne128
returns-then-v-ne128 c = record { led = (λ e. absurd (unlike (sym e ∙ c.elsewhere-then-v-ne128.ensures.0))); stored = (λ e w sc. absurd (unlike (sym e ∙ c.elsewhere-then-v-ne128.ensures.0))); near = (λ e. absurd (unlike (sym e ∙ c.elsewhere-then-v-ne128.ensures.0))) }

pub returns-then-n-i : goal.returns-then-n-i
returns-then-n-i c = record { led = (λ e. absurd (unlike (sym e ∙ c.elsewhere-then-n-i.ensures.0))); stored = (λ e w sc. absurd (unlike (sym e ∙ c.elsewhere-then-n-i.ensures.0))); near = (λ e. absurd (unlike (sym e ∙ c.elsewhere-then-n-i.ensures.0))) }

pub returns-then-at-n : goal.returns-then-at-n
returns-then-at-n c =
    let a = c.args in
    let p = c.requires in
    let W : List ℕ = units a.word a.wanted.now in
    let S : List ℕ = units a.word a.scratch.now in
    let e : a.l.stage ≡ 8 = (let u = c.if-l-ne8.false in omega (arith, u)) in
    let q : a.v % 256 ≡ 128 = (let u = c.if-v-ne128.false in omega (arith, u)) in
    let i : a.l.place < length W = omega (arith, c.if-n-i.false, p.1, p.2) in
    let d : c.diff_from-at.result ≡ diff_from (a.l.place + 1) W S = c.diff_from-at.ensures in
    let s : c.diff_from-at.result < length W = omega (arith, c.if-at-n.true, p.1) in
    let g = c.asks.ensures in record { led = (λ k. subst (λ (x : Next). GoesTo a.l a.v W (program_stored a.l.place 128 W S) x) (sym g) (led_ready a.l a.v e q W S c.diff_from-at.result d i s)); stored = (λ k us sc. stored_ready a.l a.v e q us sc); near = (λ k. let z : c.asks.result.place ≡ c.diff_from-at.result = ap (λ (x : Next). x.place) g in omega (arith, z, c.if-at-n.true)) }

pub returns : goal.returns
returns c = record { led = (λ e. absurd (unlike (sym e ∙ c.elsewhere-2.ensures.0))); stored = (λ e w sc. absurd (unlike (sym e ∙ c.elsewhere-2.ensures.0))); near = (λ e. absurd (unlike (sym e ∙ c.elsewhere-2.ensures.0))) }
