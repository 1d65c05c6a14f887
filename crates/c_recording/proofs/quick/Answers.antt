-- `c_recording::quick` meets its contract.
use mathlib.Core.Path.{refl, sym, subst, ◌∙◌}
use native.Mathlib.Omega.{arith}
use Prim.Native.Nat.{ℕ}
use borrow.Author.Tests.{ne_eqb}
use Rattle.common.proofs.Choice.{unlike}
use Rattle.c_recording.specs.Known.{Passes}
use Rattle.c_recording.proofs.quick.Goals as goal

pub returns-then-units-r : goal.returns-then-units-r
returns-then-units-r c = record { told = λ e. absurd (unlike (sym e ∙ c.unknown.ensures)); array_left = λ z. refl }

pub returns-then-r-eq0 : goal.returns-then-r-eq0
returns-then-r-eq0 c = record { told = λ e. absurd (unlike (sym e ∙ c.unknown-then-r-eq0.ensures)); array_left = λ z. refl }

pub returns-then-rest-eq0 : goal.returns-then-rest-eq0
returns-then-rest-eq0 c = let l = c.if-units-r.false in
    let a = c.args in
    let q = c.at_rest in
    record { told = λ e s. subst (λ (z : ℕ). Passes a.d a.r a.array.now a.key z q.result.key q.result.rest a.array.now) (sym c.if-rest-eq0.true) (q.ensures e (record { level = sym c.is_fair_level.ensures ∙ c.if-is_fair_level.true; up = ne_eqb a.r.bus.rp 0 c.if-r-eq0.false; timed = (s (omega (arith, l))).1; inside = (let b = (s (omega (arith, l))).0 in omega (arith, l, b)); bytes = λ j. (c.slice_known-1.given j).fits })); array_left = λ z. refl }

pub returns-then-key-eq23 : goal.returns-then-key-eq23
returns-then-key-eq23 c = let l = c.if-units-r.false in
    record { told = λ e s. c.held.ensures e (record { level = sym c.is_fair_level.ensures ∙ c.if-is_fair_level.true; up = ne_eqb c.args.r.bus.rp 0 c.if-r-eq0.false; timed = (s (omega (arith, l))).1; inside = (let b = (s (omega (arith, l))).0 in omega (arith, l, b)); bytes = λ j. (c.slice_known-1.given j).fits }) s; array_left = λ z. refl }

pub returns-then-key-eq16 : goal.returns-then-key-eq16
returns-then-key-eq16 c = let l = c.if-units-r.false in
    record { told = λ e s. c.erasing.ensures e c.args.array.now (record { level = sym c.is_fair_level.ensures ∙ c.if-is_fair_level.true; up = ne_eqb c.args.r.bus.rp 0 c.if-r-eq0.false; timed = (s (omega (arith, l))).1; inside = (let b = (s (omega (arith, l))).0 in omega (arith, l, b)); bytes = λ j. (c.slice_known-1.given j).fits }) s; array_left = λ z. refl }

pub returns-then-is_fair_level : goal.returns-then-is_fair_level
returns-then-is_fair_level c = let l = c.if-units-r.false in
    record { told = λ e s. c.running.ensures.told e (record { level = sym c.is_fair_level.ensures ∙ c.if-is_fair_level.true; up = ne_eqb c.args.r.bus.rp 0 c.if-r-eq0.false; timed = (s (omega (arith, l))).1; inside = (let b = (s (omega (arith, l))).0 in omega (arith, l, b)); bytes = λ j. (c.slice_known-1.given j).fits }) s; array_left = c.running.ensures.array_left }

pub returns : goal.returns
returns c = record { told = λ e. absurd (unlike (sym e ∙ c.unknown-2.ensures)); array_left = λ z. refl }
