-- `loader_quick::verdict` meets its contract.
use mathlib.Core.Path.{◌≡◌, sym, ◌∙◌}
use Prim.Native.Nat.{◌+◌, ◌%◌}
use native.Mathlib.Omega.{arith}
use lib.Dec.{eqb, ltb}
use borrow.Author.Tests.{lt-ltb, le-ltb}
use Rattle.common.proofs.Choice.{if_true, if_false}
use Rattle.units.specs.Address.{byte_at}
use Rattle.units.proofs.Widths.{byte_at_most}
use Rattle.loader_quick.specs.Quick.{verdict_of}
use Rattle.loader_quick.proofs.verdict.Goals as goal

pub overflow_cast-result : goal.overflow_cast-result
overflow_cast-result c =
    let a = c.args in
    let m = byte_at_most a.word (a.a + a.m) (eqb c.low.result c.low-then-m-n.result) in
    record { fits = omega (arith, c.byte_at-at.ensures, m, c.requires.0, c.requires.1, c.if-m-n.true) }

pub returns-then-m-n : goal.returns-then-m-n
unfolding verdict_of
returns-then-m-n c =
    let a = c.args in
    let x : c.byte_at-at.result ≡ byte_at a.word (a.a + a.m) (eqb (a.held % 256) (a.wanted % 256)) = c.byte_at-at.ensures ∙ (λ i. byte_at a.word (a.a + a.m) (eqb (c.low.ensures i) (c.low-then-m-n.ensures i))) in
    (λ i. record { count = a.m + 2; end = 25; address = x i; state = c.at_rest-state.ensures i }) ∙ sym (if_true (ltb a.m a.n) _ _ (lt-ltb _ _ c.if-m-n.true))

pub returns : goal.returns
unfolding verdict_of
returns c =
    let a = c.args in
    (λ i. record { count = a.n + 1; end = 0; address = 0; state = c.at_rest-state.ensures i }) ∙ sym (if_false (ltb a.m a.n) _ _ (le-ltb _ _ c.if-m-n.false))
