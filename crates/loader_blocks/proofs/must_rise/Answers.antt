-- `loader_blocks::must_rise` meets its contract.
use mathlib.Core.Path.{◌≡◌, sym, ◌∙◌}
use mathlib.Core.Bool.{true}
use lib.ListN.{length}
use Rattle.loader_blocks.specs.Blocks.{alike}
use Rattle.loader_blocks.proofs.Bytewise.{rises_units}
use Rattle.loader_blocks.proofs.Lent.{held_long, whole, rises_is, none_rises}
use Rattle.loader_blocks.proofs.must_rise.Goals as goal

pub rises-requires : goal.rises-requires
rises-requires c =
    let a = c.args in
    let e : alike a.word (length a.held.now) (length a.wanted.now) (length a.wanted.now) ≡ true = sym c.are_alike.ensures ∙ c.if-are_alike.true in
    held_long a.word a.held.now a.wanted.now a.wanted.now e

pub returns-then-are_alike : goal.returns-then-are_alike
returns-then-are_alike c =
    let a = c.args in
    let h = a.held.now in
    let w = a.wanted.now in
    let e : alike a.word (length h) (length w) (length w) ≡ true = sym c.are_alike.ensures ∙ c.if-are_alike.true in
    c.rises.ensures
    ∙ sym (rises_units a.word w h (held_long a.word h w w e) (whole a.word h w w e) (λ i. (c.shared_slice_known-2-1.given i).fits) (λ i. (c.shared_slice_known-1.given i).fits))
    ∙ sym (rises_is a.word h w e)

pub returns : goal.returns
returns c =
    let a = c.args in
    sym (none_rises a.word a.held.now a.wanted.now (sym c.are_alike.ensures ∙ c.if-are_alike.false))
