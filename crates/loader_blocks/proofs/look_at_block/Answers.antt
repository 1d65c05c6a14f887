-- `loader_blocks::look_at_block` meets its contract.
use mathlib.Core.Path.{◌≡◌, sym, ap, ◌∙◌}
use mathlib.Core.Bool.{true, false}
use mathlib.Core.List.{List}
use Prim.Native.Nat.{ℕ}
use lib.ListN.{length}
use lib.Dec.{ltb}
use Rattle.common.proofs.Lists.{copied_whole}
use Rattle.units.specs.Units.{units}
use Rattle.units.proofs.Widths.{units_length}
use Rattle.loader_walk.specs.Walks.{rises_in}
use Rattle.loader_blocks.specs.Blocks.{alike}
use Rattle.loader_blocks.proofs.Bytewise.{rises_units}
use Rattle.loader_blocks.proofs.Lent.{held_long, room_long, few, whole, found_so, read_is, none_found, none_read}
use Rattle.loader_blocks.proofs.look_at_block.Goals as goal

pub verify_all-m-requires : goal.verify_all-m-requires
verify_all-m-requires c =
    let a = c.args in
    let h = a.held.now in
    let w = a.wanted.now in
    let s = a.scratch.now in
    let e : alike a.word (length h) (length w) (length s) ≡ true = sym c.are_alike.ensures ∙ c.if-are_alike.true in
    (held_long a.word h w s e, room_long a.word h w s e, few a.word h w s e)

pub rises-requires : goal.rises-requires
rises-requires c =
    let a = c.args in
    let h = a.held.now in
    let w = a.wanted.now in
    let s = a.scratch.now in
    let e : alike a.word (length h) (length w) (length s) ≡ true = sym c.are_alike.ensures ∙ c.if-are_alike.true in
    c.copy.auto.dst ∙ c.verify_all-m.auto.scratch ∙ room_long a.word h w s e

pub returns-then-are_alike : goal.returns-then-are_alike
returns-then-are_alike c =
    let a = c.args in
    let h = a.held.now in
    let w = a.wanted.now in
    let s = a.scratch.now in
    let b = a.word in
    let e : alike b (length h) (length w) (length s) ≡ true = sym c.are_alike.ensures ∙ c.if-are_alike.true in
    let v = c.verify_all-m in
    let z : c.copy.new.dst ≡ h = c.copy.ensures ∙ copied_whole v.new.scratch h (v.auto.scratch ∙ room_long b h w s e ∙ sym (held_long b h w s e)) in
    let n : c.units_in-n.result ≡ length (units b w) = c.units_in-n.ensures ∙ sym (units_length b w) in
    let r : c.rises.result ≡ rises_in (units b w) (units b h) =
    c.rises.ensures ∙ ap (λ (x : List ℕ). rises_in w x) z ∙ sym (rises_units b w h (held_long b h w s e) (whole b h w s e) (λ i. (c.shared_slice_known-2-1.given i).fits) (λ i. (c.shared_slice_known-1.given i).fits)) in
    record { result = found_so b h w s e _ (λ i. ltb (v.ensures.result i) (n i)) r; scratch_left = z ∙ sym (read_is b h w s e) }

pub returns : goal.returns
returns c =
    let a = c.args in
    let h = a.held.now in
    let w = a.wanted.now in
    let s = a.scratch.now in
    let e : alike a.word (length h) (length w) (length s) ≡ false = sym c.are_alike.ensures ∙ c.if-are_alike.false in
    record { result = none_found a.word h w s e; scratch_left = none_read a.word h w s e }
