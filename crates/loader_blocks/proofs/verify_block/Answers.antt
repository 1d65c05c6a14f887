-- `loader_blocks::verify_block` meets its contract.
use mathlib.Core.Path.{◌≡◌, refl, sym, ap, ◌∙◌}
use mathlib.Core.Bool.{true, false}
use Prim.Native.Nat.{ℕ}
use lib.ListN.{length}
use Rattle.units.specs.Units.{torn}
use Rattle.loader_blocks.specs.Blocks.{alike}
use Rattle.loader_blocks.proofs.Lent.{spare_same, held_long, room_long, few, whole, met_is, seen_is, none_met, none_seen}
use Rattle.loader_blocks.proofs.verify_block.Goals as goal

pub verify_all-requires : goal.verify_all-requires
verify_all-requires c =
    let a = c.args in
    let h = a.held.now in
    let w = a.wanted.now in
    let s = a.scratch.now in
    let e : alike a.word (length h) (length w) (length s) ≡ true = sym c.are_alike.ensures ∙ c.if-are_alike.true in
    (held_long a.word h w s e, room_long a.word h w s e, few a.word h w s e)

pub returns-then-are_alike : goal.returns-then-are_alike
returns-then-are_alike c =
    let a = c.args in
    let h = a.held.now in
    let w = a.wanted.now in
    let s = a.scratch.now in
    let f = c.verify_all in
    let e : alike a.word (length h) (length w) (length s) ≡ true = sym c.are_alike.ensures ∙ c.if-are_alike.true in
    let t : torn a.word (length s) ≡ false = ap (λ (n : ℕ). torn a.word n) (room_long a.word h w s e) ∙ whole a.word h w s e in
    record { result = f.ensures.result ∙ sym (met_is a.word h w s e); scratch_left = f.ensures.scratch_left ∙ sym (seen_is a.word h w s e); scratch_spare = spare_same a.word f.new.scratch s f.auto.scratch t }

pub returns : goal.returns
returns c =
    let a = c.args in
    let h = a.held.now in
    let w = a.wanted.now in
    let s = a.scratch.now in
    let e : alike a.word (length h) (length w) (length s) ≡ false = sym c.are_alike.ensures ∙ c.if-are_alike.false in
    record { result = none_met a.word h w s e; scratch_left = none_seen a.word h w s e; scratch_spare = refl }
