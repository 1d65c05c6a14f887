-- `loader_blocks::load_block` meets its contract.
use mathlib.Core.Path.{◌≡◌, refl, sym, ap, ◌∙◌}
use mathlib.Core.Bool.{true, false}
use mathlib.Core.List.{List}
use Prim.Native.Nat.{ℕ}
use native.Mathlib.Omega.{arith}
use lib.ListN.{length}
use Rattle.common.proofs.Lists.{copied_whole}
use Rattle.units.specs.Units.{units, torn}
use Rattle.loader_blocks.specs.Blocks.{alike, work_done}
use Rattle.loader_blocks.proofs.Lent.{spare_same, held_long, room_long, few, whole, done_is, left_is, room_is, none_done, none_left, none_room}
use Rattle.loader_blocks.proofs.load_block.Goals as goal

pub work-requires : goal.work-requires
work-requires c =
    let a = c.args in
    let h = a.held.now in
    let w = a.wanted.now in
    let s = a.scratch.now in
    let b = a.word in
    let e : alike b (length h) (length w) (length s) ≡ true = sym c.are_alike.ensures ∙ c.if-are_alike.true in
    let z : c.copy.new.dst ≡ h = c.copy.ensures ∙ copied_whole s h (room_long b h w s e ∙ sym (held_long b h w s e)) in
    (record { read = sym z; long = ap (λ (x : List ℕ). length x) z ∙ held_long b h w s e; short = few b h w s e; whole = whole b h w s e }, omega (arith, c.ranges.once.fits), omega (arith, c.ranges.each.fits))

pub returns-then-are_alike : goal.returns-then-are_alike
returns-then-are_alike c =
    let a = c.args in
    let h = a.held.now in
    let w = a.wanted.now in
    let s = a.scratch.now in
    let b = a.word in
    let f = c.work in
    let e : alike b (length h) (length w) (length s) ≡ true = sym c.are_alike.ensures ∙ c.if-are_alike.true in
    let z : c.copy.new.dst ≡ h = c.copy.ensures ∙ copied_whole s h (room_long b h w s e ∙ sym (held_long b h w s e)) in
    let th : torn b (length h) ≡ false = ap (λ (n : ℕ). torn b n) (held_long b h w s e) ∙ whole b h w s e in
    let ts : torn b (length s) ≡ false = ap (λ (n : ℕ). torn b n) (room_long b h w s e) ∙ whole b h w s e in record { result = f.ensures.result ∙ ap (λ (x : List ℕ). work_done b a.once a.each (units b w) (units b x)) z ∙ sym (done_is b h w s e a.once a.each); held_left = f.ensures.held_left ∙ sym (left_is b h w s e); held_spare = spare_same b f.new.held h f.auto.held th; scratch_left = f.ensures.scratch_left ∙ sym (room_is b h w s e); scratch_spare = spare_same b f.new.scratch s (f.auto.scratch ∙ c.copy.auto.dst) ts }

pub returns : goal.returns
returns c =
    let a = c.args in
    let h = a.held.now in
    let w = a.wanted.now in
    let s = a.scratch.now in
    let e : alike a.word (length h) (length w) (length s) ≡ false = sym c.are_alike.ensures ∙ c.if-are_alike.false in
    record { result = none_done a.word h w s e a.once a.each; held_left = none_left a.word h w s e; held_spare = refl; scratch_left = none_room a.word h w s e; scratch_spare = refl }
