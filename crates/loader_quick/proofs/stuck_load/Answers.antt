-- `loader_quick::stuck_load` meets its contract.
use mathlib.Core.Path.{◌≡◌, sym, ap, ◌∙◌}
use mathlib.Core.List.{List}
use Prim.Native.Nat.{ℕ, ◌+◌, ◌-◌}
use native.Mathlib.Omega.{arith}
use lib.ListN.{length}
use borrow.Rule.Slice.PartMut.{mid_of}
use Rattle.units.specs.Units.{units}
use Rattle.units.proofs.Widths.{units_length}
use Rattle.loader_blocks.proofs.Lent.{found_is, read_is}
use Rattle.loader_quick.specs.Quick.{held_units, looked_at, tried_of, made_of}
use Rattle.loader_quick.proofs.Places.{few, part_units, part_alike}
use Rattle.loader_quick.proofs.stuck_load.Goals as goal

pub tried-ran-requires : goal.tried-ran-requires
tried-ran-requires c =
    let a = c.args in
    omega (arith, c.units_in.ensures, units_length a.part.word a.wanted.now, few a.part a.block a.array.now a.wanted.now a.scratch.now c.requires)

pub returns : goal.returns
returns c =
    let a = c.args in
    let z = c.requires in
    let word = a.part.word in
    let xs = a.array.now in
    let w = a.wanted.now in
    let sc = a.scratch.now in
    let f = c.look_at_block-f in
    let b = c.first_byte-a in
    let M : List ℕ = mid_of b.result (b.result + length w - b.result) xs in
    let W : List ℕ = units word w in
    let al = part_alike a.part a.block xs w sc z b.result b.ensures in
    let pu : units word M ≡ held_units a.part a.block xs w = part_units a.part a.block xs w sc z b.result b.ensures in
    let n : c.units_in.result ≡ length W = c.units_in.ensures ∙ sym (units_length word w) in
    let found : f.result ≡ looked_at W (held_units a.part a.block xs w) = f.ensures.result ∙ found_is word M w sc al ∙ ap (λ (y : List ℕ). looked_at W y) pu in
    let ran : c.tried-ran.result ≡ tried_of a.part a.s a.p (length W) (looked_at W (held_units a.part a.block xs w)) = c.tried-ran.ensures ∙ (λ i. tried_of a.part a.s a.p (n i) (found i)) in record { result = (λ i. made_of (ran i) (found i).rises); scratch_left = ap (λ (y : List ℕ). units word y) (f.ensures.scratch_left ∙ read_is word M w sc al) ∙ pu }
