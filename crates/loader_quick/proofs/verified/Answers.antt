-- `loader_quick::verified` meets its contract.
use mathlib.Core.Path.{◌≡◌, sym, ap, ◌∙◌}
use mathlib.Core.List.{List}
use Prim.Native.Nat.{ℕ, ◌+◌, ◌-◌}
use native.Mathlib.Omega.{arith}
use lib.ListN.{length, get_or}
use borrow.Rule.Slice.PartMut.{mid_of}
use Rattle.common.specs.Lists.{overwritten}
use Rattle.device.specs.Parts.{start_of}
use Rattle.units.specs.Units.{units}
use Rattle.units.proofs.Widths.{units_length}
use Rattle.loader_walk.specs.Walks.{diff_from}
use Rattle.loader_steps.proofs.SmallAddresses.{start_small}
use Rattle.loader_blocks.specs.Blocks.{read_to}
use Rattle.loader_blocks.proofs.Lent.{met_is, seen_is}
use Rattle.loader_quick.specs.Quick.{held_units, verdict_of}
use Rattle.loader_quick.proofs.Places.{few, long, part_units, part_alike}
use Rattle.loader_quick.proofs.Comparing.{read_is, verdict_is}
use Rattle.loader_quick.proofs.verified.Goals as goal

pub verdict-requires : goal.verdict-requires
verdict-requires c =
    let a = c.args in
    let l = few a.part a.block a.array.now a.wanted.now a.scratch.now c.requires in
    (omega (arith, c.start.ensures, start_small a.part a.block), omega (arith, c.units_in-n.ensures, units_length a.part.word a.wanted.now, l))

pub returns : goal.returns
returns c =
    let a = c.args in
    let z = c.requires in
    let word = a.part.word in
    let xs = a.array.now in
    let w = a.wanted.now in
    let sc = a.scratch.now in
    let v = c.verify_block-m in
    let b = c.first_byte-a in
    let M : List ℕ = mid_of b.result (b.result + length w - b.result) xs in
    let W : List ℕ = units word w in
    let S : List ℕ = units word sc in
    let Y : List ℕ = held_units a.part a.block xs w in
    let al = part_alike a.part a.block xs w sc z b.result b.ensures in
    let pu : units word M ≡ Y = part_units a.part a.block xs w sc z b.result b.ensures in
    let l : length Y ≡ length W = long a.part a.block xs w sc z in
    let n : c.units_in-n.result ≡ length W = c.units_in-n.ensures ∙ sym (units_length word w) in
    let m : v.result ≡ diff_from 0 W Y = v.ensures.result ∙ met_is word M w sc al ∙ ap (λ (y : List ℕ). diff_from 0 W y) pu in
    let held : c.get_unit-held.result ≡ get_or Y (diff_from 0 W Y) 0 = c.get_unit-held.ensures.0 ∙ (λ i. get_or (pu i) (m i) 0) in
    let unit : c.get_unit-unit.result ≡ get_or W (diff_from 0 W Y) 0 = c.get_unit-unit.ensures.0 ∙ ap (λ (x : ℕ). get_or W x 0) m in
    let st : c.start.result ≡ start_of a.part a.block = c.start.ensures in record { result = c.verdict.ensures ∙ (λ i. verdict_of word a.s (st i) (n i) (m i) (held i) (unit i)) ∙ verdict_is W Y l a.part a.s (start_of a.part a.block); scratch_left = v.ensures.scratch_left ∙ seen_is word M w sc al ∙ ap (λ (y : List ℕ). overwritten (read_to W y) y S) pu ∙ ap (λ (x : ℕ). overwritten x Y S) (read_is W Y l) }
