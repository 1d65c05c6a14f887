-- `loader_quick::worked` meets its contract.
use mathlib.Core.Path.{◌≡◌, sym, ap, ◌∙◌}
use mathlib.Core.List.{List}
use Prim.Native.Nat.{ℕ, ◌+◌, ◌-◌, ◌*◌, ◌≤◌}
use native.Mathlib.Omega.{arith}
use lib.ListN.{length}
use borrow.Rule.Slice.PartMut.{mid_of}
use Rattle.units.specs.Units.{units}
use Rattle.units.proofs.Widths.{units_length}
use Rattle.loader_blocks.specs.declared.Done.{Done}
use Rattle.loader_blocks.specs.Blocks.{work_costs, work_done}
use Rattle.loader_blocks.proofs.Lent.{done_is, left_is, room_is}
use Rattle.loader_quick.specs.Quick.{held_units, finished_of, made_of}
use Rattle.loader_quick.proofs.Places.{few, part_long, part_units, part_alike, put_units}
use Rattle.loader_quick.proofs.Loading.{work_most}
use Rattle.loader_quick.proofs.worked.Goals as goal

pub finished-ran-requires : goal.finished-ran-requires
finished-ran-requires c =
    let a = c.args in
    let z = c.requires in
    let word = a.part.word in
    let xs = a.array.now in
    let w = a.wanted.now in
    let sc = a.scratch.now in
    let f = c.load_block-w in
    let b = c.first_byte-a in
    let M : List ℕ = mid_of b.result (b.result + length w - b.result) xs in
    let W : List ℕ = units word w in
    let al = part_alike a.part a.block xs w sc z.0 b.result b.ensures in
    let k : f.result.cycles ≡ work_costs word a.once a.each W (units word M) = ap (λ (r : Done). r.cycles) (f.ensures.result ∙ done_is word M w sc al a.once a.each) in
    let m : work_costs word a.once a.each W (units word M) ≤ 65537 + length W * 4294967295 = work_most a.part a.once a.each W (units word M) z.1 z.2 in
    let l : length W ≤ 1048576 = few a.part a.block xs w sc z.0 in
    (omega (arith, c.units_in.ensures, units_length word w, l), omega (arith, k, m, l))

pub returns : goal.returns
returns c =
    let a = c.args in
    let z = c.requires.0 in
    let word = a.part.word in
    let xs = a.array.now in
    let w = a.wanted.now in
    let sc = a.scratch.now in
    let f = c.load_block-w in
    let b = c.first_byte-a in
    let M : List ℕ = mid_of b.result (b.result + length w - b.result) xs in
    let W : List ℕ = units word w in
    let Y : List ℕ = held_units a.part a.block xs w in
    let al = part_alike a.part a.block xs w sc z b.result b.ensures in
    let pu : units word M ≡ Y = part_units a.part a.block xs w sc z b.result b.ensures in
    let n : c.units_in.result ≡ length W = c.units_in.ensures ∙ sym (units_length word w) in
    let done : f.result ≡ work_done word a.once a.each W Y = f.ensures.result ∙ done_is word M w sc al a.once a.each ∙ ap (λ (y : List ℕ). work_done word a.once a.each W y) pu in
    let ran : c.finished-ran.result ≡ finished_of a.s a.block (length W) (work_done word a.once a.each W Y) = c.finished-ran.ensures ∙ (λ i. finished_of a.s a.block (n i) (done i)) in record { result = (λ i. made_of (ran i) (done i).erased); array_left = put_units a.part a.block xs w sc z b.result b.ensures f.new.held (f.auto.held ∙ part_long a.part a.block xs w sc z b.result b.ensures) (f.ensures.held_left ∙ left_is word M w sc al); scratch_left = f.ensures.scratch_left ∙ room_is word M w sc al }
