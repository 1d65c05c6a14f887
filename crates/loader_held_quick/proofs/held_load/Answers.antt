-- `loader_held_quick::held_load` meets its contract: the load without interruptions, and what they add.
use mathlib.Core.Path.{◌≡◌, sym, ap, ◌∙◌}
use Prim.Native.Nat.{ℕ}
use native.Mathlib.Omega.{arith}
use lib.ListN.{length}
use Rattle.common.specs.Lists.{Bytes}
use Rattle.units.specs.Units.{units}
use Rattle.units.proofs.Widths.{units_length}
use Rattle.loader_held_quick.specs.HeldQuick.{turned_by}
use Rattle.loader_held_quick.proofs.HeldLoading.{few_addresses, enough_room, few_units, held_ran, held_array, held_scratch, held_room, count_fits}
use Rattle.loader_held_quick.proofs.held_load.Goals as goal

pub interrupted-x-requires : goal.interrupted-x-requires
interrupted-x-requires c =
    let a = c.args in
    let z = c.requires.0 in (
      few_addresses a.j a.array.now a.wanted.now a.scratch.now a.addresses.now a.room.now z,
      enough_room a.j a.array.now a.wanted.now a.scratch.now a.addresses.now a.room.now z,
    )

pub is_turned-turned-requires : goal.is_turned-turned-requires
is_turned-turned-requires c =
    let a = c.args in
    omega (arith, c.units_in-n.ensures, units_length a.j.device.part.word a.wanted.now, few_units a.j a.array.now a.wanted.now a.scratch.now a.addresses.now a.room.now c.requires.0)

pub more-requires : goal.more-requires
more-requires c =
    let a = c.args in
    let x = c.interrupted-x in
    let m = c.run_tested-m in
    count_fits a.j a.array.now a.wanted.now a.scratch.now a.addresses.now a.room.now c.requires.0 a.verify c.requires.1 c.is_turned-turned.ensures.timed
    (λ i. (c.slice_known-1.given i).fits) (λ i. (c.shared_slice_known-1.given i).fits) (λ i. (c.slice_known-3-1.given i).fits) a.polls.now m.result x.result m.ensures.result x.ensures.bounded

pub returns : goal.returns
returns c =
    let a = c.args in
    let j = a.j in
    let xs = a.array.now in
    let w = a.wanted.now in
    let sc = a.scratch.now in
    let bs = a.addresses.now in
    let room = a.room.now in
    let ps = a.polls.now in
    let z = c.requires.0 in
    let e = c.requires.1 in
    let t = c.is_turned-turned.ensures.timed in
    let bx : Bytes xs = λ i. (c.slice_known-1.given i).fits in
    let bw : Bytes w = λ i. (c.shared_slice_known-1.given i).fits in
    let br : Bytes room = λ i. (c.slice_known-3-1.given i).fits in
    let m = c.run_tested-m in
    let x = c.interrupted-x in
    let n : c.units_in-n.result ≡ length (units j.device.part.word w) = c.units_in-n.ensures ∙ sym (units_length j.device.part.word w) in
    let u : c.is_turned-turned.result ≡ turned_by a.verify x.result.last (length (units j.device.part.word w)) j.device.erase m.result.ran.count =
    c.is_turned-turned.ensures.result ∙ ap (λ (k : ℕ). turned_by a.verify x.result.last k j.device.erase m.result.ran.count) n in
    let ran = c.more.ensures ∙ held_ran j xs w sc bs room z a.verify e t bx bw br ps m.result x.result c.is_turned-turned.result m.ensures.result x.ensures.result u in
    let bytes = m.ensures.array_left ∙ held_array j xs w sc bs room z a.verify e t bx bw br ps in
    let left = m.ensures.scratch_left ∙ held_scratch j xs w sc bs room z a.verify e t bx bw br ps in
    let filled = x.ensures.room_left ∙ held_room j xs w sc bs room z a.verify e t bx bw br ps m.result m.new.array m.ensures.result m.ensures.array_left in
    λ i. record { ran = ran i; bytes = bytes i; scratch = left i; room = filled i }
