-- `loader_held_quick::erasing` meets its contract.
use mathlib.Core.Path.{◌≡◌, sym, ◌∙◌}
use native.Mathlib.Omega.{arith}
use Rattle.common.proofs.Choice.{if_true, if_false}
use Rattle.loader_held_claims.specs.HeldMade.{interrupts, added_in}
use Rattle.loader_held_ends.specs.HeldLent.{room_in}
use Rattle.loader_held_quick.proofs.Adding.{none_made, some_made}
use Rattle.loader_held_quick.proofs.HeldLoading.{room_filled}
use Rattle.loader_held_quick.proofs.erasing.Goals as goal

pub returns-then-c-eq0 : goal.returns-then-c-eq0
returns-then-c-eq0 c =
    let a = c.args in
    let d = a.d in
    let bs = a.addresses.now in
    let ps = a.polls.now in
    let room = a.room.now in
    let e : added_in d bs ps 0 d.erase ≡ 0 = sym c.added_in-c.ensures.0 ∙ c.if-c-eq0.true in record { result = (λ i. record { cycles = sym e i; last = c.is_listed-last.ensures i }); room_left = sym (if_false (interrupts ps 0 d.erase) (room_in d.part.word a.array.now bs room) room (none_made d bs ps d.erase 0 e)); bounded = omega arith }

pub returns : goal.returns
returns c =
    let a = c.args in
    let d = a.d in
    let bs = a.addresses.now in
    let ps = a.polls.now in
    let room = a.room.now in
    let f = c.fill_room in
    let n = c.added_in-c in
    let z : added_in d bs ps 0 d.erase ≡ 0 → ⊥ = λ (q : added_in d bs ps 0 d.erase ≡ 0). c.if-c-eq0.false (n.ensures.0 ∙ q) in record {
      result = (λ i. record { cycles = n.ensures.0 i; last = c.is_listed-last.ensures i });
      room_left = room_filled d.part.word a.array.now bs room f.new.room (λ i. (c.slice_known-1.given i).fits) (λ i. (c.slice_known-2-1.given i).fits) c.requires.1 f.ensures.room_left f.ensures.room_spare
          ∙ sym (if_true (interrupts ps 0 d.erase) (room_in d.part.word a.array.now bs room) room (some_made d bs ps d.erase 0 z));
      bounded = n.ensures.1;
    }
