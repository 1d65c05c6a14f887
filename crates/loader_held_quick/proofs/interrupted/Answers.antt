-- `loader_held_quick::interrupted` meets its contract.
use mathlib.Core.Path.{◌≡◌, sym, ◌∙◌}
use mathlib.Core.Bool.{true, false}
use native.Mathlib.Omega.{arith}
use Rattle.loader_quick.specs.Quick.{stuck_by}
use Rattle.loader_held_ends.specs.HeldLent.{room_in}
use Rattle.loader_held_quick.specs.HeldQuick.{extra_by, room_by}
use Rattle.loader_held_quick.proofs.interrupted.Goals as goal

pub returns-then-is_stuck : goal.returns-then-is_stuck
returns-then-is_stuck c =
    let a = c.args in
    let d = a.j.device in
    let bs = a.addresses.now in
    let ps = a.polls.now in
    let room = a.room.now in
    let filled = room_in d.part.word a.array.now bs room in
    let r : a.rises ≡ true = c.if-rises.true in
    let s : stuck_by d.part a.j.pins a.j.block ≡ true = sym c.is_stuck.ensures ∙ c.if-is_stuck.true in
    let t = c.tried.ensures in
    record { result = (λ i. record { cycles = t.0 i; last = false }) ∙ (λ i. extra_by (sym r i) (sym s i) d bs ps); room_left = (λ i. room_by (sym r i) (sym s i) d ps filled room); bounded = omega (arith, t.1) }

pub returns-then-rises : goal.returns-then-rises
returns-then-rises c =
    let a = c.args in
    let d = a.j.device in
    let bs = a.addresses.now in
    let ps = a.polls.now in
    let room = a.room.now in
    let filled = room_in d.part.word a.array.now bs room in
    let r : a.rises ≡ true = c.if-rises.true in
    let s : stuck_by d.part a.j.pins a.j.block ≡ false = sym c.is_stuck.ensures ∙ c.if-is_stuck.false in
    let e = c.erasing.ensures in
    record { result = e.result ∙ (λ i. extra_by (sym r i) (sym s i) d bs ps); room_left = e.room_left ∙ (λ i. room_by (sym r i) (sym s i) d ps filled room); bounded = e.bounded }

pub returns : goal.returns
returns c =
    let a = c.args in
    let d = a.j.device in
    let bs = a.addresses.now in
    let ps = a.polls.now in
    let room = a.room.now in
    let filled = room_in d.part.word a.array.now bs room in
    let r : a.rises ≡ false = c.if-rises.false in
    let s = stuck_by d.part a.j.pins a.j.block in
    record { result = (λ i. extra_by (sym r i) s d bs ps); room_left = (λ i. room_by (sym r i) s d ps filled room); bounded = omega arith }
