-- `loader_held_quick::fill_room` meets its contract: the first units of the room are those read.
use mathlib.Core.Path.{◌≡◌, refl, sym, ap, ◌∙◌}
use mathlib.Core.List.{List}
use Prim.Native.Nat.{ℕ, ◌<◌}
use native.Mathlib.Omega.{arith}
use lib.ListN.{length, get_or, set}
use Rattle.common.specs.Lists.{overwritten}
use Rattle.common.proofs.Lists.{overwritten_more}
use Rattle.units.specs.Units.{units, carried}
use Rattle.units.proofs.Widths.{carried_cell}
use Rattle.loader_held_claims.specs.HeldMade.{read_at}
use Rattle.loader_held_claims.proofs.Interrupting.{read_length, read_place}
use Rattle.loader_held_quick.proofs.fill_room.Goals as goal

pub loop-i-init : goal.loop-i-init
loop-i-init c = (refl, refl)

pub loop-i-preserved : goal.loop-i-preserved
loop-i-preserved c =
    let l = c.loop-i in
    let a = c.args in
    let t = c.loop-i-test.true in
    let g = c.unit_at-v in
    let p = c.put_unit in
    let w = a.word in
    let X : List ℕ = units w a.array.now in
    let bs = a.addresses.now in
    let R : List ℕ = units w a.room.now in
    let i = l.i in
    let h : i < length bs = t in
    let Z : List ℕ = read_at X bs in
    let v : carried w g.result ≡ get_or Z i 0 = carried_cell w g.result g.ensures.1 ∙ g.ensures.0 ∙ sym (read_place X bs i h) in (
      p.ensures.s_left ∙ (λ j. set (l.invariant.0 j) i (v j)) ∙ overwritten_more Z R i (let q = read_length X bs in omega arith) (let q = c.requires in omega arith),
      p.ensures.s_spare ∙ l.invariant.1,
    )

pub returns : goal.returns
returns c =
    let l = c.loop-i in
    let a = c.args in
    let w = a.word in
    let bs = a.addresses.now in
    let e : l.i ≡ length bs = omega (arith, c.loop-i-test.false) in
    record { room_left = l.invariant.0 ∙ ap (λ (n : ℕ). overwritten n (read_at (units w a.array.now) bs) (units w a.room.now)) e; room_spare = l.invariant.1 }
