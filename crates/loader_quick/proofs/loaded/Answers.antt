-- `loader_quick::loaded` meets its contract.
use mathlib.Core.Path.{◌≡◌, sym, ◌∙◌}
use mathlib.Core.Bool.{true, false}
use mathlib.Core.List.{List}
use Prim.Native.Nat.{ℕ}
use native.Mathlib.Omega.{arith}
use lib.ListN.{length}
use Rattle.device.specs.Parts.{start_of}
use Rattle.units.specs.Units.{units}
use Rattle.loader_walk.specs.Walks.{rises_in}
use Rattle.loader_quick.specs.Quick.{held_units, stuck_by, made_of}
use Rattle.loader_quick.proofs.Places.{long, self}
use Rattle.loader_quick.proofs.Loading.{tried_is, scratch_stuck, bytes_stuck, well_is, bytes_free, scratch_free}
use Rattle.loader_quick.proofs.loaded.Goals as goal

pub returns-then-is_stuck : goal.returns-then-is_stuck
returns-then-is_stuck c =
    let a = c.args in
    let z = c.requires in
    let part = a.j.device.part in
    let k = a.j.block in
    let xs = a.array.now in
    let w = a.wanted.now in
    let sc = a.scratch.now in
    let X : List ℕ = units part.word xs in
    let W : List ℕ = units part.word w in
    let Y : List ℕ = held_units part k xs w in
    let l : length Y ≡ length W = long part k xs w sc z in
    let t : stuck_by part a.j.pins k ≡ true = sym c.is_stuck.ensures ∙ c.if-is_stuck.true in
    let f = c.stuck_load in
    let once = c.cost_of-once.ensures in
    let each = c.cost_of-each.ensures in record { result = f.ensures.result ∙ (λ i. made_of (tried_is a.j W Y t l i) (rises_in W Y)); array_left = bytes_stuck a.j W Y t (start_of part k) X l (self part k xs w sc z); scratch_left = f.ensures.scratch_left ∙ scratch_stuck a.j W Y t l; timed = (omega (arith, each.0, each.1), omega (arith, once.0, once.1)) }

pub returns : goal.returns
returns c =
    let a = c.args in
    let z = c.requires in
    let part = a.j.device.part in
    let k = a.j.block in
    let xs = a.array.now in
    let w = a.wanted.now in
    let sc = a.scratch.now in
    let X : List ℕ = units part.word xs in
    let W : List ℕ = units part.word w in
    let Y : List ℕ = held_units part k xs w in
    let l : length Y ≡ length W = long part k xs w sc z in
    let t : stuck_by part a.j.pins k ≡ false = sym c.is_stuck.ensures ∙ c.if-is_stuck.false in
    let f = c.worked in
    let once = c.cost_of-once in
    let each = c.cost_of-each in record { result = f.ensures.result ∙ (λ i. made_of (well_is a.j W Y t once.result each.result l once.ensures.0 each.ensures.0 i) (rises_in W Y)); array_left = f.ensures.array_left ∙ bytes_free a.j W Y t (start_of part k) X; scratch_left = f.ensures.scratch_left ∙ scratch_free a.j W Y t; timed = (omega (arith, each.ensures.0, each.ensures.1), omega (arith, once.ensures.0, once.ensures.1)) }
