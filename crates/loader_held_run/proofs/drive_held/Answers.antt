-- `loader_held_run::drive_held` meets its contract: what is left of the bound leads to the same end, and the cycles to go fall.
use mathlib.Core.Path.{◌≡◌, refl, sym, ap, ◌∙◌, subst}
use mathlib.Core.List.{List}
use Prim.Native.Nat.{ℕ, ◌+◌}
use borrow.Author.Tests.{not-true, not-false}
use lib.ListN.{length}
use Rattle.device.specs.declared.Device.{Device}
use Rattle.units.specs.Units.{units}
use Rattle.loader.specs.declared.Loader.{Loader}
use Rattle.loader.specs.Stages.{is_ended}
use Rattle.loader_steps.specs.Front.{record_of}
use Rattle.loader_run.proofs.UnrefusedRun.{short}
use Rattle.loader_run.proofs.Sound.{Sound, sound_start}
use Rattle.loader_held.specs.Holds.{usual}
use Rattle.loader_held_run.specs.declared.Holding.{Holding}
use Rattle.loader_held_run.specs.HeldTurns.{HeldConfig, held_moved}
use Rattle.loader_held_run.specs.HeldRuns.{held_conf, held_driven, held_ran, held_done}
use Rattle.loader_held_run.specs.Inner.{holding_of}
use Rattle.loader_held_run.proofs.HeldSound.{out_judged, sound_next}
use Rattle.loader_held_run.proofs.HeldTurning.{keeps_start, keeps_turn, keeps_less, keeps_end, from_any, count_fits}
use Rattle.loader_held_run.proofs.drive_held.Goals as goal

-- lent bytes by their units
abbrev u : Device → List ℕ → List ℕ
u d xs = units d.part.word xs

-- the load under way that stands in the loop's locals
abbrev here : Device → Holding → List ℕ → List ℕ → List ℕ → ℕ → HeldConfig
here d h array scratch room k = held_conf h.loader h.hold h.state (u d array) (u d scratch) (u d room) k

pub loop-d-init : goal.loop-d-init
loop-d-init c =
    let a = c.args in
    let z = c.requires in
    let e : c.begun-h.result ≡ holding_of (record_of a.j.work a.j.device.part a.j.pins a.j.block) (usual 0) a.j.state = c.begun-h.ensures ∙ ap (λ (l : Loader). holding_of l (usual 0) a.j.state) c.record_for.ensures in (
      keeps_start a.j.device (u a.j.device a.wanted.now) a.addresses.now a.polls.now (here a.j.device c.begun-h.result a.array.now a.scratch.now a.room.now 0) refl,
      refl,
      refl,
      refl,
      short a.j (length (u a.j.device a.array.now)) (length (u a.j.device a.wanted.now)) (length (u a.j.device a.scratch.now)) z.0,
      z.2,
      z.1,
      subst (λ (h : Holding). Sound a.j.device (u a.j.device a.wanted.now) h.loader h.state (length (u a.j.device a.array.now))) (sym e)
          (sound_start a.j (u a.j.device a.array.now) (u a.j.device a.wanted.now) (u a.j.device a.scratch.now) z.0),
      refl,
    )

pub held_turn-h-requires : goal.held_turn-h-requires
held_turn-h-requires c =
    let a = c.args in
    let l = c.loop-d in
    let w = u a.j.device a.wanted.now in
    let bs = a.addresses.now in
    let ps = a.polls.now in
    let x = here a.j.device l.h l.array l.scratch l.room l.count in
    let g = not-true (is_ended l.h.loader.stage) (sym c.going.ensures ∙ c.loop-d-test.true) in
    (l.invariant.7.same, out_judged a.j.device w bs ps x l.invariant.7 l.invariant.6 g)

pub overflow_add-count : goal.overflow_add-count
overflow_add-count c =
    let a = c.args in
    let l = c.loop-d in
    let w = u a.j.device a.wanted.now in
    let bs = a.addresses.now in
    let ps = a.polls.now in
    let x = here a.j.device l.h l.array l.scratch l.room l.count in
    record { fits = count_fits a.j.device w bs ps _ x l.invariant.0 l.invariant.4 l.invariant.5 }

pub loop-d-smaller : goal.loop-d-smaller
loop-d-smaller c =
    let a = c.args in
    let l = c.loop-d in
    let w = u a.j.device a.wanted.now in
    let bs = a.addresses.now in
    let ps = a.polls.now in
    let x = here a.j.device l.h l.array l.scratch l.room l.count in
    let b = c.held_turn-h in
    let g = not-true (is_ended l.h.loader.stage) (sym c.going.ensures ∙ c.loop-d-test.true) in
    let y = here a.j.device b.result b.new.array b.new.scratch b.new.room (l.count + 1) in
    let q : y ≡ held_moved a.j.device w bs ps x = from_any a.j.device w bs ps _ _ _ _ _ _ _ _ _ _ _ _ l.count b.ensures.records in
    keeps_less a.j.device w bs ps x y g q

pub loop-d-preserved : goal.loop-d-preserved
loop-d-preserved c =
    let a = c.args in
    let l = c.loop-d in
    let w = u a.j.device a.wanted.now in
    let bs = a.addresses.now in
    let ps = a.polls.now in
    let x = here a.j.device l.h l.array l.scratch l.room l.count in
    let b = c.held_turn-h in
    let g = not-true (is_ended l.h.loader.stage) (sym c.going.ensures ∙ c.loop-d-test.true) in
    let y = here a.j.device b.result b.new.array b.new.scratch b.new.room (l.count + 1) in
    let q : y ≡ held_moved a.j.device w bs ps x = from_any a.j.device w bs ps _ _ _ _ _ _ _ _ _ _ _ _ l.count b.ensures.records in (
      keeps_turn a.j.device w bs ps _ x y l.invariant.0 g q,
      b.auto.scratch ∙ l.invariant.1,
      b.auto.array ∙ l.invariant.2,
      b.auto.room ∙ l.invariant.3,
      l.invariant.4,
      l.invariant.5,
      l.invariant.6,
      sound_next a.j.device w bs ps x y l.invariant.7 q,
      b.ensures.room_spare ∙ l.invariant.8,
    )

pub shape_of-scratch : goal.shape_of-scratch
shape_of-scratch c = c.loop-d.invariant.1

pub shape_of-array : goal.shape_of-array
shape_of-array c = c.loop-d.invariant.2

pub shape_of-room : goal.shape_of-room
shape_of-room c = c.loop-d.invariant.3

pub returns : goal.returns
returns c =
    let a = c.args in
    let l = c.loop-d in
    let w = u a.j.device a.wanted.now in
    let bs = a.addresses.now in
    let ps = a.polls.now in
    let x = here a.j.device l.h l.array l.scratch l.room l.count in
    let e : x ≡ held_done a.j a.array.now a.wanted.now a.scratch.now ps bs a.room.now =
    keeps_end a.j.device w bs ps _ _ l.invariant.0 (not-false (is_ended l.h.loader.stage) (sym c.going.ensures ∙ c.loop-d-test.false))
    ∙ ap (λ (h : Holding). held_driven a.j.device w bs ps (here a.j.device h a.array.now a.scratch.now a.room.now 0)) (c.begun-h.ensures ∙ ap (λ (l : Loader). holding_of l (usual 0) a.j.state) c.record_for.ensures) in
    record { result = c.over.ensures ∙ ap held_ran e; array_left = ap (λ (t : HeldConfig). t.bytes) e; scratch_left = ap (λ (t : HeldConfig). t.scratch) e; room_left = ap (λ (t : HeldConfig). t.room) e; room_spare = l.invariant.8 }
