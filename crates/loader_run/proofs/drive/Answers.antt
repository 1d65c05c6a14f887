-- `loader_run::drive` meets its contract: what is left of the bound leads to the same end, and the cycles to go fall.
use mathlib.Core.Path.{◌≡◌, refl, sym, ap, ◌∙◌, subst}
use Prim.Native.Nat.{ℕ, ◌-◌}
use native.Mathlib.Omega.{arith}
use borrow.Author.Tests.{not-true, not-false}
use lib.ListN.{length}
use Rattle.loader_run.specs.Turns.{Config, answer_to}
use Rattle.loader.specs.Stages.{is_ended, end_by}
use Rattle.loader_run.specs.Runs.{driven, begin, beginning, ran_by}
use Rattle.loader.specs.declared.StageIs.{StageIs}
use Rattle.loader_steps.specs.Addresses.{first_address}
use Rattle.loader_steps.specs.Front.{end_address}
use Rattle.loader.specs.declared.Loader.{Loader}
use Rattle.units.specs.Units.{units}
use Rattle.loader_run.proofs.UnrefusedRun.{short}
use Rattle.loader_run.proofs.Sound.{Sound, sound_start, sound_judged, sound_next}
use Rattle.loader_run.proofs.Turning.{conf, keeps_start, keeps_turn, keeps_less, keeps_end, first_stays}
use Rattle.loader_run.proofs.drive.Goals as goal

pub loop-d-init : goal.loop-d-init
loop-d-init c =
    let a = c.args in
    let z = c.requires in
    let l = c.record_for-moving in (
      keeps_start a.j.device (units a.j.device.part.word a.wanted.now) l.result a.j.state (units a.j.device.part.word a.array.now) (units a.j.device.part.word a.scratch.now),
      refl,
      refl,
      short a.j (length (units a.j.device.part.word a.array.now)) (length (units a.j.device.part.word a.wanted.now)) (length (units a.j.device.part.word a.scratch.now)) z,
      c.first-start.ensures,
      subst (λ (x : Loader). Sound a.j.device (units a.j.device.part.word a.wanted.now) x a.j.state (length (units a.j.device.part.word a.array.now))) (sym l.ensures)
          (sound_start a.j (units a.j.device.part.word a.array.now) (units a.j.device.part.word a.wanted.now) (units a.j.device.part.word a.scratch.now) z),
    )

pub turn-h-requires : goal.turn-h-requires
turn-h-requires c =
    let a = c.args in
    let l = c.loop-d in
    let g = not-true (is_ended l.moving.stage) (sym c.going.ensures ∙ c.loop-d-test.true) in
    (l.invariant.5.same, l.invariant.4, sound_judged a.j.device (units a.j.device.part.word a.wanted.now) l.moving l.state (length (units a.j.device.part.word l.array)) l.invariant.5 g)

pub overflow_add-count : goal.overflow_add-count
overflow_add-count c = record { fits = omega (arith, c.loop-d.invariant.0.enough, c.loop-d.invariant.3) }

pub loop-d-smaller : goal.loop-d-smaller
loop-d-smaller c =
    let a = c.args in
    let l = c.loop-d in
    keeps_less (answer_to a.j.device (units a.j.device.part.word a.wanted.now) l.moving l.state (units a.j.device.part.word l.array)).seen l.moving (units a.j.device.part.word a.wanted.now) (units a.j.device.part.word l.scratch) c.turn-h.result.loader
    (not-true (is_ended l.moving.stage) (sym c.going.ensures ∙ c.loop-d-test.true)) c.turn-h.ensures.loader

pub loop-d-preserved : goal.loop-d-preserved
loop-d-preserved c =
    let a = c.args in
    let l = c.loop-d in
    let g = not-true (is_ended l.moving.stage) (sym c.going.ensures ∙ c.loop-d-test.true) in
    let b = c.turn-h in (
      keeps_turn a.j.device (units a.j.device.part.word a.wanted.now) _ l.moving l.state (units a.j.device.part.word l.array) (units a.j.device.part.word l.scratch) l.count l.invariant.0 g b.result.loader b.result.state (units a.j.device.part.word b.new.array) (units a.j.device.part.word b.new.scratch)
          b.ensures.loader b.ensures.state b.ensures.scratch_left b.ensures.array_left,
      b.auto.scratch ∙ l.invariant.1,
      b.auto.array ∙ l.invariant.2,
      l.invariant.3,
      l.invariant.4 ∙ sym (first_stays (answer_to a.j.device (units a.j.device.part.word a.wanted.now) l.moving l.state (units a.j.device.part.word l.array)).seen l.moving (units a.j.device.part.word a.wanted.now) (units a.j.device.part.word l.scratch)) ∙ sym (ap first_address b.ensures.loader),
      sound_next a.j.device (units a.j.device.part.word a.wanted.now) (units a.j.device.part.word l.scratch) (units a.j.device.part.word l.array) l.moving l.state l.invariant.5 g b.result.loader b.result.state (units a.j.device.part.word b.new.array)
          b.ensures.loader b.ensures.state b.ensures.array_left,
    )

pub shape_of-scratch : goal.shape_of-scratch
shape_of-scratch c = c.loop-d.invariant.1

pub shape_of-array : goal.shape_of-array
shape_of-array c = c.loop-d.invariant.2

pub returns : goal.returns
returns c =
    let a = c.args in
    let l = c.loop-d in
    let e : conf l.moving l.state (units a.j.device.part.word l.array) (units a.j.device.part.word l.scratch) l.count ≡ driven a.j.device (units a.j.device.part.word a.wanted.now) (beginning a.j (units a.j.device.part.word a.array.now) (units a.j.device.part.word a.scratch.now)) =
    keeps_end a.j.device (units a.j.device.part.word a.wanted.now) _ _ l.invariant.0 (not-false (is_ended l.moving.stage) (sym c.going.ensures ∙ c.loop-d-test.false))
    ∙ ap (λ (x : Loader). driven a.j.device (units a.j.device.part.word a.wanted.now) (begin a.j.device a.j.state x (units a.j.device.part.word a.array.now) (units a.j.device.part.word a.scratch.now))) c.record_for-moving.ensures in
    let n : c.stage_is-e.result.end ≡ end_by l.moving.stage = ap (λ (x : StageIs). x.end) c.stage_is-e.ensures in
    let m : c.end_address.result ≡ end_address l.moving (end_by l.moving.stage) = c.end_address.ensures ∙ ap (λ (k : ℕ). end_address l.moving k) n in
    record { result = (λ i. record { count = l.count; end = n i; address = m i; state = l.state }) ∙ ap ran_by e; scratch_left = ap (λ (x : Config). x.scratch) e; array_left = ap (λ (x : Config). x.bytes) e }
