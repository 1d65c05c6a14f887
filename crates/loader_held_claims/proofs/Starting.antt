-- A load from a start that nothing refuses: its grounds, and the first reads, whatever follows.
use mathlib.Core.Path.{◌≡◌, refl, sym, ap, ◌∙◌, subst}
use mathlib.Core.Bool.{Bool, true, false, ◌||◌}
use mathlib.Core.List.{List, [], ◌∷◌, ◌++◌}
use Prim.Native.Nat.{ℕ, zero, suc, ◌+◌, ◌≤◌, ◌<◌}
use native.Mathlib.Omega.{arith}
use lib.ListN.{length}
use lib.Dec.{eqb, ltb}
use borrow.Author.Tests.{ltb-false}
use Rattle.std.specs.Prelude.{if◌then◌else◌}
use Rattle.common.proofs.Choice.{if_ind, if_false, or_right}
use Rattle.common.specs.Lists.{overlaid}
use Rattle.device.specs.declared.Device.{Device}
use Rattle.device.specs.Parts.{start_of, unknown_part, unknown_device}
use Rattle.model_types.specs.Cells.{Cells}
use Rattle.model_types.specs.declared.Pins.{Pins}
use Rattle.model_types.specs.declared.Kind.TheVariants.{Read, Write}
use Rattle.model_types.specs.declared.Mode.TheVariants.{Array}
use Rattle.model_types.specs.declared.Effect.{Effect}
use Rattle.model_types.specs.declared.Cycle.{Cycle}
use Rattle.model_states.specs.States.{is_at_rest}
use Rattle.model.proofs.Keeping.{times}
use Rattle.loader.specs.declared.Stage.{Stage}
use Rattle.loader.specs.declared.Stage.TheVariants.{EraseAsking}
use Rattle.loader.specs.declared.Loader.{Loader}
use Rattle.loader_walk.specs.Walks.{rises_in, diff_from}
use Rattle.loader_run.specs.Turns.{Config, after}
use Rattle.loader_run.specs.Runs.{run_number, beginning, doing}
use Rattle.loader_run.proofs.UnrefusedRun.{Good}
use Rattle.loader_run.proofs.Turning.{conf}
use Rattle.loader_run_claims.specs.Made.{opening_then, reads_then, made_in, bus_cycle as cyc}
use Rattle.loader_run_claims.specs.Wear.{held_in}
use Rattle.loader_run_claims.specs.Mission.{Taken}
use Rattle.loader_run_claims.proofs.Answers.{Up}
use Rattle.loader_run_claims.proofs.Reaching as old
use Rattle.loader_run_claims.proofs.Reaching.{Reach}
use Rattle.loader_run_claims.proofs.LoadLists.{cells_held}
use Rattle.loader_run_claims.proofs.Starts.{none_refuses}
use Rattle.loader_run_claims.proofs.Grounds as grounds
use Rattle.loader_run_claims.proofs.Phases as phases
use Rattle.loader_held.specs.Holds.{usual}
use Rattle.loader_held_run.specs.HeldTurns.{HeldConfig, beside}
use Rattle.loader_held_claims.specs.HeldMade.{HeldReach}
use Rattle.loader_held_claims.proofs.Lifting.{quiet_in, lift_then}
use Rattle.loader_held_claims.proofs.QuietTurns.{late, way, after_load, quiet_after, quiet_before}
use Rattle.loader_held_claims.proofs.Quiet.{no_ask, quiet_made, quiet_on, opening_none}
use Rattle.loader.specs.declared.Work.TheVariants.{Load}
use Rattle.loader_run.specs.declared.Job.{Job}

reads_append : (p : Pins) (n a i : ℕ) (cs : List Cycle) → reads_then p n a i [] ++ cs ≡ reads_then p n a i cs
reads_append p zero a i cs = refl
reads_append p (suc n) a i cs = ap (λ (z : List Cycle). cyc p Read (a + i) 0 ∷ z) (reads_append p n a (i + 1) cs)

-- a known device takes at most 100 cycles to suspend
suspend_most : (d : Device) → unknown_device d ≡ false → d.suspend ≤ 100
unfolding unknown_device
suspend_most d e = ltb-false 100 d.suspend (or_right (((unknown_part d.part || eqb d.program 0) || eqb d.erase 0) || eqb d.suspend 0) (ltb 100 d.suspend) e)

module _ (verify : Bool) (j : Job) (xs w sc : List ℕ) (t : Taken j xs w sc) where
  pub n0 : run_number j (length xs) (length w) (length sc) ≡ 0
  n0 = none_refuses j xs w sc t

  g : Good j (length xs) (length w) (length sc)
  g = grounds.g j xs w sc n0

  pub u : Up j.device j.pins
  u = grounds.u j xs w sc n0

  pub some : 0 < length w
  some = grounds.some j xs w sc n0

  abbrev pub a : ℕ
  a = start_of j.device.part j.block

  abbrev pub ys : List ℕ
  ys = held_in (start_of j.device.part j.block) (length w) xs

  pub ly : length ys ≡ length w
  ly = grounds.ly j xs w sc n0

  pub cy : Cells j.device.part ys
  cy = cells_held j.device.part a (length w) xs t.held

  pub fits_in : a + length w ≤ length xs
  fits_in = grounds.fitting j xs w sc n0

  pub ls : length sc ≡ length w
  ls = t.scratch ∙ sym t.wanted

  -- the busy times
  pub s0 : 0 < j.device.suspend
  s0 = grounds.over j.device.suspend (times j.device t.known).2

  pub s1 : j.device.suspend ≤ 65535
  s1 = omega (arith, suspend_most j.device t.known)

  pub e0 : 0 < j.device.erase
  e0 = grounds.over j.device.erase (times j.device t.known).1

  pub p0 : 0 < j.device.program
  p0 = grounds.over j.device.program (times j.device t.known).0

  -- the beginning, and where the first reads lead
  abbrev pub started : Config
  started = beginning (doing (Load verify) j) xs sc

  abbrev rec : Stage → Loader
  rec stage = record { part = j.device.part; pins = j.pins; block = j.block; stage = stage; place = 0; polls = 0; verify = verify; high = false }

  abbrev onto : Loader
  onto = phases.onto verify j.device j.pins j.block u j.state w t.wanted some 0 ys

  abbrev judged : Config
  judged = conf (if rises_in w ys then rec EraseAsking else onto) (is_at_rest j.state Array 128) (overlaid xs a ys) ys (2 + length w)

  opening : Reach j.device w started judged [] (opening_then j.pins a (length w) [])
  opening =
      grounds.from_rest j xs w sc n0 (Load verify) judged [] (opening_then j.pins a (length w) [])
      (phases.opening verify j.device j.pins j.block u j.state w t.wanted some xs t.sized ys sc ly cy ls j.state.mode j.state.status (grounds.ready_status j.device j.state g.proper g.free) judged [] [] (old.arrive j.device w judged judged refl))

  -- .. where some bit must rise: 20H is out
  abbrev pub asking : Config
  asking = conf (rec EraseAsking) (is_at_rest j.state Array 128) (overlaid xs a ys) ys (2 + length w)

  pub opened : rises_in w ys ≡ true → (bs ps room : List ℕ) (e : HeldConfig) (es : List Effect) (cs : List Cycle) → HeldReach j.device w bs ps (beside asking (usual 0) room) e es cs
      → HeldReach j.device w bs ps (beside started (usual 0) room) e es (opening_then j.pins a (length w) cs)
  opened rise bs ps room e es cs r =
      let R = opening in
      let m : judged ≡ asking = (λ i. conf (if rise i then rec EraseAsking else onto) (is_at_rest j.state Array 128) (overlaid xs a ys) ys (2 + length w)) in
      let q : after R.turns j.device w started ≡ asking = R.there ∙ m in
      let L = lift_then j.device w bs ps room 0 e es cs R.turns started (quiet_before j.device w R.turns started (ap (λ (y : Config). way y.loader.stage) q)) R.smooth
      (subst (λ (y : Config). HeldReach j.device w bs ps (beside y (usual 0) room) e es cs) (sym q) r) in
      subst (λ (z : List Cycle). HeldReach j.device w bs ps (beside started (usual 0) room) e es z)
      (ap (λ (y : List Cycle). y ++ cs) R.made ∙ ap (λ (y : List Cycle). cyc j.pins Write a 0x50 ∷ cyc j.pins Write a 0xFF ∷ y) (reads_append j.pins (length w) a 0 cs))
      (subst (λ (z : List Effect). HeldReach j.device w bs ps (beside started (usual 0) room) e (z ++ es) (made_in R.turns j.device w started ++ cs)) R.begun L)

  -- .. where none must: no poll of an erase is made at all
  pub quiet : rises_in w ys ≡ false → (m : ℕ) → quiet_in m j.device w started ≡ true
  quiet rise =
      let R = opening in
      quiet_on j.device w R.turns started
      (quiet_made j.device w R.turns started refl (ap no_ask R.made ∙ opening_none j.pins a (length w)))
      (λ m. quiet_after j.device w m (after R.turns j.device w started) (ap (λ (y : Config). late y.loader.stage) R.there ∙ ap (λ (l : Loader). late l.stage) (if_false (rises_in w ys) _ _ rise) ∙ late_onto))
    where
      late_onto : late onto.stage ≡ true
      late_onto = if_ind (λ (x : Loader). late x.stage ≡ true) (ltb (diff_from 0 w ys) (length w)) _ _ (λ q. refl) (λ q. after_load verify)
