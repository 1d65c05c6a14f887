-- What is known of a cycle that begins an operation on a byte.
use mathlib.Core.Path.{◌≡◌, refl, sym, ap, subst, ◌∙◌}
use mathlib.Core.Bool.{Bool, true, false, not, ◌&&◌, ◌||◌}
use mathlib.Core.List.{List}
use mathlib.Core.Logic.{◌⊎◌, inl, inr, ⊎_elim}
use Prim.Native.Nat.{ℕ}
use native.Mathlib.Omega.{arith}
use lib.ListN.{length}
use lib.Dec.{eqb, ltb}
use borrow.Author.Tests.{eqb-true, eq-eqb, not-true, not-false}
use Rattle.std.specs.Prelude.{if◌then◌else◌}
use Rattle.common.proofs.Choice.{if_true, unlike, and_left, and_right, or_left, or_right}
use Rattle.common.proofs.Numbers.{given_no_row}
use Rattle.units.specs.Units.{units, lent}
use Rattle.device.specs.declared.Part.{Part}
use Rattle.device.specs.declared.Device.{Device}
use Rattle.device.specs.Parts.{start_of, length_of, block_of}
use Rattle.model_types.specs.declared.State.{State}
use Rattle.model_types.specs.declared.Cycle.{Cycle}
use Rattle.model_types.specs.declared.Kind.{Kind}
use Rattle.model_types.specs.declared.Kind.TheVariants.{Read, Write, Idle}
use Rattle.model_types.specs.declared.Phase.{Phase}
use Rattle.model_types.specs.declared.Phase.TheVariants.{Free, EraseAwaited, DataAwaited, Programming, Erasing, Suspending, Suspended}
use Rattle.model_types.specs.declared.Effect.{Effect}
use Rattle.model_types.specs.declared.Effect.TheVariants.{Nothing, Erase}
use Rattle.model_types.specs.Kinds.{is_write}
use Rattle.model_levels.specs.Levels.{rp_low, vpp_low, vpp_high, bad_wp, bad_pins, bad_oe, bad_levels, unlocked, locked}
use Rattle.model_types.specs.Status.{SR3, is_set}
use Rattle.model_commands.specs.Commands.{command_of}
use Rattle.model_actions.specs.Performed.{unsupplied}
use Rattle.model_rules.specs.Cycles.{table_of, number_of}
use Rattle.model_rules.proofs.Facts.{fine}
use Rattle.model.specs.Arrays.{Accepted}
use Rattle.model.specs.Begun.{asked_by, starts_of, begun_by}
use Rattle.model.proofs.Claims.{accepted_exactly}
use Rattle.model_history.specs.History.{Bus, World}
use Rattle.model_history.proofs.Wearing.{lies}
use Rattle.model_touch.specs.Touch.{by_rules, answer_on, begun_on, asked_on, in_unit, in_block, is_on}
use Rattle.model_touch.proofs.Pieces.{unit_at, among_units, inside}

-- levels that are let pass: where VPP is not low it is high
supply : (part : Part) (c : Cycle) → bad_levels part c ≡ false → vpp_low part c.pins ≡ false → vpp_high part c.pins ≡ true
unfolding bad_levels bad_pins
supply part c e l = either (vpp_low part c.pins) (vpp_high part c.pins) l (not-false bands (or_right over (not bands) (or_left (over || not bands) (bad_wp part c.pins) pins)))
  where
    over : Bool
    over = ltb 2 c.pins.rp

    bands : Bool
    bands = vpp_low part c.pins || vpp_high part c.pins

    pins : ((over || not bands) || bad_wp part c.pins) ≡ false
    pins = or_left ((over || not bands) || bad_wp part c.pins) (bad_oe part c.kind c.oe) e

    either : (s t : Bool) → s ≡ false → (s || t) ≡ true → t ≡ true
    either true t p q = absurd (unlike p)
    either false t p q = q

writes : (k : Kind) → is_write k ≡ true → k ≡ Write
writes Read e = absurd (unlike (sym e))
writes Write e = refl
writes Idle e = absurd (unlike (sym e))

-- what a cycle starts, where something is on it
pub record Starts (part : Part) (s : State) (c : Cycle) : Type 0 where
  pub write : c.kind ≡ Write
  pub asks : starts_of part s c ≡ asked_by s.phase part c
  pub unbarred : vpp_low part c.pins ≡ false
  pub open_to : locked part c ≡ false

module _ (part : Part) (x : ℕ) where
  chosen : (t : Bool) (e : Effect) → is_on part (if t then e else Nothing) x ≡ true → t ≡ true
  chosen true e h = refl
  chosen false e h = h

  starts : (s : State) (c : Cycle) → is_on part (starts_of part s c) x ≡ true → Starts part s c
  unfolding starts_of unsupplied
  starts s c h =
      record {
        write = writes c.kind (and_left w (not (rp_low c.pins)) (and_left (w && not (rp_low c.pins)) (not u) (and_left ((w && not (rp_low c.pins)) && not u) (not (locked part c)) all)));
        asks = if_true (((w && not (rp_low c.pins)) && not u) && not (locked part c)) (asked_by s.phase part c) Nothing all;
        unbarred = or_left (vpp_low part c.pins) (is_set s.status SR3) (not-true u (and_right (w && not (rp_low c.pins)) (not u) (and_left ((w && not (rp_low c.pins)) && not u) (not (locked part c)) all)));
        open_to = not-true (locked part c) (and_right ((w && not (rp_low c.pins)) && not u) (not (locked part c)) all);
      }
    where
      w : Bool
      w = is_write c.kind

      u : Bool
      u = vpp_low part c.pins || is_set s.status SR3

      all : (((w && not (rp_low c.pins)) && not u) && not (locked part c)) ≡ true
      all = chosen (((w && not (rp_low c.pins)) && not u) && not (locked part c)) (asked_by s.phase part c) h

-- a cycle that begins an operation on byte x
pub record Begins (d : Device) (v : World) (b : Bus) : Type 0 where
  pub write : b.cycle.kind ≡ Write
  pub accepted : Accepted (answer_on by_rules d v b)
  pub begins : begun_on d v b ≡ asked_on d v b
  pub supplied : vpp_high d.part b.cycle.pins ≡ true
  pub open_to : locked d.part b.cycle ≡ false

pub begins : (d : Device) (v : World) (b : Bus) (x : ℕ) → is_on d.part (begun_on d v b) x ≡ true → Begins d v b
unfolding begun_by number_of
begins d v b x h =
    record {
      write = q.write;
      accepted = (accepted_exactly d v.state b.cycle us ts).1 (given_no_row (table_of d v.state b.cycle (length us) (length ts)) refl zero);
      begins = if_true (eqb number 0) (starts_of d.part v.state b.cycle) Nothing go ∙ q.asks;
      supplied = supply d.part b.cycle (fine d v.state b.cycle (length us) (length ts) zero).levels q.unbarred;
      open_to = q.open_to;
    }
  where
    us : List ℕ
    us = lent d.part.word v.bytes

    ts : List ℕ
    ts = units d.part.word b.residue

    number : ℕ
    number = number_of d v.state b.cycle (length us) (length ts)

    go : eqb number 0 ≡ true
    go = chosen d.part x (eqb number 0) (starts_of d.part v.state b.cycle) h

    zero : number ≡ 0
    zero = eqb-true number 0 go

    q : Starts d.part v.state b.cycle
    q = starts d.part x v.state b.cycle (subst (λ (e : Effect). is_on d.part e x ≡ true) (if_true (eqb number 0) (starts_of d.part v.state b.cycle) Nothing go) h)

-- a byte of the boot block: what is asked for there is asked for at an address of the boot block
module _ (part : Part) (x : ℕ) where
  abbrev u : ℕ
  u = unit_at part.word x

  pub held : (k : ℕ) → in_block part k x ≡ true → block_of part u ≡ k
  held k h =
      let i = inside (start_of part k) (length_of part k) u (sym (among_units part.word (start_of part k) (length_of part k) x) ∙ h) in
      lies part k u i.0 i.1

  own_unit : (a : ℕ) → in_unit part a x ≡ true → u ≡ a
  own_unit a h = let i = inside a 1 u (sym (among_units part.word a 1 x) ∙ h) in omega (arith, i.0, i.1)

  -- what a confirm on byte x is: D0H after 20H in the byte's block, or data after 40H or 10H at the byte's unit
  pub asked_how : (ph : Phase) (c : Cycle) → is_on part (asked_by ph part c) x ≡ true
      → ((ph ≡ EraseAwaited) × (command_of c ≡ 0xD0) × (in_block part (block_of part c.address) x ≡ true)) ⊎ ((ph ≡ DataAwaited) × (in_unit part c.address x ≡ true))
  asked_how Free c h = absurd (unlike (sym h))
  asked_how EraseAwaited c h =
      let k = block_of part c.address in
      let t = chosen part x (eqb (command_of c) 0xD0) (Erase k) h in
      inl (refl, eqb-true (command_of c) 0xD0 t, subst (λ (e : Effect). is_on part e x ≡ true) (if_true (eqb (command_of c) 0xD0) (Erase k) Nothing t) h)
  asked_how DataAwaited c h = inr (refl, h)
  asked_how (Programming y) c h = absurd (unlike (sym h))
  asked_how Erasing c h = absurd (unlike (sym h))
  asked_how (Suspending n) c h = absurd (unlike (sym h))
  asked_how Suspended c h = absurd (unlike (sym h))

  boot_asked : (ph : Phase) (c : Cycle) → is_on part (asked_by ph part c) x ≡ true → in_block part 0 x ≡ true → block_of part c.address ≡ 0
  boot_asked ph c h o =
      ⊎_elim (λ (e : (ph ≡ EraseAwaited) × (command_of c ≡ 0xD0) × (in_block part (block_of part c.address) x ≡ true)). sym (held (block_of part c.address) e.2) ∙ held 0 o)
      (λ (e : (ph ≡ DataAwaited) × (in_unit part c.address x ≡ true)). ap (block_of part) (sym (own_unit c.address e.1)) ∙ held 0 o)
      (asked_how ph c h)

  -- so that it was unlocked, where it was begun
  pub boot_unlocked : (ph : Phase) (c : Cycle) → is_on part (asked_by ph part c) x ≡ true → in_block part 0 x ≡ true → locked part c ≡ false → unlocked part c.pins c.oe ≡ true
  unfolding locked
  boot_unlocked ph c h o l = other (unlocked part c.pins c.oe) (eqb (block_of part c.address) 0) (eq-eqb (block_of part c.address) 0 (boot_asked ph c h o)) l
    where
      other : (s t : Bool) → t ≡ true → (not s && t) ≡ false → s ≡ true
      other true t p q = refl
      other false t p q = sym q ∙ p
