-- Each rule of before, from the leaves up: on a part of before, in byte mode, it is the rule of now.
use mathlib.Core.Path.{◌≡◌, refl, sym, ap, ap₂, ◌∙◌}
use mathlib.Core.Bool.{Bool, true, false, not, ◌&&◌, ◌||◌}
use mathlib.Core.List.{List}
use Prim.Native.Nat.{ℕ, zero, suc, ◌%◌, ◌≤◌}
use native.Mathlib.Omega.{arith}
use lib.ListN.{length}
use lib.Dec.{eqb, ltb}
use borrow.Author.Tests.{ltb-false, eqb-false}
use Rattle.common.proofs.Choice.{or_left, or_right}
use Rattle.common.specs.Numbers.{given}
use Rattle.device.specs.declared.Part.{Part}
use Rattle.device.specs.declared.Device.{Device}
use Rattle.device.specs.declared.Shape.{Shape}
use Rattle.device.specs.Parts.{row_of, shape_of, is_large, unknown_part, unknown_device, size_in, length_in, start_in, block_in, size_of, length_of, start_of, block_of, code_of}
use Rattle.model_types.specs.declared.Kind.{Kind}
use Rattle.model_types.specs.declared.Kind.TheVariants.{Read, Write, Idle}
use Rattle.model_types.specs.declared.Mode.{Mode}
use Rattle.model_types.specs.declared.Mode.TheVariants.{Array, Status, Identifier}
use Rattle.model_types.specs.declared.Phase.{Phase}
use Rattle.model_types.specs.declared.Phase.TheVariants.{Free, EraseAwaited, DataAwaited, Programming, Erasing, Suspending, Suspended}
use Rattle.model_types.specs.declared.Action.{Action}
use Rattle.model_types.specs.declared.Action.TheVariants.{ToArray, ToIdentifier, ToStatus, Clear, AwaitErase, AwaitData, Confirm, Store, WrongSecond, Suspend, Resume, Ignore, Refuse}
use Rattle.model_types.specs.declared.Effect.{Effect}
use Rattle.model_types.specs.declared.Effect.TheVariants.{Nothing, Program, Erase, CutProgram, CutErase}
use Rattle.model_types.specs.declared.State.{State}
use Rattle.model_types.specs.declared.Wear.{Wear}
use Rattle.model_types.specs.declared.Pins.{Pins}
use Rattle.model_types.specs.declared.Cycle.{Cycle}
use Rattle.model_types.specs.declared.Settled.{Settled}
use Rattle.model_types.specs.declared.Decision.{Decision}
use Rattle.model_types.specs.Cells.{ones}
use Rattle.model_levels.specs.Levels.{vpp_low, at_twelve, vpp_high, bad_wp, bad_pins, most_oe, bad_oe, bad_levels, unlocked, locked}
use Rattle.model_states.specs.States.{proper, improper}
use Rattle.model_commands.specs.Commands.{command_of, asks_program, first_write, action_of}
use Rattle.model_actions.specs.Performed.{data_of, unsupplied, wear_by, started_of, performed_of}
use Rattle.model_operation.specs.Settling.{cut_of, finish_of, residue_for, reset_by, cut_by, counted_off, passed_of, settle_of}
use Rattle.model_judge.specs.Judging.{past_array, short_residue}
use Rattle.model_rules.specs.Cycles.{no_command, suspended_read, skips_last, code_place, no_identifier, table_of, number_of, identifier_of, reply_to, respond_of, accept_of, decide_of}
use Rattle.model.specs.Arrays.{erased, residual, array_of, seen_of, array_after, answer_of}
use Rattle.model.specs.Words.{narrow}
use Rattle.model_before.specs.Before as before

or_none : (b : Bool) → (b || false) ≡ b
or_none true = refl
or_none false = refl

-- what is known of a part of before in byte mode
pub record Leaves (p : Part) : Type 0 where
  pub byte : p.word ≡ false
  pub large : is_large p ≡ false
  pub known : unknown_part p ≡ before.unknown_part p
  pub shape : shape_of p ≡ before.shape_of p
  pub code : code_of p ≡ before.code_of p

-- the parts 1 to 4
at : (n : ℕ) → (n ≡ 0 → ⊥) → n ≤ 4 → Leaves (record { number = n; word = false })
unfolding row_of shape_of is_large unknown_part code_of
at zero z h = absurd (z refl)
at (suc zero) z h = record { byte = refl; large = refl; known = refl; shape = refl; code = refl }
at (suc (suc zero)) z h = record { byte = refl; large = refl; known = refl; shape = refl; code = refl }
at (suc (suc (suc zero))) z h = record { byte = refl; large = refl; known = refl; shape = refl; code = refl }
at (suc (suc (suc (suc zero)))) z h = record { byte = refl; large = refl; known = refl; shape = refl; code = refl }
at (suc (suc (suc (suc (suc n))))) z h = absurd (omega arith)

pub leaves : (p : Part) → before.unknown_part p ≡ false → p.word ≡ false → Leaves p
leaves p k w =
    let z : p.number ≡ 0 → ⊥ = eqb-false p.number 0 (or_left (eqb p.number 0) (ltb 4 p.number) k) in
    let h : p.number ≤ 4 = ltb-false 4 p.number (or_right (eqb p.number 0) (ltb 4 p.number) k) in
    mathlib.Core.Path.subst (λ (b : Bool). Leaves (record { number = p.number; word = b })) (sym w) (at p.number z h)

module _ (d : Device) (l : Leaves d.part) where
  abbrev p : Part
  p = d.part

  size : size_of p ≡ before.size_of p
  unfolding size_of
  size = ap size_in l.shape

  long : (k : ℕ) → length_of p k ≡ before.length_of p k
  unfolding length_of
  long k = ap (λ (s : Shape). length_in s k) l.shape

  start : (k : ℕ) → start_of p k ≡ before.start_of p k
  unfolding start_of
  start k = ap (λ (s : Shape). start_in s k) l.shape

  block : (a : ℕ) → block_of p a ≡ before.block_of p a
  unfolding block_of
  block a = ap (λ (s : Shape). block_in s a) l.shape

  blank : ones p ≡ before.ones p
  unfolding ones
  blank = rw l.byte refl

  unknown : unknown_device d ≡ before.unknown_device d
  unfolding unknown_device
  unknown = rw l.known refl

  low : (q : Pins) → vpp_low p q ≡ before.vpp_low p q
  unfolding vpp_low
  low q = rw l.large refl

  high : (q : Pins) → vpp_high p q ≡ before.vpp_high p q
  unfolding vpp_high at_twelve
  high q = rw l.large refl

  no_wp : (q : Pins) → bad_wp p q ≡ false
  unfolding bad_wp
  no_wp q = rw l.large refl

  pins : (q : Pins) → bad_pins p q ≡ before.bad_pins p q
  unfolding bad_pins
  pins q = rw (low q, high q, no_wp q) (or_none _)

  most : most_oe p ≡ 1
  unfolding most_oe
  most = rw l.large refl

  oe : (k : Kind) (n : ℕ) → bad_oe p k n ≡ before.bad_oe p k n
  oe Read n = refl
  oe Write n = rw most refl
  oe Idle n = refl

  module _ (c : Cycle) where
    levels : bad_levels p c ≡ before.bad_levels p (narrow c)
    unfolding bad_levels
    levels = ap₂ (λ (a b : Bool). a || b) (pins c.pins) (oe c.kind c.oe)

    open_boot : unlocked p c.pins c.oe ≡ before.unlocked p c.pins c.oe
    unfolding unlocked
    open_boot = rw l.large refl

    shut : locked p c ≡ before.locked p (narrow c)
    unfolding locked
    shut = ap₂ (λ (a : Bool) (b : ℕ). not a && eqb b 0) open_boot (block c.address)

  improper_same : (s : State) → improper d s ≡ before.improper d s
  unfolding improper proper
  improper_same s = rw size refl

  -- steps 1 to 3
  cut : (ph : Phase) (a : ℕ) → cut_of ph p a ≡ before.cut_of ph p a
  cut Free a = refl
  cut EraseAwaited a = refl
  cut DataAwaited a = refl
  cut (Programming b) a = refl
  cut Erasing a = ap CutErase (block a)
  cut (Suspending n) a = ap CutErase (block a)
  cut Suspended a = ap CutErase (block a)

  finish : (ph : Phase) (a : ℕ) → finish_of ph p a ≡ before.finish_of ph p a
  finish Free a = refl
  finish EraseAwaited a = refl
  finish DataAwaited a = refl
  finish (Programming b) a = refl
  finish Erasing a = ap Erase (block a)
  finish (Suspending n) a = refl
  finish Suspended a = refl

  needs : (ph : Phase) (a : ℕ) → residue_for ph p a ≡ before.residue_for ph p a
  needs Free a = refl
  needs EraseAwaited a = refl
  needs DataAwaited a = refl
  needs (Programming b) a = refl
  needs Erasing a = long (block_of p a) ∙ ap (before.length_of p) (block a)
  needs (Suspending n) a = long (block_of p a) ∙ ap (before.length_of p) (block a)
  needs Suspended a = long (block_of p a) ∙ ap (before.length_of p) (block a)

  reset : (s : State) → reset_by p s ≡ before.reset_by p s
  reset s = rw (cut s.phase s.address) refl

  cut_by_lem : (s : State) → cut_by p s ≡ before.cut_by p s
  unfolding cut_by
  cut_by_lem s = rw (cut s.phase s.address) refl

  counted : (s : State) → counted_off p s ≡ before.counted_off p s
  unfolding counted_off
  counted s = rw (finish s.phase s.address) refl

  passed : (s : State) → passed_of p s ≡ before.passed_of p s
  unfolding passed_of
  passed s = rw (counted s) refl

  settle : (s : State) (q : Pins) → settle_of p s q ≡ before.settle_of p s q
  unfolding settle_of
  settle s q = rw (low q, reset s, cut_by_lem s, passed s) refl

  -- the commands
  asks : (b : ℕ) → asks_program p b ≡ eqb b 0x40
  unfolding asks_program
  asks b = rw l.large (or_none _)

  first : (b : ℕ) → first_write p b ≡ before.first_write b
  unfolding first_write
  first b = rw (asks b) refl

  action : (ph : Phase) (b : ℕ) → action_of p ph b ≡ before.action_of p ph b
  action Free b = first b
  action EraseAwaited b = refl
  action DataAwaited b = refl
  action (Programming x) b = refl
  action Erasing b = refl
  action (Suspending n) b = refl
  action Suspended b = refl

  module _ (c : Cycle) where
    supply : (s : State) → unsupplied p c s ≡ before.unsupplied p (narrow c) s
    unfolding unsupplied
    supply s = rw (low c.pins) refl

    worn_same : (ph : Phase) (w : Wear) → wear_by ph p c w ≡ wear_by ph p (narrow c) w
    worn_same Free w = refl
    worn_same EraseAwaited w = refl
    worn_same DataAwaited w = refl
    worn_same (Programming x) w = refl
    worn_same Erasing w = refl
    worn_same (Suspending n) w = refl
    worn_same Suspended w = refl

    started : (s : State) (ph : Phase) (t b : ℕ) → started_of p c s ph t b ≡ before.started_of p (narrow c) s ph t b
    unfolding started_of
    started s ph t b = rw (supply s, shut c, worn_same ph s.wear) refl

    carried_byte : data_of p c ≡ (narrow c).data
    unfolding data_of
    carried_byte = rw l.byte refl

    performed : (a : Action) (s : State) → performed_of a d c s ≡ before.performed_of a d (narrow c) s
    performed ToArray s = refl
    performed ToIdentifier s = refl
    performed ToStatus s = refl
    performed Clear s = refl
    performed AwaitErase s = refl
    performed AwaitData s = refl
    performed Confirm s = started s Erasing d.erase 0x20
    performed Store s =
        ap (λ (v : ℕ). started_of p c s (Programming v) d.program 0x10) carried_byte ∙ started s (Programming (narrow c).data) d.program 0x10
    performed WrongSecond s = refl
    performed Suspend s = refl
    performed Resume s = refl
    performed Ignore s = refl
    performed Refuse s = refl

    -- the table of refusals
    past : past_array p c ≡ before.past_array p (narrow c)
    unfolding past_array
    past = rw size refl

    short : (s : State) (r : ℕ) → short_residue p s c r ≡ before.short_residue p s (narrow c) r
    unfolding short_residue
    short s r = rw (low c.pins, needs s.phase s.address) refl

    unheard : (t : State) → no_command p t c ≡ before.no_command p t (narrow c)
    unfolding no_command command_of
    unheard t = rw (action t.phase (c.data % 256)) refl

    held : (t : State) → suspended_read p t c ≡ before.suspended_read p t (narrow c)
    unfolding suspended_read
    held t = rw (block c.address, block t.address) refl

    place : (a : ℕ) → code_place p a ≡ a
    unfolding code_place skips_last
    place a = rw l.large refl

    nameless : (t : State) → no_identifier p t c ≡ before.no_identifier p t (narrow c)
    unfolding no_identifier
    nameless t = rw (place c.address) refl

    table : (s : State) (n r : ℕ) → table_of d s c n r ≡ before.table_of d s (narrow c) n r
    table s n r =
        let t : State = (before.settle_of p s c.pins).state in
        rw (settle s c.pins, unknown, size, improper_same s, levels c, past, short s r, unheard t, held t, nameless t) refl

    number : (s : State) (n r : ℕ) → number_of d s c n r ≡ before.number_of d s (narrow c) n r
    unfolding number_of
    number s n r = ap given (table s n r)

    -- step 4
    name : (a : ℕ) → identifier_of p a ≡ before.identifier_of p a
    unfolding identifier_of
    name a = rw (place a, l.code) refl

    reply : (m : Mode) (a sr : ℕ) → reply_to m p a sr ≡ before.reply_to m p a sr
    reply Array a sr = refl
    reply Status a sr = refl
    reply Identifier a sr = rw (name a) refl

    respond : (k : Kind) (t : Settled) → respond_of k d c t ≡ before.respond_of k d (narrow c) t
    unfolding command_of
    respond Read t = rw (reply t.state.mode c.address t.state.status) refl
    respond Write t = rw (action t.state.phase (c.data % 256), performed (before.action_of p t.state.phase (c.data % 256)) t.state) refl
    respond Idle t = refl

    accept : (t : Settled) → accept_of d c t ≡ before.accept_of d (narrow c) t
    unfolding accept_of
    accept t = rw (respond c.kind t) refl

    decide : (s : State) (n r : ℕ) → decide_of d s c n r ≡ before.decide_of d s (narrow c) n r
    unfolding decide_of
    decide s n r = rw (number s n r, settle s c.pins, accept (before.settle_of p s c.pins)) refl

  -- the array
  array : (e : Effect) (rs xs : List ℕ) → array_of e p rs xs ≡ before.array_of e p rs xs
  unfolding erased residual
  array Nothing rs xs = refl
  array (Program a b) rs xs = refl
  array (Erase k) rs xs = rw (start k, long k, blank) refl
  array (CutProgram a b) rs xs = refl
  array (CutErase k) rs xs = rw (start k, long k) refl

  pub array_same : (s : State) (c : Cycle) (xs rs : List ℕ) → array_after d s c xs rs ≡ before.array_after d s (narrow c) xs rs
  unfolding array_after
  array_same s c xs rs =
      ap (λ (x : Decision). array_of x.effect p rs xs) (decide c s (length xs) (length rs)) ∙ array (before.decide_of d s (narrow c) (length xs) (length rs)).effect rs xs

  pub answer_same : (s : State) (c : Cycle) (xs rs : List ℕ) → answer_of d s c xs rs ≡ before.answer_of d s (narrow c) xs rs
  unfolding answer_of
  answer_same s c xs rs =
      ap₂ (λ (x : Decision) (ys : List ℕ). record { seen = seen_of x.reply ys; state = x.state }) (decide c s (length xs) (length rs)) (array_same s c xs rs)
