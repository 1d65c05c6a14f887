-- Error bits under one cycle and under any.
use mathlib.Core.Path.{◌≡◌, refl, sym, ap, subst, ◌∙◌}
use mathlib.Core.Bool.{Bool, true, false, not, ◌&&◌, ◌||◌}
use mathlib.Core.List.{List, [], ◌∷◌}
use Prim.Native.Nat.{ℕ, ◌-◌, ◌<◌}
use lib.ListN.{length}
use lib.Bits.{bit_and, bit_or}
use lib.Dec.{eqb}
use borrow.Author.Tests.{eqb-true, eqb-false, not-true}
use Rattle.common.proofs.Choice.{if_ind, if_true, and_left, and_right, or_left, or_right, unlike}
use Rattle.device.specs.declared.Part.{Part}
use Rattle.device.specs.declared.Device.{Device}
use Rattle.model_types.specs.declared.Kind.{Kind}
use Rattle.model_types.specs.declared.Kind.TheVariants.{Read, Write, Idle}
use Rattle.model_types.specs.declared.Cycle.{Cycle}
use Rattle.model_types.specs.declared.Phase.{Phase}
use Rattle.model_types.specs.declared.Phase.TheVariants.{Free, EraseAwaited, DataAwaited, Programming, Erasing, Suspending, Suspended}
use Rattle.model_types.specs.declared.State.{State}
use Rattle.model_types.specs.declared.Action.{Action}
use Rattle.model_types.specs.declared.Action.TheVariants.{ToArray, ToIdentifier, ToStatus, Clear, AwaitErase, AwaitData, Confirm, Store, WrongSecond, Suspend, Resume, Ignore, Refuse}
use Rattle.model_types.specs.declared.Settled.{Settled}
use Rattle.model_types.specs.declared.Decision.{Decision}
use Rattle.model_types.specs.Kinds.{is_write}
use Rattle.model_levels.specs.Levels.{rp_low, vpp_low, locked}
use Rattle.model_types.specs.Phases.{is_free, is_pending, is_busy, is_suspending, suspend_left}
use Rattle.model_types.specs.Status.{SR5, SR4, SR3, is_set}
use Rattle.model_commands.specs.Commands.{asks_program, first_write, after_erase, while_erasing, while_suspending, while_suspended, command_of, action_of}
use Rattle.model_actions.specs.Performed.{data_of, performed_of, started_of, unsupplied}
use Rattle.model_operation.specs.Settling.{cut_bits, cut_by, counted_off, suspend_passed, passed_of, settle_of}
use Rattle.model_rules.specs.Cycles.{number_of, decide_of, accept_of, respond_of}
use Rattle.model_rules.proofs.Cases.{refused, accepted}
use Rattle.model_rules.proofs.Facts.{Fine, fine}
use Rattle.model.specs.Arrays.{is_refusal, answer_of}
use Rattle.model.proofs.Status.{all_below, all_below_lem, status_byte}
use Rattle.model.proofs.Keeping.{settle_proper}
use Rattle.model.proofs.Lives.{accept_up, settle_low}
use Rattle.model.proofs.Table.{refused_nothing}
use Rattle.model_history.specs.History.{Bus, World, stepped, world_after}
use Rattle.model_sheet.proofs.Opening.{is_write_lem, free_is}
use Rattle.model_sheet.specs.Sheet.{ErrorBit, erase_error, program_error, supply_error, is_taken, clears, none_clears}

-- every error bit of one status is in the other
abbrev pub Keeps : ℕ → ℕ → Type 0
Keeps x y = (bit : ℕ) → ErrorBit bit → is_set x bit ≡ true → is_set y bit ≡ true

-- one computed test for a mask, and what it says
abbrev bit_kept : (ℕ → ℕ) → ℕ → ℕ → Bool
bit_kept f bit x = not (is_set x bit) || is_set (f x) bit

abbrev all_kept : (ℕ → ℕ) → Bool
all_kept f = all_below (λ x. (bit_kept f SR5 x && bit_kept f SR4 x) && bit_kept f SR3 x) 256

imply : (x y : Bool) → (not x || y) ≡ true → x ≡ true → y ≡ true
imply true y h k = h
imply false y h k = absurd (unlike (sym k))

masked : (f : ℕ → ℕ) → all_kept f ≡ true → (x : ℕ) → x < 256 → Keeps x (f x)
masked f t x h bit e =
    let all = all_below_lem (λ y. (bit_kept f SR5 y && bit_kept f SR4 y) && bit_kept f SR3 y) 256 t x h in
    let two = and_left (bit_kept f SR5 x && bit_kept f SR4 x) (bit_kept f SR3 x) all in
    go e (and_left (bit_kept f SR5 x) (bit_kept f SR4 x) two) (and_right (bit_kept f SR5 x) (bit_kept f SR4 x) two) (and_right (bit_kept f SR5 x && bit_kept f SR4 x) (bit_kept f SR3 x) all)
  where
    go : {bit : ℕ} → ErrorBit bit → bit_kept f SR5 x ≡ true → bit_kept f SR4 x ≡ true → bit_kept f SR3 x ≡ true → is_set x bit ≡ true → is_set (f x) bit ≡ true
    go erase_error p q r = imply (is_set x SR5) (is_set (f x) SR5) p
    go program_error p q r = imply (is_set x SR4) (is_set (f x) SR4) q
    go supply_error p q r = imply (is_set x SR3) (is_set (f x) SR3) r

same : (x : ℕ) → Keeps x x
same x bit e h = h

-- ---- steps 1 to 3 with RP# up
cut_keeps : (ph : Phase) (x : ℕ) → x < 256 → Keeps x (bit_or (bit_and x 0xBF) (cut_bits ph))
cut_keeps Free = masked (λ x. bit_or (bit_and x 0xBF) 0) refl
cut_keeps EraseAwaited = masked (λ x. bit_or (bit_and x 0xBF) 0) refl
cut_keeps DataAwaited = masked (λ x. bit_or (bit_and x 0xBF) 0) refl
cut_keeps (Programming b) = masked (λ x. bit_or (bit_and x 0xBF) 0x98) refl
cut_keeps Erasing = masked (λ x. bit_or (bit_and x 0xBF) 0xA8) refl
cut_keeps (Suspending n) = masked (λ x. bit_or (bit_and x 0xBF) 0xA8) refl
cut_keeps Suspended = masked (λ x. bit_or (bit_and x 0xBF) 0xA8) refl

settle_keeps : (part : Part) (s : State) (c : Cycle) → rp_low c.pins ≡ false → s.status < 256 → Keeps s.status (settle_of part s c.pins).state.status
unfolding settle_of cut_by passed_of suspend_passed counted_off
settle_keeps part s c up h =
    if_ind In (rp_low c.pins) _ _ (λ x. absurd (unlike (sym x ∙ up)))
    (λ x. if_ind In (vpp_low part c.pins && is_pending s.phase) _ _ (λ v. cut_keeps s.phase s.status h)
    (λ v. if_ind In (is_busy s.phase) _ _
    (λ b. if_ind In (is_suspending s.phase) _ _
    (λ u. if_ind In (eqb (suspend_left s.phase - 1) 0) _ _ (λ l. masked (λ y. bit_or y 0xC0) refl s.status h) (λ l. same s.status))
    (λ u. if_ind In (eqb (s.left - 1) 0) _ _ (λ l. masked (λ y. bit_or y 0x80) refl s.status h) (λ l. same s.status)))
    (λ b. same s.status)))
  where
    In : Settled → Type 0
    In t = Keeps s.status t.state.status

-- ---- step 4
abbrev is_clear : Action → Bool
is_clear ToArray = false
is_clear ToIdentifier = false
is_clear ToStatus = false
is_clear Clear = true
is_clear AwaitErase = false
is_clear AwaitData = false
is_clear Confirm = false
is_clear Store = false
is_clear WrongSecond = false
is_clear Suspend = false
is_clear Resume = false
is_clear Ignore = false
is_clear Refuse = false

started_keeps : (part : Part) (c : Cycle) (s : State) (ph : Phase) (time bit : ℕ) → s.status < 256
    → Keeps s.status (bit_or (bit_or s.status 0x08) bit) → Keeps s.status (bit_or s.status bit) → Keeps s.status (started_of part c s ph time bit).status
unfolding started_of
started_keeps part c s ph time bit h both one =
    if_ind In (unsupplied part c s) _ _ (λ u. both) (λ u. if_ind In (locked part c) _ _ (λ l. one) (λ l. masked (λ y. bit_and y 0x7F) refl s.status h))
  where
    In : State → Type 0
    In t = Keeps s.status t.status

act_keeps : (a : Action) (d : Device) (c : Cycle) (s : State) → is_clear a ≡ false → s.status < 256 → Keeps s.status (performed_of a d c s).status
act_keeps ToArray d c s e h = same s.status
act_keeps ToIdentifier d c s e h = same s.status
act_keeps ToStatus d c s e h = same s.status
act_keeps Clear d c s e h = absurd (unlike e)
act_keeps AwaitErase d c s e h = same s.status
act_keeps AwaitData d c s e h = same s.status
act_keeps Confirm d c s e h =
    started_keeps d.part c s Erasing d.erase 0x20 h (masked (λ y. bit_or (bit_or y 0x08) 0x20) refl s.status h) (masked (λ y. bit_or y 0x20) refl s.status h)
act_keeps Store d c s e h =
    started_keeps d.part c s (Programming (data_of d.part c)) d.program 0x10 h (masked (λ y. bit_or (bit_or y 0x08) 0x10) refl s.status h) (masked (λ y. bit_or y 0x10) refl s.status h)
act_keeps WrongSecond d c s e h = masked (λ y. bit_or y 0x30) refl s.status h
act_keeps Suspend d c s e h = same s.status
act_keeps Resume d c s e h = masked (λ y. bit_and y 0x3F) refl s.status h
act_keeps Ignore d c s e h = same s.status
act_keeps Refuse d c s e h = same s.status

-- only 50H at rest asks for a clear
clear_only : (part : Part) (ph : Phase) (b : ℕ) → (eqb b 0x50 && is_free ph) ≡ false → is_clear (action_of part ph b) ≡ false
unfolding first_write after_erase while_erasing while_suspending while_suspended
clear_only part Free b e =
    if_ind P (eqb b 0xFF) _ _ (λ x. refl)
    (λ x. if_ind P (eqb b 0xB0) _ _ (λ x. refl)
    (λ x. if_ind P (eqb b 0x90) _ _ (λ x. refl)
    (λ x. if_ind P (eqb b 0x70) _ _ (λ x. refl)
    (λ x. if_ind P (eqb b 0x50) _ _ (λ q. absurd (unlike (sym (ap (λ (y : Bool). y && true) q) ∙ e)))
    (λ x. if_ind P (eqb b 0x20) _ _ (λ x. refl)
    (λ x. if_ind P (asks_program part b) _ _ (λ x. refl) (λ x. refl)))))))
  where
    P : Action → Type 0
    P y = is_clear y ≡ false
clear_only part EraseAwaited b e = if_ind (λ (y : Action). is_clear y ≡ false) (eqb b 0xD0) _ _ (λ x. refl) (λ x. refl)
clear_only part DataAwaited b e = refl
clear_only part (Programming x) b e = refl
clear_only part Erasing b e = if_ind (λ (y : Action). is_clear y ≡ false) (eqb b 0xB0) _ _ (λ x. refl) (λ x. refl)
clear_only part (Suspending n) b e = if_ind (λ (y : Action). is_clear y ≡ false) (eqb b 0x70) _ _ (λ x. refl) (λ x. refl)
clear_only part Suspended b e =
    if_ind P (eqb b 0xFF) _ _ (λ x. refl) (λ x. if_ind P (eqb b 0x70) _ _ (λ x. refl) (λ x. if_ind P (eqb b 0xD0) _ _ (λ x. refl) (λ x. refl)))
  where
    P : Action → Type 0
    P y = is_clear y ≡ false

-- ---- a cycle that is not refused
pub number_zero : (d : Device) (s : State) (c : Cycle) (n r : ℕ) → is_refusal (decide_of d s c n r).reply ≡ false → number_of d s c n r ≡ 0
number_zero d s c n r e = go (eqb (number_of d s c n r) 0) refl
  where
    go : (b : Bool) → eqb (number_of d s c n r) 0 ≡ b → number_of d s c n r ≡ 0
    go true q = eqb-true (number_of d s c n r) 0 q
    go false q =
        absurd (unlike (sym (ap (λ (x : Decision). is_refusal x.reply) (refused d s c n r (number_of d s c n r) refl (eqb-false (number_of d s c n r) 0 q))) ∙ e))

module _ (d : Device) (v : World) (b : Bus) where
  abbrev s : State
  s = v.state

  abbrev c : Cycle
  c = b.cycle

  abbrev all : Decision
  all = decide_of d s c (length v.bytes) (length b.residue)

  abbrev t : Settled
  t = settle_of d.part s c.pins

  abbrev fifty : Bool
  fifty = is_write c.kind && (eqb (command_of c) 0x50 && is_free t.state.phase)

  module _ (taken : is_refusal all.reply ≡ false) where
    zero : number_of d s c (length v.bytes) (length b.residue) ≡ 0
    zero = number_zero d s c (length v.bytes) (length b.residue) taken

    facts : Fine d s c (length v.bytes) (length b.residue)
    facts = fine d s c (length v.bytes) (length b.residue) zero

    is : all ≡ accept_of d c t
    is = accepted d s c (length v.bytes) (length b.residue) zero

    small : s.status < 256
    small = status_byte s.phase s.status facts.proper.status

    small_then : t.state.status < 256
    small_then = status_byte t.state.phase t.state.status (settle_proper d s c facts.proper).status

    kinds : (k : Kind) → (is_write k && (eqb (command_of c) 0x50 && is_free t.state.phase)) ≡ false → Keeps t.state.status (respond_of k d c t).state.status
    kinds Read e = same t.state.status
    kinds Write e = act_keeps (action_of d.part t.state.phase (command_of c)) d c t.state (clear_only d.part t.state.phase (command_of c) e) small_then
    kinds Idle e = same t.state.status

    taken_keeps : (rp_low c.pins || fifty) ≡ false → Keeps s.status all.state.status
    taken_keeps e =
        let up = or_left (rp_low c.pins) fifty e in
        let q : all ≡ respond_of c.kind d c t = is ∙ accept_up d c t up in
        subst (λ (x : Decision). Keeps s.status x.state.status) (sym q)
        (λ bit k h. kinds c.kind (or_right (rp_low c.pins) fifty e) bit k (settle_keeps d.part s c up small bit k h))

  step_keeps : clears d v b ≡ false → Keeps s.status (stepped d v b).state.status
  unfolding answer_of
  step_keeps e = go (is_refusal all.reply) refl
    where
      go : (x : Bool) → is_refusal all.reply ≡ x → Keeps s.status all.state.status
      go true r = subst (λ (u : State). Keeps s.status u.status) (sym (refused_nothing d s c (length v.bytes) (length b.residue) r).0) (same s.status)
      go false r = taken_keeps r (sym (ap (λ (x : Bool). not x && (rp_low c.pins || fifty)) r) ∙ e)

-- any cycles
pub stay : (d : Device) (bs : List Bus) (v : World) → none_clears d v bs ≡ true → Keeps v.state.status (world_after d v bs).state.status
stay d [] v e bit k h = h
stay d (b ∷ bs) v e bit k h =
    stay d bs (stepped d v b) (and_right (not (clears d v b)) (none_clears d (stepped d v b) bs) e) bit k
    (step_keeps d v b (not-true (clears d v b) (and_left (not (clears d v b)) (none_clears d (stepped d v b) bs) e)) bit k h)

-- ---- what 50H and a reset leave
none_left : (x : ℕ) → x < 256 → (bit : ℕ) → ErrorBit bit → is_set (bit_and x 0xC7) bit ≡ false
none_left x h bit e =
    let f : ℕ → Bool = λ y. (not (is_set (bit_and y 0xC7) SR5) && not (is_set (bit_and y 0xC7) SR4)) && not (is_set (bit_and y 0xC7) SR3) in
    let all : f x ≡ true = all_below_lem f 256 refl x h in
    let n5 = not (is_set (bit_and x 0xC7) SR5) in
    let n4 = not (is_set (bit_and x 0xC7) SR4) in
    let n3 = not (is_set (bit_and x 0xC7) SR3) in
    go e (and_left n5 n4 (and_left (n5 && n4) n3 all)) (and_right n5 n4 (and_left (n5 && n4) n3 all)) (and_right (n5 && n4) n3 all)
  where
    go : {bit : ℕ} → ErrorBit bit → not (is_set (bit_and x 0xC7) SR5) ≡ true → not (is_set (bit_and x 0xC7) SR4) ≡ true → not (is_set (bit_and x 0xC7) SR3) ≡ true
        → is_set (bit_and x 0xC7) bit ≡ false
    go erase_error p q r = not-true (is_set (bit_and x 0xC7) SR5) p
    go program_error p q r = not-true (is_set (bit_and x 0xC7) SR4) q
    go supply_error p q r = not-true (is_set (bit_and x 0xC7) SR3) r

reset_none : {bit : ℕ} → ErrorBit bit → is_set 0x80 bit ≡ false
reset_none erase_error = refl
reset_none program_error = refl
reset_none supply_error = refl

fifty_clears : (part : Part) → action_of part Free 0x50 ≡ Clear
unfolding first_write
fifty_clears part = refl

module _ (d : Device) (v : World) (b : Bus) (yes : clears d v b ≡ true) (bit : ℕ) (k : ErrorBit bit) where
  abbrev low : Bool
  low = rp_low b.cycle.pins

  abbrev cl : Bool
  cl = low || fifty d v b

  taken : is_refusal (all d v b).reply ≡ false
  taken = not-true (is_refusal (all d v b).reply) (and_left (is_taken d v b) cl yes)

  by_reset : low ≡ true → is_set (all d v b).state.status bit ≡ false
  unfolding accept_of
  by_reset e =
      ap (λ (x : Decision). is_set x.state.status bit) (is d v b taken ∙ if_true low _ _ e)
      ∙ ap (λ (u : State). is_set u.status bit) (settle_low d.part v.state b.cycle e) ∙ reset_none k

  by_fifty : low ≡ false → fifty d v b ≡ true → is_set (all d v b).state.status bit ≡ false
  by_fifty up e =
      let w = is_write b.cycle.kind in
      let f = eqb (command_of b.cycle) 0x50 in
      let rest = is_free (t d v b).state.phase in
      let two : (f && rest) ≡ true = and_right w (f && rest) e in
      let kind : b.cycle.kind ≡ Write = is_write_lem b.cycle.kind (and_left w (f && rest) e) in
      let asks : action_of d.part (t d v b).state.phase (command_of b.cycle) ≡ Clear =
      ap (λ (ph : Phase). action_of d.part ph (command_of b.cycle)) (free_is (t d v b).state.phase (and_right f rest two)).0
      ∙ ap (action_of d.part Free) (eqb-true (command_of b.cycle) 0x50 (and_left f rest two)) ∙ fifty_clears d.part in
      ap (λ (x : Decision). is_set x.state.status bit) (is d v b taken ∙ accept_up d b.cycle (t d v b) up ∙ ap (λ (x : Kind). respond_of x d b.cycle (t d v b)) kind)
      ∙ ap (λ (x : Action). is_set (performed_of x d b.cycle (t d v b).state).status bit) asks
      ∙ none_left (t d v b).state.status (small_then d v b taken) bit k

  pub cleared : is_set (stepped d v b).state.status bit ≡ false
  unfolding answer_of
  cleared = go low refl
    where
      go : (x : Bool) → low ≡ x → is_set (all d v b).state.status bit ≡ false
      go true e = by_reset e
      go false e = by_fifty e (sym (ap (λ (x : Bool). x || fifty d v b) e) ∙ and_right (is_taken d v b) cl yes)
