-- Proper stays proper: through settling, through an action, through a cycle.
use mathlib.Core.Path.{◌≡◌, refl, sym, subst, ◌∙◌}
use mathlib.Core.Bool.{Bool, true, false, ◌&&◌, ◌||◌}
use Prim.Native.Nat.{ℕ, ◌-◌, ◌≤◌}
use native.Mathlib.Omega.{arith}
use lib.Bits.{bit_and, bit_or}
use lib.Dec.{eqb, ltb, leb}
use borrow.Author.Tests.{ltb-false, eqb-false, ne_eqb, le-ltb}
use Rattle.common.proofs.Choice.{if_ind, and_right, or_left, or_right, or_both, unlike}
use Rattle.device.specs.declared.Device.{Device}
use Rattle.device.specs.Parts.{size_of, unknown_device, unknown_part}
use Rattle.model_types.specs.declared.State.{State}
use Rattle.model_types.specs.declared.Cycle.{Cycle}
use Rattle.model_types.specs.declared.Settled.{Settled}
use Rattle.model_types.specs.declared.Decision.{Decision}
use Rattle.model_types.specs.declared.Action.{Action}
use Rattle.model_types.specs.declared.Kind.{Kind}
use Rattle.model_types.specs.declared.Kind.TheVariants.{Read, Write, Idle}
use Rattle.model_types.specs.declared.Mode.{Mode}
use Rattle.model_types.specs.declared.Mode.TheVariants.{Array, Status, Identifier}
use Rattle.model_types.specs.declared.Phase.{Phase}
use Rattle.model_types.specs.declared.Phase.TheVariants.{Free, EraseAwaited, DataAwaited, Programming, Erasing, Suspending, Suspended}
use Rattle.model_levels.specs.Levels.{rp_low, vpp_low, locked}
use Rattle.model_states.specs.States.{is_at_rest, fresh_state}
use Rattle.model_states.specs.Inner.{bad_mode, bad_status, bad_left, bad_address, top_bits}
use Rattle.model_types.specs.Phases.{is_pending, is_busy, is_suspending, suspend_left}
use Rattle.model_commands.specs.Commands.{asks_program, first_write, after_erase, while_erasing, while_suspending, while_suspended, command_of, action_of}
use Rattle.model_actions.specs.Performed.{data_of, performed_of, started_of, unsupplied}
use Rattle.model_operation.specs.Settling.{cut_bits, cut_by, counted_off, suspend_passed, passed_of, settle_of}
use Rattle.model_judge.specs.Judging.{past_array}
use Rattle.model_rules.specs.Cycles.{decide_of, accept_of, respond_of}
use Rattle.model_rules.proofs.Facts.{Proper, Fine}
use Rattle.model.proofs.Outcome.{outcome, accept_cases}
use Rattle.model.proofs.Status as sr
use Rattle.model.proofs.Status.{fits, kept, status_fits, fits_status}

-- a state written out, from one whose other parts it keeps
abbrev pub st : State → Mode → ℕ → Phase → ℕ → ℕ → State
st s m x ph l a = record { mode = m; status = x; phase = ph; left = l; address = a; wear = s.wear }

-- at rest with a ready status is proper, whatever the mode
pub rest_proper : (d : Device) (s : State) (m : Mode) (x : ℕ) → fits 2 x ≡ true → Proper d (is_at_rest s m x)
unfolding bad_left bad_address
rest_proper d s m x e = record { mode = refl; status = fits_status Free x e; left = refl; address = refl }

pub fresh_proper : (d : Device) → Proper d fresh_state
fresh_proper d = rest_proper d fresh_state Array 0x80 refl

cut_status : (ph : Phase) → is_pending ph ≡ true → (x : ℕ) → fits (top_bits ph) x ≡ true → fits 2 (bit_or (bit_and x 0xBF) (cut_bits ph)) ≡ true
cut_status Free p x e = absurd (unlike (sym p))
cut_status EraseAwaited p x e = absurd (unlike (sym p))
cut_status DataAwaited p x e = absurd (unlike (sym p))
cut_status (Programming b) p x e = kept (λ y. bit_or (bit_and y 0xBF) 0x98) 0 2 (omega arith) sr.cut_program x e
cut_status Erasing p x e = kept (λ y. bit_or (bit_and y 0xBF) 0xA8) 0 2 (omega arith) sr.cut_erase x e
cut_status (Suspending n) p x e = kept (λ y. bit_or (bit_and y 0xBF) 0xA8) 0 2 (omega arith) sr.cut_erase x e
cut_status Suspended p x e = kept (λ y. bit_or (bit_and y 0xBF) 0xA8) 3 2 (omega arith) sr.cut_suspended x e

busy_top : (ph : Phase) → is_busy ph ≡ true → top_bits ph ≡ 0
busy_top Free p = absurd (unlike (sym p))
busy_top EraseAwaited p = absurd (unlike (sym p))
busy_top DataAwaited p = absurd (unlike (sym p))
busy_top (Programming b) p = refl
busy_top Erasing p = refl
busy_top (Suspending n) p = refl
busy_top Suspended p = absurd (unlike (sym p))

-- one cycle counted off leaves a count in range
one_less : (most l : ℕ) → eqb (l - 1) 0 ≡ false → (eqb l 0 || ltb most l) ≡ false → (eqb (l - 1) 0 || ltb most (l - 1)) ≡ false
one_less most l h e =
    let m : l ≤ most = ltb-false most l (or_right (eqb l 0) (ltb most l) e) in
    or_both (eqb (l - 1) 0) (ltb most (l - 1)) h (le-ltb most (l - 1) (omega arith))

-- .. and a count beside which there is none of a suspend
alone : (most l : ℕ) → ((eqb l 0 || ltb most l) || false) ≡ false → eqb (l - 1) 0 ≡ false → ((eqb (l - 1) 0 || ltb most (l - 1)) || false) ≡ false
alone most l e h =
    or_both (eqb (l - 1) 0 || ltb most (l - 1)) false (one_less most l h (or_left (eqb l 0 || ltb most l) false e)) refl

counted_left : (d : Device) (ph : Phase) (l : ℕ) → is_busy ph ≡ true → is_suspending ph ≡ false → eqb (l - 1) 0 ≡ false → bad_left d ph l ≡ false
    → bad_left d ph (l - 1) ≡ false
unfolding bad_left
counted_left d Free l p u h e = absurd (unlike (sym p))
counted_left d EraseAwaited l p u h e = absurd (unlike (sym p))
counted_left d DataAwaited l p u h e = absurd (unlike (sym p))
counted_left d (Programming b) l p u h e = alone d.program l e h
counted_left d Erasing l p u h e = alone d.erase l e h
counted_left d (Suspending n) l p u h e = absurd (unlike u)
counted_left d Suspended l p u h e = absurd (unlike (sym p))

-- a suspend under way counts its own, and is done in the same erase
suspend_more : (d : Device) (ph : Phase) (l : ℕ) → is_suspending ph ≡ true → eqb (suspend_left ph - 1) 0 ≡ false → bad_left d ph l ≡ false
    → bad_left d (Suspending (suspend_left ph - 1)) l ≡ false
unfolding bad_left
suspend_more d Free l u h e = absurd (unlike (sym u))
suspend_more d EraseAwaited l u h e = absurd (unlike (sym u))
suspend_more d DataAwaited l u h e = absurd (unlike (sym u))
suspend_more d (Programming b) l u h e = absurd (unlike (sym u))
suspend_more d Erasing l u h e = absurd (unlike (sym u))
suspend_more d (Suspending n) l u h e =
    let a = eqb l 0 || ltb d.erase l in
    or_both a (eqb (n - 1) 0 || ltb d.suspend (n - 1)) (or_left a (eqb n 0 || ltb d.suspend n) e)
    (one_less d.suspend n h (or_right a (eqb n 0 || ltb d.suspend n) e))
suspend_more d Suspended l u h e = absurd (unlike (sym u))

suspend_done : (d : Device) (ph : Phase) (l : ℕ) → is_suspending ph ≡ true → bad_left d ph l ≡ false → bad_left d Suspended l ≡ false
unfolding bad_left
suspend_done d Free l u e = absurd (unlike (sym u))
suspend_done d EraseAwaited l u e = absurd (unlike (sym u))
suspend_done d DataAwaited l u e = absurd (unlike (sym u))
suspend_done d (Programming b) l u e = absurd (unlike (sym u))
suspend_done d Erasing l u e = absurd (unlike (sym u))
suspend_done d (Suspending n) l u e =
    let a = eqb l 0 || ltb d.erase l in or_both a false (or_left a (eqb n 0 || ltb d.suspend n) e) refl
suspend_done d Suspended l u e = absurd (unlike (sym u))

-- the erase's address stays
suspend_address : (d : Device) (ph : Phase) (a : ℕ) → is_busy ph ≡ true → bad_address d ph a ≡ false → bad_address d Suspended a ≡ false
unfolding bad_address
suspend_address d Free a b e = absurd (unlike (sym b))
suspend_address d EraseAwaited a b e = absurd (unlike (sym b))
suspend_address d DataAwaited a b e = absurd (unlike (sym b))
suspend_address d (Programming x) a b e = e
suspend_address d Erasing a b e = e
suspend_address d (Suspending n) a b e = e
suspend_address d Suspended a b e = absurd (unlike (sym b))

-- one cycle of a suspend under way
suspend_proper : (d : Device) (s : State) → Proper d s → is_busy s.phase ≡ true → is_suspending s.phase ≡ true → Proper d (suspend_passed s).state
unfolding suspend_passed bad_address
suspend_proper d s p b u =
    if_ind (λ (t : Settled). Proper d t.state) (eqb (suspend_left s.phase - 1) 0) _ _
    (λ l. record {
      mode = refl;
      status = fits_status Suspended (bit_or s.status 0xC0) (kept (λ y. bit_or y 0xC0) 0 3 (omega arith) sr.suspend s.status f);
      left = suspend_done d s.phase s.left u p.left;
      address = suspend_address d s.phase s.address b p.address;
    })
    (λ l. record {
      mode = refl;
      status = fits_status (Suspending (suspend_left s.phase - 1)) s.status f;
      left = suspend_more d s.phase s.left u l p.left;
      address = suspend_address d s.phase s.address b p.address;
    })
  where
    f : fits 0 s.status ≡ true
    f = subst (λ (n : ℕ). fits n s.status ≡ true) (busy_top s.phase b) (status_fits s.phase s.status p.status)

-- steps 1 to 3
pub settle_proper : (d : Device) (s : State) (c : Cycle) → Proper d s → Proper d (settle_of d.part s c.pins).state
unfolding settle_of cut_by passed_of counted_off
settle_proper d s c p =
    if_ind In (rp_low c.pins) _ _ (λ e. rest_proper d s Array 0x80 refl)
    (λ e. if_ind In (vpp_low d.part c.pins && is_pending s.phase) _ _
    (λ v. rest_proper d s Status (bit_or (bit_and s.status 0xBF) (cut_bits s.phase))
    (cut_status s.phase (and_right (vpp_low d.part c.pins) (is_pending s.phase) v) s.status (status_fits s.phase s.status p.status)))
    (λ v. if_ind In (is_busy s.phase) _ _
    (λ b. if_ind In (is_suspending s.phase) _ _ (λ u. suspend_proper d s p b u)
    (λ u. if_ind In (eqb (s.left - 1) 0) _ _
    (λ l. rest_proper d s s.mode (bit_or s.status 0x80)
    (kept (λ y. bit_or y 0x80) 0 2 (omega arith) sr.finish s.status (subst (λ (n : ℕ). fits n s.status ≡ true) (busy_top s.phase b) (status_fits s.phase s.status p.status))))
    (λ l. record { mode = p.mode; status = p.status; left = counted_left d s.phase s.left b u l p.left; address = p.address })))
    (λ b. p)))
  where
    In : Settled → Type 0
    In t = Proper d t.state

-- a confirm or data, of either operation
started_proper : (d : Device) (c : Cycle) (s : State) (ph : Phase) (time bit : ℕ) → fits 2 (bit_or (bit_or s.status 0x08) bit) ≡ true → fits 2 (bit_or s.status bit) ≡ true
    → Proper d (st s s.mode (bit_and s.status 0x7F) ph time c.address) → Proper d (started_of d.part c s ph time bit)
unfolding started_of
started_proper d c s ph time bit low lock run =
    if_ind (λ (u : State). Proper d u) (unsupplied d.part c s) _ _ (λ e. rest_proper d s s.mode (bit_or (bit_or s.status 0x08) bit) low)
    (λ e. if_ind (λ (u : State). Proper d u) (locked d.part c) _ _ (λ l. rest_proper d s s.mode (bit_or s.status bit) lock)
    (λ l. record { mode = run.mode; status = run.status; left = run.left; address = run.address }))

full : (most : ℕ) → (most ≡ 0 → ⊥) → (eqb most 0 || ltb most most) ≡ false
full most z = or_both (eqb most 0) (ltb most most) (ne_eqb most 0 z) (le-ltb most most (omega arith))

full_alone : (most : ℕ) → (most ≡ 0 → ⊥) → ((eqb most 0 || ltb most most) || false) ≡ false
full_alone most z = or_both (eqb most 0 || ltb most most) false (full most z) refl

-- any action that the phase and the byte ask for
pub act_proper : (d : Device) (c : Cycle) → (d.program ≡ 0 → ⊥) → (d.erase ≡ 0 → ⊥) → (d.suspend ≡ 0 → ⊥) → leb (size_of d.part) c.address ≡ false
    → (s : State) (m : Mode) (x : ℕ) (ph : Phase) (l a : ℕ) → Proper d (st s m x ph l a) → Proper d (performed_of (action_of d.part ph (command_of c)) d c (st s m x ph l a))
unfolding first_write after_erase while_erasing while_suspending while_suspended bad_status bad_left bad_address
act_proper d c zp ze zs h s m x Free l a p =
    if_ind P (eqb (command_of c) 0xFF) _ _ (λ e. record { mode = refl; status = p.status; left = p.left; address = p.address })
    (λ e. if_ind P (eqb (command_of c) 0xB0) _ _ (λ e. record { mode = refl; status = p.status; left = p.left; address = p.address })
    (λ e. if_ind P (eqb (command_of c) 0x90) _ _ (λ e. record { mode = refl; status = p.status; left = p.left; address = p.address })
    (λ e. if_ind P (eqb (command_of c) 0x70) _ _ (λ e. record { mode = refl; status = p.status; left = p.left; address = p.address })
    (λ e. if_ind P (eqb (command_of c) 0x50) _ _
    (λ e. record { mode = refl; status = fits_status Free (bit_and x 0xC7) (kept (λ y. bit_and y 0xC7) 2 2 (omega arith) sr.clear x (status_fits Free x p.status)); left = p.left; address = p.address })
    (λ e. if_ind P (eqb (command_of c) 0x20) _ _ (λ e. record { mode = refl; status = p.status; left = p.left; address = p.address })
    (λ e. if_ind P (asks_program d.part (command_of c)) _ _ (λ e. record { mode = refl; status = p.status; left = p.left; address = p.address })
    (λ e. p)))))))
  where
    P : Action → Type 0
    P x' = Proper d (performed_of x' d c (st s m x Free l a))
act_proper d c zp ze zs h s m x EraseAwaited l a p =
    let f : fits 2 x ≡ true = status_fits EraseAwaited x p.status in
    if_ind (λ (y : Action). Proper d (performed_of y d c (st s m x EraseAwaited l a))) (eqb (command_of c) 0xD0) _ _
    (λ e. started_proper d c (st s m x EraseAwaited l a) Erasing d.erase 0x20 (kept (λ y. bit_or (bit_or y 0x08) 0x20) 2 2 (omega arith) sr.low_erase x f)
    (kept (λ y. bit_or y 0x20) 2 2 (omega arith) sr.locked_erase x f)
    (record { mode = p.mode; status = fits_status Erasing (bit_and x 0x7F) (kept (λ y. bit_and y 0x7F) 2 0 (omega arith) sr.start x f); left = full_alone d.erase ze; address = h }))
    (λ e. rest_proper d (st s m x EraseAwaited l a) m (bit_or x 0x30) (kept (λ y. bit_or y 0x30) 2 2 (omega arith) sr.wrong_second x f))
act_proper d c zp ze zs h s m x DataAwaited l a p =
    let f : fits 2 x ≡ true = status_fits DataAwaited x p.status in
    started_proper d c (st s m x DataAwaited l a) (Programming (data_of d.part c)) d.program 0x10 (kept (λ y. bit_or (bit_or y 0x08) 0x10) 2 2 (omega arith) sr.low_program x f)
    (kept (λ y. bit_or y 0x10) 2 2 (omega arith) sr.locked_program x f)
    (record { mode = p.mode; status = fits_status (Programming (data_of d.part c)) (bit_and x 0x7F) (kept (λ y. bit_and y 0x7F) 2 0 (omega arith) sr.start x f); left = full_alone d.program zp; address = h })
act_proper d c zp ze zs h s m x (Programming b) l a p = p
act_proper d c zp ze zs h s m x Erasing l a p =
    if_ind (λ (y : Action). Proper d (performed_of y d c (st s m x Erasing l a))) (eqb (command_of c) 0xB0) _ _
    (λ e. record {
      mode = refl;
      status = p.status;
      left = or_both (eqb l 0 || ltb d.erase l) (eqb d.suspend 0 || ltb d.suspend d.suspend) (or_left (eqb l 0 || ltb d.erase l) false p.left) (full d.suspend zs);
      address = p.address;
    })
    (λ e. p)
act_proper d c zp ze zs h s m x (Suspending n) l a p =
    if_ind (λ (y : Action). Proper d (performed_of y d c (st s m x (Suspending n) l a))) (eqb (command_of c) 0x70) _ _
    (λ e. record { mode = refl; status = p.status; left = p.left; address = p.address })
    (λ e. p)
act_proper d c zp ze zs h s m x Suspended l a p =
    if_ind P (eqb (command_of c) 0xFF) _ _ (λ e. record { mode = refl; status = p.status; left = p.left; address = p.address })
    (λ e. if_ind P (eqb (command_of c) 0x70) _ _ (λ e. record { mode = refl; status = p.status; left = p.left; address = p.address })
    (λ e. if_ind P (eqb (command_of c) 0xD0) _ _
    (λ e. record { mode = refl; status = fits_status Erasing (bit_and x 0x3F) (kept (λ y. bit_and y 0x3F) 3 0 (omega arith) sr.resume x (status_fits Suspended x p.status)); left = p.left; address = p.address })
    (λ e. p)))
  where
    P : Action → Type 0
    P y = Proper d (performed_of y d c (st s m x Suspended l a))

-- the address of a read or write that is accepted
pub address_inside : (d : Device) (c : Cycle) → past_array d.part c ≡ false → rp_low c.pins ≡ false → c.kind ≡ Write → leb (size_of d.part) c.address ≡ false
unfolding past_array
address_inside d c f e k = out (leb (size_of d.part) c.address) (simp (k, e) at f)
  where
    out : (b : Bool) → ((b && true) && true) ≡ false → b ≡ false
    out true h = h
    out false h = refl

-- a known device has busy times
pub times : (d : Device) → unknown_device d ≡ false → (d.program ≡ 0 → ⊥) × (d.erase ≡ 0 → ⊥) × (d.suspend ≡ 0 → ⊥)
unfolding unknown_device
times d e =
    let a = unknown_part d.part in
    let b = eqb d.program 0 in
    let z = eqb d.erase 0 in
    let u = eqb d.suspend 0 in
    let f : (((a || b) || z) || u) ≡ false = or_left (((a || b) || z) || u) (ltb 100 d.suspend) e in
    let g : ((a || b) || z) ≡ false = or_left ((a || b) || z) u f in
    (eqb-false d.program 0 (or_right a b (or_left (a || b) z g)), eqb-false d.erase 0 (or_right (a || b) z g), eqb-false d.suspend 0 (or_right ((a || b) || z) u f))

-- step 4
accept_proper : (d : Device) (s : State) (c : Cycle) (n r : ℕ) → Fine d s c n r → Proper d (accept_of d c (settle_of d.part s c.pins)).state
accept_proper d s c n r f = accept_cases d c (settle_of d.part s c.pins) (λ (x : Decision). Proper d x.state) (λ e. p) (λ e k q. kinds k q e)
  where
    t : State
    t = (settle_of d.part s c.pins).state

    p : Proper d t
    p = settle_proper d s c f.proper

    kinds : (k : Kind) → c.kind ≡ k → rp_low c.pins ≡ false → Proper d (respond_of k d c (settle_of d.part s c.pins)).state
    kinds Read k e = p
    kinds Write k e = act_proper d c (times d f.known).0 (times d f.known).1 (times d f.known).2 (address_inside d c f.inside e k) t t.mode t.status t.phase t.left t.address p
    kinds Idle k e = p

-- a cycle from a proper state leaves a proper state, refused or not
pub cycle_proper : (d : Device) (s : State) (c : Cycle) (n r : ℕ) → Proper d s → Proper d (decide_of d s c n r).state
cycle_proper d s c n r p = outcome d s c n r (λ (x : Decision). Proper d x.state) (λ m z e. p) (λ z. accept_proper d s c n r)

-- while busy the mode is read status
busy_mode : (ph : Phase) (m : Mode) → is_busy ph ≡ true → bad_mode ph m ≡ false → m ≡ Status
busy_mode Free m b e = absurd (unlike (sym b))
busy_mode EraseAwaited m b e = absurd (unlike (sym b))
busy_mode DataAwaited m b e = absurd (unlike (sym b))
busy_mode (Programming x) Array b e = absurd (unlike e)
busy_mode (Programming x) Status b e = refl
busy_mode (Programming x) Identifier b e = absurd (unlike e)
busy_mode Erasing Array b e = absurd (unlike e)
busy_mode Erasing Status b e = refl
busy_mode Erasing Identifier b e = absurd (unlike e)
busy_mode (Suspending n) Array b e = absurd (unlike e)
busy_mode (Suspending n) Status b e = refl
busy_mode (Suspending n) Identifier b e = absurd (unlike e)
busy_mode Suspended m b e = absurd (unlike (sym b))

pub settled_busy : (d : Device) (s : State) (c : Cycle) → Proper d s → is_busy (settle_of d.part s c.pins).state.phase ≡ true
    → (settle_of d.part s c.pins).state.mode ≡ Status
settled_busy d s c p b = let t : State = (settle_of d.part s c.pins).state in busy_mode t.phase t.mode b (settle_proper d s c p).mode

-- with RP# up steps 2 and 3 leave that mode, also where they cut or end the operation
pub settled_mode : (d : Device) (s : State) (c : Cycle) → Proper d s → rp_low c.pins ≡ false → is_busy s.phase ≡ true
    → (settle_of d.part s c.pins).state.mode ≡ Status
unfolding settle_of cut_by passed_of suspend_passed counted_off
settled_mode d s c p up b =
    if_ind In (rp_low c.pins) _ _ (λ e. absurd (unlike (sym e ∙ up)))
    (λ e. if_ind In (vpp_low d.part c.pins && is_pending s.phase) _ _ (λ v. refl)
    (λ v. if_ind In (is_busy s.phase) _ _
    (λ f. if_ind In (is_suspending s.phase) _ _ (λ u. if_ind In (eqb (suspend_left s.phase - 1) 0) _ _ (λ l. refl) (λ l. refl))
    (λ u. if_ind In (eqb (s.left - 1) 0) _ _ (λ l. m) (λ l. m)))
    (λ f. m)))
  where
    In : Settled → Type 0
    In t = t.state.mode ≡ Status

    m : s.mode ≡ Status
    m = busy_mode s.phase s.mode b p.mode
