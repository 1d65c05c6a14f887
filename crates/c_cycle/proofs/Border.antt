-- Numbers and what they stand for: there and back, and what becomes of numbers that stand for nothing.
use mathlib.Core.Path.{◌≡◌, refl, sym, ◌∙◌, ap}
use mathlib.Core.Bool.{Bool, true, false, not, ◌&&◌, ◌||◌}
use Prim.Native.Nat.{ℕ, zero, suc, ◌≤◌}
use native.Mathlib.Omega.{arith}
use lib.Dec.{eqb, ltb}
use borrow.Author.Tests.{ltb-false, eqb-true}
use Rattle.std.specs.Prelude.{if◌then◌else◌}
use Rattle.common.proofs.Choice.{if_true, if_false, if_ind, or_left, or_right, and_none}
use Rattle.device.specs.declared.Part.{Part}
use Rattle.device.specs.declared.Device.{Device}
use Rattle.device.specs.Parts.{is_large, unknown_part, unknown_device}
use Rattle.model_types.specs.declared.Kind.{Kind}
use Rattle.model_types.specs.declared.Kind.TheVariants.{Read, Write, Idle}
use Rattle.model_types.specs.declared.Cycle.{Cycle}
use Rattle.model_types.specs.declared.Mode.{Mode}
use Rattle.model_types.specs.declared.Mode.TheVariants.{Array, Status, Identifier}
use Rattle.model_types.specs.declared.Phase.{Phase}
use Rattle.model_types.specs.declared.Phase.TheVariants.{Free, EraseAwaited, DataAwaited, Programming, Erasing, Suspending, Suspended}
use Rattle.model_types.specs.declared.Wear.{Wear}
use Rattle.model_types.specs.declared.State.{State}
use Rattle.model_states.specs.States.{is_at_rest, fresh_state, proper, improper}
use Rattle.model_types.specs.Phases.{suspend_left}
use Rattle.model_levels.specs.Levels.{bad_pins, most_oe, bad_oe, bad_levels}
use Rattle.c_cycle.specs.Values.{number_in, part_in, flag_out, device_in, device_out, mode_in, mode_out, phase_in, phase_out, data_out, stray_data, stray_suspend, no_state, wear_in, wear_out, state_in, state_out, kind_in, kind_out, oe_in, cycle_in, cycle_out}
use Rattle.c_cycle.specs.Answers.{state_back}
use Rattle.c_cycle.specs.declared.DeviceNumbers.{DeviceNumbers}
use Rattle.c_cycle.specs.declared.WearNumbers.{WearNumbers}
use Rattle.c_cycle.specs.declared.StateNumbers.{StateNumbers}
use Rattle.c_cycle.specs.declared.BusNumbers.{BusNumbers}

-- a test beside one that holds
or_yes : (a : Bool) → (a || true) ≡ true
or_yes true = refl
or_yes false = refl

-- a flag: out and in again, and in and out again
pub flag_back : (f : Bool) → eqb (flag_out f) 1 ≡ f
flag_back true = refl
flag_back false = refl

pub flag_low : (f : Bool) → ltb 1 (flag_out f) ≡ false
flag_low true = refl
flag_low false = refl

pub flag_number : (n : ℕ) → ltb 1 n ≡ false → flag_out (eqb n 1) ≡ n
flag_number zero e = refl
flag_number (suc zero) e = refl
flag_number (suc (suc n)) e = absurd (let z = ltb-false 1 (suc (suc n)) e in omega arith)

-- a part's number where the mode is one, and where it is none
pub number_in_lem : (n w : ℕ) → ltb 1 w ≡ false → number_in n w ≡ n
unfolding number_in
number_in_lem n w e = if_false (ltb 1 w) 0 n e

number_none : (n w : ℕ) → ltb 1 w ≡ true → number_in n w ≡ 0
unfolding number_in
number_none n w e = if_true (ltb 1 w) 0 n e

pub part_back : (p : Part) → part_in p.number (flag_out p.word) ≡ p
part_back p =
    let n = number_in_lem p.number (flag_out p.word) (flag_low p.word) in
    let w = flag_back p.word in
    λ i. record { number = n i; word = w i }

pub device_back : (d : Device) → device_in (device_out d) ≡ d
device_back d = let p = part_back d.part in λ i. record { part = p i; program = d.program; erase = d.erase; suspend = d.suspend }

pub device_numbers : (n : DeviceNumbers) → ltb 1 n.word ≡ false → device_out (device_in n) ≡ n
device_numbers n e =
    let a = number_in_lem n.number n.word e in
    let w = flag_number n.word e in
    λ i. record { number = a i; word = w i; program = n.program; erase = n.erase; suspend = n.suspend }

-- a mode that is none makes no part, and no device
pub no_mode_unknown : (n w : ℕ) → ltb 1 w ≡ true → unknown_part (part_in n w) ≡ true
unfolding unknown_part
no_mode_unknown n w e = rw (number_none n w e) refl

pub no_mode_refused : (n : DeviceNumbers) → ltb 1 n.word ≡ true → unknown_device (device_in n) ≡ true
unfolding unknown_device
no_mode_refused n e = rw (no_mode_unknown n.number n.word e) refl

-- out and in again: modes, phases, kinds, stages
mode_back : (m : Mode) → mode_in (mode_out m) ≡ m
unfolding mode_in
mode_back Array = refl
mode_back Status = refl
mode_back Identifier = refl

phase_back : (p : Phase) → phase_in (phase_out p) (data_out p) (suspend_left p) ≡ p
unfolding phase_in
phase_back Free = refl
phase_back EraseAwaited = refl
phase_back DataAwaited = refl
phase_back (Programming b) = refl
phase_back Erasing = refl
phase_back (Suspending n) = refl
phase_back Suspended = refl

kind_back : (k : Kind) → kind_in (kind_out k) ≡ k
unfolding kind_in
kind_back Read = refl
kind_back Write = refl
kind_back Idle = refl

oe_back : (k : Kind) (oe : ℕ) → oe_in (kind_out k) oe ≡ oe
unfolding oe_in
oe_back Read oe = refl
oe_back Write oe = refl
oe_back Idle oe = refl

-- the numbers of a state stand for one, those of a record for one
pub out_state : (s : State) → no_state (state_out s) ≡ false
unfolding no_state stray_data stray_suspend
out_state s = by-phase s.phase (ltb 2 (mode_out s.mode)) (mode-low s.mode)
  where
    mode-low : (m : Mode) → ltb 2 (mode_out m) ≡ false
    mode-low Array = refl
    mode-low Status = refl
    mode-low Identifier = refl

    by-phase : (p : Phase) (t : Bool) → t ≡ false
        → (((t || ltb 6 (phase_out p)) || (not (eqb (data_out p) 0) && not (eqb (phase_out p) 3))) || (not (eqb (suspend_left p) 0) && not (eqb (phase_out p) 6))) ≡ false
    by-phase Free t e = rw e refl
    by-phase EraseAwaited t e = rw e refl
    by-phase DataAwaited t e = rw e refl
    by-phase (Programming b) t e = rw e (ap (λ (x : Bool). x || false) (and_none (not (eqb b 0))))
    by-phase Erasing t e = rw e refl
    by-phase (Suspending n) t e = rw e (and_none (not (eqb n 0)))
    by-phase Suspended t e = rw e refl

-- counts: there and back, and back and there
pub wear_back : (w : Wear) → wear_in (wear_out w) ≡ w
wear_back w = refl

pub wear_numbers : (n : WearNumbers) → wear_out (wear_in n) ≡ n
wear_numbers n = refl

-- out and in again: state, cycle, record
pub state_back_lem : (s : State) → state_in (state_out s) ≡ s
unfolding state_in
state_back_lem s =
    let m = mode_back s.mode in
    let p = phase_back s.phase in
    if_false (no_state (state_out s)) _ _ (out_state s) ∙ (λ i. record { mode = m i; status = s.status; phase = p i; left = s.left; address = s.address; wear = s.wear })

pub cycle_back : (c : Cycle) → cycle_in (cycle_out c) ≡ c
cycle_back c =
    let k = kind_back c.kind in
    let oe = oe_back c.kind c.oe in
    λ i. record { kind = k i; pins = c.pins; oe = oe i; address = c.address; «data» = c.data }

-- in and out again, for numbers in their range
pub mode_number : (n : ℕ) → n ≤ 2 → mode_out (mode_in n) ≡ n
unfolding mode_in
mode_number zero h = refl
mode_number (suc zero) h = refl
mode_number (suc (suc zero)) h = refl
mode_number (suc (suc (suc k))) h = absurd (omega arith)

phase_number : (n b u : ℕ) → n ≤ 6 → phase_out (phase_in n b u) ≡ n
unfolding phase_in
phase_number zero b u h = refl
phase_number (suc zero) b u h = refl
phase_number (suc (suc zero)) b u h = refl
phase_number (suc (suc (suc zero))) b u h = refl
phase_number (suc (suc (suc (suc zero)))) b u h = refl
phase_number (suc (suc (suc (suc (suc zero))))) b u h = refl
phase_number (suc (suc (suc (suc (suc (suc zero)))))) b u h = refl
phase_number (suc (suc (suc (suc (suc (suc (suc k))))))) b u h = absurd (omega arith)

-- no number, where none may be
pub plain_number : (b : ℕ) → (not (eqb b 0) && true) ≡ false → b ≡ 0
plain_number b e = go (eqb b 0) refl e
  where
    go : (t : Bool) → eqb b 0 ≡ t → (not t && true) ≡ false → b ≡ 0
    go true q e = eqb-true b 0 q
    go false q e = absurd (let z : ◌≡◌ {A = ℕ} 0 1 = cc in omega arith)

data_number : (n b u : ℕ) → n ≤ 6 → (not (eqb b 0) && not (eqb n 3)) ≡ false → data_out (phase_in n b u) ≡ b
unfolding phase_in
data_number zero b u h e = sym (plain_number b e)
data_number (suc zero) b u h e = sym (plain_number b e)
data_number (suc (suc zero)) b u h e = sym (plain_number b e)
data_number (suc (suc (suc zero))) b u h e = refl
data_number (suc (suc (suc (suc zero)))) b u h e = sym (plain_number b e)
data_number (suc (suc (suc (suc (suc zero))))) b u h e = sym (plain_number b e)
data_number (suc (suc (suc (suc (suc (suc zero)))))) b u h e = sym (plain_number b e)
data_number (suc (suc (suc (suc (suc (suc (suc k))))))) b u h e = absurd (omega arith)

suspend_number : (n b u : ℕ) → n ≤ 6 → (not (eqb u 0) && not (eqb n 6)) ≡ false → suspend_left (phase_in n b u) ≡ u
unfolding phase_in
suspend_number zero b u h e = sym (plain_number u e)
suspend_number (suc zero) b u h e = sym (plain_number u e)
suspend_number (suc (suc zero)) b u h e = sym (plain_number u e)
suspend_number (suc (suc (suc zero))) b u h e = sym (plain_number u e)
suspend_number (suc (suc (suc (suc zero)))) b u h e = sym (plain_number u e)
suspend_number (suc (suc (suc (suc (suc zero))))) b u h e = sym (plain_number u e)
suspend_number (suc (suc (suc (suc (suc (suc zero)))))) b u h e = refl
suspend_number (suc (suc (suc (suc (suc (suc (suc k))))))) b u h e = absurd (omega arith)

kind_number : (n : ℕ) → n ≤ 2 → kind_out (kind_in n) ≡ n
unfolding kind_in
kind_number zero h = refl
kind_number (suc zero) h = refl
kind_number (suc (suc zero)) h = refl
kind_number (suc (suc (suc k))) h = absurd (omega arith)

-- in and out again: state, cycle, record
pub state_numbers : (n : StateNumbers) → no_state n ≡ false → state_out (state_in n) ≡ n
unfolding state_in no_state stray_data stray_suspend
state_numbers n e =
    let both = ltb 2 n.mode || ltb 6 n.phase in
    let bare = stray_data n in
    let rest : (both || bare) ≡ false = or_left (both || bare) (stray_suspend n) e in
    let low : n.mode ≤ 2 = ltb-false 2 n.mode (or_left (ltb 2 n.mode) (ltb 6 n.phase) (or_left both bare rest)) in
    let least : n.phase ≤ 6 = ltb-false 6 n.phase (or_right (ltb 2 n.mode) (ltb 6 n.phase) (or_left both bare rest)) in
    let m = mode_number n.mode low in
    let p = phase_number n.phase n.data n.suspend least in
    let b = data_number n.phase n.data n.suspend least (or_right both bare rest) in
    let u = suspend_number n.phase n.data n.suspend least (or_right (both || bare) (stray_suspend n) e) in
    ap (λ (s : State). state_out s) (if_false (no_state n) _ _ e)
    ∙ (λ i. record { mode = m i; status = n.status; phase = p i; suspend = u i; left = n.left; «data» = b i; address = n.address; wear = n.wear })

pub cycle_numbers : (n : BusNumbers) → ltb 2 n.kind ≡ false → cycle_out (cycle_in n) ≡ n
unfolding oe_in
cycle_numbers n e =
    let k = kind_number n.kind (ltb-false 2 n.kind e) in
    let oe : oe_in n.kind n.oe ≡ n.oe = if_false (ltb 2 n.kind) 2 n.oe e in
    λ i. record { kind = k i; rp = n.rp; oe = oe i; wp = n.wp; «data» = n.data; vpp = n.vpp; address = n.address }

-- at rest with SR.7 clear is improper on every device
rest_improper : (d : Device) → improper d (is_at_rest fresh_state Array 0) ≡ true
unfolding improper proper
rest_improper d = refl

-- numbers that stand for no state are improper on every device
pub no_state_improper : (n : StateNumbers) → no_state n ≡ true → (d : Device) → improper d (state_in n) ≡ true
unfolding state_in
no_state_improper n e d = ap (λ (s : State). improper d s) (if_true (no_state n) _ _ e) ∙ rest_improper d

-- no part takes an OE# of 2
two_over : (part : Part) → ltb (most_oe part) 2 ≡ true
unfolding most_oe
two_over part = go (is_large part)
  where
    go : (t : Bool) → ltb (if t then 0 else 1) 2 ≡ true
    go true = refl
    go false = refl

-- a kind that is none is refused as a level, whatever the part
pub no_kind_refused : (n : BusNumbers) → ltb 2 n.kind ≡ true → (part : Part) → bad_levels part (cycle_in n) ≡ true
unfolding bad_levels oe_in
no_kind_refused n e part =
    ap (λ (oe : ℕ). bad_pins part (cycle_in n).pins || bad_oe part (kind_in n.kind) oe) (if_true (ltb 2 n.kind) 2 n.oe e)
    ∙ ap (λ (t : Bool). bad_pins part (cycle_in n).pins || t) (two-bad (kind_in n.kind)) ∙ or_yes (bad_pins part (cycle_in n).pins)
  where
    two-bad : (k : Kind) → bad_oe part k 2 ≡ true
    two-bad Read = refl
    two-bad Write = two_over part
    two-bad Idle = refl

-- a state or a record that is left as it was goes back as the numbers that came, whatever they are
pub state_same : (n : StateNumbers) → state_back n (state_in n) ≡ n
unfolding state_back
state_same n = if_ind (λ (x : StateNumbers). x ≡ n) (no_state n) n (state_out (state_in n)) (λ _. refl) (λ e. state_numbers n e)
