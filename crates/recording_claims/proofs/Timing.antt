-- The same cycle on a device of other busy times: nothing but a start looks at them.
use mathlib.Core.Path.{◌≡◌, refl, sym, ap, subst, ◌∙◌}
use mathlib.Core.Bool.{Bool, true, false, not, ◌&&◌, ◌||◌}
use Prim.Native.Nat.{ℕ, ◌-◌, ◌≤◌}
use native.Mathlib.Omega.{arith}
use lib.Dec.{eqb, ltb}
use borrow.Author.Tests.{eq-eqb, ne_eqb, le-ltb, ltb-false}
use Rattle.common.proofs.Choice.{if_ind, if_false, or_left, or_right, or_both, and_rest, and_none, unlike}
use Rattle.common.proofs.Numbers.{no_row_given}
use Rattle.common.specs.Numbers.NoRow.{end, past}
use Rattle.device.specs.declared.Part.{Part}
use Rattle.device.specs.declared.Device.{Device}
use Rattle.device.specs.Parts.{unknown_part, unknown_device, size_of}
use Rattle.model_types.specs.declared.Action.{Action}
use Rattle.model_types.specs.declared.Action.TheVariants.{ToArray, ToIdentifier, ToStatus, Clear, AwaitErase, AwaitData, Confirm, Store, WrongSecond, Suspend, Resume, Ignore, Refuse}
use Rattle.model_types.specs.declared.Cycle.{Cycle}
use Rattle.model_types.specs.declared.Effect.TheVariants.{Nothing}
use Rattle.model_types.specs.declared.Kind.{Kind}
use Rattle.model_types.specs.declared.Kind.TheVariants.{Read, Write, Idle}
use Rattle.model_types.specs.declared.Phase.{Phase}
use Rattle.model_types.specs.declared.Phase.TheVariants.{Free, EraseAwaited, DataAwaited, Programming, Erasing, Suspending, Suspended}
use Rattle.model_types.specs.declared.Reply.TheVariants.{Quiet}
use Rattle.model_types.specs.declared.Settled.{Settled}
use Rattle.model_types.specs.declared.State.{State}
use Rattle.model_levels.specs.Levels.{rp_low, vpp_low, locked}
use Rattle.model_types.specs.Phases.{is_awaited, is_busy, is_suspending, suspend_left, is_pending}
use Rattle.model_types.specs.Status.{SR4, SR5}
use Rattle.model_states.specs.States.{most_left}
use Rattle.model_states.specs.Inner.{bad_suspend, bad_left, bad_address}
use Rattle.model_commands.specs.Commands.{command_of, asks_program, first_write, after_erase, while_erasing, while_suspending, while_suspended, action_of}
use Rattle.model_actions.specs.Performed.{data_of, unsupplied, started_of, performed_of}
use Rattle.model_operation.specs.Settling.{cut_of, settled_as, residue_for, cut_by, counted_off, suspend_passed, passed_of, settle_of}
use Rattle.model_judge.specs.Judging.{short_residue}
use Rattle.model_rules.specs.Cycles.{number_of, accept_of, respond_of, decided_as}
use Rattle.model_rules.proofs.Facts.{Proper, Fine, parts_proper}
use Rattle.model_history.specs.History.{is_cut}
use Rattle.recording_claims.specs.Made.{time_used}
use Rattle.recording.specs.Recordings.{starts, cuts_off, timed}
use Rattle.recording.specs.Inner.{unbarred, asks}
use Rattle.recording.proofs.Starting.{starts_unbarred, starts_barred}

-- an effect that is no cut comes of a cycle that cuts nothing
pub uncut_whole : (part : Part) (s : State) (c : Cycle) → is_cut (settle_of part s c.pins).effect ≡ false → cuts_off part s c ≡ false
unfolding settle_of cut_by cuts_off
uncut_whole part s c h = go (is_pending s.phase) refl (rp_low c.pins) refl (vpp_low part c.pins) refl
  where
    cut : (ph : Phase) → is_pending ph ≡ true → is_cut (cut_of ph part s.address) ≡ true
    cut Free p = absurd (unlike (sym p))
    cut EraseAwaited p = absurd (unlike (sym p))
    cut DataAwaited p = absurd (unlike (sym p))
    cut (Programming x) p = refl
    cut Erasing p = refl
    cut (Suspending k) p = refl
    cut Suspended p = refl

    go : (p : Bool) → is_pending s.phase ≡ p → (r : Bool) → rp_low c.pins ≡ r → (l : Bool) → vpp_low part c.pins ≡ l → (is_pending s.phase && (rp_low c.pins || vpp_low part c.pins)) ≡ false
    go false e r f l g = simp e
    go true e true f l g = absurd (unlike (sym (cut s.phase e) ∙ (rw f at h)))
    go true e false f true g = absurd (unlike (sym (cut s.phase e) ∙ (rw (f, g, e) at h)))
    go true e false f false g = simp (e, f, g)

-- with nothing awaited nothing starts
unasked : (ph : Phase) (c : Cycle) → is_awaited ph ≡ false → asks ph c ≡ false
unasked Free c e = refl
unasked EraseAwaited c e = absurd (unlike e)
unasked DataAwaited c e = absurd (unlike e)
unasked (Programming x) c e = refl
unasked Erasing c e = refl
unasked (Suspending n) c e = refl
unasked Suspended c e = refl

pub starts_awaited : (part : Part) (s : State) (c : Cycle) → is_awaited s.phase ≡ false → starts part s c ≡ false
starts_awaited part s c e = go (unbarred part s c) refl
  where
    go : (b : Bool) → unbarred part s c ≡ b → starts part s c ≡ false
    go true u = sym (starts_unbarred part s c u) ∙ unasked s.phase c e
    go false u = sym (starts_barred part s c u)

-- an action that looks at no busy time
abbrev timeless : Action → Bool
timeless ToArray = true
timeless ToIdentifier = true
timeless ToStatus = true
timeless Clear = true
timeless AwaitErase = true
timeless AwaitData = true
timeless Confirm = false
timeless Store = false
timeless WrongSecond = true
timeless Suspend = true
timeless Resume = true
timeless Ignore = true
timeless Refuse = true

abbrev Timeless : Action → Type 0
Timeless a = timeless a ≡ true

unawaited_timeless : (part : Part) (ph : Phase) (b : ℕ) → is_awaited ph ≡ false → Timeless (action_of part ph b)
unfolding first_write while_erasing while_suspending while_suspended
unawaited_timeless part Free b e =
    if_ind Timeless (eqb b 0xFF) _ _ (λ h. refl)
    (λ h. if_ind Timeless (eqb b 0xB0) _ _ (λ h. refl)
    (λ h. if_ind Timeless (eqb b 0x90) _ _ (λ h. refl)
    (λ h. if_ind Timeless (eqb b 0x70) _ _ (λ h. refl)
    (λ h. if_ind Timeless (eqb b 0x50) _ _ (λ h. refl)
    (λ h. if_ind Timeless (eqb b 0x20) _ _ (λ h. refl) (λ h. if_ind Timeless (asks_program part b) _ _ (λ h. refl) (λ h. refl)))))))
unawaited_timeless part EraseAwaited b e = absurd (unlike e)
unawaited_timeless part DataAwaited b e = absurd (unlike e)
unawaited_timeless part (Programming x) b e = refl
unawaited_timeless part Erasing b e = if_ind Timeless (eqb b 0xB0) _ _ (λ h. refl) (λ h. refl)
unawaited_timeless part (Suspending n) b e = if_ind Timeless (eqb b 0x70) _ _ (λ h. refl) (λ h. refl)
unawaited_timeless part Suspended b e =
    if_ind Timeless (eqb b 0xFF) _ _ (λ h. refl) (λ h. if_ind Timeless (eqb b 0x70) _ _ (λ h. refl) (λ h. if_ind Timeless (eqb b 0xD0) _ _ (λ h. refl) (λ h. refl)))

-- a state that is proper on a device is proper on one of another time, where that is long enough for what is running
module _ (d : Device) (time : ℕ) (s : State) (longer : is_pending s.phase ≡ true → most_left d s.phase ≤ time) where
  wider : (m l : ℕ) (x : Bool) → m ≤ time → ((eqb l 0 || ltb m l) || x) ≡ false → ((eqb l 0 || ltb time l) || x) ≡ false
  wider m l x le h =
      let h₁ = or_left (eqb l 0 || ltb m l) x h in
      let n = ltb-false m l (or_right (eqb l 0) (ltb m l) h₁) in
      or_both (eqb l 0 || ltb time l) x (or_both (eqb l 0) (ltb time l) (or_left (eqb l 0) (ltb m l) h₁) (le-ltb time l (omega arith))) (or_right (eqb l 0 || ltb m l) x h)

  left_same : (ph : Phase) → s.phase ≡ ph → bad_left d ph s.left ≡ false → bad_left (timed d time) ph s.left ≡ false
  unfolding bad_left
  left_same Free q h = h
  left_same EraseAwaited q h = h
  left_same DataAwaited q h = h
  left_same (Programming x) q h = wider d.program s.left false (subst (λ (ph : Phase). most_left d ph ≤ time) q (longer (ap is_pending q))) h
  left_same Erasing q h = wider d.erase s.left false (subst (λ (ph : Phase). most_left d ph ≤ time) q (longer (ap is_pending q))) h
  left_same (Suspending n) q h = wider d.erase s.left (bad_suspend d (Suspending n)) (subst (λ (ph : Phase). most_left d ph ≤ time) q (longer (ap is_pending q))) h
  left_same Suspended q h = wider d.erase s.left false (subst (λ (ph : Phase). most_left d ph ≤ time) q (longer (ap is_pending q))) h

  pub proper_timed : Proper d s → Proper (timed d time) s
  unfolding bad_address
  proper_timed p = record { mode = p.mode; status = p.status; left = left_same s.phase refl p.left; address = p.address }

-- a cycle from s on the device d and on one that takes so long instead
module _ (d : Device) (time : ℕ) (s : State) (c : Cycle) (whole : cuts_off d.part s c ≡ false) where
  abbrev part : Part
  part = d.part

  abbrev e : Device
  e = timed d time

  abbrev t : Settled
  t = settle_of part s c.pins

  timeless_same : (a : Action) (u : State) → Timeless a → performed_of a e c u ≡ performed_of a d c u
  timeless_same ToArray u h = refl
  timeless_same ToIdentifier u h = refl
  timeless_same ToStatus u h = refl
  timeless_same Clear u h = refl
  timeless_same AwaitErase u h = refl
  timeless_same AwaitData u h = refl
  timeless_same Confirm u h = absurd (unlike (sym h))
  timeless_same Store u h = absurd (unlike (sym h))
  timeless_same WrongSecond u h = refl
  timeless_same Suspend u h = refl
  timeless_same Resume u h = refl
  timeless_same Ignore u h = refl
  timeless_same Refuse u h = refl

  -- a second write is awaited after steps 1 to 3 only where it was before, and then they did nothing
  busy_unawaited : (ph : Phase) → is_busy ph ≡ true → is_awaited ph ≡ false
  busy_unawaited Free b = refl
  busy_unawaited EraseAwaited b = absurd (unlike (sym b))
  busy_unawaited DataAwaited b = absurd (unlike (sym b))
  busy_unawaited (Programming x) b = refl
  busy_unawaited Erasing b = refl
  busy_unawaited (Suspending n) b = refl
  busy_unawaited Suspended b = refl

  passed_unawaited : is_busy s.phase ≡ true → is_awaited (passed_of part s).state.phase ≡ false
  unfolding passed_of suspend_passed counted_off
  passed_unawaited b =
      if_ind Un (is_suspending s.phase) _ _ (λ h. if_ind Un (eqb (suspend_left s.phase - 1) 0) _ _ (λ l. refl) (λ l. refl))
      (λ h. if_ind Un (eqb (s.left - 1) 0) _ _ (λ l. refl) (λ l. busy_unawaited s.phase b))
    where
      Un : Settled → Type 0
      Un x = is_awaited x.state.phase ≡ false

  lowered : (vpp_low part c.pins && is_pending s.phase) ≡ false
  unfolding cuts_off
  lowered = go (is_pending s.phase) refl
    where
      go : (b : Bool) → is_pending s.phase ≡ b → (vpp_low part c.pins && is_pending s.phase) ≡ false
      go true p = simp (or_right (rp_low c.pins) (vpp_low part c.pins) (and_rest (is_pending s.phase) (rp_low c.pins || vpp_low part c.pins) p whole))
      go false p = simp (p, and_none (vpp_low part c.pins))

  calm_stands : rp_low c.pins ≡ false → is_busy s.phase ≡ false → t ≡ settled_as s Nothing
  unfolding settle_of
  calm_stands up b = simp (up, lowered, b)

  busy_passes : rp_low c.pins ≡ false → is_busy s.phase ≡ true → t ≡ passed_of part s
  unfolding settle_of
  busy_passes up b = simp (up, lowered, b)

  -- a confirm or data that starts uses the time; a barred one does not look at it
  module _ (used : starts part s c ≡ true → time ≡ time_used d s.phase) where
    barred_same : (ph : Phase) (bit n : ℕ) → (unsupplied part c s ≡ false → locked part c ≡ false → time ≡ n) → started_of part c s ph time bit ≡ started_of part c s ph n bit
    unfolding started_of
    barred_same ph bit n h = go (unsupplied part c s) refl (locked part c) refl
      where
        go : (b : Bool) → unsupplied part c s ≡ b → (l : Bool) → locked part c ≡ l → started_of part c s ph time bit ≡ started_of part c s ph n bit
        go true u l k = simp u
        go false u true k = simp (u, k)
        go false u false k = ap (λ (m : ℕ). started_of part c s ph m bit) (h u k)

    open_start : c.kind ≡ Write → rp_low c.pins ≡ false → unsupplied part c s ≡ false → locked part c ≡ false → unbarred part s c ≡ true
    unfolding unbarred
    open_start k up u l = simp (k, up, u, l)

    starts_here : c.kind ≡ Write → rp_low c.pins ≡ false → asks s.phase c ≡ true → unsupplied part c s ≡ false → locked part c ≡ false → time ≡ time_used d s.phase
    starts_here k up a u l = used (sym (starts_unbarred part s c (open_start k up u l)) ∙ a)

    at_rest_same : c.kind ≡ Write → rp_low c.pins ≡ false → (ph : Phase) → s.phase ≡ ph
        → performed_of (action_of part ph (command_of c)) e c s ≡ performed_of (action_of part ph (command_of c)) d c s
    unfolding after_erase
    at_rest_same k up Free h = timeless_same (action_of part Free (command_of c)) s (unawaited_timeless part Free (command_of c) refl)
    at_rest_same k up EraseAwaited h = go (eqb (command_of c) 0xD0) refl
      where
        go : (b : Bool) → eqb (command_of c) 0xD0 ≡ b → performed_of (after_erase (command_of c)) e c s ≡ performed_of (after_erase (command_of c)) d c s
        go true q =
            rw q
            (barred_same Erasing SR5 d.erase
            (λ u l. starts_here k up (ap (λ (ph : Phase). asks ph c) h ∙ q) u l ∙ ap (time_used d) h))
        go false q = rw q refl
    at_rest_same k up DataAwaited h =
        barred_same (Programming (data_of part c)) SR4 d.program (λ u l. starts_here k up (ap (λ (ph : Phase). asks ph c) h) u l ∙ ap (time_used d) h)
    at_rest_same k up (Programming x) h = refl
    at_rest_same k up Erasing h = timeless_same (action_of part Erasing (command_of c)) s (unawaited_timeless part Erasing (command_of c) refl)
    at_rest_same k up (Suspending n) h = timeless_same (action_of part (Suspending n) (command_of c)) s (unawaited_timeless part (Suspending n) (command_of c) refl)
    at_rest_same k up Suspended h = timeless_same (action_of part Suspended (command_of c)) s (unawaited_timeless part Suspended (command_of c) refl)

    abbrev Same : State → Type 0
    Same u = performed_of (action_of part u.phase (command_of c)) e c u ≡ performed_of (action_of part u.phase (command_of c)) d c u

    writes_same : c.kind ≡ Write → rp_low c.pins ≡ false → Same t.state
    writes_same k up = go (is_awaited t.state.phase) refl (is_busy s.phase) refl
      where
        go : (a : Bool) → is_awaited t.state.phase ≡ a → (b : Bool) → is_busy s.phase ≡ b → Same t.state
        go false h b i = timeless_same (action_of part t.state.phase (command_of c)) t.state (unawaited_timeless part t.state.phase (command_of c) h)
        go true h true i = absurd (unlike (sym h ∙ ap (λ (x : Settled). is_awaited x.state.phase) (busy_passes up i) ∙ passed_unawaited i))
        go true h false i = subst (λ (x : Settled). Same x.state) (sym (calm_stands up i)) (at_rest_same k up s.phase refl)

    responds_same : rp_low c.pins ≡ false → (k : Kind) → c.kind ≡ k → respond_of k e c t ≡ respond_of k d c t
    responds_same up Read q = refl
    responds_same up Write q = ap (λ (u : State). decided_as Quiet u t.effect) (writes_same q up)
    responds_same up Idle q = refl

    pub accepts_same : accept_of e c t ≡ accept_of d c t
    unfolding accept_of
    accepts_same = go (rp_low c.pins) refl
      where
        go : (b : Bool) → rp_low c.pins ≡ b → accept_of e c t ≡ accept_of d c t
        go true h = simp h
        go false h = if_false (rp_low c.pins) _ _ h ∙ responds_same h c.kind refl ∙ sym (if_false (rp_low c.pins) _ _ h)

  -- the device of another time is a device, and the state is proper on it, where the time is long enough for what is running
  module _ (some : time ≡ 0 → ⊥) (longer : is_pending s.phase ≡ true → most_left d s.phase ≤ time) where
    known_same : unknown_device d ≡ false → unknown_device e ≡ false
    unfolding unknown_device
    known_same h =
        let p = unknown_part part in
        let q = eqb d.program 0 in
        let r = eqb d.erase 0 in
        let u = eqb d.suspend 0 in
        let w = ltb 100 d.suspend in
        let h₁ = or_left (((p || q) || r) || u) w h in
        let h₂ = or_left ((p || q) || r) u h₁ in
        let h₃ = or_left p q (or_left (p || q) r h₂) in
        simp (h₃, ne_eqb time 0 some, or_right ((p || q) || r) u h₁, or_right (((p || q) || r) || u) w h)

    -- no residue is asked for where nothing is cut
    none_asked : (ph : Phase) → is_pending ph ≡ false → residue_for ph part s.address ≡ 0
    none_asked Free p = refl
    none_asked EraseAwaited p = refl
    none_asked DataAwaited p = refl
    none_asked (Programming x) p = absurd (unlike p)
    none_asked Erasing p = absurd (unlike p)
    none_asked (Suspending n) p = absurd (unlike p)
    none_asked Suspended p = absurd (unlike p)

    enough : short_residue part s c 0 ≡ false
    unfolding short_residue cuts_off
    enough = go (is_pending s.phase) refl
      where
        go : (b : Bool) → is_pending s.phase ≡ b → short_residue part s c 0 ≡ false
        go true p = rw (and_rest (is_pending s.phase) (rp_low c.pins || vpp_low part c.pins) p whole) refl
        go false p = rw (none_asked s.phase p) (and_none (rp_low c.pins || vpp_low part c.pins))

    pub fine_same : (n k : ℕ) → Fine d s c n k → number_of e s c n 0 ≡ 0
    unfolding number_of
    fine_same n k f =
        no_row_given
        (past (known_same f.known) (past (ap not (eq-eqb n (size_of part) f.sized)) (past (parts_proper e s (proper_timed d time s longer f.proper)) (past f.levels (past f.inside (past enough (past f.command (past f.reading (past f.naming end)))))))))
