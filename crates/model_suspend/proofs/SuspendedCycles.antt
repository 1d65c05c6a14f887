-- One cycle of a suspend under way, and all of them.
use mathlib.Core.Path.{◌≡◌, refl, sym, ap, ◌∙◌, subst}
use mathlib.Core.Bool.{Bool, true, false, not, ◌&&◌}
use mathlib.Core.List.{List, [], ◌∷◌, ◌++◌}
use Prim.Native.Nat.{ℕ, suc, ◌+◌, ◌-◌, ◌/◌, ◌%◌, ◌<◌}
use native.Mathlib.Omega.{arith}
use lib.Bits.{bit_and, bit_or}
use lib.Dec.{eqb}
use lib.ListN.{length}
use borrow.Author.Tests.{eqb-true, eqb-false, ne_eqb}
use Rattle.std.specs.Prelude.{if◌then◌else◌}
use Rattle.common.proofs.Choice.{if_false, if_ind, and_left, and_right, unlike}
use Rattle.device.specs.declared.Part.{Part}
use Rattle.device.specs.declared.Device.{Device}
use Rattle.model_types.specs.declared.Kind.{Kind}
use Rattle.model_types.specs.declared.Kind.TheVariants.{Read, Write, Idle}
use Rattle.model_types.specs.declared.Cycle.{Cycle}
use Rattle.model_types.specs.declared.State.{State}
use Rattle.model_types.specs.declared.Wear.{Wear}
use Rattle.model_types.specs.declared.Mode.{Mode}
use Rattle.model_types.specs.declared.Mode.TheVariants.{Array, Status}
use Rattle.model_types.specs.declared.Phase.{Phase}
use Rattle.model_types.specs.declared.Phase.TheVariants.{Free, EraseAwaited, DataAwaited, Programming, Erasing, Suspending, Suspended}
use Rattle.model_types.specs.declared.Action.{Action}
use Rattle.model_types.specs.declared.Reply.{Reply}
use Rattle.model_types.specs.declared.Reply.TheVariants.{Quiet, Gives}
use Rattle.model_types.specs.declared.Effect.{Effect}
use Rattle.model_types.specs.declared.Effect.TheVariants.{Nothing}
use Rattle.model_types.specs.declared.Settled.{Settled}
use Rattle.model_types.specs.declared.Decision.{Decision}
use Rattle.model_types.specs.Kinds.{is_read, is_write}
use Rattle.model_levels.specs.Levels.{rp_low, vpp_low}
use Rattle.model_states.specs.Inner.{top_bits}
use Rattle.model_types.specs.Phases.{is_pending, is_busy}
use Rattle.model_types.specs.Status.{SR7, SR6, is_set}
use Rattle.model_commands.specs.Commands.{while_erasing, while_suspending, while_suspended, command_of}
use Rattle.model_actions.specs.Performed.{performed_of}
use Rattle.model_operation.specs.Settling.{settled_as, cut_of, cut_by, counted_off, suspend_passed, passed_of, settle_of}
use Rattle.model_rules.specs.Cycles.{number_of, decide_of, accept_of, respond_of, decided_as}
use Rattle.model_rules.proofs.Cases.{refused, accepted}
use Rattle.model_rules.proofs.Facts as facts
use Rattle.model.specs.declared.Seen.{Seen}
use Rattle.model.specs.declared.Seen.TheVariants.{NoData, Data}
use Rattle.model.specs.Arrays.{is_refusal, seen_of, array_of, answer_of, array_after}
use Rattle.model.proofs.Outcome.{accept_effect}
use Rattle.model.proofs.Lives.{accept_up}
use Rattle.model.proofs.Status.{fits, all_below_lem, status_fits}
use Rattle.model_history.specs.History.{Bus, World, world_of, stepped, world_after, seen_on, seen_in, effects_in, accepts_all, is_cut, uncut}
use Rattle.model_suspend.specs.Suspends.{is_suspend, is_resume, is_opening, Unfinished, Smooth, held_status, shown_as, shown_all, Suspends}

-- an erase in mode status
abbrev pub at : Wear → ℕ → Phase → ℕ → ℕ → State
at wr sr ph l a = record { mode = Status; status = sr; phase = ph; left = l; address = a; wear = wr }

-- the cut of what is pending is a cut
cut_cuts : (ph : Phase) (part : Part) (a : ℕ) → is_pending ph ≡ true → is_cut (cut_of ph part a) ≡ true
cut_cuts Free part a e = absurd (unlike (sym e))
cut_cuts EraseAwaited part a e = absurd (unlike (sym e))
cut_cuts DataAwaited part a e = absurd (unlike (sym e))
cut_cuts (Programming b) part a e = refl
cut_cuts Erasing part a e = refl
cut_cuts (Suspending n) part a e = refl
cut_cuts Suspended part a e = refl

-- ---- an accepted cycle that does not cut what is pending
module _ (d : Device) (s : State) (c : Cycle) (n r : ℕ) (pending : is_pending s.phase ≡ true)
    (fine : is_refusal (decide_of d s c n r).reply ≡ false) (whole : is_cut (decide_of d s c n r).effect ≡ false) where
  pub taken : decide_of d s c n r ≡ accept_of d c (settle_of d.part s c.pins)
  taken = go (eqb (number_of d s c n r) 0) refl
    where
      go : (b : Bool) → eqb (number_of d s c n r) 0 ≡ b → decide_of d s c n r ≡ accept_of d c (settle_of d.part s c.pins)
      go true e = accepted d s c n r (eqb-true (number_of d s c n r) 0 e)
      go false e =
          let q = refused d s c n r (number_of d s c n r) refl (eqb-false (number_of d s c n r) 0 e) in
          absurd (unlike (sym (ap (λ (x : Decision). is_refusal x.reply) q) ∙ fine))

  uncut_settled : is_cut (settle_of d.part s c.pins).effect ≡ false
  uncut_settled =
      ap is_cut (sym (accept_effect d c (settle_of d.part s c.pins))) ∙ ap (λ (x : Decision). is_cut x.effect) (sym taken) ∙ whole

  pub up : rp_low c.pins ≡ false
  unfolding settle_of
  up = go (rp_low c.pins) refl
    where
      go : (b : Bool) → rp_low c.pins ≡ b → b ≡ false
      go true e = absurd (unlike (sym (cut_cuts s.phase d.part s.address pending) ∙ (simp e at uncut_settled)))
      go false e = refl

  pub high : vpp_low d.part c.pins ≡ false
  unfolding settle_of cut_by
  high = go (vpp_low d.part c.pins) refl
    where
      go : (b : Bool) → vpp_low d.part c.pins ≡ b → b ≡ false
      go true e = absurd (unlike (sym (cut_cuts s.phase d.part s.address pending) ∙ (simp (up, e, pending) at uncut_settled)))
      go false e = refl

  pub passes : is_busy s.phase ≡ true → decide_of d s c n r ≡ respond_of c.kind d c (passed_of d.part s)
  unfolding settle_of
  passes b = taken ∙ accept_up d c (settle_of d.part s c.pins) up ∙ ap (λ (t : Settled). respond_of c.kind d c t) (simp (up, high, b))

-- what a cycle answers that shows a status
abbrev reply_as : ℕ → Kind → Reply
reply_as sr Read = Gives sr
reply_as sr Write = Quiet
reply_as sr Idle = Quiet

-- ---- the cycle of B0H counts off the erase, and the suspend begins
begins : (wr : Wear) (d : Device) (c : Cycle) (n r sr l a : ℕ) (m : Mode) → is_suspend c ≡ true → 1 < l
    → let s : State = record { mode = m; status = sr; phase = Erasing; left = l; address = a; wear = wr } in
    is_refusal (decide_of d s c n r).reply ≡ false → is_cut (decide_of d s c n r).effect ≡ false
    → decide_of d s c n r ≡ decided_as Quiet (at wr sr (Suspending d.suspend) (l - 1) a) Nothing
unfolding passed_of counted_off while_erasing
begins wr d c n r sr l a m b more fine whole =
    let s : State = record { mode = m; status = sr; phase = Erasing; left = l; address = a; wear = wr } in
    let k : eqb (command_of c) 0xB0 ≡ true = and_right (is_write c.kind) (eqb (command_of c) 0xB0) b in
    let e : passed_of d.part s ≡ settled_as (record { mode = m; status = sr; phase = Erasing; left = l - 1; address = a; wear = wr }) Nothing =
    if_false (eqb (l - 1) 0) _ _ (ne_eqb (l - 1) 0 (λ z. omega arith)) in
    passes d s c n r refl fine whole refl ∙ ap (λ (t : Settled). respond_of c.kind d c t) e ∙ go c.kind (and_left (is_write c.kind) (eqb (command_of c) 0xB0) b) k
  where
    go : (kind : Kind) → is_write kind ≡ true → eqb (command_of c) 0xB0 ≡ true
        → respond_of kind d c (settled_as (record { mode = m; status = sr; phase = Erasing; left = l - 1; address = a; wear = wr }) Nothing)
        ≡ decided_as Quiet (at wr sr (Suspending d.suspend) (l - 1) a) Nothing
    go Read w k = absurd (unlike (sym w))
    go Write w k = simp k
    go Idle w k = absurd (unlike (sym w))

-- ---- a cycle before the last: the suspend counts one off, and a read shows the status as it was
module _ (wr : Wear) (d : Device) (c : Cycle) (n r sr l a : ℕ) where
  stays_under_way : (k : ℕ) (kind : Kind) → respond_of kind d c (settled_as (at wr sr (Suspending k) l a) Nothing) ≡ decided_as (reply_as sr kind) (at wr sr (Suspending k) l a) Nothing
  unfolding while_suspending
  stays_under_way k Read = refl
  stays_under_way k Write =
      if_ind (λ (x : Action). decided_as Quiet (performed_of x d c (at wr sr (Suspending k) l a)) Nothing ≡ decided_as Quiet (at wr sr (Suspending k) l a) Nothing)
      (eqb (command_of c) 0x70) _ _ (λ e. refl) (λ e. refl)
  stays_under_way k Idle = refl

  goes_on : (k : ℕ) → is_refusal (decide_of d (at wr sr (Suspending (suc (suc k))) l a) c n r).reply ≡ false
      → is_cut (decide_of d (at wr sr (Suspending (suc (suc k))) l a) c n r).effect ≡ false
      → decide_of d (at wr sr (Suspending (suc (suc k))) l a) c n r ≡ decided_as (reply_as sr c.kind) (at wr sr (Suspending (suc k)) l a) Nothing
  unfolding passed_of suspend_passed
  goes_on k fine whole =
      let q : suc (suc k) - 1 ≡ suc k = omega arith in
      let e : passed_of d.part (at wr sr (Suspending (suc (suc k))) l a) ≡ settled_as (at wr sr (Suspending (suc k)) l a) Nothing =
      if_false (eqb (suc (suc k) - 1) 0) _ _ (ne_eqb (suc (suc k) - 1) 0 (λ z. omega arith)) ∙ ap (λ (j : ℕ). settled_as (at wr sr (Suspending j) l a) Nothing) q in
      passes d (at wr sr (Suspending (suc (suc k))) l a) c n r refl fine whole refl ∙ ap (λ (t : Settled). respond_of c.kind d c t) e ∙ stays_under_way (suc k) c.kind

  -- ---- the last cycle: SR.7 and SR.6 are set before its read or write
  last_settles : is_refusal (decide_of d (at wr sr (Suspending 1) l a) c n r).reply ≡ false → is_cut (decide_of d (at wr sr (Suspending 1) l a) c n r).effect ≡ false
      → decide_of d (at wr sr (Suspending 1) l a) c n r ≡ respond_of c.kind d c (settled_as (at wr (held_status sr) Suspended l a) Nothing)
  unfolding passed_of suspend_passed
  last_settles fine whole = passes d (at wr sr (Suspending 1) l a) c n r refl fine whole refl

-- SR.7 and SR.6 set and cleared again leave a status that had neither
back : (sr : ℕ) → sr < 64 → bit_and (bit_or sr 0xC0) 0x3F ≡ sr
back sr h = eqb-true (bit_and (bit_or sr 0xC0) 0x3F) sr (all_below_lem (λ x. eqb (bit_and (bit_or x 0xC0) 0x3F) x) 64 refl sr h)

-- what the last cycle leaves
record Left (wr : Wear) (x : Decision) (sr l a : ℕ) (resumed opened : Bool) : Type 0 where
  mode : x.state.mode ≡ (if opened then Array else Status)
  effect : x.effect ≡ Nothing
  phase : x.state.phase ≡ (if resumed then Erasing else Suspended)
  left : x.state.left ≡ l
  address : x.state.address ≡ a
  status : x.state.status ≡ (if resumed then sr else held_status sr)
  wear : x.state.wear ≡ wr

module _ (wr : Wear) (d : Device) (c : Cycle) (sr l a : ℕ) (small : sr < 64) where
  held_write : (f t u : Bool) → eqb (command_of c) 0xFF ≡ f → eqb (command_of c) 0x70 ≡ t → eqb (command_of c) 0xD0 ≡ u
      → Left wr (respond_of Write d c (settled_as (at wr (held_status sr) Suspended l a) Nothing)) sr l a u f
  unfolding while_suspended
  held_write true t true e f g = absurd (let p = eqb-true (command_of c) 0xFF e in let q = eqb-true (command_of c) 0xD0 g in omega arith)
  held_write true t false e f g = rw e (record { mode = refl; effect = refl; phase = refl; left = refl; address = refl; status = refl; wear = refl })
  held_write false true true e f g = absurd (let p = eqb-true (command_of c) 0x70 f in let q = eqb-true (command_of c) 0xD0 g in omega arith)
  held_write false true false e f g = rw (e, f) (record { mode = refl; effect = refl; phase = refl; left = refl; address = refl; status = refl; wear = refl })
  held_write false false true e f g = rw (e, f, g) (record { mode = refl; effect = refl; phase = refl; left = refl; address = refl; status = back sr small; wear = refl })
  held_write false false false e f g = rw (e, f, g) (record { mode = refl; effect = refl; phase = refl; left = refl; address = refl; status = refl; wear = refl })

  held : (kind : Kind) → Left wr (respond_of kind d c (settled_as (at wr (held_status sr) Suspended l a) Nothing)) sr l a (is_write kind && eqb (command_of c) 0xD0) (is_write kind && eqb (command_of c) 0xFF)
  held Read = record { mode = refl; effect = refl; phase = refl; left = refl; address = refl; status = refl; wear = refl }
  held Write = held_write (eqb (command_of c) 0xFF) (eqb (command_of c) 0x70) (eqb (command_of c) 0xD0) refl refl refl
  held Idle = record { mode = refl; effect = refl; phase = refl; left = refl; address = refl; status = refl; wear = refl }

  held_reply : (kind : Kind) → (respond_of kind d c (settled_as (at wr (held_status sr) Suspended l a) Nothing)).reply ≡ reply_as (held_status sr) kind
  held_reply Read = refl
  held_reply Write = refl
  held_reply Idle = refl

-- ---- cycles on a world
stepped_as : (d : Device) (s t : State) (xs : List ℕ) (b : Bus) (reply : Reply)
    → decide_of d s b.cycle (length xs) (length b.residue) ≡ decided_as reply t Nothing → stepped d (world_of s xs) b ≡ world_of t xs
unfolding answer_of array_after
stepped_as d s t xs b reply e = λ i. world_of (e i).state (array_of (e i).effect d.part b.residue xs)

shown_as_lem : (sr : ℕ) (b : Bus) (xs : List ℕ) → seen_of (reply_as sr b.cycle.kind) xs ≡ shown_as sr b
shown_as_lem sr b xs = go b.cycle.kind
  where
    go : (k : Kind) → seen_of (reply_as sr k) xs ≡ (if is_read k then Data sr else NoData)
    go Read = refl
    go Write = refl
    go Idle = refl

seen_as : (d : Device) (s t : State) (xs : List ℕ) (b : Bus) (sr : ℕ)
    → decide_of d s b.cycle (length xs) (length b.residue) ≡ decided_as (reply_as sr b.cycle.kind) t Nothing → seen_on d (world_of s xs) b ≡ shown_as sr b
unfolding answer_of array_after
seen_as d s t xs b sr e = (λ i. seen_of (e i).reply (array_of (e i).effect d.part b.residue xs)) ∙ shown_as_lem sr b xs

not_yes : (x : Bool) → not x ≡ true → x ≡ false
not_yes true e = absurd (unlike (sym e))
not_yes false e = refl

-- accepted, and no cut: of the first cycle, and of the others after it
module _ (d : Device) (v : World) (b : Bus) (bs : List Bus) (smooth : Smooth d v (b ∷ bs)) where
  abbrev first : Decision
  first = decide_of d v.state b.cycle (length v.bytes) (length b.residue)

  head_fine : is_refusal first.reply ≡ false
  head_fine = not_yes (is_refusal first.reply) (and_left (not (is_refusal first.reply)) (accepts_all d (stepped d v b) bs) smooth.0)

  head_whole : is_cut first.effect ≡ false
  head_whole = not_yes (is_cut first.effect) (and_left (not (is_cut first.effect)) (uncut (effects_in d (stepped d v b) bs)) smooth.1)

  tail_smooth : Smooth d (stepped d v b) bs
  tail_smooth = (
    and_right (not (is_refusal first.reply)) (accepts_all d (stepped d v b) bs) smooth.0,
    and_right (not (is_cut first.effect)) (uncut (effects_in d (stepped d v b) bs)) smooth.1,
  )

-- ---- all the cycles of a suspend under way, the last apart
record Over (wr : Wear) (d : Device) (sr l a : ℕ) (xs : List ℕ) (bs : List Bus) (b : Bus) (v : World) : Type 0 where
  left : Left wr (decided_as Quiet (world_after d v (bs ++ (b ∷ []))).state Nothing) sr l a (is_resume b.cycle) (is_opening b.cycle)
  bytes : (world_after d v (bs ++ (b ∷ []))).bytes ≡ xs
  seen : seen_in d v (bs ++ (b ∷ [])) ≡ shown_all sr bs ++ (shown_as (held_status sr) b ∷ [])

module _ (wr : Wear) (d : Device) (sr l a : ℕ) (small : sr < 64) (xs : List ℕ) where
  abbrev under_way_lem : ℕ → World
  under_way_lem k = world_of (at wr sr (Suspending (suc k)) l a) xs

  last_one : (b : Bus) → Smooth d (under_way_lem 0) (b ∷ []) → Over wr d sr l a xs [] b (under_way_lem 0)
  unfolding answer_of array_after
  last_one b smooth =
      let e = last_settles wr d b.cycle (length xs) (length b.residue) sr l a (head_fine d (under_way_lem 0) b [] smooth) (head_whole d (under_way_lem 0) b [] smooth) in
      let h = held wr d b.cycle sr l a small b.cycle.kind in
      record {
        left = record {
          mode = ap (λ (x : Decision). x.state.mode) e ∙ h.mode;
          effect = refl;
          phase = ap (λ (x : Decision). x.state.phase) e ∙ h.phase;
          left = ap (λ (x : Decision). x.state.left) e ∙ h.left;
          address = ap (λ (x : Decision). x.state.address) e ∙ h.address;
          status = ap (λ (x : Decision). x.state.status) e ∙ h.status;
          wear = ap (λ (x : Decision). x.state.wear) e ∙ h.wear;
        };
        bytes = ap (λ (x : Decision). array_of x.effect d.part b.residue xs) e ∙ ap (λ (x : Effect). array_of x d.part b.residue xs) h.effect;
        seen = ap (λ (x : Seen). x ∷ [])
            ((λ i. seen_of (e i).reply (array_of (e i).effect d.part b.residue xs))
            ∙ (λ i. seen_of (held_reply wr d b.cycle sr l a small b.cycle.kind i) (array_of (h.effect i) d.part b.residue xs))
            ∙ shown_as_lem (held_status sr) b xs);
      }

  all_of : (bs : List Bus) (b : Bus) → Smooth d (under_way_lem (length bs)) (bs ++ (b ∷ [])) → Over wr d sr l a xs bs b (under_way_lem (length bs))
  all_of [] b smooth = last_one b smooth
  all_of (x ∷ bs) b smooth =
      let v = under_way_lem (suc (length bs)) in
      let e = goes_on wr d x.cycle (length xs) (length x.residue) sr l a (length bs) (head_fine d v x (bs ++ (b ∷ [])) smooth) (head_whole d v x (bs ++ (b ∷ [])) smooth) in
      let q : stepped d v x ≡ under_way_lem (length bs) = stepped_as d v.state (at wr sr (Suspending (suc (length bs))) l a) xs x (reply_as sr x.cycle.kind) e in
      let o = all_of bs b (subst (λ (u : World). Smooth d u (bs ++ (b ∷ []))) q (tail_smooth d v x (bs ++ (b ∷ [])) smooth)) in
      let p = subst (λ (u : World). Over wr d sr l a xs bs b u) (sym q) o in
      record {
        left = p.left;
        bytes = p.bytes;
        seen = λ i. seen_as d v.state (at wr sr (Suspending (suc (length bs))) l a) xs x sr e i ∷ p.seen i;
      }

quiet_seen : (d : Device) (s t : State) (xs : List ℕ) (b : Bus) → decide_of d s b.cycle (length xs) (length b.residue) ≡ decided_as Quiet t Nothing → seen_on d (world_of s xs) b ≡ NoData
unfolding answer_of array_after
quiet_seen d s t xs b e = λ i. seen_of (e i).reply (array_of (e i).effect d.part b.residue xs)

-- a running erase that is proper has SR.7 and SR.6 clear
erase_small : (d : Device) (s : State) (c : Cycle) (n r : ℕ) → s.phase ≡ Erasing → is_refusal (decide_of d s c n r).reply ≡ false → s.status < 64
erase_small d s c n r p fine = go (eqb (number_of d s c n r) 0) refl
  where
    go : (b : Bool) → eqb (number_of d s c n r) 0 ≡ b → s.status < 64
    go true e =
        let f = facts.fine d s c n r (eqb-true (number_of d s c n r) 0 e) in
        let h : fits 0 s.status ≡ true = subst (λ (ph : Phase). fits (top_bits ph) s.status ≡ true) p (status_fits s.phase s.status f.proper.status) in
        let q : s.status / 64 ≡ 0 = eqb-true (s.status / 64) 0 (and_right (eqb (s.status % 8) 0) (eqb (s.status / 64) 0) h) in
        omega arith
    go false e =
        let q = refused d s c n r (number_of d s c n r) refl (eqb-false (number_of d s c n r) 0 e) in
        absurd (unlike (sym (ap (λ (x : Decision). is_refusal x.reply) q) ∙ fine))

-- ---- B0H, and S cycles after it
module _ (wr : Wear) (d : Device) (m : Mode) (sr l a : ℕ) (xs : List ℕ) (b : Bus) (bs : List Bus) (last : Bus)
    (asks : is_suspend b.cycle ≡ true) (more : 1 < l) (long : suc (length bs) ≡ d.suspend) where
  abbrev from : World
  from = world_of (record { mode = m; status = sr; phase = Erasing; left = l; address = a; wear = wr }) xs

  over : Smooth d from (b ∷ (bs ++ (last ∷ []))) → Suspends from (world_after d from (b ∷ (bs ++ (last ∷ [])))) (is_resume last.cycle) (is_opening last.cycle)
      × (seen_in d from (b ∷ (bs ++ (last ∷ []))) ≡ NoData ∷ (shown_all sr bs ++ (shown_as (held_status sr) last ∷ [])))
  over smooth =
      let fine = head_fine d from b (bs ++ (last ∷ [])) smooth in
      let small = erase_small d from.state b.cycle (length xs) (length b.residue) refl fine in
      let e = begins wr d b.cycle (length xs) (length b.residue) sr l a m asks more fine (head_whole d from b (bs ++ (last ∷ [])) smooth) in
      let u : World = world_of (at wr sr (Suspending (suc (length bs))) (l - 1) a) xs in
      let q : stepped d from b ≡ u =
      stepped_as d from.state (at wr sr (Suspending d.suspend) (l - 1) a) xs b Quiet e ∙ ap (λ (k : ℕ). world_of (at wr sr (Suspending k) (l - 1) a) xs) (sym long) in
      let o = all_of wr d sr (l - 1) a small xs bs last (subst (λ (v : World). Smooth d v (bs ++ (last ∷ []))) q (tail_smooth d from b (bs ++ (last ∷ [])) smooth)) in
      let p = subst (λ (v : World). Over wr d sr (l - 1) a xs bs last v) (sym q) o in (
        record {
          mode = p.left.mode;
          phase = p.left.phase;
          left = ap (λ (k : ℕ). k + 1) p.left.left ∙ (let z : l - 1 + 1 ≡ l = omega arith in z);
          address = p.left.address;
          status = p.left.status;
          wear = p.left.wear;
          bytes = p.bytes;
        },
        λ i. quiet_seen d from.state (at wr sr (Suspending d.suspend) (l - 1) a) xs b e i ∷ p.seen i,
      )

-- the same of any state whose phase it is
pub suspends : (d : Device) (v : World) (b : Bus) (bs : List Bus) (last : Bus) → Unfinished v.state → is_suspend b.cycle ≡ true → suc (length bs) ≡ d.suspend
    → Smooth d v (b ∷ (bs ++ (last ∷ [])))
    → Suspends v (world_after d v (b ∷ (bs ++ (last ∷ [])))) (is_resume last.cycle) (is_opening last.cycle)
    × (seen_in d v (b ∷ (bs ++ (last ∷ []))) ≡ NoData ∷ (shown_all v.state.status bs ++ (shown_as (held_status v.state.status) last ∷ [])))
suspends d v b bs last erase asks long smooth =
    let s = v.state in
    let f : World = world_of (record { mode = s.mode; status = s.status; phase = Erasing; left = s.left; address = s.address; wear = s.wear }) v.bytes in
    let q : f ≡ v = λ i. world_of (record { mode = s.mode; status = s.status; phase = sym erase.0 i; left = s.left; address = s.address; wear = s.wear }) v.bytes in
    let o = over s.wear d s.mode s.status s.left s.address v.bytes b bs last asks erase.1 long (subst (λ (w : World). Smooth d w (b ∷ (bs ++ (last ∷ [])))) (sym q) smooth) in
    subst (λ (w : World). Suspends w (world_after d w (b ∷ (bs ++ (last ∷ [])))) (is_resume last.cycle) (is_opening last.cycle)
    × (seen_in d w (b ∷ (bs ++ (last ∷ []))) ≡ NoData ∷ (shown_all w.state.status bs ++ (shown_as (held_status w.state.status) last ∷ [])))) q o

-- the status that such a device shows: neither bit before, both at the end
pub bits : (sr : ℕ) → sr < 64 → (is_set sr SR7 ≡ false) × (is_set sr SR6 ≡ false) × (is_set (held_status sr) SR7 ≡ true) × (is_set (held_status sr) SR6 ≡ true)
bits sr h =
    let f : ℕ → Bool = λ x. ((not (is_set x SR7) && not (is_set x SR6)) && is_set (held_status x) SR7) && is_set (held_status x) SR6 in
    let e : f sr ≡ true = all_below_lem f 64 refl sr h in
    let n7 = not (is_set sr SR7) in
    let n6 = not (is_set sr SR6) in
    let y7 = is_set (held_status sr) SR7 in
    let y6 = is_set (held_status sr) SR6 in
    let front : ((n7 && n6) && y7) ≡ true = and_left ((n7 && n6) && y7) y6 e in
    let none : (n7 && n6) ≡ true = and_left (n7 && n6) y7 front in
    (not_yes (is_set sr SR7) (and_left n7 n6 none), not_yes (is_set sr SR6) (and_right n7 n6 none), and_right (n7 && n6) y7 front, and_right ((n7 && n6) && y7) y6 e)

pub shows : (d : Device) (v : World) (b : Bus) (bs : List Bus) → v.state.phase ≡ Erasing → Smooth d v (b ∷ bs)
    → let sr = v.state.status in (is_set sr SR7 ≡ false) × (is_set sr SR6 ≡ false) × (is_set (held_status sr) SR7 ≡ true) × (is_set (held_status sr) SR6 ≡ true)
shows d v b bs p smooth =
    bits v.state.status (erase_small d v.state b.cycle (length v.bytes) (length b.residue) p (head_fine d v b bs smooth))
