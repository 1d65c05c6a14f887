-- One line of a trace recorded: its record is without fault, leads where the cycle leads, and fits a line.
use mathlib.Core.Path.{◌≡◌, refl, sym, ap, subst, ◌∙◌}
use mathlib.Core.Bool.{Bool, true, false, not, ◌&&◌, ◌||◌}
use mathlib.Core.List.{List, []}
use Prim.Native.Nat.{ℕ, ◌≤◌, ◌<◌}
use native.Mathlib.Omega.{arith}
use lib.Dec.{eqb}
use lib.ListN.{length, get_or}
use Rattle.std.specs.Prelude.{if◌then◌else◌, Option}
use Rattle.common.proofs.Choice.{if_ind, if_true, if_false, unlike}
use Rattle.units.specs.Units.{lent, top}
use Rattle.units.proofs.Widths.{lent_even}
use Rattle.device.specs.declared.Part.{Part}
use Rattle.device.specs.declared.Device.{Device}
use Rattle.device.specs.Parts.{row_of, shape_of, code_of}
use Rattle.model_types.specs.declared.Cycle.{Cycle}
use Rattle.model_types.specs.declared.Decision.{Decision}
use Rattle.model_types.specs.declared.Kind.{Kind}
use Rattle.model_types.specs.declared.Kind.TheVariants.{Read, Write, Idle}
use Rattle.model_types.specs.declared.Mode.{Mode}
use Rattle.model_types.specs.declared.Mode.TheVariants.{Array, Status, Identifier}
use Rattle.model_types.specs.declared.Reply.{Reply}
use Rattle.model_types.specs.declared.Reply.TheVariants.{Quiet, Gives, GivesArray, Refuses}
use Rattle.model_types.specs.declared.Settled.{Settled}
use Rattle.model_types.specs.declared.State.{State}
use Rattle.model_types.specs.Cells.{ones, Cells}
use Rattle.model_states.specs.States.{improper}
use Rattle.model_operation.specs.Settling.{settle_of}
use Rattle.model_rules.specs.Cycles.{identifier_of, code_place, reply_to, respond_of, accept_of, decide_of}
use Rattle.model.specs.declared.Answer.{Answer}
use Rattle.model.specs.declared.Seen.{Seen}
use Rattle.model.specs.declared.Seen.TheVariants.{NoData, Data, Refused}
use Rattle.model.specs.Arrays.{is_refusal, seen_of, array_after, answer_of, bytes_after}
use Rattle.model.proofs.Claims.{stays_proper, stays_cells, byte_mode_bytes, status_is_byte}
use Rattle.model.proofs.Outcome.{outcome, accept_cases, accept_effect}
use Rattle.model_history.specs.History.{Bus, is_cut}
use Rattle.recording.specs.declared.Noted.{Noted}
use Rattle.recording.specs.Recordings.{starts, longest, outside, wrong_count, cuts_off, count_of, time_of, timed, agrees, answer_to, faulty}
use Rattle.recording_lines.specs.Records.{HeardFits}
use Rattle.recording_walk.specs.Lists.{Held, held_of, onward}
use Rattle.recording_claims.specs.Made.{answered_on, made_one, heard_of, record_of}
use Rattle.recording_claims.proofs.Replaying.{record_fine, leads_same}
use Rattle.recording_claims.proofs.Single.{whole_uncut}
use Rattle.recording_replay.specs.Recorded.{time_awaited, busy_of, refusal_number}
use Rattle.recording_replay_claims.specs.Kept.{record_for}
use Rattle.trace_replay.specs.Replays.{bench_t, line_step, array_by}

-- a count that is not read does not matter
module _ (d : Device) (s : State) (c : Cycle) (h : Option ℕ) (m n : ℕ) (same : starts d.part s c ≡ true → m ≡ n) where
  abbrev with : ℕ → Noted
  with k = record { cycle = c; heard = h; busy = k }

  time_same : time_of d.part s (with m) ≡ time_of d.part s (with n)
  unfolding time_of
  time_same = go (starts d.part s c) refl
    where
      go : (b : Bool) → starts d.part s c ≡ b → (if starts d.part s c then count_of m else longest) ≡ (if starts d.part s c then count_of n else longest)
      go true e = ap (λ (k : ℕ). if starts d.part s c then count_of k else longest) (same e)
      go false e = if_false (starts d.part s c) _ _ e ∙ sym (if_false (starts d.part s c) _ _ e)

  wrong_same : wrong_count d.part s (with m) ≡ wrong_count d.part s (with n)
  unfolding wrong_count
  wrong_same = go (starts d.part s c) refl
    where
      go : (b : Bool) → starts d.part s c ≡ b → (starts d.part s c && outside m) ≡ (starts d.part s c && outside n)
      go true e = ap (λ (k : ℕ). starts d.part s c && outside k) (same e)
      go false e = rw e refl

  pub fault_same : (bytes : List ℕ) → faulty d s (with m) bytes ≡ faulty d s (with n) bytes
  unfolding faulty answer_to
  fault_same bytes =
      λ i. (wrong_same i || cuts_off d.part s c) || not (agrees (answer_of (timed d (time_same i)) s c (lent d.part.word bytes) []).seen h)

  pub onward_same : (bytes : List ℕ) → onward d (held_of s bytes) (with m) ≡ onward d (held_of s bytes) (with n)
  unfolding answer_to
  onward_same bytes =
      λ i. held_of (answer_of (timed d (time_same i)) s c (lent d.part.word bytes) []).state (bytes_after (timed d (time_same i)) s c bytes [])

-- an accepted cycle is answered
answers : (d : Device) (c : Cycle) (t : Settled) → is_refusal (accept_of d c t).reply ≡ false
answers d c t = accept_cases d c t (λ (x : Decision). is_refusal x.reply ≡ false) (λ e. refl) (λ e k q. kinds k)
  where
    modes : (m : Mode) → is_refusal (reply_to m d.part c.address t.state.status) ≡ false
    modes Array = refl
    modes Status = refl
    modes Identifier = refl

    kinds : (k : Kind) → is_refusal (respond_of k d c t).reply ≡ false
    kinds Read = modes t.state.mode
    kinds Write = refl
    kinds Idle = refl

code_small : (a : ℕ) → identifier_of bench_t.part a < 256
unfolding identifier_of code_of shape_of row_of
code_small a = if_ind (λ (n : ℕ). n < 256) (eqb (code_place bench_t.part a) 0) _ _ (λ e. omega arith) (λ e. omega arith)

-- one line's cycle
module _ (s : State) (c : Cycle) (xs rs : List ℕ) where
  abbrev made : Decision
  made = decide_of bench_t s c (length xs) (length rs)

  answered : refusal_number (line_step s c xs rs).seen ≡ 0 → is_refusal made.reply ≡ false
  unfolding line_step answer_of
  answered =
      outcome bench_t s c (length xs) (length rs) (λ (x : Decision). refusal_number (seen_of x.reply (array_after bench_t s c xs rs)) ≡ 0 → is_refusal x.reply ≡ false)
      (λ m z e q. absurd (z q)) (λ z f q. answers bench_t c (settle_of bench_t.part s c.pins))

  -- a refusal is never by 0
  pub never_zero : (line_step s c xs rs).seen ≡ Refused 0 → ⊥
  unfolding line_step answer_of
  never_zero =
      outcome bench_t s c (length xs) (length rs) (λ (x : Decision). seen_of x.reply (array_after bench_t s c xs rs) ≡ Refused 0 → ⊥)
      (λ m z e q. z (ap refusal_number q))
      (λ z f q. not_refused (accept_of bench_t c (settle_of bench_t.part s c.pins)).reply (answers bench_t c (settle_of bench_t.part s c.pins)) q)
    where
      is_refused : Seen → Bool
      is_refused NoData = false
      is_refused (Data x) = false
      is_refused (Refused m) = true

      not_refused : (r : Reply) → is_refusal r ≡ false → seen_of r (array_after bench_t s c xs rs) ≡ Refused 0 → ⊥
      not_refused Quiet e q = unlike (sym (ap is_refused q))
      not_refused (Gives x) e q = unlike (sym (ap is_refused q))
      not_refused (GivesArray a) e q = unlike (sym (ap is_refused q))
      not_refused (Refuses m) e q = unlike e

  uncut : cuts_off bench_t.part s c ≡ false → is_cut made.effect ≡ false
  uncut whole =
      outcome bench_t s c (length xs) (length rs) (λ (x : Decision). is_cut x.effect ≡ false) (λ m z e. refl)
      (λ z f. ap is_cut (accept_effect bench_t c (settle_of bench_t.part s c.pins)) ∙ whole_uncut bench_t.part s c whole)

  -- data is a byte
  pub heard_fits : improper bench_t s ≡ false → Cells bench_t.part xs → Cells bench_t.part rs → HeardFits (heard_of (line_step s c xs rs).seen)
  unfolding line_step answer_of ones
  heard_fits p bx br = outcome bench_t s c (length xs) (length rs) P (λ m z e q. tt) (λ z f. accept_cases bench_t c t P (λ e q. tt) (λ e k g. kinds k)) (status_is_byte bench_t made.state (stays_proper bench_t s c xs rs p))
    where
      ys : List ℕ
      ys = array_after bench_t s c xs rs

      t : Settled
      t = settle_of bench_t.part s c.pins

      P : Decision → Type 0
      P x = x.state.status < 256 → HeardFits (heard_of (seen_of x.reply ys))

      modes : (m : Mode) → t.state.status < 256 → HeardFits (heard_of (seen_of (reply_to m bench_t.part c.address t.state.status) ys))
      modes Array q = let h = stays_cells bench_t s c xs rs br bx c.address in omega (arith, h)
      modes Status q = q
      modes Identifier q = code_small c.address

      kinds : (k : Kind) → P (respond_of k bench_t c t)
      kinds Read q = modes t.state.mode q
      kinds Write q = tt
      kinds Idle q = tt

  abbrev v : Held
  v = held_of s xs

  abbrev b : Bus
  b = record { cycle = c; residue = rs }

  even : lent false xs ≡ xs
  even = lent_even false xs refl

  answer_is : answered_on bench_t v b ≡ line_step s c xs rs
  unfolding line_step
  answer_is = ap (λ (us : List ℕ). answer_of bench_t s c us rs) even

  -- at a start the count is the one that the model uses
  busy_is : starts bench_t.part s c ≡ true → busy_of bench_t s c ≡ (record_of bench_t v b).busy
  unfolding busy_of
  busy_is e = if_true (starts bench_t.part s c) (time_awaited bench_t s.phase) 0 e

  module _ (number : refusal_number (line_step s c xs rs).seen ≡ 0) (whole : cuts_off bench_t.part s c ≡ false) where
    reply : is_refusal (decide_of bench_t s c (length (lent false xs)) (length rs)).reply ≡ false
    reply = ap (λ (us : List ℕ). is_refusal (decide_of bench_t s c (length us) (length rs)).reply) even ∙ answered number

    effect : is_cut (decide_of bench_t s c (length (lent false xs)) (length rs)).effect ≡ false
    effect = ap (λ (us : List ℕ). is_cut (decide_of bench_t s c (length us) (length rs)).effect) even ∙ uncut whole

    abbrev heard : Option ℕ
    heard = heard_of (answered_on bench_t v b).seen

    pub line_fine : faulty bench_t s (record_for s c xs rs) xs ≡ false
    line_fine =
        ap (λ (a : Answer). faulty bench_t s (record { cycle = c; heard = heard_of a.seen; busy = busy_of bench_t s c }) xs) (sym answer_is)
        ∙ fault_same bench_t s c heard (busy_of bench_t s c) (record_of bench_t v b).busy busy_is xs
        ∙ record_fine bench_t (omega arith) (omega arith) v b reply effect

    pub line_leads : onward bench_t v (record_for s c xs rs) ≡ held_of (line_step s c xs rs).state (array_by s c xs rs)
    unfolding array_by
    line_leads =
        ap (λ (a : Answer). onward bench_t v (record { cycle = c; heard = heard_of a.seen; busy = busy_of bench_t s c })) (sym answer_is)
        ∙ onward_same bench_t s c heard (busy_of bench_t s c) (record_of bench_t v b).busy busy_is xs
        ∙ leads_same bench_t (omega arith) (omega arith) v b reply effect
        ∙ (λ i. held_of (answer_is i).state (byte_mode_bytes bench_t s c xs rs refl i))
