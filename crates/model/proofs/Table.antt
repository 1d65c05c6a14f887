-- The table of refusals: refused by a number exactly where its row is the first that holds.
use mathlib.Core.Path.{◌≡◌, refl, sym, ap, ◌∙◌}
use mathlib.Core.List.{List}
use mathlib.Core.Logic.{◌↔◌}
use Prim.Native.Nat.{ℕ}
use native.Mathlib.Omega.{arith}
use lib.ListN.{length}
use lib.Dec.{eqb}
use borrow.Author.Tests.{eqb-true, eqb-false}
use Rattle.common.specs.Numbers.{Foremost, NoRow}
use Rattle.common.proofs.Numbers.{given_foremost, foremost_given, given_no_row, no_row_given}
use Rattle.device.specs.declared.Device.{Device}
use Rattle.model_types.specs.declared.State.{State}
use Rattle.model_types.specs.declared.Cycle.{Cycle}
use Rattle.model_types.specs.declared.Settled.{Settled}
use Rattle.model_types.specs.declared.Decision.{Decision}
use Rattle.model_types.specs.declared.Kind.{Kind}
use Rattle.model_types.specs.declared.Kind.TheVariants.{Read, Write, Idle}
use Rattle.model_types.specs.declared.Mode.{Mode}
use Rattle.model_types.specs.declared.Mode.TheVariants.{Array, Status, Identifier}
use Rattle.model_types.specs.declared.Reply.{Reply}
use Rattle.model_types.specs.declared.Reply.TheVariants.{Quiet, Gives, GivesArray, Refuses}
use Rattle.model_types.specs.declared.Effect.TheVariants.{Nothing}
use Rattle.model_levels.specs.Levels.{rp_low}
use Rattle.model_types.specs.Phases.{is_busy}
use Rattle.model_operation.specs.Settling.{settle_of}
use Rattle.model_rules.specs.Cycles.{table_of, number_of, decide_of, accept_of, respond_of, reply_to, decided_as}
use mathlib.Core.Bool.{true, false, Bool}
use Rattle.common.proofs.Choice.{unlike}
use Rattle.model_rules.proofs.Cases.{refused, accepted}
use Rattle.model.specs.declared.Seen.TheVariants.{Refused, Data}
use Rattle.model.specs.Arrays.{is_refusal, array_after, answer_of, seen_of, Accepted}
use Rattle.model_rules.proofs.Facts.{fine}
use Rattle.model.proofs.Outcome.{outcome, accept_cases}
use Rattle.model.proofs.Keeping.{settled_busy, settled_mode}
use Rattle.model.proofs.Lives.{accept_up}

-- the number that a reply refuses by, 0 where it gives no refusal
abbrev pub reply_number : Reply → ℕ
reply_number Quiet = 0
reply_number (Gives b) = 0
reply_number (GivesArray a) = 0
reply_number (Refuses m) = m

-- an accepted cycle is not refused
accept_answers : (d : Device) (c : Cycle) (t : Settled) → is_refusal (accept_of d c t).reply ≡ false
accept_answers d c t = accept_cases d c t (λ (x : Decision). is_refusal x.reply ≡ false) (λ e. refl) (λ e k q. kinds k)
  where
    reads : (m : Mode) → is_refusal (reply_to m d.part c.address t.state.status) ≡ false
    reads Array = refl
    reads Status = refl
    reads Identifier = refl

    kinds : (k : Kind) → is_refusal (respond_of k d c t).reply ≡ false
    kinds Read = reads t.state.mode
    kinds Write = refl
    kinds Idle = refl

calm : (x : Reply) → is_refusal x ≡ false → reply_number x ≡ 0
calm Quiet e = refl
calm (Gives b) e = refl
calm (GivesArray a) e = refl
calm (Refuses m) e = absurd (unlike e)

module _ (d : Device) (s : State) (c : Cycle) (n r : ℕ) where
  -- the number of the table is the number of the reply
  pub told : reply_number (decide_of d s c n r).reply ≡ number_of d s c n r
  told =
      outcome d s c n r (λ (x : Decision). reply_number x.reply ≡ number_of d s c n r) (λ m z e. sym e)
      (λ z f. calm (accept_of d c (settle_of d.part s c.pins)).reply (accept_answers d c (settle_of d.part s c.pins)) ∙ sym z)

  -- refused by m exactly where m's row holds and no row above it does
  pub numbers : (m : ℕ) → (m ≡ 0 → ⊥) → ((decide_of d s c n r).reply ≡ Refuses m) ↔ Foremost (table_of d s c n r) m
  unfolding number_of
  numbers m z = (
    λ e. given_foremost (table_of d s c n r) m z (sym told ∙ ap reply_number e),
    λ f. ap (λ (x : Decision). x.reply) (refused d s c n r m (foremost_given f) z),
  )

  -- a refused cycle leaves the state and does nothing to the array
  pub refused_nothing : is_refusal (decide_of d s c n r).reply ≡ true → ((decide_of d s c n r).state ≡ s) × ((decide_of d s c n r).effect ≡ Nothing)
  refused_nothing =
      outcome d s c n r (λ (x : Decision). is_refusal x.reply ≡ true → (x.state ≡ s) × (x.effect ≡ Nothing)) (λ m z e q. (refl, refl))
      (λ z f q. absurd (unlike (sym q ∙ accept_answers d c (settle_of d.part s c.pins))))

-- the same as the host sees it: a refusal by m comes of a reply that refuses by m
pub seen_refused : (x : Reply) (xs : List ℕ) (m : ℕ) → seen_of x xs ≡ Refused m → x ≡ Refuses m
seen_refused Quiet xs m e = absurd (let z : ◌≡◌ {A = ℕ} 0 1 = cc in omega arith)
seen_refused (Gives b) xs m e = absurd (let z : ◌≡◌ {A = ℕ} 0 1 = cc in omega arith)
seen_refused (GivesArray a) xs m e = absurd (let z : ◌≡◌ {A = ℕ} 0 1 = cc in omega arith)
seen_refused (Refuses k) xs m e = ap Refuses (let q : k ≡ m = cc in q)

pub host_numbers : (d : Device) (s : State) (c : Cycle) (xs rs : List ℕ) (m : ℕ) → (m ≡ 0 → ⊥)
    → ((answer_of d s c xs rs).seen ≡ Refused m) ↔ Foremost (table_of d s c (length xs) (length rs)) m
unfolding answer_of
host_numbers d s c xs rs m z = (
  λ e. (numbers d s c (length xs) (length rs) m z).0 (seen_refused (decide_of d s c (length xs) (length rs)).reply (array_after d s c xs rs) m e),
  λ f. ap (λ (x : Reply). seen_of x (array_after d s c xs rs)) ((numbers d s c (length xs) (length rs) m z).1 f),
)

pub host_refused : (d : Device) (s : State) (c : Cycle) (xs rs : List ℕ) (m : ℕ) → (answer_of d s c xs rs).seen ≡ Refused m
    → ((answer_of d s c xs rs).state ≡ s) × (array_after d s c xs rs ≡ xs)
unfolding answer_of array_after
host_refused d s c xs rs m e =
    let q : (decide_of d s c (length xs) (length rs)).reply ≡ Refuses m = seen_refused (decide_of d s c (length xs) (length rs)).reply (array_after d s c xs rs) m e in
    let w = refused_nothing d s c (length xs) (length rs) (ap is_refusal q) in
    (w.0, rw w.1 refl)

-- what the host sees refused by no number has the number 0, and back
module _ (d : Device) (s : State) (c : Cycle) (xs rs : List ℕ) where
  host_zero : Accepted (answer_of d s c xs rs) → number_of d s c (length xs) (length rs) ≡ 0
  unfolding answer_of
  host_zero a = go (eqb (number_of d s c (length xs) (length rs)) 0) refl
    where
      go : (b : Bool) → eqb (number_of d s c (length xs) (length rs)) 0 ≡ b → number_of d s c (length xs) (length rs) ≡ 0
      go true e = eqb-true (number_of d s c (length xs) (length rs)) 0 e
      go false e =
          let z = eqb-false (number_of d s c (length xs) (length rs)) 0 e in
          absurd (a (number_of d s c (length xs) (length rs)) (ap (λ (x : Decision). seen_of x.reply (array_after d s c xs rs)) (refused d s c (length xs) (length rs) (number_of d s c (length xs) (length rs)) refl z)))

  zero_host : number_of d s c (length xs) (length rs) ≡ 0 → Accepted (answer_of d s c xs rs)
  unfolding answer_of
  zero_host z m e =
      let q : (decide_of d s c (length xs) (length rs)).reply ≡ Refuses m = seen_refused (decide_of d s c (length xs) (length rs)).reply (array_after d s c xs rs) m e in
      let w : is_refusal (decide_of d s c (length xs) (length rs)).reply ≡ false =
      ap (λ (x : Decision). is_refusal x.reply) (accepted d s c (length xs) (length rs) z) ∙ accept_answers d c (settle_of d.part s c.pins) in
      unlike (sym (ap is_refusal q) ∙ w)

  -- accepted exactly where no row holds
  pub host_accepted : Accepted (answer_of d s c xs rs) ↔ NoRow (table_of d s c (length xs) (length rs))
  unfolding number_of
  host_accepted = (λ a. given_no_row (table_of d s c (length xs) (length rs)) refl (host_zero a), λ f. zero_host (no_row_given f))

  -- an accepted read in mode status shows the status of the state that it leaves
  status_shown : Accepted (answer_of d s c xs rs) → c.kind ≡ Read → rp_low c.pins ≡ false → (settle_of d.part s c.pins).state.mode ≡ Status
      → (answer_of d s c xs rs).seen ≡ Data (answer_of d s c xs rs).state.status
  unfolding answer_of
  status_shown a k up m =
      let t : Settled = settle_of d.part s c.pins in
      let e : decide_of d s c (length xs) (length rs) ≡ decided_as (Gives t.state.status) t.state t.effect =
      accepted d s c (length xs) (length rs) (host_zero a) ∙ accept_up d c t up ∙ ap (λ (x : Kind). respond_of x d c t) k
      ∙ ap (λ (x : Mode). decided_as (reply_to x d.part c.address t.state.status) t.state t.effect) m in
      ap (λ (x : Decision). seen_of x.reply (array_after d s c xs rs)) e ∙ sym (ap (λ (x : Decision). Data x.state.status) e)

  pub busy_read : Accepted (answer_of d s c xs rs) → c.kind ≡ Read → rp_low c.pins ≡ false → is_busy (settle_of d.part s c.pins).state.phase ≡ true
      → (answer_of d s c xs rs).seen ≡ Data (answer_of d s c xs rs).state.status
  busy_read a k up b = status_shown a k up (settled_busy d s c (fine d s c (length xs) (length rs) (host_zero a)).proper b)

  pub busy_read_ending : Accepted (answer_of d s c xs rs) → c.kind ≡ Read → rp_low c.pins ≡ false → is_busy s.phase ≡ true
      → (answer_of d s c xs rs).seen ≡ Data (answer_of d s c xs rs).state.status
  busy_read_ending a k up b = status_shown a k up (settled_mode d s c (fine d s c (length xs) (length rs) (host_zero a)).proper up b)
