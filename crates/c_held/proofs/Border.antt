-- The records of a load that may be interrupted and their numbers: there and back, and what a refused step gives back.
use mathlib.Core.Path.{◌≡◌, refl, sym, ap, ◌∙◌}
use mathlib.Core.Bool.{true, false, ◌||◌}
use mathlib.Core.List.{List}
use Prim.Native.Nat.{ℕ, zero, suc, ◌≤◌}
use native.Mathlib.Omega.{arith}
use lib.ListN.{length}
use lib.Dec.{eqb, ltb}
use borrow.Author.Tests.{ltb-false, ne_eqb}
use Rattle.common.proofs.Choice.{if_false, if_ind, or_left, or_right, or_both}
use Rattle.units.specs.Units.{lent}
use Rattle.loader.specs.declared.Saying.TheVariants.{Refused}
use Rattle.loader_held.specs.declared.Step.{Step}
use Rattle.loader_held.specs.declared.Step.TheVariants.{Usual, Halting, Looking, Settling, ArrayAsking, Fetching, Resuming}
use Rattle.loader_held.specs.declared.Hold.{Hold}
use Rattle.loader_held.specs.declared.Pair.{Pair}
use Rattle.loader_held_steps.specs.declared.HeldResponse.{HeldResponse}
use Rattle.loader_held_steps.specs.HeldFront.{step_held_number, step_held_response, held_scratch_left, held_room_left, held_response, held_refused, held_move}
use Rattle.c_cycle.proofs.Border.{flag_back, flag_low, flag_number}
use Rattle.c_records.specs.Records.{saying_out}
use Rattle.c_records.proofs.Border.{record_back, record_same}
use Rattle.c_held.specs.declared.HoldNumbers.{HoldNumbers}
use Rattle.c_held.specs.declared.HeldNumbers.{HeldNumbers}
use Rattle.c_held.specs.declared.HeldResponseNumbers.{HeldResponseNumbers}
use Rattle.c_held.specs.Helds.{step_in, step_out, no_hold, waits_in, hold_in, hold_out, hold_back, held_in, held_out, held_back, word_in, held_response_back, stepped_held, scratch_stepped_held, room_stepped_held}

step_back : (s : Step) → step_in (step_out s) ≡ s
unfolding step_in
step_back Usual = refl
step_back Halting = refl
step_back Looking = refl
step_back Settling = refl
step_back ArrayAsking = refl
step_back Fetching = refl
step_back Resuming = refl

step_low : (s : Step) → ltb 6 (step_out s) ≡ false
step_low Usual = refl
step_low Halting = refl
step_low Looking = refl
step_low Settling = refl
step_low ArrayAsking = refl
step_low Fetching = refl
step_low Resuming = refl

out_hold : (h : Hold) → no_hold (hold_out h) ≡ false
unfolding no_hold
out_hold h = or_both _ _ (step_low h.step) (flag_low h.suspended)

hold_back_lem : (h : Hold) → hold_in (hold_out h) ≡ h
unfolding waits_in
hold_back_lem h =
    let s = step_back h.step in
    let n : waits_in (hold_out h) ≡ h.waits = if_false (no_hold (hold_out h)) 65535 h.waits (out_hold h) in
    λ i. record { step = s i; number = h.number; place = h.place; waits = n i; suspended = flag_back h.suspended i }

-- there and back
pub held_back_lem : (q : Pair) → held_in (held_out q) ≡ q
held_back_lem q = λ i. record { loader = record_back q.loader i; hold = hold_back_lem q.hold i }

step_number : (n : ℕ) → n ≤ 6 → step_out (step_in n) ≡ n
unfolding step_in
step_number zero h = refl
step_number (suc zero) h = refl
step_number (suc (suc zero)) h = refl
step_number (suc (suc (suc zero))) h = refl
step_number (suc (suc (suc (suc zero)))) h = refl
step_number (suc (suc (suc (suc (suc zero))))) h = refl
step_number (suc (suc (suc (suc (suc (suc zero)))))) h = refl
step_number (suc (suc (suc (suc (suc (suc (suc k))))))) h = absurd (omega arith)

hold_numbers : (n : HoldNumbers) → no_hold n ≡ false → hold_out (hold_in n) ≡ n
unfolding waits_in no_hold
hold_numbers n e =
    let low : n.step ≤ 6 = ltb-false 6 n.step (or_left (ltb 6 n.step) (ltb 1 n.suspended) e) in
    let s = step_number n.step low in
    let f = flag_number n.suspended (or_right (ltb 6 n.step) (ltb 1 n.suspended) e) in
    let q : waits_in n ≡ n.waits = if_false (no_hold n) 65535 n.waits e in
    λ i. record { step = s i; suspended = f i; number = n.number; waits = q i; place = n.place }

hold_same : (n : HoldNumbers) → hold_back n (hold_in n) ≡ n
unfolding hold_back
hold_same n = if_ind (λ (x : HoldNumbers). x ≡ n) (no_hold n) n (hold_out (hold_in n)) (λ _. refl) (λ e. hold_numbers n e)

-- records that are not moved go back as they came
pub held_same : (n : HeldNumbers) → held_back n (held_in n) ≡ n
held_same n = λ i. record { loader = record_same n.loader i; hold = hold_same n.hold i }

-- a refused step gives its number, and all that came goes back as it came
module _ (n : HeldNumbers) (v : ℕ) (w sc ps bs room : List ℕ) where
  abbrev pub number : ℕ
  number = step_held_number (held_in n).loader (held_in n).hold (length (lent (word_in n) w)) (length (lent (word_in n) sc)) bs (length room)

  pub held_step_refused : (number ≡ 0 → ⊥)
      → (stepped_held n v w sc ps bs room ≡ record { turn = saying_out (Refused number); held = n }) × (scratch_stepped_held n v w sc bs room ≡ sc) × (room_stepped_held n v w sc bs room ≡ room)
  unfolding stepped_held scratch_stepped_held room_stepped_held step_held_response held_scratch_left held_room_left
  held_step_refused z =
      let f : eqb number 0 ≡ false = ne_eqb number 0 z in (
        ap (held_response_back n) (if_false {A = HeldResponse} (eqb number 0) _ _ f) ∙ (λ i. record { turn = saying_out (Refused number); held = held_same n i }),
        if_false {A = List ℕ} (eqb number 0) _ sc f,
        if_false {A = List ℕ} (eqb number 0) _ room f,
      )
