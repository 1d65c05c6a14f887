-- The walk in the code comes to the check's answer.
use mathlib.Core.Path.{◌≡◌, refl, sym, ap, ap₂, subst, ◌∙◌}
use mathlib.Core.Bool.{Bool, true, false, not, ◌&&◌}
use mathlib.Core.List.{List, [], ◌∷◌, ◌++◌}
use Prim.Native.Nat.{ℕ, suc, ◌+◌, ◌≤◌, ◌<◌}
use native.Mathlib.Omega.{arith}
use lib.Dec.{eqb, ltb}
use lib.ListN.{length, take}
use lib.Seq.{take_all}
use borrow.Author.Tests.{lt-ltb, le-ltb, ltb-true, ltb-false, eq-eqb, ne_eqb, eqb-true}
use Rattle.std.specs.Prelude.{if◌then◌else◌}
use Rattle.common.proofs.Choice.{if_true, if_false, if_ind}
use Rattle.device.specs.declared.Device.{Device}
use Rattle.model_types.specs.declared.State.{State}
use Rattle.model.proofs.Claims.{keeps_bytes}
use Rattle.model.specs.Arrays.{bytes_after}
use Rattle.recording.specs.declared.Noted.{Noted}
use Rattle.recording.specs.declared.Recorded.{Recorded}
use Rattle.recording.specs.Recordings.{device_for, answer_to, faulty, recorded_of, bytes_recorded}
use Rattle.recording_walk.specs.declared.Walk.{Walk}
use Rattle.recording_walk.specs.Lists.{Held, held_of, onward, left_by, passed_by, ends_well, start_number, checked_of, bytes_checked}
use Rattle.recording_walk.specs.Inner.{most, place_after, went_by, went_on, bytes_on, bytes_over, went_over, walk_from, end_of}

-- one record: the ways of the code
module _ (w : Walk) (r : Noted) (bytes : List ℕ) where
  pub stays : w.stopped ≡ true → w ≡ went_on w r bytes
  unfolding went_on
  stays e = sym (if_true w.stopped _ _ e)

  pub stays_bytes : w.stopped ≡ true → bytes ≡ bytes_on w r bytes
  unfolding bytes_on
  stays_bytes e = sym (if_true w.stopped _ _ e)

  pub goes : w.stopped ≡ false → (x : Recorded) → x ≡ recorded_of w.device w.state r bytes → (q : Walk) → q ≡ went_by w x → q ≡ went_on w r bytes
  unfolding went_on
  goes e x p q h = h ∙ ap (went_by w) p ∙ sym (if_false w.stopped _ _ e)

  pub goes_bytes : w.stopped ≡ false → (ys : List ℕ) → ys ≡ bytes_recorded w.device w.state r bytes → ys ≡ bytes_on w r bytes
  unfolding bytes_on
  goes_bytes e ys p = p ∙ sym (if_false w.stopped _ _ e)

  -- the bytes stay as many
  pub on_length : length (bytes_on w r bytes) ≡ length bytes
  unfolding bytes_on bytes_recorded
  on_length = go w.stopped (faulty w.device w.state r bytes)
    where
      go : (b f : Bool)
          → length (if b then bytes else (if f then bytes else bytes_after (device_for w.device w.state r) w.state r.cycle bytes [])) ≡ length bytes
      go true f = refl
      go false true = refl
      go false false = keeps_bytes (device_for w.device w.state r) w.state r.cycle bytes []

-- the end, by what was asked of it
pub closes : (w : Walk) (promised bytes : List ℕ) (b : Bool) → b ≡ ends_well (held_of w.state bytes) promised
    → record { number = w.number; accepted = not w.stopped && b; at = w.at; state = w.state } ≡ end_of w promised bytes
unfolding end_of
closes w promised bytes b e = λ j. record { number = w.number; accepted = not w.stopped && e j; at = w.at; state = w.state }

pub over_length : (bytes : List ℕ) (w : Walk) (rs : List Noted) → length (bytes_over bytes w rs) ≡ length bytes
over_length bytes w [] = refl
over_length bytes w (r ∷ rs) = over_length (bytes_on w r bytes) (went_on w r bytes) rs ∙ on_length w r bytes

-- one record more at the end of the list
pub bytes_snoc : (bytes : List ℕ) (w : Walk) (rs : List Noted) (r : Noted) → bytes_over bytes w (rs ++ (r ∷ [])) ≡ bytes_on (went_over bytes w rs) r (bytes_over bytes w rs)
bytes_snoc bytes w [] r = refl
bytes_snoc bytes w (x ∷ rs) r = bytes_snoc (bytes_on w x bytes) (went_on w x bytes) rs r

pub went_snoc : (bytes : List ℕ) (w : Walk) (rs : List Noted) (r : Noted) → went_over bytes w (rs ++ (r ∷ [])) ≡ went_on (went_over bytes w rs) r (bytes_over bytes w rs)
went_snoc bytes w [] r = refl
went_snoc bytes w (x ∷ rs) r = went_snoc (bytes_on w x bytes) (went_on w x bytes) rs r

-- a walk that has stopped stays to the end
pub halted : (bytes : List ℕ) (w : Walk) (rs : List Noted) → w.stopped ≡ true → went_over bytes w rs ≡ w
halted bytes w [] e = refl
halted bytes w (r ∷ rs) e = ap₂ (λ (ys : List ℕ) (q : Walk). went_over ys q rs) (sym (stays_bytes w r bytes e)) (sym (stays w r bytes e)) ∙ halted bytes w rs e

pub halted_bytes : (bytes : List ℕ) (w : Walk) (rs : List Noted) → w.stopped ≡ true → bytes_over bytes w rs ≡ bytes
halted_bytes bytes w [] e = refl
halted_bytes bytes w (r ∷ rs) e = ap₂ (λ (ys : List ℕ) (q : Walk). bytes_over ys q rs) (sym (stays_bytes w r bytes e)) (sym (stays w r bytes e)) ∙ halted_bytes bytes w rs e

-- a walk by its parts, going and stopped
abbrev going : Device → State → ℕ → Walk
going d s a = record { device = d; state = s; number = 0; stopped = false; at = a }

abbrev ended : Device → State → Bool → ℕ → Walk
ended d s b a = record { device = d; state = s; number = 0; stopped = b; at = a }

module _ (d : Device) (s : State) (a : ℕ) (r : Noted) (bytes : List ℕ) where
  -- a record at fault stops it where it is
  fault_here : faulty d s r bytes ≡ true → went_on (going d s a) r bytes ≡ ended d s true a
  unfolding went_on recorded_of place_after
  fault_here e = rw e refl

  fault_bytes : faulty d s r bytes ≡ true → bytes_on (going d s a) r bytes ≡ bytes
  unfolding bytes_on bytes_recorded
  fault_bytes e = rw e refl

  -- any other leads on
  passes_here : faulty d s r bytes ≡ false → a < most → went_on (going d s a) r bytes ≡ going d (answer_to d s r bytes).state (a + 1)
  unfolding went_on recorded_of place_after
  passes_here e l = rw (e, lt-ltb a most l) refl

  passes_bytes : faulty d s r bytes ≡ false → bytes_on (going d s a) r bytes ≡ (onward d (held_of s bytes) r).bytes
  unfolding bytes_on bytes_recorded
  passes_bytes e = rw e refl

-- one more on either side
one_more : (k n : ℕ) → ltb (suc k) (suc n) ≡ ltb k n
one_more k n = go (ltb k n) refl
  where
    go : (b : Bool) → ltb k n ≡ b → ltb (suc k) (suc n) ≡ ltb k n
    go true e = lt-ltb (suc k) (suc n) (let l = ltb-true k n e in omega arith) ∙ sym e
    go false e = le-ltb (suc k) (suc n) (let l = ltb-false k n e in omega arith) ∙ sym e

none_before : (n : ℕ) → ltb 0 (suc n) ≡ true
none_before n = lt-ltb 0 (suc n) (omega arith)

-- the place of a walk past records that pass
abbrev pub Come : Device → State → ℕ → List ℕ → List Noted → ℕ → Type 0
Come d s a bytes rs i =
    (went_over bytes (going d s a) rs ≡ ended d (left_by d (held_of s bytes) (take i rs)).state (ltb i (length rs)) (a + i))
    × (bytes_over bytes (going d s a) rs ≡ (left_by d (held_of s bytes) (take i rs)).bytes)

pub comes : (d : Device) (s : State) (a : ℕ) (bytes : List ℕ) (rs : List Noted) → a + length rs ≤ most → Come d s a bytes rs (passed_by d (held_of s bytes) rs)
comes d s a bytes [] h = (ap (ended d s false) (let e : a ≡ a + 0 = omega arith in e), refl)
comes d s a bytes (r ∷ rs) h = go (faulty d s r bytes) refl (λ (t : State) (ys : List ℕ). comes d t (a + 1) ys rs (omega arith))
  where
    go : (b : Bool) → faulty d s r bytes ≡ b → ((t : State) (ys : List ℕ) → Come d t (a + 1) ys rs (passed_by d (held_of t ys) rs))
        → Come d s a bytes (r ∷ rs) (if faulty d s r bytes then 0 else suc (passed_by d (onward d (held_of s bytes) r) rs))
    go true e more =
        let p = fault_here d s a r bytes e in
        let q = fault_bytes d s a r bytes e in
        rw e (
          ap₂ (λ (ys : List ℕ) (w : Walk). went_over ys w rs) q p ∙ halted bytes (ended d s true a) rs refl
              ∙ ap₂ (ended d s) (sym (none_before (length rs))) (let z : a ≡ a + 0 = omega arith in z),
          ap₂ (λ (ys : List ℕ) (w : Walk). bytes_over ys w rs) q p ∙ halted_bytes bytes (ended d s true a) rs refl,
        )
    go false e more =
        let v : Held = onward d (held_of s bytes) r in
        let k : ℕ = passed_by d v rs in
        let p = passes_here d s a r bytes e (omega (arith, h)) in
        let q = passes_bytes d s a r bytes e in
        let m = more v.state v.bytes in
        rw e (
          ap₂ (λ (ys : List ℕ) (w : Walk). went_over ys w rs) q p ∙ m.0
              ∙ ap₂ (ended d (left_by d v (take k rs)).state) (sym (one_more k (length rs))) (let z : a + 1 + k ≡ a + suc k = omega arith in z),
          ap₂ (λ (ys : List ℕ) (w : Walk). bytes_over ys w rs) q p ∙ m.1,
        )

-- no more pass than there are
pub passed_most : (d : Device) (v : Held) (rs : List Noted) → passed_by d v rs ≤ length rs
passed_most d v [] = omega arith
passed_most d v (r ∷ rs) =
    if_ind (λ (k : ℕ). k ≤ suc (length rs)) (faulty d v.state r v.bytes) 0 (suc (passed_by d (onward d v r) rs)) (λ e. omega arith)
    (λ e. let h = passed_most d (onward d v r) rs in omega arith)

-- at the end of the list
module _ (d : Device) (s : State) (rs : List Noted) (promised bytes : List ℕ) where
  abbrev v : Held
  v = held_of s bytes

  abbrev i : ℕ
  i = passed_by d v rs

  abbrev number : ℕ
  number = start_number d s (length bytes)

  -- all passed, or not
  verdict : (b : Bool) → ltb i (length rs) ≡ b → (not b && ends_well (left_by d v (take i rs)) promised) ≡ (eqb i (length rs) && ends_well (left_by d v rs) promised)
  verdict true e =
      let l = ltb-true i (length rs) e in
      sym (ap (λ (b : Bool). b && ends_well (left_by d v rs) promised) (ne_eqb i (length rs) (λ (q : i ≡ length rs). omega (arith, l, q))))
  verdict false e =
      let m = passed_most d v rs in
      let l = ltb-false i (length rs) e in
      ap (λ (zs : List Noted). ends_well (left_by d v zs) promised) (take_all i rs l)
      ∙ sym (ap (λ (b : Bool). b && ends_well (left_by d v rs) promised) (eq-eqb i (length rs) (omega arith)))

  begun : eqb number 0 ≡ true → walk_from d s (length bytes) ≡ going d s 0
  unfolding walk_from
  begun e = let z : number ≡ 0 = eqb-true number 0 e in λ j. record { device = d; state = s; number = z j; stopped = not (e j); at = 0 }

  barred : eqb number 0 ≡ false → walk_from d s (length bytes) ≡ record { device = d; state = s; number = number; stopped = true; at = 0 }
  unfolding walk_from
  barred e = λ j. record { device = d; state = s; number = number; stopped = not (e j); at = 0 }

  abbrev Answered : Walk → List ℕ → Type 0
  Answered w ys = (end_of w promised ys ≡ checked_of d s rs promised bytes) × (ys ≡ bytes_checked d s rs bytes)

  walked : length rs ≤ most → eqb number 0 ≡ true
      → Answered (ended d (left_by d v (take i rs)).state (ltb i (length rs)) (0 + i)) (left_by d v (take i rs)).bytes
  unfolding end_of checked_of bytes_checked
  walked h e =
      let p = verdict (ltb i (length rs)) refl in
      let q : 0 + i ≡ i = omega arith in
      rw e (λ j. record { number = 0; accepted = p j; at = q j; state = (left_by d v (take i rs)).state }, refl)

  refused : eqb number 0 ≡ false → Answered (record { device = d; state = s; number = number; stopped = true; at = 0 }) bytes
  unfolding end_of checked_of bytes_checked
  refused e = (sym (if_false (eqb number 0) _ _ e), sym (if_false (eqb number 0) _ _ e))

  -- what the loop leaves is what the check answers
  pub answers : length rs ≤ most → Answered (went_over bytes (walk_from d s (length bytes)) rs) (bytes_over bytes (walk_from d s (length bytes)) rs)
  answers h = go (eqb number 0) refl
    where
      go : (b : Bool) → eqb number 0 ≡ b → Answered (went_over bytes (walk_from d s (length bytes)) rs) (bytes_over bytes (walk_from d s (length bytes)) rs)
      go true e =
          let c = comes d s 0 bytes rs (omega arith) in
          subst (λ (w : Walk). Answered (went_over bytes w rs) (bytes_over bytes w rs)) (sym (begun e))
          (subst (λ (w : Walk). Answered w (bytes_over bytes (going d s 0) rs)) (sym c.0)
          (subst (Answered (ended d (left_by d v (take i rs)).state (ltb i (length rs)) (0 + i))) (sym c.1) (walked h e)))
      go false e =
          let w : Walk = record { device = d; state = s; number = number; stopped = true; at = 0 } in
          subst (λ (x : Walk). Answered (went_over bytes x rs) (bytes_over bytes x rs)) (sym (barred e))
          (subst (λ (x : Walk). Answered x (bytes_over bytes w rs)) (sym (halted bytes w rs refl)) (subst (Answered w) (sym (halted_bytes bytes w rs refl)) (refused e)))
