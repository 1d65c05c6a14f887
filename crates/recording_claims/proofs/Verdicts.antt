-- The check's answer told by the list.
use mathlib.Core.Path.{◌≡◌, refl, sym, ap, subst, ◌∙◌}
use mathlib.Core.Bool.{Bool, true, false, not, ◌&&◌}
use mathlib.Core.List.{List}
use mathlib.Core.Logic.{◌↔◌}
use Prim.Native.Nat.{ℕ, ◌<◌}
use native.Mathlib.Omega.{arith}
use lib.Dec.{eqb}
use lib.ListN.{length, take}
use lib.Seq.{take_all}
use borrow.Author.Tests.{eq-eqb, ne_eqb, eqb-true, eqb-false, not-false}
use Rattle.common.specs.Numbers.NoRow.{end, past}
use Rattle.common.proofs.Choice.{if_true, if_false, and_left, and_right, and_none, unlike}
use Rattle.common.proofs.Numbers.{given_no_row, no_row_given, no_head, no_tail}
use Rattle.units.specs.Units.{lent_in}
use Rattle.device.specs.declared.Device.{Device}
use Rattle.device.specs.Parts.{size_of}
use Rattle.model_types.specs.declared.State.{State}
use Rattle.model_types.specs.Phases.{is_free}
use Rattle.recording.specs.declared.Noted.{Noted}
use Rattle.recording_walk.specs.declared.Checked.{Checked}
use Rattle.recording_walk.specs.Lists.{Held, held_of, left_by, passed_by, same_bytes, ends_well, start_rows, start_number, checked_of, bytes_checked}
use Rattle.recording_walk.proofs.Equal.{same_is, is_same}
use Rattle.recording_claims.specs.Accepting.{Faultless, Ends, Startable, Accepts, FirstFault}
use Rattle.recording_claims.proofs.Firsts.{all_passed, none_at_fault, first_there, first_is, first_inside}

-- the start
module _ (d : Device) (s : State) (bytes : List ℕ) where
  pub startable : start_number d s (length bytes) ≡ 0 → Startable d s bytes
  unfolding start_number
  startable e =
      let r = given_no_row (start_rows d s (length bytes)) refl e in
      record {
        known = no_head r;
        sized = eqb-true (lent_in d.part.word (length bytes)) (size_of d.part) (not-false (eqb (lent_in d.part.word (length bytes)) (size_of d.part)) (no_head (no_tail r)));
        proper = no_head (no_tail (no_tail r));
        idle = not-false (is_free s.phase) (no_head (no_tail (no_tail (no_tail r))));
      }

  pub unrefused : Startable d s bytes → start_number d s (length bytes) ≡ 0
  unfolding start_number
  unrefused z =
      no_row_given
      (past z.known (past (ap not (eq-eqb (lent_in d.part.word (length bytes)) (size_of d.part) z.sized)) (past z.proper (past (ap not z.idle) end))))

-- the end
pub ends_well_lem : (v : Held) (promised : List ℕ) → ends_well v promised ≡ true → Ends v promised
unfolding ends_well
ends_well_lem v promised e = record {
  idle = and_left (is_free v.state.phase) (same_bytes promised v.bytes) e;
  array = sym (same_is promised v.bytes (and_right (is_free v.state.phase) (same_bytes promised v.bytes) e));
}

pub well_ends : (v : Held) (promised : List ℕ) → Ends v promised → ends_well v promised ≡ true
unfolding ends_well
well_ends v promised e = rw e.idle (ap (λ (ys : List ℕ). same_bytes promised ys) e.array ∙ is_same promised)

module _ (d : Device) (s : State) (rs : List Noted) (promised bytes : List ℕ) where
  abbrev v : Held
  v = held_of s bytes

  abbrev number : ℕ
  number = start_number d s (length bytes)

  abbrev answer : Checked
  answer = checked_of d s rs promised bytes

  -- refused before the list, or not
  pub turned_away : (number ≡ 0 → ⊥) → answer ≡ record { number = number; accepted = false; at = 0; state = s }
  unfolding checked_of
  turned_away z = if_false (eqb number 0) _ _ (ne_eqb number 0 z)

  pub walked : number ≡ 0 → answer ≡ record { number = 0; accepted = eqb (passed_by d v rs) (length rs) && ends_well (left_by d v rs) promised; at = passed_by d v rs; state = (left_by d v (take (passed_by d v rs) rs)).state }
  unfolding checked_of
  walked z = if_true (eqb number 0) _ _ (eq-eqb number 0 z)

  pub number_is : answer.number ≡ number
  number_is = go (eqb number 0) refl
    where
      go : (b : Bool) → eqb number 0 ≡ b → answer.number ≡ number
      go true e = let z = eqb-true number 0 e in ap (λ (a : Checked). a.number) (walked z) ∙ sym z
      go false e = ap (λ (a : Checked). a.number) (turned_away (eqb-false number 0 e))

  pub accepted_is : answer.accepted ≡ true → Accepts d s rs promised bytes
  accepted_is h = go (eqb number 0) refl
    where
      go : (b : Bool) → eqb number 0 ≡ b → Accepts d s rs promised bytes
      go true e =
          let z = eqb-true number 0 e in
          let t = sym (ap (λ (a : Checked). a.accepted) (walked z)) ∙ h in
          let all = eqb (passed_by d v rs) (length rs) in
          let well = ends_well (left_by d v rs) promised in
          record {
            start = startable d s bytes z;
            faultless = all_passed d v rs (eqb-true (passed_by d v rs) (length rs) (and_left all well t));
            ends = ends_well_lem (left_by d v rs) promised (and_right all well t);
          }
      go false e = absurd (unlike (sym h ∙ ap (λ (a : Checked). a.accepted) (turned_away (eqb-false number 0 e))))

  pub is_accepted : Accepts d s rs promised bytes → answer.accepted ≡ true
  is_accepted a =
      ap (λ (c : Checked). c.accepted) (walked (unrefused d s bytes a.start))
      ∙ rw (eq-eqb (passed_by d v rs) (length rs) (none_at_fault d v rs a.faultless)) (well_ends (left_by d v rs) promised a.ends)

  -- the place
  module _ (z : number ≡ 0) where
    pub place_is : answer.at ≡ passed_by d v rs
    place_is = ap (λ (a : Checked). a.at) (walked z)

    pub fault_is : (i : ℕ) → (FirstFault d v rs i) ↔ ((answer.at ≡ i) × (i < length rs))
    fault_is i = (
      λ f. (place_is ∙ first_is d v rs i f, first_inside d v rs i f),
      λ h. subst (FirstFault d v rs) (sym place_is ∙ h.0) (first_there d v rs (subst (λ (j : ℕ). j < length rs) (sym h.0 ∙ place_is) h.1)),
    )

    pub no_fault_is : (Faultless d v rs) ↔ (answer.at ≡ length rs)
    no_fault_is = (λ f. place_is ∙ none_at_fault d v rs f, λ h. all_passed d v rs (sym place_is ∙ h))

    pub left_is : bytes_checked d s rs bytes ≡ (left_by d v (take answer.at rs)).bytes
    unfolding bytes_checked
    left_is = if_true (eqb number 0) _ _ (eq-eqb number 0 z) ∙ ap (λ (k : ℕ). (left_by d v (take k rs)).bytes) (sym place_is)

  pub untouched : (number ≡ 0 → ⊥) → bytes_checked d s rs bytes ≡ bytes
  unfolding bytes_checked
  untouched z = if_false (eqb number 0) _ _ (ne_eqb number 0 z)

  pub all_in : number ≡ 0 → Faultless d v rs → bytes_checked d s rs bytes ≡ (left_by d v rs).bytes
  all_in z f = left_is z ∙ ap (λ (xs : List Noted). (left_by d v xs).bytes) (take_all answer.at rs (let e = (no_fault_is z).0 f in omega (arith, e)))

  -- only the end is at fault
  pub only_end : number ≡ 0 → Faultless d v rs → (Ends (left_by d v rs) promised → ⊥) → answer ≡ record { number = 0; accepted = false; at = length rs; state = (left_by d v rs).state }
  only_end z f l =
      let q : passed_by d v rs ≡ length rs = none_at_fault d v rs f in
      let t = take_all (passed_by d v rs) rs (omega (arith, q)) in
      walked z ∙ (λ i. record { number = 0; accepted = ends_false i; at = q i; state = (left_by d v (t i)).state })
    where
      bad : ends_well (left_by d v rs) promised ≡ false
      bad = go (ends_well (left_by d v rs) promised) refl
        where
          go : (b : Bool) → ends_well (left_by d v rs) promised ≡ b → ends_well (left_by d v rs) promised ≡ false
          go true e = absurd (l (ends_well_lem (left_by d v rs) promised e))
          go false e = e

      ends_false : (eqb (passed_by d v rs) (length rs) && ends_well (left_by d v rs) promised) ≡ false
      ends_false = rw bad (and_none (eqb (passed_by d v rs) (length rs)))
