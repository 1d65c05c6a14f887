-- A record's verdict, way by way, as the code comes to it.
use mathlib.Core.Path.{◌≡◌, refl, sym, ap, ap₂, ◌∙◌}
use mathlib.Core.Bool.{Bool, true, false, not, ◌&&◌, ◌||◌}
use mathlib.Core.List.{List, []}
use Prim.Native.Nat.{ℕ}
use native.Mathlib.Omega.{arith}
use lib.ListN.{length}
use lib.Dec.{eqb}
use borrow.Author.Tests.{eqb-true, eqb-false, eq-eqb, ne_eqb, not-false}
use Rattle.common.specs.Lists.{Bytes}
use Rattle.common.proofs.Choice.{if_true, if_false, or_right, unlike}
use Rattle.common.proofs.Numbers.{given_no_row, no_head, no_tail}
use Rattle.units.specs.Units.{units, spare, units_in, lent, lent_in}
use Rattle.units.proofs.Widths.{lent_length, lent_is}
use Rattle.device.specs.declared.Device.{Device}
use Rattle.device.specs.Parts.{size_of}
use Rattle.device.proofs.BlockAddresses.{size_some}
use Rattle.model_types.specs.declared.Cycle.{Cycle}
use Rattle.model_types.specs.declared.Decision.{Decision}
use Rattle.model_types.specs.declared.State.{State}
use Rattle.model_judge.specs.Judging.{early, judge_of}
use Rattle.model_rules.specs.Inner.{decide_judged}
use Rattle.model_rules.proofs.Claims.{passes}
use Rattle.model.specs.declared.Seen.{Seen}
use Rattle.model.specs.declared.Seen.TheVariants.{Refused}
use Rattle.model.specs.declared.Answer.{Answer}
use Rattle.model.specs.Arrays.{seen_of, answer_of, bytes_after}
use Rattle.model.specs.Inner.{done_of, answer_judged, array_judged}
use Rattle.model.proofs.Borders.{stopped_answer, passed_answer, passed_bytes}
use Rattle.recording.specs.declared.Noted.{Noted}
use Rattle.recording.specs.declared.Recorded.{Recorded}
use Rattle.recording.specs.declared.Why.{Why}
use Rattle.recording.specs.Recordings.{starts, longest, outside, wrong_count, cuts_off, time_of, timed, device_for, agrees, answer_to, faulty, recorded_of, bytes_recorded, why_as, why_seen, refusal_of, why_of}
use Rattle.recording.specs.Inner.{time_by, seen_judged}
use Rattle.recording.proofs.Longest.{judge_longest}
use Rattle.recording.proofs.Seeing.{seen_early}

-- no bytes have no units
pub none : (w : Bool) → units w [] ≡ []
none false = refl
none true = refl

none_in : (w : Bool) → units_in w 0 ≡ 0
none_in false = refl
none_in true = refl

judge_sized : (d : Device) (s : State) (c : Cycle) (n r : ℕ) → judge_of d s c n r ≡ 0 → n ≡ size_of d.part
unfolding judge_of
judge_sized d s c n r e =
    eqb-true n (size_of d.part) (not-false (eqb n (size_of d.part)) (no_head (no_tail (given_no_row (early d s c n r) refl e))))

-- a cycle on lent bytes with no residue
module _ (e : Device) (s : State) (c : Cycle) (bytes : List ℕ) (n : ℕ) (j : n ≡ judge_of e s c (lent_in e.part.word (length bytes)) 0) where
  abbrev us : List ℕ
  us = lent e.part.word bytes

  -- judged and refused: that is what is seen
  pub stopped : (n ≡ 0 → ⊥) → (answer_of e s c us []).seen ≡ Refused n
  stopped z =
      ap (λ (rs : List ℕ). (answer_of e s c us rs).seen) (sym (none e.part.word))
      ∙ ap (λ (a : Answer). a.seen)
      (sym (stopped_answer e s c bytes [] n (j ∙ ap (λ (k : ℕ). judge_of e s c (lent_in e.part.word (length bytes)) k) (sym (none_in e.part.word))) z (record { seen = Refused n; state = s }) refl))

  -- judged and passed, with nothing cut: what is seen is seen before anything is stored
  pub passed : n ≡ 0 → cuts_off e.part s c ≡ false → seen_judged e s c (units e.part.word bytes) ≡ (answer_of e s c us []).seen
  unfolding seen_judged
  passed z whole =
      let k : judge_of e s c (length us) 0 ≡ 0 = ap (λ (m : ℕ). judge_of e s c m 0) (lent_length e.part.word bytes) ∙ sym j ∙ z in
      let l : length us ≡ size_of e.part = judge_sized e s c (length us) 0 k in
      let is : us ≡ units e.part.word bytes = lent_is e.part.word bytes (let q = size_some e.part in omega arith) in
      ap (λ (vs : List ℕ). seen_of (decide_judged e s c).reply vs) (sym is)
      ∙ ap (λ (x : Decision). seen_of x.reply us) (sym (passes e s c (length us) 0 k))
      ∙ sym (seen_early e s c us [] whole)

-- the ways to a verdict
module _ (d : Device) (s : State) (r : Noted) (bytes : List ℕ) where
  pub count_fault : wrong_count d.part s r ≡ true → true ≡ faulty d s r bytes
  unfolding faulty
  count_fault e = simp e

  pub cut_fault : wrong_count d.part s r ≡ false → cuts_off d.part s r.cycle ≡ true → true ≡ faulty d s r bytes
  unfolding faulty
  cut_fault e f = simp (e, f)

  pub cut_why : cuts_off d.part s r.cycle ≡ true → why_as 2 0 ≡ why_of d s r bytes
  unfolding why_of
  cut_why f = simp f

  module _ (e : wrong_count d.part s r ≡ false) (f : cuts_off d.part s r.cycle ≡ false) (g : Device) (same : g ≡ device_for d s r)
      (m : ℕ) (lies : m ≡ lent_in d.part.word (length bytes)) (n : ℕ) (j : n ≡ judge_of g s r.cycle m 0) where
    judged : n ≡ judge_of (device_for d s r) s r.cycle (lent_in d.part.word (length bytes)) 0
    judged = j ∙ ap₂ (λ (h : Device) (k : ℕ). judge_of h s r.cycle k 0) same lies

    there : n ≡ 0 → (v : Seen) → v ≡ seen_judged g s r.cycle (units g.part.word bytes) → v ≡ (answer_of (device_for d s r) s r.cycle (lent d.part.word bytes) []).seen
    there z v p =
        p ∙ ap (λ (h : Device). seen_judged h s r.cycle (units h.part.word bytes)) same ∙ passed (device_for d s r) s r.cycle bytes n judged z f

    pub refused_fault : (n ≡ 0 → ⊥) → true ≡ faulty d s r bytes
    unfolding faulty answer_to
    refused_fault z = simp (e, f, stopped (device_for d s r) s r.cycle bytes n judged z)

    pub answer_fault : n ≡ 0 → (v : Seen) → v ≡ seen_judged g s r.cycle (units g.part.word bytes) → (b : Bool) → b ≡ agrees v r.heard → not b ≡ faulty d s r bytes
    unfolding faulty answer_to
    answer_fault z v p b q = ap not (q ∙ ap (λ (x : Seen). agrees x r.heard) (there z v p)) ∙ sym (simp (e, f))

  module _ (f : cuts_off d.part s r.cycle ≡ false) (g : Device) (same : g ≡ device_for d s r)
      (m : ℕ) (lies : m ≡ lent_in d.part.word (length bytes)) (n : ℕ) (j : n ≡ judge_of g s r.cycle m 0) where
    refusal : n ≡ refusal_of d s r bytes
    refusal = j ∙ ap₂ (λ (h : Device) (k : ℕ). judge_of h s r.cycle k 0) same lies

    pub refused_why : (n ≡ 0 → ⊥) → why_as 3 n ≡ why_of d s r bytes
    unfolding why_of
    refused_why z = ap (why_as 3) refusal ∙ simp (f, ne_eqb (refusal_of d s r bytes) 0 (λ (q : refusal_of d s r bytes ≡ 0). z (refusal ∙ q)))

    pub count_why : n ≡ 0 → wrong_count d.part s r ≡ true → why_as 1 r.busy ≡ why_of d s r bytes
    unfolding why_of
    count_why z e = simp (f, eq-eqb (refusal_of d s r bytes) 0 (sym refusal ∙ z), e)

    pub answer_why : n ≡ 0 → wrong_count d.part s r ≡ false → (v : Seen) → v ≡ seen_judged g s r.cycle (units g.part.word bytes) → (w : Why) → w ≡ why_seen v → w ≡ why_of d s r bytes
    unfolding why_of answer_to
    answer_why z e v p w q =
        q ∙ ap why_seen (p ∙ ap (λ (h : Device). seen_judged h s r.cycle (units h.part.word bytes)) same ∙ passed (device_for d s r) s r.cycle bytes n refusal z f)
        ∙ sym (simp (f, eq-eqb (refusal_of d s r bytes) 0 (sym refusal ∙ z), e))

  -- at fault nothing changes
  pub fault_state : faulty d s r bytes ≡ true → record { fault = true; state = s } ≡ recorded_of d s r bytes
  unfolding recorded_of
  fault_state e = sym (if_true (faulty d s r bytes) _ _ e)

  pub fault_bytes : faulty d s r bytes ≡ true → bytes ≡ bytes_recorded d s r bytes
  unfolding bytes_recorded
  fault_bytes e = rw e refl

  -- else it is the model's cycle, which no number refuses
  module _ (e : faulty d s r bytes ≡ false) (g : Device) (same : g ≡ device_for d s r) (rs : List ℕ) (empty : rs ≡ []) where
    abbrev word : Bool
    word = d.part.word

    abbrev judge : ℕ
    judge = judge_of (device_for d s r) s r.cycle (lent_in word (length bytes)) 0

    heard : agrees (answer_of (device_for d s r) s r.cycle (lent word bytes) []).seen r.heard ≡ true
    unfolding faulty answer_to
    heard = not-false _ (or_right (wrong_count d.part s r || cuts_off d.part s r.cycle) _ e)

    unstopped : judge ≡ 0
    unstopped = go (eqb judge 0) refl
      where
        go : (t : Bool) → eqb judge 0 ≡ t → judge ≡ 0
        go true f = eqb-true judge 0 f
        go false f =
            absurd (unlike (sym heard ∙ ap (λ (x : Seen). agrees x r.heard) (stopped (device_for d s r) s r.cycle bytes judge refl (eqb-false judge 0 f))))

    zero : 0 ≡ judge_of g s r.cycle (lent_in g.part.word (length bytes)) (units_in g.part.word (length rs))
    zero =
        sym unstopped ∙ ap (λ (k : ℕ). judge_of (device_for d s r) s r.cycle (lent_in word (length bytes)) k) (sym (none_in word))
        ∙ ap (λ (zs : List ℕ). judge_of (device_for d s r) s r.cycle (lent_in word (length bytes)) (units_in word (length zs))) (sym empty)
        ∙ ap (λ (h : Device). judge_of h s r.cycle (lent_in h.part.word (length bytes)) (units_in h.part.word (length rs))) (sym same)

    pub good_state : (a : Answer) → a ≡ answer_judged g s r.cycle (units g.part.word bytes) (units g.part.word rs)
        → record { fault = false; state = a.state } ≡ recorded_of d s r bytes
    unfolding recorded_of answer_to
    good_state a p =
        let there : a ≡ answer_of (device_for d s r) s r.cycle (lent d.part.word bytes) [] =
        passed_answer g s r.cycle bytes rs 0 zero refl a p
        ∙ ap (λ (zs : List ℕ). answer_of g s r.cycle (lent g.part.word bytes) (units g.part.word zs)) empty
        ∙ ap (λ (zs : List ℕ). answer_of g s r.cycle (lent g.part.word bytes) zs) (none g.part.word)
        ∙ ap (λ (h : Device). answer_of h s r.cycle (lent h.part.word bytes) []) same in
        ap (λ (x : Answer). record { fault = false; state = x.state }) there ∙ sym (if_false (faulty d s r bytes) _ _ e)

    pub good_bytes : (ys : List ℕ) → Bytes bytes → Bytes ys → units g.part.word ys ≡ array_judged g s r.cycle (units g.part.word bytes) (units g.part.word rs)
        → spare g.part.word ys ≡ spare g.part.word bytes → length ys ≡ length bytes → ys ≡ bytes_recorded d s r bytes
    unfolding bytes_recorded
    good_bytes ys b q u o l =
        passed_bytes g s r.cycle bytes rs 0 zero refl ys b q u o l
        ∙ ap (λ (zs : List ℕ). bytes_after g s r.cycle bytes zs) empty ∙ ap (λ (h : Device). bytes_after h s r.cycle bytes []) same
        ∙ sym (if_false (faulty d s r bytes) _ _ e)

  pub fault_left : true ≡ faulty d s r bytes → (q : Recorded) → q ≡ record { fault = true; state = s } → (q ≡ recorded_of d s r bytes) × (bytes ≡ bytes_recorded d s r bytes)
  fault_left e q p = (p ∙ fault_state (sym e), fault_bytes (sym e))

  -- whether it starts an operation, asked once: the count and the device that follow from it
  pub counted_so : (b : Bool) → b ≡ starts d.part s r.cycle → (v : Bool) → v ≡ (b && outside r.busy) → v ≡ wrong_count d.part s r
  unfolding wrong_count
  counted_so b a v k = k ∙ ap (λ (u : Bool). u && outside r.busy) a

  pub timed_so : (b : Bool) → b ≡ starts d.part s r.cycle → (t : ℕ) → t ≡ time_by b r.busy → (g : Device) → g ≡ timed d t → g ≡ device_for d s r
  unfolding time_of time_by
  timed_so b a t k g p = p ∙ ap (λ (n : ℕ). timed d n) (k ∙ ap (λ (u : Bool). time_by u r.busy) a)

  -- a cut, and what is refused on the device of the longest time, is at fault whatever the count
  pub cut_faulty : cuts_off d.part s r.cycle ≡ true → true ≡ faulty d s r bytes
  cut_faulty f = go (wrong_count d.part s r) refl
    where
      go : (b : Bool) → wrong_count d.part s r ≡ b → true ≡ faulty d s r bytes
      go true e = count_fault e
      go false e = cut_fault e f

  pub judged_own : (l : Device) → l ≡ timed d longest → (m n : ℕ) → n ≡ judge_of l s r.cycle m 0 → (g : Device) → g ≡ device_for d s r → n ≡ judge_of g s r.cycle m 0
  judged_own l a m n j g same =
      j ∙ ap (λ (h : Device). judge_of h s r.cycle m 0) a ∙ judge_longest d s r m 0 ∙ ap (λ (h : Device). judge_of h s r.cycle m 0) (sym same)

  pub refused_faulty : cuts_off d.part s r.cycle ≡ false → (m : ℕ) → m ≡ lent_in d.part.word (length bytes) → (n : ℕ) → n ≡ judge_of (device_for d s r) s r.cycle m 0
      → (n ≡ 0 → ⊥) → true ≡ faulty d s r bytes
  refused_faulty f m lies n j z = go (wrong_count d.part s r) refl
    where
      go : (b : Bool) → wrong_count d.part s r ≡ b → true ≡ faulty d s r bytes
      go true e = count_fault e
      go false e = refused_fault e f (device_for d s r) refl m lies n j z

  -- decided once: what was decided is held against what was seen, and then done
  module _ (e : wrong_count d.part s r ≡ false) (f : cuts_off d.part s r.cycle ≡ false) (g : Device) (same : g ≡ device_for d s r)
      (m : ℕ) (lies : m ≡ lent_in d.part.word (length bytes)) (n : ℕ) (j : n ≡ judge_of g s r.cycle m 0) (z : n ≡ 0) (x : Decision)
      (p : x ≡ decide_judged g s r.cycle) (v : Seen) (q : v ≡ seen_of x.reply (units d.part.word bytes)) (b : Bool) (k : b ≡ agrees v r.heard) where
    shown : v ≡ seen_judged g s r.cycle (units g.part.word bytes)
    unfolding seen_judged
    shown =
        q ∙ ap (λ (y : Decision). seen_of y.reply (units d.part.word bytes)) p
        ∙ ap (λ (h : Device). seen_of (decide_judged g s r.cycle).reply (units h.part.word bytes)) (sym same)

    verdict : not b ≡ faulty d s r bytes
    verdict = answer_fault e f g same m lies n j z v shown b k

    decided : x ≡ decide_judged (device_for d s r) s r.cycle
    decided = p ∙ ap (λ (h : Device). decide_judged h s r.cycle) same

    pub differs_fault : b ≡ false → true ≡ faulty d s r bytes
    differs_fault l = sym (ap not l) ∙ verdict

    pub made_left : b ≡ true → (a : Recorded) → a ≡ record { fault = false; state = x.state } → (ys : List ℕ) → Bytes bytes → Bytes ys
        → units d.part.word ys ≡ done_of x.effect d.part [] (units d.part.word bytes)
        → spare d.part.word ys ≡ spare d.part.word bytes → length ys ≡ length bytes
        → (a ≡ recorded_of d s r bytes) × (ys ≡ bytes_recorded d s r bytes)
    unfolding answer_judged array_judged
    made_left l a t ys hs is u o c =
        let good : faulty d s r bytes ≡ false = sym verdict ∙ ap not l in
        let us : List ℕ = units d.part.word bytes in (
          t ∙ ap (λ (y : Decision). record { fault = false; state = y.state }) decided
              ∙ good_state good (device_for d s r) refl [] refl (answer_judged (device_for d s r) s r.cycle us (units d.part.word [])) refl,
          good_bytes good (device_for d s r) refl [] refl ys hs is
              (u ∙ ap (λ (y : Decision). done_of y.effect d.part [] us) decided
              ∙ ap (λ (rs : List ℕ). done_of (decide_judged (device_for d s r) s r.cycle).effect d.part rs us) (sym (none d.part.word)))
              o c,
        )
