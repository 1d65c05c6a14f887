-- Between lent bytes and units: what a cycle on units says of the bytes.
use mathlib.Core.Path.{◌≡◌, refl, sym, ap, ap₂, subst, ◌∙◌}
use mathlib.Core.Bool.{Bool, true, false, ◌&&◌, ◌||◌}
use mathlib.Core.List.{List, [], ◌∷◌}
use mathlib.Core.Logic.{◌↔◌}
use Prim.Native.Nat.{ℕ, ◌*◌, ◌/◌}
use native.Mathlib.Omega.{arith}
use lib.ListN.{length}
use lib.Dec.{eqb, ltb}
use borrow.Author.Tests.{eqb-true, not-false, lt-ltb, le-ltb, ltb-true, ltb-false}
use Rattle.common.specs.Lists.{Bytes}
use Rattle.common.proofs.Choice.{if_true, if_false, unlike}
use Rattle.common.proofs.Numbers.{given_no_row, no_head, no_tail}
use Rattle.units.specs.Units.{halves, units, spare, back, units_in, bytes_in, torn, lent, lent_in}
use Rattle.units.proofs.Widths.{units_length, lent_length, lent_even, lent_whole, whole, units_back, back_units, same_bytes, untorn}
use Rattle.device.specs.declared.Part.{Part}
use Rattle.device.specs.declared.Device.{Device}
use Rattle.device.specs.Parts.{size_of}
use Rattle.device.proofs.BlockAddresses.{size_some}
use Rattle.model_levels.specs.Levels.{rp_low, vpp_low}
use Rattle.model_operation.specs.Settling.{residue_for}
use Rattle.model_types.specs.declared.State.{State}
use Rattle.model_types.specs.declared.Cycle.{Cycle}
use Rattle.model_types.specs.declared.Decision.{Decision}
use Rattle.model_types.specs.declared.Effect.{Effect}
use Rattle.model_judge.specs.Judging.{short_residue, early, judge_of}
use Rattle.model_rules.specs.Cycles.{refused_by, decide_of}
use Rattle.model_rules.proofs.Passing.{stops}
use Rattle.model.specs.declared.Seen.TheVariants.{Refused}
use Rattle.model.specs.declared.Answer.{Answer}
use Rattle.model.specs.Arrays.{array_of, is_refusal, seen_of, answer_of, array_after, bytes_after}
use Rattle.model.specs.Inner.{finds_in, done_of, Within, answer_judged, array_judged}
use Rattle.model.proofs.Passing.{found, judged_answer, judged_array}
use Rattle.model.proofs.Contents.{cycle_length}
use Rattle.model.proofs.Outcome.{outcome}
use Rattle.model.proofs.Table.{refused_nothing, seen_refused}

-- units as bytes
twice : (us : List ℕ) → length (halves us) ≡ 2 * length us
twice [] = refl
twice (u ∷ us) = let h = twice us in omega arith

back_length : (w : Bool) (us : List ℕ) → length (back w us) ≡ bytes_in w (length us)
back_length false us = refl
back_length true us = twice us

lent_back : (w : Bool) (us : List ℕ) → lent w (back w us) ≡ us
lent_back w us = lent_even w (back w us) (subst (λ (n : ℕ). torn w n ≡ false) (sym (back_length w us)) (untorn w (length us))) ∙ units_back w us

lent_in_bytes : (w : Bool) (n : ℕ) → lent_in w (bytes_in w n) ≡ n
unfolding lent_in
lent_in_bytes w n = if_false (torn w (bytes_in w n)) 0 (units_in w (bytes_in w n)) (untorn w n) ∙ there w
  where
    there : (w : Bool) → units_in w (bytes_in w n) ≡ n
    there false = refl
    there true = omega arith

-- an array that has as many units as the device is a whole number of them
module _ (d : Device) (xs : List ℕ) where
  abbrev w : Bool
  w = d.part.word

  pub sized_whole : length (lent w xs) ≡ size_of d.part → torn w (length xs) ≡ false
  sized_whole e = lent_whole w xs (let z = size_some d.part in omega arith)

  pub two_counts_bytes : (length (lent w xs) ≡ size_of d.part) ↔ (length xs ≡ bytes_in w (size_of d.part))
  two_counts_bytes = (
    λ e. let t = sized_whole e in whole w xs t ∙ ap (λ (us : List ℕ). bytes_in w (length us)) (sym (lent_even w xs t)) ∙ ap (bytes_in w) e,
    λ e. lent_length w xs ∙ ap (lent_in w) e ∙ lent_in_bytes w (size_of d.part),
  )

-- a residue too short in units is too short in bytes
short_bytes : (w : Bool) (n k : ℕ) → ltb (units_in w n) k ≡ ltb n (bytes_in w k)
short_bytes false n k = refl
short_bytes true n k = go (ltb (n / 2) k) refl
  where
    go : (t : Bool) → ltb (n / 2) k ≡ t → ltb (n / 2) k ≡ ltb n (2 * k)
    go true e = e ∙ sym (lt-ltb n (2 * k) (omega (arith, ltb-true (n / 2) k e)))
    go false e = e ∙ sym (le-ltb n (2 * k) (omega (arith, ltb-false (n / 2) k e)))

pub six_counts_bytes : (part : Part) (s : State) (c : Cycle) (n : ℕ)
    → short_residue part s c (units_in part.word n) ≡ ((rp_low c.pins || vpp_low part c.pins) && ltb n (bytes_in part.word (residue_for s.phase part s.address)))
unfolding short_residue
six_counts_bytes part s c n =
    ap (λ (t : Bool). (rp_low c.pins || vpp_low part c.pins) && t) (short_bytes part.word n (residue_for s.phase part s.address))

-- an effect that finds its units among so many bytes
module _ (e : Effect) (part : Part) (xs rs : List ℕ) (n r : ℕ) (en : n ≡ units_in part.word (length xs)) (er : r ≡ units_in part.word (length rs)) where
  counted : finds_in e part (length (units part.word xs)) (length (units part.word rs)) ≡ finds_in e part n r
  counted = ap₂ (λ (a b : ℕ). finds_in e part a b) (units_length part.word xs ∙ sym en) (units_length part.word rs ∙ sym er)

  pub found_in : finds_in e part n r ≡ true → Within e part (length (units part.word xs)) (length (units part.word rs))
  found_in h = found e part (length (units part.word xs)) (length (units part.word rs)) (counted ∙ h)

  pub done_in : finds_in e part n r ≡ true → array_of e part (units part.word rs) (units part.word xs) ≡ done_of e part (units part.word rs) (units part.word xs)
  done_in h = sym (if_true (finds_in e part (length (units part.word xs)) (length (units part.word rs))) _ _ (counted ∙ h))

  pub undone_in : finds_in e part n r ≡ false → units part.word xs ≡ done_of e part (units part.word rs) (units part.word xs)
  undone_in h = sym (if_false (finds_in e part (length (units part.word xs)) (length (units part.word rs))) _ _ (counted ∙ h))

-- what refusals 1 to 6 let pass, and what is not refused, has an array of the device's size
judge_sized : (d : Device) (s : State) (c : Cycle) (n r : ℕ) → judge_of d s c n r ≡ 0 → n ≡ size_of d.part
unfolding judge_of
judge_sized d s c n r e =
    eqb-true n (size_of d.part) (not-false (eqb n (size_of d.part)) (no_head (no_tail (given_no_row (early d s c n r) refl e))))

pub done_sized : (d : Device) (s : State) (c : Cycle) (n r : ℕ) → is_refusal (decide_of d s c n r).reply ≡ false → n ≡ size_of d.part
done_sized d s c n r =
    outcome d s c n r (λ (x : Decision). is_refusal x.reply ≡ false → n ≡ size_of d.part) (λ m z e q. absurd (unlike q)) (λ z f q. f.sized)

-- a cycle on lent bytes
module _ (d : Device) (s : State) (c : Cycle) (xs rs : List ℕ) where
  abbrev word : Bool
  word = d.part.word

  abbrev us : List ℕ
  us = lent word xs

  abbrev ts : List ℕ
  ts = units word rs

  abbrev refuses : Bool
  refuses = is_refusal (decide_of d s c (length us) (length ts)).reply

  unchanged : refuses ≡ true → array_after d s c us ts ≡ us
  unfolding array_after
  unchanged e = ap (λ (x : Effect). array_of x d.part ts us) (refused_nothing d s c (length us) (length ts) e).1

  pub kept : refuses ≡ true → bytes_after d s c xs rs ≡ xs
  unfolding bytes_after
  kept e = if_true refuses xs (back word (array_after d s c us ts)) e

  pub done : refuses ≡ false → bytes_after d s c xs rs ≡ back word (array_after d s c us ts)
  unfolding bytes_after
  done e = if_false refuses xs (back word (array_after d s c us ts)) e

  pub bytes_length : length (bytes_after d s c xs rs) ≡ length xs
  bytes_length = go refuses refl
    where
      go : (b : Bool) → refuses ≡ b → length (bytes_after d s c xs rs) ≡ length xs
      go true e = ap (λ (zs : List ℕ). length zs) (kept e)
      go false e =
          let t : torn word (length xs) ≡ false = sized_whole d xs (done_sized d s c (length us) (length ts) e) in
          ap (λ (zs : List ℕ). length zs) (done e) ∙ back_length word (array_after d s c us ts) ∙ ap (bytes_in word) (cycle_length d s c us ts)
          ∙ ap (λ (zs : List ℕ). bytes_in word (length zs)) (lent_even word xs t) ∙ sym (whole word xs t)

  pub refused_bytes : (m : ℕ) → (answer_of d s c us ts).seen ≡ Refused m → bytes_after d s c xs rs ≡ xs
  unfolding answer_of
  refused_bytes m e = kept (ap is_refusal (seen_refused (decide_of d s c (length us) (length ts)).reply (array_after d s c us ts) m e))

  pub left_units : lent word (bytes_after d s c xs rs) ≡ array_after d s c us ts
  left_units = go refuses refl
    where
      go : (b : Bool) → refuses ≡ b → lent word (bytes_after d s c xs rs) ≡ array_after d s c us ts
      go true e = ap (lent word) (kept e) ∙ sym (unchanged e)
      go false e = ap (lent word) (done e) ∙ lent_back word (array_after d s c us ts)

  -- for `cycle`: refused by 1 to 6 ..
  module _ (n : ℕ) (j : n ≡ judge_of d s c (lent_in word (length xs)) (units_in word (length rs))) where
    same : judge_of d s c (lent_in word (length xs)) (units_in word (length rs)) ≡ judge_of d s c (length us) (length ts)
    same = ap₂ (λ (a b : ℕ). judge_of d s c a b) (sym (lent_length word xs)) (sym (units_length word rs))

    stop : (n ≡ 0 → ⊥) → decide_of d s c (length us) (length ts) ≡ refused_by n s
    stop z = stops d s c (length us) (length ts) (λ e. z (j ∙ same ∙ e)) ∙ ap (λ (m : ℕ). refused_by m s) (sym (j ∙ same))

    pub stopped_answer : (n ≡ 0 → ⊥) → (r : Answer) → r ≡ record { seen = Refused n; state = s } → r ≡ answer_of d s c us ts
    unfolding answer_of array_after
    stopped_answer z r e = e ∙ sym (ap (λ (x : Decision). record { seen = seen_of x.reply (array_of x.effect d.part ts us); state = x.state }) (stop z))

    pub stopped_bytes : (n ≡ 0 → ⊥) → xs ≡ bytes_after d s c xs rs
    stopped_bytes z = sym (kept (ap (λ (x : Decision). is_refusal x.reply) (stop z)))

    -- .. or not
    module _ (z : n ≡ 0) where
      zero : judge_of d s c (length us) (length ts) ≡ 0
      zero = sym (j ∙ same) ∙ z

      even : torn word (length xs) ≡ false
      even = sized_whole d xs (judge_sized d s c (length us) (length ts) zero)

      is : us ≡ units word xs
      is = lent_even word xs even

      pub passed_answer : (r : Answer) → r ≡ answer_judged d s c (units word xs) ts → r ≡ answer_of d s c us ts
      passed_answer r e = e ∙ ap (λ (vs : List ℕ). answer_judged d s c vs ts) (sym is) ∙ judged_answer d s c us ts zero

      pub passed_bytes : (ys : List ℕ) → Bytes xs → Bytes ys → units word ys ≡ array_judged d s c (units word xs) ts → spare word ys ≡ spare word xs → length ys ≡ length xs
          → ys ≡ bytes_after d s c xs rs
      passed_bytes ys b q e o l = go refuses refl
        where
          after : units word ys ≡ array_after d s c us ts
          after = e ∙ ap (λ (vs : List ℕ). array_judged d s c vs ts) (sym is) ∙ judged_array d s c us ts zero

          go : (t : Bool) → refuses ≡ t → ys ≡ bytes_after d s c xs rs
          go true f = same_bytes word ys xs q b (after ∙ unchanged f ∙ is) o ∙ sym (kept f)
          go false f = sym (back_units word ys (subst (λ (m : ℕ). torn word m ≡ false) (sym l) even) q) ∙ ap (back word) after ∙ sym (done f)

-- in byte mode the lent bytes are the units
pub byte_lent : (w : Bool) (xs : List ℕ) → w ≡ false → lent w xs ≡ xs
unfolding lent
byte_lent false xs e = refl
byte_lent true xs e = absurd (unlike e)

pub byte_units : (w : Bool) (xs : List ℕ) → w ≡ false → units w xs ≡ xs
byte_units false xs e = refl
byte_units true xs e = absurd (unlike e)

pub byte_mode_bytes : (d : Device) (s : State) (c : Cycle) (xs rs : List ℕ) → d.part.word ≡ false → bytes_after d s c xs rs ≡ array_after d s c xs rs
byte_mode_bytes d s c xs rs e =
    let w : Bool = d.part.word in
    sym (byte_lent w (bytes_after d s c xs rs) e) ∙ left_units d s c xs rs ∙ ap₂ (λ (us ts : List ℕ). array_after d s c us ts) (byte_lent w xs e) (byte_units w rs e)
