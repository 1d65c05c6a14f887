-- A call on a store, way by way.
use mathlib.Core.Path.{◌≡◌, refl, sym, ap, ◌∙◌, subst}
use mathlib.Core.Bool.{Bool, true, false}
use mathlib.Core.List.{List, [], ◌++◌}
use Prim.Native.Nat.{ℕ, ◌+◌, ◌-◌, ◌≤◌, zero-le}
use native.Mathlib.Omega.{arith}
use lib.Dec.{eqb}
use lib.ListN.{length, get_or, take, drop, length-append}
use borrow.Author.Tests.{eq-eqb, ne_eqb}
use borrow.Rule.Slice.PartMut.{mid_of}
use Rattle.std.specs.Prelude.{if◌then◌else◌}
use Rattle.common.proofs.Choice.{if_true, if_false}
use Rattle.device.specs.declared.Part.{Part}
use Rattle.model_types.specs.declared.State.{State}
use Rattle.model_states.specs.States.{fresh_state}
use Rattle.file_codec.specs.File.{Outcome, refused, made, in_room, left_in}
use Rattle.std.specs.Prelude.{ℤ, Option, Some, None}
use Rattle.reading_text.specs.Numbers.{number_told}
use Rattle.store_find.specs.declared.Found.{Found}
use Rattle.store_find.specs.Finds.{found_as, read_by}
use Rattle.store.specs.Stores.{main_of, part_number, found_on, ChangeLeft, drop_left, add_left}
use Rattle.store_answer.specs.Words.{refused_line}
use Rattle.store_answer.specs.Listing.{list_of}
use Rattle.store_told.specs.Sayings.{is_change, call_wrong, part_of, device_of, loading, list_line, find_line, Asked, list_asked, find_asked, misasked, read_by_said, asked, bytes_of, change_of, Answered, shown, ended, answered}

-- a list: refused by the part's number, or told
module _ (part : Part) (xs : List ℕ) (n : ℕ) (e : n ≡ part_number part (length xs)) where
  pub list_refused : (n ≡ 0 → ⊥) → refused_line n ≡ list_line part xs
  unfolding list_line
  list_refused z =
      sym
      (ap (λ (k : ℕ). if eqb k 0 then list_of (main_of part xs) else refused_line k) (sym e)
      ∙ if_false (eqb n 0) (list_of (main_of part xs)) (refused_line n) (ne_eqb n 0 z))

  pub list_told : n ≡ 0 → list_of (main_of part xs) ≡ list_line part xs
  unfolding list_line
  list_told z =
      sym
      (ap (λ (k : ℕ). if eqb k 0 then list_of (main_of part xs) else refused_line k) (sym e)
      ∙ if_true (eqb n 0) (list_of (main_of part xs)) (refused_line n) (eq-eqb n 0 z))

-- a find: refused, or nothing is said
pub find_refused : (f : Found) → (f.number ≡ 0 → ⊥) → refused_line f.number ≡ find_line f
unfolding find_line
find_refused f z = sym (if_false (eqb f.number 0) [] (refused_line f.number) (ne_eqb f.number 0 z))

pub find_silent : (f : Found) → f.number ≡ 0 → [] ≡ find_line f
unfolding find_line
find_silent f z = sym (if_true (eqb f.number 0) [] (refused_line f.number) (eq-eqb f.number 0 z))

-- the question of a word
module _ (b : ℕ) (part : Part) (xs : List ℕ) (ℓ : ℕ) (volts room : List ℕ) where
  abbrev F : Asked
  F = find_asked (in_room (length room) (found_on part xs ℓ)) room

  abbrev R : Asked
  R = read_by_said (number_told volts) (in_room (length room) (read_by ℓ (found_on part xs ℓ))) room

  pub asked_list : eqb b 76 ≡ true → list_asked part xs room ≡ asked b part xs ℓ volts room
  unfolding asked
  asked_list e = sym (if_true (eqb b 76) (list_asked part xs room) (if eqb b 70 then F else R) e)

  pub asked_find : eqb b 76 ≡ false → eqb b 70 ≡ true → F ≡ asked b part xs ℓ volts room
  unfolding asked
  asked_find e f = sym (if_false (eqb b 76) (list_asked part xs room) (if eqb b 70 then F else R) e ∙ if_true (eqb b 70) F R f)

  pub asked_read : eqb b 76 ≡ false → eqb b 70 ≡ false → R ≡ asked b part xs ℓ volts room
  unfolding asked
  asked_read e f = sym (if_false (eqb b 76) (list_asked part xs room) (if eqb b 70 then F else R) e ∙ if_false (eqb b 70) F R f)

  -- what is given of a file lies in the room
  pub asked_inside : (asked b part xs ℓ volts room).filled ≤ length (asked b part xs ℓ volts room).memory
  asked_inside = by_word (eqb b 76) (eqb b 70) refl refl
    where
      inside : Asked → Type 0
      inside q = q.filled ≤ length q.memory

      found_inside : (o : Outcome) → inside (find_asked o room)
      found_inside (refused n) = zero-le
      found_inside (made bytes) = let l = length-append bytes (drop (length bytes) room) in omega (arith, l)

      read_inside : (v : Option ℤ) (o : Outcome) → inside (read_by_said v o room)
      read_inside (Some x) o = zero-le
      read_inside None o = zero-le

      by_word : (t u : Bool) → eqb b 76 ≡ t → eqb b 70 ≡ u → inside (asked b part xs ℓ volts room)
      by_word true u e f = subst inside (asked_list e) zero-le
      by_word false true e f = subst inside (asked_find e f) (found_inside (in_room (length room) (found_on part xs ℓ)))
      by_word false false e f = subst inside (asked_read e f) (read_inside (number_told volts) (in_room (length room) (read_by ℓ (found_on part xs ℓ))))

-- a change in the front of the rooms lent
module _ (b : ℕ) (part : Part) (xs memory scratch f : List ℕ) (ℓ n : ℕ) (s : State) (en : n ≡ bytes_of part memory scratch) (es : s ≡ fresh_state) where
  abbrev A : ChangeLeft
  A = add_left (device_of part) fresh_state loading xs (take (bytes_of part memory scratch) memory) (take (bytes_of part memory scratch) scratch) f ℓ

  abbrev D : ChangeLeft
  D = drop_left (device_of part) fresh_state loading xs (take (bytes_of part memory scratch) memory) (take (bytes_of part memory scratch) scratch) ℓ

  same : n - 0 ≡ bytes_of part memory scratch
  same = (let z : n - 0 ≡ n = omega arith in z) ∙ en

  pub change_add : eqb b 65 ≡ true → add_left (device_of part) s loading xs (mid_of 0 (n - 0) memory) (mid_of 0 (n - 0) scratch) f ℓ ≡ change_of b part xs memory scratch f ℓ
  unfolding change_of
  change_add e = (λ i. add_left (device_of part) (es i) loading xs (take (same i) memory) (take (same i) scratch) f ℓ) ∙ sym (if_true (eqb b 65) A D e)

  pub change_drop : eqb b 65 ≡ false → drop_left (device_of part) s loading xs (mid_of 0 (n - 0) memory) (mid_of 0 (n - 0) scratch) ℓ ≡ change_of b part xs memory scratch f ℓ
  unfolding change_of
  change_drop e = (λ i. drop_left (device_of part) (es i) loading xs (take (same i) memory) (take (same i) scratch) ℓ) ∙ sym (if_false (eqb b 65) A D e)

-- the whole
module _ (count : ℕ) (word xs device letter volts f memory scratch : List ℕ) where
  abbrev M : Answered
  M = shown (misasked memory) xs scratch

  abbrev C : Answered
  C = ended (change_of (get_or word 0 0) (part_of device) xs memory scratch f (get_or letter 0 0)) (bytes_of (part_of device) memory scratch) memory scratch

  abbrev Q : Answered
  Q = shown (asked (get_or word 0 0) (part_of device) xs (get_or letter 0 0) volts memory) xs scratch

  pub answered_wrong : call_wrong count word letter ≡ true → M ≡ answered count word xs device letter volts f memory scratch
  unfolding answered
  answered_wrong e = sym (if_true (call_wrong count word letter) M (if is_change (get_or word 0 0) then C else Q) e)

  pub answered_change : call_wrong count word letter ≡ false → is_change (get_or word 0 0) ≡ true → C ≡ answered count word xs device letter volts f memory scratch
  unfolding answered
  answered_change e g = sym (if_false (call_wrong count word letter) M (if is_change (get_or word 0 0) then C else Q) e ∙ if_true (is_change (get_or word 0 0)) C Q g)

  pub answered_asked : call_wrong count word letter ≡ false → is_change (get_or word 0 0) ≡ false → Q ≡ answered count word xs device letter volts f memory scratch
  unfolding answered
  answered_asked e g = sym (if_false (call_wrong count word letter) M (if is_change (get_or word 0 0) then C else Q) e ∙ if_false (is_change (get_or word 0 0)) C Q g)
