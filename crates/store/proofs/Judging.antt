-- The numbers of a find, a drop and an add on a part, as the code works them out, are those of their rows.
use mathlib.Core.Path.{◌≡◌, refl, sym, ◌∙◌, ap}
use mathlib.Core.Bool.{Bool, true, false, not}
use mathlib.Core.List.{List, [], ◌∷◌, ◌++◌, append-nil}
use Prim.Native.Nat.{ℕ, ◌/◌}
use native.Mathlib.Omega.{arith}
use lib.ListN.{length}
use lib.Dec.{eqb}
use borrow.Author.Tests.{eqb-true, eq-eqb, ne_eqb, not-false}
use Rattle.std.specs.Prelude.{if◌then◌else◌}
use Rattle.common.proofs.Choice.{if_true, if_false}
use Rattle.common.specs.Numbers.{Row, row, given, NoRow}
use Rattle.common.proofs.Numbers.{given_append, given_no_row, no_head, no_tail}
use Rattle.device.specs.declared.Part.{Part}
use Rattle.device.specs.declared.Device.{Device}
use Rattle.device.specs.Parts.{is_large, size_of, length_of}
use Rattle.model_types.specs.declared.Pins.{Pins}
use Rattle.model_types.specs.declared.State.{State}
use Rattle.units.specs.Units.{lent_in}
use Rattle.file_codec.specs.File.{Outcome, refused, made, outcome_by, in_room, left_in, limit, read_rows}
use Rattle.loader_run.specs.Runs.{lent_rows, lent_number, run_first}
use Rattle.loader_run.proofs.UnrefusedRun.{good}
use Rattle.store_places.specs.Store.{find_of, find_rows, is_proper, no_room, places_in, items_in}
use Rattle.store_survey.specs.Survey.{reader_number}
use Rattle.store_find.specs.Finds.{is_whole, stands_number, found_in, found_as}
use Rattle.store_find.specs.declared.Found.{Found}
use Rattle.store_contents.specs.Contents.{unlike, room_rows, drop_in_number, add_in_number, memory_by}
use Rattle.store_contents.proofs.Numbers.{read_then, memory_was}
use Rattle.store.specs.Stores.{main_of, no_store, seek_number, found_on, change_rows, change_number, drop_rows, adding_rows, drop_number, add_number, change_job}
use Rattle.store.proofs.Blocks.{Small, small, known_part, store_small, block_long, block_whole}

-- the second table is asked where the first gives nothing
stays : (a x : ℕ) → (a ≡ 0 → ⊥) → (if eqb a 0 then x else a) ≡ a
stays a x z = if_false (eqb a 0) x a (ne_eqb a 0 z)

passes : (a x : ℕ) → a ≡ 0 → (if eqb a 0 then x else a) ≡ x
passes a x z = if_true (eqb a 0) x a (eq-eqb a 0 z)

-- ---- a find
module _ (part : Part) (xs : List ℕ) (ℓ : ℕ) where
  first : seek_number part xs ℓ
      ≡ (if eqb (given (row 1 (no_store part) ∷ row 2 (not (eqb (length xs) (size_of part))) ∷ [])) 0 then given (find_rows (reader_number limit) ℓ (main_of part xs) [])
      else given (row 1 (no_store part) ∷ row 2 (not (eqb (length xs) (size_of part))) ∷ []))
  unfolding seek_number
  first = given_append (row 1 (no_store part) ∷ row 2 (not (eqb (length xs) (size_of part))) ∷ []) (find_rows (reader_number limit) ℓ (main_of part xs) []) refl

  module _ (n : ℕ) (e : n ≡ given (row 1 (no_store part) ∷ row 2 (not (eqb (length xs) (size_of part))) ∷ [])) where
    pub found_not : (n ≡ 0 → ⊥) → found_on part xs ℓ ≡ refused n
    unfolding found_on
    found_not z =
        let q : seek_number part xs ℓ ≡ n = first ∙ stays (given (row 1 (no_store part) ∷ row 2 (not (eqb (length xs) (size_of part))) ∷ [])) (given (find_rows (reader_number limit) ℓ (main_of part xs) [])) (λ y. z (e ∙ y)) ∙ sym e in
        ap (λ (k : ℕ). outcome_by k (find_of (reader_number limit) ℓ (main_of part xs))) q ∙ if_false (eqb n 0) (made (find_of (reader_number limit) ℓ (main_of part xs))) (refused n) (ne_eqb n 0 z)

    module _ (z : n ≡ 0) where
      none : NoRow (row 1 (no_store part) ∷ row 2 (not (eqb (length xs) (size_of part))) ∷ [])
      none = given_no_row (row 1 (no_store part) ∷ row 2 (not (eqb (length xs) (size_of part))) ∷ []) refl (sym e ∙ z)

      pub found_sized : length xs ≡ size_of part
      found_sized = eqb-true (length xs) (size_of part) (not-false (eqb (length xs) (size_of part)) (no_head (no_tail none)))

      pub found_there : found_in (main_of part xs) ℓ ≡ found_on part xs ℓ
      unfolding found_in found_on stands_number
      found_there =
          let w : is_whole (main_of part xs) ≡ true = block_whole part xs found_sized (store_small part (no_head none)) in
          let a : given (row 44 (not (is_whole (main_of part xs))) ∷ find_rows (reader_number limit) ℓ (main_of part xs) []) ≡ given (find_rows (reader_number limit) ℓ (main_of part xs) []) =
          ap (λ (t : Bool). if not t then 44 else given (find_rows (reader_number limit) ℓ (main_of part xs) [])) w in
          let b : seek_number part xs ℓ ≡ given (find_rows (reader_number limit) ℓ (main_of part xs) []) = first ∙ passes (given (row 1 (no_store part) ∷ row 2 (not (eqb (length xs) (size_of part))) ∷ [])) (given (find_rows (reader_number limit) ℓ (main_of part xs) [])) (sym e ∙ z) in
          ap (λ (k : ℕ). outcome_by k (find_of (reader_number limit) ℓ (main_of part xs))) (a ∙ sym b)

-- in byte mode lent bytes are as many units
plain : (w : Bool) (n : ℕ) → w ≡ false → lent_in w n ≡ n
unfolding lent_in
plain false n e = refl
plain true n e = absurd (let y : ◌≡◌ {A = ℕ} 0 1 = cc in omega arith)

-- ---- a change: a run's rows, then its own
module _ (d : Device) (s : State) (p : Pins) (array memory scratch : ℕ) where
  pub change_large : is_large d.part ≡ true → change_number d s p array memory scratch ≡ 1
  unfolding change_number
  change_large h = if_true (is_large d.part) 1 _ h

  pub change_run : is_large d.part ≡ false → change_number d s p array memory scratch ≡ lent_number (change_job d s p) array memory scratch
  unfolding change_number run_first
  change_run h = if_false (is_large d.part) 1 _ h ∙ given_append (lent_rows (change_job d s p) array memory scratch) [] refl ∙ same (given (lent_rows (change_job d s p) array memory scratch))
    where
      same : (n : ℕ) → (if eqb n 0 then 0 else n) ≡ n
      same n = go (eqb n 0) refl
        where
          go : (t : Bool) → eqb n 0 ≡ t → (if t then 0 else n) ≡ n
          go true q = sym (eqb-true n 0 q)
          go false q = refl

  change_then : (own : List Row) → given (change_rows d s p array memory scratch own) ≡ (if eqb (change_number d s p array memory scratch) 0 then given own else change_number d s p array memory scratch)
  unfolding change_number
  change_then own =
      ap (λ (rs : List Row). given (row 1 (is_large d.part) ∷ rs)) (ap (λ (rs : List Row). rs ++ own) (sym (append-nil (lent_rows (change_job d s p) array memory scratch))))
      ∙ given_append (row 1 (is_large d.part) ∷ (lent_rows (change_job d s p) array memory scratch ++ [])) own refl

  pub change_refused : (own : List Row) (n : ℕ) → n ≡ change_number d s p array memory scratch → (n ≡ 0 → ⊥) → given (change_rows d s p array memory scratch own) ≡ n
  change_refused own n e z = change_then own ∙ stays (change_number d s p array memory scratch) (given own) (λ y. z (e ∙ y)) ∙ sym e

  pub change_own : (own : List Row) → change_number d s p array memory scratch ≡ 0 → given (change_rows d s p array memory scratch own) ≡ given own
  change_own own z = change_then own ∙ passes (change_number d s p array memory scratch) (given own) z

  -- what a change's own rows may stand on
  pub record Ready : Type 0 where
    pub small : Small d.part
    pub sized : array ≡ size_of d.part
    pub long : memory ≡ length_of d.part 3

  pub ready : change_number d s p array memory scratch ≡ 0 → Ready
  ready z = go (is_large d.part) refl
    where
      go : (t : Bool) → is_large d.part ≡ t → Ready
      go true q = absurd (let y : 1 ≡ 0 = sym (change_large q) ∙ z in omega arith)
      go false q =
          let g = good (change_job d s p) (lent_in d.part.word array) (lent_in d.part.word memory) (lent_in d.part.word scratch) (sym (change_run q) ∙ z) in
          let w = small d.part (known_part d g.known) q in
          record { small = w; sized = sym (plain d.part.word array w.bytes) ∙ g.sized; long = sym (plain d.part.word memory w.bytes) ∙ g.wanted }

-- ---- a drop and an add: past a run's own tests the contents' number is the change's
module _ (d : Device) (s : State) (p : Pins) (xs : List ℕ) (memory scratch : ℕ) (z : change_number d s p (length xs) memory scratch ≡ 0) where
  M : List ℕ
  M = main_of d.part xs

  sized : length xs ≡ size_of d.part
  sized = (ready d s p (length xs) memory scratch z).sized

  as_long : eqb memory (length (main_of d.part xs)) ≡ true
  as_long = eq-eqb memory _ ((ready d s p (length xs) memory scratch z).long ∙ sym (block_long d.part xs sized))

  whole : is_whole (main_of d.part xs) ≡ true
  whole = block_whole d.part xs sized (ready d s p (length xs) memory scratch z).small

  pub drop_is : (ℓ : ℕ) → drop_in_number (main_of d.part xs) ℓ memory ≡ drop_number d s p xs memory scratch ℓ
  unfolding drop_in_number drop_number unlike
  drop_is ℓ =
      let F = find_rows (reader_number limit) ℓ (main_of d.part xs) [] in
      ap (λ (t : Bool). if not t then 11 else given (row 44 (not (is_whole (main_of d.part xs))) ∷ F)) as_long
      ∙ ap (λ (t : Bool). if not t then 44 else given F) whole
      ∙ sym (change_own d s p (length xs) memory scratch F z)

  pub add_is : (f : List ℕ) (ℓ : ℕ) → add_in_number (main_of d.part xs) f ℓ memory ≡ add_number d s p xs memory scratch f ℓ
  unfolding add_in_number add_number unlike
  add_is f ℓ =
      let own : List Row = row 44 (not (is_proper (reader_number limit) (main_of d.part xs))) ∷ row 43 (no_room (length (main_of d.part xs) / 512) ℓ (places_in f) (items_in (reader_number limit) (main_of d.part xs))) ∷ [] in
      ap (λ (t : Bool). if not t then 11 else given (read_rows limit f ℓ (room_rows (main_of d.part xs) f ℓ))) as_long
      ∙ read_then f ℓ (room_rows (main_of d.part xs) f ℓ)
      ∙ ap (λ (n : ℕ). if eqb (reader_number limit ℓ f) 0 then n else reader_number limit ℓ f) (ap (λ (t : Bool). if not t then 44 else given own) whole)
      ∙ sym (read_then f ℓ own)
      ∙ sym (change_own d s p (length xs) memory scratch (read_rows limit f ℓ own) z)

-- refused before its own rows
module _ (d : Device) (s : State) (p : Pins) (xs : List ℕ) (memory : List ℕ) (scratch : ℕ) (n : ℕ) (e : n ≡ change_number d s p (length xs) (length memory) scratch) (z : n ≡ 0 → ⊥) where
  pub drop_refused : (ℓ : ℕ) (new : List ℕ)
      → (n ≡ drop_number d s p xs (length memory) scratch ℓ) × (memory ≡ memory_by (drop_number d s p xs (length memory) scratch ℓ) new memory)
  unfolding drop_number
  drop_refused ℓ new =
      let q = sym (change_refused d s p (length xs) (length memory) scratch (find_rows (reader_number limit) ℓ (main_of d.part xs) []) n e z) in
      (q, sym (memory_was (given (drop_rows d s p xs (length memory) scratch ℓ)) new memory (λ y. z (q ∙ y))))

  pub add_refused : (f : List ℕ) (ℓ : ℕ) (new : List ℕ)
      → (n ≡ add_number d s p xs (length memory) scratch f ℓ) × (memory ≡ memory_by (add_number d s p xs (length memory) scratch f ℓ) new memory)
  unfolding add_number
  add_refused f ℓ new =
      let own : List Row = read_rows limit f ℓ (row 44 (not (is_proper (reader_number limit) (main_of d.part xs))) ∷ row 43 (no_room (length (main_of d.part xs) / 512) ℓ (places_in f) (items_in (reader_number limit) (main_of d.part xs))) ∷ []) in
      let q = sym (change_refused d s p (length xs) (length memory) scratch own n e z) in
      (q, sym (memory_was (given (adding_rows d s p xs (length memory) scratch f ℓ)) new memory (λ y. z (q ∙ y))))

-- what was found out of one list of bytes, of another that it is
pub prepared_on : (F : List ℕ → ℕ) (C : List ℕ → List ℕ) (M M' memory m : List ℕ) (N r : ℕ) → M ≡ M' → F M' ≡ N → r ≡ F M → m ≡ memory_by (F M) (C M) memory → (r ≡ N) × (m ≡ memory_by N (C M') memory)
prepared_on F C M M' memory m N r e q a b =
    (a ∙ ap F e ∙ q, b ∙ ap (λ (x : List ℕ). memory_by (F x) (C x) memory) e ∙ ap (λ (k : ℕ). memory_by k (C M') memory) q)

pub find_on : (room : List ℕ) (o q : Outcome) → o ≡ q → (r : Found) (left : List ℕ) → r ≡ found_as (in_room (length room) o) → left ≡ left_in room (in_room (length room) o)
    → (r ≡ found_as (in_room (length room) q)) × (left ≡ left_in room (in_room (length room) q))
find_on room o q e r left a b = (a ∙ ap (λ (x : Outcome). found_as (in_room (length room) x)) e, b ∙ ap (λ (x : Outcome). left_in room (in_room (length room) x)) e)
