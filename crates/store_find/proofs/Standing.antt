-- The number of a find by the survey, and the file's bytes where it stands.
use mathlib.Core.Path.{◌≡◌, refl, sym, ◌∙◌, ap}
use mathlib.Core.List.{List, [], ◌∷◌, ◌++◌}
use mathlib.Core.Bool.{Bool, true, false, not}
use Prim.Native.Nat.{ℕ, ◌+◌, ◌*◌, ◌-◌, ◌/◌, ◌%◌, ◌≤◌, ◌<◌}
use native.Mathlib.Omega.{arith}
use lib.ListN.{length, take, drop}
use lib.Seq.{take_all}
use lib.Dec.{eqb, ltb}
use borrow.Author.Tests.{eqb-true, eqb-false, eq-eqb, ne_eqb, not-false, lt-ltb, le-ltb}
use borrow.Rule.Slice.PartMut.{mid_of}
use Rattle.common.proofs.Choice.{if_true, if_false}
use Rattle.common.specs.Numbers.{row, given, NoRow}
use Rattle.common.proofs.Numbers.{given_no_row, no_head, no_tail}
use Rattle.common.specs.Lists.{copied}
use Rattle.file_codec.specs.File.{Outcome, refused, made, in_room, left_in, limit, reader_of}
use Rattle.store_places.specs.Store.{has_in, find_in, is_proper, find_of, Proper}
use Rattle.store_survey.specs.Survey.{reader_number, items_of, place_in, survey_of}
use Rattle.store_survey.proofs.Reader.{file_reader}
use Rattle.store_find.specs.Finds.{is_whole, stands_rows, stands_number, stands_of, found_in, found_as, read_by}
use Rattle.store_find.specs.declared.Stands.{Stands}
use Rattle.store_find.proofs.Finding.{none_there, found_long, found_ends, found_bytes}

-- whole and proper is a proper store of its own places
pub store_of : (main : List ℕ) → is_whole main ≡ true → is_proper (reader_number limit) main ≡ true → Proper (reader_number limit) (length main / 512) main
unfolding is_whole
store_of main w p = let h = eqb-true (length main % 512) 0 w in record { size = omega arith; proper = p }

-- the number that the code gives by the survey is that of the rows
pub by_survey : (main : List ℕ) (ℓ n : ℕ)
    → given (row 44 (not (eqb (length main % 512) 0)) ∷ row 44 (not (survey_of ℓ n main).good) ∷ row 42 (eqb (survey_of ℓ n main).blocks 0) ∷ []) ≡ stands_number main ℓ
unfolding survey_of stands_number is_whole
by_survey main ℓ n = go (eqb (length main % 512) 0) refl (is_proper (reader_number limit) main) refl
  where
    go : (w : Bool) → eqb (length main % 512) 0 ≡ w → (p : Bool) → is_proper (reader_number limit) main ≡ p
        → given (row 44 (not w) ∷ row 44 (not p) ∷ row 42 (eqb (length (find_in ℓ (items_of main))) 0) ∷ [])
        ≡ given (row 44 (not w) ∷ row 44 (not p) ∷ row 42 (not (has_in ℓ (items_of main))) ∷ [])
    go false w p q = refl
    go true w false q = refl
    go true w true q =
        ap (λ (t : Bool). given (row 42 t ∷ []))
        (none_there (reader_number limit) (file_reader limit) (length main / 512) ℓ main (let h = eqb-true (length main % 512) 0 w in record { size = omega arith; proper = q }))

-- where the number is 0: a proper store with the letter in it
pub record There (main : List ℕ) (ℓ : ℕ) : Type 0 where
  pub whole : is_whole main ≡ true
  pub store : Proper (reader_number limit) (length main / 512) main
  pub has : has_in ℓ (items_of main) ≡ true

pub there : (main : List ℕ) (ℓ : ℕ) → stands_number main ℓ ≡ 0 → There main ℓ
unfolding stands_number
there main ℓ e =
    let n : NoRow (stands_rows main ℓ) = given_no_row (stands_rows main ℓ) refl e in
    let w = not-false (is_whole main) (no_head n) in
    let p = not-false (is_proper (reader_number limit) main) (no_head (no_tail n)) in
    record { whole = w; store = store_of main w p; has = not-false (has_in ℓ (items_of main)) (no_head (no_tail (no_tail n))) }

-- what is returned of a find that stands, and of one that is refused
pub stands_there : (main : List ℕ) (ℓ : ℕ) → stands_number main ℓ ≡ 0 → stands_of main ℓ ≡ record { number = 0; from = 512 * place_in ℓ 0 (items_of main); size = 512 * length (find_in ℓ (items_of main)) }
unfolding stands_of
stands_there main ℓ e =
    let t = there main ℓ e in
    if_true (eqb (stands_number main ℓ) 0) _ _ (eq-eqb _ 0 e)
    ∙ ap (λ (k : ℕ). record { number = 0; from = 512 * place_in ℓ 0 (items_of main); size = k }) (found_long (reader_number limit) (file_reader limit) (length main / 512) ℓ main t.store)

pub stands_not : (main : List ℕ) (ℓ n : ℕ) → n ≡ stands_number main ℓ → (n ≡ 0 → ⊥) → stands_of main ℓ ≡ record { number = n; from = 0; size = 0 }
unfolding stands_of
stands_not main ℓ n e z =
    if_false (eqb (stands_number main ℓ) 0) _ _ (ne_eqb _ 0 (λ (h : stands_number main ℓ ≡ 0). z (e ∙ h)))
    ∙ ap (λ (k : ℕ). record { number = k; from = 0; size = 0 }) (sym e)

-- its number alone
pub stands_number_lem : (main : List ℕ) (ℓ : ℕ) → (stands_of main ℓ).number ≡ stands_number main ℓ
stands_number_lem main ℓ = go (eqb (stands_number main ℓ) 0) refl
  where
    go : (t : Bool) → eqb (stands_number main ℓ) 0 ≡ t → (stands_of main ℓ).number ≡ stands_number main ℓ
    go true q = ap (λ (x : Stands). x.number) (stands_there main ℓ (eqb-true _ 0 q)) ∙ sym (eqb-true _ 0 q)
    go false q = ap (λ (x : Stands). x.number) (stands_not main ℓ (stands_number main ℓ) refl (eqb-false _ 0 q))

-- the file's bytes, of an answer that is 0
module _ (main : List ℕ) (ℓ : ℕ) (r : Stands) (e : r ≡ stands_of main ℓ) where
  pub number_is : r.number ≡ stands_number main ℓ
  number_is = ap (λ (x : Stands). x.number) e ∙ stands_number_lem main ℓ

  module _ (z : r.number ≡ 0) where
    none : stands_number main ℓ ≡ 0
    none = sym number_is ∙ z

    from_is : r.from ≡ 512 * place_in ℓ 0 (items_of main)
    from_is = ap (λ (x : Stands). x.from) (e ∙ stands_there main ℓ none)

    size_is : r.size ≡ 512 * length (find_in ℓ (items_of main))
    size_is = ap (λ (x : Stands). x.size) (e ∙ stands_there main ℓ none)

    pub stands_ends : r.from + r.size ≤ length main
    stands_ends =
        let t = there main ℓ none in
        let h = found_ends (reader_number limit) (file_reader limit) (length main / 512) ℓ main t.store t.has in
        let a = from_is in let b = size_is in omega arith

    pub stands_bytes : mid_of r.from (r.from + r.size - r.from) main ≡ find_of (reader_number limit) ℓ main
    stands_bytes =
        let t = there main ℓ none in
        let k : r.from + r.size - r.from ≡ 512 * length (find_in ℓ (items_of main)) = (let b = size_is in omega arith) in
        ap (λ (n : ℕ). take n (drop r.from main)) k
        ∙ ap (λ (n : ℕ). take (512 * length (find_in ℓ (items_of main))) (drop n main)) from_is
        ∙ found_bytes (reader_number limit) (file_reader limit) (length main / 512) ℓ main t.store t.has

    pub stands_long : r.size ≡ length (find_of (reader_number limit) ℓ main)
    stands_long = size_is ∙ sym (found_long (reader_number limit) (file_reader limit) (length main / 512) ℓ main (there main ℓ none).store)

    pub found_made : found_in main ℓ ≡ made (find_of (reader_number limit) ℓ main)
    unfolding found_in
    found_made = if_true (eqb (stands_number main ℓ) 0) _ _ (eq-eqb _ 0 none)

  pub found_refused : (r.number ≡ 0 → ⊥) → found_in main ℓ ≡ refused r.number
  unfolding found_in
  found_refused z =
      if_false (eqb (stands_number main ℓ) 0) _ _ (ne_eqb _ 0 (λ (h : stands_number main ℓ ≡ 0). z (number_is ∙ h)))
      ∙ ap refused (sym number_is)

-- what a find returns and leaves, and what a reading does, by where the file stands
module _ (main : List ℕ) (ℓ : ℕ) (r : Stands) (e : r ≡ stands_of main ℓ) (room : List ℕ) where
  abbrev File : List ℕ
  File = find_of (reader_number limit) ℓ main

  pub find_refused : (r.number ≡ 0 → ⊥)
      → (record { number = r.number; length = 0 } ≡ found_as (in_room (length room) (found_in main ℓ))) × (room ≡ left_in room (in_room (length room) (found_in main ℓ)))
  find_refused z =
      let q = sym (found_refused main ℓ r e z) in
      (ap (λ (o : Outcome). found_as (in_room (length room) o)) q, ap (λ (o : Outcome). left_in room (in_room (length room) o)) q)

  module _ (z : r.number ≡ 0) where
    pub find_37 : length room < r.size
        → (record { number = 37; length = 0 } ≡ found_as (in_room (length room) (found_in main ℓ))) × (room ≡ left_in room (in_room (length room) (found_in main ℓ)))
    find_37 h =
        let l = stands_long main ℓ r e z in
        let q : refused 37 ≡ in_room (length room) (found_in main ℓ) =
        sym (if_true (ltb (length room) (length File)) (refused 37) (made File) (lt-ltb (length room) (length File) (omega arith))) ∙ ap (in_room (length room)) (sym (found_made main ℓ r e z)) in
        (ap found_as q, ap (left_in room) q)

    pub find_fits : r.size ≤ length room → in_room (length room) (found_in main ℓ) ≡ made File
    find_fits h =
        let l = stands_long main ℓ r e z in
        ap (in_room (length room)) (found_made main ℓ r e z) ∙ if_false (ltb (length room) (length File)) (refused 37) (made File) (le-ltb (length room) (length File) (omega arith))

    pub find_done : r.size ≤ length room → (room' : List ℕ) → room' ≡ copied room (mid_of r.from (r.from + r.size - r.from) main)
        → (record { number = 0; length = r.size } ≡ found_as (in_room (length room) (found_in main ℓ))) × (room' ≡ left_in room (in_room (length room) (found_in main ℓ)))
    find_done h room' q =
        let l = stands_long main ℓ r e z in
        let f = find_fits h in (
          ap (λ (k : ℕ). record { number = 0; length = k }) l ∙ ap found_as (sym f),
          q ∙ ap (copied room) (stands_bytes main ℓ r e z) ∙ ap (λ (x : List ℕ). x ++ drop (length File) room) (take_all (length room) File (omega arith)) ∙ ap (left_in room) (sym f),
        )

  -- a reading: what the reader is asked
  pub read_refused : (r.number ≡ 0 → ⊥) → in_room (length room) (read_by ℓ (found_in main ℓ)) ≡ refused r.number
  read_refused z = ap (λ (o : Outcome). in_room (length room) (read_by ℓ o)) (found_refused main ℓ r e z)

  pub read_made : (z : r.number ≡ 0) → reader_of limit (mid_of r.from (r.from + r.size - r.from) main) ℓ ≡ read_by ℓ (found_in main ℓ)
  read_made z = ap (λ (x : List ℕ). reader_of limit x ℓ) (stands_bytes main ℓ r e z) ∙ ap (read_by ℓ) (sym (found_made main ℓ r e z))
