-- The numbers of a drop and of an add, as the code works them out, are those of their rows.
use mathlib.Core.Path.{◌≡◌, refl, sym, ◌∙◌, ap}
use mathlib.Core.List.{List, [], ◌∷◌, ◌++◌}
use mathlib.Core.Bool.{Bool, true, false, not}
use Prim.Native.Nat.{ℕ, ◌+◌, ◌*◌, ◌-◌, ◌/◌, ◌%◌, ◌≤◌}
use native.Mathlib.Omega.{arith}
use lib.ListN.{length, get_or}
use lib.Dec.{eqb, ltb}
use borrow.Author.Tests.{eqb-true, eqb-false, eq-eqb, ne_eqb, not-false}
use Rattle.std.specs.Prelude.{if◌then◌else◌}
use Rattle.common.proofs.Choice.{if_true, if_false}
use Rattle.common.specs.Numbers.{Row, row, given, numbered, NoRow}
use Rattle.common.proofs.Numbers.{given_append, given_no_row, no_head, no_tail}
use Rattle.file_codec.specs.File.{refused, made, limit, read_rows, length_wrong, blocks_in, blocks_rows, payload_of, reader_of}
use Rattle.file_codec.proofs.Outcomes.{outcome_lets, outcome_refuses}
use Rattle.file_codec.proofs.Tables.{blocks_append, blocks_numbered}
use Rattle.store_places.specs.Store.{find_in, live_in, no_room, places_in, is_proper, drop_of, Proper}
use Rattle.store_survey.specs.Survey.{reader_number, items_of, place_in, survey_of}
use Rattle.store_survey.specs.declared.Survey.{Survey}
use Rattle.store_find.specs.Finds.{is_whole, stands_rows, stands_number, stands_of}
use Rattle.store_find.specs.declared.Stands.{Stands}
use Rattle.store_find.proofs.Standing.{there, store_of, number_is, stands_there, stands_ends}
use Rattle.store_contents.specs.Contents.{unlike, drop_rows, room_rows, drop_in_number, add_in_number, memory_by}
use Rattle.store_contents.specs.Inner.{zeroed_from}
use Rattle.store_contents.proofs.Adding.{drop_anyway, replaced_live, live_fits, room_test}

-- memory by a number
pub memory_new : (n : ℕ) (new was : List ℕ) → n ≡ 0 → memory_by n new was ≡ new
unfolding memory_by
memory_new n new was z = if_true (eqb n 0) new was (eq-eqb n 0 z)

pub memory_was : (n : ℕ) (new was : List ℕ) → (n ≡ 0 → ⊥) → memory_by n new was ≡ was
unfolding memory_by
memory_was n new was z = if_false (eqb n 0) new was (ne_eqb n 0 z)

pub memory_like : (n : ℕ) (a b was : List ℕ) → (n ≡ 0 → a ≡ b) → memory_by n a was ≡ memory_by n b was
memory_like n a b was f = go (eqb n 0) refl
  where
    go : (t : Bool) → eqb n 0 ≡ t → memory_by n a was ≡ memory_by n b was
    go true q = ap (λ (x : List ℕ). memory_by n x was) (f (eqb-true n 0 q))
    go false q = memory_was n a was (eqb-false n 0 q) ∙ sym (memory_was n b was (eqb-false n 0 q))

-- ---- a drop
module _ (main : List ℕ) (ℓ room : ℕ) (s : Stands) (e : s ≡ stands_of main ℓ) where
  pub drop_number : given (row 11 (not (eqb room (length main))) ∷ row s.number true ∷ []) ≡ drop_in_number main ℓ room
  unfolding drop_in_number unlike stands_number
  drop_number = ap (λ (n : ℕ). if not (eqb room (length main)) then 11 else n) (number_is main ℓ s e)

  -- nothing refused: as long as the block, and the letter is there
  pub drop_let : drop_in_number main ℓ room ≡ 0 → (room ≡ length main) × (stands_number main ℓ ≡ 0)
  unfolding drop_in_number unlike stands_number
  drop_let z =
      let n : NoRow (drop_rows main ℓ room) = given_no_row (drop_rows main ℓ room) refl z in
      let a : not (eqb room (length main)) ≡ false = no_head n in
      (eqb-true room (length main) (not-false (eqb room (length main)) a), sym (if_false (not (eqb room (length main))) 11 (given (stands_rows main ℓ)) a) ∙ z)

  pub drop_fits : drop_in_number main ℓ room ≡ 0 → s.from + 512 * (s.size / 512) ≤ length main
  drop_fits z =
      let o = (drop_let z).1 in
      let q = stands_ends main ℓ s e (number_is main ℓ s e ∙ o) in omega arith

  pub drop_new : drop_in_number main ℓ room ≡ 0 → zeroed_from (s.size / 512) s.from main ≡ drop_of (reader_number limit) ℓ main
  drop_new z =
      let o = (drop_let z).1 in
      let t = there main ℓ o in
      let f : s ≡ record { number = 0; from = 512 * place_in ℓ 0 (items_of main); size = 512 * length (find_in ℓ (items_of main)) } = e ∙ stands_there main ℓ o in
      let a : s.size ≡ 512 * length (find_in ℓ (items_of main)) = ap (λ (x : Stands). x.size) f in
      let k : s.size / 512 ≡ length (find_in ℓ (items_of main)) = omega arith in
      ap (λ (n : ℕ). zeroed_from n s.from main) k ∙ ap (λ (n : ℕ). zeroed_from (length (find_in ℓ (items_of main))) n main) (ap (λ (x : Stands). x.from) f)
      ∙ sym (drop_anyway main (length main / 512) ℓ t.store)

-- ---- an add
-- the reader's rows, then others: these are asked where the reader's give nothing
read_numbered : (f : List ℕ) (ℓ : ℕ) (rest : List Row) → numbered (read_rows limit f ℓ rest) ≡ numbered rest
read_numbered f ℓ rest = blocks_numbered (blocks_in f) (get_or f 0 0) 0 (blocks_in f) f (row 35 (not (eqb (get_or f 0 0) ℓ)) ∷ rest)

read_append : (f : List ℕ) (ℓ : ℕ) (rest : List Row) → read_rows limit f ℓ rest ≡ read_rows limit f ℓ [] ++ rest
read_append f ℓ rest =
    let B = blocks_rows (blocks_in f) (get_or f 0 0) 0 (blocks_in f) f in
    ap (λ (rs : List Row). row 30 (length_wrong limit (length f)) ∷ rs)
    (blocks_append (blocks_in f) (get_or f 0 0) 0 (blocks_in f) f (row 35 (not (eqb (get_or f 0 0) ℓ)) ∷ rest)
    ∙ assoc (B []) (row 35 (not (eqb (get_or f 0 0) ℓ)) ∷ []) rest
    ∙ ap (λ (rs : List Row). rs ++ rest) (sym (blocks_append (blocks_in f) (get_or f 0 0) 0 (blocks_in f) f (row 35 (not (eqb (get_or f 0 0) ℓ)) ∷ []))))
  where
    assoc : (a b c : List Row) → a ++ (b ++ c) ≡ (a ++ b) ++ c
    assoc [] b c = refl
    assoc (x ∷ a) b c = ap (λ (y : List Row). x ∷ y) (assoc a b c)

pub read_then : (f : List ℕ) (ℓ : ℕ) (rest : List Row) → given (read_rows limit f ℓ rest) ≡ (if eqb (reader_number limit ℓ f) 0 then given rest else reader_number limit ℓ f)
read_then f ℓ rest = ap given (read_append f ℓ rest) ∙ given_append (read_rows limit f ℓ []) rest (read_numbered f ℓ [])

module _ (main f : List ℕ) (ℓ room : ℕ) where
  after_11 : add_in_number main f ℓ room ≡ (if unlike main room then 11 else if eqb (reader_number limit ℓ f) 0 then given (room_rows main f ℓ) else reader_number limit ℓ f)
  unfolding add_in_number
  after_11 = ap (λ (n : ℕ). if unlike main room then 11 else n) (read_then f ℓ (room_rows main f ℓ))

  pub add_11 : (room ≡ length main → ⊥) → add_in_number main f ℓ room ≡ 11
  unfolding unlike
  add_11 z = after_11 ∙ ap (λ (t : Bool). if not t then 11 else if eqb (reader_number limit ℓ f) 0 then given (room_rows main f ℓ) else reader_number limit ℓ f) (ne_eqb room (length main) z)

  module _ (l : room ≡ length main) where
    past_11 : add_in_number main f ℓ room ≡ (if eqb (reader_number limit ℓ f) 0 then given (room_rows main f ℓ) else reader_number limit ℓ f)
    unfolding unlike
    past_11 = after_11 ∙ ap (λ (t : Bool). if not t then 11 else if eqb (reader_number limit ℓ f) 0 then given (room_rows main f ℓ) else reader_number limit ℓ f) (eq-eqb room (length main) l)

    pub add_read : (reader_number limit ℓ f ≡ 0 → ⊥) → add_in_number main f ℓ room ≡ reader_number limit ℓ f
    add_read z = past_11 ∙ if_false (eqb (reader_number limit ℓ f) 0) (given (room_rows main f ℓ)) (reader_number limit ℓ f) (ne_eqb _ 0 z)

    module _ (z : reader_number limit ℓ f ≡ 0) where
      pub past_read : add_in_number main f ℓ room ≡ given (room_rows main f ℓ)
      past_read = past_11 ∙ if_true (eqb (reader_number limit ℓ f) 0) (given (room_rows main f ℓ)) (reader_number limit ℓ f) (eq-eqb _ 0 z)

      pub add_44 : (length main % 512 ≡ 0 → ⊥) → add_in_number main f ℓ room ≡ 44
      unfolding is_whole
      add_44 w = past_read ∙ ap (λ (t : Bool). if not t then 44 else given (row 44 (not (is_proper (reader_number limit) main)) ∷ row 43 (no_room (length main / 512) ℓ (places_in f) (items_of main)) ∷ [])) (ne_eqb _ 0 w)

      -- 44 and 43 by the survey
      pub add_room : length main % 512 ≡ 0 → (s : Survey) → s ≡ survey_of ℓ (length f / 512) main
          → add_in_number main f ℓ room ≡ given (row 44 (not s.good) ∷ row 43 (ltb (length main / 512) (s.live - s.blocks + length f / 512)) ∷ [])
      unfolding is_whole survey_of
      add_room w s e =
          past_read
          ∙ ap (λ (t : Bool). if not t then 44 else given (row 44 (not (is_proper (reader_number limit) main)) ∷ row 43 (no_room (length main / 512) ℓ (places_in f) (items_of main)) ∷ [])) (eq-eqb _ 0 w)
          ∙ go (is_proper (reader_number limit) main) refl
          ∙ ap (λ (x : Survey). given (row 44 (not x.good) ∷ row 43 (ltb (length main / 512) (x.live - x.blocks + length f / 512)) ∷ [])) (sym e)
        where
          go : (p : Bool) → is_proper (reader_number limit) main ≡ p
              → given (row 44 (not p) ∷ row 43 (no_room (length main / 512) ℓ (places_in f) (items_of main)) ∷ [])
              ≡ given (row 44 (not p) ∷ row 43 (ltb (length main / 512) (live_in (items_of main) - length (find_in ℓ (items_of main)) + length f / 512)) ∷ [])
          go false q = refl
          go true q = ap (λ (t : Bool). given (row 43 t ∷ [])) (sym (room_test main (length main / 512) ℓ (record { size = omega arith; proper = q }) f z))

-- what the survey says where it is good
pub survey_bounds : (main : List ℕ) (ℓ n : ℕ) (s : Survey) → length main % 512 ≡ 0 → s ≡ survey_of ℓ n main → s.good ≡ true → (s.blocks ≤ s.live) × (s.live ≤ length main / 512)
unfolding survey_of
survey_bounds main ℓ n s w e g =
    let P : Proper (reader_number limit) (length main / 512) main = record { size = omega arith; proper = sym (ap (λ (x : Survey). x.good) e) ∙ g } in
    let a : s.blocks ≡ length (find_in ℓ (items_of main)) = ap (λ (x : Survey). x.blocks) e in
    let b : s.live ≡ live_in (items_of main) = ap (λ (x : Survey). x.live) e in
    let c = replaced_live main (length main / 512) ℓ P in
    let d = live_fits main (length main / 512) ℓ P in
    (omega arith, omega arith)

-- an add that nothing refuses
pub record Let (main f : List ℕ) (ℓ room : ℕ) : Type 0 where
  pub long : room ≡ length main
  pub read : reader_number limit ℓ f ≡ 0
  pub store : Proper (reader_number limit) (length main / 512) main
  pub room_there : no_room (length main / 512) ℓ (places_in f) (items_of main) ≡ false

pub add_let : (main f : List ℕ) (ℓ room : ℕ) → add_in_number main f ℓ room ≡ 0 → Let main f ℓ room
add_let main f ℓ room e = go (eqb room (length main)) refl (eqb (reader_number limit ℓ f) 0) refl
  where
    go : (t : Bool) → eqb room (length main) ≡ t → (u : Bool) → eqb (reader_number limit ℓ f) 0 ≡ u → Let main f ℓ room
    go false q u v = absurd (let a : 11 ≡ 0 = sym (add_11 main f ℓ room (eqb-false _ _ q)) ∙ e in omega arith)
    go true q false v = absurd (eqb-false _ 0 v (sym (add_read main f ℓ room (eqb-true _ _ q) (eqb-false _ 0 v)) ∙ e))
    go true q true v =
        let l = eqb-true _ _ q in
        let z = eqb-true _ 0 v in
        let n : NoRow (room_rows main f ℓ) = given_no_row (room_rows main f ℓ) refl (sym (past_read main f ℓ room l z) ∙ e) in
        record {
          long = l;
          read = z;
          store = store_of main (not-false (is_whole main) (no_head n)) (not-false (is_proper (reader_number limit) main) (no_head (no_tail n)));
          room_there = no_head (no_tail (no_tail n));
        }

-- ---- a test turned round, and the reader's judgement as its number
pub on : (t : Bool) → not t ≡ false → t ≡ true
on t e = not-false t e

pub judged_sound : (most : ℕ) (f : List ℕ) (ℓ : ℕ) (bytes : List ℕ) → reader_of most f ℓ ≡ made bytes → reader_number most ℓ f ≡ 0
unfolding reader_of
judged_sound most f ℓ bytes e = (outcome_lets (given (read_rows most f ℓ [])) (payload_of (blocks_in f) f) bytes e).0

pub judged_refused : (most : ℕ) (f : List ℕ) (ℓ m : ℕ) → reader_of most f ℓ ≡ refused m → reader_number most ℓ f ≡ m
unfolding reader_of
judged_refused most f ℓ m e = outcome_refuses (given (read_rows most f ℓ [])) m (payload_of (blocks_in f) f) e
