-- The numbers of a call: 1 for devices 5 to 8, then a run's, then the change's own.
use mathlib.Core.Path.{◌≡◌, refl, sym, ◌∙◌, ap}
use mathlib.Core.List.{List, [], ◌∷◌, ◌++◌}
use mathlib.Core.Bool.{Bool, true, false, not}
use Prim.Native.Nat.{ℕ, zero, suc, ◌+◌, ◌/◌}
use native.Mathlib.Omega.{arith}
use lib.ListN.{length, get_or, take, drop}
use lib.Dec.{eqb}
use borrow.Author.Tests.{eqb-true, eqb-false, eq-eqb}
use Rattle.std.specs.Prelude.{if◌then◌else◌}
use Rattle.common.specs.Numbers.{Row, row, given, numbered}
use Rattle.common.proofs.Choice.{if_true, if_false}
use Rattle.common.proofs.Numbers.{given_append}
use Rattle.device.specs.declared.Device.{Device}
use Rattle.device.specs.Parts.{is_large}
use Rattle.model_types.specs.declared.Pins.{Pins}
use Rattle.model_types.specs.declared.State.{State}
use Rattle.file_block.specs.Block.{block_rows}
use Rattle.file_codec.specs.File.{limit, length_wrong, blocks_in, blocks_rows, read_rows}
use Rattle.loader_run.specs.Runs.{lent_rows, lent_number, run_first}
use Rattle.store_places.specs.Store.{Change, adds, drops, is_proper, items_in, places_in, no_room, find_rows, find_place_number, add_place_number, change_place_number}
use Rattle.store_survey.specs.Survey.{reader_number}
use Rattle.store.specs.Stores.{main_of, add_number, drop_number, change_job}
use Rattle.store_claims.specs.Calls.{number_by}

-- what is asked after the blocks of a file is asked after them alone
blocks_append : (left first i n : ℕ) (f : List ℕ) (rs ss : List Row) → blocks_rows left first i n f (rs ++ ss) ≡ blocks_rows left first i n f rs ++ ss
blocks_append zero first i n f rs ss = refl
blocks_append (suc left) first i n f rs ss = ap (λ (x : List Row). block_rows first i n (take 512 f) x) (blocks_append left first (i + 1) n (drop 512 f) rs ss)

blocks_numbered : (left first i n : ℕ) (f : List ℕ) (rs : List Row) → numbered rs ≡ true → numbered (blocks_rows left first i n f rs) ≡ true
blocks_numbered zero first i n f rs h = h
blocks_numbered (suc left) first i n f rs h = blocks_numbered left first (i + 1) n (drop 512 f) rs h

read_append : (most : ℕ) (f : List ℕ) (ℓ : ℕ) (rs : List Row) → read_rows most f ℓ rs ≡ read_rows most f ℓ [] ++ rs
read_append most f ℓ rs = ap (λ (x : List Row). row 30 (length_wrong most (length f)) ∷ x) (blocks_append (blocks_in f) (get_or f 0 0) 0 (blocks_in f) f (row 35 (not (eqb (get_or f 0 0) ℓ)) ∷ []) rs)

read_numbered : (most : ℕ) (f : List ℕ) (ℓ : ℕ) → numbered (read_rows most f ℓ []) ≡ true
read_numbered most f ℓ = blocks_numbered (blocks_in f) (get_or f 0 0) 0 (blocks_in f) f (row 35 (not (eqb (get_or f 0 0) ℓ)) ∷ []) refl

-- the reader's number stands for its table
add_own : (ℓ : ℕ) (f main : List ℕ)
    → given (read_rows limit f ℓ (row 44 (not (is_proper (reader_number limit) main)) ∷ row 43 (no_room (length main / 512) ℓ (places_in f) (items_in (reader_number limit) main)) ∷ [])) ≡ add_place_number (reader_number limit) ℓ f main
unfolding add_place_number
add_own ℓ f main =
    ap given (read_append limit f ℓ rest) ∙ given_append (read_rows limit f ℓ []) rest (read_numbered limit f ℓ) ∙ go (eqb (reader_number limit ℓ f) 0)
  where
    rest : List Row
    rest = row 44 (not (is_proper (reader_number limit) main)) ∷ row 43 (no_room (length main / 512) ℓ (places_in f) (items_in (reader_number limit) main)) ∷ []

    go : (t : Bool) → (if t then given rest else reader_number limit ℓ f) ≡ (if not t then reader_number limit ℓ f else given rest)
    go true = refl
    go false = refl

module _ (d : Device) (s : State) (p : Pins) (xs : List ℕ) (memory scratch : ℕ) where
  shared : (own : List Row) → given (row 1 (is_large d.part) ∷ (lent_rows (change_job d s p) (length xs) memory scratch ++ own))
      ≡ (if is_large d.part then 1 else if eqb (lent_number (change_job d s p) (length xs) memory scratch) 0 then given own else lent_number (change_job d s p) (length xs) memory scratch)
  unfolding run_first
  shared own = ap (λ (n : ℕ). if is_large d.part then 1 else n) (given_append (lent_rows (change_job d s p) (length xs) memory scratch) own refl)

  -- the number of a call by the change's own
  pub number_is : (c : Change) → number_by c d s p xs memory scratch
      ≡ (if is_large d.part then 1 else if eqb (lent_number (change_job d s p) (length xs) memory scratch) 0 then change_place_number (reader_number limit) c (main_of d.part xs) else lent_number (change_job d s p) (length xs) memory scratch)
  unfolding add_number drop_number find_place_number
  number_is (adds ℓ b) =
      shared (read_rows limit b ℓ (row 44 (not (is_proper (reader_number limit) (main_of d.part xs))) ∷ row 43 (no_room (length (main_of d.part xs) / 512) ℓ (places_in b) (items_in (reader_number limit) (main_of d.part xs))) ∷ []))
      ∙ ap (λ (n : ℕ). if is_large d.part then 1 else if eqb (lent_number (change_job d s p) (length xs) memory scratch) 0 then n else lent_number (change_job d s p) (length xs) memory scratch) (add_own ℓ b (main_of d.part xs))
  number_is (drops ℓ) = shared (find_rows (reader_number limit) ℓ (main_of d.part xs) [])

  -- nothing refuses a call: it is of devices 1 to 4, no number of a run applies, and none of the change
  pub none_applies : (c : Change) → number_by c d s p xs memory scratch ≡ 0
      → (is_large d.part ≡ false) × (lent_number (change_job d s p) (length xs) memory scratch ≡ 0) × (change_place_number (reader_number limit) c (main_of d.part xs) ≡ 0)
  none_applies c z = go (is_large d.part) refl (eqb (lent_number (change_job d s p) (length xs) memory scratch) 0) refl (sym (number_is c) ∙ z)
    where
      go : (a : Bool) → is_large d.part ≡ a → (b : Bool) → eqb (lent_number (change_job d s p) (length xs) memory scratch) 0 ≡ b
          → (if a then 1 else if b then change_place_number (reader_number limit) c (main_of d.part xs) else lent_number (change_job d s p) (length xs) memory scratch) ≡ 0
          → (is_large d.part ≡ false) × (lent_number (change_job d s p) (length xs) memory scratch ≡ 0) × (change_place_number (reader_number limit) c (main_of d.part xs) ≡ 0)
      go true x b y e = absurd (omega arith)
      go false x true y e = (x, eqb-true _ 0 y, e)
      go false x false y e = absurd (eqb-false _ 0 y e)

  -- where it is of devices 1 to 4 and no number of a run applies, the change's own number is given
  pub own_number : (c : Change) → is_large d.part ≡ false → lent_number (change_job d s p) (length xs) memory scratch ≡ 0 → number_by c d s p xs memory scratch ≡ change_place_number (reader_number limit) c (main_of d.part xs)
  own_number c a z = number_is c ∙ if_false (is_large d.part) 1 _ a ∙ if_true (eqb (lent_number (change_job d s p) (length xs) memory scratch) 0) _ _ (eq-eqb _ 0 z)
