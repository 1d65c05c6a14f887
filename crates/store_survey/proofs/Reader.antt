-- The reader of load files meets what the store asks of a reader; its judgement is its number.
use mathlib.Core.Path.{◌≡◌, refl, sym, ◌∙◌, ap}
use mathlib.Core.List.{List, []}
use mathlib.Core.Bool.{Bool, true, false, not}
use Prim.Native.Nat.{ℕ, suc, ◌+◌, ◌*◌, ◌-◌, ◌<◌}
use native.Mathlib.Omega.{arith}
use lib.ListN.{length, get_or, take, drop}
use lib.Seq.{get_or-take}
use lib.Dec.{eqb}
use borrow.Author.Tests.{eqb-true, not-false}
use Rattle.std.specs.Prelude.{if◌then◌else◌}
use Rattle.std.specs.Result.{is_ok}
use Rattle.common.specs.Numbers.{given}
use Rattle.file_block.specs.Block.{is_letter, letter_wrong, place_wrong}
use Rattle.file_block.proofs.Tables.{none_of_two, right}
use Rattle.file_codec.specs.File.{read_rows, reader_of, refused, made, payload_of, blocks_in, blocks_rows, answered_as}
use Rattle.file_codec.proofs.Outcomes.{outcome_made, length_right, reader_lets}
use Rattle.store_places.specs.Store.{Reader}
use Rattle.store_survey.specs.Survey.{reader_number}

-- 0 is exactly 'read': the outcome is the payload
pub read_made : (most ℓ : ℕ) (b : List ℕ) → reader_number most ℓ b ≡ 0 → reader_of most b ℓ ≡ made (payload_of (blocks_in b) b)
unfolding reader_of
read_made most ℓ b z = outcome_made (given (read_rows most b ℓ [])) (payload_of (blocks_in b) b) z

-- neither 0 nor FFH is a letter
not_letter_0 : is_letter 0 ≡ false
unfolding is_letter
not_letter_0 = refl

not_letter_255 : is_letter 255 ≡ false
unfolding is_letter
not_letter_255 = refl

-- what the first block of a file that is read tells
record First (most ℓ : ℕ) (b : List ℕ) : Type 0 where
  counted : length b ≡ 512 * get_or b 2 0
  some : 0 < get_or b 2 0
  lettered : get_or b 0 0 ≡ ℓ
  letter : is_letter ℓ ≡ true

first : (most ℓ : ℕ) (b : List ℕ) → reader_number most ℓ b ≡ 0 → First most ℓ b
unfolding letter_wrong place_wrong
first most ℓ b z =
    let o = reader_lets most b ℓ (payload_of (blocks_in b) b) (read_made most ℓ b z) in
    let l = length_right most (length b) o.0 in
    let n = blocks_in b in
    let s : blocks_in b ≡ suc (blocks_in b - 1) = omega (arith, l.1) in
    let B = take 512 b in
    let r = (right (get_or b 0 0) 0 n B (blocks_rows (n - 1) (get_or b 0 0) (0 + 1) n (drop 512 b) []) (ap (λ (m : ℕ). given (blocks_rows m (get_or b 0 0) 0 n b [])) (sym s) ∙ o.1)).0 in
    let x = none_of_two (not (is_letter (get_or B 0 0))) (not (eqb (get_or B 0 0) (get_or b 0 0))) r.letter in
    let y = none_of_two (not (eqb (get_or B 1 0) 0)) (not (eqb (get_or B 2 0) n)) r.place in
    let k : get_or B 2 0 ≡ n = eqb-true _ _ (not-false _ y.1) in
    let c : get_or b 2 0 ≡ n = sym (get_or-take 512 b 2 0 (omega arith)) ∙ k in
    let e : get_or B 0 0 ≡ ℓ = get_or-take 512 b 0 0 (omega arith) ∙ o.2 in
    record {
      counted = omega (arith, l.0, c);
      some = omega (arith, l.1, c);
      lettered = o.2;
      letter = ap is_letter (sym e) ∙ not-false _ x.0;
    }

pub letter_of : (most ℓ : ℕ) (b : List ℕ) → reader_number most ℓ b ≡ 0 → is_letter ℓ ≡ true
letter_of most ℓ b z = (first most ℓ b z).letter

no_letter : (ℓ m : ℕ) → is_letter ℓ ≡ true → is_letter m ≡ false → ℓ ≡ m → ⊥
no_letter ℓ m p q e = let u : true ≡ false = sym p ∙ ap is_letter e ∙ q in let z : ◌≡◌ {A = ℕ} 0 1 = cc in omega arith

-- the reader of load files is a reader for the store, whatever the limit of blocks
pub file_reader : (most : ℕ) → Reader (reader_number most)
file_reader most =
    record {
      counted = λ (ℓ : ℕ) (b : List ℕ) (z : reader_number most ℓ b ≡ 0). (first most ℓ b z).counted;
      some = λ (ℓ : ℕ) (b : List ℕ) (z : reader_number most ℓ b ≡ 0). (first most ℓ b z).some;
      lettered = λ (ℓ : ℕ) (b : List ℕ) (z : reader_number most ℓ b ≡ 0). (first most ℓ b z).lettered;
      not_dead = λ (ℓ : ℕ) (b : List ℕ) (z : reader_number most ℓ b ≡ 0) (e : ℓ ≡ 0). no_letter ℓ 0 (first most ℓ b z).letter not_letter_0 e;
      not_blank = λ (ℓ : ℕ) (b : List ℕ) (z : reader_number most ℓ b ≡ 0) (e : ℓ ≡ 255). no_letter ℓ 255 (first most ℓ b z).letter not_letter_255 e;
    }

-- ---- the judgement as the number
pub sound_same : (most ℓ : ℕ) (f : List ℕ) → is_ok (answered_as (reader_of most f ℓ)) ≡ eqb (reader_number most ℓ f) 0
unfolding reader_of
sound_same most ℓ f = go (given (read_rows most f ℓ [])) (payload_of (blocks_in f) f) (eqb (given (read_rows most f ℓ [])) 0) refl
  where
    go : (n : ℕ) (p : List ℕ) (t : Bool) → eqb n 0 ≡ t → is_ok (answered_as (if eqb n 0 then made p else refused n)) ≡ eqb n 0
    go n p true q = simp q
    go n p false q = simp q
