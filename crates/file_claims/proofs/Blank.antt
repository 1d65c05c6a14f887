-- A blank block beside the reader that had no number for it, and blank files.
use mathlib.Core.Path.{◌≡◌, refl, sym, ◌∙◌, ap}
use mathlib.Core.List.{List, [], ◌∷◌}
use mathlib.Core.Bool.{Bool, true, false, not, ◌||◌}
use mathlib.Core.Logic.{◌↔◌}
use Prim.Native.Nat.{ℕ, zero, suc, ◌+◌, ◌*◌, ◌/◌, ◌-◌, ◌≤◌, ◌<◌}
use native.Mathlib.Omega.{arith}
use lib.ListN.{length, get_or, take, drop, replicate, length-replicate, replicate-append-replicate}
use lib.Seq.{take_at}
use lib.Dec.{eqb}
use borrow.Author.Tests.{eqb-true}
use Rattle.std.specs.Prelude.{if◌then◌else◌}
use Rattle.common.proofs.Choice.{if_true, if_false}
use Rattle.common.specs.Numbers.{Row, row, given}
use Rattle.file_check.specs.Check.{check_wrong, is_blank, is_damaged}
use Rattle.file_check.proofs.Verdicts.{blank_wrong}
use Rattle.file_block.specs.Block.{letter_wrong, place_wrong, used_wrong, padding_wrong, block_rows}
use Rattle.file_codec.specs.File.{Outcome, refused, made, outcome_by, length_wrong, blocks_in, blocks_rows, payload_of, reader_of}
use Rattle.file_codec.proofs.Outcomes.{length_fits, reader_block}
use Rattle.file_claims.specs.Before.{block_before, blocks_before, reader_before, told, told_before}

-- a row whose number is not 38 stays one
told_row : (t : Bool) (k x y : ℕ) → eqb k 38 ≡ false → told x ≡ y → told (if t then k else x) ≡ (if t then k else y)
told_row true k x y z e = if_false (eqb k 38) 31 k z
told_row false k x y z e = e

-- one block, with what is asked after it: a blank one was 31 by its check
block_told : (first i n : ℕ) (b : List ℕ) (after before : List Row) → told (given after) ≡ given before
    → told (given (block_rows first i n b after)) ≡ given (block_before first i n b before)
unfolding is_damaged
block_told first i n b after before e = go (is_blank b) refl
  where
    rest : told (given (row 32 (letter_wrong first b) ∷ row 33 (place_wrong i n b) ∷ row 34 (used_wrong i n b || padding_wrong b) ∷ after))
        ≡ given (row 32 (letter_wrong first b) ∷ row 33 (place_wrong i n b) ∷ row 34 (used_wrong i n b || padding_wrong b) ∷ before)
    rest = told_row (letter_wrong first b) 32 _ _ refl (told_row (place_wrong i n b) 33 _ _ refl (told_row (used_wrong i n b || padding_wrong b) 34 _ _ refl e))

    go : (t : Bool) → is_blank b ≡ t → told (given (block_rows first i n b after)) ≡ given (block_before first i n b before)
    go true q = ap told (if_true (is_blank b) 38 _ q) ∙ sym (if_true (check_wrong b) 31 _ (blank_wrong b q))
    go false q =
        ap told (if_false (is_blank b) 38 _ q)
        ∙ ap (λ (d : Bool). told (if d then 31 else given (row 32 (letter_wrong first b) ∷ row 33 (place_wrong i n b) ∷ row 34 (used_wrong i n b || padding_wrong b) ∷ after))) (if_false (is_blank b) false (check_wrong b) q)
        ∙ told_row (check_wrong b) 31 _ _ refl rest

blocks_told : (left first i n : ℕ) (f : List ℕ) (after : List Row) → told (given after) ≡ given after
    → told (given (blocks_rows left first i n f after)) ≡ given (blocks_before left first i n f after)
blocks_told zero first i n f after e = e
blocks_told (suc left) first i n f after e = block_told first i n (take 512 f) (blocks_rows left first (i + 1) n (drop 512 f) after) (blocks_before left first (i + 1) n (drop 512 f) after) (blocks_told left first (i + 1) n (drop 512 f) after e)

-- an outcome by a number, told as before
outcome_told : (n : ℕ) (p : List ℕ) → told_before (outcome_by n p) ≡ outcome_by (told n) p
outcome_told n p = go (eqb n 0) refl (eqb n 38) refl
  where
    go : (t : Bool) → eqb n 0 ≡ t → (u : Bool) → eqb n 38 ≡ u → told_before (outcome_by n p) ≡ outcome_by (told n) p
    go true q true r = absurd (let z : n ≡ 0 = eqb-true n 0 q in let y : n ≡ 38 = eqb-true n 38 r in omega arith)
    go true q false r = simp (q, r)
    go false q true r = simp (q, r)
    go false q false r = simp (q, r)

pub named_apart : (most : ℕ) (f : List ℕ) (asked : ℕ) → told_before (reader_of most f asked) ≡ reader_before most f asked
unfolding reader_of reader_before
named_apart most f asked =
    let asks = row 35 (not (eqb (get_or f 0 0) asked)) ∷ [] in
    let rest = blocks_rows (blocks_in f) (get_or f 0 0) 0 (blocks_in f) f asks in
    let same : told (given asks) ≡ given asks = told_row (not (eqb (get_or f 0 0) asked)) 35 0 0 refl refl in
    outcome_told (given (row 30 (length_wrong most (length f)) ∷ rest)) (payload_of (blocks_in f) f)
    ∙ ap (λ (n : ℕ). outcome_by n (payload_of (blocks_in f) f))
    (told_row (length_wrong most (length f)) 30 (given rest) _ refl (blocks_told (blocks_in f) (get_or f 0 0) 0 (blocks_in f) f asks same))

-- so 38 stands only where 31 stood, what was accepted is accepted, and every other refusal is the same
told_38 : (o : Outcome) → o ≡ refused 38 → told_before o ≡ refused 31
told_38 o e = ap told_before e

told_made : (o : Outcome) (p : List ℕ) → o ≡ made p ↔ (told_before o ≡ made p)
told_made (refused n) p = (λ e. absurd (let z : ◌≡◌ {A = ℕ} 0 1 = cc in omega arith), λ e. absurd (let z : ◌≡◌ {A = ℕ} 0 1 = cc in omega arith))
told_made (made q) p = (λ e. e, λ e. e)

told_other : (o : Outcome) (n : ℕ) → (n ≡ 31 → ⊥) → told_before o ≡ refused n → o ≡ refused n
told_other (made p) n z e = absurd (let x : ◌≡◌ {A = ℕ} 0 1 = cc in omega arith)
told_other (refused m) n z e = go (eqb m 38) refl
  where
    go : (t : Bool) → eqb m 38 ≡ t → refused m ≡ refused n
    go true q = let w : refused 31 ≡ refused n = ap refused (sym (if_true (eqb m 38) 31 m q)) ∙ e in absurd (z (let y : 31 ≡ n = cc in sym y))
    go false q = ap refused (sym (if_false (eqb m 38) 31 m q)) ∙ e

pub stood_31 : (most : ℕ) (f : List ℕ) (asked : ℕ) → reader_of most f asked ≡ refused 38 → reader_before most f asked ≡ refused 31
stood_31 most f asked e = sym (named_apart most f asked) ∙ told_38 _ e

pub accepted_still : (most : ℕ) (f : List ℕ) (asked : ℕ) (p : List ℕ) → reader_of most f asked ≡ made p ↔ (reader_before most f asked ≡ made p)
accepted_still most f asked p =
    let t = told_made (reader_of most f asked) p in
    (λ e. sym (named_apart most f asked) ∙ t.0 e, λ e. t.1 (named_apart most f asked ∙ e))

pub others_stay : (most : ℕ) (f : List ℕ) (asked n : ℕ) → (n ≡ 31 → ⊥) → reader_before most f asked ≡ refused n → reader_of most f asked ≡ refused n
others_stay most f asked n z e = told_other (reader_of most f asked) n z (named_apart most f asked ∙ e)

-- the first block of a blank file is blank
one_blank : is_blank (replicate {A = ℕ} 512 255) ≡ true
unfolding is_blank
one_blank = refl

front_blank : (n : ℕ) → is_blank (take 512 (replicate (512 * suc n) 255)) ≡ true
front_blank n =
    let s : 512 + 512 * n ≡ 512 * suc n = omega arith in
    ap (λ (k : ℕ). is_blank (take 512 (replicate k 255))) (sym s)
    ∙ ap (λ (xs : List ℕ). is_blank (take 512 xs)) (sym (replicate-append-replicate 512 (512 * n) 255))
    ∙ ap is_blank (take_at (replicate 512 255) (replicate (512 * n) 255) 512 refl)
    ∙ one_blank

pub blank_file : (most n asked : ℕ) → 0 < n → n ≤ most → reader_of most (replicate (512 * n) 255) asked ≡ refused 38
blank_file most zero asked z l = absurd (omega arith)
blank_file most (suc n) asked z l = reader_block most f asked (ap (length_wrong most) long ∙ length_fits most (suc n) z l) 38 (sym walk) (λ (q : 38 ≡ 0). (omega arith))
  where
    f : List ℕ
    f = replicate (512 * suc n) 255

    long : length f ≡ 512 * suc n
    long = length-replicate (512 * suc n) 255

    count : blocks_in f ≡ suc n
    count = ap (λ (k : ℕ). k / 512) long ∙ (let q : 512 * suc n / 512 ≡ suc n = omega arith in q)

    walk : given (blocks_rows (blocks_in f) (get_or f 0 0) 0 (blocks_in f) f []) ≡ 38
    walk = ap (λ (k : ℕ). given (blocks_rows k (get_or f 0 0) 0 (blocks_in f) f [])) count ∙ if_true (is_blank (take 512 f)) 38 _ (front_blank n)
