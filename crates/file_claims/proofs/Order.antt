-- The order of the refusals: each table against the outcome that it gives.
use mathlib.Core.Path.{◌≡◌, refl, sym, ◌∙◌, ap, subst}
use mathlib.Core.List.{List, [], ◌∷◌, ◌++◌, append_assoc}
use mathlib.Core.Bool.{Bool, true, false, not}
use Prim.Native.Nat.{ℕ}
use native.Mathlib.Omega.{arith}
use lib.ListN.{length, get_or}
use lib.Dec.{eqb, ltb}
use borrow.Author.Tests.{eqb-false, eq-eqb}
use Rattle.std.specs.Prelude.{if◌then◌else◌}
use Rattle.common.proofs.Choice.{if_true, if_false}
use Rattle.common.specs.Numbers.{Row, row, given, Foremost, here, below, NoRow, numbered}
use Rattle.common.proofs.Numbers.{foremost_given, no_row_given, given_foremost, given_no_row, given_append}
use Rattle.file_codec.specs.File.{refused, made, outcome_by, in_room, file_of, payload_of, blocks_in, length_wrong, write_rows, read_rows, blocks_rows, reader_of, writer_of}
use Rattle.file_claims.specs.Tabled.{Ordered}
use Rattle.file_codec.proofs.Tables.{blocks_append, blocks_numbered}
use Rattle.file_codec.proofs.Outcomes.{outcome_refused, outcome_made, outcome_lets}

-- a first row that holds has a number other than 0, where every row has
foremost_numbered : {rs : List Row} {n : ℕ} → numbered rs ≡ true → Foremost rs n → n ≡ 0 → ⊥
foremost_numbered m (here {r = r} {rs = rs} h) z = let w : false ≡ true = sym (if_true (eqb r.number 0) false (numbered rs) (eq-eqb r.number 0 z)) ∙ m in let q : ◌≡◌ {A = ℕ} 0 1 = cc in omega arith
foremost_numbered m (below {r = r} {rs = rs} h f) z = go (eqb r.number 0) refl (λ (t : numbered rs ≡ true). foremost_numbered t f z)
  where
    go : (t : Bool) → eqb r.number 0 ≡ t → (numbered rs ≡ true → ⊥) → ⊥
    go true q rest = let w : false ≡ true = sym (if_true (eqb r.number 0) false (numbered rs) q) ∙ m in let x : ◌≡◌ {A = ℕ} 0 1 = cc in omega arith
    go false q rest = rest (sym (if_false (eqb r.number 0) false (numbered rs) q) ∙ m)

refused_inv : (x : ℕ) (bytes : List ℕ) (n : ℕ) → outcome_by x bytes ≡ refused n → (x ≡ n) × (n ≡ 0 → ⊥)
refused_inv x bytes n e = go (eqb x 0) refl
  where
    go : (t : Bool) → eqb x 0 ≡ t → (x ≡ n) × (n ≡ 0 → ⊥)
    go true q = absurd (let w : made bytes ≡ refused n = sym (if_true (eqb x 0) (made bytes) (refused x) q) ∙ e in let z : ◌≡◌ {A = ℕ} 0 1 = cc in omega arith)
    go false q =
        let w : refused x ≡ refused n = sym (if_false (eqb x 0) (made bytes) (refused x) q) ∙ e in
        let y : x ≡ n = cc in
        (y, λ (z : n ≡ 0). eqb-false x 0 q (y ∙ z))

pub ordered : (rs : List Row) (bytes : List ℕ) → numbered rs ≡ true → Ordered rs bytes (outcome_by (given rs) bytes)
ordered rs bytes m =
    record {
      refuses = λ (n : ℕ). (
        λ (e : outcome_by (given rs) bytes ≡ refused n). given_foremost rs n (refused_inv (given rs) bytes n e).1 (refused_inv (given rs) bytes n e).0,
        λ (f : Foremost rs n). ap (λ (k : ℕ). outcome_by k bytes) (foremost_given f) ∙ outcome_refused n bytes (foremost_numbered m f),
      );
      lets = (
        λ (e : outcome_by (given rs) bytes ≡ made bytes). given_no_row rs m (outcome_lets (given rs) bytes bytes e).0,
        λ (f : NoRow rs). outcome_made (given rs) bytes (no_row_given f),
      );
    }

-- room is one more row, below all others
room_row : (rs : List Row) (bytes : List ℕ) (room : ℕ) → numbered rs ≡ true
    → in_room room (outcome_by (given rs) bytes) ≡ outcome_by (given (rs ++ (row 37 (ltb room (length bytes)) ∷ []))) bytes
room_row rs bytes room m =
    plain (given rs) (eqb (given rs) 0) refl (ltb room (length bytes)) refl
    ∙ ap (λ (k : ℕ). outcome_by k bytes) (sym (given_append rs (row 37 (ltb room (length bytes)) ∷ []) m))
  where
    plain : (G : ℕ) (t : Bool) → eqb G 0 ≡ t → (s : Bool) → ltb room (length bytes) ≡ s
        → in_room room (outcome_by G bytes) ≡ outcome_by (if eqb G 0 then (if ltb room (length bytes) then 37 else 0) else G) bytes
    plain G true q true p = simp (q, p)
    plain G true q false p = simp (q, p)
    plain G false q true p = simp (q, p)
    plain G false q false p = simp (q, p)

-- the writer: 32, 36, 37
pub writes_in_order : (most ℓ : ℕ) (p : List ℕ) (room : ℕ)
    → Ordered (write_rows most ℓ p (row 37 (ltb room (length (file_of ℓ p))) ∷ [])) (file_of ℓ p) (in_room room (writer_of most ℓ p))
unfolding writer_of
writes_in_order most ℓ p room =
    subst (Ordered (write_rows most ℓ p (row 37 (ltb room (length (file_of ℓ p))) ∷ [])) (file_of ℓ p))
    (sym (room_row (write_rows most ℓ p []) (file_of ℓ p) room refl))
    (ordered (write_rows most ℓ p (row 37 (ltb room (length (file_of ℓ p))) ∷ [])) (file_of ℓ p) refl)

-- no row of the reader has the number 0, and what is asked after its rows stands below them
pub read_numbered : (most : ℕ) (f : List ℕ) (asked : ℕ) (rest : List Row) → numbered rest ≡ true → numbered (read_rows most f asked rest) ≡ true
read_numbered most f asked rest m = blocks_numbered (blocks_in f) (get_or f 0 0) 0 (blocks_in f) f (row 35 (not (eqb (get_or f 0 0) asked)) ∷ rest) ∙ m

pub read_below : (most : ℕ) (f : List ℕ) (asked : ℕ) (above rest : List Row) → read_rows most f asked (above ++ rest) ≡ read_rows most f asked above ++ rest
read_below most f asked above rest =
    ap (λ (rs : List Row). row 30 (length_wrong most (length f)) ∷ rs)
    (blocks_append (blocks_in f) (get_or f 0 0) 0 (blocks_in f) f (Q ∷ (above ++ rest))
    ∙ sym (append_assoc (blocks_rows (blocks_in f) (get_or f 0 0) 0 (blocks_in f) f []) (Q ∷ above) rest)
    ∙ ap (λ (rs : List Row). rs ++ rest) (sym (blocks_append (blocks_in f) (get_or f 0 0) 0 (blocks_in f) f (Q ∷ above))))
  where
    Q : Row
    Q = row 35 (not (eqb (get_or f 0 0) asked))

-- the judgement: 30, then block by block 38 or else 31, then 32, 33, 34; then 35
pub judges_in_order : (most : ℕ) (f : List ℕ) (asked : ℕ) → Ordered (read_rows most f asked []) (payload_of (blocks_in f) f) (reader_of most f asked)
unfolding reader_of
judges_in_order most f asked = ordered (read_rows most f asked []) (payload_of (blocks_in f) f) (read_numbered most f asked [] refl)

-- the reader: those, then 37
pub reads_in_order : (most : ℕ) (f : List ℕ) (asked room : ℕ)
    → Ordered (read_rows most f asked (row 37 (ltb room (length (payload_of (blocks_in f) f))) ∷ [])) (payload_of (blocks_in f) f) (in_room room (reader_of most f asked))
unfolding reader_of
reads_in_order most f asked room =
    subst (Ordered (read_rows most f asked (row 37 (ltb room (length P)) ∷ [])) P)
    (sym
    (room_row (read_rows most f asked []) P room (read_numbered most f asked [] refl)
    ∙ ap (λ (rs : List Row). outcome_by (given rs) P) (sym (read_below most f asked [] (row 37 (ltb room (length P)) ∷ [])))))
    (ordered (read_rows most f asked (row 37 (ltb room (length P)) ∷ [])) P (read_numbered most f asked (row 37 (ltb room (length P)) ∷ []) refl))
  where
    P : List ℕ
    P = payload_of (blocks_in f) f
