-- Lengths: of a block, of the blocks of a payload, and of the payload of right blocks.
use mathlib.Core.Path.{◌≡◌, refl, sym, ◌∙◌, ap}
use mathlib.Core.List.{List, [], ◌∷◌, ◌++◌, append-nil}
use Prim.Native.Nat.{ℕ, zero, suc, ◌+◌, ◌*◌, ◌-◌, ◌≤◌, ◌<◌}
use native.Mathlib.Omega.{arith}
use lib.ListN.{length, take, drop, replicate, length-append, length-take, length-drop, length-replicate}
use lib.Seq.{take-nil, drop-drop, length-take-le, take_all, take-take, take-append-add, drop-append-add}
use Rattle.common.specs.Numbers.{given}
use Rattle.file_block.specs.Block.{used_of}
use Rattle.file_block.proofs.Tables.{right, used_last, used_other}
use Rattle.file_codec.specs.Layout.{head_of, front_of, block_written}
use Rattle.file_codec.specs.File.{blocks_of, blocks_rows, payload_of, places_of}

-- the front of a block has 510 bytes, a block 512
pub front_length : (ℓ i n : ℕ) (chunk : List ℕ) → length chunk ≤ 505 → length (front_of ℓ i n chunk) ≡ 510
front_length ℓ i n chunk h =
    let P = replicate {A = ℕ} (505 - length chunk) 255 in
    let a : length (chunk ++ P) ≡ length chunk + length P = length-append chunk P in
    let p : length P ≡ 505 - length chunk = length-replicate (505 - length chunk) 255 in
    length-append (head_of ℓ i n (length chunk)) (chunk ++ P) ∙ (let q : 5 + length (chunk ++ P) ≡ 510 = omega arith in q)

pub block_length : (ℓ i n : ℕ) (chunk : List ℕ) → length chunk ≤ 505 → length (block_written ℓ i n chunk) ≡ 512
unfolding block_written
block_length ℓ i n chunk h =
    let f : length (front_of ℓ i n chunk) ≡ 510 = front_length ℓ i n chunk h in
    length-append (front_of ℓ i n chunk) _ ∙ (let q : length (front_of ℓ i n chunk) + 2 ≡ 512 = omega arith in q)

-- no more than 505 bytes of a payload go into one block
pub chunk_length : (p : List ℕ) → length (take 505 p) ≤ 505
chunk_length p = simp length-take (omega arith)

pub blocks_length : (left ℓ i n : ℕ) (p : List ℕ) → length (blocks_of left ℓ i n p) ≡ 512 * left
blocks_length zero ℓ i n p = refl
blocks_length (suc left) ℓ i n p =
    let b : length (block_written ℓ i n (take 505 p)) ≡ 512 = block_length ℓ i n (take 505 p) (chunk_length p) in
    let r : length (blocks_of left ℓ (i + 1) n (drop 505 p)) ≡ 512 * left = blocks_length left ℓ (i + 1) n (drop 505 p) in
    length-append (block_written ℓ i n (take 505 p)) (blocks_of left ℓ (i + 1) n (drop 505 p))
    ∙ (let q : length (block_written ℓ i n (take 505 p)) + length (blocks_of left ℓ (i + 1) n (drop 505 p)) ≡ 512 * suc left = omega arith in q)

-- the payload places of so many blocks
pub places_length : (left : ℕ) (f : List ℕ) → length f ≡ 512 * left → length (places_of left f) ≡ 505 * left
places_length zero f e = refl
places_length (suc left) f e =
    let d : length (drop 512 f) ≡ 512 * left = length-drop 512 f ∙ (let q : length f - 512 ≡ 512 * left = omega arith in q) in
    let r : length (places_of left (drop 512 f)) ≡ 505 * left = places_length left (drop 512 f) d in
    let s : length (drop 5 f) ≡ length f - 5 = length-drop 5 f in
    let t : length (take 505 (drop 5 f)) ≡ 505 = length-take-le 505 (drop 5 f) (omega arith) in
    length-append (take 505 (drop 5 f)) (places_of left (drop 512 f))
    ∙ (let q : length (take 505 (drop 5 f)) + length (places_of left (drop 512 f)) ≡ 505 * suc left = omega arith in q)

pub places_from : (i left : ℕ) (f : List ℕ) → length f ≡ 512 * (i + left) → drop (505 * i) (places_of (i + left) f) ≡ places_of left (drop (512 * i) f)
places_from zero left f e = let z : 0 + left ≡ left = omega arith in ap (λ (k : ℕ). places_of k f) z
places_from (suc i) left f e =
    let z : suc i + left ≡ suc (i + left) = omega arith in
    let d : length (drop 512 f) ≡ 512 * (i + left) = length-drop 512 f ∙ (let q : length f - 512 ≡ 512 * (i + left) = omega arith in q) in
    let s : length (drop 5 f) ≡ length f - 5 = length-drop 5 f in
    let t : length (take 505 (drop 5 f)) ≡ 505 = length-take-le 505 (drop 5 f) (omega arith) in
    let a : 505 * suc i ≡ length (take 505 (drop 5 f)) + 505 * i = omega arith in
    let c : 512 + 512 * i ≡ 512 * suc i = omega arith in
    ap (λ (k : ℕ). drop (505 * suc i) (places_of k f)) z
    ∙ ap (λ (k : ℕ). drop k (take 505 (drop 5 f) ++ places_of (i + left) (drop 512 f))) a
    ∙ drop-append-add (take 505 (drop 5 f)) (places_of (i + left) (drop 512 f)) (505 * i)
    ∙ places_from i left (drop 512 f) d
    ∙ ap (places_of left) (drop-drop (512 * i) 512 f ∙ ap (λ (k : ℕ). drop k f) c)

-- a part of the front of a list
pub drop_take : (a b : ℕ) (xs : List ℕ) → drop a (take (a + b) xs) ≡ take b (drop a xs)
drop_take zero b xs = let z : 0 + b ≡ b = omega arith in ap (λ (k : ℕ). take k xs) z
drop_take (suc a) b [] = let z : suc a + b ≡ suc (a + b) = omega arith in ap (λ (k : ℕ). drop {A = ℕ} (suc a) (take k [])) z ∙ sym (take-nil b)
drop_take (suc a) b (x ∷ xs) = let z : suc a + b ≡ suc (a + b) = omega arith in ap (λ (k : ℕ). drop (suc a) (take k (x ∷ xs))) z ∙ drop_take a b xs

-- bytes that a block uses are bytes of its payload places
pub chunk_in : (f : List ℕ) (u : ℕ) → u ≤ 505 → take u (drop 5 (take 512 f)) ≡ take u (take 505 (drop 5 f))
chunk_in f u h = ap (take u) (drop_take 5 507 f) ∙ take-take u 507 (drop 5 f) (omega arith) ∙ sym (take-take u 505 (drop 5 f) h)

chunk_size : (f : List ℕ) (u : ℕ) → u ≤ 505 → 512 ≤ length f → length (take u (drop 5 (take 512 f))) ≡ u
chunk_size f u h k =
    let t : length (take 512 f) ≡ 512 = length-take-le 512 f k in
    let d : length (drop 5 (take 512 f)) ≡ length (take 512 f) - 5 = length-drop 5 (take 512 f) in
    length-take-le u (drop 5 (take 512 f)) (omega arith)

-- the size of the payload of right blocks, and where it stands: in the payload places, from the first on
pub record Sized (left : ℕ) (f : List ℕ) : Type 0 where
  pub size : length (payload_of left f) ≡ 505 * (left - 1) + used_of (take 512 (drop (512 * (left - 1)) f))
  pub most : length (payload_of left f) ≤ 505 * left
  pub least : 505 * left < length (payload_of left f) + 505
  pub placed : payload_of left f ≡ take (length (payload_of left f)) (places_of left f)

pub sized : (left first i n : ℕ) (f : List ℕ) → 0 < left → i + left ≡ n → length f ≡ 512 * left → given (blocks_rows left first i n f []) ≡ 0 → Sized left f
sized zero first i n f z e h g = absurd (omega arith)
sized (suc zero) first i n f z e h g =
    let B = take 512 f in
    let u = used_of B in
    let C = take u (drop 5 B) in
    let w = used_last i n B e (right first i n B [] g).0.used in
    let k : length C ≡ u = chunk_size f u w.1 (omega arith) in
    let a : C ++ [] ≡ C = append-nil C in
    let l : length (C ++ []) ≡ u = ap length a ∙ k in
    let T = take 505 (drop 5 f) in
    record {
      size = l ∙ (let q : u ≡ 0 + u = omega arith in q);
      most = omega arith;
      least = omega arith;
      placed = a ∙ chunk_in f u w.1 ∙ ap (λ (m : ℕ). take m T) (sym l) ∙ ap (take (length (C ++ []))) (sym (append-nil T));
    }
sized (suc (suc left)) first i n f z e h g =
    let B = take 512 f in
    let u = used_of B in
    let C = take u (drop 5 B) in
    let R = right first i n B (blocks_rows (suc left) first (i + 1) n (drop 512 f) []) g in
    let w : u ≡ 505 = used_other i n B (λ (q : i + 1 ≡ n). (omega arith)) R.0.used in
    let d : length (drop 512 f) ≡ 512 * suc left = length-drop 512 f ∙ (let q : length f - 512 ≡ 512 * suc left = omega arith in q) in
    let r = sized (suc left) first (i + 1) n (drop 512 f) (omega arith) (omega arith) d R.1 in
    let k : length C ≡ u = chunk_size f u (omega arith) (omega arith) in
    let P = payload_of (suc left) (drop 512 f) in
    let Q = places_of (suc left) (drop 512 f) in
    let T = take 505 (drop 5 f) in
    let lT : length T ≡ 505 = length-take-le 505 (drop 5 f) (let q : length (drop 5 f) ≡ length f - 5 = length-drop 5 f in omega arith) in
    let l : length (C ++ P) ≡ length C + length P = length-append C P in
    let s : 512 + 512 * (suc left - 1) ≡ 512 * (suc (suc left) - 1) = omega arith in
    let v : used_of (take 512 (drop (512 * (suc left - 1)) (drop 512 f))) ≡ used_of (take 512 (drop (512 * (suc (suc left) - 1)) f)) =
    ap (λ (x : List ℕ). used_of (take 512 x)) (drop-drop (512 * (suc left - 1)) 512 f ∙ ap (λ (m : ℕ). drop m f) s) in
    let ct : C ≡ T = chunk_in f u (omega arith) ∙ take_all u T (omega arith) in
    let m : length T + length P ≡ length (C ++ P) = omega arith in
    record {
      size = l ∙ (let q : length C + length P ≡ 505 * (suc (suc left) - 1) + used_of (take 512 (drop (512 * (suc (suc left) - 1)) f)) = omega (arith, r.size) in q);
      most = omega (arith, r.most);
      least = omega (arith, r.least);
      placed = ap (λ (x : List ℕ). C ++ x) r.placed ∙ ap (λ (x : List ℕ). x ++ take (length P) Q) ct ∙ sym (take-append-add T Q (length P)) ∙ ap (λ (x : ℕ). take x (T ++ Q)) m;
    }
