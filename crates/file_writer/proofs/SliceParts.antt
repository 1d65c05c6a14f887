-- Parts of a room that are written one behind the other, as laws about lists.
use mathlib.Core.Path.{◌≡◌, refl, sym, ◌∙◌, ap}
use mathlib.Core.List.{List, [], ◌++◌, append_assoc, append-nil}
use Prim.Native.Nat.{ℕ, suc, ◌+◌, ◌*◌, ◌-◌, ◌≤◌, ◌<◌, min}
use native.Mathlib.Omega.{arith}
use lib.ListN.{length, take, drop, replicate, length-append, length-drop, length-replicate, drop_of_length-le, take-append-drop}
use lib.Seq.{take_at, drop_at, drop-drop, take_all, drop-append-add, length-take-le}
use mathlib.Core.Bool.{Bool, true, false}
use lib.Dec.{leb}
use borrow.Author.Tests.{leb-true, leb-false}
use borrow.Rule.Slice.PartMut.{put_mid, mid_of, mid_len}
use Rattle.common.specs.Lists.{copied}
use Rattle.common.proofs.Lists.{copied_whole}
use Rattle.file_codec.specs.Layout.{head_of, front_of, sealed, block_written}
use Rattle.file_codec.specs.File.{blocks_of}
use Rattle.file_codec.proofs.Sizes.{block_length, chunk_length}
use Rattle.file_codec.proofs.SliceParts.{put_at}

-- the head, u bytes of payload, the padding and the check are 512 bytes
block_end : (u : ℕ) → u ≤ 505 → 5 + (5 + u - 5 + (510 - (5 + u) + 2)) ≡ 512
block_end u h = omega arith

-- a block is put together: its head, its payload and FFH laid one behind the other, then sealed; what lies behind it stays
pub block_put : (ℓ i n : ℕ) (chunk out o₁ y₁ y₂ : List ℕ) → 512 ≤ length out → length chunk ≤ 505
    → o₁ ≡ head_of ℓ i n (length chunk) ++ drop 5 out
    → y₁ ≡ copied (mid_of 5 (5 + length chunk - 5) o₁) chunk
    → y₂ ≡ replicate (length (mid_of (5 + length chunk) (510 - (5 + length chunk)) (put_mid 5 (5 + length chunk - 5) o₁ y₁))) 255
    → sealed (take 510 (put_mid (5 + length chunk) (510 - (5 + length chunk)) (put_mid 5 (5 + length chunk - 5) o₁ y₁) y₂))
    ++ drop 512 (put_mid (5 + length chunk) (510 - (5 + length chunk)) (put_mid 5 (5 + length chunk - 5) o₁ y₁) y₂)
    ≡ block_written ℓ i n chunk ++ drop 512 out
unfolding block_written
block_put ℓ i n chunk out o₁ y₁ y₂ h k e₁ e₂ e₃ =
    let u = length chunk in
    let H = head_of ℓ i n u in
    let X = drop (5 + u - 5) (drop 5 out) in
    let d₅ : length (drop 5 out) ≡ length out - 5 = length-drop 5 out in
    let l₁ : length o₁ ≡ length out = ap length e₁ ∙ length-append H (drop 5 out) ∙ (let q : 5 + length (drop 5 out) ≡ length out = omega arith in q) in
    let m₁ : length (mid_of 5 (5 + u - 5) o₁) ≡ 5 + u - 5 = mid_len 5 (5 + u) o₁ (omega arith) in
    let c₁ : y₁ ≡ chunk = e₂ ∙ copied_whole (mid_of 5 (5 + u - 5) o₁) chunk (omega arith) in
    let o₂ : put_mid 5 (5 + u - 5) o₁ y₁ ≡ (H ++ chunk) ++ X =
    ap (λ (z : List ℕ). put_mid 5 (5 + u - 5) z y₁) e₁
    ∙ ap (λ (z : List ℕ). put_mid 5 (5 + u - 5) (H ++ drop 5 out) z) c₁
    ∙ put_at H (drop 5 out) chunk 5 (5 + u - 5) refl in
    let l_x : length X ≡ length out - 5 - u = length-drop (5 + u - 5) (drop 5 out) ∙ (let q : length (drop 5 out) - (5 + u - 5) ≡ length out - 5 - u = omega arith in q) in
    let lA : length (H ++ chunk) ≡ 5 + u = length-append H chunk in
    let l₂ : length ((H ++ chunk) ++ X) ≡ length out = length-append (H ++ chunk) X ∙ (let q : length (H ++ chunk) + length X ≡ length out = omega arith in q) in
    let m₂ : length (mid_of (5 + u) (510 - (5 + u)) ((H ++ chunk) ++ X)) ≡ 510 - (5 + u) = mid_len (5 + u) 510 ((H ++ chunk) ++ X) (omega arith) in
    let w : 510 - (5 + u) ≡ 505 - u = omega arith in
    let P = replicate {A = ℕ} (505 - u) 255 in
    let c₂ : y₂ ≡ P =
    e₃ ∙ ap (λ (z : List ℕ). replicate {A = ℕ} (length (mid_of (5 + u) (510 - (5 + u)) z)) 255) o₂ ∙ ap (λ (z : ℕ). replicate {A = ℕ} z 255) (m₂ ∙ w) in
    let O = put_mid (5 + u) (510 - (5 + u)) (put_mid 5 (5 + u - 5) o₁ y₁) y₂ in
    let Z = drop (510 - (5 + u)) X in
    let o₃ : O ≡ ((H ++ chunk) ++ P) ++ Z =
    ap (λ (z : List ℕ). put_mid (5 + u) (510 - (5 + u)) z y₂) o₂
    ∙ ap (λ (z : List ℕ). put_mid (5 + u) (510 - (5 + u)) ((H ++ chunk) ++ X) z) c₂
    ∙ put_at (H ++ chunk) X P (5 + u) (510 - (5 + u)) lA in
    let lP : length P ≡ 505 - u = length-replicate (505 - u) 255 in
    let l₃ : length ((H ++ chunk) ++ P) ≡ 510 = length-append (H ++ chunk) P ∙ (let q : length (H ++ chunk) + length P ≡ 510 = omega arith in q) in
    let t : take 510 O ≡ front_of ℓ i n chunk = ap (take 510) o₃ ∙ take_at ((H ++ chunk) ++ P) Z 510 l₃ ∙ append_assoc H chunk P in
    let s : 512 ≡ length ((H ++ chunk) ++ P) + 2 = sym (ap (λ (m : ℕ). m + 2) l₃) in
    let r : drop 512 O ≡ drop 512 out =
    ap (drop 512) o₃
    ∙ ap (λ (m : ℕ). drop m (((H ++ chunk) ++ P) ++ Z)) s
    ∙ drop-append-add ((H ++ chunk) ++ P) Z 2
    ∙ drop-drop 2 (510 - (5 + u)) X
    ∙ drop-drop (510 - (5 + u) + 2) (5 + u - 5) (drop 5 out)
    ∙ drop-drop (5 + u - 5 + (510 - (5 + u) + 2)) 5 out
    ∙ ap (λ (m : ℕ). drop m out) (block_end u k) in
    ap (λ (z : List ℕ). sealed z ++ drop 512 O) t ∙ ap (λ (z : List ℕ). sealed (front_of ℓ i n chunk) ++ z) r

-- k bytes from place a on, cut where the list ends
up_to : (a k : ℕ) (xs : List ℕ) → take (min (a + k) (length xs) - a) (drop a xs) ≡ take k (drop a xs)
up_to a k xs = go (leb (a + k) (length xs)) refl
  where
    go : (t : Bool) → leb (a + k) (length xs) ≡ t → take (min (a + k) (length xs) - a) (drop a xs) ≡ take k (drop a xs)
    go true e =
        let h : a + k ≤ length xs = leb-true _ _ e in
        let m : min (a + k) (length xs) - a ≡ k = omega arith in
        ap (λ (z : ℕ). take z (drop a xs)) m
    go false e =
        let h : length xs < a + k = leb-false _ _ e in
        let l : length (drop a xs) ≡ length xs - a = length-drop a xs in
        let n : length (drop a xs) ≤ min (a + k) (length xs) - a = omega arith in
        take_all (min (a + k) (length xs) - a) (drop a xs) n ∙ sym (take_all k (drop a xs) (omega arith))

-- the writer's walk, at block i of a room out: the block, and behind it what was there
module _ (ℓ i n e : ℕ) (p out y : List ℕ) (h : i < n) (lo : 512 * n ≤ length out) (e₁ : e ≡ min (505 * i + 505) (length p))
    (e₂ : y ≡ block_written ℓ i n (take (e - 505 * i) (drop (505 * i) p)) ++ drop 512 (mid_of (512 * i) (length out - 512 * i) out)) where
  abbrev chunk : List ℕ
  chunk = take 505 (drop (505 * i) p)

  abbrev rest : List ℕ
  rest = drop (512 * (i + 1)) out

  -- the room with block i put
  put : put_mid (512 * i) (length out - 512 * i) out y ≡ (take (512 * i) out ++ block_written ℓ i n chunk) ++ rest
  put =
      let A = take (512 * i) out in
      let B = block_written ℓ i n chunk in
      let k = length out - 512 * i in
      let lD : length (drop (512 * i) out) ≡ k = length-drop (512 * i) out in
      let d : 512 * i + 512 ≡ 512 * (i + 1) = omega arith in
      let x : drop k (drop (512 * i) out) ≡ [] = drop_of_length-le (drop (512 * i) out) {i = k} (omega arith) in
      let m : mid_of (512 * i) k out ≡ drop (512 * i) out = take_all k (drop (512 * i) out) (omega arith) in
      let r : drop 512 (mid_of (512 * i) k out) ≡ rest = ap (drop 512) m ∙ drop-drop 512 (512 * i) out ∙ ap (λ (j : ℕ). drop j out) d in
      let b : block_written ℓ i n (take (e - 505 * i) (drop (505 * i) p)) ≡ B =
      ap (λ (j : ℕ). block_written ℓ i n (take (j - 505 * i) (drop (505 * i) p))) e₁ ∙ ap (block_written ℓ i n) (up_to (505 * i) 505 p) in
      let yc : y ≡ B ++ rest = e₂ ∙ ap (λ (z : List ℕ). z ++ drop 512 (mid_of (512 * i) k out)) b ∙ ap (λ (z : List ℕ). B ++ z) r in
      ap (λ (z : List ℕ). A ++ (y ++ z)) x ∙ ap (λ (z : List ℕ). A ++ z) (append-nil y ∙ yc) ∙ sym (append_assoc A B rest)

  put_length : length (take (512 * i) out ++ block_written ℓ i n chunk) ≡ 512 * (i + 1)
  put_length =
      let A = take (512 * i) out in
      let B = block_written ℓ i n chunk in
      let lA : length A ≡ 512 * i = length-take-le (512 * i) out (omega arith) in
      let lB : length B ≡ 512 = block_length ℓ i n chunk (chunk_length (drop (505 * i) p)) in
      length-append A B ∙ (let q : length A + length B ≡ 512 * (i + 1) = omega arith in q)

  -- block i more is written, and one block less is left to write
  pub packed : take (512 * (i + 1)) (put_mid (512 * i) (length out - 512 * i) out y) ++ blocks_of (n - (i + 1)) ℓ (i + 1) n (drop (505 * (i + 1)) p)
      ≡ take (512 * i) out ++ blocks_of (n - i) ℓ i n (drop (505 * i) p)
  packed =
      let A = take (512 * i) out in
      let B = block_written ℓ i n chunk in
      let more = blocks_of (n - (i + 1)) ℓ (i + 1) n (drop (505 * (i + 1)) p) in
      let t : take (512 * (i + 1)) (put_mid (512 * i) (length out - 512 * i) out y) ≡ A ++ B = ap (take (512 * (i + 1))) put ∙ take_at (A ++ B) rest (512 * (i + 1)) put_length in
      let k : n - i ≡ suc (n - (i + 1)) = omega arith in
      let d : 505 * i + 505 ≡ 505 * (i + 1) = omega arith in
      let b : blocks_of (n - i) ℓ i n (drop (505 * i) p) ≡ B ++ more =
      ap (λ (z : ℕ). blocks_of z ℓ i n (drop (505 * i) p)) k
      ∙ ap (λ (z : List ℕ). B ++ blocks_of (n - (i + 1)) ℓ (i + 1) n z) (drop-drop 505 (505 * i) p ∙ ap (λ (m : ℕ). drop m p) d) in
      ap (λ (z : List ℕ). z ++ more) t ∙ append_assoc A B more ∙ ap (λ (z : List ℕ). A ++ z) (sym b)

  -- and what lies behind it is as it was
  pub behind : drop (512 * (i + 1)) (put_mid (512 * i) (length out - 512 * i) out y) ≡ drop (512 * (i + 1)) out
  behind = ap (drop (512 * (i + 1))) put ∙ drop_at (take (512 * i) out ++ block_written ℓ i n chunk) rest (512 * (i + 1)) put_length

-- lists that agree from block i on agree from the next block on
pub further : (i : ℕ) (xs ys : List ℕ) → drop (512 * i) xs ≡ drop (512 * i) ys → drop (512 * (i + 1)) xs ≡ drop (512 * (i + 1)) ys
further i xs ys e =
    let d : 512 * i + 512 ≡ 512 * (i + 1) = omega arith in
    let step : (zs : List ℕ) → drop 512 (drop (512 * i) zs) ≡ drop (512 * (i + 1)) zs = λ (zs : List ℕ). drop-drop 512 (512 * i) zs ∙ ap (λ (j : ℕ). drop j zs) d in
    sym (step xs) ∙ ap (drop 512) e ∙ step ys

-- the walk at its end: all blocks, and behind them what was there
pub all_packed : (ℓ i n : ℕ) (p xs out whole : List ℕ) → i ≤ n → n ≤ i → take (512 * i) xs ++ blocks_of (n - i) ℓ i n (drop (505 * i) p) ≡ whole → drop (512 * i) xs ≡ drop (512 * i) out
    → xs ≡ whole ++ drop (512 * n) out
all_packed ℓ i n p xs out whole h g e d =
    let z : n - i ≡ 0 = omega arith in
    let w : 512 * i ≡ 512 * n = omega arith in
    let t : take (512 * i) xs ≡ whole =
    sym (append-nil (take (512 * i) xs)) ∙ sym (ap (λ (k : ℕ). take (512 * i) xs ++ blocks_of k ℓ i n (drop (505 * i) p)) z) ∙ e in
    sym (take-append-drop (512 * i) xs) ∙ ap (λ (x : List ℕ). x ++ drop (512 * i) xs) t ∙ ap (λ (x : List ℕ). whole ++ x) (d ∙ ap (λ (k : ℕ). drop k out) w)
