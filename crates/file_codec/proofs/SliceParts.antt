-- Parts of a slice that are written one behind the other, as laws about lists.
use mathlib.Core.Path.{◌≡◌, sym, ◌∙◌, ap}
use mathlib.Core.List.{List, ◌++◌, append_assoc, append-nil}
use Prim.Native.Nat.{ℕ, suc, ◌+◌, ◌*◌, ◌-◌, ◌≤◌, ◌<◌}
use native.Mathlib.Omega.{arith}
use lib.ListN.{length, take, drop, length-drop, drop_of_length-le}
use lib.Seq.{take_at, drop_at, drop-drop, take-add, take-append-le, length-take-le}
use borrow.Rule.Slice.PartMut.{put_mid, mid_of}
use Rattle.common.specs.Lists.{copied, overwritten}
use Rattle.file_codec.specs.File.{places_of}
use Rattle.file_codec.proofs.Sizes.{places_length, places_from}

-- a part that begins where A ends is written: A, what was written, and the rest
pub put_at : (A X Y : List ℕ) (a k : ℕ) → length A ≡ a → put_mid a k (A ++ X) Y ≡ (A ++ Y) ++ drop k X
put_at A X Y a k e =
    ap (λ (z : List ℕ). z ++ (Y ++ drop k (drop a (A ++ X)))) (take_at A X a e)
    ∙ ap (λ (z : List ℕ). A ++ (Y ++ drop k z)) (drop_at A X a e)
    ∙ sym (append_assoc A Y (drop k X))

-- the payload places from block i on begin with those of block i
places_at : (i n : ℕ) (f : List ℕ) → i < n → length f ≡ 512 * n
    → drop (505 * i) (places_of n f) ≡ take 505 (drop (512 * i + 5) f) ++ places_of (n - (i + 1)) (drop 512 (drop (512 * i) f))
places_at i n f h lf =
    let n₁ : n ≡ i + (n - i) = omega arith in
    let n₂ : n - i ≡ suc (n - (i + 1)) = omega arith in
    let F = drop (512 * i) f in
    ap (λ (k : ℕ). drop (505 * i) (places_of k f)) n₁
    ∙ places_from i (n - i) f (lf ∙ ap (λ (k : ℕ). 512 * k) n₁)
    ∙ ap (λ (k : ℕ). places_of k F) n₂
    ∙ ap (λ (z : List ℕ). take 505 z ++ places_of (n - (i + 1)) (drop 512 F)) (drop-drop 5 (512 * i) f)

-- the reader's walk: d payload bytes of block i are copied
pub unpacked : (i n d : ℕ) (f out y : List ℕ) → i < n → length f ≡ 512 * n → 505 * i + d ≤ length out → d ≤ 505 → length out ≤ 505 * n
    → y ≡ copied (mid_of (505 * i) d (overwritten (505 * i) (places_of n f) out)) (take 505 (drop (512 * i + 5) f))
    → put_mid (505 * i) d (overwritten (505 * i) (places_of n f) out) y ≡ overwritten (505 * i + d) (places_of n f) out
unpacked i n d f out y h lf lo k ls e =
    let a = 505 * i in
    let P = places_of n f in
    let O = overwritten a P out in
    let F = drop (512 * i) f in
    let S = take 505 (drop (512 * i + 5) f) in
    let R = places_of (n - (i + 1)) (drop 512 F) in
    let lA : length (take a P) ≡ a = length-take-le a P (let q : length P ≡ 505 * n = places_length n f lf in omega arith) in
    let lM : length (mid_of a d O) ≡ d = length-take-le d (drop a O) (let q : drop a O ≡ drop a out = drop_at (take a P) (drop a out) a lA in let r : length (drop a O) ≡ length out - a = ap length q ∙ length-drop a out in omega arith) in
    let lS : length S ≡ 505 = length-take-le 505 (drop (512 * i + 5) f) (let q : length (drop (512 * i + 5) f) ≡ length f - (512 * i + 5) = length-drop (512 * i + 5) f in omega arith) in
    let yS : y ≡ take d S =
    e ∙ ap (λ (z : List ℕ). take (length (mid_of a d O)) S ++ z) (drop_of_length-le (mid_of a d O) {i = length S} (omega arith))
    ∙ append-nil (take (length (mid_of a d O)) S) ∙ ap (λ (m : ℕ). take m S) lM in
    let yP : y ≡ take d (drop a P) = yS ∙ sym (take-append-le d S R (omega arith)) ∙ ap (take d) (sym (places_at i n f h lf)) in
    ap (put_mid a d O) yP
    ∙ put_at (take a P) (drop a out) (take d (drop a P)) a d lA
    ∙ ap (λ (z : List ℕ). z ++ drop d (drop a out)) (sym (take-add a d P))
    ∙ ap (λ (z : List ℕ). take (a + d) P ++ z) (drop-drop d a out)
