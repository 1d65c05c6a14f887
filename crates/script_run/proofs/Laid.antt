-- Lists laid over a list one behind the other, and a part put back.
use mathlib.Core.Path.{◌≡◌, sym, ap, ◌∙◌}
use mathlib.Core.List.{List, [], ◌++◌, append_assoc}
use Prim.Native.Nat.{ℕ, ◌+◌, ◌-◌, ◌≤◌}
use native.Mathlib.Omega.{arith}
use lib.ListN.{length, take, drop, length-append, take-append-drop}
use lib.Seq.{drop-drop, take_at, drop_at, length-take-le, take_all}
use borrow.Rule.Slice.PartMut.{put_mid, mid_of, mid_len}
use Rattle.common.specs.Lists.{copied, overlaid}
use Rattle.common.proofs.Lists.{copied_whole}

-- nothing laid over a list leaves it
pub laid_none : (xs : List ℕ) (a : ℕ) → overlaid xs a [] ≡ xs
laid_none xs a = take-append-drop a xs

-- ys laid over a list, and zs behind it, are both laid over it at once
pub laid_more : (xs ys zs : List ℕ) (a b : ℕ) → b ≡ a + length ys → b ≤ length xs → overlaid (overlaid xs a ys) b zs ≡ overlaid xs a (ys ++ zs)
laid_more xs ys zs a b e h =
    let A : List ℕ = take a xs in
    let D : List ℕ = drop a xs in
    let R : List ℕ = drop (length ys) D in
    let W : List ℕ = A ++ (ys ++ R) in
    let w : W ≡ (A ++ ys) ++ R = sym (append_assoc A ys R) in
    let l : length (A ++ ys) ≡ b = length-append A ys ∙ (let z : length A + length ys ≡ b = omega (arith, length-take-le a xs (omega arith)) in z) in
    let t : take b W ≡ A ++ ys = ap (λ (q : List ℕ). take b q) w ∙ take_at (A ++ ys) R b l in
    let d : drop b W ≡ R = ap (λ (q : List ℕ). drop b q) w ∙ drop_at (A ++ ys) R b l in
    let r : drop (length zs) R ≡ drop (length (ys ++ zs)) D = drop-drop (length zs) (length ys) D ∙ ap (λ (n : ℕ). drop n D) (sym (length-append ys zs)) in
    ap (λ (q : List ℕ). q ++ (zs ++ drop (length zs) (drop b W))) t
    ∙ ap (λ (q : List ℕ). (A ++ ys) ++ (zs ++ drop (length zs) q)) d
    ∙ append_assoc A ys (zs ++ drop (length zs) R)
    ∙ ap (λ (q : List ℕ). A ++ q) (sym (append_assoc ys zs (drop (length zs) R)))
    ∙ ap (λ (q : List ℕ). A ++ ((ys ++ zs) ++ q)) r

-- eight bytes copied over their part, and the part put back, are laid over the list
pub put_laid : (out ys zs : List ℕ) (a : ℕ) → length ys ≡ 8 → a + 8 ≤ length out → zs ≡ copied (mid_of a (a + 8 - a) out) ys → put_mid a (a + 8 - a) out zs ≡ overlaid out a ys
put_laid out ys zs a l h e =
    let k : a + 8 - a ≡ 8 = omega arith in
    let w : zs ≡ ys = e ∙ copied_whole (mid_of a (a + 8 - a) out) ys (mid_len a (a + 8) out h ∙ k ∙ sym l) in
    ap (λ (q : List ℕ). put_mid a (a + 8 - a) out q) w ∙ ap (λ (n : ℕ). take a out ++ (ys ++ drop n (drop a out))) (k ∙ sym l)

-- laid from the front on is copied
pub laid_front : (out ys : List ℕ) → length ys ≤ length out → overlaid out 0 ys ≡ copied out ys
laid_front out ys h = ap (λ (q : List ℕ). q ++ drop (length ys) out) (sym (take_all (length out) ys h))
