-- Text laid behind text, as far as there is room.
use mathlib.Core.Path.{◌≡◌, refl, sym, ap, ap₂, ◌∙◌}
use mathlib.Core.Bool.{Bool, true, false}
use mathlib.Core.List.{List, [], ◌++◌, append_assoc, append-nil}
use Prim.Native.Nat.{ℕ, ◌+◌, ◌-◌, ◌≤◌, ◌<◌, min}
use native.Mathlib.Omega.{arith}
use lib.Dec.{leb}
use lib.ListN.{length, take, drop, length-append, length-take, length-drop, drop_of_length-le, take-append-drop}
use lib.Seq.{take_all, take-nil, drop-nil, drop-drop, take_at, drop_at, length-take-le, take-append-le, take-append-add}
use borrow.Author.Tests.{leb-true, leb-false}
use Rattle.common.specs.Lists.{copied}
use Rattle.text.specs.Writing.{laid_at, behind, Used}

-- nothing grows
copied_length : (D ys : List ℕ) → length (copied D ys) ≡ length D
copied_length D ys = length-append (take (length D) ys) (drop (length ys) D) ∙ (let p = length-take (length D) ys in let q = length-drop (length ys) D in let r : length (take (length D) ys) + length (drop (length ys) D) ≡ length D = omega (arith, p, q) in r)

pub laid_length : (xs : List ℕ) (a : ℕ) (ys : List ℕ) → length (laid_at xs a ys) ≡ length xs
laid_length xs a ys =
    let p = length-take a xs in
    let q = copied_length (drop a xs) ys in
    let r = length-drop a xs in
    length-append (take a xs) (copied (drop a xs) ys) ∙ (let s : length (take a xs) + length (copied (drop a xs) ys) ≡ length xs = omega (arith, p, q, r) in s)

-- at the end nothing is laid
laid_end : (xs : List ℕ) (p : ℕ) (zs : List ℕ) → length xs ≤ p → laid_at xs p zs ≡ xs
laid_end xs p zs h =
    ap₂ (λ (u v : List ℕ). u ++ copied v zs) (take_all p xs h) (drop_of_length-le xs {i = p} h)
    ∙ ap (λ (z : List ℕ). xs ++ z) (drop-nil (length zs))
    ∙ append-nil xs

-- one text behind another is both
pub laid_laid : (xs ys zs : List ℕ) (a : ℕ) → laid_at (laid_at xs a ys) (behind xs a ys) zs ≡ laid_at xs a (ys ++ zs)
laid_laid xs ys zs a = go (leb (a + length ys) (length xs)) refl
  where
    go : (b : Bool) → leb (a + length ys) (length xs) ≡ b → laid_at (laid_at xs a ys) (behind xs a ys) zs ≡ laid_at xs a (ys ++ zs)
    go true e =
        let h : a + length ys ≤ length xs = leb-true _ _ e in
        let A = take a xs in
        let D = drop a xs in
        let R = drop (length ys) D in
        let dl = length-drop a xs in
        let al : length A ≡ a = length-take-le a xs (omega (arith, h)) in
        let l : length (A ++ ys) ≡ a + length ys = length-append A ys ∙ ap (λ (n : ℕ). n + length ys) al in
        let p : behind xs a ys ≡ a + length ys = omega (arith, h) in
        let f : laid_at xs a ys ≡ (A ++ ys) ++ R = ap (λ (z : List ℕ). A ++ (z ++ R)) (take_all (length D) ys (omega (arith, h, dl))) ∙ sym (append_assoc A ys R) in
        let rl : length R ≡ length D - length ys = length-drop (length ys) D in
        let t : ys ++ take (length R) zs ≡ take (length D) (ys ++ zs) =
        sym (take-append-add ys zs (length R)) ∙ ap (λ (n : ℕ). take n (ys ++ zs)) (let q : length ys + length R ≡ length D = omega (arith, h, dl, rl) in q)
        in
        let d : drop (length zs) R ≡ drop (length (ys ++ zs)) D = drop-drop (length zs) (length ys) D ∙ ap (λ (n : ℕ). drop n D) (sym (length-append ys zs)) in
        ap₂ (λ (w : List ℕ) (n : ℕ). laid_at w n zs) f p
        ∙ ap₂ (λ (u v : List ℕ). u ++ copied v zs) (take_at (A ++ ys) R (a + length ys) l) (drop_at (A ++ ys) R (a + length ys) l)
        ∙ append_assoc A ys (copied R zs)
        ∙ ap (λ (z : List ℕ). A ++ z) (sym (append_assoc ys (take (length R) zs) (drop (length zs) R)) ∙ ap₂ (λ (u v : List ℕ). u ++ v) t d)
    go false e =
        let h : length xs < a + length ys = leb-false _ _ e in
        let D = drop a xs in
        let dl = length-drop a xs in
        let p : length (laid_at xs a ys) ≤ behind xs a ys = omega (arith, laid_length xs a ys, h) in
        let sl = length-append ys zs in
        let t : take (length D) ys ≡ take (length D) (ys ++ zs) = sym (take-append-le (length D) ys zs (omega (arith, h, dl))) in
        let d : drop (length ys) D ≡ drop (length (ys ++ zs)) D =
        drop_of_length-le D {i = length ys} (omega (arith, h, dl)) ∙ sym (drop_of_length-le D {i = length (ys ++ zs)} (omega (arith, h, dl, sl)))
        in
        laid_end (laid_at xs a ys) (behind xs a ys) zs p
        ∙ ap (λ (z : List ℕ). take a xs ++ z) (ap₂ (λ (u v : List ℕ). u ++ v) t d)

-- what stands from a place on, and the place behind it
pub record Laid (xs : List ℕ) (a : ℕ) (text now : List ℕ) (at : ℕ) : Type 0 where
  pub place : at ≡ behind xs a text
  pub bytes : now ≡ laid_at xs a text

pub laid_first : (xs text now : List ℕ) (a at : ℕ) → at ≡ behind xs a text → now ≡ laid_at xs a text → Laid xs a text now at
laid_first xs text now a at p q = record { place = p; bytes = q }

pub laid_more : (xs A B now next : List ℕ) (a at to : ℕ) → Laid xs a A now at → to ≡ behind now at B → next ≡ laid_at now at B → Laid xs a (A ++ B) next to
laid_more xs A B now next a at to f p q =
    let n : length now ≡ length xs = ap length f.bytes ∙ laid_length xs a A in
    let s = length-append A B in
    let e = f.place in
    record {
      place = (let r : to ≡ min (a + length (A ++ B)) (length xs) = omega (arith, p, n, s, e) in r);
      bytes = q ∙ ap₂ (λ (w : List ℕ) (k : ℕ). laid_at w k B) f.bytes e ∙ laid_laid xs A B a;
    }

-- nothing laid
pub laid_none : (xs : List ℕ) (a : ℕ) → a ≤ length xs → Laid xs a [] xs a
laid_none xs a h = record { place = (let r : a ≡ min (a + 0) (length xs) = omega (arith, h) in r); bytes = sym (sym-take xs a) }
  where
    sym-take : (ys : List ℕ) (k : ℕ) → laid_at ys k [] ≡ ys
    sym-take ys k = ap (λ (z : List ℕ). take k ys ++ (z ++ drop k ys)) (take-nil (length (drop k ys))) ∙ take-append-drop k ys

-- so many bytes of a slice
pub used : (r : ℕ) (xs : List ℕ) → r ≤ length xs → Used r xs
used r xs h = (h, sym (length-take-le r xs h))

-- where there is room, the text is whole
pub laid_whole : (xs text : List ℕ) → length text ≤ length xs → laid_at xs 0 text ≡ text ++ drop (length text) xs
laid_whole xs text h = ap (λ (z : List ℕ). z ++ drop (length text) xs) (take_all (length xs) text h)

-- what is used of a slice with a text in front
pub front_used : (xs text now : List ℕ) (r : ℕ) → r ≡ behind xs 0 text → now ≡ laid_at xs 0 text → Used r now
front_used xs text now r p q =
    let n : length now ≡ length xs = ap length q ∙ laid_length xs 0 text in
    used r now (omega (arith, p, n))
