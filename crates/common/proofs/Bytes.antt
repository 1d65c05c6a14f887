-- What keeps a list of bytes one; and a list with a part laid over it, place by place.
use mathlib.Core.Path.{◌≡◌, refl, sym, ◌∙◌, subst}
use mathlib.Core.Bool.{Bool, true, false}
use mathlib.Core.List.{List, ◌++◌}
use Prim.Native.Nat.{ℕ, ◌+◌, ◌-◌, ◌≤◌, ◌<◌}
use native.Mathlib.Omega.{arith}
use lib.ListN.{length, get_or, take, drop, set, replicate, length-append, length-take, length-drop, length-replicate, get_or-replicate, get_or-append, get_or-eq_default}
use lib.Seq.{get_or-append-add, get_or-take, get_or-drop, get_or-set_same, get_or-set_other, length-take-le, set_out}
use lib.Dec.{ltb, eqb}
use borrow.Author.Tests.{ltb-true, ltb-false, eqb-true, eqb-false}
use Rattle.common.specs.Lists.{overlaid, Bytes}

pub bytes_append : (xs ys : List ℕ) → Bytes xs → Bytes ys → Bytes (xs ++ ys)
bytes_append xs ys p q i = go (ltb i (length xs)) refl
  where
    go : (b : Bool) → ltb i (length xs) ≡ b → get_or (xs ++ ys) i 0 < 256
    go true e = rw (get_or-append xs ys 0 i (ltb-true _ _ e)) (p i)
    go false e =
        let h : length xs ≤ i = ltb-false _ _ e in
        let k : i ≡ length xs + (i - length xs) = omega arith in
        subst (λ (j : ℕ). get_or (xs ++ ys) j 0 < 256) (sym k) (rw (get_or-append-add xs ys (i - length xs) 0) (q (i - length xs)))

pub bytes_take : (n : ℕ) (xs : List ℕ) → Bytes xs → Bytes (take n xs)
bytes_take n xs p i = go (ltb i n) refl
  where
    go : (b : Bool) → ltb i n ≡ b → get_or (take n xs) i 0 < 256
    go true e = rw (get_or-take n xs i 0 (ltb-true _ _ e)) (p i)
    go false e =
        let h : n ≤ i = ltb-false _ _ e in
        rw (get_or-eq_default (take n xs) 0 {n = i} (rw (length-take n xs) (omega arith))) (omega arith)

pub bytes_drop : (n : ℕ) (xs : List ℕ) → Bytes xs → Bytes (drop n xs)
bytes_drop n xs p i = rw (get_or-drop n xs i 0) (p (n + i))

pub bytes_replicate : (n b : ℕ) → b < 256 → Bytes (replicate n b)
bytes_replicate n b h i = go (ltb i n) refl
  where
    go : (t : Bool) → ltb i n ≡ t → get_or (replicate n b) i 0 < 256
    go true e = rw (get_or-replicate n i b 0 (ltb-true _ _ e)) h
    go false e = rw (get_or-eq_default (replicate n b) 0 {n = i} (rw (length-replicate n b) (ltb-false _ _ e))) (omega arith)

pub bytes_set : (xs : List ℕ) (a v : ℕ) → Bytes xs → v < 256 → Bytes (set xs a v)
bytes_set xs a v p h i = go (eqb i a) refl (ltb a (length xs)) refl
  where
    go : (b : Bool) → eqb i a ≡ b → (t : Bool) → ltb a (length xs) ≡ t → get_or (set xs a v) i 0 < 256
    go true e true l = subst (λ (j : ℕ). get_or (set xs a v) j 0 < 256) (sym (eqb-true i a e)) (rw (get_or-set_same xs a v 0 (ltb-true _ _ l)) h)
    go true e false l = rw (set_out xs a v (ltb-false _ _ l)) (p i)
    go false e t l = rw (get_or-set_other xs a i v 0 (eqb-false i a e)) (p i)

pub bytes_overlaid : (xs : List ℕ) (a : ℕ) (ys : List ℕ) → Bytes xs → Bytes ys → Bytes (overlaid xs a ys)
bytes_overlaid xs a ys p q =
    bytes_append (take a xs) (ys ++ drop (length ys) (drop a xs)) (bytes_take a xs p)
    (bytes_append ys (drop (length ys) (drop a xs)) q (bytes_drop (length ys) (drop a xs) (bytes_drop a xs p)))

-- a part laid over the list: its length, and what stands before, in and after the part
module _ (xs : List ℕ) (a : ℕ) (ys : List ℕ) (h : a + length ys ≤ length xs) where
  pub overlaid_length : length (overlaid xs a ys) ≡ length xs
  overlaid_length =
      rw (length-append (take a xs) (ys ++ drop (length ys) (drop a xs)), length-append ys (drop (length ys) (drop a xs)), length-drop (length ys) (drop a xs), length-drop a xs, length-take a xs)
      (omega arith)

  pub overlaid_before : (i : ℕ) → i < a → get_or (overlaid xs a ys) i 0 ≡ get_or xs i 0
  overlaid_before i l =
      get_or-append (take a xs) (ys ++ drop (length ys) (drop a xs)) 0 i (rw (length-take a xs) (omega arith)) ∙ get_or-take a xs i 0 l

  at : (i : ℕ) → get_or (overlaid xs a ys) (a + i) 0 ≡ get_or (ys ++ drop (length ys) (drop a xs)) i 0
  at i =
      subst (λ (n : ℕ). get_or (overlaid xs a ys) (n + i) 0 ≡ get_or (ys ++ drop (length ys) (drop a xs)) i 0) (length-take-le a xs (omega arith))
      (get_or-append-add (take a xs) (ys ++ drop (length ys) (drop a xs)) i 0)

  pub overlaid_in : (i : ℕ) → i < length ys → get_or (overlaid xs a ys) (a + i) 0 ≡ get_or ys i 0
  overlaid_in i l = at i ∙ get_or-append ys (drop (length ys) (drop a xs)) 0 i l

  pub overlaid_after : (i : ℕ) → get_or (overlaid xs a ys) (a + (length ys + i)) 0 ≡ get_or xs (a + (length ys + i)) 0
  overlaid_after i =
      at (length ys + i) ∙ get_or-append-add ys (drop (length ys) (drop a xs)) i 0 ∙ get_or-drop (length ys) (drop a xs) i 0 ∙ get_or-drop a xs (length ys + i) 0
