-- Laws of a list that is copied, filled or laid over another, turn by turn.
use mathlib.Core.Path.{◌≡◌, refl, sym}
use mathlib.Core.List.{List, append-nil}
use Prim.Native.Nat.{ℕ, suc, ◌+◌, ◌≤◌, ◌<◌}
use native.Mathlib.Omega.{arith}
use Rattle.std.proofs.lemmas.Grind.{common_steps}
use native.Mathlib.Numerals.{add-one}
use mathlib.Core.Bool.{Bool, true, false}
use Prim.Native.Nat.{min}
use lib.Dec.{leb}
use borrow.Author.Tests.{leb-true, leb-false}
use lib.ListN.{drop_of_length-le, length, get_or, take, drop, set}
use lib.Seq.{take-length, take-suc, drop-cons, set_at, append_snoc, length-take-le, drop-length, take_all}
use Rattle.common.specs.Lists.{copied, overwritten}

-- one turn more of such a loop
pub overwritten_more : (zs xs : List ℕ) (i : ℕ) → i < length zs → i < length xs → set (overwritten i zs xs) i (get_or zs i 0) ≡ overwritten (i + 1) zs xs
overwritten_more zs xs i h k =
    rw (add-one i, take-suc zs i 0 h, drop-cons xs i 0 k, set_at (take i zs) (get_or xs i 0) (drop (suc i) xs) (get_or zs i 0) i (length-take-le i zs (omega arith)))
    (sym (append_snoc (take i zs) (get_or zs i 0) (drop (suc i) xs)))

-- such a loop has not met the place that it meets next
pub overwritten_here : (zs xs : List ℕ) (i : ℕ) → i < length zs → get_or (overwritten i zs xs) i 0 ≡ get_or xs i 0
overwritten_here zs xs i h = grind (arith, common_steps)

-- a loop that laid all of zs, which is as long as xs, leaves zs
pub overwritten_all : (zs xs : List ℕ) → length zs ≡ length xs → overwritten (length xs) zs xs ≡ zs
overwritten_all zs xs e = rw (drop-length xs, take_all (length xs) zs (omega arith)) (append-nil zs)

-- a whole copy over as many bytes is the source
pub copied_whole : (dst src : List ℕ) → length dst ≡ length src → copied dst src ≡ src
copied_whole dst src e = rw (← e) (overwritten_all src dst (sym e))

-- a loop that stops where the shorter of the two ends leaves a copy
pub copied_least : (dst src : List ℕ) → overwritten (min (length dst) (length src)) src dst ≡ copied dst src
copied_least dst src = go (leb (length dst) (length src)) refl
  where
    go : (b : Bool) → leb (length dst) (length src) ≡ b → overwritten (min (length dst) (length src)) src dst ≡ copied dst src
    go true e =
        let h : length dst ≤ length src = leb-true _ _ e in
        let m : min (length dst) (length src) ≡ length dst = omega arith in
        rw (m, drop-length dst, drop_of_length-le dst h) refl
    go false e =
        let h : length src < length dst = leb-false _ _ e in
        let m : min (length dst) (length src) ≡ length src = omega arith in
        rw (m, take-length src, take_all (length dst) src (omega arith)) refl
