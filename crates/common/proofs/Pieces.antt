-- A loop that lays a list over another piece by piece.
use mathlib.Core.Path.{◌≡◌, sym, ap, ◌∙◌}
use mathlib.Core.List.{List, ◌++◌, append_assoc}
use Prim.Native.Nat.{ℕ, ◌+◌, ◌-◌, ◌≤◌}
use native.Mathlib.Omega.{arith}
use lib.ListN.{length, take, drop}
use lib.Seq.{take_at, drop_at, drop-drop, take-add, length-take-le}
use borrow.Rule.Slice.PartMut.{put_mid, mid_of}
use Rattle.common.specs.Lists.{overwritten}

-- the places a to e are laid next, where all before a are laid
pub overwritten_piece : (zs xs : List ℕ) (a e : ℕ) → a ≤ e → e ≤ length zs → put_mid a (e - a) (overwritten a zs xs) (mid_of a (e - a) zs) ≡ overwritten e zs xs
overwritten_piece zs xs a e h l =
    let k = e - a in
    let Y = mid_of a k zs in
    let w : a + k ≡ e = omega arith in
    let t : length (take a zs) ≡ a = length-take-le a zs (omega arith) in
    ap (λ (z : List ℕ). z ++ (Y ++ drop k (drop a (overwritten a zs xs)))) (take_at (take a zs) (drop a xs) a t)
    ∙ ap (λ (z : List ℕ). take a zs ++ (Y ++ drop k z)) (drop_at (take a zs) (drop a xs) a t)
    ∙ sym (append_assoc (take a zs) Y (drop k (drop a xs)))
    ∙ ap (λ (z : List ℕ). z ++ drop k (drop a xs)) (sym (take-add a k zs))
    ∙ ap (λ (z : List ℕ). take (a + k) zs ++ z) (drop-drop k a xs)
    ∙ ap (λ (n : ℕ). overwritten n zs xs) w
