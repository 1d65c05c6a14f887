-- Wanted as a load fills it.
use mathlib.Core.Path.{◌≡◌, refl, ap, ◌∙◌}
use mathlib.Core.List.{List, [], ◌++◌, append-nil}
use Prim.Native.Nat.{ℕ, ◌+◌, ◌-◌, ◌≤◌}
use native.Mathlib.Omega.{arith}
use lib.ListN.{length, take, drop, replicate, length-append, length-drop, length-replicate, drop_of_length-le}
use lib.Seq.{take_all, take_at, length-take-le}
use lib.Dec.{eqb}
use borrow.Author.Tests.{eq-eqb, ne_eqb}
use borrow.Rule.Slice.PartMut.{put_mid, mid_of}
use Rattle.common.proofs.Choice.{if_true, if_false}
use Rattle.common.specs.Lists.{copied}
use Rattle.loader_from_file.specs.Loads.{wanted_of, wanted_by}

-- the file copied over the front, then ones to the end
pub filled : (f w mid z : List ℕ) → length f ≤ length w → mid ≡ copied w f → z ≡ replicate (length (mid_of (length f) (length mid - length f) mid)) 255
    → put_mid (length f) (length mid - length f) mid z ≡ wanted_of f (length w)
filled f w mid z h e g =
    let k : ℕ = length mid - length f in
    let m : mid ≡ f ++ drop (length f) w = e ∙ ap (λ (x : List ℕ). x ++ drop (length f) w) (take_all (length w) f h) in
    let lm : length mid ≡ length w = ap (λ (x : List ℕ). length x) m ∙ length-append f (drop (length f) w) ∙ (let q = length-drop (length f) w in omega arith) in
    let t : take (length f) mid ≡ f = ap (λ (x : List ℕ). take (length f) x) m ∙ take_at f (drop (length f) w) (length f) refl in
    let ld : length (drop (length f) mid) ≡ k = length-drop (length f) mid in
    let n : length (mid_of (length f) k mid) ≡ length w - length f = length-take-le k (drop (length f) mid) (omega arith) ∙ ap (λ (x : ℕ). x - length f) lm in
    let o : drop k (drop (length f) mid) ≡ [] = drop_of_length-le (drop (length f) mid) {i = k} (omega arith) in
    ap (λ (x : List ℕ). take (length f) mid ++ (z ++ x)) o ∙ ap (λ (x : List ℕ). take (length f) mid ++ x) (append-nil z) ∙ ap (λ (x : List ℕ). x ++ z) t
    ∙ ap (λ (x : List ℕ). f ++ x) (g ∙ ap (λ (x : ℕ). replicate x 255) n)

-- it is as long as the block
pub wanted_length : (f : List ℕ) (n : ℕ) → length f ≤ n → length (wanted_of f n) ≡ n
wanted_length f n h = length-append f (replicate (n - length f) 255) ∙ ap (λ (k : ℕ). length f + k) (length-replicate {A = ℕ} (n - length f) 255) ∙ (let q : length f + (n - length f) ≡ n = omega arith in q)

-- filled after the number 0, and left by every other
pub wanted_filled : (n : ℕ) (f w : List ℕ) → n ≡ 0 → wanted_by n f w ≡ wanted_of f (length w)
unfolding wanted_by
wanted_filled n f w z = if_true (eqb n 0) (wanted_of f (length w)) w (eq-eqb n 0 z)

pub wanted_stays : (n : ℕ) (f w : List ℕ) → (n ≡ 0 → ⊥) → wanted_by n f w ≡ w
unfolding wanted_by
wanted_stays n f w z = if_false (eqb n 0) (wanted_of f (length w)) w (ne_eqb n 0 z)
