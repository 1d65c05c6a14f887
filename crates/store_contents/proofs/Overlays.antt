-- A file copied into a part of lent memory, and ones behind it.
use mathlib.Core.Path.{◌≡◌, sym, ◌∙◌, ap}
use mathlib.Core.List.{List, [], ◌++◌, append-nil, append_assoc}
use Prim.Native.Nat.{ℕ, ◌+◌, ◌-◌, ◌≤◌}
use native.Mathlib.Omega.{arith}
use lib.ListN.{length, get_or, take, drop, replicate, length-append, length-drop, take-append-drop, drop_of_length-le}
use lib.Seq.{take_at, length-take-le}
use borrow.Rule.Slice.PartMut.{put_mid, mid_of}
use Rattle.common.specs.Lists.{copied, overlaid}
use Rattle.common.proofs.Lists.{copied_whole}
use Rattle.common.proofs.Bytes.{overlaid_length}
use mathlib.Core.Bool.{true, false}
use Rattle.std.specs.Prelude.{if◌then◌else◌}
use Rattle.common.proofs.Choice.{if_true, if_false}
use Rattle.store_contents.specs.Inner.{goes_of, stay_of, behind_of}

-- nothing laid over a list leaves it
pub laid_none : (xs : List ℕ) (a : ℕ) → overlaid xs a [] ≡ xs
laid_none xs a = take-append-drop a xs

-- a copy over the part from a to a + length ys
pub put_laid : (xs ys zs : List ℕ) (a : ℕ) → a + length ys ≤ length xs → zs ≡ copied (mid_of a (a + length ys - a) xs) ys → put_mid a (a + length ys - a) xs zs ≡ overlaid xs a ys
put_laid xs ys zs a h e =
    let k : a + length ys - a ≡ length ys = omega arith in
    let d : length (drop a xs) ≡ length xs - a = length-drop a xs in
    let l : length (mid_of a (a + length ys - a) xs) ≡ length ys = length-take-le (a + length ys - a) (drop a xs) (omega arith) ∙ k in
    let z : zs ≡ ys = e ∙ copied_whole (mid_of a (a + length ys - a) xs) ys l in
    ap (λ (x : List ℕ). take a xs ++ (x ++ drop (a + length ys - a) (drop a xs))) z ∙ ap (λ (n : ℕ). take a xs ++ (ys ++ drop n (drop a xs))) k

-- the front as far as the part laid
pub take_laid : (xs ys : List ℕ) (a : ℕ) → a ≤ length xs → take (a + length ys) (overlaid xs a ys) ≡ take a xs ++ ys
take_laid xs ys a h =
    let t : length (take a xs) ≡ a = length-take-le a xs h in
    ap (take (a + length ys)) (sym (append_assoc (take a xs) ys (drop (length ys) (drop a xs))))
    ∙ take_at (take a xs ++ ys) (drop (length ys) (drop a xs)) (a + length ys) (length-append (take a xs) ys ∙ ap (λ (n : ℕ). n + length ys) t)

-- and ones behind it
pub behind : (xs ys mid zs : List ℕ) (a : ℕ) → a + length ys ≤ length xs → mid ≡ overlaid xs a ys
    → zs ≡ replicate (length (mid_of (a + length ys) (length mid - (a + length ys)) mid)) 255 → put_mid (a + length ys) (length mid - (a + length ys)) mid zs ≡ behind_of xs a ys
behind xs ys mid zs a h e g =
    let n = a + length ys in
    let l : length mid ≡ length xs = ap (λ (x : List ℕ). length x) e ∙ overlaid_length xs a ys h in
    let d : length (drop n mid) ≡ length mid - n = length-drop n mid in
    let m : length (mid_of n (length mid - n) mid) ≡ length xs - n = length-take-le (length mid - n) (drop n mid) (omega arith) ∙ ap (λ (x : ℕ). x - n) l in
    let o : drop (length mid - n) (drop n mid) ≡ [] = drop_of_length-le (drop n mid) {i = length mid - n} (omega arith) in
    let t : take n mid ≡ take a xs ++ ys = ap (take n) e ∙ take_laid xs ys a (omega arith) in
    ap (λ (x : List ℕ). take n mid ++ (zs ++ x)) o ∙ ap (λ (x : List ℕ). take n mid ++ x) (append-nil zs) ∙ ap (λ (x : List ℕ). x ++ zs) t
    ∙ ap (λ (x : List ℕ). (take a xs ++ ys) ++ x) (g ∙ ap (λ (k : ℕ). replicate {A = ℕ} k 255) m)
    ∙ append_assoc (take a xs) ys (replicate (length xs - n) 255)

-- an item that is left behind, and one that stays
pub left_behind : (ℓ x to : ℕ) (item memory : List ℕ) → x ≡ get_or item 0 0 → goes_of x ℓ ≡ true
    → (to ≡ to + length (stay_of ℓ item)) × (memory ≡ overlaid memory to (stay_of ℓ item))
unfolding stay_of
left_behind ℓ x to item memory e g =
    let s : (if goes_of (get_or item 0 0) ℓ then [] else item) ≡ [] = if_true (goes_of (get_or item 0 0) ℓ) [] item (ap (λ (y : ℕ). goes_of y ℓ) (sym e) ∙ g) in
    ((let z : to ≡ to + 0 = omega arith in z) ∙ ap (λ (y : List ℕ). to + length y) (sym s), sym (laid_none memory to) ∙ ap (overlaid memory to) (sym s))

pub kept_there : (ℓ x to : ℕ) (item memory zs : List ℕ) → x ≡ get_or item 0 0 → goes_of x ℓ ≡ false → to + length item ≤ length memory → zs ≡ copied (mid_of to (to + length item - to) memory) item
    → (to + length item ≡ to + length (stay_of ℓ item)) × (put_mid to (to + length item - to) memory zs ≡ overlaid memory to (stay_of ℓ item))
unfolding stay_of
kept_there ℓ x to item memory zs e g h q =
    let s : (if goes_of (get_or item 0 0) ℓ then [] else item) ≡ item = if_false (goes_of (get_or item 0 0) ℓ) [] item (ap (λ (y : ℕ). goes_of y ℓ) (sym e) ∙ g) in
    (ap (λ (y : List ℕ). to + length y) (sym s), put_laid memory item zs to h q ∙ ap (overlaid memory to) (sym s))
