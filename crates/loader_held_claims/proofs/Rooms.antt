-- What stands in other blocks, the room after any interruptions, and what they cost.
use mathlib.Core.Path.{◌≡◌, refl, sym, ap, ◌∙◌, subst}
use mathlib.Core.Bool.{Bool, true, false, ◌||◌}
use mathlib.Core.List.{List, [], ◌∷◌, ◌++◌}
use Prim.Native.Nat.{ℕ, zero, suc, ◌+◌, ◌-◌, ◌*◌, ◌≤◌, ◌<◌}
use native.Mathlib.Nat.{one-mul, add-mul}
use native.Mathlib.Omega.{arith}
use lib.ListN.{length, get_or, take, drop, replicate, length-replicate, get_or-replicate, get_or-eq_default}
use lib.Seq.{drop_at, length-take-le}
use lib.Dec.{eqb, ltb}
use borrow.Author.Tests.{ltb-true, ltb-false, eq-eqb}
use Rattle.std.specs.Prelude.{if◌then◌else◌}
use Rattle.common.proofs.Choice.{unlike, or_left, or_right}
use Rattle.common.specs.Lists.{overlaid}
use Rattle.common.proofs.Bytes.{overlaid_before, overlaid_after}
use Rattle.device.specs.declared.Device.{Device}
use Rattle.device.specs.declared.Part.{Part}
use Rattle.device.specs.Parts.{length_of, start_of, block_of}
use Rattle.device.proofs.Claims.{blocks_apart}
use Rattle.model_types.specs.Cells.{ones, Cells}
use Rattle.loader_held.specs.Holds.{listed}
use Rattle.loader_held_claims.specs.HeldMade.{Elsewhere, read_at, filled_by, room_over, polls_cost, waits_of, is_last, interrupts, interruptions, added_at, added_in}
use Rattle.loader_held_claims.proofs.Interrupting.{read_length}

pub cells_blank : (part : Part) (n : ℕ) → Cells part (replicate n (ones part))
cells_blank part n i = go (ltb i n) refl
  where
    go : (t : Bool) → ltb i n ≡ t → get_or (replicate n (ones part)) i 0 ≤ ones part
    go true e = rw (get_or-replicate n i (ones part) 0 (ltb-true i n e)) (omega arith)
    go false e =
        let h : n ≤ i = ltb-false i n e in
        rw (get_or-eq_default (replicate n (ones part)) 0 {n = i} (rw (length-replicate n (ones part)) h)) (omega arith)

-- two arrays that differ in block k alone are the same elsewhere
in_block : (d : Device) (k b : ℕ) → start_of d.part k ≤ b → b < start_of d.part k + length_of d.part k → block_of d.part b ≡ k
unfolding start_of length_of
in_block d k b h g = blocks_apart d.part k b (record { from = h; to = g })

module _ (d : Device) (k : ℕ) (xs ys zs : List ℕ) (ly : length ys ≡ length_of d.part k) (lz : length zs ≡ length_of d.part k) (fits : start_of d.part k + length_of d.part k ≤ length xs) where
  abbrev a : ℕ
  a = start_of d.part k

  one_same : (b : ℕ) → eqb (block_of d.part b) k ≡ false → get_or (overlaid xs a zs) b 0 ≡ get_or (overlaid xs a ys) b 0
  one_same b o = go (ltb b a) refl (ltb b (a + length_of d.part k)) refl
    where
      go : (t : Bool) → ltb b a ≡ t → (v : Bool) → ltb b (a + length_of d.part k) ≡ v → get_or (overlaid xs a zs) b 0 ≡ get_or (overlaid xs a ys) b 0
      go true e v f = overlaid_before xs a zs (omega arith) b (ltb-true b a e) ∙ sym (overlaid_before xs a ys (omega arith) b (ltb-true b a e))
      go false e true f = absurd (unlike (sym (eq-eqb (block_of d.part b) k (in_block d k b (ltb-false b a e) (ltb-true b (a + length_of d.part k) f))) ∙ o))
      go false e false f =
          let m : a + length_of d.part k ≤ b = ltb-false b (a + length_of d.part k) f in
          subst (λ (x : ℕ). get_or (overlaid xs a zs) x 0 ≡ get_or (overlaid xs a ys) x 0) (let q : a + (length zs + (b - a - length zs)) ≡ b = omega arith in q)
          (overlaid_after xs a zs (omega arith) (b - a - length zs)
          ∙ ap (λ (n : ℕ). get_or xs (a + (n + (b - a - n))) 0) (lz ∙ sym ly)
          ∙ sym (overlaid_after xs a ys (omega arith) (b - a - length ys))
          ∙ ap (λ (n : ℕ). get_or (overlaid xs a ys) (a + (n + (b - a - n))) 0) (ly ∙ sym lz))

  pub same_elsewhere : (bs : List ℕ) → Elsewhere d k bs → read_at (overlaid xs a zs) bs ≡ read_at (overlaid xs a ys) bs
  same_elsewhere [] e = refl
  same_elsewhere (b ∷ bs) e =
      λ i. one_same b (e.other 0 (omega arith)) i ∷ same_elsewhere bs (record { inside = λ j h. e.inside (suc j) (omega arith); other = λ j h. e.other (suc j) (omega arith) }) i

filled_twice : (xs bs room : List ℕ) → filled_by xs bs (filled_by xs bs room) ≡ filled_by xs bs room
filled_twice xs bs room = ap (λ (z : List ℕ). take (length bs) (read_at xs bs) ++ z) (drop_at (take (length bs) (read_at xs bs)) (drop (length bs) room) (length bs) (length-take-le (length bs) (read_at xs bs) (let q = read_length xs bs in omega arith)))

-- the room holds the array's units at the addresses, or, with no interruption made, is as it was
pub room_is : (xs bs ps : List ℕ) (m n : ℕ) (room : List ℕ) → room_over xs bs ps n m room ≡ (if interrupts ps n m then filled_by xs bs room else room)
room_is xs bs ps zero n room = refl
room_is xs bs ps (suc m) n room = go (listed (n + 1) ps) (λ r. room_is xs bs ps m (n + 1) r)
  where
    go : (t : Bool) → ((r : List ℕ) → room_over xs bs ps (n + 1) m r ≡ (if interrupts ps (n + 1) m then filled_by xs bs r else r))
        → room_over xs bs ps (n + 1) m (if t then filled_by xs bs room else room) ≡ (if t || interrupts ps (n + 1) m then filled_by xs bs room else room)
    go true f = f (filled_by xs bs room) ∙ twice (interrupts ps (n + 1) m)
      where
        twice : (v : Bool) → (if v then filled_by xs bs (filled_by xs bs room) else filled_by xs bs room) ≡ filled_by xs bs room
        twice true = filled_twice xs bs room
        twice false = refl
    go false f = f room

-- the cycles of the polls are as many as the polls, and what interruptions add
pub cost_is : (d : Device) (bs ps : List ℕ) (m n : ℕ) → polls_cost d bs ps n m ≡ m + added_in d bs ps n m
cost_is d bs ps zero n = refl
cost_is d bs ps (suc m) n = go (listed (n + 1) ps) (if is_last m then 0 else waits_of d.suspend) (cost_is d bs ps m (n + 1))
  where
    go : (t : Bool) (v : ℕ) → polls_cost d bs ps (n + 1) m ≡ m + added_in d bs ps (n + 1) m
        → (if t then length bs + 4 + v else 1) + polls_cost d bs ps (n + 1) m ≡ suc m + ((if t then length bs + 3 + v else 0) + added_in d bs ps (n + 1) m)
    go true v h = omega arith
    go false v h = omega arith

-- each interruption adds at most S + k + 4
waits_most : (s : ℕ) → waits_of s ≤ s + 1
waits_most s = go (ltb s 2)
  where
    go : (t : Bool) → (if t then 1 else s - 1) ≤ s + 1
    go true = omega arith
    go false = omega arith

pub adds_most : (d : Device) (bs : List ℕ) (left : ℕ) → added_at d bs left ≤ d.suspend + length bs + 4
adds_most d bs left = go (is_last left) (waits_most d.suspend)
  where
    go : (t : Bool) → waits_of d.suspend ≤ d.suspend + 1 → length bs + 3 + (if t then 0 else waits_of d.suspend) ≤ d.suspend + length bs + 4
    go true h = omega arith
    go false h = omega arith

-- .. so all of them as often as they are made
pub added_most : (d : Device) (bs ps : List ℕ) (m n : ℕ) → added_in d bs ps n m ≤ interruptions ps n m * (d.suspend + length bs + 4)
added_most d bs ps zero n = omega arith
added_most d bs ps (suc m) n = go (listed (n + 1) ps) (added_most d bs ps m (n + 1)) (adds_most d bs m)
  where
    go : (t : Bool) → added_in d bs ps (n + 1) m ≤ interruptions ps (n + 1) m * (d.suspend + length bs + 4) → added_at d bs m ≤ d.suspend + length bs + 4
        → (if t then added_at d bs m else 0) + added_in d bs ps (n + 1) m ≤ ((if t then 1 else 0) + interruptions ps (n + 1) m) * (d.suspend + length bs + 4)
    go true h g = rw (add-mul 1 (interruptions ps (n + 1) m) (d.suspend + length bs + 4), one-mul (d.suspend + length bs + 4)) (omega arith)
    go false h g = rw (let y : 0 + interruptions ps (n + 1) m ≡ interruptions ps (n + 1) m = omega arith in y) (omega arith)

-- with no poll listed nothing is added and nothing interrupted
pub none_added : (d : Device) (bs ps : List ℕ) (m n : ℕ) → interrupts ps n m ≡ false → added_in d bs ps n m ≡ 0
none_added d bs ps zero n e = refl
none_added d bs ps (suc m) n e = go (listed (n + 1) ps) (or_left (listed (n + 1) ps) (interrupts ps (n + 1) m) e) (none_added d bs ps m (n + 1) (or_right (listed (n + 1) ps) (interrupts ps (n + 1) m) e))
  where
    go : (t : Bool) → t ≡ false → added_in d bs ps (n + 1) m ≡ 0 → (if t then added_at d bs m else 0) + added_in d bs ps (n + 1) m ≡ 0
    go true q h = absurd (unlike q)
    go false q h = omega arith

-- lists that list the same polls of those to come: the same is interrupted and added
module _ (ps qs : List ℕ) where
  pub same_interrupts : (m n : ℕ) → ((i : ℕ) → n < i → i ≤ n + m → listed i ps ≡ listed i qs) → interrupts ps n m ≡ interrupts qs n m
  same_interrupts zero n h = refl
  same_interrupts (suc m) n h = λ t. h (n + 1) (omega arith) (omega arith) t || same_interrupts m (n + 1) (λ i g f. h i (omega arith) (omega arith)) t

  pub same_added : (d : Device) (bs : List ℕ) (m n : ℕ) → ((i : ℕ) → n < i → i ≤ n + m → listed i ps ≡ listed i qs) → added_in d bs ps n m ≡ added_in d bs qs n m
  same_added d bs zero n h = refl
  same_added d bs (suc m) n h = λ t. (if h (n + 1) (omega arith) (omega arith) t then added_at d bs m else 0) + same_added d bs m (n + 1) (λ i g f. h i (omega arith) (omega arith)) t
