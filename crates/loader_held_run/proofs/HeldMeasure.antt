-- A number that falls with every cycle of an interrupted load, for any records, answer, scratch and lists: every such load ends.
use mathlib.Core.Path.{◌≡◌, refl, sym, ap, ◌∙◌, subst}
use mathlib.Core.Bool.{false}
use mathlib.Core.List.{List}
use Prim.Native.Nat.{ℕ, suc, ◌+◌, ◌-◌, ◌*◌, ◌≤◌, ◌<◌}
use native.Mathlib.Omega.{arith}
use native.Mathlib.Nat.{suc-mul, mul-le-mul_right}
use lib.ListN.{length}
use lib.Dec.{eqb, ltb, leb}
use borrow.Author.Tests.{ltb-true, ltb-false, leb-false}
use Rattle.common.proofs.Choice.{if_ind}
use Rattle.loader.specs.declared.Stage.{Stage}
use Rattle.loader.specs.declared.Stage.TheVariants.{Clearing, Opening, Reading, EraseAsking, EraseConfirming, EraseWaiting, ProgramAsking, ProgramSending, ProgramWaiting, Closing, Verifying, Ended}
use Rattle.loader.specs.declared.Loader.{Loader}
use Rattle.loader.specs.Stages.{is_ended}
use Rattle.loader_moves.specs.Moves.{next_of}
use Rattle.loader.specs.Statuses.{status_in, is_ready, erase_end}
use Rattle.loader_moves.specs.Inner.{past}
use Rattle.loader_stores.specs.Stores.{store_of}
use Rattle.model.specs.declared.Seen.{Seen}
use Rattle.model.specs.declared.Seen.TheVariants.{NoData, Data, Refused}
use Rattle.loader_run.specs.Turns.{loader_by}
use Rattle.loader_run.specs.Inner.{bound}
use Rattle.loader_run.proofs.Measure.{remains_in, remains, remains_bound, remains_some, falls}
use Rattle.loader_held.specs.declared.Step.{Step}
use Rattle.loader_held.specs.declared.Step.TheVariants.{Usual, Halting, Looking, Settling, ArrayAsking, Fetching, Resuming}
use Rattle.loader_held.specs.declared.Hold.{Hold}
use Rattle.loader_held.specs.declared.Pair.{Pair}
use Rattle.loader_held.specs.Holds.{listed, after_poll, numbered, settled_by, fetch_on, held_next}
use Rattle.loader_held_run.specs.HeldTurns.{pair_by}
use Rattle.loader_held_run.specs.HeldRuns.{held_bound}
use Rattle.loader_held_run.specs.Inner.{pause_bound}

-- the cycles to go by the cycle that is out: the loader's own; or those of the interruption, and more than any loader has after it
abbrev pub pausing : Step → Loader → Hold → ℕ → ℕ → ℕ
pausing Usual l h n k = remains l n
pausing Halting l h n k = bound n + (k + 65540)
pausing Looking l h n k = bound n + (k + 65539)
pausing Settling l h n k = bound n + (k + (4 + (65534 - h.waits)))
pausing ArrayAsking l h n k = bound n + (k + 3)
pausing Fetching l h n k = bound n + (2 + (k - h.place))
pausing Resuming l h n k = bound n + 1

-- the interruptions that may still come, each with the polls after it
abbrev pub pauses : ℕ → ℕ → ℕ → ℕ
pauses m n k = (4294967295 - m) * pause_bound n k

-- the most cycles to the end
abbrev pub held_remains : Loader → Hold → ℕ → ℕ → ℕ
held_remains l h n k = pauses h.number n k + pausing h.step l h n k

-- one poll of the erase more is one interruption fewer to come
fewer : (m f : ℕ) → m < 4294967295 → (4294967295 - (m + 1)) * f + f ≡ (4294967295 - m) * f
fewer m f h = sym (suc-mul (4294967295 - (m + 1)) f) ∙ ap (λ (x : ℕ). x * f) (let q : suc (4294967295 - (m + 1)) ≡ 4294967295 - m = omega arith in q)

-- what falls beside what is yet to come
same : (x a r : ℕ) → a < r → x + a < x + r
same x a r h = omega arith

less : (x y f a r : ℕ) → x + f ≡ y → a < f + r → x + a < y + r
less x y f a r e h = omega arith

-- no records have more to go than the bound
pub held_bound_lem : (l : Loader) (h : Hold) (n k : ℕ) → held_remains l h n k ≤ held_bound n k
unfolding held_bound
held_bound_lem l h n k =
    let x : pauses h.number n k ≤ 4294967295 * pause_bound n k = mul-le-mul_right (pause_bound n k) (let q : 4294967295 - h.number ≤ 4294967295 = omega arith in q) in
    sums (pauses h.number n k) (4294967295 * pause_bound n k) (pausing h.step l h n k) (bound n + (k + 65540)) x (most h.step)
  where
    sums : (x y a b : ℕ) → x ≤ y → a ≤ b → x + a ≤ y + b
    sums x y a b p q = omega arith

    most : (step : Step) → pausing step l h n k ≤ bound n + (k + 65540)
    most Usual = let z = remains_bound l.stage n l.place l.polls in omega arith
    most Halting = omega arith
    most Looking = omega arith
    most Settling = omega arith
    most ArrayAsking = omega arith
    most Fetching = omega arith
    most Resuming = omega arith

-- a load that has not ended has a cycle to go
pausing_some : (step : Step) (l : Loader) (h : Hold) (n k : ℕ) → is_ended l.stage ≡ false → 0 < pausing step l h n k
pausing_some Usual l h n k e = remains_some l.stage n l.place l.polls e
pausing_some Halting l h n k e = omega arith
pausing_some Looking l h n k e = omega arith
pausing_some Settling l h n k e = omega arith
pausing_some ArrayAsking l h n k e = omega arith
pausing_some Fetching l h n k e = omega arith
pausing_some Resuming l h n k e = omega arith

pub held_some : (l : Loader) (h : Hold) (n k : ℕ) → is_ended l.stage ≡ false → 0 < held_remains l h n k
held_some l h n k e = more (pauses h.number n k) (pausing h.step l h n k) (pausing_some h.step l h n k e)
  where
    more : (x a : ℕ) → 0 < a → 0 < x + a
    more x a p = omega arith

module _ (l : Loader) (m n k r : ℕ) (ps : List ℕ) where
  abbrev Falls : Hold → Type 0
  Falls h = held_remains l h n k < pauses m n k + r

  -- a poll of the erase comes next, or an interruption in its place
  poll_falls : remains l n < r → bound n + (k + 65540) < pause_bound n k + r → Falls (after_poll m ps)
  unfolding after_poll
  poll_falls a b =
      if_ind Falls (ltb m 4294967295) _ _
      (λ e. let f = fewer m (pause_bound n k) (ltb-true m 4294967295 e) in
      if_ind Falls (listed (m + 1) ps) _ _
      (λ q. less (pauses (m + 1) n k) (pauses m n k) (pause_bound n k) (bound n + (k + 65540)) r f b)
      (λ q. less (pauses (m + 1) n k) (pauses m n k) (pause_bound n k) (remains l n) r f (let z : remains l n < pause_bound n k + r = omega arith in z)))
      (λ e. same (pauses m n k) (remains l n) r a)

  -- the loader has moved on
  moved_falls : (stage : Stage) → l.stage ≡ stage → remains l n < r → Falls (numbered stage m ps)
  moved_falls Clearing e a = same (pauses m n k) (remains l n) r a
  moved_falls Opening e a = same (pauses m n k) (remains l n) r a
  moved_falls Reading e a = same (pauses m n k) (remains l n) r a
  moved_falls EraseAsking e a = same (pauses m n k) (remains l n) r a
  moved_falls EraseConfirming e a = same (pauses m n k) (remains l n) r a
  moved_falls EraseWaiting e a =
      let z : remains_in EraseWaiting n l.place l.polls < r = subst (λ (st : Stage). remains_in st n l.place l.polls < r) e a in
      poll_falls a (room n l.polls z)
    where
      room : (n q : ℕ) → remains_in EraseWaiting n 0 q < r → bound n + (k + 65540) < pause_bound n k + r
      room n q h = omega arith
  moved_falls ProgramAsking e a = same (pauses m n k) (remains l n) r a
  moved_falls ProgramSending e a = same (pauses m n k) (remains l n) r a
  moved_falls ProgramWaiting e a = same (pauses m n k) (remains l n) r a
  moved_falls Closing e a = same (pauses m n k) (remains l n) r a
  moved_falls Verifying e a = same (pauses m n k) (remains l n) r a
  moved_falls (Ended x) e a = same (pauses m n k) (remains l n) r a

module _ (l : Loader) (h : Hold) (w sc : List ℕ) (k : ℕ) where
  abbrev n : ℕ
  n = length w

  abbrev In : ℕ → Pair → Type 0
  In r p = held_remains p.loader p.hold n k < pauses h.number n k + r

  abbrev X : ℕ
  X = pauses h.number n k

  -- a poll of the suspend's own wait
  settle_falls : (sr : ℕ) → In (pausing Settling l h n k) (settled_by l h sr)
  unfolding settled_by
  settle_falls sr =
      if_ind (In (pausing Settling l h n k)) (is_ready sr) _ _
      (λ e. if_ind (In (pausing Settling l h n k)) (eqb (erase_end sr) 0) _ _
      (λ q. same X (bound n + (k + 3)) (pausing Settling l h n k) (falls (bound n) k h.waits))
      (λ q. same X 0 (pausing Settling l h n k) (omega arith)))
      (λ e. if_ind (In (pausing Settling l h n k)) (leb 65534 h.waits) _ _
      (λ q. same X 0 (pausing Settling l h n k) (omega arith))
      (λ q. same X (bound n + (k + (4 + (65534 - (h.waits + 1))))) (pausing Settling l h n k) (wait (bound n) k h.waits (leb-false 65534 h.waits q))))
    where
      falls : (b k q : ℕ) → b + (k + 3) < b + (k + (4 + (65534 - q)))
      falls b k q = omega arith

      wait : (b k q : ℕ) → q < 65534 → b + (k + (4 + (65534 - (q + 1)))) < b + (k + (4 + (65534 - q)))
      wait b k q p = omega arith

  -- the next read, or what follows the reads
  fetch_falls : (i r : ℕ) → (i < k → bound n + (2 + (k - i)) < r) → bound n + 1 < r → is_ended l.stage ≡ false → In r (fetch_on l h i k w sc)
  unfolding fetch_on
  fetch_falls i r a b e =
      if_ind (In r) (ltb i k) _ _ (λ q. same X (bound n + (2 + (k - i))) r (a (ltb-true i k q)))
      (λ q. if_ind (In r) h.suspended _ _ (λ t. same X (bound n + 1) r b)
      (λ t. let z : remains (loader_by (Data 0x80) l w sc) n < remains l n = falls (Data 0x80) l w sc e in
      let y = remains_bound l.stage n l.place l.polls in
      same X (remains (next_of l 0x80 w (store_of l 0x80 w sc)) n) r (end (remains (next_of l 0x80 w (store_of l 0x80 w sc)) n) (remains l n) (bound n) z y b)))
    where
      end : (x y z : ℕ) → x < y → y ≤ z → z + 1 < r → x < r
      end x y z p q o = omega arith

-- the place after a read is a later one
later : (b k i : ℕ) → past i k < k → b + (2 + (k - past i k)) < b + (2 + (k - i))
unfolding past
later b k i =
    if_ind (λ (j : ℕ). j < k → b + (2 + (k - j)) < b + (2 + (k - i))) (ltb i k) (i + 1) i
    (λ q z. near (ltb-true i k q)) (λ q z. absurd (let y = ltb-false i k q in omega arith))
  where
    near : i < k → b + (2 + (k - (i + 1))) < b + (2 + (k - i))
    near z = omega arith

-- every answer taken brings the end nearer
next_falls : (step : Step) (l : Loader) (h : Hold) (v k : ℕ) (w sc ps : List ℕ) → is_ended l.stage ≡ false
    → held_remains (held_next step l h v k w sc ps).loader (held_next step l h v k w sc ps).hold (length w) k < pauses h.number (length w) k + pausing step l h (length w) k
next_falls Usual l h v k w sc ps e =
    moved_falls (next_of l v w (store_of l v w sc)) h.number (length w) k (remains l (length w)) ps (next_of l v w (store_of l v w sc)).stage refl (falls (Data v) l w sc e)
next_falls Halting l h v k w sc ps e = same (pauses h.number (length w) k) _ _ (let z : bound (length w) + (k + 65539) < bound (length w) + (k + 65540) = omega arith in z)
next_falls Looking l h v k w sc ps e = same (pauses h.number (length w) k) _ _ (let z : bound (length w) + (k + (4 + (65534 - 0))) < bound (length w) + (k + 65539) = omega arith in z)
next_falls Settling l h v k w sc ps e = settle_falls l h w sc k (status_in v)
next_falls ArrayAsking l h v k w sc ps e =
    fetch_falls l h w sc k 0 (bound (length w) + (k + 3)) (λ q. first (bound (length w)) k) (omega arith) e
  where
    first : (b k : ℕ) → b + (2 + (k - 0)) < b + (k + 3)
    first b k = omega arith
next_falls Fetching l h v k w sc ps e =
    fetch_falls l h w sc k (past h.place k) (bound (length w) + (2 + (k - h.place))) (λ q. later (bound (length w)) k h.place q) (omega arith) e
next_falls Resuming l h v k w sc ps e =
    poll_falls (held_next Resuming l h v k w sc ps).loader h.number (length w) k (bound (length w) + 1) ps (again (length w)) (room (length w))
  where
    again : (n : ℕ) → remains_in EraseWaiting n 0 0 < bound n + 1
    again n = let z = remains_bound EraseWaiting n 0 0 in omega arith

    room : (n : ℕ) → bound n + (k + 65540) < pause_bound n k + (bound n + 1)
    room n = omega arith

-- whatever the model answers
pub held_falls : (seen : Seen) (l : Loader) (h : Hold) (w sc bs ps : List ℕ) → is_ended l.stage ≡ false
    → held_remains (pair_by seen l h (length bs) w sc ps).loader (pair_by seen l h (length bs) w sc ps).hold (length w) (length bs) < held_remains l h (length w) (length bs)
held_falls NoData l h w sc bs ps e = next_falls h.step l h 0 (length bs) w sc ps e
held_falls (Data v) l h w sc bs ps e = next_falls h.step l h v (length bs) w sc ps e
held_falls (Refused m) l h w sc bs ps e =
    same (pauses h.number (length w) (length bs)) 0 (pausing h.step l h (length w) (length bs)) (pausing_some h.step l h (length w) (length bs) e)
