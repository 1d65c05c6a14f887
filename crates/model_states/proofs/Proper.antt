-- A state is improper exactly where one of the code's tests says so.
use mathlib.Core.Path.{◌≡◌, refl, sym, ap, ◌∙◌}
use mathlib.Core.Bool.{Bool, true, false, not, ◌&&◌, ◌||◌}
use Prim.Native.Nat.{ℕ, ◌+◌, ◌*◌, ◌/◌, ◌%◌, ◌<◌}
use native.Mathlib.Omega.{arith}
use lib.Dec.{eqb, ltb, leb}
use borrow.Author.Tests.{eqb-true, eqb-false, eq-eqb, ne_eqb, ltb-true, ltb-false, le-leb, lt-leb}
use Rattle.device.specs.Parts.{size_of}
use Rattle.device.specs.declared.Device.{Device}
use Rattle.model_types.specs.declared.Mode.{Mode}
use Rattle.model_types.specs.declared.Mode.TheVariants.{Array, Status, Identifier}
use Rattle.model_types.specs.declared.Phase.{Phase}
use Rattle.model_types.specs.declared.Phase.TheVariants.{Free, EraseAwaited, DataAwaited, Programming, Erasing, Suspending, Suspended}
use Rattle.model_types.specs.declared.State.{State}
use Rattle.model_types.specs.declared.Wear.{Wear}
use Rattle.model_states.specs.States.{is_status, proper_mode, proper_ready, proper_held, proper_low, proper_left, proper_suspend, proper_address, proper, improper}
use Rattle.model_states.specs.Inner.{top_bits, bad_mode, bad_status, bad_left, bad_address}

-- the mode
status_mode : (m : Mode) → is_status m ≡ not (not (is_status m))
status_mode Array = refl
status_mode Status = refl
status_mode Identifier = refl

mode_same : (ph : Phase) (m : Mode) → proper_mode ph m ≡ not (bad_mode ph m)
mode_same Free m = refl
mode_same EraseAwaited m = status_mode m
mode_same DataAwaited m = status_mode m
mode_same (Programming b) m = status_mode m
mode_same Erasing m = status_mode m
mode_same (Suspending n) m = status_mode m
mode_same Suspended Array = refl
mode_same Suspended Status = refl
mode_same Suspended Identifier = refl

-- two bits are one number
two_bits : (x a b : ℕ) → b < 2 → (eqb (x / 2) a && eqb (x % 2) b) ≡ eqb x (2 * a + b)
two_bits x a b h = go (eqb (x / 2) a) refl (eqb (x % 2) b) refl
  where
    go : (p : Bool) → eqb (x / 2) a ≡ p → (q : Bool) → eqb (x % 2) b ≡ q → (p && q) ≡ eqb x (2 * a + b)
    go true e true f = let u = eqb-true (x / 2) a e in let v = eqb-true (x % 2) b f in sym (eq-eqb x (2 * a + b) (omega arith))
    go true e false f = let v = eqb-false (x % 2) b f in sym (ne_eqb x (2 * a + b) (λ z. v (omega arith)))
    go false e q f = let u = eqb-false (x / 2) a e in sym (ne_eqb x (2 * a + b) (λ z. u (omega arith)))

top_half : (sr : ℕ) → sr / 0x80 ≡ sr / 0x40 / 2
top_half sr = omega arith

top_same : (sr a b : ℕ) → b < 2 → (eqb (sr / 0x80) a && eqb (sr / 0x40 % 2) b) ≡ eqb (sr / 0x40) (2 * a + b)
top_same sr a b h = ap (λ (n : ℕ). eqb n a && eqb (sr / 0x40 % 2) b) (top_half sr) ∙ two_bits (sr / 0x40) a b h

bits_same : (ph : Phase) (sr : ℕ) → (proper_ready ph sr && proper_held ph sr) ≡ eqb (sr / 0x40) (top_bits ph)
bits_same Free sr = top_same sr 1 0 (omega arith)
bits_same EraseAwaited sr = top_same sr 1 0 (omega arith)
bits_same DataAwaited sr = top_same sr 1 0 (omega arith)
bits_same (Programming b) sr = top_same sr 0 0 (omega arith)
bits_same Erasing sr = top_same sr 0 0 (omega arith)
bits_same (Suspending n) sr = top_same sr 0 0 (omega arith)
bits_same Suspended sr = top_same sr 1 1 (omega arith)

-- cycles to go, and the address
below_not : (a n : ℕ) → ltb a n ≡ not (leb n a)
below_not a n = go (ltb a n) refl
  where
    go : (b : Bool) → ltb a n ≡ b → b ≡ not (leb n a)
    go true e = ap not (sym (lt-leb n a (ltb-true a n e)))
    go false e = ap not (sym (le-leb n a (ltb-false a n e)))

some_not : (n : ℕ) → leb 1 n ≡ not (eqb n 0)
some_not n = go (eqb n 0) refl
  where
    go : (b : Bool) → eqb n 0 ≡ b → leb 1 n ≡ not b
    go true e = let z = eqb-true n 0 e in lt-leb 1 n (omega arith)
    go false e = let z = eqb-false n 0 e in le-leb 1 n (omega arith)

most_not : (n m : ℕ) → leb n m ≡ not (ltb m n)
most_not n m = go (ltb m n) refl
  where
    go : (b : Bool) → ltb m n ≡ b → leb n m ≡ not b
    go true e = lt-leb n m (ltb-true m n e)
    go false e = le-leb n m (ltb-false m n e)

both_not : (a b : Bool) → (not a && not b) ≡ not (a || b)
both_not true b = refl
both_not false b = refl

twice_not : (a : Bool) → a ≡ not (not a)
twice_not true = refl
twice_not false = refl

range_same : (n m : ℕ) → (leb 1 n && leb n m) ≡ not (eqb n 0 || ltb m n)
range_same n m = (λ i. some_not n i && most_not n m i) ∙ both_not (eqb n 0) (ltb m n)

or_none : (a : Bool) → (a || false) ≡ a
or_none true = refl
or_none false = refl

-- the operation's cycles and the suspend's, together
and_yes : (a b : Bool) → a ≡ not b → (a && true) ≡ not (b || false)
and_yes true true e = e
and_yes true false e = refl
and_yes false true e = refl
and_yes false false e = e

left_same : (d : Device) (ph : Phase) (n : ℕ) → (proper_left d ph n && proper_suspend d ph) ≡ not (bad_left d ph n)
unfolding bad_left
left_same d Free n = and_yes (eqb n 0) (not (eqb n 0)) (twice_not (eqb n 0)) ∙ ap not (or_none (not (eqb n 0)))
left_same d EraseAwaited n = and_yes (eqb n 0) (not (eqb n 0)) (twice_not (eqb n 0)) ∙ ap not (or_none (not (eqb n 0)))
left_same d DataAwaited n = and_yes (eqb n 0) (not (eqb n 0)) (twice_not (eqb n 0)) ∙ ap not (or_none (not (eqb n 0)))
left_same d (Programming b) n = and_yes (leb 1 n && leb n d.program) (eqb n 0 || ltb d.program n) (range_same n d.program)
left_same d Erasing n = and_yes (leb 1 n && leb n d.erase) (eqb n 0 || ltb d.erase n) (range_same n d.erase)
left_same d (Suspending m) n =
    (λ i. range_same n d.erase i && range_same m d.suspend i) ∙ both_not (eqb n 0 || ltb d.erase n) (eqb m 0 || ltb d.suspend m)
left_same d Suspended n = and_yes (leb 1 n && leb n d.erase) (eqb n 0 || ltb d.erase n) (range_same n d.erase)

address_same : (d : Device) (ph : Phase) (a : ℕ) → proper_address d ph a ≡ not (bad_address d ph a)
unfolding bad_address
address_same d Free a = twice_not (eqb a 0)
address_same d EraseAwaited a = twice_not (eqb a 0)
address_same d DataAwaited a = twice_not (eqb a 0)
address_same d (Programming b) a = below_not a (size_of d.part)
address_same d Erasing a = below_not a (size_of d.part)
address_same d (Suspending n) a = below_not a (size_of d.part)
address_same d Suspended a = below_not a (size_of d.part)

and_apart : (a b c : Bool) → ((a && b) && c) ≡ (a && (b && c))
and_apart true b c = refl
and_apart false b c = refl

-- six tests, all of which hold
high_bits : (z l a : Bool) → true ≡ (((not z || true) || l) || a)
high_bits true l a = refl
high_bits false l a = refl

four : (h z l a : Bool) → not (h && z && not l && not a) ≡ (((not z || not h) || l) || a)
four false z l a = high_bits z l a
four true false l a = refl
four true true true a = refl
four true true false true = refl
four true true false false = refl

six : (m r h z l a t : Bool) → (r && h) ≡ t → not (not m && r && h && z && not l && not a) ≡ (((m || (not z || not t)) || l) || a)
six true r h z l a t e = refl
six false false h z l a t e = high_bits z l a ∙ ap (λ (x : Bool). ((not z || not x) || l) || a) e
six false true h z l a t e = four h z l a ∙ ap (λ (x : Bool). ((not z || not x) || l) || a) e

-- improper, as the code tests it
pub improper_parts : (d : Device) (s : State)
    → improper d s ≡ (((bad_mode s.phase s.mode || bad_status s.phase s.status) || bad_left d s.phase s.left) || bad_address d s.phase s.address)
unfolding improper proper bad_status
improper_parts d s =
    (λ i. not (and_apart (mode_same s.phase s.mode i && proper_ready s.phase s.status && proper_held s.phase s.status && proper_low s.status)
    (proper_left d s.phase s.left) (proper_suspend d s.phase) i && address_same d s.phase s.address i))
    ∙ (λ i. not (not (bad_mode s.phase s.mode) && proper_ready s.phase s.status && proper_held s.phase s.status && proper_low s.status
    && left_same d s.phase s.left i && not (bad_address d s.phase s.address)))
    ∙ six (bad_mode s.phase s.mode) (proper_ready s.phase s.status) (proper_held s.phase s.status) (proper_low s.status) (bad_left d s.phase s.left)
    (bad_address d s.phase s.address) (eqb (s.status / 0x40) (top_bits s.phase)) (bits_same s.phase s.status)

-- whether a state is proper does not depend on its counts
pub any_count : (d : Device) (s : State) (w : Wear)
    → improper d (record { mode = s.mode; status = s.status; phase = s.phase; left = s.left; address = s.address; wear = w }) ≡ improper d s
unfolding improper proper
any_count d s w = refl
