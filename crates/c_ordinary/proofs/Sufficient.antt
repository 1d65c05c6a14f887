-- What the tests of an ordinary cycle and of a state at rest come to.
use mathlib.Core.Path.{◌≡◌, refl, sym, ap, subst, ◌∙◌}
use mathlib.Core.Bool.{Bool, true, false, not, ◌&&◌, ◌||◌}
use Prim.Native.Nat.{ℕ, zero, suc, ◌+◌, ◌*◌, ◌/◌, ◌%◌, ◌≤◌, ◌<◌}
use native.Mathlib.Omega.{arith}
use lib.Dec.{eqb, ltb, leb}
use borrow.Author.Tests.{eqb-true, eqb-false, ltb-true, ltb-false, leb-true, leb-false, not-true, not-false, eq-eqb, ne_eqb, le-ltb, le-leb}
use Rattle.std.specs.Prelude.{if◌then◌else◌}
use Rattle.common.proofs.Choice.{if_same, if_false, and_left, and_right, unlike}
use Rattle.units.specs.Units.{units_in, torn, lent_in}
use Rattle.device.specs.declared.Part.{Part}
use Rattle.device.specs.Parts.{row_of, in_words, shape_of, size_in, is_large, unknown_part, unknown_device, size_of}
use Rattle.model_types.specs.declared.Pins.{Pins}
use Rattle.model_levels.specs.Levels.{vpp_low, vpp_high, at_twelve, at_five, bad_wp, bad_pins}
use Rattle.c_cycle.specs.Values.{number_in, part_in, device_in, pins_in}
use Rattle.c_cycle.specs.declared.DeviceNumbers.{DeviceNumbers}
use Rattle.c_cycle.specs.declared.StateNumbers.{StateNumbers}
use Rattle.c_cycle.specs.declared.BusNumbers.{BusNumbers}
use Rattle.c_ordinary.specs.Ordinary.{bytes_for, units_for, level_in, fair_level_in, timed_in, ordinary_in, fair_in, key_of, resting_in}
use Rattle.c_ordinary.specs.Ordinary.{Fair, Ordinary, Resting}

-- a test that says no, and one that says yes, on the way to true
past : (t x : Bool) → (if t then false else x) ≡ true → (t ≡ false) × (x ≡ true)
past true x e = absurd (unlike (sym e))
past false x e = (refl, e)

both : (t x : Bool) → (if t then x else false) ≡ true → (t ≡ true) × (x ≡ true)
both true x e = (refl, e)
both false x e = absurd (unlike (sym e))

-- VPP is in a band of every part
supplied : (part : Part) (p : Pins) → (if leb 11400 p.vpp then leb p.vpp 12600 else if leb 4500 p.vpp then leb p.vpp 5500 else leb p.vpp 1500) ≡ true
    → (vpp_low part p || vpp_high part p) ≡ true
unfolding vpp_low vpp_high at_twelve at_five
supplied part p e = go (is_large part) (leb 11400 p.vpp) refl (leb 4500 p.vpp) refl e
  where
    v : ℕ
    v = p.vpp

    or_true : (a : Bool) → (a || true) ≡ true
    or_true true = refl
    or_true false = refl

    go : (large twelve : Bool) → leb 11400 v ≡ twelve → (five : Bool) → leb 4500 v ≡ five
        → (if twelve then leb v 12600 else if five then leb v 5500 else leb v 1500) ≡ true
        → ((if large then leb v 1500 else leb v 6500) || (if large then (leb 4500 v && leb v 5500) || (leb 11400 v && leb v 12600) else leb 11400 v && leb v 12600)) ≡ true
    go true true a five b f = simp (a, f, or_true (leb 4500 v && leb v 5500), or_true (leb v 1500))
    go false true a five b f = simp (a, f, or_true (leb v 6500))
    go true false a true b f = simp (b, f, or_true (leb v 1500))
    go false false a true b f = simp (le-leb v 6500 (omega (arith, leb-true v 5500 f)))
    go true false a false b f = simp f
    go false false a false b f = simp (le-leb v 6500 (omega (arith, leb-true v 1500 f)))

-- OE# is low and no level bad, whatever the part
pub record Levelled (rp oe wp vpp : ℕ) : Type 0 where
  pub normal : oe ≡ 0
  pub pins : (part : Part) → bad_pins part (pins_in rp wp vpp) ≡ false

pub levelled : (rp oe wp vpp : ℕ) → fair_level_in rp oe wp vpp ≡ true → Levelled rp oe wp vpp
unfolding fair_level_in bad_pins bad_wp
levelled rp oe wp vpp e =
    let a = past (not (eqb oe 0)) _ e in
    let b = past (ltb 1 wp) _ a.1 in
    let d = past (ltb 2 rp) _ b.1 in
    record {
      normal = eqb-true oe 0 (not-false (eqb oe 0) a.0);
      pins = λ part. simp (d.0, supplied part (pins_in rp wp vpp) d.1, b.0, if_same (is_large part) false);
    }

-- numbers past the last part have no bytes
none_past : (n : ℕ) → 8 < n → bytes_for n ≡ 0
unfolding bytes_for
none_past n h = simp (other 1 (omega arith), other 2 (omega arith), other 3 (omega arith), other 4 (omega arith), other 5 (omega arith), other 6 (omega arith), other 7 (omega arith), other 8 (omega arith))
  where
    other : (k : ℕ) → k < n → eqb n k ≡ false
    other k l = ne_eqb n k (λ (e : n ≡ k). (omega arith))

-- what holds of the eight parts holds of every number that has bytes
by_parts : (P : ℕ → Type 0) → P 1 → P 2 → P 3 → P 4 → P 5 → P 6 → P 7 → P 8 → (n : ℕ) → 0 < bytes_for n → P n
unfolding bytes_for
by_parts P a b c d e f g h zero l = absurd (omega arith)
by_parts P a b c d e f g h (suc zero) l = a
by_parts P a b c d e f g h (suc (suc zero)) l = b
by_parts P a b c d e f g h (suc (suc (suc zero))) l = c
by_parts P a b c d e f g h (suc (suc (suc (suc zero)))) l = d
by_parts P a b c d e f g h (suc (suc (suc (suc (suc zero))))) l = e
by_parts P a b c d e f g h (suc (suc (suc (suc (suc (suc zero)))))) l = f
by_parts P a b c d e f g h (suc (suc (suc (suc (suc (suc (suc zero))))))) l = g
by_parts P a b c d e f g h (suc (suc (suc (suc (suc (suc (suc (suc zero)))))))) l = h
by_parts P a b c d e f g h (suc (suc (suc (suc (suc (suc (suc (suc (suc n))))))))) l =
    absurd (let z = none_past (suc (suc (suc (suc (suc (suc (suc (suc (suc n))))))))) (omega arith) in omega (arith, l, z))

-- a part in byte mode, and a large one in word mode
abbrev InBytes : ℕ → Type 0
InBytes n = (unknown_part (record { number = n; word = false }) ≡ false) × (size_of (record { number = n; word = false }) ≡ bytes_for n)

abbrev InWords : ℕ → Type 0
InWords n = 5 ≤ n → (unknown_part (record { number = n; word = true }) ≡ false) × (size_of (record { number = n; word = true }) ≡ bytes_for n / 2) × (bytes_for n % 2 ≡ 0)

in_bytes : (n : ℕ) → 0 < bytes_for n → InBytes n
unfolding unknown_part is_large size_of shape_of size_in row_of bytes_for
in_bytes = by_parts InBytes (refl, refl) (refl, refl) (refl, refl) (refl, refl) (refl, refl) (refl, refl) (refl, refl) (refl, refl)

in_words_lem : (n : ℕ) → 0 < bytes_for n → InWords n
unfolding unknown_part is_large size_of shape_of size_in row_of in_words bytes_for
in_words_lem =
    by_parts InWords (λ l. absurd (omega arith)) (λ l. absurd (omega arith)) (λ l. absurd (omega arith)) (λ l. absurd (omega arith))
    (λ l. (refl, refl, refl)) (λ l. (refl, refl, refl)) (λ l. (refl, refl, refl)) (λ l. (refl, refl, refl))

-- the part is known, so many bytes are its array, and it has m units
pub record Sized (number word len m : ℕ) : Type 0 where
  pub known : unknown_part (part_in number word) ≡ false
  pub sized : lent_in (part_in number word).word len ≡ size_of (part_in number word)
  pub whole : m ≡ size_of (part_in number word)

sized_bytes : (number len : ℕ) → 0 < len → bytes_for number ≡ len → Sized number 0 len len
unfolding number_in lent_in
sized_bytes number len l e =
    let p = in_bytes number (omega (arith, l, e)) in
    record { known = p.0; sized = sym e ∙ sym p.1; whole = sym e ∙ sym p.1 }

sized_words : (number len : ℕ) → 0 < len / 2 → 5 ≤ number → bytes_for number ≡ len → Sized number 1 len (len / 2)
unfolding number_in lent_in
sized_words number len l h e =
    let p = in_words_lem number (omega (arith, l, e)) h in
    let even : len % 2 ≡ 0 = ap (λ (x : ℕ). x % 2) (sym e) ∙ p.2 in
    let half : len / 2 ≡ size_of (record { number = number; word = true }) = ap (λ (x : ℕ). x / 2) (sym e) ∙ sym p.1 in
    let whole : lent_in true len ≡ len / 2 = simp even in
    record { known = p.0; sized = whole ∙ half; whole = half }

-- for code: where there are units, they are those of the part
pub fits : (number word len : ℕ) → 0 < units_for number word len → Sized number word len (units_for number word len)
unfolding units_for
fits number word len l = go (eqb (bytes_for number) len) refl (eqb word 0) refl (eqb word 1) refl (ltb number 5) refl l
  where
    go : (s : Bool) → eqb (bytes_for number) len ≡ s → (z : Bool) → eqb word 0 ≡ z → (o : Bool) → eqb word 1 ≡ o → (k : Bool) → ltb number 5 ≡ k
        → 0 < (if not s then 0 else if z then len else if not o then 0 else if k then 0 else len / 2)
        → Sized number word len (if not s then 0 else if z then len else if not o then 0 else if k then 0 else len / 2)
    go false e z f o g k h m = absurd (omega arith)
    go true e true f o g k h m = subst (λ (w : ℕ). Sized number w len len) (sym (eqb-true word 0 f)) (sized_bytes number len m (eqb-true (bytes_for number) len e))
    go true e false f false g k h m = absurd (omega arith)
    go true e false f true g true h m = absurd (omega arith)
    go true e false f true g false h m = subst (λ (w : ℕ). Sized number w len (len / 2)) (sym (eqb-true word 1 g)) (sized_words number len m (ltb-false number 5 h) (eqb-true (bytes_for number) len e))

-- for code: times that there are, levels that are good, and an address inside
pub fair_at : (n : DeviceNumbers) (b : BusNumbers) (len : ℕ) → timed_in n ≡ true → fair_level_in b.rp b.oe b.wp b.vpp ≡ true
    → b.address < units_for n.number n.word len → b.kind ≤ 2 → Fair n b len
unfolding timed_in unknown_device
fair_at n b len t e u k =
    let p = past (eqb n.program 0) _ t in
    let z = past (eqb n.erase 0) _ p.1 in
    let r = past (eqb n.suspend 0) _ z.1 in
    let s = le-ltb 100 n.suspend (leb-true n.suspend 100 r.1) in
    let l = levelled b.rp b.oe b.wp b.vpp e in
    let f = fits n.number n.word len (omega (arith, u)) in
    record {
      kind = k;
      oe = l.normal;
      known = simp (f.known, p.0, z.0, r.0, s);
      pins = l.pins (device_in n).part;
      sized = f.sized;
      inside = omega (arith, u, f.whole);
    }

-- for code: a cycle that passes the test, of a kind that there is
pub fair_in_lem : (n : DeviceNumbers) (b : BusNumbers) (len : ℕ) → fair_in n b len ≡ true → b.kind ≤ 2 → Fair n b len
unfolding fair_in
fair_in_lem n b len e k =
    let x = past (not (timed_in n)) _ e in
    let t = both (fair_level_in b.rp b.oe b.wp b.vpp) _ x.1 in
    let u = ltb-true b.address (units_for n.number n.word len) t.1 in
    fair_at n b len (not-false (timed_in n) x.0) t.0 u k

-- levels that are good with RP# up are good wherever it is
pub level_up : (rp oe wp vpp : ℕ) → level_in rp oe wp vpp ≡ true → (fair_level_in rp oe wp vpp ≡ true) × (eqb rp 0 ≡ false)
unfolding level_in fair_level_in
level_up rp oe wp vpp e =
    let a = past (not (eqb oe 0)) _ e in
    let b = past (ltb 1 wp) _ a.1 in
    let c = past (eqb rp 0) _ b.1 in
    (if_false (not (eqb oe 0)) false _ a.0 ∙ if_false (ltb 1 wp) false _ b.0 ∙ c.1, c.0)

-- .. their RP# is one that there is, and they are good with any other that there is
pub level_most : (rp oe wp vpp : ℕ) → level_in rp oe wp vpp ≡ true → rp ≤ 2
unfolding level_in
level_most rp oe wp vpp e =
    let a = past (not (eqb oe 0)) _ e in
    let b = past (ltb 1 wp) _ a.1 in
    let c = past (eqb rp 0) _ b.1 in
    let d = past (ltb 2 rp) _ c.1 in
    ltb-false 2 rp d.0

pub level_at : (rp q oe wp vpp : ℕ) → level_in q oe wp vpp ≡ true → rp ≤ 2 → fair_level_in rp oe wp vpp ≡ true
unfolding level_in fair_level_in
level_at rp q oe wp vpp e h =
    let a = past (not (eqb oe 0)) _ e in
    let b = past (ltb 1 wp) _ a.1 in
    let c = past (eqb q 0) _ b.1 in
    let d = past (ltb 2 q) _ c.1 in
    if_false (not (eqb oe 0)) false _ a.0 ∙ if_false (ltb 1 wp) false _ b.0 ∙ if_false (ltb 2 rp) false _ (le-ltb 2 rp h) ∙ d.1

-- times that there are, levels that are good with RP# up, and an address inside
pub fair_is : (n : DeviceNumbers) (b : BusNumbers) (len q : ℕ) → timed_in n ≡ true → level_in q b.oe b.wp b.vpp ≡ true → b.rp ≤ 2
    → b.address < units_for n.number n.word len → b.kind ≤ 2 → Fair n b len
fair_is n b len q t e h u k = fair_at n b len t (level_at b.rp q b.oe b.wp b.vpp e h) u k

-- a cycle that passes the test of an ordinary one, of a kind that there is
pub ordinary_is : (n : DeviceNumbers) (b : BusNumbers) (len : ℕ) → ordinary_in n b len ≡ true → b.kind ≤ 2 → Ordinary n b len
unfolding ordinary_in
ordinary_is n b len e k =
    let x = past (not (timed_in n)) _ e in
    let t = both (level_in b.rp b.oe b.wp b.vpp) _ x.1 in
    let l = level_up b.rp b.oe b.wp b.vpp t.0 in
    let u = ltb-true b.address (units_for n.number n.word len) t.1 in
    record { fair = fair_at n b len (not-false (timed_in n) x.0) l.0 u k; up = l.1 }

-- the number of a known part is that of the numbers
pub known_number : (number word : ℕ) → unknown_part (part_in number word) ≡ false → number_in number word ≡ number
unfolding unknown_part number_in
known_number number word k = go (ltb 1 word) refl
  where
    go : (t : Bool) → ltb 1 word ≡ t → number_in number word ≡ number
    go true e = let z : unknown_part (part_in number word) ≡ true = simp e in absurd (unlike (sym z ∙ k))
    go false e = simp e

-- a known device has a known part
pub known_part : (n : DeviceNumbers) → unknown_device (device_in n) ≡ false → unknown_part (device_in n).part ≡ false
unfolding unknown_device
known_part n e = go (unknown_part (device_in n).part) refl
  where
    go : (t : Bool) → unknown_part (device_in n).part ≡ t → t ≡ false
    go true q = let z : unknown_device (device_in n) ≡ true = simp q in absurd (unlike (sym z ∙ e))
    go false q = refl

-- for code: a state that passes the test
pub resting_is : (n : StateNumbers) → resting_in n ≡ true → Resting n
unfolding resting_in
resting_is n e =
    let sum = n.left + 65536 * n.data + 4294967296 * n.address in
    let a = past (not (eqb sum 0)) _ e in
    let d = past (ltb 2 n.mode) _ a.1 in
    let z : n.left + 65536 * n.data + 4294967296 * n.address ≡ 0 = eqb-true sum 0 (not-false (eqb sum 0) a.0) in
    let low = eqb (key_of n / 256 % 8) 0 in
    let ready = eqb (key_of n / 16384) 2 in
    let m : n.mode ≤ 2 = ltb-false 2 n.mode d.0 in
    let l : key_of n / 256 % 8 ≡ 0 = eqb-true (key_of n / 256 % 8) 0 (and_left low ready d.1) in
    let h : key_of n / 16384 ≡ 2 = eqb-true (key_of n / 16384) 2 (and_right low ready d.1) in
    record {
      address = omega (arith, z);
      left = omega (arith, z);
      unit = omega (arith, z);
      phase = omega (arith, h);
      suspend = omega (arith, h);
      mode = m;
      low = omega (arith, l, h, m);
      ready = omega (arith, h, m);
    }
