-- What the test of a supplied cycle comes to.
use mathlib.Core.Path.{◌≡◌, refl, sym, ap, ◌∙◌}
use mathlib.Core.Bool.{Bool, true, false, not, ◌&&◌, ◌||◌}
use Prim.Native.Nat.{ℕ, ◌≤◌, ◌<◌}
use native.Mathlib.Omega.{arith}
use lib.Dec.{eqb, ltb, leb}
use borrow.Author.Tests.{eqb-true, leb-true, leb-false, le-leb, lt-leb, not-false}
use Rattle.std.specs.Prelude.{if◌then◌else◌}
use Rattle.common.proofs.Choice.{if_same, if_false, and_left, and_right, or_left, or_right, unlike}
use Rattle.device.specs.Parts.{is_large, unknown_part, size_of}
use Rattle.model_levels.specs.Levels.{vpp_low, vpp_high, at_twelve, at_five, bad_wp, bad_pins}
use Rattle.c_cycle.specs.Values.{number_in, device_in, pins_in, cycle_in}
use Rattle.c_cycle.specs.declared.DeviceNumbers.{DeviceNumbers}
use Rattle.c_cycle.specs.declared.BusNumbers.{BusNumbers}
use Rattle.c_ordinary.specs.Ordinary.{units_for, level_in, fair_level_in, timed_in, Fair}
use Rattle.c_ordinary.proofs.Sufficient.{fits, level_up, level_most, fair_is, fair_at, known_number, known_part}
use Rattle.c_operations.specs.Operations.{Supplied, Cutting, raised_in, up_in}

-- VPP at 12 V, or at 5 V on devices 5 to 8, is not low
supplied : (d : DeviceNumbers) (rp wp vpp : ℕ) → unknown_part (device_in d).part ≡ false → ((11400 ≤ vpp → ⊥) → (4500 ≤ vpp) × (5 ≤ d.number))
    → vpp_low (device_in d).part (pins_in rp wp vpp) ≡ false
unfolding vpp_low is_large
supplied d rp wp vpp k h = go (leb 11400 vpp) refl
  where
    go : (t : Bool) → leb 11400 vpp ≡ t → vpp_low (device_in d).part (pins_in rp wp vpp) ≡ false
    go true e =
        let v = leb-true 11400 vpp e in
        simp (lt-leb vpp 1500 (omega (arith, v)), lt-leb vpp 6500 (omega (arith, v)), if_same (leb 5 (number_in d.number d.word)) false)
    go false e =
        let f = leb-false 11400 vpp e in
        let v = h (λ (q : 11400 ≤ vpp). (omega (arith, q, f))) in
        simp (known_number d.number d.word k, le-leb 5 d.number v.1, lt-leb vpp 1500 (let w = v.0 in omega (arith, w)))

-- where an operation goes on
up_is : (number rp vpp : ℕ) → up_in number rp vpp ≡ true → (eqb rp 0 ≡ false) × ((11400 ≤ vpp → ⊥) → (4500 ≤ vpp) × (5 ≤ number))
unfolding up_in
up_is number rp vpp = go (eqb rp 0) (leb 11400 vpp) refl
  where
    go : (z t : Bool) → leb 11400 vpp ≡ t → (if z then false else if t then true else leb 4500 vpp && leb 5 number) ≡ true
        → (z ≡ false) × ((11400 ≤ vpp → ⊥) → (4500 ≤ vpp) × (5 ≤ number))
    go true t q e = absurd (unlike (sym e))
    go false true q e = (refl, (λ h. absurd (h (leb-true 11400 vpp q))))
    go false false q e = (refl, (λ h. (leb-true 4500 vpp (and_left (leb 4500 vpp) (leb 5 number) e), leb-true 5 number (and_right (leb 4500 vpp) (leb 5 number) e))))

-- for code
pub supplies_fair : (d : DeviceNumbers) (b : BusNumbers) (len : ℕ) → Fair d b len → up_in d.number b.rp b.vpp ≡ true → Supplied d b len
supplies_fair d b len f e =
    let u = up_is d.number b.rp b.vpp e in
    record { ordinary = record { fair = f; up = u.0 }; supplied = supplied d b.rp b.wp b.vpp (known_part d f.known) u.1 }

-- VPP that is good and does not let an operation go on is low
low_by : (large : Bool) (v : ℕ) → (if leb 11400 v then true else leb 4500 v && large) ≡ false
    → ((if large then leb v 1500 else leb v 6500) || (if large then (leb 4500 v && leb v 5500) || (leb 11400 v && leb v 12600) else leb 11400 v && leb v 12600)) ≡ true
    → (if large then leb v 1500 else leb v 6500) ≡ true
low_by large v = go large (leb 11400 v) (leb 4500 v)
  where
    or_false : (a : Bool) → (a || false) ≡ true → a ≡ true
    or_false true e = refl
    or_false false e = e

    go : (large twelve five : Bool) → (if twelve then true else five && large) ≡ false
        → ((if large then leb v 1500 else leb v 6500) || (if large then (five && leb v 5500) || (twelve && leb v 12600) else twelve && leb v 12600)) ≡ true
        → (if large then leb v 1500 else leb v 6500) ≡ true
    go large true five e h = absurd (unlike e)
    go true false true e h = absurd (unlike e)
    go true false false e h = or_false (leb v 1500) h
    go false false five e h = or_false (leb v 6500) h

-- for code: a fair cycle with RP# up that lets no operation go on has VPP low
pub falls : (d : DeviceNumbers) (b : BusNumbers) (len : ℕ) → Fair d b len → up_in d.number b.rp b.vpp ≡ false → eqb b.rp 0 ≡ false
    → vpp_low (device_in d).part (cycle_in b).pins ≡ true
unfolding up_in bad_pins vpp_low vpp_high at_twelve at_five is_large
falls d b len f e z =
    let part = (device_in d).part in
    let p = pins_in b.rp b.wp b.vpp in
    let both = or_left (ltb 2 b.rp || not (vpp_low part p || vpp_high part p)) (bad_wp part p) f.pins in
    let good = not-false (vpp_low part p || vpp_high part p) (or_right (ltb 2 b.rp) (not (vpp_low part p || vpp_high part p)) both) in
    let same = known_number d.number d.word (known_part d f.known) in
    low_by (leb 5 (number_in d.number d.word)) b.vpp (ap (λ (x : ℕ). if leb 11400 b.vpp then true else leb 4500 b.vpp && leb 5 x) same ∙ sym (if_false (eqb b.rp 0) false _ z) ∙ e) good

-- for code: RP# low, or no write where VPP is
pub cutting : (d : DeviceNumbers) (b : BusNumbers) (len : ℕ) → Fair d b len → up_in d.number b.rp b.vpp ≡ false
    → (not (eqb b.kind 1) || eqb b.rp 0) ≡ true → Cutting d b
cutting d b len f e h = record { low = falls d b len f e; unwritten = λ z. go (eqb b.kind 1) (eqb b.rp 0) h z }
  where
    go : (k z : Bool) → (not k || z) ≡ true → z ≡ false → k ≡ false
    go true true h q = absurd (unlike q)
    go true false h q = absurd (unlike (sym h))
    go false z h q = refl

-- for code: RP# may be low
pub fairs_at : (d : DeviceNumbers) (b : BusNumbers) (len : ℕ) → timed_in d ≡ true → fair_level_in b.rp b.oe b.wp b.vpp ≡ true
    → (u : ℕ) → u ≡ units_for d.number d.word len → b.address < u → b.kind ≤ 2 → Fair d b len × (u ≡ size_of (device_in d).part)
fairs_at d b len t l u e i k =
    let some : b.address < units_for d.number d.word len = omega (arith, i, e) in
    let f = fits d.number d.word len (omega (arith, some)) in
    (fair_at d b len t l some k, e ∙ f.whole)

-- the same of a cycle with RP# up, by its tests alone
pub supplies_up : (d : DeviceNumbers) (b : BusNumbers) (len : ℕ) → timed_in d ≡ true → fair_level_in b.rp b.oe b.wp b.vpp ≡ true → eqb b.rp 0 ≡ false
    → ((11400 ≤ b.vpp → ⊥) → (4500 ≤ b.vpp) × (5 ≤ d.number)) → (u : ℕ) → u ≡ units_for d.number d.word len → b.address < u
    → (b.kind ≤ 2 → Supplied d b len) × (u ≡ size_of (device_in d).part)
supplies_up d b len t l z h u e i =
    let some : b.address < units_for d.number d.word len = omega (arith, i, e) in
    let f = fits d.number d.word len (omega (arith, some)) in
    ((λ k. record { ordinary = record { fair = fair_at d b len t l some k; up = z }; supplied = supplied d b.rp b.wp b.vpp f.known h }), e ∙ f.whole)

-- .. and by the levels that are good with RP# up
pub supplies : (d : DeviceNumbers) (b : BusNumbers) (len : ℕ) → timed_in d ≡ true → level_in b.rp b.oe b.wp b.vpp ≡ true
    → ((11400 ≤ b.vpp → ⊥) → (4500 ≤ b.vpp) × (5 ≤ d.number)) → (u : ℕ) → u ≡ units_for d.number d.word len → b.address < u
    → (b.kind ≤ 2 → Supplied d b len) × (u ≡ size_of (device_in d).part)
supplies d b len t l h u e i =
    let z = level_up b.rp b.oe b.wp b.vpp l in
    supplies_up d b len t z.0 z.1 h u e i

-- a fair cycle by the levels with RP# as it is up
pub fairs : (d : DeviceNumbers) (b : BusNumbers) (len : ℕ) → timed_in d ≡ true → (q : ℕ) → q ≡ raised_in b.rp → level_in q b.oe b.wp b.vpp ≡ true
    → (u : ℕ) → u ≡ units_for d.number d.word len → b.address < u → (b.kind ≤ 2 → Fair d b len) × (u ≡ size_of (device_in d).part)
unfolding raised_in
fairs d b len t q p l u e i =
    let some : b.address < units_for d.number d.word len = omega (arith, i, e) in
    let f = fits d.number d.word len (omega (arith, some)) in
    let m = level_most q b.oe b.wp b.vpp l in
    ((λ k. fair_is d b len q t l (least (eqb b.rp 0) refl m) some k), e ∙ f.whole)
  where
    least : (s : Bool) → eqb b.rp 0 ≡ s → q ≤ 2 → b.rp ≤ 2
    least true g m = omega (arith, eqb-true b.rp 0 g)
    least false g m = let h : q ≡ b.rp = p ∙ simp g in omega (arith, m, h)
