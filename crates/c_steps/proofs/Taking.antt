-- What the sufficient test of a step knows: the part is one, the numbers are a record, and nothing refuses the step.
use mathlib.Core.Path.{◌≡◌, refl, sym, ap, ◌∙◌, subst}
use mathlib.Core.Bool.{Bool, true, false, not, ◌&&◌, ◌||◌}
use Prim.Native.Nat.{ℕ, zero, suc, ◌+◌, ◌*◌, ◌/◌, ◌%◌, ◌≤◌, ◌<◌}
use native.Mathlib.Omega.{arith}
use lib.Dec.{eqb, ltb, leb}
use borrow.Author.Tests.{le-ltb, eq-eqb, ne_eqb, eqb-true, le-leb, lt-leb}
use Rattle.std.specs.Prelude.{if◌then◌else◌}
use Rattle.common.proofs.Choice.{if_false}
use Rattle.device.specs.declared.Part.{Part}
use Rattle.device.specs.declared.Span.{Span}
use Rattle.device.specs.Parts.{is_large, unknown_part, length_of, start_of}
use Rattle.device.specs.Inner.{span_of}
use Rattle.model_levels.specs.Levels.{vpp_low, at_twelve, at_five, vpp_high, bad_wp, bad_pins}
use Rattle.units.specs.Units.{torn, units_in, bytes_in, lent_in}
use Rattle.c_cycle.specs.Values.{number_in, part_in, pins_in}
use Rattle.loader_steps.specs.Front.{barred_pins, no_block, wrong_lengths, step_number}
use Rattle.loader_steps.proofs.StartAndStep.{taken_back}
use Rattle.c_records.specs.Records.{no_record, polls_in, loader_in}
use Rattle.c_records.specs.declared.LoaderNumbers.{LoaderNumbers}
use Rattle.c_steps.specs.Steps.{word_in}
use Rattle.c_steps.specs.Inner.{Takes}

-- a mode that is one leaves the part's number
number_is : (part word : ℕ) → 4 * word < part → part ≤ 8 → number_in part word ≡ part
unfolding number_in
number_is part word h k = if_false (ltb 1 word) 0 part (le-ltb 1 word (omega (arith, h, k)))

known_bytes : (part : ℕ) → 0 < part → part ≤ 8 → (w : Bool) → (w ≡ true → 5 ≤ part) → unknown_part (record { number = part; word = w }) ≡ false
unfolding unknown_part is_large
known_bytes part h k true m = simp (ne_eqb part 0 (λ (z : part ≡ 0). omega (arith, h, z)), le-ltb 8 part k, le-leb 5 part (m refl))
known_bytes part h k false m = simp (ne_eqb part 0 (λ (z : part ≡ 0). omega (arith, h, z)), le-ltb 8 part k)

-- VPP is low or high, on a part of devices 5 to 8 or on another
abbrev pub supplied : Bool → ℕ → Bool
supplied t v =
    (if t then leb v 1500 else leb v 6500)
    || (if t then ((leb 4500 v && leb v 5500) || (leb 11400 v && leb v 12600)) else (leb 11400 v && leb v 12600))

pub at_twelve_lem : (t : Bool) (v : ℕ) → 11400 ≤ v → v ≤ 12600 → supplied t v ≡ true
at_twelve_lem true v a b = simp (lt-leb v 1500 (omega (arith, a)), le-leb 4500 v (omega (arith, a)), lt-leb v 5500 (omega (arith, a)), le-leb 11400 v a, le-leb v 12600 b)
at_twelve_lem false v a b = simp (lt-leb v 6500 (omega (arith, a)), le-leb 11400 v a, le-leb v 12600 b)

pub at_none : (t : Bool) (v : ℕ) → v ≤ 1500 → supplied t v ≡ true
at_none true v a = simp (le-leb v 1500 a)
at_none false v a = simp (le-leb v 6500 (omega (arith, a)))

pub at_five_lem : (t : Bool) (v : ℕ) → 4500 ≤ v → v ≤ 5500 → supplied t v ≡ true
at_five_lem true v a b = simp (lt-leb v 1500 (omega (arith, a)), le-leb 4500 v a, le-leb v 5500 b)
at_five_lem false v a b = simp (le-leb v 6500 (omega (arith, b)))

good_wp : (t : Bool) (w : ℕ) → w ≤ 1 → (if t then ltb 1 w else false) ≡ false
good_wp true w h = le-ltb 1 w h
good_wp false w h = refl

-- no part bars such levels
pub unbarred : (part : Part) (rp wp vpp : ℕ) → 0 < rp → rp ≤ 2 → wp ≤ 1 → supplied (is_large part) vpp ≡ true → barred_pins part (pins_in rp wp vpp) ≡ false
unfolding barred_pins bad_pins vpp_low vpp_high at_five at_twelve bad_wp
unbarred part rp wp vpp a b c e =
    λ i. ((le-ltb 2 rp b i || not (e i)) || good_wp (is_large part) wp c i) || ne_eqb rp 0 (λ (z : rp ≡ 0). omega (arith, a, z)) i

-- the units of so many whole units
lent_back : (w : Bool) (n m : ℕ) → m ≡ bytes_in w n → lent_in w m ≡ n
unfolding lent_in
lent_back false n m e = e
lent_back true n m e =
    let a : m % 2 ≡ 0 = omega (arith, e) in
    let b : m / 2 ≡ n = omega (arith, e) in
    if_false (eqb (m % 2) 1) 0 (m / 2) (ne_eqb (m % 2) 1 (λ (z : m % 2 ≡ 1). omega (arith, a, z))) ∙ b

module _ (n : LoaderNumbers) (s : Span) (wanted scratch : ℕ) (h : 4 * n.word < n.part) (k : n.part ≤ 8) (m : n.polls ≤ 65534) (e : n.end ≡ 0) (g : n.high ≡ 0) (v : n.verify ≤ 1) (t : n.stage ≤ 11) where
  abbrev P : Part
  P = record { number = n.part; word = eqb n.word 1 }

  record_is : no_record n ≡ false
  unfolding no_record
  record_is = simp (le-ltb 11 n.stage t, eq-eqb n.end 0 e, le-ltb 1 n.verify v, le-ltb 1 n.word (omega (arith, h, k)), le-ltb 1 n.high (omega (arith, g)))

  polls_are : polls_in n ≤ 65534
  unfolding polls_in
  polls_are = let p : polls_in n ≡ n.polls = if_false (no_record n) 65535 n.polls record_is in omega (arith, p, m)

  part_is : part_in n.part n.word ≡ P
  part_is = λ i. record { number = number_is n.part n.word h k i; word = eqb n.word 1 }

  large : eqb n.word 1 ≡ true → 5 ≤ n.part
  large q = let o : n.word ≡ 1 = eqb-true n.word 1 q in omega (arith, h, o)

  module _ (a : s ≡ span_of P n.block) (place : n.place < s.length) (levels : barred_pins P (pins_in n.rp n.wp n.vpp) ≡ false) (x : wanted ≡ bytes_in (eqb n.word 1) s.length) (y : scratch ≡ bytes_in (eqb n.word 1) s.length) where
    long : s.length ≡ length_of (loader_in n).part n.block
    long = ap (λ (u : Span). u.length) a ∙ ap (λ (p : Part). length_of p n.block) (sym part_is)

    X : lent_in (word_in n) wanted ≡ s.length
    X = lent_back (word_in n) s.length wanted x

    Y : lent_in (word_in n) scratch ≡ s.length
    Y = lent_back (word_in n) s.length scratch y

    goes : step_number (loader_in n) (lent_in (word_in n) wanted) (lent_in (word_in n) scratch) ≡ 0
    unfolding no_block wrong_lengths
    goes =
        taken_back (loader_in n) (lent_in (word_in n) wanted) (lent_in (word_in n) scratch)
        (record {
          known = ap (λ (p : Part). unknown_part p) part_is ∙ known_bytes n.part (omega (arith, h)) k (eqb n.word 1) large;
          levels = ap (λ (p : Part). barred_pins p (pins_in n.rp n.wp n.vpp)) part_is ∙ levels;
          block = ne_eqb _ 0 (λ (z : length_of (loader_in n).part n.block ≡ 0). omega (arith, place, long, z));
          lengths = λ i. not (eq-eqb _ _ (X ∙ long) i) || not (eq-eqb _ _ (Y ∙ long) i);
          wanted = X ∙ long;
          place = omega (arith, place, X);
          polls = polls_are;
        })

    pub takes : Takes n s wanted scratch
    takes =
        record {
          number = goes;
          first = ap (λ (u : Span). u.first) a ∙ ap (λ (p : Part). start_of p n.block) (sym part_is);
          length = sym X;
          end = e;
          high = g;
        }
