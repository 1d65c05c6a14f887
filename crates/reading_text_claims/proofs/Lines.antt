-- A line that was written is read again as its knot, and the knot's six bytes are those of the payload.
use mathlib.Core.Path.{◌≡◌, refl, sym, ap, ap₂, ◌∙◌}
use mathlib.Core.Bool.{Bool, true, false}
use mathlib.Core.List.{List, [], ◌∷◌, ◌++◌, append_assoc}
use Prim.Native.Nat.{ℕ, suc, ◌+◌, ◌-◌, ◌*◌, ◌/◌, ◌%◌, ◌<◌}
use native.Mathlib.Omega.{arith}
use lib.Dec.{leb, ltb}
use lib.IntN.{ℤ, pos, negsuc, nat_abs}
use lib.Signed.{lt_z}
use lib.ListN.{length, get_or, take, drop}
use lib.Seq.{drop-cons}
use borrow.Author.Tests.{le-ltb, le-leb, lt-leb, ltb-true, ltb-false}
use Rattle.std.specs.Prelude.{if◌then◌else◌}
use Rattle.common.specs.Lists.{Bytes}
use Rattle.reading_table.specs.Table.{knots, word32, word16, signed32, signed16, volts_of, tenths_of}
use Rattle.reading_table.proofs.Places.{volts_in, tenths_in}
use Rattle.reading_print.specs.Texts.{number_text, knot_text}
use Rattle.reading_text.specs.declared.Number.{Number}
use Rattle.reading_text.specs.declared.Scan.{Scan}
use Rattle.reading_text.specs.Tables.{Scanned, bits_of, six_of, with_knot, fits_tenths, line_wrong, gap_wrong, at_gap, within_line, scan_more, scan_all}
use Rattle.reading_text.proofs.Walks.{step_within, step_line, end_right}
use Rattle.reading_text_claims.proofs.Letters.{numbered, at_number, number}

-- a number that was read whole, and a line at its start
abbrev pub wholly : ℤ → Number
wholly z = numbered (lt_z z (pos 0)) true (nat_abs z)

abbrev pub at_line : ℕ → List ℕ → Scanned
at_line k out = at_number (numbered false false 0) (numbered false false 0) false k out

gap : (v : ℤ) (k : ℕ) (out : List ℕ) → scan_more (at_number (wholly v) (numbered false false 0) false k out).scan 32 out ≡ at_number (numbered false false 0) (wholly v) true k out
unfolding within_line at_gap gap_wrong
gap v k out = step_within (at_number (wholly v) (numbered false false 0) false k out).scan 32 out refl refl

newline : (v t : ℤ) (k : ℕ) (out : List ℕ) → fits_tenths (wholly t) ≡ true → k < length out / 6
    → scan_more (at_number (wholly t) (wholly v) true k out).scan 10 out ≡ at_line (k + 1) (with_knot out k (wholly v) (wholly t))
unfolding line_wrong
newline v t k out f h =
    let s : Scan = (at_number (wholly t) (wholly v) true k out).scan in
    let w : line_wrong s (length out) ≡ false = simp (f, lt-leb (length out / 6) k h) in
    step_line s 10 out refl refl ∙ end_right s out w

pub line : (v t : ℤ) (k : ℕ) (out rest : List ℕ) → nat_abs v < 1000000000 → nat_abs t < 1000000000 → fits_tenths (wholly t) ≡ true → k < length out / 6
    → scan_all (knot_text v t ++ rest) (at_line k out) ≡ scan_all rest (at_line (k + 1) (with_knot out k (wholly v) (wholly t)))
line v t k out rest l m f h =
    let A = number_text v in
    let B = number_text t in
    let e : knot_text v t ++ rest ≡ A ++ (32 ∷ (B ++ (10 ∷ rest))) =
    append_assoc ((A ++ (32 ∷ [])) ++ B) (10 ∷ []) rest ∙ append_assoc (A ++ (32 ∷ [])) B (10 ∷ rest) ∙ append_assoc A (32 ∷ []) (B ++ (10 ∷ rest)) in
    ap (λ (z : List ℕ). scan_all z (at_line k out)) e
    ∙ number (lt_z v (pos 0)) (nat_abs v) (numbered false false 0) false k out (32 ∷ (B ++ (10 ∷ rest))) l
    ∙ ap (scan_all (B ++ (10 ∷ rest))) (gap v k out)
    ∙ number (lt_z t (pos 0)) (nat_abs t) (wholly v) true k out (10 ∷ rest) m
    ∙ ap (scan_all rest) (newline v t k out f h)

-- the bits of a signed number are those it was made of
bits_plain : (n top : ℕ) → n < top → 0 < top → bits_of (wholly (pos n)) top ≡ n % top
unfolding bits_of
bits_plain n top h k = ap (λ (b : Bool). if b then (top - n % top) % top else n % top) (le-ltb n 0 (omega arith))

bits_minus : (n top : ℕ) → bits_of (wholly (negsuc n)) top ≡ (top - suc n % top) % top
unfolding bits_of
bits_minus n top = refl

bits_32 : (w : ℕ) → w < 4294967296 → bits_of (wholly (signed32 w)) 4294967296 ≡ w
unfolding signed32
bits_32 w h = go (ltb w 2147483648) refl
  where
    go : (b : Bool) → ltb w 2147483648 ≡ b → bits_of (wholly (if b then pos w else negsuc (4294967295 - w))) 4294967296 ≡ w
    go true e = bits_plain w 4294967296 h (omega arith) ∙ (let q : w % 4294967296 ≡ w = omega (arith, h) in q)
    go false e = let l = ltb-false w 2147483648 e in bits_minus (4294967295 - w) 4294967296 ∙ (let q : (4294967296 - suc (4294967295 - w) % 4294967296) % 4294967296 ≡ w = omega (arith, h, l) in q)

bits_16 : (w : ℕ) → w < 65536 → bits_of (wholly (signed16 w)) 65536 ≡ w
unfolding signed16
bits_16 w h = go (ltb w 32768) refl
  where
    go : (b : Bool) → ltb w 32768 ≡ b → bits_of (wholly (if b then pos w else negsuc (65535 - w))) 65536 ≡ w
    go true e = bits_plain w 65536 h (omega arith) ∙ (let q : w % 65536 ≡ w = omega (arith, h) in q)
    go false e = let l = ltb-false w 32768 e in bits_minus (65535 - w) 65536 ∙ (let q : (65536 - suc (65535 - w) % 65536) % 65536 ≡ w = omega (arith, h, l) in q)

-- tenths of 16 bits fit
fits_16 : (w : ℕ) → w < 65536 → fits_tenths (wholly (signed16 w)) ≡ true
unfolding signed16 fits_tenths
fits_16 w h = go (ltb w 32768) refl
  where
    go : (b : Bool) → ltb w 32768 ≡ b
        → (if lt_z (if b then pos w else negsuc (65535 - w)) (pos 0) then leb (nat_abs (if b then pos w else negsuc (65535 - w))) 32768 else leb (nat_abs (if b then pos w else negsuc (65535 - w))) 32767) ≡ true
    go true e = let l = ltb-true w 32768 e in ap (λ (b : Bool). if b then leb w 32768 else leb w 32767) (le-ltb w 0 (omega arith)) ∙ le-leb w 32767 (omega (arith, l))
    go false e = let l = ltb-false w 32768 e in le-leb (suc (65535 - w)) 32768 (omega (arith, l))

-- four bytes and two, put together and taken apart
six : (a b c d e f : ℕ) → a < 256 → b < 256 → c < 256 → d < 256 → e < 256 → f < 256 → six_of (word32 a b c d) (word16 e f) ≡ a ∷ b ∷ c ∷ d ∷ e ∷ f ∷ []
six a b c d e f ha hb hc hd he hf =
    let p : word32 a b c d / 16777216 % 256 ≡ a = omega (arith, ha, hb, hc, hd) in
    let q : word32 a b c d / 65536 % 256 ≡ b = omega (arith, ha, hb, hc, hd) in
    let r : word32 a b c d / 256 % 256 ≡ c = omega (arith, ha, hb, hc, hd) in
    let s : word32 a b c d % 256 ≡ d = omega (arith, ha, hb, hc, hd) in
    let t : word16 e f / 256 % 256 ≡ e = omega (arith, he, hf) in
    let u : word16 e f % 256 ≡ f = omega (arith, he, hf) in
    λ i. p i ∷ q i ∷ r i ∷ s i ∷ t i ∷ u i ∷ []

word_small : (a b c d : ℕ) → a < 256 → b < 256 → c < 256 → d < 256 → word32 a b c d < 4294967296
word_small a b c d ha hb hc hd = omega (arith, ha, hb, hc, hd)

half_small : (e f : ℕ) → e < 256 → f < 256 → word16 e f < 65536
half_small e f he hf = omega (arith, he, hf)

module _ (p : List ℕ) (bytes : Bytes p) (i : ℕ) (h : i < knots p) where
  one : (n m k : ℕ) → n < length p → m ≡ n + 1 → take (suc k) (drop n p) ≡ get_or p n 0 ∷ take k (drop m p)
  one n m k l e = ap (take (suc k)) (drop-cons p n 0 l) ∙ ap (λ (z : ℕ). get_or p n 0 ∷ take k (drop z p)) (let q : suc n ≡ m = omega (arith, e) in q)

  -- knot i's six bytes
  pub six_bytes : take 6 (drop (6 * i) p) ≡ get_or p (6 * i) 0 ∷ get_or p (6 * i + 1) 0 ∷ get_or p (6 * i + 2) 0 ∷ get_or p (6 * i + 3) 0 ∷ get_or p (6 * i + 4) 0 ∷ get_or p (6 * i + 5) 0 ∷ []
  six_bytes =
      one (6 * i) (6 * i + 1) 5 (omega (arith, h)) (omega arith)
      ∙ ap (λ (z : List ℕ). get_or p (6 * i) 0 ∷ z) (one (6 * i + 1) (6 * i + 2) 4 (omega (arith, h)) (omega arith)
      ∙ ap (λ (z : List ℕ). get_or p (6 * i + 1) 0 ∷ z) (one (6 * i + 2) (6 * i + 3) 3 (omega (arith, h)) (omega arith)
      ∙ ap (λ (z : List ℕ). get_or p (6 * i + 2) 0 ∷ z) (one (6 * i + 3) (6 * i + 4) 2 (omega (arith, h)) (omega arith)
      ∙ ap (λ (z : List ℕ). get_or p (6 * i + 3) 0 ∷ z) (one (6 * i + 4) (6 * i + 5) 1 (omega (arith, h)) (omega arith)
      ∙ ap (λ (z : List ℕ). get_or p (6 * i + 4) 0 ∷ z) (one (6 * i + 5) (6 * i + 6) 0 (omega (arith, h)) (omega arith))))))

  pub knot_bytes : six_of (bits_of (wholly (volts_of p i)) 4294967296) (bits_of (wholly (tenths_of p i)) 65536) ≡ take 6 (drop (6 * i) p)
  knot_bytes =
      ap₂ six_of
      (ap (λ (z : ℤ). bits_of (wholly z) 4294967296) (volts_in p i h) ∙ bits_32 (word32 (get_or p (6 * i) 0) (get_or p (6 * i + 1) 0) (get_or p (6 * i + 2) 0) (get_or p (6 * i + 3) 0)) (word_small (get_or p (6 * i) 0) (get_or p (6 * i + 1) 0) (get_or p (6 * i + 2) 0) (get_or p (6 * i + 3) 0) (bytes (6 * i)) (bytes (6 * i + 1)) (bytes (6 * i + 2)) (bytes (6 * i + 3))))
      (ap (λ (z : ℤ). bits_of (wholly z) 65536) (tenths_in p i h) ∙ bits_16 (word16 (get_or p (6 * i + 4) 0) (get_or p (6 * i + 5) 0)) (half_small (get_or p (6 * i + 4) 0) (get_or p (6 * i + 5) 0) (bytes (6 * i + 4)) (bytes (6 * i + 5))))
      ∙ six (get_or p (6 * i) 0) (get_or p (6 * i + 1) 0) (get_or p (6 * i + 2) 0) (get_or p (6 * i + 3) 0) (get_or p (6 * i + 4) 0) (get_or p (6 * i + 5) 0) (bytes (6 * i)) (bytes (6 * i + 1)) (bytes (6 * i + 2)) (bytes (6 * i + 3)) (bytes (6 * i + 4)) (bytes (6 * i + 5))
      ∙ sym six_bytes

  pub tenths_fit_lem : fits_tenths (wholly (tenths_of p i)) ≡ true
  tenths_fit_lem = ap (λ (z : ℤ). fits_tenths (wholly z)) (tenths_in p i h) ∙ fits_16 (word16 (get_or p (6 * i + 4) 0) (get_or p (6 * i + 5) 0)) (half_small (get_or p (6 * i + 4) 0) (get_or p (6 * i + 5) 0) (bytes (6 * i + 4)) (bytes (6 * i + 5)))
