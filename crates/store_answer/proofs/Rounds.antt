-- The walk that lists a store, round by round, and what the reader makes of a file in it.
use mathlib.Core.Path.{◌≡◌, refl, sym, ap, ◌∙◌}
use mathlib.Core.Bool.{Bool}
use mathlib.Core.List.{List, ◌++◌}
use Prim.Native.Nat.{ℕ, suc, ◌+◌, ◌-◌, ◌/◌, ◌<◌, ◌≤◌}
use native.Mathlib.Omega.{arith}
use lib.ListN.{length, take, drop}
use lib.Seq.{take_at}
use Rattle.text.specs.Writing.{bytes, laid_at, behind}
use Rattle.text.proofs.Laying.{Laid, laid_first, laid_more, laid_none, laid_length}
use Rattle.store_answer.specs.declared.Pace.{Pace}
use Rattle.store_answer.specs.Listing.{pace_as, pace_on, payload_text, file_text, piece_of, pieces_from, pieces_of}

-- what is left to tell of the places, laid behind what stands, is all that is told of them
pub record Goes (rows : Bool) (main xs now : List ℕ) (a n p at : ℕ) (w : Pace) : Type 0 where
  pub place : behind now at (pieces_from rows (n - p) main p w) ≡ behind xs a (pieces_of rows main)
  pub bytes : laid_at now at (pieces_from rows (n - p) main p w) ≡ laid_at xs a (pieces_of rows main)
  pub inside : at ≤ length now

pub goes_start : (rows : Bool) (main xs : List ℕ) (a : ℕ) (w : Pace) → a ≤ length xs → w ≡ pace_as 0 0 → Goes rows main xs xs a (length main / 512) 0 a w
goes_start rows main xs a w h e =
    let z : length main / 512 - 0 ≡ length main / 512 = omega arith in
    record {
      place = (λ i. behind xs a (pieces_from rows (z i) main 0 (e i)));
      bytes = (λ i. laid_at xs a (pieces_from rows (z i) main 0 (e i)));
      inside = h;
    }

-- one place more
pub goes_on : (rows : Bool) (main xs now next : List ℕ) (a n p at to : ℕ) (w v : Pace) → Goes rows main xs now a n p at w → p < n
    → to ≡ behind now at (piece_of rows main p w) → next ≡ laid_at now at (piece_of rows main p w) → v ≡ pace_on main p w → Goes rows main xs next a n (p + 1) to v
goes_on rows main xs now next a n p at to w v g h ep eb ev =
    let e : n - p ≡ suc (n - (p + 1)) = omega (arith, h) in
    let K = piece_of rows main p w in
    let R = pieces_from rows (n - (p + 1)) main (p + 1) (pace_on main p w) in
    let f : Laid now at K next to = laid_first now K next at to ep eb in
    let l = laid_more now K R next (laid_at next to R) at to (behind next to R) f refl refl in
    let q : K ++ R ≡ pieces_from rows (n - p) main p w = sym (ap (λ (m : ℕ). pieces_from rows m main p w) e) in
    let r : pieces_from rows (n - (p + 1)) main (p + 1) v ≡ R = ap (λ (z : Pace). pieces_from rows (n - (p + 1)) main (p + 1) z) ev in
    let m : length next ≡ length now = ap length f.bytes ∙ laid_length now at K in
    let y = f.place in
    record {
      place = ap (behind next to) r ∙ l.place ∙ ap (behind now at) q ∙ g.place;
      bytes = ap (laid_at next to) r ∙ l.bytes ∙ ap (laid_at now at) q ∙ g.bytes;
      inside = omega (arith, y, m);
    }

-- no place more
pub goes_end : (rows : Bool) (main xs now : List ℕ) (a n p at : ℕ) (w : Pace) → Goes rows main xs now a n p at w → n ≤ p
    → (at ≡ behind xs a (pieces_of rows main)) × (now ≡ laid_at xs a (pieces_of rows main))
goes_end rows main xs now a n p at w g h =
    let e : n - p ≡ 0 = omega (arith, h) in
    let l = laid_none now at g.inside in
    let q : pieces_from rows 0 main p w ≡ pieces_from rows (n - p) main p w = sym (ap (λ (m : ℕ). pieces_from rows m main p w) e) in
    (l.place ∙ ap (behind now at) q ∙ g.place, l.bytes ∙ ap (laid_at now at) q ∙ g.bytes)
