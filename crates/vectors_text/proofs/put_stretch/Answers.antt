-- `vectors_text::put_stretch` meets its contract: a place and a count cut down to what there is give the same stretch.
use Rattle.std.proofs.Common.{◌≡◌, ℕ, ◌+◌, ◌-◌, ◌∙◌, ap, arith, List, ◌++◌, length, min, take, drop, replicate, length-take, length-drop}
use lib.Seq.{drop-drop}
use Rattle.std.proofs.lemmas.List.{take_min, drop_min}
use Rattle.vectors_text.specs.Patterns.{stretched}
use Rattle.vectors_text.proofs.put_stretch.Goals as goal

module _ (s ys : List ℕ) (at n p place q count w v : ℕ) where
  pub cut : at ≡ min p (length s) → p ≡ place → n ≡ min q (length s - at) → q ≡ count → w ≡ v → ys ≡ replicate (length (take (at + n - at) (drop at s))) w → take at s ++ (ys ++ drop (at + n - at) (drop at s)) ≡ stretched s place count v
  unfolding stretched
  cut e f g h i r =
      let t : take at s ≡ take place s = ap (λ (k : ℕ). take k s) (e ∙ ap (λ (k : ℕ). min k (length s)) f) ∙ take_min place s in
      let m : length (take (at + n - at) (drop at s)) ≡ min count (length s - place) = omega (arith, length-take {A = ℕ}, length-drop {A = ℕ}) in
      let l : at + (at + n - at) ≡ min (place + count) (length s) = omega arith in
      let d : drop (at + n - at) (drop at s) ≡ drop (place + count) s = drop-drop (at + n - at) at s ∙ ap (λ (k : ℕ). drop k s) l ∙ drop_min (place + count) s in
      let y : ys ≡ replicate (min count (length s - place)) v = rw m at (rw i at r) in
      cc

pub returns : goal.returns
returns c =
    cut c.args.s.now c.fill.new.self c.min-at.result c.min-n.result _ _ _ _ _ _ c.min-at.ensures c.size_at.ensures c.min-n.ensures c.size_at-2.ensures c.byte_at.ensures (c.fill.ensures.after (λ y e. e))
