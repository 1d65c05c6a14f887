-- The slide's loop: what is laid and what is left to lay are all the files that stay.
use mathlib.Core.Path.{◌≡◌, refl, sym, ◌∙◌, ap, subst}
use mathlib.Core.List.{List, [], ◌++◌, append-nil, append_assoc}
use Prim.Native.Nat.{ℕ, ◌+◌, ◌-◌, ◌/◌, ◌≤◌, ◌<◌}
use native.Mathlib.Omega.{arith}
use lib.ListN.{length, get_or, take, drop, drop_of_length-le}
use lib.Seq.{length-take-le}
use borrow.Rule.Slice.PartMut.{mid_of}
use Rattle.common.proofs.Choice.{if_ind}
use Rattle.common.specs.Lists.{overlaid}
use Rattle.common.proofs.Bytes.{overlaid_length}
use Rattle.file_codec.specs.File.{limit}
use Rattle.store_places.specs.Store.{Proper, items_in}
use Rattle.store_contents.specs.Inner.{live_bytes, span_of, goes_of, stay_of}
use Rattle.store_survey.specs.Survey.{reader_number}
use Rattle.store_survey.proofs.Reader.{file_reader}
use Rattle.store_contents.proofs.Overlays.{take_laid}
use Rattle.store_contents.proofs.Stepping as stepping

-- the laws of the walk, for the reader of load files
abbrev pub Divided : List ℕ → Type 0
Divided xs = stepping.Divided (reader_number limit) (file_reader limit) xs

-- the files that stay
abbrev pub files : ℕ → List ℕ → List ℕ
files ℓ xs = live_bytes ℓ (items_in (reader_number limit) xs)

-- between two rounds
pub record Sliding (ℓ : ℕ) (main memory : List ℕ) (from to : ℕ) : Type 0 where
  pub inside : from ≤ length main
  pub behind : to ≤ from
  pub divided : Divided (drop from main)
  pub laid : take to memory ++ files ℓ (drop from main) ≡ files ℓ main

pub begins : (ℓ : ℕ) (main memory : List ℕ) → Proper (reader_number limit) (length main / 512) main → Sliding ℓ main memory 0 0
begins ℓ main memory P =
    record { inside = omega arith; behind = omega arith; divided = stepping.divided (reader_number limit) (file_reader limit) (length main / 512) main P; laid = refl }

stay_less : (ℓ : ℕ) (item : List ℕ) → length (stay_of ℓ item) ≤ length item
unfolding stay_of
stay_less ℓ item = if_ind (λ (x : List ℕ). length x ≤ length item) (goes_of (get_or item 0 0) ℓ) [] item (λ q. omega arith) (λ q. omega arith)

module _ (ℓ : ℕ) (main : List ℕ) (from x y : ℕ) (ex : x ≡ get_or main from 0) (ey : y ≡ get_or main (from + 2) 0) (h : from < length main) where
  round_ends : (memory : List ℕ) (to : ℕ) → Sliding ℓ main memory from to → from + span_of x y ≤ length main
  round_ends memory to s = stepping.ends_inside (reader_number limit) (file_reader limit) ℓ main from x y ex ey h s.divided

  round_falls : (memory : List ℕ) (to : ℕ) → Sliding ℓ main memory from to → from < from + span_of x y
  round_falls memory to s = stepping.goes_on (reader_number limit) (file_reader limit) ℓ main from x y ex ey h s.divided

  round_fits : (memory : List ℕ) (to : ℕ) → length memory ≡ length main → Sliding ℓ main memory from to → to + length (mid_of from (from + span_of x y - from) main) ≤ length memory
  round_fits memory to l s =
      let a = stepping.item_long (reader_number limit) (file_reader limit) ℓ main from x y ex ey h s.divided in
      let b = round_ends memory to s in let c = s.behind in omega arith

  round_kept : (memory memory' : List ℕ) (to to' : ℕ) → length memory ≡ length main → Sliding ℓ main memory from to
      → to' ≡ to + length (stay_of ℓ (mid_of from (from + span_of x y - from) main)) → memory' ≡ overlaid memory to (stay_of ℓ (mid_of from (from + span_of x y - from) main))
      → (length memory' ≡ length main) × Sliding ℓ main memory' (from + span_of x y) to'
  round_kept memory memory' to to' l s et em =
      let D = s.divided in
      let I = mid_of from (from + span_of x y - from) main in
      let S = stay_of ℓ I in
      let w = stay_less ℓ I in
      let a = stepping.item_long (reader_number limit) (file_reader limit) ℓ main from x y ex ey h D in
      let e = round_ends memory to s in
      let b = s.behind in
      let R = files ℓ (drop (from + span_of x y) main) in
      let g : length memory' ≡ length memory = ap (λ (z : List ℕ). length z) em ∙ overlaid_length memory to S (omega arith) in
      let t : take to' memory' ≡ take to memory ++ S = ap (λ (n : ℕ). take n memory') et ∙ ap (take (to + length S)) em ∙ take_laid memory S to (omega arith) in (
        g ∙ l,
        record {
          inside = e;
          behind = omega arith;
          divided = stepping.divided_on (reader_number limit) (file_reader limit) ℓ main from x y ex ey h D;
          laid =
              ap (λ (z : List ℕ). z ++ R) t ∙ append_assoc (take to memory) S R
              ∙ ap (λ (z : List ℕ). take to memory ++ z) (sym (stepping.live_on (reader_number limit) (file_reader limit) ℓ main from x y ex ey h D)) ∙ s.laid;
        },
      )

-- the same, the item's length known by an equation
module _ (ℓ : ℕ) (main memory : List ℕ) (from to x y z : ℕ) (ex : x ≡ get_or main from 0) (ey : y ≡ get_or main (from + 2) 0) (ez : z ≡ span_of x y) (h : from < length main)
    (l : length memory ≡ length main) (s : Sliding ℓ main memory from to) where
  pub item_ends : from + z ≤ length main
  item_ends = let a = round_ends ℓ main from x y ex ey h memory to s in omega arith

  pub item_some : 0 < z
  item_some = let a = round_falls ℓ main from x y ex ey h memory to s in omega arith

  pub item_fits : to + length (mid_of from (from + z - from) main) ≤ length memory
  item_fits = subst (λ (k : ℕ). to + length (mid_of from (from + k - from) main) ≤ length memory) (sym ez) (round_fits ℓ main from x y ex ey h memory to l s)

  pub item_laid : (memory' : List ℕ) (to' : ℕ) → to' ≡ to + length (stay_of ℓ (mid_of from (from + z - from) main)) → memory' ≡ overlaid memory to (stay_of ℓ (mid_of from (from + z - from) main))
      → (length memory' ≡ length main) × Sliding ℓ main memory' (from + z) to'
  item_laid memory' to' =
      subst (λ (k : ℕ). to' ≡ to + length (stay_of ℓ (mid_of from (from + k - from) main)) → memory' ≡ overlaid memory to (stay_of ℓ (mid_of from (from + k - from) main))
      → (length memory' ≡ length main) × Sliding ℓ main memory' (from + k) to')
      (sym ez) (round_kept ℓ main from x y ex ey h memory memory' to to' l s)

-- at the end all of them are laid
pub slid_all : (ℓ : ℕ) (main memory : List ℕ) (from to : ℕ) → length memory ≡ length main → length main ≤ from → Sliding ℓ main memory from to
    → (to ≡ length (files ℓ main)) × (take to memory ≡ files ℓ main)
unfolding items_in
slid_all ℓ main memory from to l h s =
    let d : drop from main ≡ [] = drop_of_length-le main {i = from} h in
    let r : files ℓ (drop from main) ≡ [] = ap (files ℓ) d in
    let t : take to memory ≡ files ℓ main = sym (append-nil (take to memory)) ∙ ap (λ (z : List ℕ). take to memory ++ z) (sym r) ∙ s.laid in
    let a = s.inside in let b = s.behind in
    (sym (length-take-le to memory (omega arith)) ∙ ap (λ (z : List ℕ). length z) t, t)
