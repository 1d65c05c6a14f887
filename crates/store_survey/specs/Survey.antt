-- What a walk over the places of a block tells, for a letter and a file of n blocks.
use Rattle.std.specs.Prelude.{List, [], ◌∷◌, Bool, false, ℕ, ◌+◌, length, drop, eqb, if◌then◌else◌}
use Rattle.common.specs.Numbers.{given}
use Rattle.file_codec.specs.File.{limit, read_rows}
use Rattle.store_places.specs.Store.{Judgement, Item, blank, dead, filed, junk, item_at, more_of, find_in, live_in, blank_run, fits_in}
use Rattle.store_places.specs.Store.{places_in}
use Rattle.store_places.specs.Store.{items_in, is_proper}
use Rattle.store_survey.specs.declared.Spot.{Spot}
use Rattle.store_survey.specs.declared.Spot.TheVariants.{Blank, Dead, File, Junk}
use Rattle.store_survey.specs.declared.Survey.{Survey}

-- the reader of load files, as the store asks it: its first refusal for a letter, 0 where the file is read; room for the payload is not
-- asked
abbrev pub reader_number : ℕ → Judgement
reader_number most ℓ b = given (read_rows most b ℓ [])

-- the items of a block by that reader
abbrev pub items_of : List ℕ → List Item
items_of main = items_in (reader_number limit) main

-- the code's word for an item: a file with its letter and its count of blocks
abbrev pub spot_by : Item → Spot
spot_by blank = Blank
spot_by (dead p) = Dead
spot_by (filed m f) = File m (length f)
spot_by (junk p) = Junk

-- what begins with the first of some places; no place at all is none of the three
abbrev pub spot_first : List (List ℕ) → Spot
spot_first [] = Junk
spot_first (p ∷ s) = spot_by (item_at (reader_number limit) p s)

-- what begins at a place of a block
unfoldable pub spot_in : List ℕ → ℕ → Spot
spot_in main place = spot_first (drop place (places_in main))

-- the first place of the first file under letter ℓ, the items beginning at place p; 0 where there is none
abbrev pub place_in : ℕ → ℕ → List Item → ℕ
place_in ℓ p [] = 0
place_in ℓ p (blank ∷ is) = place_in ℓ (p + 1 + 0) is
place_in ℓ p (dead q ∷ is) = place_in ℓ (p + 1 + 0) is
place_in ℓ p (filed m f ∷ is) = if eqb m ℓ then p else place_in ℓ (p + 1 + more_of (filed m f)) is
place_in ℓ p (junk q ∷ is) = place_in ℓ (p + 1 + 0) is

-- the first place of the first run of n blank places, the items beginning at place p
abbrev pub start_in : ℕ → ℕ → List Item → ℕ
start_in n p [] = p
start_in n p (i ∷ is) = if blank_run n (i ∷ is) then p else start_in n (p + 1 + more_of i) is

-- the blank places at the end, `run` of them before these items
abbrev pub end_run : ℕ → List Item → ℕ
end_run run [] = run
end_run run (blank ∷ is) = end_run (run + 1) is
end_run run (dead q ∷ is) = end_run 0 is
end_run run (filed m f ∷ is) = end_run 0 is
end_run run (junk q ∷ is) = end_run 0 is

-- n blank places stand in a row somewhere, n not 0
abbrev pub has_run : ℕ → List Item → Bool
has_run n is = if eqb n 0 then false else fits_in n is

-- what is told of some items for letter ℓ and n blocks
abbrev pub told_of : ℕ → ℕ → Bool → List Item → Survey
told_of ℓ n good is = record {
  live = live_in is;
  place = place_in ℓ 0 is;
  blocks = length (find_in ℓ is);
  run = end_run 0 is;
  start = if has_run n is then start_in n 0 is else 0;
  good = good;
  fits = has_run n is;
}

-- the survey of a block for letter ℓ and a file of n blocks: whether it is a proper store, its live blocks, where the letter's file
-- begins and how many blocks it has, whether a run of n blank places is there and where the first begins, the blank places at the end
unfoldable pub survey_of : ℕ → ℕ → List ℕ → Survey
survey_of ℓ n main = told_of ℓ n (is_proper (reader_number limit) main) (items_of main)
