-- The store: several files in one block of 512-byte places.
use Rattle.std.specs.Prelude.{◌≡◌, List, [], ◌∷◌, ◌++◌, Bool, true, false, not, ◌&&◌, ◌||◌, ℕ, zero, suc, ◌+◌, ◌*◌, ◌-◌, ◌/◌, ◌<◌}
use Rattle.std.specs.Prelude.{length, get_or, take, drop, set, replicate, eqb, ltb, if◌then◌else◌}
use Rattle.common.specs.Numbers.{Row, row, given}
use Rattle.file_check.specs.Check.{is_blank}

-- a reader's number for the letter asked and the bytes of a file: its refusal, 0 where it reads them
abbrev pub Judgement : Type 0
Judgement = ℕ → List ℕ → ℕ

-- what the store asks of the reader, of each file that is read for a letter: byte 2 counts its blocks of 512, one at least; byte 0 is
-- the letter; the letter is not 00H, with which a dead place begins, nor FFH, with which a blank one does
pub record Reader (fault : Judgement) : Type 0 where
  pub counted : (ℓ : ℕ) (b : List ℕ) → fault ℓ b ≡ 0 → length b ≡ 512 * get_or b 2 0
  pub some : (ℓ : ℕ) (b : List ℕ) → fault ℓ b ≡ 0 → 0 < get_or b 2 0
  pub lettered : (ℓ : ℕ) (b : List ℕ) → fault ℓ b ≡ 0 → get_or b 0 0 ≡ ℓ
  pub not_dead : (ℓ : ℕ) (b : List ℕ) → fault ℓ b ≡ 0 → ℓ ≡ 0 → ⊥
  pub not_blank : (ℓ : ℕ) (b : List ℕ) → fault ℓ b ≡ 0 → ℓ ≡ 255 → ⊥

-- the first n places of some bytes, 512 bytes each
abbrev pub cut : ℕ → List ℕ → List (List ℕ)
cut zero b = []
cut (suc n) b = take 512 b ∷ cut n (drop 512 b)

-- the bytes of places, one behind the other
abbrev pub join : List (List ℕ) → List ℕ
join [] = []
join (p ∷ s) = p ++ join s

-- the blank place: 512 bytes FFH
abbrev pub blank_place : List ℕ
blank_place = replicate 512 255

-- a place is dead: its first byte is 00H; nothing else of it is read (R-store-1)
unfoldable pub is_dead : List ℕ → Bool
is_dead p = eqb (get_or p 0 0) 0

-- a place with 00H over its first byte, as a drop leaves it
unfoldable pub zeroed : List ℕ → List ℕ
zeroed p = set p 0 0

-- what stands in a block, from the lowest place on: a blank place, a dead one, the places of a file under its letter, or a place that
-- is none of these
pub data Item : Type 0 where
  blank : Item
  dead : List ℕ → Item
  filed : ℕ → List (List ℕ) → Item
  junk : List ℕ → Item

-- the item that begins with place p, the places s above it; a file is as many places as its first block says, and is one only where
-- the reader reads these bytes for the letter that they begin with (R-store-1)
unfoldable pub item_at : Judgement → List ℕ → List (List ℕ) → Item
item_at fault p s =
    if is_dead p then dead p
    else if is_blank p then blank
    else if eqb (fault (get_or p 0 0) (join (take (get_or p 2 0) (p ∷ s)))) 0 then filed (get_or p 0 0) (take (get_or p 2 0) (p ∷ s))
    else junk p

-- the places that an item takes beyond its first
abbrev pub more_of : Item → ℕ
more_of blank = 0
more_of (dead p) = 0
more_of (filed ℓ f) = length f - 1
more_of (junk p) = 0

-- the items of some places, from the lowest on; the first `skip` places belong to an item told already
abbrev pub items_from : Judgement → ℕ → List (List ℕ) → List Item
items_from fault skip [] = []
items_from fault zero (p ∷ s) = item_at fault p s ∷ items_from fault (more_of (item_at fault p s)) s
items_from fault (suc skip) (p ∷ s) = items_from fault skip s

-- the places of items
abbrev pub places_of : List Item → List (List ℕ)
places_of [] = []
places_of (blank ∷ is) = blank_place ∷ places_of is
places_of (dead p ∷ is) = p ∷ places_of is
places_of (filed ℓ f ∷ is) = f ++ places_of is
places_of (junk p ∷ is) = p ∷ places_of is

-- a file stands under letter ℓ
abbrev pub has_in : ℕ → List Item → Bool
has_in ℓ [] = false
has_in ℓ (blank ∷ is) = has_in ℓ is
has_in ℓ (dead p ∷ is) = has_in ℓ is
has_in ℓ (filed m f ∷ is) = eqb m ℓ || has_in ℓ is
has_in ℓ (junk p ∷ is) = has_in ℓ is

-- proper: every place is blank, dead or a file's, and no letter stands twice (R-store-1, R-number-44)
abbrev pub proper_in : List Item → Bool
proper_in [] = true
proper_in (blank ∷ is) = proper_in is
proper_in (dead p ∷ is) = proper_in is
proper_in (filed m f ∷ is) = not (has_in m is) && proper_in is
proper_in (junk p ∷ is) = false

-- the places of the first file under letter ℓ; no places where there is none
abbrev pub find_in : ℕ → List Item → List (List ℕ)
find_in ℓ [] = []
find_in ℓ (blank ∷ is) = find_in ℓ is
find_in ℓ (dead p ∷ is) = find_in ℓ is
find_in ℓ (filed m f ∷ is) = if eqb m ℓ then f else find_in ℓ is
find_in ℓ (junk p ∷ is) = find_in ℓ is

-- the live blocks: the places of all files
abbrev pub live_in : List Item → ℕ
live_in [] = 0
live_in (blank ∷ is) = live_in is
live_in (dead p ∷ is) = live_in is
live_in (filed m f ∷ is) = length f + live_in is
live_in (junk p ∷ is) = live_in is

-- the places of a dropped file: 00H over the first byte of each (R-store-1)
abbrev pub dead_of : List (List ℕ) → List Item
dead_of [] = []
dead_of (p ∷ f) = dead (zeroed p) ∷ dead_of f

-- what is left of the file under letter m where letter ℓ is dropped
unfoldable pub kept_of : ℕ → ℕ → List (List ℕ) → List Item
kept_of ℓ m f = if eqb m ℓ then dead_of f else filed m f ∷ []

-- the items without the file under letter ℓ: it is dropped, where there is one
abbrev pub without : ℕ → List Item → List Item
without ℓ [] = []
without ℓ (blank ∷ is) = blank ∷ without ℓ is
without ℓ (dead p ∷ is) = dead p ∷ without ℓ is
without ℓ (filed m f ∷ is) = kept_of ℓ m f ++ without ℓ is
without ℓ (junk p ∷ is) = junk p ∷ without ℓ is

-- the items begin with n blank places
abbrev pub blank_run : ℕ → List Item → Bool
blank_run zero is = true
blank_run (suc n) [] = false
blank_run (suc n) (blank ∷ is) = blank_run n is
blank_run (suc n) (dead p ∷ is) = false
blank_run (suc n) (filed m f ∷ is) = false
blank_run (suc n) (junk p ∷ is) = false

-- somewhere n blank places stand in a row
abbrev pub fits_in : ℕ → List Item → Bool
fits_in n [] = false
fits_in n (i ∷ is) = blank_run n (i ∷ is) || fits_in n is

-- a file laid into the first run of blank places that is long enough (R-store-2)
abbrev pub laid_in : ℕ → List (List ℕ) → List Item → List Item
laid_in ℓ f [] = []
laid_in ℓ f (i ∷ is) = if blank_run (length f) (i ∷ is) then filed ℓ f ∷ drop (length f) (i ∷ is) else i ∷ laid_in ℓ f is

-- the files alone, in their order
abbrev pub files_of : List Item → List Item
files_of [] = []
files_of (blank ∷ is) = files_of is
files_of (dead p ∷ is) = files_of is
files_of (filed m f ∷ is) = filed m f ∷ files_of is
files_of (junk p ∷ is) = files_of is

-- the slide in a block of N places: the files from the lowest place on, the new one right behind them, blank places after it (R-store-2)
abbrev pub slid_in : ℕ → ℕ → List (List ℕ) → List Item → List Item
slid_in N ℓ f is = files_of is ++ (filed ℓ f ∷ replicate (N - (live_in is + length f)) blank)

-- there is a long enough run of blank places for the new file, the old one under its letter dropped
abbrev pub run_for : ℕ → List (List ℕ) → List Item → Bool
run_for ℓ f is = fits_in (length f) (without ℓ is)

-- a file added: the old one under its letter dropped, then laid into the first long enough run, or by a slide (R-store-2)
unfoldable pub added_in : ℕ → ℕ → List (List ℕ) → List Item → List Item
added_in N ℓ f is = if run_for ℓ f is then laid_in ℓ f (without ℓ is) else slid_in N ℓ f (without ℓ is)

-- 43, no room: the live blocks without the replaced file, and the new ones, exceed N (R-store-3, R-number-43)
unfoldable pub no_room : ℕ → ℕ → List (List ℕ) → List Item → Bool
no_room N ℓ f is = ltb N (live_in (without ℓ is) + length f)

-- the same of the bytes of a block: its places
abbrev pub places_in : List ℕ → List (List ℕ)
places_in main = cut (length main / 512) main

-- its items
unfoldable pub items_in : Judgement → List ℕ → List Item
items_in fault main = items_from fault 0 (places_in main)

-- whether it is a proper store
unfoldable pub is_proper : Judgement → List ℕ → Bool
is_proper fault main = proper_in (items_in fault main)

-- the bytes of the file under a letter; none where no file stands there
unfoldable pub find_of : Judgement → ℕ → List ℕ → List ℕ
find_of fault ℓ main = join (find_in ℓ (items_in fault main))

-- the block after a letter is dropped
unfoldable pub drop_of : Judgement → ℕ → List ℕ → List ℕ
drop_of fault ℓ main = join (places_of (without ℓ (items_in fault main)))

-- the block after the file b is added under a letter
unfoldable pub add_of : Judgement → ℕ → List ℕ → List ℕ → List ℕ
add_of fault ℓ b main = join (places_of (added_in (length main / 512) ℓ (places_in b) (items_in fault main)))

-- the refusals of a find, and of a drop: 44, then 42 (R-number-42, R-number-44)
abbrev pub find_rows : Judgement → ℕ → List ℕ → List Row → List Row
find_rows fault ℓ main after = row 44 (not (is_proper fault main)) ∷ row 42 (not (has_in ℓ (items_in fault main))) ∷ after

-- the refusals of an add: the reader's, then 44, then 43 (R-store-5)
abbrev pub add_rows : Judgement → ℕ → List ℕ → List ℕ → List Row → List Row
add_rows fault ℓ b main after =
    row (fault ℓ b) (not (eqb (fault ℓ b) 0))
    ∷ row 44 (not (is_proper fault main))
    ∷ row 43 (no_room (length main / 512) ℓ (places_in b) (items_in fault main))
    ∷ after

-- the first refusal of a find or a drop, 0 where there is none
unfoldable pub find_place_number : Judgement → ℕ → List ℕ → ℕ
find_place_number fault ℓ main = given (find_rows fault ℓ main [])

-- the first refusal of an add, 0 where there is none
unfoldable pub add_place_number : Judgement → ℕ → List ℕ → List ℕ → ℕ
add_place_number fault ℓ b main = given (add_rows fault ℓ b main [])

-- a change of the store: a file added under a letter, a letter dropped
pub data Change : Type 0 where
  adds : ℕ → List ℕ → Change
  drops : ℕ → Change

-- the refusal of a change, 0 where there is none
abbrev pub change_place_number : Judgement → Change → List ℕ → ℕ
change_place_number fault (adds ℓ b) main = add_place_number fault ℓ b main
change_place_number fault (drops ℓ) main = find_place_number fault ℓ main

-- the block after a change that is not refused
abbrev pub done_by : Judgement → Change → List ℕ → List ℕ
done_by fault (adds ℓ b) main = add_of fault ℓ b main
done_by fault (drops ℓ) main = drop_of fault ℓ main

-- the block after a change: as it was where it is refused
unfoldable pub changed : Judgement → Change → List ℕ → List ℕ
changed fault c main = if eqb (change_place_number fault c main) 0 then done_by fault c main else main

-- the block after a list of changes, one after the other
abbrev pub changed_all : Judgement → List Change → List ℕ → List ℕ
changed_all fault [] main = main
changed_all fault (c ∷ cs) main = changed_all fault cs (changed fault c main)

-- the changes of the list that were not refused
abbrev pub done_in : Judgement → List Change → List ℕ → List Change
done_in fault [] main = []
done_in fault (c ∷ cs) main = (if eqb (change_place_number fault c main) 0 then c ∷ [] else []) ++ done_in fault cs (changed fault c main)

-- the file that one change leaves under letter m, `was` the one that stood there: the file added, none where it is dropped
abbrev pub now_under : ℕ → Change → List ℕ → List ℕ
now_under m (adds ℓ b) was = if eqb ℓ m then b else was
now_under m (drops ℓ) was = if eqb ℓ m then [] else was

-- the file that changes leave under letter m: the one last added and not dropped, or the one that stood there at first (R-store-4)
abbrev pub last_under : ℕ → List Change → List ℕ → List ℕ
last_under m [] was = was
last_under m (c ∷ cs) was = last_under m cs (now_under m c was)

-- a proper store of N places
pub record Proper (fault : Judgement) (N : ℕ) (main : List ℕ) : Type 0 where
  pub size : length main ≡ 512 * N
  pub proper : is_proper fault main ≡ true
