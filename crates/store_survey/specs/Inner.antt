-- The walk over the places as the code makes it, a spot at a time. Nobody has to believe these.
use Rattle.std.specs.Prelude.{List, Bool, true, false, not, ◌&&◌, ℕ, ◌+◌, ◌*◌, ◌-◌, length, get_or, take, set, eqb, ltb, if◌then◌else◌}
use Rattle.file_check.specs.Check.{all_are}
use Rattle.file_codec.specs.File.{limit}
use Rattle.store_survey.specs.Survey.{reader_number}
use Rattle.store_survey.specs.declared.Spot.{Spot}
use Rattle.store_survey.specs.declared.Spot.TheVariants.{Blank, Dead, File, Junk}
use Rattle.store_survey.specs.declared.Survey.{Survey}

-- the reader reads these bytes for the letter
unfoldable pub sound_of : ℕ → List ℕ → Bool
sound_of ℓ b = eqb (reader_number limit ℓ b) 0

-- what begins with the first 512 of some bytes
unfoldable pub spot_of : List ℕ → Spot
spot_of b =
    if eqb (get_or b 0 0) 0 then Dead
    else if all_are 255 (take 512 b) then Blank
    else if ltb (length b) (512 * get_or b 2 0) then Junk
    else if sound_of (get_or b 0 0) (take (512 * get_or b 2 0) b) then File (get_or b 0 0) (get_or b 2 0)
    else Junk

-- the places that a spot takes beyond its first
abbrev pub more_by : Spot → ℕ
more_by Blank = 0
more_by Dead = 0
more_by (File m k) = k - 1
more_by Junk = 0

-- the spot's letter was met before, `seen` holding a byte for each letter
abbrev pub twice_of : List ℕ → Spot → Bool
twice_of seen Blank = false
twice_of seen Dead = false
twice_of seen (File m k) = not (eqb (get_or seen m 0) 0)
twice_of seen Junk = false

-- the letters met, this spot's too
abbrev pub seen_by : List ℕ → Spot → List ℕ
seen_by seen Blank = seen
seen_by seen Dead = seen
seen_by seen (File m k) = set seen m 1
seen_by seen Junk = seen

-- the survey past a dead place
abbrev pub dead_by : Survey → Survey
dead_by s = record { live = s.live; place = s.place; blocks = s.blocks; run = 0; start = s.start; good = s.good; fits = s.fits }

-- past a place that is none of the three
abbrev pub junk_by : Survey → Survey
junk_by s = record { live = s.live; place = s.place; blocks = s.blocks; run = 0; start = s.start; good = false; fits = s.fits }

-- past a blank place p, where a run of n is looked for: the first that reaches n is kept
unfoldable pub blank_by : Survey → ℕ → ℕ → Survey
blank_by s p n =
    if s.fits then record {
      live = s.live;
      place = s.place;
      blocks = s.blocks;
      run = s.run + 1;
      start = s.start;
      good = s.good;
      fits = true;
    }
    else if eqb (s.run + 1) n then record {
      live = s.live;
      place = s.place;
      blocks = s.blocks;
      run = s.run + 1;
      start = p - s.run;
      good = s.good;
      fits = true;
    }
    else record { live = s.live; place = s.place; blocks = s.blocks; run = s.run + 1; start = s.start; good = s.good; fits = false }

-- past a file of k blocks under letter m at place p, where letter ℓ is looked for: the first under it is kept
unfoldable pub file_by : Survey → ℕ → ℕ → ℕ → Bool → ℕ → Survey
file_by s p m k again ℓ =
    if eqb m ℓ && eqb s.blocks 0 then record {
      live = s.live + k;
      place = p;
      blocks = k;
      run = 0;
      start = s.start;
      good = s.good && not again;
      fits = s.fits;
    }
    else record {
      live = s.live + k;
      place = s.place;
      blocks = s.blocks;
      run = 0;
      start = s.start;
      good = s.good && not again;
      fits = s.fits;
    }

-- the survey one spot on
abbrev pub note_of : Survey → Spot → ℕ → Bool → ℕ → ℕ → Survey
note_of s Blank p again ℓ n = blank_by s p n
note_of s Dead p again ℓ n = dead_by s
note_of s (File m k) p again ℓ n = file_by s p m k again ℓ
note_of s Junk p again ℓ n = junk_by s
