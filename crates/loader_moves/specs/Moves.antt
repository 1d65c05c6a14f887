-- The loader's moves: the record after a read's data. What is wanted and scratch are lists of units.
use Rattle.std.specs.Prelude.{Bool, false, ◌&&◌, List, ℕ, ◌+◌, ◌-◌, ◌%◌, length, get_or, eqb, ltb, leb, if◌then◌else◌}
use Rattle.units.specs.Units.{carried}
use Rattle.loader.specs.declared.Stage.{Stage}
use Rattle.loader.specs.declared.Stage.TheVariants.{Clearing, Opening, Reading, EraseAsking, EraseConfirming, EraseWaiting}
use Rattle.loader.specs.declared.Stage.TheVariants.{ProgramAsking, ProgramSending, ProgramWaiting, Closing, Verifying, Ended}
use Rattle.loader.specs.declared.Loader.{Loader}
use Rattle.loader_walk.specs.Walks.{rises_in, diff_from}
use Rattle.loader_moves.specs.Inner.{past}
use Rattle.loader.specs.Statuses.{status_in, is_ready, erase_end, program_end}

-- the record at another stage, place and count of polls
abbrev pub moved_to : Loader → Stage → ℕ → ℕ → Loader
moved_to l stage place polls =
    record {
      part = l.part;
      pins = l.pins;
      block = l.block;
      stage = stage;
      place = place;
      polls = polls;
      verify = l.verify;
      high = false;
    }

-- the end by a number, at the record's place
abbrev pub ended_by : Loader → ℕ → Loader
ended_by l n = moved_to l (Ended n) l.place 0

-- the end by 25: of a word, the byte that differs is the high one where the low bytes are the same (R-number-25)
abbrev pub ended_apart : Loader → ℕ → ℕ → Loader
ended_apart l v wanted =
    record {
      part = l.part;
      pins = l.pins;
      block = l.block;
      stage = Ended 25;
      place = l.place;
      polls = 0;
      verify = l.verify;
      high = l.part.word && eqb (v % 256) (wanted % 256);
    }

-- what follows the last program: the verify where it is asked for, else a load's good end (R-load-5)
abbrev pub loaded_stage : Bool → Stage
loaded_stage verify = if verify then Closing else Ended 0

-- on to the first differing unit from place i on, or to what follows the last program (R-load-3)
unfoldable pub onward : Loader → ℕ → List ℕ → List ℕ → Loader
onward l i w sc = if ltb (diff_from i w sc) (length w) then moved_to l ProgramAsking (diff_from i w sc) 0
    else moved_to l (loaded_stage l.verify) 0 0

-- after the first reads: an erase if some bit must rise (R-load-2)
unfoldable pub after_reads : Loader → List ℕ → List ℕ → Loader
after_reads l w sc = if rises_in w sc then moved_to l EraseAsking 0 0 else onward l 0 w sc

-- one unit of the first reads is in: the next, or what follows them (R-load-1)
unfoldable pub after_read : Loader → List ℕ → List ℕ → Loader
after_read l w sc = if ltb l.place (length w - 1) then moved_to l Reading (l.place + 1) 0 else after_reads l w sc

-- a poll without SR.7: another, or 20 as the 65,535th is taken (R-number-20)
unfoldable pub poll_more : Loader → Stage → Loader
poll_more l stage = if leb 65534 l.polls then ended_by l 20 else moved_to l stage l.place (l.polls + 1)

-- a poll of the erase is in
unfoldable pub erase_polled : Loader → ℕ → List ℕ → List ℕ → Loader
erase_polled l b w sc = if is_ready b then (if eqb (erase_end b) 0 then onward l 0 w sc else ended_by l (erase_end b))
    else poll_more l EraseWaiting

-- a poll of a program is in
unfoldable pub program_polled : Loader → ℕ → List ℕ → List ℕ → Loader
program_polled l b w sc =
    if is_ready b then (if eqb (program_end b) 0 then onward l (past l.place (length w)) w sc else ended_by l (program_end b))
    else poll_more l ProgramWaiting

-- one unit of the verify is in: 25 where it differs, else the next, or the end (R-load-4, R-number-25)
unfoldable pub verify_more : Loader → ℕ → List ℕ → Loader
verify_more l v w =
    if eqb (carried l.part.word v) (get_or w l.place 0)
    then (if ltb l.place (length w - 1) then moved_to l Verifying (l.place + 1) 0 else ended_by l 0)
    else ended_apart l v (get_or w l.place 0)

-- the record after a read's data, by what is wanted and the scratch that they leave (R-load-7)
abbrev pub next_in : Stage → Loader → ℕ → List ℕ → List ℕ → Loader
next_in Clearing l v w sc = moved_to l Opening 0 0
next_in Opening l v w sc = moved_to l Reading 0 0
next_in Reading l v w sc = after_read l w sc
next_in EraseAsking l v w sc = moved_to l EraseConfirming 0 0
next_in EraseConfirming l v w sc = moved_to l EraseWaiting 0 0
next_in EraseWaiting l v w sc = erase_polled l (status_in v) w sc
next_in ProgramAsking l v w sc = moved_to l ProgramSending l.place 0
next_in ProgramSending l v w sc = moved_to l ProgramWaiting l.place 0
next_in ProgramWaiting l v w sc = program_polled l (status_in v) w sc
next_in Closing l v w sc = moved_to l Verifying 0 0
next_in Verifying l v w sc = verify_more l v w
next_in (Ended n) l v w sc = l

-- .. by the record's own stage
abbrev pub next_of : Loader → ℕ → List ℕ → List ℕ → Loader
next_of l v w sc = next_in l.stage l v w sc
