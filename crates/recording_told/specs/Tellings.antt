-- What is said of a recording as a text, judged on bench T from a fresh device: the first thing that is wrong, by its line, or that it is
-- accepted.
use Rattle.std.specs.Prelude.{Bool, List, [], ◌∷◌, ◌++◌, ℕ, suc, eqb, length, if◌then◌else◌}
use Rattle.text.specs.Writing.{bytes}
use Rattle.refusal_words.specs.Words.{refused_text}
use Rattle.device.specs.declared.Device.{Device}
use Rattle.model_types.specs.declared.Phase.{Phase}
use Rattle.model_states.specs.States.{fresh_state}
use Rattle.recording.specs.declared.Noted.{Noted}
use Rattle.recording.specs.Recordings.{faulty, why_of}
use Rattle.recording_walk.specs.Lists.{Held, held_of, onward, left_by, ends_well, start_number}
use Rattle.trace_replay.specs.Replays.{bench_t}
use Rattle.recording_text.specs.Texts.{records_of, bad_after}
use Rattle.recording_answer.specs.Lines.{fault_line, bad_line, accepted_line, end_text}

-- what a refusal before the list means; of a fresh bench T it is 2
unfoldable pub start_words : ℕ → List ℕ
start_words n = if eqb n 2 then bytes ": the array at the start is not as long as the part\n" else bytes ": as the list of numbers says\n"

-- refused before the list, by a number
abbrev pub start_refused : ℕ → List ℕ
start_refused n = refused_text n ++ start_words n

-- records from line n on: the first at fault, told in the world that those before it leave; where none is, what follows
abbrev pub told_from : ℕ → Device → Held → List Noted → List ℕ → List ℕ
told_from n d v [] after = after
told_from n d v (r ∷ rs) after =
    if faulty d v.state r v.bytes then fault_line n r.heard (why_of d v.state r v.bytes)
    else told_from (suc n) d (onward d v r) rs after

-- no record is at fault: a line that is none, or 0; else acceptance, with so many records; else the end
unfoldable pub later_text : ℕ → ℕ → Bool → Phase → List ℕ → List ℕ → List ℕ
later_text bad n well ph promised xs =
    if eqb bad 0 then (if well then accepted_line n else end_text ph promised xs)
    else bad_line bad

-- .. in the world where all the records lead
abbrev pub ended_text : ℕ → ℕ → Held → List ℕ → List ℕ
ended_text bad n w promised = later_text bad n (ends_well w promised) w.state.phase promised w.bytes

-- the whole
unfoldable pub told_of : List ℕ → List ℕ → List ℕ → List ℕ
told_of text promised xs =
    let rs : List Noted = records_of text in
    let v : Held = held_of fresh_state xs in
    let n : ℕ = start_number bench_t fresh_state (length xs) in
    if eqb n 0 then told_from 1 bench_t v rs (ended_text (bad_after (length rs) (length text)) (length rs) (left_by bench_t v rs) promised)
    else start_refused n
