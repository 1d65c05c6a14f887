-- Records written as a text are read back: all of them, with no bad line.
use mathlib.Core.Path.{◌≡◌, refl, ap, ap₂, ◌∙◌}
use mathlib.Core.Bool.{true}
use mathlib.Core.List.{List, [], ◌∷◌, ◌++◌}
use Prim.Native.Nat.{ℕ, zero, suc, ◌+◌, ◌*◌, ◌≤◌}
use native.Mathlib.Omega.{arith}
use lib.Dec.{ltb}
use lib.ListN.{length, take, length-append}
use lib.Seq.{take_at, drop_at}
use borrow.Author.Tests.{le-ltb}
use Rattle.common.proofs.Choice.{if_false}
use Rattle.model_states.specs.States.{fresh_state}
use Rattle.recording.specs.declared.Noted.{Noted}
use Rattle.recording_lines.specs.Records.{is_record, record_stated, record_line_of, RecordFits}
use Rattle.recording_lines.proofs.Runs.{not_record}
use Rattle.recording_lines.proofs.Forms.{record_length, record_back}
use Rattle.recording_walk.specs.Lists.{checked_of}
use Rattle.trace_replay.specs.Replays.{bench_t}
use Rattle.recording_text.specs.Texts.{records_in, bad_after, judged_of}
use Rattle.recording_text.specs.Written.{text_of, AllFit}
use Rattle.recording_text.proofs.Rounds.{none, first_good, first_bad}

line_length : (r : Noted) → RecordFits true r → length (record_line_of r) ≡ 31
line_length r f = record_length (record_line_of r) (record_back r f).0

pub text_length : (rs : List Noted) → AllFit rs → length (text_of rs) ≡ 31 * length rs
text_length [] f = refl
text_length (r ∷ rs) f =
    length-append (record_line_of r) (text_of rs)
    ∙ (let z : length (record_line_of r) + length (text_of rs) ≡ 31 * suc (length rs) = omega (arith, line_length r f.0, text_length rs f.1) in z)

pub read_back : (k : ℕ) (rs : List Noted) → AllFit rs → length rs ≤ k → records_in k (text_of rs) ≡ rs
read_back zero [] f h = none []
read_back zero (r ∷ rs) f h = absurd (omega arith)
read_back (suc k) [] f h = first_bad k [] (not_record [] (λ (e : 0 ≡ 31). omega arith))
read_back (suc k) (r ∷ rs) f h =
    let x = record_line_of r in
    let b = record_back r f.0 in
    let l = line_length r f.0 in
    let t : take 31 (x ++ text_of rs) ≡ x = take_at x (text_of rs) 31 l in
    first_good k (x ++ text_of rs) (ap is_record t ∙ b.0)
    ∙ ap₂ (λ (y : Noted) (ys : List Noted). y ∷ ys) (ap record_stated t ∙ b.1)
    (ap (records_in k) (drop_at x (text_of rs) 31 l) ∙ read_back k rs f.1 (omega arith))

-- judged as what they were
pub judged_as : (rs : List Noted) (promised bytes : List ℕ) → AllFit rs → length rs ≤ 9998
    → judged_of (text_of rs) promised bytes ≡ record { lines = length rs; bad = 0; checked = checked_of bench_t fresh_state rs promised bytes }
unfolding judged_of bad_after
judged_as rs promised bytes f h =
    let e : records_in 9998 (text_of rs) ≡ rs = read_back 9998 rs f h in
    let n : bad_after (length (records_in 9998 (text_of rs))) (length (text_of rs)) ≡ 0 =
    ap (λ (ys : List Noted). bad_after (length ys) (length (text_of rs))) e
    ∙ if_false (ltb (31 * length rs) (length (text_of rs))) (length rs + 1) 0 (le-ltb (31 * length rs) (length (text_of rs)) (omega (arith, text_length rs f))) in
    λ j. record { lines = length (e j); bad = n j; checked = checked_of bench_t fresh_state (e j) promised bytes }
