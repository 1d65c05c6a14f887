-- `recording_replay::note` meets its contract.
use mathlib.Core.Path.{◌≡◌}
use mathlib.Core.List.{[]}
use native.Mathlib.Omega.{arith}
use borrow.Author.Tests.{lt-ltb, le-ltb, eq-eqb, ne_eqb}
use Rattle.text.specs.Writing.{bytes}
use Rattle.text.proofs.Laying.{laid_none}
use Rattle.recording_replay.specs.Recorded.{line_note, refused_note, note_of}
use Rattle.recording_replay.proofs.Notes.{noted}
use Rattle.recording_replay.proofs.note.Goals as goal

pub returns-then-m-eq37 : goal.returns-then-m-eq37
unfolding note_of
returns-then-m-eq37 c =
    let a = c.args in
    let xs = a.out.now in
    let e : note_of a.m ≡ bytes "refused 37: the room for the recording is too short\n" = simp (eq-eqb _ _ c.if-m-eq37.true) in
    let p = c.put_text in
    let both = noted a.m (bytes "refused 37: the room for the recording is too short\n") xs p.new.out p.result e p.ensures.result p.ensures.out_left in record { result = both.0; out_left = both.1.0; out_used = both.1.1 }

pub returns-then-m-gt0 : goal.returns-then-m-gt0
unfolding note_of
returns-then-m-gt0 c =
    let a = c.args in
    let xs = a.out.now in
    let e : note_of a.m ≡ refused_note a.m.line a.m.number = simp (ne_eqb _ _ c.if-m-eq37.false, lt-ltb 0 _ c.if-m-gt0.true) in
    let p = c.put_refused in
    let both = noted a.m (refused_note a.m.line a.m.number) xs p.new.out p.result e p.ensures.result p.ensures.out_left in record { result = both.0; out_left = both.1.0; out_used = both.1.1 }

pub returns-then-m-gt0-2 : goal.returns-then-m-gt0-2
unfolding note_of
returns-then-m-gt0-2 c =
    let a = c.args in
    let xs = a.out.now in
    let e : note_of a.m ≡ line_note a.m.bad (bytes " is no line of a trace: there is no recording\n") = simp (ne_eqb _ _ c.if-m-eq37.false, le-ltb 0 _ c.if-m-gt0.false, lt-ltb 0 _ c.if-m-gt0-2.true) in
    let p = c.put_line in
    let both = noted a.m (line_note a.m.bad (bytes " is no line of a trace: there is no recording\n")) xs p.new.out p.result e p.ensures.result p.ensures.out_left in record { result = both.0; out_left = both.1.0; out_used = both.1.1 }

pub returns-then-m-gt0-3 : goal.returns-then-m-gt0-3
unfolding note_of
returns-then-m-gt0-3 c =
    let a = c.args in
    let xs = a.out.now in
    let e : note_of a.m ≡ line_note a.m.cut (bytes " cuts an operation: the check does not accept this recording\n") = simp (ne_eqb _ _ c.if-m-eq37.false, le-ltb 0 _ c.if-m-gt0.false, le-ltb 0 _ c.if-m-gt0-2.false, lt-ltb 0 _ c.if-m-gt0-3.true) in
    let p = c.put_line-then-m-gt0-3 in
    let both = noted a.m (line_note a.m.cut (bytes " cuts an operation: the check does not accept this recording\n")) xs p.new.out p.result e p.ensures.result p.ensures.out_left in record { result = both.0; out_left = both.1.0; out_used = both.1.1 }

pub returns-then-idle : goal.returns-then-idle
unfolding note_of
returns-then-idle c =
    let a = c.args in
    let xs = a.out.now in
    let e : note_of a.m ≡ [] = simp (ne_eqb _ _ c.if-m-eq37.false, le-ltb 0 _ c.if-m-gt0.false, le-ltb 0 _ c.if-m-gt0-2.false, le-ltb 0 _ c.if-m-gt0-3.false, c.if-idle.true) in
    let both = noted a.m [] xs xs 0 e (laid_none xs 0 (omega arith)).place (laid_none xs 0 (omega arith)).bytes in record { result = both.0; out_left = both.1.0; out_used = both.1.1 }

pub returns : goal.returns
unfolding note_of
returns c =
    let a = c.args in
    let xs = a.out.now in
    let e : note_of a.m ≡ bytes "the end is not idle: the check does not accept this recording\n" = simp (ne_eqb _ _ c.if-m-eq37.false, le-ltb 0 _ c.if-m-gt0.false, le-ltb 0 _ c.if-m-gt0-2.false, le-ltb 0 _ c.if-m-gt0-3.false, c.if-idle.false) in
    let p = c.put_text-2 in
    let both = noted a.m (bytes "the end is not idle: the check does not accept this recording\n") xs p.new.out p.result e p.ensures.result p.ensures.out_left in record { result = both.0; out_left = both.1.0; out_used = both.1.1 }
