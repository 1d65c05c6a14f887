-- `recording_replay::record_trace` meets its contract.
use native.Mathlib.Omega.{arith}
use Rattle.recording_replay.proofs.WholeTrace.{few, inside, short, enough}
use Rattle.recording_replay.proofs.record_trace.Goals as goal

pub overflow_mul-g : goal.overflow_mul-g
overflow_mul-g c =
    let a = c.args in
    let g = c.good_lines-g in
    record { fits = omega (arith, few g.result a.array.now a.residue.now a.text.now a.out.now g.ensures) }

pub returns-then-out-g : goal.returns-then-out-g
returns-then-out-g c =
    let a = c.args in
    let g = c.good_lines-g in
    let both = short g.result a.array.now a.residue.now a.text.now a.out.now g.ensures c.if-out-g.true c.no_room.result c.no_room.ensures in record { result = both.0; array_left = both.1.0; out_left = both.1.1.0; out_used = both.1.1.1 }

pub record_lines-l-requires : goal.record_lines-l-requires
record_lines-l-requires c =
    let a = c.args in
    let g = c.good_lines-g in
    (inside g.result a.array.now a.residue.now a.text.now a.out.now g.ensures, c.if-out-g.false, few g.result a.array.now a.residue.now a.text.now a.out.now g.ensures)

pub bad_behind-bad-requires : goal.bad_behind-bad-requires
bad_behind-bad-requires c =
    let a = c.args in
    let g = c.good_lines-g in
    few g.result a.array.now a.residue.now a.text.now a.out.now g.ensures

pub made_from-requires : goal.made_from-requires
made_from-requires c =
    let a = c.args in
    let g = c.good_lines-g in
    few g.result a.array.now a.residue.now a.text.now a.out.now g.ensures

pub returns : goal.returns
returns c =
    let a = c.args in
    let g = c.good_lines-g in
    let k = c.record_lines-l in
    let b = c.bad_behind-bad in
    let both = enough g.result a.array.now a.residue.now a.text.now a.out.now g.ensures c.if-out-g.false c.made_from.result b.result k.result k.new.array k.new.out c.made_from.ensures b.ensures
    k.ensures.result k.ensures.array_left k.ensures.out_left k.auto.out in record { result = both.0; array_left = both.1.0; out_left = both.1.1.0; out_used = both.1.1.1 }
