-- `recording_answer::put_seen` meets its contract.
use mathlib.Core.List.{◌++◌}
use Rattle.text.proofs.Laying.{laid_first, laid_more}
use Rattle.text.specs.Writing.{bytes}
use Rattle.recording_answer.specs.Lines.{heard_text, rules_text}
use Rattle.recording_answer.proofs.put_seen.Goals as goal

pub returns : goal.returns
returns c =
    let a = c.args in
    let xs = a.out.now in
    let p0 = c.put_text-a in
    let p1 = c.put_heard-b in
    let p2 = c.put_text-c in
    let p3 = c.put_rules in
    let f0 = laid_first xs (bytes "seen ") p0.new.out a.at p0.result p0.ensures.result p0.ensures.out_left in
    let f1 = laid_more xs (bytes "seen ") (heard_text a.heard) p0.new.out p1.new.out a.at p0.result p1.result f0 p1.ensures.result p1.ensures.out_left in
    let f2 = laid_more xs ((bytes "seen ") ++ (heard_text a.heard)) (bytes ", the rules ") p1.new.out p2.new.out a.at p1.result p2.result f1 p2.ensures.result p2.ensures.out_left in
    let f3 = laid_more xs (((bytes "seen ") ++ (heard_text a.heard)) ++ (bytes ", the rules ")) (rules_text a.kind a.value) p2.new.out p3.new.out a.at p2.result p3.result f2 p3.ensures.result p3.ensures.out_left in
    record { result = f3.place; out_left = f3.bytes }
