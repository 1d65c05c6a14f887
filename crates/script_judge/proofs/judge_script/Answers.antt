-- `script_judge::judge_script` meets its contract: the outermost list, and then the end of the text.
use mathlib.Core.Path.{refl, sym, ◌∙◌}
use native.Mathlib.Omega.{arith}
use Rattle.script_judge.specs.declared.Spot.{Spot}
use Rattle.script_judge.proofs.Reading as reading
use Rattle.script_judge.proofs.judge_script.Goals as goal

-- where it begins
abbrev start : Spot
start = record { fault = 0; at = 0; left = 3000; line = 1; total = 0 }

pub list-y-requires : goal.list-y-requires
list-y-requires c = (omega arith, record { fine = refl; line = omega arith; sum = omega arith; total = omega arith }, omega arith)

pub returns-then-y-ne0 : goal.returns-then-y-ne0
returns-then-y-ne0 c =
    let s = c.args.text.now in let k = c.list-y in
    reading.top_fault s start k.result k.ensures.reads (omega arith) c.if-y-ne0.true

pub returns-then-ends_at : goal.returns-then-ends_at
returns-then-ends_at c =
    let s = c.args.text.now in let k = c.list-y in
    let w = sym c.ends_at.ensures ∙ c.if-ends_at.true in
    reading.top_ends s start k.result k.ensures.reads (omega arith) c.if-y-ne0.false w

pub returns : goal.returns
returns c =
    let s = c.args.text.now in let k = c.list-y in let f = c.if-y-ne0.false in
    let w = sym c.ends_at.ensures ∙ c.if-ends_at.false in
    reading.top_closes s start k.result k.ensures.reads (omega arith) f (reading.ended s start k.result k.ensures.ends f).3 w
