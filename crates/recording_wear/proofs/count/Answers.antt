-- `recording_wear::count` meets its contract.
use mathlib.Core.Path.{◌≡◌}
use native.Mathlib.Omega.{arith}
use Rattle.recording_wear.proofs.CountCases.{counted, faulted}
use Rattle.recording_wear.proofs.count.Goals as goal

pub returns-then-n-ne0 : goal.returns-then-n-ne0
returns-then-n-ne0 c =
    let a = c.args in
    let j = c.judged-j in
    let f = c.fault_in-n in
    let both = faulted a.text.now j.result f.result j.ensures f.ensures c.if-n-ne0.true in record { result = both.0; told = both.1 }

pub returns : goal.returns
returns c =
    let a = c.args in
    let j = c.judged-j in
    let f = c.fault_in-n in
    let h : f.result ≡ 0 = (let t = c.if-n-ne0.false in omega arith) in
    let both = counted a.text.now j.result f.result j.ensures f.ensures h in record { result = both.0; told = both.1 }
