-- `script_run::run_script` meets its contract.
use mathlib.Core.Path.{◌≡◌, refl, ap}
use native.Mathlib.Omega.{arith}
use Rattle.script_judge.specs.declared.Judged.{Judged}
use Rattle.script_run.proofs.WholeScript as whole
use Rattle.script_run.proofs.run_script.Goals as goal

pub returns-then-fault-ne0 : goal.returns-then-fault-ne0
returns-then-fault-ne0 c =
    let a = c.args in let j = c.judge_script-j in let k = c.marked in let h : j.result.fault ≡ 0 → ⊥ = (let t = c.if-fault-ne0.true in omega arith) in
    let e = ap (λ (x : Judged). x.fault) j.ensures in
    record { result = whole.fault_result j.result.fault a.array.now a.residue.now a.text.now a.out.now e h k.result k.ensures.result; array_left = whole.fault_array j.result.fault a.array.now a.residue.now a.text.now a.out.now e h; out_left = whole.fault_out j.result.fault a.array.now a.residue.now a.text.now a.out.now e h k.new.out k.ensures.out_left; out_used = k.ensures.out_used }

pub overflow_mul-n : goal.overflow_mul-n
overflow_mul-n c =
    let a = c.args in let j = c.judge_script-j in
    let h : j.result.fault ≡ 0 = (let t = c.if-fault-ne0.false in omega arith) in
    let f = whole.few_lines j.result a.array.now a.residue.now a.text.now a.out.now j.ensures h in
    record { fits = omega arith }

pub returns-then-out-n : goal.returns-then-out-n
returns-then-out-n c =
    let a = c.args in let j = c.judge_script-j in let h : j.result.fault ≡ 0 = (let t = c.if-fault-ne0.false in omega arith) in let l = c.if-out-n.true in
    record { result = whole.short_result j.result a.array.now a.residue.now a.text.now a.out.now j.ensures h l; array_left = whole.short_array j.result a.array.now a.residue.now a.text.now a.out.now j.ensures h l; out_left = whole.short_out j.result a.array.now a.residue.now a.text.now a.out.now j.ensures h l; out_used = (omega arith, refl) }

pub returns : goal.returns
returns c =
    let a = c.args in let j = c.judge_script-j in let h : j.result.fault ≡ 0 = (let t = c.if-fault-ne0.false in omega arith) in let l = c.if-out-n.false in let f = c.fresh-s in let k = c.list-y in record { result = whole.whole_result j.result a.array.now a.residue.now a.text.now a.out.now j.ensures h l f.result f.ensures k.result k.new.array k.new.out k.ensures.reads; array_left = whole.whole_array j.result a.array.now a.residue.now a.text.now a.out.now j.ensures h l f.result f.ensures k.result k.new.array k.new.out k.ensures.reads; out_left = whole.whole_out j.result a.array.now a.residue.now a.text.now a.out.now j.ensures h l f.result f.ensures k.result k.new.array k.new.out k.ensures.reads; out_used = whole.whole_used j.result a.array.now a.residue.now a.text.now a.out.now j.ensures h l f.result f.ensures k.result k.new.array k.new.out k.ensures.reads k.auto.out }
