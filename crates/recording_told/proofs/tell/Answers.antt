-- `recording_told::tell` meets its contract: it is judged, and told way by way.
use mathlib.Core.Path.{ap, ◌∙◌}
use mathlib.Core.List.{List}
use Prim.Native.Nat.{ℕ}
use Rattle.text.specs.Writing.{laid_at, behind}
use Rattle.text.proofs.Laying.{front_used}
use Rattle.recording_told.specs.Tellings.{start_refused, later_text}
use Rattle.recording_told.specs.Inner.{fault_at}
use Rattle.recording_told.proofs.Said.{refused, at_a_record, at_no_record, within, few_lines}
use Rattle.recording_told.proofs.tell.Goals as goal

pub returns-then-x-ne0 : goal.returns-then-x-ne0
returns-then-x-ne0 c =
    let a = c.args in
    let out = a.out.now in
    let j = c.judge-j in
    let p = c.put_refused in
    let e = refused a.text.now a.promised.now a.array.now j.new.array j.result j.ensures.result j.ensures.array_left c.if-x-ne0.true in record { result = p.ensures.result ∙ ap (λ (z : List ℕ). behind out 0 z) e; out_left = p.ensures.out_left ∙ ap (λ (z : List ℕ). laid_at out 0 z) e; array_left = j.ensures.array_left; out_used = front_used out (start_refused j.result.checked.number) p.new.out p.result p.ensures.result p.ensures.out_left }

pub put_first-requires : goal.put_first-requires
put_first-requires c =
    let a = c.args in
    let j = c.judge-j in
    within a.text.now a.promised.now a.array.now j.new.array j.result j.ensures.result j.ensures.array_left j.result.checked.at c.if-x-n.true

pub returns-then-x-n : goal.returns-then-x-n
returns-then-x-n c =
    let a = c.args in
    let out = a.out.now in
    let j = c.judge-j in
    let p = c.put_first in
    let e = at_a_record a.text.now a.promised.now a.array.now j.new.array j.result j.ensures.result j.ensures.array_left c.if-x-ne0.false c.if-x-n.true in record { result = p.ensures.result ∙ ap (λ (z : List ℕ). behind out 0 z) e; out_left = p.ensures.out_left ∙ ap (λ (z : List ℕ). laid_at out 0 z) e; array_left = j.ensures.array_left; out_used = front_used out (fault_at a.text.now j.result.checked.at j.result.checked.state j.new.array) p.new.out p.result p.ensures.result p.ensures.out_left }

pub put_later-requires : goal.put_later-requires
put_later-requires c =
    let a = c.args in
    let j = c.judge-j in
    few_lines a.text.now a.promised.now a.array.now j.new.array j.result j.ensures.result j.ensures.array_left

pub returns : goal.returns
returns c =
    let a = c.args in
    let out = a.out.now in
    let j = c.judge-j in
    let p = c.put_later in
    let e = at_no_record a.text.now a.promised.now a.array.now j.new.array j.result j.ensures.result j.ensures.array_left c.if-x-ne0.false c.if-x-n.false in record { result = p.ensures.result ∙ ap (λ (z : List ℕ). behind out 0 z) e; out_left = p.ensures.out_left ∙ ap (λ (z : List ℕ). laid_at out 0 z) e; array_left = j.ensures.array_left; out_used = front_used out (later_text j.result.bad j.result.lines j.result.checked.accepted j.result.checked.state.phase a.promised.now j.new.array) p.new.out p.result p.ensures.result p.ensures.out_left }
