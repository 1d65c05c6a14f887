-- `script_judge::item` and `script_judge::list`, which call each other, meet their contracts.
use Rattle.std.proofs.Common.{◌≤◌, ◌<◌, ◌*◌, ◌+◌, ℕ, length, drop, sym, ap, subst, refl, ◌∙◌, arith}
use Rattle.script_lines.specs.declared.Word.{Word}
use Rattle.script_lines.specs.Words.{word_in}
use Rattle.script_judge.specs.declared.Spot.{Spot}
use Rattle.script_judge.specs.Inner.{next_spot, closed_spot, item_comes, Sound}
use Rattle.script_judge.proofs.Reading as reading
use Rattle.script_judge.proofs.+item_list.Goals as goal

-- ---- an item
pub item-returns-in-Ends : goal.item-returns-in-Ends
item-returns-in-Ends t c =
    let a = c.args in let s = a.text.now in let x = a.x in let d = a.depth in let p = a.p in let h = c.requires.1 in
    let w = sym c.word_at-w.ensures ∙ c.in-Ends.is in
    let r = reading.fault_by s x d p c.fault_at.result h c.fault_at.ensures (reading.item_ends s x d p h w) in
    record { reads = r.0; ahead = r.1 }

pub item-returns-in-Bad : goal.item-returns-in-Bad
item-returns-in-Bad t c =
    let a = c.args in let s = a.text.now in let x = a.x in let d = a.depth in let p = a.p in let h = c.requires.1 in
    let w = sym c.word_at-w.ensures ∙ c.in-Bad.is in
    let r = reading.fault_by s x d p c.fault_at-in-Bad.result h c.fault_at-in-Bad.ensures (reading.item_bad s x d p h w) in
    record { reads = r.0; ahead = r.1 }

pub item-returns-in-Closes : goal.item-returns-in-Closes
item-returns-in-Closes t c =
    let a = c.args in let s = a.text.now in let x = a.x in let d = a.depth in let p = a.p in let h = c.requires.1 in
    let w = sym c.word_at-w.ensures ∙ c.in-Closes.is in
    let r = reading.fault_by s x d p c.fault_at-in-Closes.result h c.fault_at-in-Closes.ensures (reading.item_close s x d p h w) in
    record { reads = r.0; ahead = r.1 }

pub item-returns-then-x-p-gt9998 : goal.item-returns-then-x-p-gt9998
item-returns-then-x-p-gt9998 t c =
    let a = c.args in let s = a.text.now in let x = a.x in let d = a.depth in let p = a.p in let h = c.requires.1 in
    let w = sym c.word_at-w.ensures ∙ c.in-Traced.is in
    let k = c.fault_at-then-x-p-gt9998 in
    let r = reading.fault_by s x d p k.result h k.ensures (reading.item_over s x d p h w c.if-x-p-gt9998.true) in
    record { reads = r.0; ahead = r.1 }

pub item-past-requires : goal.item-past-requires
item-past-requires t c =
    let a = c.args in let s = a.text.now in let x = a.x in let h = c.requires.1 in
    let w = sym c.word_at-w.ensures ∙ c.in-Traced.is in
    (c.requires.0, omega arith, reading.was_traced s x h w, h)

pub item-returns-in-Traced : goal.item-returns-in-Traced
item-returns-in-Traced t c =
    let a = c.args in let s = a.text.now in let x = a.x in let d = a.depth in let p = a.p in let h = c.requires.1 in
    let w = sym c.word_at-w.ensures ∙ c.in-Traced.is in
    let l : x.total + p ≤ 9998 = c.if-x-p-gt9998.false in
    let r = reading.item_by s x d p c.past.result (next_spot x 20 (x.total + p)) c.past.ensures (reading.item_traced s x d p h w l) (reading.traced_ahead s x h p w l) in
    record { reads = r.0; ahead = r.1 }

pub item-returns-then-depth-eq0 : goal.item-returns-then-depth-eq0
item-returns-then-depth-eq0 t c =
    let a = c.args in let s = a.text.now in let x = a.x in let d = a.depth in let p = a.p in let h = c.requires.1 in
    let w = sym c.word_at-w.ensures ∙ c.in-Opens.is in let m = c.in-Opens.n in
    let k = c.fault_at-then-depth-eq0 in
    let r = reading.fault_by s x d p k.result h k.ensures (reading.item_deep s x d p h m w c.if-depth-eq0.true) in
    record { reads = r.0; ahead = r.1 }

pub item-times-q-requires : goal.item-times-q-requires
item-times-q-requires t c =
    let a = c.args in let s = a.text.now in let x = a.x in let h = c.requires.1 in
    let w = sym c.word_at-w.ensures ∙ c.in-Opens.is in
    (c.requires.2, (reading.was_open s x h c.in-Opens.n w).1)

pub item-past-requires-in-Opens : goal.item-past-requires-in-Opens
item-past-requires-in-Opens t c =
    let a = c.args in let s = a.text.now in let x = a.x in let h = c.requires.1 in
    let w = sym c.word_at-w.ensures ∙ c.in-Opens.is in
    (c.requires.0, omega arith, (reading.was_open s x h c.in-Opens.n w).0, h)

pub item-list-y-requires : goal.item-list-y-requires
item-list-y-requires t c =
    let a = c.args in let s = a.text.now in let x = a.x in let d = a.depth in let p = a.p in let h = c.requires.1 in
    let e = c.decreases in let deep = c.if-depth-eq0.false in
    let w = sym c.word_at-w.ensures ∙ c.in-Opens.is in let m = c.in-Opens.n in
    let low = subst (λ (q : ℕ). q ≤ 9999) (sym c.times-q.ensures) (reading.capped_low (p * m)) in
    let o = subst (λ (y : Spot). (y.at ≤ length s) × Sound y × (x.at < y.at)) (sym c.past-in-Opens.ensures) (reading.open_ahead s x h m w) in
    let o0 = o.0 in let o2 = o.2 in
    (omega arith, (o0, o.1, low))

pub item-returns-then-y-ne0 : goal.item-returns-then-y-ne0
item-returns-then-y-ne0 t c =
    let a = c.args in let s = a.text.now in let x = a.x in let d = a.depth in let p = a.p in let h = c.requires.1 in
    let w = sym c.word_at-w.ensures ∙ c.in-Opens.is in let m = c.in-Opens.n in
    let z = c.past-in-Opens in let y = c.list-y.result in
    let j = reading.group_read s x d p h m c.times-q.result z.result y c.list-y.ensures.reads z.ensures c.times-q.ensures refl in
    record {
      reads = reading.group_fault s x d p h m y w c.if-depth-eq0.false j c.if-y-ne0.true;
      ahead = reading.fault_ahead s x y c.if-y-ne0.true;
    }

pub item-closed-requires : goal.item-closed-requires
item-closed-requires t c =
    let g = reading.ended c.args.text.now c.past-in-Opens.result c.list-y.result c.list-y.ensures.ends c.if-y-ne0.false in
    (g.0, g.1)

pub item-returns-in-Opens : goal.item-returns-in-Opens
item-returns-in-Opens t c =
    let a = c.args in let s = a.text.now in let x = a.x in let d = a.depth in let p = a.p in let h = c.requires.1 in
    let w = sym c.word_at-w.ensures ∙ c.in-Opens.is in let m = c.in-Opens.n in
    let z = c.past-in-Opens in let y = c.list-y.result in
    let o = subst (λ (y : Spot). (y.at ≤ length s) × Sound y × (x.at < y.at)) (sym z.ensures) (reading.open_ahead s x h m w) in let o2 = o.2 in
    let j = reading.group_read s x d p h m c.times-q.result z.result y c.list-y.ensures.reads z.ensures c.times-q.ensures refl in
    let g = reading.ended s z.result y c.list-y.ensures.ends c.if-y-ne0.false in let g2 = g.2 in
    let r = reading.item_by s x d p c.closed.result (closed_spot s y) c.closed.ensures (reading.group_closed s x d p h m y w c.if-depth-eq0.false j g.1 g.3) (reading.closed_ahead s y g.1 x (omega arith)) in
    record { reads = r.0; ahead = r.1 }

-- ---- a list
pub list-loop-z-init : goal.list-loop-z-init
list-loop-z-init t c =
    let a = c.args in
    (c.requires.0, c.requires.1, omega arith, reading.onward_none a.text.now a.depth a.p a.x a.must, c.requires.2)

pub list-returns-then-z-ne0 : goal.list-returns-then-z-ne0
list-returns-then-z-ne0 t c =
    let a = c.args in let s = a.text.now in let x = a.x in let d = a.depth in let p = a.p in
    let l = c.loop-z in let v = l.invariant in let z = c.item-z.result in
    let w = ap (λ (u : Word). item_comes l.due u) (sym c.word_at.ensures) ∙ sym c.comes.ensures ∙ c.loop-z-test.true in
    record {
      reads = reading.onward_fault s d p x a.must l.y z l.due v.3 w c.item-z.ensures.reads;
      ends = reading.fault_ended s x z c.if-z-ne0.true;
    }

pub list-loop-z-smaller : goal.list-loop-z-smaller
list-loop-z-smaller t c =
    let g = reading.ahead c.args.text.now c.loop-z.y c.item-z.result c.item-z.ensures.ahead c.if-z-ne0.false in let g0 = g.0 in let g2 = g.2 in
    omega arith

pub list-loop-z-preserved : goal.list-loop-z-preserved
list-loop-z-preserved t c =
    let a = c.args in let s = a.text.now in let x = a.x in let d = a.depth in let p = a.p in
    let l = c.loop-z in let y = l.y in let v = l.invariant in let v2 = v.2 in let z = c.item-z.result in
    let w = ap (λ (u : Word). item_comes l.due u) (sym c.word_at.ensures) ∙ sym c.comes.ensures ∙ c.loop-z-test.true in
    let g = reading.ahead s y z c.item-z.ensures.ahead c.if-z-ne0.false in let g0 = g.0 in let g2 = g.2 in
    (g0, g.1, omega arith, reading.onward_item s d p x a.must y z l.due v.3 w c.item-z.ensures.reads c.if-z-ne0.false, v.4)

pub list-returns : goal.list-returns
list-returns t c =
    let a = c.args in let s = a.text.now in let x = a.x in let d = a.depth in let p = a.p in
    let l = c.loop-z in let y = l.y in let v = l.invariant in let v2 = v.2 in
    let w = ap (λ (u : Word). item_comes l.due u) (sym c.word_at.ensures) ∙ sym c.comes.ensures ∙ c.loop-z-test.false in
    let n = reading.none_due l.due (word_in y.left (drop y.at s)) w in
    record {
      reads = reading.onward_end s d p x a.must y l.due v.3 n.0 v.1;
      ends = reading.here_ended s x y v.0 v.1 v2 n.1;
    }
