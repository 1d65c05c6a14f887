-- `script_run::item` and `script_run::list`, which call each other, meet their contracts.
use Rattle.std.proofs.Common.{◌≡◌, ◌<◌, ◌+◌, ◌-◌, length, sym, ap, subst, refl, ◌∙◌, arith}
use Rattle.script_lines.specs.declared.Word.TheVariants.{Ends, Bad, Closes}
use Rattle.script_run.specs.declared.Run.{Run}
use Rattle.script_run.specs.Inner.{AgainRead}
use Rattle.script_run.proofs.Runs as runs
use Rattle.script_run.proofs.+item_list.Goals as goal

-- ---- an item
pub item-returns-in-Ends-clause-reads : goal.item-returns-in-Ends-clause-reads
item-returns-in-Ends-clause-reads t c =
    let a = c.args in let w = sym c.word_at-w.ensures ∙ c.in-Ends.is in
    runs.item_none _ _ _ _ _ _ (runs.run_stop a.depth a.text.now a.x a.array.now a.residue.now a.out.now Ends w (λ z. absurd (omega arith)) (λ z. absurd (omega arith)))

pub item-returns-in-Bad-clause-reads : goal.item-returns-in-Bad-clause-reads
item-returns-in-Bad-clause-reads t c =
    let a = c.args in let w = sym c.word_at-w.ensures ∙ c.in-Bad.is in
    runs.item_none _ _ _ _ _ _ (runs.run_stop a.depth a.text.now a.x a.array.now a.residue.now a.out.now Bad w (λ z. absurd (omega arith)) (λ z. absurd (omega arith)))

pub item-returns-in-Closes-clause-reads : goal.item-returns-in-Closes-clause-reads
item-returns-in-Closes-clause-reads t c =
    let a = c.args in let w = sym c.word_at-w.ensures ∙ c.in-Closes.is in
    runs.item_none _ _ _ _ _ _ (runs.run_stop a.depth a.text.now a.x a.array.now a.residue.now a.out.now Closes w (λ z. absurd (omega arith)) (λ z. absurd (omega arith)))

pub item-returns-then-out-x-lt8-clause-reads : goal.item-returns-then-out-x-lt8-clause-reads
item-returns-then-out-x-lt8-clause-reads t c =
    let a = c.args in let w = sym c.word_at-w.ensures ∙ c.in-Traced.is in
    runs.item_none _ _ _ _ _ _ (runs.run_short a.depth a.text.now a.x a.array.now a.residue.now a.out.now w c.if-out-x-lt8.true)

pub item-answered-requires : goal.item-answered-requires
item-answered-requires t c =
    let a = c.args in let w = sym c.word_at-w.ensures ∙ c.in-Traced.is in
    let m = runs.traced_room a.text.now a.x.left a.x.at w in
    (m.1, omega arith, m.0)

pub item-returns-in-Traced-clause-reads : goal.item-returns-in-Traced-clause-reads
item-returns-in-Traced-clause-reads t c =
    let a = c.args in let w = sym c.word_at-w.ensures ∙ c.in-Traced.is in
    let k = c.answered in let e = k.ensures in
    let len : length k.new.out ≡ length a.out.now = omega arith in
    runs.item_line a.depth a.text.now a.x k.result a.array.now a.residue.now a.out.now k.new.array k.new.out w e.result e.array_left e.out_left len

pub item-returns-in-Traced-clause-ahead : goal.item-returns-in-Traced-clause-ahead
item-returns-in-Traced-clause-ahead t c =
    let a = c.args in let w = sym c.word_at-w.ensures ∙ c.in-Traced.is in
    let m = runs.traced_room a.text.now a.x.left a.x.at w in let m1 = m.1 in
    let e = c.answered.ensures.result in
    let e1 = ap (λ (r : Run). r.at) e in let e3 = ap (λ (r : Run). r.used) e in
    (omega arith, omega arith, omega arith)

pub item-returns-then-depth-eq0-clause-reads : goal.item-returns-then-depth-eq0-clause-reads
item-returns-then-depth-eq0-clause-reads t c =
    let a = c.args in let w = sym c.word_at-w.ensures ∙ c.in-Opens.is in
    runs.item_none _ _ _ _ _ _ (runs.run_deep a.depth a.text.now a.x c.in-Opens.n a.array.now a.residue.now a.out.now w c.if-depth-eq0.true)

pub item-past_open-y-requires : goal.item-past_open-y-requires
item-past_open-y-requires t c =
    let a = c.args in let w = sym c.word_at-w.ensures ∙ c.in-Opens.is in
    let m = runs.opens_room a.text.now a.x.left a.x.at c.in-Opens.n w in
    (c.requires.0, m.0)

pub item-loop-init : goal.item-loop-init
item-loop-init t c =
    let a = c.args in let w = sym c.word_at-w.ensures ∙ c.in-Opens.is in let n = c.in-Opens.n in
    let m = runs.opens_room a.text.now a.x.left a.x.at n w in let m1 = m.1 in let m3 = m.3 in
    let o = c.past_open-y in let o1 = ap (λ (r : Run). r.at) o.ensures in let o3 = ap (λ (r : Run). r.used) o.ensures in
    (refl, refl, omega arith, omega arith, omega arith, omega arith, λ u. runs.rounds_none (a.depth - 1) a.text.now o.result n (n - 0) a.array.now a.residue.now a.out.now (omega arith), λ u. absurd (omega arith))

pub item-loop-preserved : goal.item-loop-preserved
item-loop-preserved t c =
    let a = c.args in let n = c.in-Opens.n in let o = c.past_open-y in
    let l = c.loop in let y = l.y in let v = l.invariant in let v0 = v.0 in let v9 = l.auto.out in let lt : l.counter < n = c.loop-test.true in
    let k = c.list-z in let q = k.result in let g = k.ensures.ahead in let g1 = g.1 in let g2 = g.2 in
    let len : length k.new.out ≡ length l.out = omega arith in let wide : length k.new.array ≡ length l.array = omega arith in
    let b = c.back-y in let e = b.ensures in let e3 = ap (λ (r : Run). r.used) e in (
      ap (λ (r : Run). r.at) e ∙ v0,
      ap (λ (r : Run). r.left) e ∙ v.1,
      omega arith,
      g.0,
      omega arith,
      omega arith,
      λ u. runs.rounds_one (a.depth - 1) a.text.now o.result y q b.result n (n - l.counter) (n - (l.counter + 1)) a.array.now a.residue.now a.out.now l.array l.out k.new.array k.new.out (v.6 lt) k.ensures.reads e (omega arith) (omega arith) len,
      λ u. runs.rounds_end (a.depth - 1) a.text.now o.result y q n (n - l.counter) a.array.now a.residue.now a.out.now l.array l.out k.new.array k.new.out (v.6 lt) (omega arith) k.ensures.reads,
    )

pub item-returns-in-Opens-clause-reads : goal.item-returns-in-Opens-clause-reads
item-returns-in-Opens-clause-reads t c =
    let a = c.args in let w = sym c.word_at-w.ensures ∙ c.in-Opens.is in let n = c.in-Opens.n in
    let o = c.past_open-y in let o1 = ap (λ (r : Run). r.at) o.ensures in
    let l = c.loop in let v = l.invariant in let v3 = v.3 in let v4 = v.4 in let ge = c.loop-test.false in
    let ez = c.past_close.ensures in let h = runs.close_ahead a.text.now l.z v3 in let h1 = h.1 in
    let e1 = ap (λ (r : Run). r.at) ez in
    let j = subst (λ (u : Run). AgainRead a.text.now u (a.depth - 1) n l.z a.array.now a.residue.now a.out.now l.array l.out) o.ensures (v.7 (omega arith)) in
    runs.item_group a.depth a.text.now a.x l.z c.past_close.result n a.array.now a.residue.now a.out.now l.array l.out w j ez (omega arith) l.auto.out

pub item-returns-in-Opens-clause-ahead : goal.item-returns-in-Opens-clause-ahead
item-returns-in-Opens-clause-ahead t c =
    let a = c.args in
    let o = c.past_open-y in let o1 = ap (λ (r : Run). r.at) o.ensures in
    let l = c.loop in let v = l.invariant in let v3 = v.3 in let v4 = v.4 in let v5 = v.5 in let v9 = l.auto.out in
    let ez = c.past_close.ensures in let h = runs.close_ahead a.text.now l.z v3 in let h0 = h.0 in let h1 = h.1 in let h2 = h.2 in
    let e1 = ap (λ (r : Run). r.at) ez in let e3 = ap (λ (r : Run). r.used) ez in
    (omega arith, omega arith, omega arith)

-- ---- a list
pub list-loop-y-init : goal.list-loop-y-init
list-loop-y-init t c =
    let a = c.args in
    (c.requires.0, c.requires.1, omega arith, runs.leads_none a.depth a.text.now a.x a.array.now a.residue.now a.out.now, refl, refl)

pub list-returns-then-z-y-clause-reads : goal.list-returns-then-z-y-clause-reads
list-returns-then-z-y-clause-reads t c =
    let a = c.args in let l = c.loop-y in let v = l.invariant in let k = c.item-z in
    runs.leads_end a.depth a.text.now a.x l.y k.result a.array.now a.residue.now a.out.now l.array l.out k.new.array k.new.out v.3 k.ensures.reads c.if-z-y.true

pub list-loop-y-preserved : goal.list-loop-y-preserved
list-loop-y-preserved t c =
    let a = c.args in let l = c.loop-y in let y = l.y in let v = l.invariant in let v2 = v.2 in let v5 = v.5 in
    let k = c.item-z in let z = k.result in let g = k.ensures.ahead in let g1 = g.1 in let g2 = g.2 in
    let len : length k.new.out ≡ length l.out = omega arith in let wide : length k.new.array ≡ length l.array = omega arith in
    let f = runs.below y.at z.at g1 (λ (e : y.at ≡ z.at). c.if-z-y.false (sym e)) in
    (g.0, omega arith, omega arith, runs.leads_item a.depth a.text.now a.x y z a.array.now a.residue.now a.out.now l.array l.out k.new.array k.new.out v.3 k.ensures.reads f, wide ∙ v.4, len ∙ v5)

pub list-returns-clause-reads : goal.list-returns-clause-reads
list-returns-clause-reads t c =
    let a = c.args in let l = c.loop-y in let y = l.y in let v = l.invariant in
    runs.leads_to a.depth a.text.now a.x y y a.array.now a.residue.now a.out.now l.array l.out l.array l.out v.3 (runs.run_over a.depth a.text.now y l.array a.residue.now l.out (omega arith))
