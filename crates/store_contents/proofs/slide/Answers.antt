use mathlib.Core.Path.{refl, sym, ◌∙◌}
use Prim.Native.Nat.{◌<◌}
use native.Mathlib.Omega.{arith}
use lib.ListN.{length}
use borrow.Author.Rules.{rules}
use Rattle.store_contents.proofs.Slides.{begins, item_ends, item_some, item_fits, item_laid, slid_all}
use Rattle.store_contents.proofs.slide.Goals as goal

pub loop-from-init : goal.loop-from-init
loop-from-init c = let a = c.args in let q = c.requires in (refl, refl, q.1, begins a.letter a.main.now a.memory.now q.0)

pub overflow_add-end : goal.overflow_add-end
overflow_add-end c =
    let a = c.args in let L = c.loop-from in let i = L.invariant in let x = c.nth-first in let y = c.nth-count in let z = c.span in
    let h : L.from < length a.main.now = (let t = c.loop-from-test.true in let n = i.0 in omega arith) in
    let e = item_ends a.letter a.main.now L.memory L.from L.to x.result y.result z.result x.ensures y.ensures z.ensures h i.2 i.3 in let n = i.0 in search rules

pub slice_bounds-keep-end : goal.slice_bounds-keep-end
slice_bounds-keep-end c =
    let a = c.args in let L = c.loop-from in let i = L.invariant in let x = c.nth-first in let y = c.nth-count in let z = c.span in
    let h : L.from < length a.main.now = (let t = c.loop-from-test.true in let n = i.0 in omega arith) in
    item_ends a.letter a.main.now L.memory L.from L.to x.result y.result z.result x.ensures y.ensures z.ensures h i.2 i.3

pub keep-to-requires : goal.keep-to-requires
keep-to-requires c =
    let a = c.args in let L = c.loop-from in let i = L.invariant in let x = c.nth-first in let y = c.nth-count in let z = c.span in
    let h : L.from < length a.main.now = (let t = c.loop-from-test.true in let n = i.0 in omega arith) in
    item_fits a.letter a.main.now L.memory L.from L.to x.result y.result z.result x.ensures y.ensures z.ensures h i.2 i.3

pub loop-from-smaller : goal.loop-from-smaller
loop-from-smaller c =
    let a = c.args in let L = c.loop-from in let i = L.invariant in let x = c.nth-first in let y = c.nth-count in let z = c.span in
    let h : L.from < length a.main.now = (let t = c.loop-from-test.true in let n = i.0 in omega arith) in
    let e = item_ends a.letter a.main.now L.memory L.from L.to x.result y.result z.result x.ensures y.ensures z.ensures h i.2 i.3 in let d = item_some a.letter a.main.now L.memory L.from L.to x.result y.result z.result x.ensures y.ensures z.ensures h i.2 i.3 in let n = i.0 in omega arith

pub loop-from-preserved : goal.loop-from-preserved
loop-from-preserved c =
    let a = c.args in let L = c.loop-from in let i = L.invariant in let x = c.nth-first in let y = c.nth-count in let z = c.span in
    let h : L.from < length a.main.now = (let t = c.loop-from-test.true in let n = i.0 in omega arith) in
    let k = c.keep-to in
    let o = item_laid a.letter a.main.now L.memory L.from L.to x.result y.result z.result x.ensures y.ensures z.ensures h i.2 i.3 k.new.memory k.result k.ensures.result k.ensures.memory_left in
    (i.0, o.0 ∙ sym i.2 ∙ i.1, o.0, o.1)

pub returns : goal.returns
returns c = let a = c.args in let L = c.loop-from in let i = L.invariant in let both = slid_all a.letter a.main.now L.memory L.from L.to i.2 (let t = c.loop-from-test.false in let n = i.0 in omega arith) i.3 in record { result = both.0; memory_live = both.1 }
