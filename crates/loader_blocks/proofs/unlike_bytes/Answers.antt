-- `loader_blocks::unlike_bytes` meets its contract: those that differ so far, and those among the rest, are all that differ.
use mathlib.Core.Path.{◌≡◌, refl, sym, ap, ◌∙◌}
use mathlib.Core.List.{List}
use Prim.Native.Nat.{ℕ, ◌+◌, ◌-◌}
use native.Mathlib.Omega.{arith}
use borrow.Rule.Slice.PartMut.{mid_of, mid_len}
use lib.ListN.{length}
use Rattle.loader_blocks.specs.Blocks.{costs}
use Rattle.loader_blocks.proofs.Laws.{mid_costs, costs_split, costs_few, costs_over}
use Rattle.loader_blocks.proofs.unlike_bytes.Goals as goal

pub loop-i-init : goal.loop-i-init
loop-i-init c =
    let a = c.args in
    let z : length a.wanted.now - 0 ≡ length a.wanted.now = omega arith in
    let q : costs (length a.wanted.now - 0) 1 0 a.wanted.now a.scratch.now ≡ costs (length a.wanted.now) 1 0 a.wanted.now a.scratch.now = ap (λ (k : ℕ). costs k 1 0 a.wanted.now a.scratch.now) z in
    (omega arith, refl, omega (arith, q), omega arith)

pub piece_end-e-requires : goal.piece_end-e-requires
piece_end-e-requires c = (omega (arith, c.loop-i-test.true), omega (arith, c.loop-i.invariant.1, c.requires.1))

pub slice_bounds-unlike_piece-count : goal.slice_bounds-unlike_piece-count
slice_bounds-unlike_piece-count c = omega (arith, c.piece_end-e.ensures.0)

pub slice_bounds-unlike_piece-start : goal.slice_bounds-unlike_piece-start
slice_bounds-unlike_piece-start c = omega (arith, c.piece_end-e.ensures.0)

pub slice_bounds-unlike_piece-end : goal.slice_bounds-unlike_piece-end
slice_bounds-unlike_piece-end c = omega (arith, c.piece_end-e.ensures.1, c.loop-i.invariant.1)

pub slice_bounds-unlike_piece-count-in-loop-i : goal.slice_bounds-unlike_piece-count-in-loop-i
slice_bounds-unlike_piece-count-in-loop-i c = omega (arith, c.piece_end-e.ensures.0)

pub slice_bounds-unlike_piece-start-in-loop-i : goal.slice_bounds-unlike_piece-start-in-loop-i
slice_bounds-unlike_piece-start-in-loop-i c = omega (arith, c.piece_end-e.ensures.0)

pub slice_bounds-unlike_piece-end-in-loop-i : goal.slice_bounds-unlike_piece-end-in-loop-i
slice_bounds-unlike_piece-end-in-loop-i c = omega (arith, c.piece_end-e.ensures.1, c.loop-i.invariant.1, c.requires.0)

pub unlike_piece-c-requires : goal.unlike_piece-c-requires
unlike_piece-c-requires c =
    let a = c.args in
    let l = c.loop-i in
    let f = c.piece_end-e in
    let m = mid_len l.i f.result a.wanted.now (omega (arith, f.ensures.1, l.invariant.1)) in
    let n = mid_len l.i f.result a.scratch.now (omega (arith, f.ensures.1, l.invariant.1, c.requires.0)) in
    (n ∙ sym m, omega (arith, m, f.ensures.2))

pub overflow_add-count : goal.overflow_add-count
overflow_add-count c =
    let l = c.loop-i in
    let f = c.piece_end-e in
    let a = c.args in
    let W : List ℕ = mid_of l.i (f.result - l.i) a.wanted.now in
    let S : List ℕ = mid_of l.i (f.result - l.i) a.scratch.now in
    let m = mid_len l.i f.result a.wanted.now (omega (arith, f.ensures.1, l.invariant.1)) in
    record { fits = omega (arith, m, c.unlike_piece-c.ensures, costs_few (length W) 0 W S, f.ensures.2, f.ensures.1, l.invariant.3, l.invariant.1, l.invariant.0, c.requires.1) }

pub loop-i-smaller : goal.loop-i-smaller
loop-i-smaller c = omega (arith, c.piece_end-e.ensures.0, c.piece_end-e.ensures.1)

pub loop-i-preserved : goal.loop-i-preserved
loop-i-preserved c =
    let l = c.loop-i in
    let f = c.piece_end-e in
    let a = c.args in
    let w = a.wanted.now in
    let s = a.scratch.now in
    let i = l.i in
    let e = f.result in
    let W : List ℕ = mid_of i (e - i) w in
    let S : List ℕ = mid_of i (e - i) s in
    let m : length W ≡ e - i = mid_len i e w (omega (arith, f.ensures.1, l.invariant.1)) in
    let here : c.unlike_piece-c.result ≡ costs (e - i) 1 i w s =
    c.unlike_piece-c.ensures ∙ ap (λ (k : ℕ). costs k 1 0 W S) m ∙ mid_costs (e - i) i (e - i) 0 w s (omega arith)
    ∙ ap (λ (k : ℕ). costs (e - i) 1 k w s) (let q : i + 0 ≡ i = omega arith in q) in
    let p : length w - i ≡ (e - i) + (length w - e) = omega (arith, f.ensures.0, f.ensures.1, l.invariant.1) in
    let q : i + (e - i) ≡ e = omega (arith, f.ensures.0) in
    let both : costs (length w - i) 1 i w s ≡ costs (e - i) 1 i w s + costs (length w - e) 1 e w s =
    ap (λ (k : ℕ). costs k 1 i w s) p ∙ costs_split (e - i) (length w - e) i w s ∙ ap (λ (k : ℕ). costs (e - i) 1 i w s + costs (length w - e) 1 k w s) q in
    let few = costs_few (e - i) i w s in
    (f.ensures.1, l.invariant.1, omega (arith, here, both, l.invariant.2), omega (arith, here, few, l.invariant.3, f.ensures.0))

pub returns : goal.returns
returns c =
    let l = c.loop-i in
    let a = c.args in
    let none = costs_over (length a.wanted.now) 1 l.i a.wanted.now a.scratch.now (omega (arith, c.loop-i-test.false, l.invariant.1)) in
    omega (arith, l.invariant.2, none)
