-- `loader_blocks::verify_all` meets its contract.
use mathlib.Core.Path.{◌≡◌, sym, ap, ◌∙◌}
use mathlib.Core.Bool.{Bool, true}
use mathlib.Core.List.{List}
use Prim.Native.Nat.{ℕ}
use native.Mathlib.Omega.{arith}
use lib.ListN.{length}
use Rattle.std.proofs.lemmas.Slice.Eq.{bytes_eq-Decides}
use Rattle.std.specs.Str.{bytes_eq}
use Rattle.common.specs.Lists.{overwritten}
use Rattle.common.proofs.Lists.{copied_whole, overwritten_all}
use Rattle.units.specs.Units.{units}
use Rattle.units.proofs.Widths.{units_length}
use Rattle.loader_walk.specs.Walks.{diff_from}
use Rattle.loader_blocks.specs.Blocks.{read_to}
use Rattle.loader_blocks.proofs.Laws.{none_differs, read_all}
use Rattle.loader_blocks.proofs.Lent.{units_same}
use Rattle.loader_blocks.proofs.verify_all.Goals as goal

-- two lists of bytes that `==` finds the same
same : (h w : List ℕ) → bytes_eq h w ≡ true → h ≡ w
same h w e = (bytes_eq-Decides h w).0 e

-- .. have no place that differs
whole : (b : Bool) (h w : List ℕ) → h ≡ w → length (units b w) ≡ diff_from 0 (units b w) (units b h)
whole b h w e = sym (none_differs (units b w)) ∙ ap (λ (x : List ℕ). diff_from 0 (units b w) (units b x)) (sym e)

pub returns-then-eq-clause-result : goal.returns-then-eq-clause-result
returns-then-eq-clause-result c =
    let a = c.args in
    c.units_in.ensures ∙ sym (units_length a.word a.wanted.now) ∙ whole a.word a.held.now a.wanted.now (same a.held.now a.wanted.now (sym c.eq.ensures ∙ c.if-eq.true))

pub returns-then-eq-clause-scratch_left : goal.returns-then-eq-clause-scratch_left
returns-then-eq-clause-scratch_left c =
    let p = c.requires in
    let b = c.args.word in
    let h = c.args.held.now in
    let w = c.args.wanted.now in
    let s = c.args.scratch.now in
    let e = same h w (sym c.eq.ensures ∙ c.if-eq.true) in
    let k : length (units b s) ≡ length (units b h) = units_same b s h (p.1 ∙ sym p.0) in
    let r : read_to (units b w) (units b h) ≡ length (units b s) = sym (read_all (units b w) (units b h) (length (units b w)) (whole b h w e) (omega arith)) ∙ ap (λ (x : List ℕ). length (units b x)) (sym e) ∙ sym k in
    let z : c.copy.new.dst ≡ h = c.copy.ensures ∙ copied_whole s h (p.1 ∙ sym p.0) in
    ap (λ (x : List ℕ). units b x) z ∙ sym (ap (λ (n : ℕ). overwritten n (units b h) (units b s)) r ∙ overwritten_all (units b h) (units b s) (sym k))
