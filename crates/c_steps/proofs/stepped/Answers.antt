-- `c_steps::stepped` meets its contract.
use mathlib.Core.Path.{refl, sym, ◌∙◌, subst}
use mathlib.Core.List.{List}
use Prim.Native.Nat.{ℕ}
use native.Mathlib.Omega.{arith}
use Rattle.units.specs.Units.{units}
use Rattle.loader_stores.specs.Stores.{store_of}
use Rattle.loader_steps.proofs.SmallAddresses.{start_small}
use Rattle.c_records.specs.Records.{loader_in}
use Rattle.c_steps.specs.Steps.{word_in}
use Rattle.c_steps.specs.Inner.{GoesTo}
use Rattle.c_steps.proofs.Going.{answer, at_any, scratch_left, is_taken, place_small, wanted_units, some_wanted, few_wanted}
use Rattle.c_steps.proofs.stepped.Goals as goal

pub is_taken-requires : goal.is_taken-requires
is_taken-requires c = (refl, c.block_span-span.ensures)

pub on_to-requires : goal.on_to-requires
on_to-requires c =
    let a = c.args in
    let n = a.l in
    let w = a.wanted.now in
    let sc = a.scratch.now in
    let s = c.block_span-span.result in
    let T = c.is_taken.ensures c.if-is_taken.true in
    (omega (arith, T.first, start_small (loader_in n).part n.block), omega (arith, c.next_of-r.ensures.near, place_small n w sc s T))

pub returns-then-r : goal.returns-then-r
returns-then-r c =
    let a = c.args in
    let n = a.l in
    let w = a.wanted.now in
    let sc = a.scratch.now in
    let s = c.block_span-span.result in
    let T = c.is_taken.ensures c.if-is_taken.true in
    let v = a.value in
    let W : List ℕ = units (word_in n) w in
    let S : List ℕ = units (word_in n) sc in
    let taken = is_taken n w sc s T in
    let r = c.next_of-r in
    let known = c.if-r.true in
    let G = at_any n v W (store_of (loader_in n) v W S) r.result (r.ensures.led known W) in (
      c.on_to.ensures ∙ answer n v w sc taken r.result s.first G T.first (omega (arith, r.ensures.near, place_small n w sc s T)) T.end T.high,
      scratch_left n v w sc taken sc refl (λ i. (c.slice_known-1.given i).fits) (sym (r.ensures.kept known W S)),
    )

pub read_next-q-requires : goal.read_next-q-requires
read_next-q-requires c =
    let a = c.args in
    let n = a.l in
    let w = a.wanted.now in
    let sc = a.scratch.now in
    let s = c.block_span-span.result in
    let T = c.is_taken.ensures c.if-is_taken.true in
    (refl, wanted_units n w sc s T, some_wanted n w sc s T)

pub on_to-requires-then-q : goal.on_to-requires-then-q
on_to-requires-then-q c =
    let a = c.args in
    let n = a.l in
    let w = a.wanted.now in
    let sc = a.scratch.now in
    let s = c.block_span-span.result in
    let T = c.is_taken.ensures c.if-is_taken.true in
    (omega (arith, T.first, start_small (loader_in n).part n.block), omega (arith, c.read_next-q.ensures.near c.if-q.true, few_wanted n w sc s T))

pub returns-then-q : goal.returns-then-q
returns-then-q c =
    let a = c.args in
    let n = a.l in
    let w = a.wanted.now in
    let sc = a.scratch.now in
    let s = c.block_span-span.result in
    let T = c.is_taken.ensures c.if-is_taken.true in
    let v = a.value in
    let W : List ℕ = units (word_in n) w in
    let S : List ℕ = units (word_in n) sc in
    let taken = is_taken n w sc s T in
    let r = c.read_next-q in
    let p = c.put_unit in
    let known = c.if-q.true in
    let G = at_any n v W (store_of (loader_in n) v W S) r.result (r.ensures.led known) in (
      c.on_to-then-q.ensures ∙ answer n v w sc taken r.result s.first G T.first (omega (arith, r.ensures.near known, few_wanted n w sc s T)) T.end T.high,
      scratch_left n v w sc taken p.new.s p.auto.s (λ i. (c.slice_known-then-q-1.given i).fits) (p.ensures.s_left ∙ sym (r.ensures.stored known W S)),
    )

pub ask_next-o-requires : goal.ask_next-o-requires
ask_next-o-requires c =
    let a = c.args in
    let n = a.l in
    let w = a.wanted.now in
    let sc = a.scratch.now in
    let s = c.block_span-span.result in
    let T = c.is_taken.ensures c.if-is_taken.true in
    (refl, wanted_units n w sc s T, some_wanted n w sc s T)

pub on_to-requires-then-o : goal.on_to-requires-then-o
on_to-requires-then-o c =
    let a = c.args in
    let n = a.l in
    let w = a.wanted.now in
    let sc = a.scratch.now in
    let s = c.block_span-span.result in
    let T = c.is_taken.ensures c.if-is_taken.true in
    (omega (arith, T.first, start_small (loader_in n).part n.block), omega (arith, c.ask_next-o.ensures.near c.if-o.true, few_wanted n w sc s T))

pub returns-then-o : goal.returns-then-o
returns-then-o c =
    let a = c.args in
    let n = a.l in
    let w = a.wanted.now in
    let sc = a.scratch.now in
    let s = c.block_span-span.result in
    let T = c.is_taken.ensures c.if-is_taken.true in
    let v = a.value in
    let W : List ℕ = units (word_in n) w in
    let S : List ℕ = units (word_in n) sc in
    let taken = is_taken n w sc s T in
    let r = c.ask_next-o in
    let p = c.store_program in
    let known = c.if-o.true in
    let left = r.ensures.stored known W S in
    let G = subst (λ (us : List ℕ). GoesTo n v W us r.result) (sym left) (r.ensures.led known) in (
      c.on_to-then-o.ensures ∙ answer n v w sc taken r.result s.first G T.first (omega (arith, r.ensures.near known, few_wanted n w sc s T)) T.end T.high,
      scratch_left n v w sc taken p.new.scratch p.auto.scratch (λ i. (c.slice_known-then-o-1.given i).fits) (p.ensures.scratch_left ∙ sym left),
    )
