-- `loader_steps::front::start` meets its contract.
use mathlib.Core.Path.{◌≡◌, ap, ap₂, sym, ◌∙◌}
use Prim.Native.Nat.{ℕ}
use lib.ListN.{length}
use lib.Dec.{eqb}
use mathlib.Core.Bool.{Bool}
use mathlib.Core.List.{List}
use borrow.Author.Tests.{eq-eqb, ne_eqb}
use Rattle.common.proofs.Choice.{if_true, if_false}
use Rattle.loader.specs.declared.Loader.{Loader}
use Rattle.loader.specs.declared.Stage.{Stage}
use Rattle.loader.specs.declared.Stage.TheVariants.{Ended}
use Rattle.loader.specs.Stages.{first_stage, verifies}
use Rattle.units.specs.Units.{units, lent}
use Rattle.units.proofs.Widths.{lent_length, lent_is}
use Rattle.loader_steps.proofs.Lending.{step_some}
use Rattle.loader_steps.proofs.StartAndStep.{first_taken}
use Rattle.loader_steps.proofs.Told.{start_too}
use Rattle.loader_steps.specs.Front.{start_response, start_number, response_at, refused_by, record_at, record_of}
use Rattle.loader_steps.proofs.front.start.Goals as goal

pub returns-then-n-eq0 : goal.returns-then-n-eq0
unfolding start_response
returns-then-n-eq0 c =
    let a = c.args in
    let w = lent a.part.word a.wanted.now in
    let sc = lent a.part.word a.scratch.now in
    let n = start_number a.part a.p a.block (length w) (length sc) in
    let e : c.start_number-n.result ≡ n =
    c.start_number-n.ensures ∙ ap₂ (λ (i j : ℕ). start_number a.part a.p a.block i j) (c.lent_in.ensures ∙ sym (lent_length a.part.word a.wanted.now)) (c.lent_in-2.ensures ∙ sym (lent_length a.part.word a.scratch.now)) in
    let z : n ≡ 0 = sym e ∙ c.if-n-eq0.true in
    let l = record_of a.work a.part a.p a.block in
    let s = step_some l a.wanted.now a.scratch.now (first_taken (first_stage a.work) (verifies a.work) a.part a.p a.block (length w) (length sc) z) in
    let q = c.record_at.ensures ∙ ap₂ (λ (g : Stage) (v : Bool). record_at a.part a.p a.block g v) c.first_stage-stage.ensures c.verifies-verify.ensures in
    let both = start_too a.work a.part a.p a.block w sc
    (c.response_at.ensures ∙ ap (λ (l : Loader). response_at l (units l.part.word a.wanted.now)) q
    ∙ ap (λ (us : List ℕ). response_at l us) (sym (lent_is a.part.word a.wanted.now s.0))
    ∙ sym (if_true (eqb n 0) _ _ (eq-eqb n 0 z))) in record { result = both.0; told = both.1 }

pub returns : goal.returns
unfolding start_response
returns c =
    let a = c.args in
    let w = lent a.part.word a.wanted.now in
    let sc = lent a.part.word a.scratch.now in
    let n = start_number a.part a.p a.block (length w) (length sc) in
    let e : c.start_number-n.result ≡ n =
    c.start_number-n.ensures ∙ ap₂ (λ (i j : ℕ). start_number a.part a.p a.block i j) (c.lent_in.ensures ∙ sym (lent_length a.part.word a.wanted.now)) (c.lent_in-2.ensures ∙ sym (lent_length a.part.word a.scratch.now)) in
    let q = c.record_at-2.ensures ∙ ap (λ (v : Bool). record_at a.part a.p a.block (Ended c.start_number-n.result) v) c.verifies-verify.ensures in
    let both = start_too a.work a.part a.p a.block w sc
    (c.refused_by.ensures ∙ ap (λ (l : Loader). refused_by c.start_number-n.result l) q
    ∙ ap (λ (m : ℕ). refused_by m (record_at a.part a.p a.block (Ended m) (verifies a.work))) e
    ∙ sym (if_false (eqb n 0) _ _ (ne_eqb n 0 (λ q. c.if-n-eq0.false (e ∙ q))))) in record { result = both.0; told = both.1 }
