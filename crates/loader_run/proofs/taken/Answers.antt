use mathlib.Core.Path.{◌≡◌, ap, sym, ◌∙◌}
use Prim.Native.Nat.{ℕ}
use Rattle.loader_moves.specs.Moves.{ended_by, next_of}
use Rattle.loader_stores.specs.Stores.{store_of}
use Rattle.loader_run.specs.Turns.{number_in, refusal_number}
use Rattle.units.specs.Units.{units}
use Rattle.loader_run.proofs.Turning.{took, took_none}
use Rattle.loader_run.proofs.taken.Goals as goal

pub returns-then-is_refused : goal.returns-then-is_refused
returns-then-is_refused c =
    let a = c.args in
    let e = sym c.is_refused.ensures ∙ c.if-is_refused.true in
    let n : c.refusal_number.result ≡ refusal_number a.seen = c.refusal_number.ensures in
    let t = took_none a.seen a.l (units a.l.part.word a.wanted.now) (units a.l.part.word a.scratch.now) e in
    record { result = c.ended_by.ensures ∙ ap (λ (m : ℕ). ended_by a.l m) n ∙ sym t.0; scratch_left = sym t.1 }

pub returns : goal.returns
returns c =
    let a = c.args in
    let w = units a.l.part.word a.wanted.now in
    let sc = units a.l.part.word a.scratch.now in
    let e = sym c.is_refused.ensures ∙ c.if-is_refused.false in
    let n : c.number_in-v.result ≡ number_in a.seen = c.number_in-v.ensures in
    let t = took a.seen a.l w sc e in
    record { result = c.advance.ensures.result ∙ ap (λ (m : ℕ). next_of a.l m w (store_of a.l m w sc)) n ∙ sym t.0; scratch_left = c.advance.ensures.scratch_left ∙ ap (λ (m : ℕ). store_of a.l m w sc) n ∙ sym t.1 }
