-- `c_recording::last_poll` meets its contract.
use Rattle.c_recording.specs.Known.{good}
use mathlib.Core.Path.{refl, sym, ◌∙◌}
use native.Mathlib.Omega.{arith}
use Rattle.common.proofs.Choice.{unlike}
use Rattle.c_recording.proofs.Moving.{poll_last}
use Prim.Native.Nat.{◌-◌}
use Rattle.c_recording.proofs.last_poll.Goals as goal

pub returns-then-key-r : goal.returns-then-key-r
returns-then-key-r c = let a = c.args in let q = c.leaves.ensures in let p = c.program_unit in let k = c.requires.0.phase in let o = c.requires.1 in record { told = λ e u i w. let t = poll_last a.d a.r a.array.now u a.key a.rest c.requires.0 i (omega (arith, o)) w o c.if-key-r.true _ (λ j. (c.slice_known-then-key-r-1.given j).fits) p.ensures.s_left p.ensures.s_spare p.auto.s (a.key - 163840) (omega (arith, k)) in ((λ j. good (q j).key (q j).rest w) ∙ t.0, t.1); array_left = λ z. absurd (unlike (sym (λ j. (q j).known) ∙ z)) }

pub returns : goal.returns
returns c = record { told = λ e. absurd (unlike (sym e ∙ c.unknown.ensures)); array_left = λ z. refl }
