-- The judge's number, both ways, and the empty text.
use mathlib.Core.Path.{◌≡◌}
use mathlib.Core.Bool.{false}
use mathlib.Core.List.{List, []}
use mathlib.Core.Logic.{◌↔◌}
use Prim.Native.Nat.{ℕ}
use Rattle.script_lines.specs.declared.Word.TheVariants.{Ends}
use Rattle.script_lines.proofs.Forms.{empty_word}
use Rattle.script_judge.specs.Judges.{fine_as, script_judged}
use Rattle.script_judge.specs.Faults.{FaultAt}
use Rattle.script_judge.proofs.Rounds.{round}
use Rattle.script_judge.proofs.Fault as fault
use Rattle.script_judge.proofs.OtherLines as only

pub first_fault : (text : List ℕ) (i : ℕ) → (i ≡ 0 → ⊥) → ((script_judged text).fault ≡ i) ↔ FaultAt text i
first_fault text i z = (λ (h : (script_judged text).fault ≡ i). fault.first_fault text i h z, λ (f : FaultAt text i). only.faulted text i f)

pub one_fault : (text : List ℕ) (i j : ℕ) → FaultAt text i → FaultAt text j → i ≡ j
one_fault = only.one_fault

pub empty_script : script_judged [] ≡ fine_as 0
empty_script = round 3000 1 [] 1 false 0 [] Ends (empty_word 3000)
