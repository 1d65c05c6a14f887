-- What the run of a script is the same as.
use mathlib.Core.Path.{◌≡◌, refl, sym, ap, ◌∙◌}
use mathlib.Core.Bool.{Bool, true, false}
use mathlib.Core.List.{List, [], ◌++◌}
use Prim.Native.Nat.{ℕ, ◌+◌, ◌*◌, ◌≤◌}
use native.Mathlib.Omega.{arith}
use lib.Dec.{eqb}
use lib.ListN.{length, take}
use lib.Seq.{take_all}
use borrow.Author.Tests.{eq-eqb, eqb-true, eqb-false}
use Rattle.common.proofs.Choice.{if_true}
use Rattle.model_states.specs.States.{fresh_state}
use Rattle.script_lines.specs.Scripts.{Script, done, line, group, close_by, print_on, Formed, Allowed, lines_in, written_in, lines_written, trace_of}
use Rattle.script_judge.specs.declared.Judged.{Judged}
use Rattle.script_judge.specs.Judges.{script_judged}
use Rattle.script_judge.specs.Reads.{script_in}
use Rattle.script_judge.specs.Faults.{FaultAt}
use Rattle.script_judge.proofs.Claims.{read_exactly, read_printed, first_fault, cut_judged}
use Rattle.trace_replay.specs.Answers.{mark_of}
use Rattle.trace_replay.specs.Replays.{output_of, array_left}
use Rattle.trace_replay.proofs.Claims.{empty_input}
use Rattle.script_run.specs.Runs.{trace_in, script_output, script_array}
use Rattle.script_run.proofs.Lines.{mark_length}
use Rattle.script_run.proofs.Answers.{answers_length}
use Rattle.script_run.proofs.WholeScript.{replayed, mark_alone, array_kept, size, few_lines}

module _ (s : Script) (xs rs : List ℕ) (a : Allowed s) where
  fine : (script_judged (print_on s [])).fault ≡ 0
  fine = ((read_exactly (print_on s []) s).1 (a, refl)).0

  back : script_in (print_on s []) ≡ s
  back = ((read_exactly (print_on s []) s).1 (a, refl)).1

  pub same_output : script_output xs rs (print_on s []) ≡ output_of xs rs (trace_of (lines_written s))
  unfolding script_output
  same_output =
      if_true (eqb (script_judged (print_on s [])).fault 0) (output_of xs rs (trace_in (print_on s []))) (mark_of (script_judged (print_on s [])).fault) (eq-eqb (script_judged (print_on s [])).fault 0 fine)
      ∙ ap (λ (x : Script). output_of xs rs (trace_of (lines_written x))) back

  pub same_array : script_array xs rs (print_on s []) ≡ array_left xs rs (trace_of (lines_written s))
  unfolding script_array
  same_array =
      if_true (eqb (script_judged (print_on s [])).fault 0) (array_left xs rs (trace_in (print_on s []))) xs (eq-eqb (script_judged (print_on s [])).fault 0 fine)
      ∙ ap (λ (x : Script). array_left xs rs (trace_of (lines_written x))) back

  pub output_length : length (script_output xs rs (print_on s [])) ≡ 8 * length (lines_written s)
  output_length =
      ap (λ (y : List ℕ). length y) (same_output ∙ replayed s xs rs a) ∙ answers_length (lines_written s) fresh_state xs rs

-- a first line at fault is not line 0
fault_some : (text : List ℕ) (i : ℕ) → FaultAt text i → i ≡ 0 → ⊥
fault_some text i f z = let n = f.number in absurd (omega arith)

pub fault_alone : (xs rs text : List ℕ) (i : ℕ) → FaultAt text i → (script_output xs rs text ≡ mark_of i) × (script_array xs rs text ≡ xs)
fault_alone xs rs text i f =
    let z = fault_some text i f in
    let e : i ≡ (script_judged text).fault = sym ((first_fault text i z).1 f) in
    (mark_alone i xs rs text [] e z, array_kept i xs rs text [] e z)

-- no output is longer than 9,998 answers
pub output_most : (xs rs text : List ℕ) → length (script_output xs rs text) ≤ 79984
output_most xs rs text = go (eqb (script_judged text).fault 0) refl where
  go : (b : Bool) → eqb (script_judged text).fault 0 ≡ b → length (script_output xs rs text) ≤ 79984
  go true e =
      let z = eqb-true (script_judged text).fault 0 e in
      let a = size (script_judged text) xs rs text [] refl z in let b = few_lines (script_judged text) xs rs text [] refl z in omega arith
  go false e =
      let z = eqb-false (script_judged text).fault 0 e in
      let a = ap (λ (y : List ℕ). length y) (mark_alone (script_judged text).fault xs rs text [] refl z) in let b = mark_length (script_judged text).fault in omega arith

-- the empty text
empty_allowed : Allowed done
unfolding Formed lines_in written_in
empty_allowed = record { formed = tt; short = omega arith; few = omega arith }

pub empty_script : (xs rs : List ℕ) → script_output xs rs [] ≡ []
unfolding print_on lines_written trace_of
empty_script xs rs = same_output done xs rs empty_allowed ∙ empty_input xs rs

-- ---- what lies past 60,001 bytes does not matter
print_length : (s : Script) (t : List ℕ) → length (print_on s t) ≤ 20 * lines_in s + length t
unfolding print_on lines_in
print_length done t = omega arith
print_length (line c r) t = let i = print_length r t in omega arith
print_length (group n b r) t = let i = print_length r t in let j = print_length b (close_by ++ print_on r t) in omega arith

-- a text without a fault is no longer
not_longer : (text : List ℕ) → (script_judged text).fault ≡ 0 → take 60001 text ≡ text
not_longer text z =
    let p = read_printed text z in
    let a = print_length (script_in text) [] in
    let b = p.0.short in
    let e = ap (λ (t : List ℕ). length t) p.1 in
    take_all 60001 text (omega arith)

pub cut_run : (xs rs text : List ℕ) → (script_output xs rs (take 60001 text) ≡ script_output xs rs text) × (script_array xs rs (take 60001 text) ≡ script_array xs rs text)
cut_run xs rs text = go (eqb (script_judged text).fault 0) refl where
  go : (b : Bool) → eqb (script_judged text).fault 0 ≡ b
      → (script_output xs rs (take 60001 text) ≡ script_output xs rs text) × (script_array xs rs (take 60001 text) ≡ script_array xs rs text)
  go true e =
      let t = not_longer text (eqb-true (script_judged text).fault 0 e) in
      (ap (λ (l : List ℕ). script_output xs rs l) t, ap (λ (l : List ℕ). script_array xs rs l) t)
  go false e =
      let z = eqb-false (script_judged text).fault 0 e in
      let c : (script_judged text).fault ≡ (script_judged (take 60001 text)).fault = ap (λ (j : Judged). j.fault) (sym (cut_judged text)) in (
        mark_alone (script_judged text).fault xs rs (take 60001 text) [] c z ∙ sym (mark_alone (script_judged text).fault xs rs text [] refl z),
        array_kept (script_judged text).fault xs rs (take 60001 text) [] c z ∙ sym (array_kept (script_judged text).fault xs rs text [] refl z),
      )
