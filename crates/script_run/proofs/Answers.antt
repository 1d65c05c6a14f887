-- Cycles made one after the other: two lists of them, the answers' length, and the replay of their trace.
use mathlib.Core.Path.{◌≡◌, refl, sym, ap, ◌∙◌}
use mathlib.Core.Bool.{true}
use mathlib.Core.List.{List, [], ◌∷◌, ◌++◌, append_assoc}
use Prim.Native.Nat.{ℕ, zero, suc, ◌+◌, ◌*◌, ◌≤◌}
use native.Mathlib.Omega.{arith}
use lib.ListN.{length, take, drop, length-append}
use Rattle.model_types.specs.declared.State.{State}
use Rattle.model_types.specs.declared.Cycle.{Cycle}
use Rattle.trace_lines.specs.Lines.{is_line, line_of, Fits, cycle_stated}
use Rattle.script_lines.specs.Scripts.{Script, done, line, group, Formed, times_on, lines_written, trace_of}
use Rattle.script_lines.proofs.Forms.{printed_line}
use Rattle.trace_replay.specs.Answers.{printed_of}
use Rattle.trace_replay.specs.Replays.{line_step, array_by, output_from, array_from}
use Rattle.trace_replay.proofs.Claims.{good_line, no_line, eight_bytes}
use Rattle.trace_replay.proofs.Scans.{not_line}
use Rattle.script_run.specs.Inner.{state_through, array_through, answers_through}

-- the answers are eight bytes each
pub answers_length : (cs : List Cycle) (s : State) (xs rs : List ℕ) → length (answers_through cs s xs rs) ≡ 8 * length cs
unfolding answers_through
answers_length [] s xs rs = refl
answers_length (c ∷ cs) s xs rs =
    let P = printed_of (line_step s c xs rs) in
    let T = answers_through cs (line_step s c xs rs).state (array_by s c xs rs) rs in
    length-append P T
    ∙ (let z : length P + length T ≡ 8 * suc (length cs) = omega (arith, eight_bytes (line_step s c xs rs), answers_length cs (line_step s c xs rs).state (array_by s c xs rs) rs) in z)

-- cs, and then ds
pub state_append : (cs ds : List Cycle) (s : State) (xs rs : List ℕ) → state_through ds (state_through cs s xs rs) (array_through cs s xs rs) rs ≡ state_through (cs ++ ds) s xs rs
unfolding state_through array_through
state_append [] ds s xs rs = refl
state_append (c ∷ cs) ds s xs rs = state_append cs ds (line_step s c xs rs).state (array_by s c xs rs) rs

pub array_append : (cs ds : List Cycle) (s : State) (xs rs : List ℕ) → array_through ds (state_through cs s xs rs) (array_through cs s xs rs) rs ≡ array_through (cs ++ ds) s xs rs
unfolding state_through array_through
array_append [] ds s xs rs = refl
array_append (c ∷ cs) ds s xs rs = array_append cs ds (line_step s c xs rs).state (array_by s c xs rs) rs

pub answers_append : (cs ds : List Cycle) (s : State) (xs rs : List ℕ)
    → answers_through cs s xs rs ++ answers_through ds (state_through cs s xs rs) (array_through cs s xs rs) rs ≡ answers_through (cs ++ ds) s xs rs
unfolding state_through array_through answers_through
answers_append [] ds s xs rs = refl
answers_append (c ∷ cs) ds s xs rs =
    let s' = (line_step s c xs rs).state in let xs' = array_by s c xs rs in
    append_assoc (printed_of (line_step s c xs rs)) (answers_through cs s' xs' rs) (answers_through ds (state_through cs s' xs' rs) (array_through cs s' xs' rs) rs)
    ∙ ap (λ (q : List ℕ). printed_of (line_step s c xs rs) ++ q) (answers_append cs ds s' xs' rs)

-- a list n times over, and another behind it
pub times_append : (n : ℕ) (cs ds : List Cycle) → times_on n cs ds ≡ times_on n cs [] ++ ds
unfolding times_on
times_append zero cs ds = refl
times_append (suc n) cs ds = ap (λ (q : List Cycle). cs ++ q) (times_append n cs ds) ∙ sym (append_assoc cs (times_on n cs []) ds)

-- every cycle fits a line
pub Fitting : List Cycle → Type 0
Fitting [] = Unit {0}
Fitting (c ∷ cs) = Fits c × Fitting cs

fitting_append : (cs ds : List Cycle) → Fitting cs → Fitting ds → Fitting (cs ++ ds)
unfolding Fitting
fitting_append [] ds f g = g
fitting_append (c ∷ cs) ds f g = (f.0, fitting_append cs ds f.1 g)

fitting_times : (n : ℕ) (cs ds : List Cycle) → Fitting cs → Fitting ds → Fitting (times_on n cs ds)
unfolding times_on
fitting_times zero cs ds f g = g
fitting_times (suc n) cs ds f g = fitting_append cs (times_on n cs ds) f (fitting_times n cs ds f g)

pub written_fit : (s : Script) (d : ℕ) → Formed d s → Fitting (lines_written s)
unfolding Formed lines_written Fitting
written_fit done d f = tt
written_fit (line c r) d f = (f.0, written_fit r d f.1)
written_fit (group n b r) zero f = absurd f
written_fit (group n b r) (suc d) f = fitting_times n (lines_written b) (lines_written r) (written_fit b d f.3) (written_fit r (suc d) f.4)

-- the replay of a trace of k lines at most is the answers to its cycles, and leaves their array
pub replay_answers : (cs : List Cycle) (k n : ℕ) (s : State) (xs rs : List ℕ) → Fitting cs → length cs ≤ k → output_from k n s xs rs (trace_of cs) ≡ answers_through cs s xs rs
unfolding trace_of answers_through Fitting
replay_answers [] k n s xs rs f l = no_line k n s xs rs
replay_answers (c ∷ cs) zero n s xs rs f l = absurd (omega arith)
replay_answers (c ∷ cs) (suc k) n s xs rs f l =
    let p = printed_line c f.0 in
    good_line k n s xs rs (line_of c ++ trace_of cs) p.0
    ∙ ap (λ (x : Cycle). printed_of (line_step s x xs rs) ++ output_from k (suc n) (line_step s x xs rs).state (array_by s x xs rs) rs (trace_of cs)) p.1
    ∙ ap (λ (q : List ℕ). printed_of (line_step s c xs rs) ++ q) (replay_answers cs k (suc n) (line_step s c xs rs).state (array_by s c xs rs) rs f.1 (omega arith))

array_line : (k : ℕ) (s : State) (xs rs text : List ℕ) → is_line (take 20 text) ≡ true
    → array_from (suc k) s xs rs text ≡ array_from k (line_step s (cycle_stated (take 20 text)) xs rs).state (array_by s (cycle_stated (take 20 text)) xs rs) rs (drop 20 text)
unfolding array_from
array_line k s xs rs text e = rw e refl

array_none : (k : ℕ) (s : State) (xs rs : List ℕ) → array_from k s xs rs [] ≡ xs
unfolding array_from
array_none zero s xs rs = refl
array_none (suc k) s xs rs = rw (not_line [] (λ (e : ◌≡◌ {A = ℕ} 0 20). omega arith)) refl

pub replay_array : (cs : List Cycle) (k : ℕ) (s : State) (xs rs : List ℕ) → Fitting cs → length cs ≤ k → array_from k s xs rs (trace_of cs) ≡ array_through cs s xs rs
unfolding trace_of array_through Fitting
replay_array [] k s xs rs f l = array_none k s xs rs
replay_array (c ∷ cs) zero s xs rs f l = absurd (omega arith)
replay_array (c ∷ cs) (suc k) s xs rs f l =
    let p = printed_line c f.0 in
    array_line k s xs rs (line_of c ++ trace_of cs) p.0
    ∙ ap (λ (x : Cycle). array_from k (line_step s x xs rs).state (array_by s x xs rs) rs (trace_of cs)) p.1
    ∙ replay_array cs k (line_step s c xs rs).state (array_by s c xs rs) rs f.1 (omega arith)
