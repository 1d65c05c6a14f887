-- The report over slices is the report on the traces, and the order of traces does not matter anywhere.
use mathlib.Core.Path.{◌≡◌, refl, sym, ap, ◌∙◌}
use mathlib.Core.Bool.{true, false}
use mathlib.Core.List.{List, [], ◌∷◌, ◌++◌, append_assoc}
use Prim.Native.Nat.{ℕ, zero, suc, ◌+◌, ◌*◌, ◌≤◌}
use native.Mathlib.Omega.{arith}
use lib.ListN.{length, get_or, replicate, length-append, length-replicate}
use lib.Seq.{get_or-append-add}
use lib.Dec.{eqb}
use borrow.Author.Tests.{eq-eqb, le-ltb}
use Rattle.common.proofs.Choice.{if_true}
use Rattle.model_types.specs.declared.Wear.{Wear}
use Rattle.wear.specs.declared.Report.{Report}
use Rattle.wear.specs.Reports.{no_report, report_from, report_on, wear_at}
use Rattle.wear.specs.Counted.{wears_from}
use Rattle.wear.specs.Refusals.{differ, uneven_counts, unknown_number, report_number, reported_of}
use Rattle.wear.proofs.Folding.{from_list}
use Rattle.wear_claims.specs.Traces.{flat}

abbrev seven : Wear → List ℕ
seven w = w.block0 ∷ w.block1 ∷ w.block2 ∷ w.block3 ∷ w.block4 ∷ w.block5 ∷ w.block6 ∷ []

at : (pre zs : List ℕ) (j m : ℕ) → m ≡ length pre + j → get_or (pre ++ zs) m 0 ≡ get_or zs j 0
at pre zs j m e = ap (λ (i : ℕ). get_or (pre ++ zs) i 0) e ∙ get_or-append-add pre zs j 0

-- seven counts for each trace give the traces' counts back
back : (ws : List Wear) (pre : List ℕ) (i : ℕ) → length pre ≡ 7 * i → wears_from (length ws) i (pre ++ flat ws) ≡ ws
back [] pre i e = refl
back (w ∷ ws) pre i e = λ t. here t ∷ more (back ws (pre ++ seven w) (i + 1) (let l = length-append pre (seven w) in omega arith)) t
  where
    zs : List ℕ
    zs = flat (w ∷ ws)

    here : wear_at (pre ++ zs) i ≡ w
    here =
        λ t. record {
          block0 = at pre zs 0 (7 * i) (omega arith) t;
          block1 = at pre zs 1 (7 * i + 1) (omega arith) t;
          block2 = at pre zs 2 (7 * i + 2) (omega arith) t;
          block3 = at pre zs 3 (7 * i + 3) (omega arith) t;
          block4 = at pre zs 4 (7 * i + 4) (omega arith) t;
          block5 = at pre zs 5 (7 * i + 5) (omega arith) t;
          block6 = at pre zs 6 (7 * i + 6) (omega arith) t;
        }

    more : wears_from (length ws) (i + 1) ((pre ++ seven w) ++ flat ws) ≡ ws → wears_from (length ws) (i + 1) (pre ++ zs) ≡ ws
    more q = ap (λ (cs : List ℕ). wears_from (length ws) (i + 1) cs) (sym (append_assoc pre (seven w) (flat ws))) ∙ q

long_flat : (ws : List Wear) → length (flat ws) ≡ 7 * length ws
long_flat [] = refl
long_flat (w ∷ ws) = let e = long_flat ws in omega arith

all_same : (n k : ℕ) → differ n (replicate k n) ≡ false
all_same n zero = refl
all_same n (suc k) = if_true (eqb n n) (differ n (replicate k n)) true (eq-eqb n n refl) ∙ all_same n k

not_refused : (number : ℕ) (ws : List Wear) → unknown_number number ≡ false → length ws ≤ 65535 → report_number number (replicate (length ws) number) (length (flat ws)) ≡ 0
unfolding report_number uneven_counts
not_refused number ws u l =
    let n = length-replicate {A = ℕ} (length ws) number in
    let f = long_flat ws in
    simp (u, eq-eqb (length (flat ws)) (7 * length (replicate (length ws) number)) (omega arith), le-ltb 65535 (length (replicate (length ws) number)) (omega arith), all_same number (length ws))

-- the whole over slices
pub lent : (number : ℕ) (ws : List Wear) → unknown_number number ≡ false → length ws ≤ 65535
    → reported_of number (replicate (length ws) number) (flat ws) ≡ record { number = 0; report = report_on no_report ws }
unfolding reported_of
lent number ws u l =
    if_true (eqb (report_number number (replicate (length ws) number) (length (flat ws))) 0) _ _ (eq-eqb _ 0 (not_refused number ws u l))
    ∙ ap (λ (r : Report). record { number = 0; report = r })
    (ap (λ (n : ℕ). report_from n 0 (flat ws) no_report) (length-replicate {A = ℕ} (length ws) number) ∙ from_list (length ws) 0 (flat ws) no_report ∙ ap (λ (vs : List Wear). report_on no_report vs) (back ws [] 0 refl))
