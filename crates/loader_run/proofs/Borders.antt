-- A run on lent bytes is the run on their units: its numbers, what it returns, and what a refusal leaves. 2 and 11 count bytes.
use mathlib.Core.Path.{◌≡◌, refl, sym, ap, ◌∙◌, subst}
use mathlib.Core.Bool.{Bool, true, false}
use mathlib.Core.List.{List}
use mathlib.Core.Logic.{◌↔◌}
use Prim.Native.Nat.{ℕ, ◌*◌, ◌/◌, ◌%◌, ◌<◌}
use native.Mathlib.Omega.{arith}
use Rattle.std.specs.Prelude.{if◌then◌else◌}
use Rattle.common.proofs.Choice.{if_true, if_false, unlike}
use Rattle.device.specs.Parts.{size_of, length_of}
use Rattle.device.proofs.Claims.{sizes_some}
use Rattle.loader_steps.specs.Front.{no_block, wrong_lengths}
use Rattle.loader_steps.proofs.StartAndStep.{some_block}
use Rattle.loader_steps.proofs.Lending.{both_lengths}
use lib.ListN.{length}
use lib.Dec.{eqb}
use borrow.Author.Tests.{eqb-true, eqb-false, ne_eqb}
use Rattle.common.specs.Numbers.{Foremost, NoRow}
use Rattle.common.proofs.Numbers.{foremost_given}
use Rattle.device.specs.declared.Device.{Device}
use Rattle.units.specs.Units.{back, bytes_in, lent, lent_in}
use Rattle.units.proofs.Widths.{lent_length}
use Rattle.loader_run.specs.declared.Ran.{Ran}
use Rattle.loader_run.specs.Runs.{run_rows, run_number, RunLeft, run_refused, lent_rows, lent_number, as_bytes, run_first, run_left, lent_run}
use Rattle.loader_run.proofs.Leaving.{left_refused}
use Rattle.loader_run.proofs.Ending.{run_numbers, run_accepted}
use Rattle.loader_run.proofs.Lending.{lent_made, lent_refused}
use Rattle.loader_run.specs.declared.Job.{Job}

-- so many bytes are k units, some, exactly where they are as many bytes as k units have
pub counts_bytes : (w : Bool) (n k : ℕ) → 0 < k → (lent_in w n ≡ k) ↔ (n ≡ bytes_in w k)
unfolding lent_in
counts_bytes false n k h = (λ e. e, λ e. e)
counts_bytes true n k h = (λ e. forth e (eqb (n % 2) 1) refl, back)
  where
    forth : (if eqb (n % 2) 1 then 0 else n / 2) ≡ k → (b : Bool) → eqb (n % 2) 1 ≡ b → n ≡ 2 * k
    forth e true q = absurd (let z : 0 ≡ k = sym (if_true (eqb (n % 2) 1) 0 (n / 2) q) ∙ e in omega arith)
    forth e false q =
        let z : n / 2 ≡ k = sym (if_false (eqb (n % 2) 1) 0 (n / 2) q) ∙ e in
        let y : n % 2 ≡ 1 → ⊥ = eqb-false (n % 2) 1 q in
        omega arith

    back : n ≡ 2 * k → (if eqb (n % 2) 1 then 0 else n / 2) ≡ k
    back e = if_false (eqb (n % 2) 1) 0 (n / 2) (ne_eqb (n % 2) 1 (λ q. omega arith)) ∙ (let z : n / 2 ≡ k = omega arith in z)

-- 2 counts bytes, and 11 does
pub two_in_bytes : (d : Device) (n : ℕ) → (lent_in d.part.word n ≡ size_of d.part) ↔ (n ≡ bytes_in d.part.word (size_of d.part))
two_in_bytes d n = counts_bytes d.part.word n (size_of d.part) (sizes_some d.part)

pub eleven_in_bytes : (d : Device) (k n m : ℕ) → no_block d.part k ≡ false → wrong_lengths d.part k (lent_in d.part.word n) (lent_in d.part.word m) ≡ false
    → (n ≡ bytes_in d.part.word (length_of d.part k)) × (m ≡ bytes_in d.part.word (length_of d.part k))
eleven_in_bytes d k n m b e =
    let h = some_block d.part k b in
    let l = both_lengths d.part k (lent_in d.part.word n) (lent_in d.part.word m) e in
    ((counts_bytes d.part.word n (length_of d.part k) h).0 l.0, (counts_bytes d.part.word m (length_of d.part k) h).0 l.1)

module _ (j : Job) (array wanted scratch : List ℕ) where
  abbrev w : Bool
  w = j.device.part.word

  -- the run of the units
  abbrev inner : RunLeft
  inner = run_left j (lent w array) (lent w wanted) (lent w scratch)

  abbrev number : ℕ
  number = lent_number j (length array) (length wanted) (length scratch)

  number_is : run_number j (length (lent w array)) (length (lent w wanted)) (length (lent w scratch)) ≡ number
  number_is = λ i. run_number j (lent_length w array i) (lent_length w wanted i) (lent_length w scratch i)

  -- what is returned
  pub lent_ran : (lent_run j array wanted scratch).ran ≡ inner.ran
  lent_ran = go (eqb number 0) refl
    where
      go : (b : Bool) → eqb number 0 ≡ b → (lent_run j array wanted scratch).ran ≡ inner.ran
      go true e = ap (λ (r : RunLeft). r.ran) (lent_made j array wanted scratch (eqb-true number 0 e))
      go false e =
          let z : number ≡ 0 → ⊥ = eqb-false number 0 e in
          ap (λ (r : RunLeft). r.ran) (lent_refused j array wanted scratch z)
          ∙ ap (λ (n : ℕ). (run_refused n j.state (lent w array) (lent w scratch)).ran) (sym number_is)
          ∙ sym (ap (λ (r : RunLeft). r.ran) (left_refused j (lent w array) (lent w wanted) (lent w scratch) (λ q. z (sym number_is ∙ q))))

  rows_are : (P : ℕ → ℕ → ℕ → Type 0) → P (length (lent w array)) (length (lent w wanted)) (length (lent w scratch)) ↔ P (lent_in w (length array)) (lent_in w (length wanted)) (lent_in w (length scratch))
  rows_are P = (
    λ h. subst (λ (z : ℕ). P (lent_in w (length array)) (lent_in w (length wanted)) z) (lent_length w scratch)
        (subst (λ (y : ℕ). P (lent_in w (length array)) y (length (lent w scratch))) (lent_length w wanted)
        (subst (λ (x : ℕ). P x (length (lent w wanted)) (length (lent w scratch))) (lent_length w array) h)),
    λ h. subst (λ (z : ℕ). P (length (lent w array)) (length (lent w wanted)) z) (sym (lent_length w scratch))
        (subst (λ (y : ℕ). P (length (lent w array)) y (lent_in w (length scratch))) (sym (lent_length w wanted))
        (subst (λ (x : ℕ). P x (lent_in w (length wanted)) (lent_in w (length scratch))) (sym (lent_length w array)) h)),
  )

  pub lent_numbers : (m : ℕ) → (m ≡ 0 → ⊥)
      → (((lent_run j array wanted scratch).ran.count ≡ 0) × ((lent_run j array wanted scratch).ran.end ≡ m)) ↔ Foremost (lent_rows j (length array) (length wanted) (length scratch)) m
  lent_numbers m z =
      let inside = run_numbers j (lent w array) (lent w wanted) (lent w scratch) m z in
      let rows = rows_are (λ (x y v : ℕ). Foremost (run_rows j x y v) m) in (
        λ h. rows.0 (inside.0 (sym (ap (λ (r : Ran). r.count) lent_ran) ∙ h.0, sym (ap (λ (r : Ran). r.end) lent_ran) ∙ h.1)),
        λ f. let h = inside.1 (rows.1 f) in (ap (λ (r : Ran). r.count) lent_ran ∙ h.0, ap (λ (r : Ran). r.end) lent_ran ∙ h.1),
      )

  pub lent_accepted : (0 < (lent_run j array wanted scratch).ran.count) ↔ NoRow (lent_rows j (length array) (length wanted) (length scratch))
  lent_accepted =
      let inside = run_accepted j (lent w array) (lent w wanted) (lent w scratch) in
      let rows = rows_are (λ (x y v : ℕ). NoRow (run_rows j x y v)) in (
        λ h. rows.0 (inside.0 (subst (λ (r : Ran). 0 < r.count) lent_ran h)),
        λ f. subst (λ (r : Ran). 0 < r.count) (sym lent_ran) (inside.1 (rows.1 f)),
      )

  -- a refusal leaves the lent bytes as they were
  number_of : (m : ℕ) → Foremost (lent_rows j (length array) (length wanted) (length scratch)) m → number ≡ m
  unfolding run_first
  number_of m f = foremost_given f

  pub lent_leaves : (m : ℕ) → (m ≡ 0 → ⊥) → Foremost (lent_rows j (length array) (length wanted) (length scratch)) m
      → ((lent_run j array wanted scratch).ran ≡ record { count = 0; end = m; address = 0; state = j.state })
      × ((lent_run j array wanted scratch).bytes ≡ array) × ((lent_run j array wanted scratch).scratch ≡ scratch)
  lent_leaves m z f =
      let q : number ≡ m = number_of m f in
      let e = lent_refused j array wanted scratch (λ o. z (sym q ∙ o)) in
      (ap (λ (r : RunLeft). r.ran) e ∙ ap (λ (n : ℕ). (run_refused n j.state array scratch).ran) q, ap (λ (r : RunLeft). r.bytes) e, ap (λ (r : RunLeft). r.scratch) e)

-- in byte mode the units are the bytes
lent_bytes : (w : Bool) (xs : List ℕ) → w ≡ false → lent w xs ≡ xs
unfolding lent
lent_bytes false xs e = refl
lent_bytes true xs e = absurd (unlike e)

lent_in_bytes : (w : Bool) (n : ℕ) → w ≡ false → lent_in w n ≡ n
unfolding lent_in
lent_in_bytes false n e = refl
lent_in_bytes true n e = absurd (unlike e)

back_bytes : (w : Bool) (us : List ℕ) → w ≡ false → back w us ≡ us
back_bytes false us e = refl
back_bytes true us e = absurd (unlike e)

-- so a run on lent bytes in byte mode is the run of the bytes themselves
pub in_byte_mode : (j : Job) (array wanted scratch : List ℕ) → j.device.part.word ≡ false
    → lent_run j array wanted scratch ≡ run_left j array wanted scratch
in_byte_mode j array wanted scratch z = go (eqb number 0) refl
  where
    number : ℕ
    number = lent_number j (length array) (length wanted) (length scratch)

    same : number ≡ run_number j (length array) (length wanted) (length scratch)
    same = λ i. run_number j (lent_in_bytes j.device.part.word (length array) z i) (lent_in_bytes j.device.part.word (length wanted) z i) (lent_in_bytes j.device.part.word (length scratch) z i)

    go : (b : Bool) → eqb number 0 ≡ b → lent_run j array wanted scratch ≡ run_left j array wanted scratch
    go true e =
        lent_made j array wanted scratch (eqb-true number 0 e)
        ∙ (λ i. as_bytes j.device.part.word (run_left j (lent_bytes j.device.part.word array z i) (lent_bytes j.device.part.word wanted z i) (lent_bytes j.device.part.word scratch z i)))
        ∙ (λ i. record {
          ran = (run_left j array wanted scratch).ran;
          bytes = back_bytes j.device.part.word (run_left j array wanted scratch).bytes z i;
          scratch = back_bytes j.device.part.word (run_left j array wanted scratch).scratch z i;
        })
    go false e =
        let n : number ≡ 0 → ⊥ = eqb-false number 0 e in
        lent_refused j array wanted scratch n ∙ ap (λ (m : ℕ). run_refused m j.state array scratch) same
        ∙ sym (left_refused j array wanted scratch (λ q. n (same ∙ q)))
