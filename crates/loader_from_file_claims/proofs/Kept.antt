-- Files that are neither loaded nor verified against: a written file under another letter, or with a byte changed; a blank file.
use mathlib.Core.Path.{◌≡◌, sym, ap, ◌∙◌, subst}
use mathlib.Core.List.{List}
use Prim.Native.Nat.{ℕ, ◌*◌, ◌≤◌, ◌<◌}
use native.Mathlib.Omega.{arith}
use lib.ListN.{length, get_or, set, replicate, length-set, length-replicate}
use lib.Dec.{eqb}
use borrow.Author.Tests.{eq-eqb}
use Rattle.common.specs.Lists.{Bytes}
use Rattle.common.specs.Numbers.{NoRow}
use Rattle.common.proofs.Numbers.{no_row_given}
use Rattle.common.proofs.Choice.{if_true}
use Rattle.loader_run.specs.Runs.{lent_rows, lent_number, run_first}
use Rattle.file_codec.specs.File.{limit, refused, made, reader_of, writer_of}
use Rattle.file_claims.proofs.Claims.{other_letter, changed_byte_here, blank_file}
use Rattle.loader_from_file.specs.Loads.{file_number, load_number, load_refused, load_left}
use Rattle.loader_from_file.proofs.Judging.{file_after, none_refuses, no_longer, refused_m}
use Rattle.loader_from_file.proofs.Leaving.{refused_left}
use Rattle.loader_run.specs.declared.Job.{Job}

-- a run that no test refuses has the number 0
run_none : (j : Job) (array w sc : ℕ) → NoRow (lent_rows j array w sc) → lent_number j array w sc ≡ 0
unfolding run_first
run_none j array w sc r = no_row_given r

module _ (j : Job) (xs w sc f : List ℕ) (asked : ℕ) (m : ℕ) (z : m ≡ 0 → ⊥) (e : reader_of limit f asked ≡ refused m) where
  -- a file that the reader refuses is neither loaded nor verified against, whatever else holds
  pub never : load_left j xs w sc f asked ≡ load_refused (load_number j (length xs) (length w) (length sc) f asked) j.state xs w sc
  never = refused_left j xs w sc f asked some
    where
      some : load_number j (length xs) (length w) (length sc) f asked ≡ 0 → ⊥
      some q =
          let n = (none_refuses j (length xs) (length w) (length sc) f asked q).1 in
          z (sym (refused_m f asked (length w) m (no_longer f asked (length w) n) e) ∙ n)

  -- it is the reader's number where a run's tests give none and the file fits the block
  pub by_reader : NoRow (lent_rows j (length xs) (length w) (length sc)) → length f ≤ length w → load_left j xs w sc f asked ≡ load_refused m j.state xs w sc
  by_reader r h =
      let n : lent_number j (length xs) (length w) (length sc) ≡ 0 = run_none j (length xs) (length w) (length sc) r in
      let q : load_number j (length xs) (length w) (length sc) f asked ≡ m =
      file_after j (length xs) (length w) (length sc) f asked
      ∙ if_true (eqb (lent_number j (length xs) (length w) (length sc)) 0) (file_number f asked (length w)) (lent_number j (length xs) (length w) (length sc)) (eq-eqb _ 0 n)
      ∙ refused_m f asked (length w) m h e in
      never ∙ ap (λ (i : ℕ). load_refused i j.state xs w sc) q

module _ (j : Job) (xs w sc : List ℕ) (ℓ : ℕ) (payload f : List ℕ) (made_of : writer_of limit ℓ payload ≡ made f) (asked : ℕ) where
  -- a written file under another letter
  pub other_letter_35 : (ℓ ≡ asked → ⊥) → NoRow (lent_rows j (length xs) (length w) (length sc)) → length f ≤ length w
      → load_left j xs w sc f asked ≡ load_refused 35 j.state xs w sc
  other_letter_35 z r h = by_reader j xs w sc f asked 35 (λ (q : 35 ≡ 0). (omega arith)) (other_letter limit ℓ payload f made_of asked z) r h

  -- a written file with a byte changed
  pub changed_byte_31 : Bytes payload → (i v : ℕ) → i < length f → v < 256 → (v ≡ get_or f i 0 → ⊥) → NoRow (lent_rows j (length xs) (length w) (length sc)) → length f ≤ length w
      → load_left j xs w sc (set f i v) asked ≡ load_refused 31 j.state xs w sc
  changed_byte_31 b i v h u c r l =
      by_reader j xs w sc (set f i v) asked 31 (λ (q : 31 ≡ 0). (omega arith)) (changed_byte_here ℓ payload f b made_of i v h u c asked) r (let n = length-set f i v in omega arith)

-- a blank file of n blocks
pub blank_38 : (j : Job) (xs w sc : List ℕ) (n asked : ℕ) → 0 < n → n ≤ limit
    → NoRow (lent_rows j (length xs) (length w) (length sc)) → 512 * n ≤ length w → load_left j xs w sc (replicate (512 * n) 255) asked ≡ load_refused 38 j.state xs w sc
blank_38 j xs w sc n asked some fits r l =
    by_reader j xs w sc (replicate (512 * n) 255) asked 38 (λ (q : 38 ≡ 0). (omega arith)) (blank_file limit n asked some fits) r
    (subst (λ (i : ℕ). i ≤ length w) (sym (length-replicate (512 * n) 255)) l)
