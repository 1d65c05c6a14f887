-- The numbers of a load: a run's first, then the file's, which are the reader's where the file is no longer than the block.
use mathlib.Core.Path.{◌≡◌, refl, sym, ap, ◌∙◌}
use mathlib.Core.Bool.{Bool, true, false, not, ◌||◌}
use mathlib.Core.List.{List, [], ◌∷◌}
use Prim.Native.Nat.{ℕ, ◌≤◌, ◌<◌}
use native.Mathlib.Omega.{arith}
use lib.ListN.{length, get_or}
use lib.Dec.{eqb, ltb}
use borrow.Author.Tests.{eqb-true, ltb-false, le-ltb, lt-ltb}
use Rattle.std.specs.Prelude.{if◌then◌else◌}
use Rattle.common.proofs.Choice.{if_true, if_false, or_right}
use Rattle.common.specs.Numbers.{row, given, numbered, NoRow}
use Rattle.common.proofs.Numbers.{given_append, given_no_row, no_head}
use Rattle.loader_run.specs.Runs.{lent_rows, lent_number, run_first}
use Rattle.file_codec.specs.File.{refused, made, limit, length_wrong, blocks_in, blocks_rows, payload_of, read_rows, reader_of}
use Rattle.file_codec.proofs.Outcomes.{outcome_lets, outcome_refuses}
use Rattle.file_codec.proofs.Tables.{blocks_numbered}
use Rattle.loader_from_file.specs.Loads.{file_rows, file_number, load_rows, load_number}
use Rattle.loader_run.specs.declared.Job.{Job}

-- no row of a load has the number 0
file_numbered : (f : List ℕ) (asked n : ℕ) → numbered (file_rows f asked n) ≡ true
file_numbered f asked n = blocks_numbered (blocks_in f) (get_or f 0 0) 0 (blocks_in f) f (row 35 (not (eqb (get_or f 0 0) asked)) ∷ [])

pub load_numbered : (j : Job) (array w sc : ℕ) (f : List ℕ) (asked : ℕ) → numbered (load_rows j array w sc f asked) ≡ true
load_numbered j array w sc f asked = file_numbered f asked w

-- the file is asked where the run's tests give nothing
pub file_after : (j : Job) (array w sc : ℕ) (f : List ℕ) (asked : ℕ)
    → load_number j array w sc f asked ≡ (if eqb (lent_number j array w sc) 0 then file_number f asked w else lent_number j array w sc)
unfolding run_first file_number
file_after j array w sc f asked = given_append (lent_rows j array w sc) (file_rows f asked w) refl

-- what two tables one below the other give is 0 only where both do
both_none : (a b : ℕ) → (if eqb a 0 then b else a) ≡ 0 → (a ≡ 0) × (b ≡ 0)
both_none a b e = go (eqb a 0) refl
  where
    go : (t : Bool) → eqb a 0 ≡ t → (a ≡ 0) × (b ≡ 0)
    go true q = (eqb-true a 0 q, sym (if_true (eqb a 0) b a q) ∙ e)
    go false q =
        let z : a ≡ 0 = sym (if_false (eqb a 0) b a q) ∙ e in
        absurd (let y : ◌≡◌ {A = ℕ} 0 1 = let v : true ≡ false = sym (ap (λ (m : ℕ). eqb m 0) z) ∙ q in cc in omega arith)

-- a load that nothing refuses: neither its run nor its file is refused
pub none_refuses : (j : Job) (array w sc : ℕ) (f : List ℕ) (asked : ℕ) → load_number j array w sc f asked ≡ 0
    → (lent_number j array w sc ≡ 0) × (file_number f asked w ≡ 0)
none_refuses j array w sc f asked e =
    both_none (lent_number j array w sc) (file_number f asked w) (sym (file_after j array w sc f asked) ∙ e)

-- a file that is not refused is no longer than the block
pub no_longer : (f : List ℕ) (asked n : ℕ) → file_number f asked n ≡ 0 → length f ≤ n
unfolding file_number
no_longer f asked n e =
    let r : NoRow (file_rows f asked n) = given_no_row (file_rows f asked n) (file_numbered f asked n) e in
    ltb-false n (length f) (or_right (length_wrong limit (length f)) (ltb n (length f)) (no_head r))

pub short_file : (j : Job) (array w sc : ℕ) (f : List ℕ) (asked : ℕ) → load_number j array w sc f asked ≡ 0 → length f ≤ w
short_file j array w sc f asked e = no_longer f asked w (none_refuses j array w sc f asked e).1

-- a longer file is refused by 30
or_holds : (a b : Bool) → b ≡ true → (a || b) ≡ true
or_holds true b e = refl
or_holds false b e = e

pub longer_30 : (f : List ℕ) (asked n : ℕ) → n < length f → file_number f asked n ≡ 30
unfolding file_number
longer_30 f asked n h =
    if_true (length_wrong limit (length f) || ltb n (length f)) 30 _ (or_holds (length_wrong limit (length f)) (ltb n (length f)) (lt-ltb n (length f) h))

-- of a file no longer than the block the number is the reader's
or_none : (a b : Bool) → b ≡ false → (a || b) ≡ a
or_none true b e = refl
or_none false b e = e

pub reader_number : (f : List ℕ) (asked n : ℕ) → length f ≤ n → file_number f asked n ≡ given (read_rows limit f asked [])
unfolding file_number
reader_number f asked n h =
    ap (λ (t : Bool). given (row 30 t ∷ blocks_rows (blocks_in f) (get_or f 0 0) 0 (blocks_in f) f (row 35 (not (eqb (get_or f 0 0) asked)) ∷ [])))
    (or_none (length_wrong limit (length f)) (ltb n (length f)) (le-ltb n (length f) h))

-- the file's number, told by what the reader makes of it
pub sound_0 : (f : List ℕ) (asked n : ℕ) (bytes : List ℕ) → length f ≤ n → reader_of limit f asked ≡ made bytes → file_number f asked n ≡ 0
unfolding reader_of
sound_0 f asked n bytes h e = reader_number f asked n h ∙ (outcome_lets (given (read_rows limit f asked [])) (payload_of (blocks_in f) f) bytes e).0

pub refused_m : (f : List ℕ) (asked n m : ℕ) → length f ≤ n → reader_of limit f asked ≡ refused m → file_number f asked n ≡ m
unfolding reader_of
refused_m f asked n m h e = reader_number f asked n h ∙ outcome_refuses (given (read_rows limit f asked [])) m (payload_of (blocks_in f) f) e
