-- What is claimed of a load from a file and of a verify from a file beyond their promises, in one place.
use mathlib.Core.Path.{◌≡◌}
use mathlib.Core.List.{List}
use mathlib.Core.Logic.{◌↔◌}
use Prim.Native.Nat.{ℕ, ◌*◌, ◌≤◌, ◌<◌}
use lib.ListN.{length, get_or, set, replicate}
use Rattle.common.specs.Lists.{Bytes}
use Rattle.common.specs.Numbers.{given, NoRow}
use Rattle.loader_run.specs.Runs.{lent_rows, lent_run, doing}
use Rattle.loader_run_claims.specs.Wear.{held_in}
use Rattle.file_codec.specs.File.{limit, refused, made, reader_of, writer_of}
use Rattle.loader_from_file.specs.Loads.{load_number, wanted_of, file_rows, load_rows, load_made, load_refused, load_left}
use Rattle.loader_from_file_claims.specs.Through.{first_of, FileStart, FileLoaded}
use Rattle.loader_from_file_claims.specs.Stored.{file_rows_at}
use Rattle.loader.specs.declared.Work.TheVariants.{Verify}
use Rattle.loader_run.specs.declared.Job.{Job}
use Rattle.loader_from_file_claims.proofs.Through as through
use Rattle.loader_from_file_claims.proofs.Kept as kept
use Rattle.loader_from_file_claims.proofs.Stored as stored

-- Demand 3 through a file: from a load that nothing refuses, with VPP high and the boot block unlocked if it is the one, it
-- ends well in as many cycles as the formula says; the block, wanted and scratch then hold the file and FFH to their ends, and every
-- byte outside the block is as before.
pub file_loaded : (j : Job) (xs w sc f : List ℕ) (asked : ℕ) → FileStart j xs w sc f asked → FileLoaded j xs w sc f asked
file_loaded = through.loaded

-- A verify from a file that nothing refuses, whatever VPP and the lock: it returns and leaves what the verify alone does with the
-- file and FFH as what is wanted, and wanted is left so; it ends well exactly where the block holds the file and FFH to its end.
pub file_verified : (j : Job) (xs w sc f : List ℕ) (asked : ℕ) → NoRow (load_rows j (length xs) (length w) (length sc) f asked)
    → load_left (doing Verify j) xs w sc f asked ≡ load_made (lent_run (doing Verify j) xs (wanted_of f (length w)) sc) (wanted_of f (length w))
file_verified = through.verified

pub file_verified_exactly : (j : Job) (xs w sc f : List ℕ) (asked : ℕ) → NoRow (load_rows j (length xs) (length w) (length sc) f asked) → Bytes f → Bytes xs
    → ((load_left (doing Verify j) xs w sc f asked).ran.end ≡ 0) ↔ (held_in (first_of j.device j.block) (length w) xs ≡ wanted_of f (length w))
file_verified_exactly = through.verified_exactly

-- A file that the reader refuses is never loaded nor verified against (any job), whatever else holds: no cycle
-- is made, and state, array, wanted and scratch stay.
pub refused_never : (j : Job) (xs w sc f : List ℕ) (asked : ℕ) (m : ℕ) → (m ≡ 0 → ⊥) → reader_of limit f asked ≡ refused m
    → load_left j xs w sc f asked ≡ load_refused (load_number j (length xs) (length w) (length sc) f asked) j.state xs w sc
refused_never = kept.never

-- A written file asked for under another letter makes no cycle and leaves all that was lent: 35, where no run's test refuses and it fits.
pub other_letter_35 : (j : Job) (xs w sc : List ℕ) (ℓ : ℕ) (payload f : List ℕ) → writer_of limit ℓ payload ≡ made f → (asked : ℕ) → (ℓ ≡ asked → ⊥)
    → NoRow (lent_rows j (length xs) (length w) (length sc)) → length f ≤ length w → load_left j xs w sc f asked ≡ load_refused 35 j.state xs w sc
other_letter_35 = kept.other_letter_35

-- A written file with one byte changed to another byte, whatever letter is asked: the same, 31.
pub changed_byte_31 : (j : Job) (xs w sc : List ℕ) (ℓ : ℕ) (payload f : List ℕ) → writer_of limit ℓ payload ≡ made f → (asked : ℕ) → Bytes payload
    → (i v : ℕ) → i < length f → v < 256 → (v ≡ get_or f i 0 → ⊥) → NoRow (lent_rows j (length xs) (length w) (length sc)) → length f ≤ length w
    → load_left j xs w sc (set f i v) asked ≡ load_refused 31 j.state xs w sc
changed_byte_31 = kept.changed_byte_31

-- A blank file of n blocks, whatever letter is asked: the same, 38.
pub blank_38 : (j : Job) (xs w sc : List ℕ) (n asked : ℕ) → 0 < n → n ≤ limit
    → NoRow (lent_rows j (length xs) (length w) (length sc)) → 512 * n ≤ length w → load_left j xs w sc (replicate (512 * n) 255) asked ≡ load_refused 38 j.state xs w sc
blank_38 = kept.blank_38

-- A stored file, of at most 4,096 bytes, meets in a load and in a verify the tests that it met with a limit of eight blocks, whatever the
-- block's length, so it is loaded or refused as it was; a longer one was refused 30.
pub stored_load : (f : List ℕ) (asked n : ℕ) → (length f ≤ 4096 → file_rows_at 8 f asked n ≡ file_rows f asked n) × (4096 < length f → given (file_rows_at 8 f asked n) ≡ 30)
stored_load f asked n = (stored.tests_alike f asked n, stored.longer_30 f asked n)
