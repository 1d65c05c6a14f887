-- An answer of writer or reader and its outcome are the same numbers.
use mathlib.Core.Path.{◌≡◌, sym, ap, ◌∙◌}
use Prim.Native.Nat.{ℕ}
use Rattle.std.specs.Prelude.{Result, Ok, Err}
use Rattle.file_check.specs.declared.refusal.FileRefusal.{FileRefusal}
use Rattle.file_codec.specs.File.{Outcome, answered_told, told_by}
use Rattle.file_codec.proofs.Told.{told_made, told_refused}
use Rattle.c_records.specs.Records.{sized_as, sized_out, sized_by}

pub sized_same : (r : Result ℕ FileRefusal) (o : Outcome) → answered_told r ≡ told_by o → sized_out r ≡ sized_by o
sized_same (Ok k) o e = let t = told_made k o e in ap (sized_as 0) (sym t.2) ∙ sym (ap sized_by t.1)
sized_same (Err r) o e = sym (ap sized_by (told_refused r o e))
