use mathlib.Core.Path.{sym, ap, ◌∙◌}
use Prim.Native.Nat.{ℕ}
use lib.ListN.{length}
use Rattle.loader_from_file.specs.Loads.{wanted_by}
use Rattle.loader_from_file.proofs.Judging.{short_file}
use Rattle.loader_from_file.proofs.prepared.Goals as goal

pub fill_wanted-requires : goal.fill_wanted-requires
fill_wanted-requires c =
    let a = c.args in
    λ z. short_file a.j a.array (length a.wanted.now) a.scratch a.file.now a.asked (sym c.load_number-n.ensures ∙ z)

pub returns : goal.returns
returns c =
    let a = c.args in
    let e = c.load_number-n.ensures in
    record { result = e; wanted_left = c.fill_wanted.ensures ∙ ap (λ (n : ℕ). wanted_by n a.file.now a.wanted.now) e }
