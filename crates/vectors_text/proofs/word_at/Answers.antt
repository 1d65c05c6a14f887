-- `vectors_text::word_at` meets its contract: the part cut out is the field, and its digits spell the number.
use mathlib.Core.Path.{ap, ◌∙◌}
use mathlib.Core.List.{List}
use Prim.Native.Nat.{ℕ}
use Rattle.vectors_text.specs.Text.{number_read}
use Rattle.vectors_text.proofs.Text.{field_part, spelled_by_steps}
use Rattle.vectors_text.proofs.word_at.Goals as goal

pub returns : goal.returns
returns c =
    let a = c.args in
    c.number.ensures ∙ spelled_by_steps a.base _ ∙ ap (λ (l : List ℕ). number_read a.base l) (field_part a.s.now a.at a.n _ _ c.least-from.ensures c.least-count.ensures)
