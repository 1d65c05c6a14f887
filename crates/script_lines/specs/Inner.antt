-- What the laws of the readers are about. Not part of what a buyer must believe.
use Rattle.std.specs.Prelude.{List, [], ◌++◌, ℕ}
use Rattle.script_lines.specs.Scripts.{close_by}

-- what may follow a list of items: nothing, or a closing line
pub data Stop : List ℕ → Type 0 where
  nothing : Stop []
  closing : (text : List ℕ) → Stop (close_by ++ text)
