-- An outcome that a table of refusals decides.
use Rattle.std.specs.Prelude.{◌≡◌, List, ◌↔◌, ℕ}
use Rattle.common.specs.Numbers.{Row, Foremost, NoRow}
use Rattle.file_codec.specs.File.{Outcome, refused, made}

-- refused by n exactly where n's row is the first that holds, let through exactly where none holds
pub record Ordered (rs : List Row) (bytes : List ℕ) (o : Outcome) : Type 0 where
  pub refuses : (n : ℕ) → o ≡ refused n ↔ Foremost rs n
  pub lets : o ≡ made bytes ↔ NoRow rs
