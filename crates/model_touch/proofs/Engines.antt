-- Both engines are one to every statement about what they answer and leave.
use mathlib.Core.Path.{◌≡◌, sym, subst}
use Rattle.table_engine.proofs.Agree.{same_answer, same_bytes}
use Rattle.model_touch.specs.Touch.{Engine, by_rules, by_table, Ours, rules, table}

pub one_engine : by_table ≡ by_rules
one_engine = λ i. record { answer = λ d s c xs rs. same_answer d s c xs rs i; leaves = λ d s c xs rs. same_bytes d s c xs rs i }

pub either_engine : (P : Engine → Type 0) → P by_rules → {g : Engine} → Ours g → P g
either_engine P p rules = p
either_engine P p table = subst P (sym one_engine) p
