-- What the two readers of the code promise each other. Not part of what a buyer must believe: the judge's promise is `script_judged`.
use Rattle.std.specs.Prelude.{◌≡◌, Bool, true, false, List, ℕ, ◌+◌, ◌-◌, ◌≤◌, ◌<◌, eqb, length, drop, if◌then◌else◌}
use Rattle.script_lines.specs.declared.Word.{Word}
use Rattle.script_lines.specs.declared.Word.TheVariants.{Ends, Bad, Traced, Opens, Closes}
use Rattle.script_lines.specs.Words.{word_in, is_closes}
use Rattle.script_judge.specs.declared.Spot.{Spot}
use Rattle.script_judge.specs.Judges.{fault_as, judge}

-- a fault at a line; past a line of u bytes at x, with t lines written out
abbrev pub fault_spot : ℕ → Spot
fault_spot n = record { fault = n; at = 0; left = 0; line = 0; total = 0 }

-- past a line of u bytes at x, with t lines written out
abbrev pub next_spot : Spot → ℕ → ℕ → Spot
next_spot x u t = record { fault = 0; at = x.at + u; left = x.left - 1; line = x.line + 1; total = t }

-- past a closing line at x; a fault where there is none
abbrev pub closed_spot : List ℕ → Spot → Spot
closed_spot text x = if is_closes (word_in x.left (drop x.at text)) then next_spot x 2 x.total else fault_spot x.line

-- whether an item is read at a word: where one must come, whatever stands there; else not where the list ends
abbrev pub item_comes : Bool → Word → Bool
item_comes must Ends = must
item_comes must Bad = true
item_comes must Traced = true
item_comes must (Opens n) = true
item_comes must Closes = must

-- read from x on, d levels left to open: whatever groups are open, the judging from x on is the answer's fault, or goes on from the
-- answer, where no item must come
unfoldable pub ReadTo : List ℕ → Spot → ℕ → ℕ → Bool → Spot → Type 0
ReadTo text x d p must r =
    (K : List ℕ) → length K + d ≡ 8
    → judge x.left x.line K p must x.total (drop x.at text)
    ≡ (if eqb r.fault 0 then judge r.left r.line K p false r.total (drop r.at text) else fault_as r.fault)

-- a place of a reader: no fault, lines count from 1 to 3,001, and 9,998 at most are written out
pub record Sound (x : Spot) : Type 0 where
  pub fine : x.fault ≡ 0
  pub line : 1 ≤ x.line
  pub sum : x.line + x.left ≤ 3001
  pub total : x.total ≤ 9998

-- an item's answer without a fault is a place further on in the text
unfoldable pub Ahead : List ℕ → Spot → Spot → Type 0
Ahead text x r = r.fault ≡ 0 → (r.at ≤ length text) × Sound r × (x.at < r.at)

-- a list's answer without a fault is a place where a list ends
unfoldable pub Ended : List ℕ → Spot → Spot → Type 0
Ended text x r = r.fault ≡ 0 → (r.at ≤ length text) × Sound r × (x.at ≤ r.at)
    × (item_comes false (word_in r.left (drop r.at text)) ≡ false)

-- from x to y items were read, none at fault: the judging from x on is the judging from y on
unfoldable pub Onward : List ℕ → ℕ → ℕ → Spot → Bool → Spot → Bool → Type 0
Onward text d p x must y due =
    (K : List ℕ) → length K + d ≡ 8
    → judge x.left x.line K p must x.total (drop x.at text) ≡ judge y.left y.line K p due y.total (drop y.at text)
