-- A script judged line by line: the first line at fault, or that it is allowed.
use Rattle.std.specs.Prelude.{Bool, true, false, List, [], ◌∷◌, ℕ, zero, suc, ◌+◌, ◌*◌, ltb, leb, length, drop, if◌then◌else◌}
use Rattle.script_lines.specs.declared.Word.{Word}
use Rattle.script_lines.specs.declared.Word.TheVariants.{Ends, Bad, Traced, Opens, Closes}
use Rattle.script_lines.specs.Words.{word_in}
use Rattle.script_judge.specs.declared.Judged.{Judged}

-- line ℓ is at fault; no line is, and so many are written out
abbrev pub fault_as : ℕ → Judged
fault_as ℓ = record { fault = ℓ; lines = 0 }

-- no line is at fault, and t lines are written out
abbrev pub fine_as : ℕ → Judged
fine_as t = record { fault = 0; lines = t }

-- what a line does: the judging ends with it, or goes on with the products around the open groups, the product around the next
-- line, whether an item must come (a group was just opened), the lines written out so far, and past so many bytes
pub data Round : Type 0 where
  stops : Judged → Round
  goes : List ℕ → ℕ → Bool → ℕ → ℕ → Round

-- a round, and what comes of going on
abbrev pub follow : Round → (List ℕ → ℕ → Bool → ℕ → ℕ → Judged) → Judged
follow (stops r) f = r
follow (goes K p must t u) f = f K p must t u

-- the text ends before line ℓ: a fault there where a group is open
abbrev pub end_of : ℕ → List ℕ → Bool → ℕ → Judged
end_of ℓ [] must t = if must then fault_as ℓ else fine_as t
end_of ℓ (q ∷ K) must t = fault_as ℓ

-- a closing line: a fault where no group is open, or the open one is empty
abbrev pub close_of : List ℕ → ℕ → Bool → ℕ → Round
close_of [] ℓ must t = stops (fault_as ℓ)
close_of (q ∷ K) ℓ must t = if must then stops (fault_as ℓ) else goes K q false t 2

-- a product as far as it matters: from 9,999 on every trace line is one too many
abbrev pub capped : ℕ → ℕ
capped p = if leb p 9999 then p else 9999

-- line ℓ by its word: a trace line adds the product around it, and is at fault where the total passes 9,998; an opening line is
-- at fault where eight groups are open (R-script-3)
abbrev pub line_round : Word → ℕ → List ℕ → ℕ → Bool → ℕ → Round
line_round Ends ℓ K p must t = stops (end_of ℓ K must t)
line_round Bad ℓ K p must t = stops (fault_as ℓ)
line_round Traced ℓ K p must t = if ltb 9998 (t + p) then stops (fault_as ℓ) else goes K p false (t + p) 20
line_round (Opens n) ℓ K p must t = if leb 8 (length K) then stops (fault_as ℓ) else goes (p ∷ K) (capped (p * n)) true t 6
line_round Closes ℓ K p must t = close_of K ℓ must t

-- from line ℓ on, where so many lines may still come
unfoldable pub judge : ℕ → ℕ → List ℕ → ℕ → Bool → ℕ → List ℕ → Judged
judge zero ℓ K p must t text = follow (line_round (word_in 0 text) ℓ K p must t) (λ K' p' must' t' u. fault_as ℓ)
judge (suc n) ℓ K p must t text =
    follow (line_round (word_in (suc n) text) ℓ K p must t) (λ K' p' must' t' u. judge n (ℓ + 1) K' p' must' t' (drop u text))

-- a whole script: 3,000 lines at most, the first is line 1, no group is open (R-script-2)
abbrev pub script_judged : List ℕ → Judged
script_judged text = judge 3000 1 [] 1 false 0 text
