-- What is claimed of the lines of a script, in one place.
use mathlib.Core.Path.{◌≡◌}
use mathlib.Core.List.{List, [], ◌++◌}
use Prim.Native.Nat.{ℕ, ◌*◌, ◌≤◌, ◌<◌}
use lib.ListN.{length, take, drop}
use Rattle.model_types.specs.declared.Cycle.{Cycle}
use Rattle.trace_lines.specs.Lines.{line_of, Fits, cycle_stated}
use Rattle.script_lines.specs.declared.Word.TheVariants.{Ends, Traced, Opens, Closes}
use Rattle.script_lines.specs.Scripts.{Script, open_by, close_by, written_in, lines_written}
use Rattle.script_lines.specs.Words.{word_in}
use Rattle.script_lines.proofs.Words as words
use Rattle.script_lines.proofs.Forms as forms
use Rattle.script_lines.proofs.Written as written

-- Each of the three lines, printed at the front of a text where a line may still come, is the word there ..
pub traced_word : (n : ℕ) (c : Cycle) (text : List ℕ) → 1 ≤ n → Fits c → word_in n (line_of c ++ text) ≡ Traced
traced_word = forms.traced_word

pub opens_word : (n m : ℕ) (text : List ℕ) → 1 ≤ n → 1 ≤ m → m ≤ 999 → word_in n (open_by m ++ text) ≡ Opens m
opens_word = forms.opens_word

pub closes_word : (n : ℕ) (text : List ℕ) → 1 ≤ n → word_in n (close_by ++ text) ≡ Closes
closes_word = forms.closes_word

pub empty_word : (n : ℕ) → word_in n [] ≡ Ends
empty_word = forms.empty_word

-- .. and a word says what is printed there.
pub traced_text : (n : ℕ) (text : List ℕ) → word_in n text ≡ Traced → (text ≡ line_of (cycle_stated (take 20 text)) ++ drop 20 text) × Fits (cycle_stated (take 20 text))
traced_text = forms.traced_text

pub opens_text : (n : ℕ) (text : List ℕ) (m : ℕ) → word_in n text ≡ Opens m → text ≡ open_by m ++ drop 6 text
opens_text = forms.opens_text

pub opens_count : (n : ℕ) (text : List ℕ) (m : ℕ) → word_in n text ≡ Opens m → (1 ≤ n) × (6 ≤ length text) × (m ≤ 999) × (1 ≤ m)
opens_count = forms.word_opens

pub closes_text : (n : ℕ) (text : List ℕ) → word_in n text ≡ Closes → text ≡ close_by ++ drop 2 text
closes_text = forms.closes_text

pub ends_text : (n : ℕ) (text : List ℕ) → word_in n text ≡ Ends → text ≡ []
ends_text = words.ends_text

-- The front of a text is enough for its word.
pub word_cut : (n m : ℕ) (text : List ℕ) → 20 * n < m → word_in n (take m text) ≡ word_in n text
word_cut = words.word_cut

-- The lines that a script writes out are as many as each line's product of counts says.
pub written_length : (s : Script) (p : ℕ) → written_in p s ≡ p * length (lines_written s)
written_length = written.written_length
