-- What is said of a store's word: a refusal by its number and words, and how a change ended.
use Rattle.std.specs.Prelude.{List, ◌++◌, ℕ, eqb, if◌then◌else◌}
use Rattle.text.specs.Writing.{bytes}
use Rattle.refusal_words.specs.Words.{refused_text}
use Rattle.reading_answer.specs.Lines.{read_words}

-- what a refusal means: a device, an image, the store, or what it means of a reading
unfoldable pub store_words : ℕ → List ℕ
store_words n =
    if eqb n 1 then bytes "the device is none of 1 to 4: only these have a store\n"
    else if eqb n 2 then bytes "the image is not as long as the part\n"
    else if eqb n 42 then bytes "the store has no file of that letter\n"
    else if eqb n 43 then bytes "the file and those that stay do not fit into the main block\n"
    else if eqb n 44 then bytes "the main block is no proper store\n"
    else read_words n

-- a refusal: its number and its words
abbrev pub refused_line : ℕ → List ℕ
refused_line n = (refused_text n ++ bytes ": ") ++ store_words n

-- how a change ended, by its number and the erases that it began
unfoldable pub change_line : ℕ → ℕ → List ℕ
change_line end erases =
    if eqb end 0
    then (if eqb erases 0 then bytes "done, nothing was erased\n"
    else bytes "done, the files slid down: the block was erased and loaded anew\n")
    else refused_line end
