-- No line that is said is longer than 128 bytes.
use mathlib.Core.Path.{◌≡◌, refl}
use mathlib.Core.Bool.{Bool, true, false}
use mathlib.Core.List.{List, [], ◌∷◌, ◌++◌}
use Prim.Native.Nat.{ℕ, suc, ◌+◌, ◌≤◌}
use native.Mathlib.Omega.{arith}
use lib.Dec.{eqb, ltb}
use lib.ListN.{length, length-append}
use Rattle.std.specs.Prelude.{if◌then◌else◌, Option, Some, None}
use Rattle.common.proofs.Choice.{if_ind}
use Rattle.text.specs.Digits.{decimal_of}
use Rattle.text.specs.Writing.{bytes}
use Rattle.text.proofs.Spelling.{decimal_length, width_some, spelled_length}
use Rattle.refusal_words.specs.Words.{refused_text}
use Rattle.device.specs.declared.Device.{Device}
use Rattle.model_types.specs.declared.Phase.{Phase}
use Rattle.model_types.specs.declared.Phase.TheVariants.{Free, EraseAwaited, DataAwaited, Programming, Erasing, Suspending, Suspended}
use Rattle.model_states.specs.States.{fresh_state}
use Rattle.recording.specs.declared.Noted.{Noted}
use Rattle.recording.specs.declared.Why.{Why}
use Rattle.recording.specs.Recordings.{faulty, why_of}
use Rattle.recording_walk.specs.Lists.{Held, held_of, onward, left_by, ends_well, start_number}
use Rattle.trace_replay.specs.Replays.{bench_t}
use Rattle.recording_text.specs.Texts.{records_of, bad_after}
use Rattle.recording_answer.specs.Lines.{data_width, address_width, data_text, address_text, heard_text, around, given_text, rules_text, seen_text, why_text, fault_line, bad_line, accepted_line, first_apart, differs_text, shorter_text, lengths_text, place_text, array_text, end_text}
use Rattle.recording_answer.proofs.Widths.{data_most, address_most}
use Rattle.recording_told.specs.Tellings.{start_words, start_refused, told_from, later_text, ended_text, told_of}

-- so long at most
abbrev Most : ℕ → List ℕ → Type 0
Most n zs = length zs ≤ n

-- one text behind another
both : (m n : ℕ) (ys zs : List ℕ) → Most m ys → Most n zs → Most (m + n) (ys ++ zs)
both m n ys zs p q = let e = length-append ys zs in omega (arith, p, q, e)

-- more room does too
wider : (m n : ℕ) (zs : List ℕ) → m ≤ n → Most m zs → Most n zs
wider m n zs h p = omega (arith, h, p)

decimal_most : (n : ℕ) → Most 10 (decimal_of n)
decimal_most n = let w = (width_some n).1 in omega (arith, decimal_length n, w)

hex_most : (v : ℕ) → Most 16 (data_text v)
hex_most v = omega (arith, spelled_length 16 (data_width v) v [], data_most v)

place_most : (v : ℕ) → Most 16 (address_text v)
place_most v = omega (arith, spelled_length 16 (address_width v) v [], address_most v)

-- a number between two texts of 127 bytes together with it
around_most : (k m : ℕ) (A : List ℕ) (n : ℕ) (B : List ℕ) → Most k A → Most m B → Most (k + 10 + m) (around A n B)
around_most k m A n B p q = both (k + 10) m (A ++ decimal_of n) B (both k 10 A (decimal_of n) p (decimal_most n)) q

heard_most : (h : Option ℕ) → Most 18 (heard_text h)
heard_most None = let e : length (bytes "N --") ≡ 4 = refl in omega (arith, e)
heard_most (Some w) = both 2 16 (bytes "D ") (data_text w) (let e : length (bytes "D ") ≡ 2 = refl in omega (arith, e)) (hex_most w)

given_most : (v : ℕ) → Most 24 (given_text v)
given_most v =
    both 23 1 (bytes "give D " ++ data_text v) (bytes "\n") (both 7 16 (bytes "give D ") (data_text v) (let e : length (bytes "give D ") ≡ 7 = refl in omega (arith, e)) (hex_most v))
    (let e : length (bytes "\n") ≡ 1 = refl in omega (arith, e))

rules_most : (kind value : ℕ) → Most 38 (rules_text kind value)
unfolding rules_text
rules_most kind value =
    if_ind (Most 38) (eqb kind 3) _ _
    (λ e. around_most 27 1 (bytes "refuse the cycle by number ") value (bytes "\n") (let f : length (bytes "refuse the cycle by number ") ≡ 27 = refl in omega (arith, f))
    (let f : length (bytes "\n") ≡ 1 = refl in omega (arith, f)))
    (λ e. if_ind (Most 38) (eqb kind 4) _ _ (λ f. let g : length (bytes "give N --\n") ≡ 10 = refl in omega (arith, g)) (λ f. wider 24 38 (given_text value) (omega arith) (given_most value)))

seen_most : (h : Option ℕ) (kind value : ℕ) → Most 73 (seen_text h kind value)
seen_most h kind value =
    both 35 38 ((bytes "seen " ++ heard_text h) ++ bytes ", the rules ") (rules_text kind value)
    (both 23 12 (bytes "seen " ++ heard_text h) (bytes ", the rules ") (both 5 18 (bytes "seen ") (heard_text h) (let e : length (bytes "seen ") ≡ 5 = refl in omega (arith, e)) (heard_most h))
    (let e : length (bytes ", the rules ") ≡ 12 = refl in omega (arith, e)))
    (rules_most kind value)

why_most : (h : Option ℕ) (w : Why) → Most 73 (why_text h w)
unfolding why_text
why_most h w =
    if_ind (Most 73) (eqb w.kind 1) _ _
    (λ e. wider 39 73 (around (bytes "the count ") w.value (bytes " is not 1 to 65535\n")) (omega arith)
    (around_most 10 19 (bytes "the count ") w.value (bytes " is not 1 to 65535\n") (let f : length (bytes "the count ") ≡ 10 = refl in omega (arith, f))
    (let f : length (bytes " is not 1 to 65535\n") ≡ 19 = refl in omega (arith, f))))
    (λ e. if_ind (Most 73) (eqb w.kind 2) _ _ (λ f. let g : length (bytes "an operation is cut\n") ≡ 20 = refl in omega (arith, g)) (λ f. seen_most h w.kind w.value))

fault_most : (n : ℕ) (h : Option ℕ) (w : Why) → Most 128 (fault_line n h w)
fault_most n h w =
    wider 102 128 (fault_line n h w) (omega arith)
    (both 29 73 (around (bytes "line ") n (bytes " is at fault: ")) (why_text h w)
    (around_most 5 14 (bytes "line ") n (bytes " is at fault: ") (let e : length (bytes "line ") ≡ 5 = refl in omega (arith, e)) (let e : length (bytes " is at fault: ") ≡ 14 = refl in omega (arith, e)))
    (why_most h w))

bad_most : (n : ℕ) → Most 128 (bad_line n)
bad_most n =
    wider 42 128 (bad_line n) (omega arith)
    (around_most 5 27 (bytes "line ") n (bytes " is no line of a recording\n") (let e : length (bytes "line ") ≡ 5 = refl in omega (arith, e))
    (let e : length (bytes " is no line of a recording\n") ≡ 27 = refl in omega (arith, e)))

accepted_most : (n : ℕ) → Most 128 (accepted_line n)
accepted_most n =
    wider 64 128 (accepted_line n) (omega arith)
    (around_most 10 44 (bytes "accepted: ") n (bytes " records, and the array is the one promised\n") (let e : length (bytes "accepted: ") ≡ 10 = refl in omega (arith, e))
    (let e : length (bytes " records, and the array is the one promised\n") ≡ 44 = refl in omega (arith, e)))

differs_most : (v : ℕ) → Most 128 (differs_text v)
differs_most v =
    let A = bytes "the end is at fault: the array differs from the one promised at " in
    wider 81 128 (differs_text v) (omega arith)
    (both 80 1 (A ++ address_text v) (bytes "\n") (both 64 16 A (address_text v) (let e : length A ≡ 64 = refl in omega (arith, e)) (place_most v)) (let e : length (bytes "\n") ≡ 1 = refl in omega (arith, e)))

shorter_most : (n m : ℕ) → Most 128 (shorter_text n m)
shorter_most n m =
    let A = bytes "the end is at fault: the array promised has " in
    let B = bytes " bytes, the part " in
    wider 82 128 (shorter_text n m) (omega arith)
    (both 81 1 (around A n B ++ decimal_of m) (bytes "\n")
    (both 71 10 (around A n B) (decimal_of m) (around_most 44 17 A n B (let e : length A ≡ 44 = refl in omega (arith, e)) (let e : length B ≡ 17 = refl in omega (arith, e))) (decimal_most m))
    (let e : length (bytes "\n") ≡ 1 = refl in omega (arith, e)))

lengths_most : (n m : ℕ) → Most 128 (lengths_text n m)
unfolding lengths_text
lengths_most n m =
    let A = bytes "the end is at fault: the array promised has more bytes than the part's " in
    if_ind (Most 128) (ltb 0xFFFFFFFF m) _ _ (λ e. let f : length (bytes "the end is at fault: the array promised is not as long as the part\n") ≡ 67 = refl in omega (arith, f))
    (λ e. if_ind (Most 128) (ltb m n) _ _
    (λ f. wider 82 128 (around A m (bytes "\n")) (omega arith) (around_most 71 1 A m (bytes "\n") (let g : length A ≡ 71 = refl in omega (arith, g)) (let g : length (bytes "\n") ≡ 1 = refl in omega (arith, g))))
    (λ f. shorter_most n m))

array_most : (promised xs : List ℕ) → Most 128 (array_text promised xs)
unfolding array_text place_text
array_most promised xs =
    if_ind (Most 128) (eqb (length promised) (length xs)) _ _
    (λ e. if_ind (Most 128) (ltb (first_apart promised xs) (length xs)) _ _ (λ f. differs_most (first_apart promised xs))
    (λ f. let g : length (bytes "the end is as it must be\n") ≡ 25 = refl in omega (arith, g)))
    (λ e. lengths_most (length promised) (length xs))

end_most : (ph : Phase) (promised xs : List ℕ) → Most 128 (end_text ph promised xs)
end_most Free promised xs = array_most promised xs
end_most EraseAwaited promised xs = let e : length (bytes "the end is at fault: not idle, an erase waits for its confirm\n") ≡ 62 = refl in omega (arith, e)
end_most DataAwaited promised xs = let e : length (bytes "the end is at fault: not idle, a program waits for its data\n") ≡ 60 = refl in omega (arith, e)
end_most (Programming b) promised xs = let e : length (bytes "the end is at fault: not idle, a program is running\n") ≡ 52 = refl in omega (arith, e)
end_most Erasing promised xs = let e : length (bytes "the end is at fault: not idle, an erase is running\n") ≡ 51 = refl in omega (arith, e)
end_most (Suspending n) promised xs = let e : length (bytes "the end is at fault: not idle, an erase is being suspended\n") ≡ 59 = refl in omega (arith, e)
end_most Suspended promised xs = let e : length (bytes "the end is at fault: not idle, an erase is suspended\n") ≡ 53 = refl in omega (arith, e)

refused_most : (n : ℕ) → Most 128 (start_refused n)
unfolding start_words
refused_most n =
    wider 70 128 (start_refused n) (omega arith)
    (both 18 52 (refused_text n) (start_words n) (both 8 10 (bytes "refused ") (decimal_of n) (let e : length (bytes "refused ") ≡ 8 = refl in omega (arith, e)) (decimal_most n))
    (if_ind (Most 52) (eqb n 2) _ _ (λ e. let f : length (bytes ": the array at the start is not as long as the part\n") ≡ 52 = refl in omega (arith, f))
    (λ e. let f : length (bytes ": as the list of numbers says\n") ≡ 30 = refl in omega (arith, f))))

later_most : (bad n : ℕ) (well : Bool) (ph : Phase) (promised xs : List ℕ) → Most 128 (later_text bad n well ph promised xs)
unfolding later_text
later_most bad n well ph promised xs =
    if_ind (Most 128) (eqb bad 0) _ _ (λ e. if_ind (Most 128) well _ _ (λ f. accepted_most n) (λ f. end_most ph promised xs)) (λ e. bad_most bad)

faults_most : (n : ℕ) (d : Device) (v : Held) (rs : List Noted) (after : List ℕ) → Most 128 after → Most 128 (told_from n d v rs after)
faults_most n d v [] after h = h
faults_most n d v (r ∷ rs) after h =
    if_ind (Most 128) (faulty d v.state r v.bytes) (fault_line n r.heard (why_of d v.state r v.bytes)) (told_from (suc n) d (onward d v r) rs after)
    (λ e. fault_most n r.heard (why_of d v.state r v.bytes)) (λ e. faults_most (suc n) d (onward d v r) rs after h)

pub told_most : (text promised xs : List ℕ) → length (told_of text promised xs) ≤ 128
unfolding told_of
told_most text promised xs =
    let rs : List Noted = records_of text in
    let v : Held = held_of fresh_state xs in
    let w : Held = left_by bench_t v rs in
    let after = ended_text (bad_after (length rs) (length text)) (length rs) w promised in
    if_ind (Most 128) (eqb (start_number bench_t fresh_state (length xs)) 0) (told_from 1 bench_t v rs after) (start_refused (start_number bench_t fresh_state (length xs)))
    (λ e. faults_most 1 bench_t v rs after (later_most (bad_after (length rs) (length text)) (length rs) (ends_well w promised) w.state.phase promised w.bytes))
    (λ e. refused_most (start_number bench_t fresh_state (length xs)))
