-- The records of a text, line by line, and one round of the loop that reads and walks them.
use mathlib.Core.Path.{◌≡◌, refl, sym, ap, ap₂, ◌∙◌}
use mathlib.Core.Bool.{Bool, true, false}
use mathlib.Core.List.{List, [], ◌∷◌}
use Prim.Native.Nat.{ℕ, zero, suc, ◌+◌, ◌-◌, ◌*◌, ◌≤◌, ◌<◌, min}
use native.Mathlib.Omega.{arith}
use lib.ListN.{length, take, drop, length-take, length-drop}
use lib.Seq.{drop-drop}
use Rattle.std.specs.Prelude.{if◌then◌else◌}
use Rattle.common.proofs.Choice.{if_true, if_false}
use Rattle.recording.specs.declared.Noted.{Noted}
use Rattle.recording_lines.specs.Records.{is_record, record_stated}
use Rattle.recording_lines.proofs.Runs.{not_record}
use Rattle.recording_lines.proofs.Forms.{record_length}
use Rattle.recording_walk.specs.declared.Walk.{Walk}
use Rattle.recording_walk.specs.Inner.{went_on, bytes_on, went_over, bytes_over}
use Rattle.recording_text.specs.Texts.{records_in, records_of}
use Rattle.recording_text.specs.Inner.{come_as, come_of}

-- so many bytes from a place on
part_length : (text : List ℕ) (a : ℕ) → length (take 31 (drop a text)) ≡ min 31 (length text - a)
part_length text a = length-take 31 (drop a text) ∙ ap (λ (n : ℕ). min 31 n) (length-drop a text)

-- fewer than 31 bytes are no record line
pub cut_off : (text : List ℕ) (a : ℕ) → length text < a + 31 → is_record (take 31 (drop a text)) ≡ false
cut_off text a h =
    not_record (take 31 (drop a text))
    (λ (e : length (take 31 (drop a text)) ≡ 31). let l : min 31 (length text - a) ≡ 31 = sym (part_length text a) ∙ e in omega arith)

-- a record line lies in the text
pub lies : (text : List ℕ) (a : ℕ) → is_record (take 31 (drop a text)) ≡ true → a + 31 ≤ length text
lies text a e = let l : min 31 (length text - a) ≡ 31 = sym (part_length text a) ∙ record_length (take 31 (drop a text)) e in omega arith

more : (k : ℕ) (text : List ℕ) → records_in (suc k) text ≡ (if is_record (take 31 text) then record_stated (take 31 text) ∷ records_in k (drop 31 text) else [])
unfolding records_in
more k text = refl

pub none : (text : List ℕ) → records_in zero text ≡ []
unfolding records_in
none text = refl

pub first_good : (k : ℕ) (text : List ℕ) → is_record (take 31 text) ≡ true → records_in (suc k) text ≡ record_stated (take 31 text) ∷ records_in k (drop 31 text)
first_good k text e = more k text ∙ if_true (is_record (take 31 text)) (record_stated (take 31 text) ∷ records_in k (drop 31 text)) [] e

pub first_bad : (k : ℕ) (text : List ℕ) → is_record (take 31 text) ≡ false → records_in (suc k) text ≡ []
first_bad k text e = more k text ∙ if_false (is_record (take 31 text)) (record_stated (take 31 text) ∷ records_in k (drop 31 text)) [] e

-- the records are k at most
pub few : (k : ℕ) (text : List ℕ) → length (records_in k text) ≤ k
few zero text = omega (arith, ap length (none text))
few (suc k) text = go (is_record (take 31 text)) refl (few k (drop 31 text))
  where
    go : (b : Bool) → is_record (take 31 text) ≡ b → length (records_in k (drop 31 text)) ≤ k → length (records_in (suc k) text) ≤ suc k
    go true e h = omega (arith, ap length (first_good k text e))
    go false e h = omega (arith, ap length (first_bad k text e))

-- the text from line i on
abbrev pub rest : ℕ → List ℕ → List ℕ
rest i text = drop (31 * i) text

-- the records from line i on, m lines at most
abbrev pub ahead : ℕ → ℕ → List ℕ → List Noted
ahead m i text = records_in (m - i) (rest i text)

past : (i : ℕ) (text : List ℕ) → drop 31 (rest i text) ≡ rest (i + 1) text
past i text = let e : 31 * i + 31 ≡ 31 * (i + 1) = omega arith in drop-drop 31 (31 * i) text ∙ ap (λ (n : ℕ). drop n text) e

pub over : (m i : ℕ) (text : List ℕ) → m ≤ i → ahead m i text ≡ []
over m i text h = let k : m - i ≡ 0 = omega arith in ap (λ (n : ℕ). records_in n (rest i text)) k ∙ none (rest i text)

module _ (m i : ℕ) (text : List ℕ) (h : i < m) where
  fewer : m - i ≡ suc (m - (i + 1))
  fewer = omega arith

  pub bad : is_record (take 31 (rest i text)) ≡ false → ahead m i text ≡ []
  bad e = ap (λ (n : ℕ). records_in n (rest i text)) fewer ∙ first_bad (m - (i + 1)) (rest i text) e

  pub good : is_record (take 31 (rest i text)) ≡ true → ahead m i text ≡ record_stated (take 31 (rest i text)) ∷ ahead m (i + 1) text
  good e =
      ap (λ (n : ℕ). records_in n (rest i text)) fewer ∙ first_good (m - (i + 1)) (rest i text) e
      ∙ ap (λ (t : List ℕ). record_stated (take 31 (rest i text)) ∷ records_in (m - (i + 1)) t) (past i text)

  -- one round: what is ahead leads where it led before
  module _ (e : is_record (take 31 (rest i text)) ≡ true) (w v : Walk) (xs ys : List ℕ) (n : ℕ) (p : n ≡ 31) (a : v ≡ went_on w (record_stated (take n (rest i text))) xs)
      (b : ys ≡ bytes_on w (record_stated (take n (rest i text))) xs) where
    abbrev r : Noted
    r = record_stated (take 31 (rest i text))

    a' : v ≡ went_on w r xs
    a' = a ∙ ap (λ (k : ℕ). went_on w (record_stated (take k (rest i text))) xs) p

    b' : ys ≡ bytes_on w r xs
    b' = b ∙ ap (λ (k : ℕ). bytes_on w (record_stated (take k (rest i text))) xs) p

    pub round_walk : went_over ys v (ahead m (i + 1) text) ≡ went_over xs w (ahead m i text)
    round_walk = ap₂ (λ (zs : List ℕ) (u : Walk). went_over zs u (ahead m (i + 1) text)) b' a' ∙ sym (ap (went_over xs w) (good e))

    pub round_bytes : bytes_over ys v (ahead m (i + 1) text) ≡ bytes_over xs w (ahead m i text)
    round_bytes = ap₂ (λ (zs : List ℕ) (u : Walk). bytes_over zs u (ahead m (i + 1) text)) b' a' ∙ sym (ap (bytes_over xs w) (good e))

    pub round_count : (i + 1) + length (ahead m (i + 1) text) ≡ i + length (ahead m i text)
    round_count = let l : length (ahead m i text) ≡ suc (length (ahead m (i + 1) text)) = ap length (good e) in omega (arith, l)

-- where nothing is ahead the loop has come to its answer
pub stopped : (text xs₀ xs : List ℕ) (w₀ w : Walk) (i : ℕ) (rs : List Noted) → rs ≡ [] → went_over xs w rs ≡ went_over xs₀ w₀ (records_of text)
    → bytes_over xs w rs ≡ bytes_over xs₀ w₀ (records_of text) → i + length rs ≡ length (records_of text)
    → (come_as w i ≡ come_of w₀ text xs₀) × (xs ≡ bytes_over xs₀ w₀ (records_of text))
unfolding come_of
stopped text xs₀ xs w₀ w i rs e p q l =
    let z : i ≡ length (records_of text) = omega (arith, l, ap length e) in (
      ap₂ come_as (sym (ap (went_over xs w) e) ∙ p) z,
      sym (ap (bytes_over xs w) e) ∙ q,
    )
