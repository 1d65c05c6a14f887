-- The first record at fault: where it stands in the list, and where its line lies in the text.
use mathlib.Core.Path.{◌≡◌, refl, sym, ap, ap₂, ◌∙◌, subst}
use mathlib.Core.Bool.{Bool, true, false}
use mathlib.Core.List.{List, [], ◌∷◌}
use Prim.Native.Nat.{ℕ, zero, suc, ◌+◌, ◌-◌, ◌*◌, ◌≤◌, ◌<◌}
use native.Mathlib.Omega.{arith}
use lib.ListN.{length, get_or, take, drop, length-drop}
use lib.Seq.{drop-drop}
use Rattle.std.specs.Prelude.{if◌then◌else◌}
use Rattle.device.specs.declared.Device.{Device}
use Rattle.recording.specs.declared.Noted.{Noted}
use Rattle.recording.specs.Recordings.{faulty, why_of}
use Rattle.recording_lines.specs.Records.{is_record, record_stated}
use Rattle.recording_walk.specs.Lists.{Held, onward, left_by, passed_by}
use Rattle.recording_text.specs.Texts.{records_in}
use Rattle.recording_text.proofs.Rounds.{lies, none, first_good, first_bad}
use Rattle.recording_answer.specs.Lines.{fault_line}
use Rattle.recording_told.specs.Tellings.{told_from}
use Rattle.recording_told.specs.Inner.{stated_at}

-- a record told at fault, in a world
abbrev pub told_in : ℕ → Device → Held → Noted → List ℕ
told_in n d v r = fault_line n r.heard (why_of d v.state r v.bytes)

-- one is at fault: it is told, at its own place and in the world that those before it leave
pub at_fault : (n : ℕ) (d : Device) (v : Held) (rs : List Noted) (after : List ℕ) (z : Noted) → passed_by d v rs < length rs
    → told_from n d v rs after ≡ told_in (n + passed_by d v rs) d (left_by d v (take (passed_by d v rs) rs)) (get_or rs (passed_by d v rs) z)
at_fault n d v [] after z h = absurd (omega (arith, h))
at_fault n d v (r ∷ rs) after z h = go (faulty d v.state r v.bytes) (at_fault (suc n) d (onward d v r) rs after z) h
  where
    i : ℕ
    i = passed_by d (onward d v r) rs

    go : (b : Bool) → (i < length rs → told_from (suc n) d (onward d v r) rs after ≡ told_in (suc n + i) d (left_by d (onward d v r) (take i rs)) (get_or rs i z))
        → (if b then 0 else suc i) < suc (length rs)
        → (if b then told_in n d v r else told_from (suc n) d (onward d v r) rs after)
        ≡ told_in (n + (if b then 0 else suc i)) d (left_by d v (take (if b then 0 else suc i) (r ∷ rs))) (get_or (r ∷ rs) (if b then 0 else suc i) z)
    go true more l = ap (λ (k : ℕ). told_in k d v r) (let e : n ≡ n + 0 = omega arith in e)
    go false more l = more (omega (arith, l)) ∙ ap (λ (k : ℕ). told_in k d (left_by d (onward d v r) (take i rs)) (get_or rs i z)) (let e : suc n + i ≡ n + suc i = omega arith in e)

-- none is: what follows
pub none_at_fault : (n : ℕ) (d : Device) (v : Held) (rs : List Noted) (after : List ℕ) → length rs ≤ passed_by d v rs → told_from n d v rs after ≡ after
none_at_fault n d v [] after h = refl
none_at_fault n d v (r ∷ rs) after h = go (faulty d v.state r v.bytes) (none_at_fault (suc n) d (onward d v r) rs after) h
  where
    i : ℕ
    i = passed_by d (onward d v r) rs

    go : (b : Bool) → (length rs ≤ i → told_from (suc n) d (onward d v r) rs after ≡ after) → suc (length rs) ≤ (if b then 0 else suc i)
        → (if b then told_in n d v r else told_from (suc n) d (onward d v r) rs after) ≡ after
    go true more l = absurd (omega (arith, l))
    go false more l = more (omega (arith, l))

-- the record at a place is that of the place's line, which lies in the text
abbrev pub Lies : List ℕ → ℕ → List Noted → Noted → Type 0
Lies text i rs z = (get_or rs i z ≡ stated_at text i) × (31 * i + 31 ≤ length text)

pub lines_lie : (k i : ℕ) (text : List ℕ) (z : Noted) → i < length (records_in k text) → Lies text i (records_in k text) z
lines_lie zero i text z h = absurd (omega (arith, h, ap length (none text)))
lines_lie (suc k) i text z h = go (is_record (take 31 text)) refl (λ (m : ℕ). lines_lie k m (drop 31 text) z) i h
  where
    in_front : is_record (take 31 text) ≡ true → 31 ≤ length text
    in_front e = let l = lies text 0 e in omega (arith, l)

    at : (m : ℕ) → ((j : ℕ) → j < length (records_in k (drop 31 text)) → Lies (drop 31 text) j (records_in k (drop 31 text)) z)
        → is_record (take 31 text) ≡ true → m < suc (length (records_in k (drop 31 text))) → Lies text m (record_stated (take 31 text) ∷ records_in k (drop 31 text)) z
    at zero more e l = (refl, in_front e)
    at (suc m) more e l =
        let p = more m (omega (arith, l)) in
        let d : drop (31 * m) (drop 31 text) ≡ drop (31 * suc m) text = drop-drop (31 * m) 31 text ∙ ap (λ (q : ℕ). drop q text) (let s : 31 + 31 * m ≡ 31 * suc m = omega arith in s) in
        (p.0 ∙ ap (λ (xs : List ℕ). record_stated (take 31 xs)) d, let q = p.1 in let t = length-drop 31 text in omega (arith, q, t))

    go : (b : Bool) → is_record (take 31 text) ≡ b → ((j : ℕ) → j < length (records_in k (drop 31 text)) → Lies (drop 31 text) j (records_in k (drop 31 text)) z)
        → (m : ℕ) → m < length (records_in (suc k) text) → Lies text m (records_in (suc k) text) z
    go true e more m l =
        subst (λ (rs : List Noted). Lies text m rs z) (sym (first_good k text e))
        (at m more e (let s = ap length (first_good k text e) in omega (arith, l, s)))
    go false e more m l = absurd (omega (arith, l, ap length (first_bad k text e)))
