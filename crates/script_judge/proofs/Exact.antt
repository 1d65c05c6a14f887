-- Exactly the printed allowed scripts are accepted.
use mathlib.Core.Path.{◌≡◌, refl, sym, ap, subst, ◌∙◌}
use mathlib.Core.Bool.{Bool, true, false}
use mathlib.Core.List.{List, [], ◌∷◌, ◌++◌}
use Prim.Native.Nat.{ℕ, zero, suc, ◌+◌, ◌-◌, ◌*◌, ◌≤◌, ◌<◌}
use native.Mathlib.Omega.{arith}
use lib.Dec.{ltb, leb}
use lib.ListN.{length, take, drop}
use borrow.Author.Tests.{ltb-true, ltb-false, leb-true, leb-false, le-leb}
use Rattle.std.specs.Prelude.{if◌then◌else◌}
use Rattle.common.proofs.Choice.{unlike}
use Rattle.trace_lines.specs.Lines.{line_of, cycle_stated}
use Rattle.script_lines.specs.declared.Word.{Word}
use Rattle.script_lines.specs.declared.Word.TheVariants.{Ends, Bad, Traced, Opens, Closes}
use Rattle.script_lines.specs.Scripts.{Script, done, line, group, open_by, close_by, print_on, Some, Formed, lines_in, written_in, Allowed}
use Rattle.script_lines.specs.Words.{word_in}
use Rattle.script_lines.proofs.Words.{ends_text}
use Rattle.script_lines.proofs.Written.{at_least}
use Rattle.script_lines.proofs.Forms.{word_traced, word_closes, word_opens, traced_text, closes_text, opens_text, traced_word, closes_word, opens_word, empty_word}
use Rattle.script_judge.specs.declared.Judged.{Judged}
use Rattle.script_judge.specs.Judges.{fault_as, fine_as, capped, judge, script_judged, end_of}
use Rattle.script_judge.proofs.Rounds.{round, j_bad, j_traced, j_traced_over, j_open, j_open_deep, j_close, j_close_true}

pub capped_is : (p : ℕ) → p ≤ 9999 → capped p ≡ p
capped_is p l = simp (le-leb p 9999 l)

pub capped_under : (p : ℕ) → capped p ≤ 9998 → capped p ≡ p
capped_under p l = by (leb p 9999) refl l where
  by : (t : Bool) → leb p 9999 ≡ t → (if t then p else 9999) ≤ 9998 → (if t then p else 9999) ≡ p
  by true e l = refl
  by false e l = absurd (omega arith)

-- ---- a printed list is read to its end
abbrev pub must : Bool → Script → Bool
must e done = e
must e (line k r) = false
must e (group n b r) = false

pub feed : (s : Script) (d n u m : ℕ) (K : List ℕ) (p : ℕ) (e : Bool) (t w : ℕ) (text : List ℕ) → Formed d s → length K + d ≡ 8 → n ≡ lines_in s + m → w ≡ t + written_in p s → w ≤ 9998
    → judge n u K p e t (print_on s text) ≡ judge m (u + lines_in s) K p (must e s) w text
unfolding Formed print_on lines_in written_in
feed done d n u m K p e t w text f k a b c =
    let a' : n ≡ m = omega arith in let b' : t ≡ w = omega arith in let z : u ≡ u + 0 = omega arith in
    ap (λ (i : ℕ). judge i u K p e t text) a' ∙ ap (λ (i : ℕ). judge m u K p e i text) b' ∙ ap (λ (i : ℕ). judge m i K p e w text) z
feed (line x r) d n u m K p e t w text f k a b c =
    let z : u + 1 + lines_in r ≡ u + (1 + lines_in r) = omega arith in
    j_traced n u K p t (line_of x ++ print_on r text) e (traced_word n x (print_on r text) (omega arith) f.0) (omega arith)
    ∙ feed r d (n - 1) (u + 1) m K p false (t + p) w text f.1 k (omega arith) (omega arith) c
    ∙ flat r ∙ ap (λ (i : ℕ). judge m i K p false w text) z
  where
    flat : (r : Script) → judge m (u + 1 + lines_in r) K p (must false r) w text ≡ judge m (u + 1 + lines_in r) K p false w text
    flat done = refl
    flat (line k r) = refl
    flat (group n b r) = refl
feed (group x b r) zero n u m K p e t w text f k a bb c = absurd f
feed (group x b r) (suc d) n u m K p e t w text f k a bb c =
    let l = at_least d (p * x) b f.3 f.2 in
    let q = capped_is (p * x) (omega arith) in
    let z : u + 1 + lines_in b + 1 + lines_in r ≡ u + (2 + lines_in b + lines_in r) = omega arith in
    let T = close_by ++ print_on r text in
    j_open n u K p t (open_by x ++ print_on b T) e x (opens_word n x (print_on b T) (omega arith) f.0 f.1) (omega arith)
    ∙ ap (λ (i : ℕ). judge (n - 1) (u + 1) (p ∷ K) i true t (print_on b T)) q
    ∙ feed b d (n - 1) (u + 1) (suc (lines_in r + m)) (p ∷ K) (p * x) true t (t + written_in (p * x) b) T f.3 (omega arith) (omega arith) refl (omega arith)
    ∙ some b f.2
    ∙ j_close (suc (lines_in r + m)) (u + 1 + lines_in b) K (p * x) (t + written_in (p * x) b) T p (closes_word (suc (lines_in r + m)) (print_on r text) (omega arith))
    ∙ feed r (suc d) (suc (lines_in r + m) - 1) (u + 1 + lines_in b + 1) m K p false (t + written_in (p * x) b) w text f.4 k (omega arith) (omega arith) c
    ∙ flat r ∙ ap (λ (i : ℕ). judge m i K p false w text) z
  where
    some : (b : Script) → Some b → judge (suc (lines_in r + m)) (u + 1 + lines_in b) (p ∷ K) (p * x) (must true b) (t + written_in (p * x) b) (close_by ++ print_on r text) ≡ judge (suc (lines_in r + m)) (u + 1 + lines_in b) (p ∷ K) (p * x) false (t + written_in (p * x) b) (close_by ++ print_on r text)
    some done s = absurd s
    some (line k r) s = refl
    some (group n b r) s = refl

    flat : (r : Script) → judge m (u + 1 + lines_in b + 1 + lines_in r) K p (must false r) w text ≡ judge m (u + 1 + lines_in b + 1 + lines_in r) K p false w text
    flat done = refl
    flat (line k r) = refl
    flat (group n b r) = refl

-- every allowed script, printed, has no fault, and its lines written out are counted
pub accepted : (s : Script) → Allowed s → script_judged (print_on s []) ≡ fine_as (written_in 1 s)
accepted s a =
    let b = a.short in
    let m = 3000 - lines_in s in
    feed s 8 3000 1 m [] 1 false 0 (written_in 1 s) [] a.formed refl (omega arith) (omega arith) a.few
    ∙ round m (1 + lines_in s) [] 1 (must false s) (written_in 1 s) [] Ends (empty_word m) ∙ flat s
  where
    flat : (t : Script) → end_of (1 + lines_in s) [] (must false t) (written_in 1 s) ≡ fine_as (written_in 1 s)
    flat done = refl
    flat (line k r) = refl
    flat (group n b r) = refl

-- ---- what is accepted was printed
-- a list's text and what follows it
pub record RestBy (T : ℕ → ℕ → List ℕ → Type 0) (d p : ℕ) (e : Bool) (u t : ℕ) (text : List ℕ) : Type 0 where
  pub script : Script
  pub tail : List ℕ
  pub lines : ℕ
  pub total : ℕ
  pub text_is : text ≡ print_on script tail
  pub formed : Formed d script
  pub some : e ≡ true → Some script
  pub lines_are : lines ≡ u + lines_in script
  pub total_is : total ≡ t + written_in p script
  pub onward : T lines total tail

-- the groups still open close one after the other, and the text ends
pub Tail : List ℕ → ℕ → ℕ → List ℕ → Type 0
Tail [] u t tail = (tail ≡ []) × (u ≤ 3000) × (t ≤ 9998)
Tail (q ∷ K) u t tail = (more : List ℕ) × (tail ≡ close_by ++ more) × RestBy (Tail K) (8 - length K) q false (u + 1) t more

tail_low : (K : List ℕ) (u t : ℕ) (tail : List ℕ) → Tail K u t tail → t ≤ 9998
unfolding Tail
tail_low [] u t tail h = h.2
tail_low (q ∷ K) u t tail h =
    let r = h.2 in
    let i = tail_low K r.lines r.total r.tail r.onward in
    let e = r.total_is in omega arith

pub formed_more : (k d : ℕ) (n : ℕ) (b r : Script) → k < 8 → d ≡ 8 - (k + 1) → 1 ≤ n → n ≤ 999 → Some b → Formed d b → Formed (8 - k) r → Formed (8 - k) (group n b r)
unfolding Formed
formed_more k d n b r l e x y s f g =
    let z : suc d ≡ 8 - k = omega arith in
    subst (λ (i : ℕ). Formed i (group n b r)) z (x, y, s, f, subst (λ (i : ℕ). Formed i r) (sym z) g)

sound_end : (u ℓ : ℕ) (K : List ℕ) (p : ℕ) (e : Bool) (t : ℕ) (text : List ℕ) → u ≤ 3000 → 1 ≤ ℓ → t ≤ 9998 → text ≡ [] → (end_of ℓ K e t).fault ≡ 0 → RestBy (Tail K) (8 - length K) p e u t text
unfolding Tail Formed print_on lines_in written_in
sound_end u ℓ [] p true t text a l c x h = absurd (omega arith)
sound_end u ℓ [] p false t text a l c x h =
    record { script = done; tail = []; lines = u; total = t; text_is = x; formed = tt; some = λ z. bad z; lines_are = omega arith; total_is = omega arith; onward = (refl, a, c) }
  where
    bad : false ≡ true → ⊥
    bad z = absurd (unlike (sym z))
sound_end u ℓ (q ∷ K) p e t text a l c x h = absurd (omega arith)

no_fault : {A : Type 0} (ℓ : ℕ) (r : Judged) → 1 ≤ ℓ → r ≡ fault_as ℓ → r.fault ≡ 0 → A
no_fault ℓ r l e h = let z : ℓ ≡ 0 = sym (ap (λ (x : Judged). x.fault) e) ∙ h in absurd (omega arith)

pub not_both : false ≡ true → ⊥
not_both z = unlike (sym z)

-- one line more in front of what is read already
step : (n u ℓ : ℕ) (K : List ℕ) (p : ℕ) (e : Bool) (t : ℕ) (text : List ℕ) → u ≤ 3000 → 1 ≤ ℓ → t ≤ 9998
    → ((K' : List ℕ) (p' : ℕ) (e' : Bool) (t' : ℕ) (text' : List ℕ) → 1 ≤ n → t' ≤ 9998 → (judge (n - 1) (ℓ + 1) K' p' e' t' text').fault ≡ 0 → RestBy (Tail K') (8 - length K') p' e' (u + 1) t' text')
    → (w : Word) → word_in n text ≡ w → (judge n ℓ K p e t text).fault ≡ 0 → RestBy (Tail K) (8 - length K) p e u t text
unfolding Tail Formed print_on lines_in written_in
step n u ℓ K p e t text a l c ih Ends w h = sound_end u ℓ K p e t text a l c (ends_text n text w) (sym (ap (λ (x : Judged). x.fault) (round n ℓ K p e t text Ends w)) ∙ h)
step n u ℓ K p e t text a l c ih Bad w h = no_fault ℓ (judge n ℓ K p e t text) l (j_bad n ℓ K p t text e w) h
step n u ℓ K p e t text a l c ih Traced w h = by (ltb 9998 (t + p)) refl where
  by : (x : Bool) → ltb 9998 (t + p) ≡ x → RestBy (Tail K) (8 - length K) p e u t text
  by true x = no_fault ℓ (judge n ℓ K p e t text) l (j_traced_over n ℓ K p t text e w (ltb-true 9998 (t + p) x)) h
  by false x =
      let o = ltb-false 9998 (t + p) x in
      let r = ih K p false (t + p) (drop 20 text) (word_traced n text w).0 o (sym (ap (λ (x : Judged). x.fault) (j_traced n ℓ K p t text e w o)) ∙ h) in
      let f = traced_text n text w in
      let i = r.lines_are in let j = r.total_is in
      record {
        script = line (cycle_stated (take 20 text)) r.script;
        tail = r.tail;
        lines = r.lines;
        total = r.total;
        text_is = f.0 ∙ ap (λ (y : List ℕ). line_of (cycle_stated (take 20 text)) ++ y) r.text_is;
        formed = (f.1, r.formed);
        some = λ z. tt;
        lines_are = omega arith;
        total_is = omega arith;
        onward = r.onward;
      }
step n u ℓ K p e t text a l c ih (Opens m) w h = by (leb 8 (length K)) refl where
  by : (x : Bool) → leb 8 (length K) ≡ x → RestBy (Tail K) (8 - length K) p e u t text
  by true x = no_fault ℓ (judge n ℓ K p e t text) l (j_open_deep n ℓ K p t text e m w (leb-true 8 (length K) x)) h
  by false x =
      let o = leb-false 8 (length K) x in
      let r = ih (p ∷ K) (capped (p * m)) true t (drop 6 text) (word_opens n text m w).0 c (sym (ap (λ (x : Judged). x.fault) (j_open n ℓ K p t text e m w o)) ∙ h) in
      let r2 = r.onward.2 in
      let low = tail_low (p ∷ K) r.lines r.total r.tail r.onward in
      let i = r.lines_are in let j = r.total_is in let i2 = r2.lines_are in let j2 = r2.total_is in
      let g = at_least (8 - length (p ∷ K)) (capped (p * m)) r.script r.formed (r.some refl) in
      let q = capped_under (p * m) (omega arith) in
      let v : written_in (capped (p * m)) r.script ≡ written_in (p * m) r.script = ap (λ (y : ℕ). written_in y r.script) q in
      let k = word_opens n text m w in
      record {
        script = group m r.script r2.script;
        tail = r2.tail;
        lines = r2.lines;
        total = r2.total;
        text_is = opens_text n text m w ∙ ap (λ (y : List ℕ). open_by m ++ y) (r.text_is ∙ ap (λ (y : List ℕ). print_on r.script y) (r.onward.1 ∙ ap (λ (y : List ℕ). close_by ++ y) r2.text_is));
        formed = formed_more (length K) (8 - length (p ∷ K)) m r.script r2.script o (omega arith) k.3 k.2 (r.some refl) r.formed r2.formed;
        some = λ z. tt;
        lines_are = omega arith;
        total_is = omega arith;
        onward = r2.onward;
      }
step n u ℓ [] p e t text a l c ih Closes w h = no_fault ℓ (judge n ℓ [] p e t text) l (round n ℓ [] p e t text Closes w) h
step n u ℓ (q ∷ K) p true t text a l c ih Closes w h = no_fault ℓ (judge n ℓ (q ∷ K) p true t text) l (j_close_true n ℓ (q ∷ K) p t text w) h
step n u ℓ (q ∷ K) p false t text a l c ih Closes w h =
    let r = ih K q false t (drop 2 text) (word_closes n text w).0 c (sym (ap (λ (x : Judged). x.fault) (j_close n ℓ K p t text q w)) ∙ h) in
    record {
      script = done;
      tail = text;
      lines = u;
      total = t;
      text_is = refl;
      formed = tt;
      some = λ z. absurd (not_both z);
      lines_are = omega arith;
      total_is = omega arith;
      onward = (drop 2 text, closes_text n text w, r);
    }

sound : (n u ℓ : ℕ) (K : List ℕ) (p : ℕ) (e : Bool) (t : ℕ) (text : List ℕ) → u + n ≡ 3000 → 1 ≤ ℓ → t ≤ 9998 → (judge n ℓ K p e t text).fault ≡ 0 → RestBy (Tail K) (8 - length K) p e u t text
sound zero u ℓ K p e t text a l c h = step 0 u ℓ K p e t text (omega arith) l c (λ K' p' e' t' text' z. absurd (omega arith)) (word_in 0 text) refl h
sound (suc n) u ℓ K p e t text a l c h =
    step (suc n) u ℓ K p e t text (omega arith) l c
    (λ K' p' e' t' text' z c' h'. sound n (u + 1) (ℓ + 1) K' p' e' t' text' (omega arith) (omega arith) c' (ap (λ (i : ℕ). (judge i (ℓ + 1) K' p' e' t' text').fault) (pred n) ∙ h'))
    (word_in (suc n) text) refl h
  where
    pred : (n : ℕ) → n ≡ suc n - 1
    pred n = omega arith

-- what is accepted is an allowed script, printed
pub was_printed : (text : List ℕ) → (script_judged text).fault ≡ 0 → (s : Script) × (text ≡ print_on s []) × Allowed s
unfolding Tail
was_printed text h =
    let r = sound 3000 0 1 [] 1 false 0 text refl (omega arith) (omega arith) h in
    let o = r.onward in
    let i = r.lines_are in let j = r.total_is in let o1 = o.1 in let o2 = o.2 in
    (r.script, r.text_is ∙ ap (λ (y : List ℕ). print_on r.script y) o.0, record { formed = r.formed; short = omega arith; few = omega arith })
