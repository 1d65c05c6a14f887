-- What each line does to the judge.
use mathlib.Core.Path.{◌≡◌, refl, sym, ap, ◌∙◌}
use mathlib.Core.Bool.{Bool, true, false}
use mathlib.Core.List.{List, [], ◌∷◌}
use Prim.Native.Nat.{ℕ, zero, suc, ◌+◌, ◌-◌, ◌*◌, ◌≤◌, ◌<◌}
use native.Mathlib.Omega.{arith}
use lib.Dec.{eqb}
use lib.ListN.{length, drop}
use borrow.Author.Tests.{lt-ltb, le-ltb, le-leb, lt-leb, ne_eqb}
use Rattle.std.specs.Prelude.{if◌then◌else◌}
use Rattle.common.proofs.Choice.{unlike}
use Rattle.script_lines.specs.declared.Word.{Word}
use Rattle.script_lines.specs.declared.Word.TheVariants.{Ends, Bad, Traced, Opens, Closes}
use Rattle.script_lines.specs.Words.{word_in, is_closes, is_ends}
use Rattle.script_lines.proofs.Forms.{word_traced, word_closes, word_opens}
use Rattle.script_judge.specs.declared.Judged.{Judged}
use Rattle.script_judge.specs.Judges.{fault_as, fine_as, follow, end_of, close_of, capped, line_round, judge}
use Rattle.script_judge.specs.Inner.{item_comes}

-- one round, at any number of lines left
pub round : (n ℓ : ℕ) (K : List ℕ) (p : ℕ) (e : Bool) (t : ℕ) (text : List ℕ) (w : Word) → word_in n text ≡ w
    → judge n ℓ K p e t text ≡ follow (line_round w ℓ K p e t) (λ K' p' e' t' u. if eqb n 0 then fault_as ℓ else judge (n - 1) (ℓ + 1) K' p' e' t' (drop u text))
unfolding judge
round zero ℓ K p e t text w h = ap (λ (v : Word). follow (line_round v ℓ K p e t) (λ K' p' e' t' u. fault_as ℓ)) h
round (suc n) ℓ K p e t text w h = let k : suc n - 1 ≡ n = omega arith in simp (k, ne_eqb (suc n) 0 (λ z. omega arith)) (ap (λ (v : Word). follow (line_round v ℓ K p e t) (λ K' p' e' t' u. judge n (ℓ + 1) K' p' e' t' (drop u text))) h)

-- ---- the judge by the line at hand
more : (n ℓ : ℕ) (r : Judged) → 1 ≤ n → (if eqb n 0 then fault_as ℓ else r) ≡ r
more zero ℓ r h = absurd (omega arith)
more (suc n) ℓ r h = simp (ne_eqb (suc n) 0 (λ z. omega arith))

module _ (n ℓ : ℕ) (K : List ℕ) (p : ℕ) (t : ℕ) (text : List ℕ) where
  pub j_bad : (e : Bool) → word_in n text ≡ Bad → judge n ℓ K p e t text ≡ fault_as ℓ
  j_bad e h = round n ℓ K p e t text Bad h

  pub j_ends : word_in n text ≡ Ends → judge n ℓ K p true t text ≡ fault_as ℓ
  j_ends h = round n ℓ K p true t text Ends h ∙ by K where
    by : (K : List ℕ) → end_of ℓ K true t ≡ fault_as ℓ
    by [] = refl
    by (q ∷ K) = refl

  pub j_close_true : word_in n text ≡ Closes → judge n ℓ K p true t text ≡ fault_as ℓ
  j_close_true h = round n ℓ K p true t text Closes h ∙ by K (λ K' p' e' t' u. if eqb n 0 then fault_as ℓ else judge (n - 1) (ℓ + 1) K' p' e' t' (drop u text)) where
    by : (K : List ℕ) (f : List ℕ → ℕ → Bool → ℕ → ℕ → Judged) → follow (close_of K ℓ true t) f ≡ fault_as ℓ
    by [] f = refl
    by (q ∷ K) f = refl

  pub j_traced_over : (e : Bool) → word_in n text ≡ Traced → 9998 < t + p → judge n ℓ K p e t text ≡ fault_as ℓ
  j_traced_over e h l = round n ℓ K p e t text Traced h ∙ simp (lt-ltb 9998 (t + p) l)

  pub j_traced : (e : Bool) → word_in n text ≡ Traced → t + p ≤ 9998 → judge n ℓ K p e t text ≡ judge (n - 1) (ℓ + 1) K p false (t + p) (drop 20 text)
  j_traced e h l = round n ℓ K p e t text Traced h ∙ simp (le-ltb 9998 (t + p) l) (more n ℓ (judge (n - 1) (ℓ + 1) K p false (t + p) (drop 20 text)) (word_traced n text h).0)

  pub j_open_deep : (e : Bool) (m : ℕ) → word_in n text ≡ Opens m → 8 ≤ length K → judge n ℓ K p e t text ≡ fault_as ℓ
  j_open_deep e m h l = round n ℓ K p e t text (Opens m) h ∙ simp (le-leb 8 (length K) l)

  pub j_open : (e : Bool) (m : ℕ) → word_in n text ≡ Opens m → length K < 8 → judge n ℓ K p e t text ≡ judge (n - 1) (ℓ + 1) (p ∷ K) (capped (p * m)) true t (drop 6 text)
  j_open e m h l = round n ℓ K p e t text (Opens m) h ∙ simp (lt-leb 8 (length K) l) (more n ℓ (judge (n - 1) (ℓ + 1) (p ∷ K) (capped (p * m)) true t (drop 6 text)) (word_opens n text m h).0)

  pub j_close : (q : ℕ) → word_in n text ≡ Closes → judge n ℓ (q ∷ K) p false t text ≡ judge (n - 1) (ℓ + 1) K q false t (drop 2 text)
  j_close q h = round n ℓ (q ∷ K) p false t text Closes h ∙ more n ℓ (judge (n - 1) (ℓ + 1) K q false t (drop 2 text)) (word_closes n text h).0

  -- where an item is read, it is judged as where one must come
  pub j_comes : (e : Bool) → item_comes e (word_in n text) ≡ true → judge n ℓ K p e t text ≡ judge n ℓ K p true t text
  j_comes e h = by (word_in n text) refl h where
    must : e ≡ true → judge n ℓ K p e t text ≡ judge n ℓ K p true t text
    must f = ap (λ (b : Bool). judge n ℓ K p b t text) f

    by : (w : Word) → word_in n text ≡ w → item_comes e w ≡ true → judge n ℓ K p e t text ≡ judge n ℓ K p true t text
    by Ends g f = must f
    by Bad g f = round n ℓ K p e t text Bad g ∙ sym (round n ℓ K p true t text Bad g)
    by Traced g f = round n ℓ K p e t text Traced g ∙ sym (round n ℓ K p true t text Traced g)
    by (Opens m) g f = round n ℓ K p e t text (Opens m) g ∙ sym (round n ℓ K p true t text (Opens m) g)
    by Closes g f = must f

  -- where a list ends and no closing line stands, an open group is at fault; at the outermost list a closing line is
  pub j_open_ends : (q : ℕ) → item_comes false (word_in n text) ≡ false → is_closes (word_in n text) ≡ false → judge n ℓ (q ∷ K) p false t text ≡ fault_as ℓ
  j_open_ends q h c = by (word_in n text) refl h c where
    by : (w : Word) → word_in n text ≡ w → item_comes false w ≡ false → is_closes w ≡ false → judge n ℓ (q ∷ K) p false t text ≡ fault_as ℓ
    by Ends g f o = round n ℓ (q ∷ K) p false t text Ends g
    by Bad g f o = absurd (unlike f)
    by Traced g f o = absurd (unlike f)
    by (Opens m) g f o = absurd (unlike f)
    by Closes g f o = absurd (unlike o)

  pub j_top_closes : item_comes false (word_in n text) ≡ false → is_ends (word_in n text) ≡ false → judge n ℓ [] p false t text ≡ fault_as ℓ
  j_top_closes h c = by (word_in n text) refl h c where
    by : (w : Word) → word_in n text ≡ w → item_comes false w ≡ false → is_ends w ≡ false → judge n ℓ [] p false t text ≡ fault_as ℓ
    by Ends g f o = absurd (unlike o)
    by Bad g f o = absurd (unlike f)
    by Traced g f o = absurd (unlike f)
    by (Opens m) g f o = absurd (unlike f)
    by Closes g f o = round n ℓ [] p false t text Closes g

pub j_top_ends : (n ℓ p t : ℕ) (text : List ℕ) → is_ends (word_in n text) ≡ true → judge n ℓ [] p false t text ≡ fine_as t
j_top_ends n ℓ p t text h = by (word_in n text) refl h where
  by : (w : Word) → word_in n text ≡ w → is_ends w ≡ true → judge n ℓ [] p false t text ≡ fine_as t
  by Ends e f = round n ℓ [] p false t text Ends e
  by Bad e f = absurd (unlike (sym f))
  by Traced e f = absurd (unlike (sym f))
  by (Opens m) e f = absurd (unlike (sym f))
  by Closes e f = absurd (unlike (sym f))
