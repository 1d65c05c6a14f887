-- What the two readers answer to each other, one law for each way out.
use mathlib.Core.Path.{◌≡◌, refl, sym, ap, subst, ◌∙◌}
use mathlib.Core.Bool.{Bool, true, false}
use mathlib.Core.List.{List, [], ◌∷◌}
use Prim.Native.Nat.{ℕ, zero, suc, ◌+◌, ◌-◌, ◌*◌, ◌≤◌, ◌<◌}
use native.Mathlib.Omega.{arith}
use lib.Dec.{leb, eqb}
use lib.ListN.{length, drop, length-drop}
use lib.Seq.{drop-drop}
use borrow.Author.Tests.{leb-true, eq-eqb, ne_eqb}
use Rattle.std.specs.Prelude.{if◌then◌else◌}
use Rattle.common.proofs.Choice.{unlike}
use Rattle.script_lines.specs.declared.Word.{Word}
use Rattle.script_lines.specs.declared.Word.TheVariants.{Ends, Bad, Traced, Opens, Closes}
use Rattle.script_lines.specs.Words.{word_in, is_closes, is_ends}
use Rattle.script_lines.proofs.Words.{closes_is}
use Rattle.script_lines.proofs.Forms.{word_traced, word_closes, word_opens}
use Rattle.script_judge.specs.declared.Judged.{Judged}
use Rattle.script_judge.specs.declared.Spot.{Spot}
use Rattle.script_judge.specs.Judges.{fault_as, fine_as, capped, judge}
use Rattle.script_judge.specs.Inner.{fault_spot, next_spot, closed_spot, item_comes, ReadTo, Sound, Ahead, Ended, Onward}
use Rattle.script_judge.proofs.Rounds.{j_bad, j_ends, j_close_true, j_traced_over, j_traced, j_open_deep, j_open, j_close, j_comes, j_open_ends, j_top_ends, j_top_closes}

nonzero : (n : ℕ) → 1 ≤ n → n ≡ 0 → ⊥
nonzero n l e = absurd (omega arith)

-- a fault is handed on, whatever follows it
stop : (n : ℕ) (a : Judged) → 1 ≤ n → (if eqb n 0 then a else fault_as n) ≡ fault_as n
stop n a l = simp (ne_eqb n 0 (nonzero n l))

at_drop : (s : List ℕ) (a u : ℕ) → drop u (drop a s) ≡ drop (a + u) s
at_drop s a u = drop-drop u a s

pub fault_ahead : (s : List ℕ) (x r : Spot) → (r.fault ≡ 0 → ⊥) → Ahead s x r
unfolding Ahead
fault_ahead s x r l e = absurd (l e)

pub line_nonzero : (x : Spot) → Sound x → x.line ≡ 0 → ⊥
line_nonzero x h e = nonzero x.line h.line e

module _ (s : List ℕ) (x : Spot) (d p : ℕ) (h : Sound x) where
  pub item_bad : word_in x.left (drop x.at s) ≡ Bad → ReadTo s x d p true (fault_spot x.line)
  unfolding ReadTo
  item_bad w K k = j_bad x.left x.line K p x.total (drop x.at s) true w ∙ sym (stop x.line (judge 0 0 K p false 0 (drop 0 s)) h.line)

  pub item_ends : word_in x.left (drop x.at s) ≡ Ends → ReadTo s x d p true (fault_spot x.line)
  unfolding ReadTo
  item_ends w K k = j_ends x.left x.line K p x.total (drop x.at s) w ∙ sym (stop x.line (judge 0 0 K p false 0 (drop 0 s)) h.line)

  pub item_close : word_in x.left (drop x.at s) ≡ Closes → ReadTo s x d p true (fault_spot x.line)
  unfolding ReadTo
  item_close w K k = j_close_true x.left x.line K p x.total (drop x.at s) w ∙ sym (stop x.line (judge 0 0 K p false 0 (drop 0 s)) h.line)

  pub item_over : word_in x.left (drop x.at s) ≡ Traced → 9998 < x.total + p → ReadTo s x d p true (fault_spot x.line)
  unfolding ReadTo
  item_over w l K k = j_traced_over x.left x.line K p x.total (drop x.at s) true w l ∙ sym (stop x.line (judge 0 0 K p false 0 (drop 0 s)) h.line)

  pub item_traced : word_in x.left (drop x.at s) ≡ Traced → x.total + p ≤ 9998 → ReadTo s x d p true (next_spot x 20 (x.total + p))
  unfolding ReadTo
  item_traced w l K k = j_traced x.left x.line K p x.total (drop x.at s) true w l ∙ ap (λ (u : List ℕ). judge (x.left - 1) (x.line + 1) K p false (x.total + p) u) (at_drop s x.at 20)

  pub item_deep : (m : ℕ) → word_in x.left (drop x.at s) ≡ Opens m → d ≡ 0 → ReadTo s x d p true (fault_spot x.line)
  unfolding ReadTo
  item_deep m w z K k = j_open_deep x.left x.line K p x.total (drop x.at s) true m w (omega arith) ∙ sym (stop x.line (judge 0 0 K p false 0 (drop 0 s)) h.line)

  -- a group: its list, one level deeper, and then its closing line
  inside : (m : ℕ) (K : List ℕ) → word_in x.left (drop x.at s) ≡ Opens m → (d ≡ 0 → ⊥) → length K + d ≡ 8 → (y : Spot) → ReadTo s (next_spot x 6 x.total) (d - 1) (capped (p * m)) true y
      → judge x.left x.line K p true x.total (drop x.at s) ≡ (if eqb y.fault 0 then judge y.left y.line (p ∷ K) (capped (p * m)) false y.total (drop y.at s) else fault_as y.fault)
  unfolding ReadTo
  inside m K w z k y i =
      let n = some d z in
      j_open x.left x.line K p x.total (drop x.at s) true m w (omega arith)
      ∙ ap (λ (u : List ℕ). judge (x.left - 1) (x.line + 1) (p ∷ K) (capped (p * m)) true x.total u) (at_drop s x.at 6)
      ∙ i (p ∷ K) (omega arith)
    where
      some : (d : ℕ) → (d ≡ 0 → ⊥) → 1 ≤ d
      some zero f = absurd (f refl)
      some (suc d) f = omega arith

  -- by what it was asked to read: past the opening line, the product as far as it matters, an item first
  pub group_read : {e : Bool} (m q : ℕ) (z y : Spot) → ReadTo s z (d - 1) q e y → z ≡ next_spot x 6 x.total → q ≡ capped (p * m) → e ≡ true
      → ReadTo s (next_spot x 6 x.total) (d - 1) (capped (p * m)) true y
  group_read {e = e} m q z y i ez eq ee =
      let i1 = subst (λ (u : Spot). ReadTo s u (d - 1) q e y) ez i in
      let i2 = subst (λ (u : ℕ). ReadTo s (next_spot x 6 x.total) (d - 1) u e y) eq i1 in
      subst (λ (u : Bool). ReadTo s (next_spot x 6 x.total) (d - 1) (capped (p * m)) u y) ee i2

  pub group_fault : (m : ℕ) (y : Spot) → word_in x.left (drop x.at s) ≡ Opens m → (d ≡ 0 → ⊥) → ReadTo s (next_spot x 6 x.total) (d - 1) (capped (p * m)) true y → (y.fault ≡ 0 → ⊥) → ReadTo s x d p true y
  unfolding ReadTo
  group_fault m y w z i f K k = inside m K w z k y i ∙ simp (ne_eqb y.fault 0 f)

  pub group_closed : (m : ℕ) (y : Spot) → word_in x.left (drop x.at s) ≡ Opens m → (d ≡ 0 → ⊥) → ReadTo s (next_spot x 6 x.total) (d - 1) (capped (p * m)) true y
      → Sound y → item_comes false (word_in y.left (drop y.at s)) ≡ false → ReadTo s x d p true (closed_spot s y)
  unfolding ReadTo
  group_closed m y w z i g e K k = inside m K w z k y i ∙ simp (eq-eqb y.fault 0 g.fine) (by (is_closes (word_in y.left (drop y.at s))) refl) where
    follows : Spot → Judged
    follows r = if eqb r.fault 0 then judge r.left r.line K p false r.total (drop r.at s) else fault_as r.fault

    by : (b : Bool) → is_closes (word_in y.left (drop y.at s)) ≡ b
        → judge y.left y.line (p ∷ K) (capped (p * m)) false y.total (drop y.at s) ≡ follows (if b then next_spot y 2 y.total else fault_spot y.line)
    by true c = j_close y.left y.line K (capped (p * m)) y.total (drop y.at s) p (closes_is (word_in y.left (drop y.at s)) c)
        ∙ ap (λ (u : List ℕ). judge (y.left - 1) (y.line + 1) K p false y.total u) (at_drop s y.at 2)
    by false c = j_open_ends y.left y.line K (capped (p * m)) y.total (drop y.at s) p e c ∙ sym (stop y.line (judge 0 0 K p false 0 (drop 0 s)) g.line)

-- ---- the items of a list, one after the other
module _ (s : List ℕ) (d p : ℕ) (x : Spot) (e : Bool) where
  pub onward_none : Onward s d p x e x e
  unfolding Onward
  onward_none K k = refl

  pub onward_item : (y z : Spot) (f : Bool) → Onward s d p x e y f → item_comes f (word_in y.left (drop y.at s)) ≡ true → ReadTo s y d p true z → z.fault ≡ 0 → Onward s d p x e z false
  unfolding Onward ReadTo
  onward_item y z f o c i g K k = o K k ∙ j_comes y.left y.line K p y.total (drop y.at s) f c ∙ i K k ∙ simp (eq-eqb z.fault 0 g)

  pub onward_fault : (y z : Spot) (f : Bool) → Onward s d p x e y f → item_comes f (word_in y.left (drop y.at s)) ≡ true → ReadTo s y d p true z → ReadTo s x d p e z
  unfolding Onward ReadTo
  onward_fault y z f o c i K k = o K k ∙ j_comes y.left y.line K p y.total (drop y.at s) f c ∙ i K k

  pub onward_end : (y : Spot) (f : Bool) → Onward s d p x e y f → f ≡ false → Sound y → ReadTo s x d p e y
  unfolding Onward ReadTo
  onward_end y f o c h K k =
      o K k ∙ ap (λ (b : Bool). judge y.left y.line K p b y.total (drop y.at s)) c ∙ simp (eq-eqb y.fault 0 h.fine)

-- a list ends where no item must come and none does
pub none_due : (e : Bool) (w : Word) → item_comes e w ≡ false → (e ≡ false) × (item_comes false w ≡ false)
none_due e Ends f = (f, refl)
none_due e Bad f = absurd (unlike f)
none_due e Traced f = absurd (unlike f)
none_due e (Opens m) f = absurd (unlike f)
none_due e Closes f = (f, refl)

-- ---- the outermost list
module _ (s : List ℕ) {d : ℕ} (x y : Spot) (i : ReadTo s x d 1 false y) (h : d ≡ 8) where
  pub top_fault : (y.fault ≡ 0 → ⊥) → fault_as y.fault ≡ judge x.left x.line [] 1 false x.total (drop x.at s)
  unfolding ReadTo
  top_fault f = sym (i [] (omega arith) ∙ simp (ne_eqb y.fault 0 f))

  on : y.fault ≡ 0 → judge x.left x.line [] 1 false x.total (drop x.at s) ≡ judge y.left y.line [] 1 false y.total (drop y.at s)
  unfolding ReadTo
  on f = i [] (omega arith) ∙ simp (eq-eqb y.fault 0 f)

  pub top_ends : y.fault ≡ 0 → is_ends (word_in y.left (drop y.at s)) ≡ true → fine_as y.total ≡ judge x.left x.line [] 1 false x.total (drop x.at s)
  top_ends f w = sym (on f ∙ j_top_ends y.left y.line 1 y.total (drop y.at s) w)

  pub top_closes : y.fault ≡ 0 → item_comes false (word_in y.left (drop y.at s)) ≡ false → is_ends (word_in y.left (drop y.at s)) ≡ false
      → fault_as y.line ≡ judge x.left x.line [] 1 false x.total (drop x.at s)
  top_closes f e w = sym (on f ∙ j_top_closes y.left y.line [] 1 y.total (drop y.at s) e w)

-- ---- where the readers stand
long : (s : List ℕ) (a u : ℕ) → u ≤ length (drop a s) → 1 ≤ u → a + u ≤ length s
long s a u l m = let e = length-drop a s in omega arith

module _ (s : List ℕ) (x : Spot) (h : Sound x) where
  -- past a line of u bytes at x, with t lines written out
  next : (u t : ℕ) → 1 ≤ x.left → u ≤ length (drop x.at s) → 1 ≤ u → t ≤ 9998 → (x.at + u ≤ length s) × Sound (next_spot x u t) × (x.at < x.at + u)
  next u t l m n k =
      let a = h.line in let b = h.sum in
      (long s x.at u m n, record { fine = refl; line = omega arith; sum = omega arith; total = k }, omega arith)

  pub traced_ahead : (p : ℕ) → word_in x.left (drop x.at s) ≡ Traced → x.total + p ≤ 9998 → Ahead s x (next_spot x 20 (x.total + p))
  unfolding Ahead
  traced_ahead p w l z = let f = word_traced x.left (drop x.at s) w in next 20 (x.total + p) f.0 f.1 (omega arith) l

  pub open_ahead : (m : ℕ) → word_in x.left (drop x.at s) ≡ Opens m → (x.at + 6 ≤ length s) × Sound (next_spot x 6 x.total) × (x.at < x.at + 6)
  open_ahead m w = let f = word_opens x.left (drop x.at s) m w in next 6 x.total f.0 f.1 (omega arith) h.total

  close_ahead : is_closes (word_in x.left (drop x.at s)) ≡ true → (x.at + 2 ≤ length s) × Sound (next_spot x 2 x.total) × (x.at < x.at + 2)
  close_ahead c = let f = word_closes x.left (drop x.at s) (closes_is (word_in x.left (drop x.at s)) c) in next 2 x.total f.0 f.1 (omega arith) h.total

  pub was_traced : word_in x.left (drop x.at s) ≡ Traced → 1 ≤ x.left
  was_traced w = (word_traced x.left (drop x.at s) w).0

  pub was_open : (m : ℕ) → word_in x.left (drop x.at s) ≡ Opens m → (1 ≤ x.left) × (m ≤ 999)
  was_open m w = let f = word_opens x.left (drop x.at s) m w in (f.0, f.2)

  pub was_close : is_closes (word_in x.left (drop x.at s)) ≡ true → 1 ≤ x.left
  was_close c = (word_closes x.left (drop x.at s) (closes_is (word_in x.left (drop x.at s)) c)).0

  pub closed_ahead : (u : Spot) → u.at ≤ x.at → Ahead s u (closed_spot s x)
  unfolding Ahead
  closed_ahead u l = by (is_closes (word_in x.left (drop x.at s))) refl where
    by : (b : Bool) → is_closes (word_in x.left (drop x.at s)) ≡ b → (if b then next_spot x 2 x.total else fault_spot x.line).fault ≡ 0
        → ((if b then next_spot x 2 x.total else fault_spot x.line).at ≤ length s) × Sound (if b then next_spot x 2 x.total else fault_spot x.line) × (u.at < (if b then next_spot x 2 x.total else fault_spot x.line).at)
    by true c z = let f = close_ahead c in (f.0, f.1, omega arith)
    by false c z = absurd (line_nonzero x h z)

pub capped_low : (p : ℕ) → capped p ≤ 9999
capped_low p = by (leb p 9999) refl where
  by : (t : Bool) → leb p 9999 ≡ t → (if t then p else 9999) ≤ 9999
  by true e = leb-true p 9999 e
  by false e = omega arith

pub ahead : (s : List ℕ) (x y : Spot) → Ahead s x y → y.fault ≡ 0 → (y.at ≤ length s) × Sound y × (x.at < y.at)
unfolding Ahead
ahead s x y a z = a z

pub ended : (s : List ℕ) (x y : Spot) → Ended s x y → y.fault ≡ 0 → (y.at ≤ length s) × Sound y × (x.at ≤ y.at) × (item_comes false (word_in y.left (drop y.at s)) ≡ false)
unfolding Ended
ended s x y a z = a z

pub fault_ended : (s : List ℕ) (x r : Spot) → (r.fault ≡ 0 → ⊥) → Ended s x r
unfolding Ended
fault_ended s x r l e = absurd (l e)

pub here_ended : (s : List ℕ) (x y : Spot) → y.at ≤ length s → Sound y → x.at ≤ y.at → item_comes false (word_in y.left (drop y.at s)) ≡ false → Ended s x y
unfolding Ended
here_ended s x y a h l e z = (a, h, l, e)

-- ---- both promises of an item's answer, by its equation
pub item_by : (s : List ℕ) (x : Spot) (d p : ℕ) (r q : Spot) → r ≡ q → ReadTo s x d p true q → Ahead s x q → ReadTo s x d p true r × Ahead s x r
item_by s x d p r q e i a = (subst (λ (y : Spot). ReadTo s x d p true y) (sym e) i, subst (λ (y : Spot). Ahead s x y) (sym e) a)

pub fault_by : (s : List ℕ) (x : Spot) (d p : ℕ) (r : Spot) → Sound x → r ≡ fault_spot x.line → ReadTo s x d p true (fault_spot x.line) → ReadTo s x d p true r × Ahead s x r
fault_by s x d p r h e i = item_by s x d p r (fault_spot x.line) e i (fault_ahead s x (fault_spot x.line) (line_nonzero x h))
