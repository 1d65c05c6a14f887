-- The walk as the code makes it: letters met, and a run that is looked for, carried from item to item.
use mathlib.Core.Path.{◌≡◌, refl, sym, ◌∙◌, ap}
use mathlib.Core.List.{List, [], ◌∷◌}
use mathlib.Core.Bool.{Bool, true, false, not, ◌&&◌, ◌||◌}
use Prim.Native.Nat.{ℕ, zero, suc, ◌+◌, ◌-◌, ◌≤◌, ◌<◌}
use native.Mathlib.Omega.{arith}
use lib.ListN.{length, get_or, set, replicate}
use lib.Seq.{get_or-set_same, get_or-set_other}
use lib.Dec.{eqb}
use borrow.Author.Tests.{eqb-true, eqb-false, ne_eqb}
use Rattle.std.specs.Prelude.{if◌then◌else◌}
use Rattle.common.proofs.Choice.{if_true, if_false}
use Rattle.store_places.specs.Store.{Item, blank, dead, filed, junk, more_of, proper_in, has_in, blank_run, fits_in}
use Rattle.store_places.proofs.Items.{not_both}
use Rattle.store_survey.specs.Survey.{start_in, has_run}

-- ---- letters met: no letter of `seen` stands there, and none twice
abbrev pub proper_with : List ℕ → List Item → Bool
proper_with seen [] = true
proper_with seen (blank ∷ is) = proper_with seen is
proper_with seen (dead p ∷ is) = proper_with seen is
proper_with seen (filed m f ∷ is) = eqb (get_or seen m 0) 0 && proper_with (set seen m 1) is
proper_with seen (junk p ∷ is) = false

-- no letter of `seen` stands there
abbrev clear_of : List ℕ → List Item → Bool
clear_of seen [] = true
clear_of seen (blank ∷ is) = clear_of seen is
clear_of seen (dead p ∷ is) = clear_of seen is
clear_of seen (filed m f ∷ is) = eqb (get_or seen m 0) 0 && clear_of seen is
clear_of seen (junk p ∷ is) = clear_of seen is

-- every file's letter is a byte, and it has a block
abbrev pub Lettered : List Item → Type 0
Lettered [] = Unit {0}
Lettered (blank ∷ is) = Lettered is
Lettered (dead p ∷ is) = Lettered is
Lettered (filed m f ∷ is) = ((m < 256) × (0 < length f)) × Lettered is
Lettered (junk p ∷ is) = Lettered is

shuffle : (x h c : Bool) → (x && (not h && c)) ≡ (not h && (x && c))
shuffle true h c = refl
shuffle false true c = refl
shuffle false false c = refl

shuffle_4 : (x h c P : Bool) → (x && ((not h && c) && P)) ≡ ((x && c) && (not h && P))
shuffle_4 true true true P = refl
shuffle_4 true true false P = refl
shuffle_4 true false c P = refl
shuffle_4 false h c P = refl

no_and : (c : Bool) → false ≡ (c && false)
no_and true = refl
no_and false = refl

clear_set : (seen : List ℕ) (m : ℕ) (is : List Item) → m < length seen → clear_of (set seen m 1) is ≡ (not (has_in m is) && clear_of seen is)
clear_set seen m [] h = refl
clear_set seen m (blank ∷ is) h = clear_set seen m is h
clear_set seen m (dead p ∷ is) h = clear_set seen m is h
clear_set seen m (filed k f ∷ is) h = go (eqb k m) refl (clear_set seen m is h)
  where
    go : (t : Bool) → eqb k m ≡ t → clear_of (set seen m 1) is ≡ (not (has_in m is) && clear_of seen is)
        → (eqb (get_or (set seen m 1) k 0) 0 && clear_of (set seen m 1) is) ≡ (not (eqb k m || has_in m is) && (eqb (get_or seen k 0) 0 && clear_of seen is))
    go true q r =
        let e : get_or (set seen m 1) k 0 ≡ 1 = ap (λ (x : ℕ). get_or (set seen m 1) x 0) (eqb-true k m q) ∙ get_or-set_same seen m 1 0 h in
        ap (λ (x : ℕ). eqb x 0 && clear_of (set seen m 1) is) e ∙ sym (ap (λ (x : Bool). not (x || has_in m is) && (eqb (get_or seen k 0) 0 && clear_of seen is)) q)
    go false q r =
        let e : get_or (set seen m 1) k 0 ≡ get_or seen k 0 = get_or-set_other seen m k 1 0 (eqb-false k m q) in
        ap (λ (x : ℕ). eqb x 0 && clear_of (set seen m 1) is) e ∙ ap (λ (x : Bool). eqb (get_or seen k 0) 0 && x) r
        ∙ shuffle (eqb (get_or seen k 0) 0) (has_in m is) (clear_of seen is)
        ∙ sym (ap (λ (x : Bool). not (x || has_in m is) && (eqb (get_or seen k 0) 0 && clear_of seen is)) q)
clear_set seen m (junk p ∷ is) h = clear_set seen m is h

pub set_long : (seen : List ℕ) (m : ℕ) → length (set seen m 1) ≡ length seen
set_long [] m = refl
set_long (x ∷ seen) zero = refl
set_long (x ∷ seen) (suc m) = ap suc (set_long seen m)

proper_with_lem : (is : List Item) (seen : List ℕ) → length seen ≡ 256 → Lettered is → proper_with seen is ≡ (clear_of seen is && proper_in is)
proper_with_lem [] seen l w = refl
proper_with_lem (blank ∷ is) seen l w = proper_with_lem is seen l w
proper_with_lem (dead p ∷ is) seen l w = proper_with_lem is seen l w
proper_with_lem (filed m f ∷ is) seen l w =
    let a = w.0.0 in
    ap (λ (x : Bool). eqb (get_or seen m 0) 0 && x) (proper_with_lem is (set seen m 1) (set_long seen m ∙ l) w.1 ∙ ap (λ (x : Bool). x && proper_in is) (clear_set seen m is (omega arith)))
    ∙ shuffle_4 (eqb (get_or seen m 0) 0) (has_in m is) (clear_of seen is) (proper_in is)
proper_with_lem (junk p ∷ is) seen l w = no_and (clear_of seen is)

zero_at : (n m : ℕ) → get_or (replicate {A = ℕ} n 0) m 0 ≡ 0
zero_at zero m = refl
zero_at (suc n) zero = refl
zero_at (suc n) (suc m) = zero_at n m

clear_none : (is : List Item) → clear_of (replicate 256 0) is ≡ true
clear_none [] = refl
clear_none (blank ∷ is) = clear_none is
clear_none (dead p ∷ is) = clear_none is
clear_none (filed m f ∷ is) = ap (λ (x : ℕ). eqb x 0 && clear_of (replicate 256 0) is) (zero_at 256 m) ∙ clear_none is
clear_none (junk p ∷ is) = clear_none is

pub proper_none : (is : List Item) → Lettered is → proper_with (replicate 256 0) is ≡ proper_in is
proper_none is w = proper_with_lem is (replicate 256 0) refl w ∙ ap (λ (x : Bool). x && proper_in is) (clear_none is)

-- ---- runs: one of n blank places is reached, `run` of them before these items
abbrev pub fits_with : ℕ → ℕ → List Item → Bool
fits_with n run [] = false
fits_with n run (blank ∷ is) = eqb (run + 1) n || fits_with n (run + 1) is
fits_with n run (dead p ∷ is) = fits_with n 0 is
fits_with n run (filed m f ∷ is) = fits_with n 0 is
fits_with n run (junk p ∷ is) = fits_with n 0 is

-- the place where it begins, these items beginning at place p
abbrev pub start_with : ℕ → ℕ → ℕ → List Item → ℕ
start_with n p run [] = p
start_with n p run (blank ∷ is) = (if eqb (run + 1) n then p - run else start_with n (p + 1 + 0) (run + 1) is)
start_with n p run (dead q ∷ is) = start_with n (p + 1 + 0) 0 is
start_with n p run (filed m f ∷ is) = start_with n (p + 1 + (length f - 1)) 0 is
start_with n p run (junk q ∷ is) = start_with n (p + 1 + 0) 0 is

blank_less : (a b : ℕ) (is : List Item) → b ≤ a → blank_run a is ≡ true → blank_run b is ≡ true
blank_less a zero is l h = refl
blank_less zero (suc b) is l h = absurd (omega arith)
blank_less (suc a) (suc b) [] l h = h
blank_less (suc a) (suc b) (blank ∷ is) l h = blank_less a b is (omega arith) h
blank_less (suc a) (suc b) (dead p ∷ is) l h = h
blank_less (suc a) (suc b) (filed m f ∷ is) l h = h
blank_less (suc a) (suc b) (junk p ∷ is) l h = h

run_in : (n : ℕ) (is : List Item) → 0 < n → blank_run n is ≡ true → fits_in n is ≡ true
run_in zero is l h = absurd (omega arith)
run_in (suc n) [] l h = h
run_in (suc n) (i ∷ is) l h = ap (λ (x : Bool). x || fits_in (suc n) is) h

start_here : (n p : ℕ) (is : List Item) → blank_run n is ≡ true → start_in n p is ≡ p
start_here n p [] h = refl
start_here n p (i ∷ is) h = if_true (blank_run n (i ∷ is)) p (start_in n (p + 1 + more_of i) is) h

lesser : (n run : ℕ) → n - run - 1 ≤ n - 1
lesser n run = omega arith

absorb : (a b c : Bool) → (b ≡ true → a ≡ true) → (a || c) ≡ (a || (b || c))
absorb true b c f = refl
absorb false true c f = absurd (not_both (f refl) refl)
absorb false false c f = refl

or_in : (a c : Bool) → (a ≡ true → c ≡ true) → (a || c) ≡ c
or_in true c f = sym (f refl)
or_in false c f = refl

if_in : (a b : Bool) (x y z : ℕ) → (b ≡ true → a ≡ true) → (if a then x else z) ≡ (if a then x else if b then y else z)
if_in true b x y z f = refl
if_in false true x y z f = absurd (not_both (f refl) refl)
if_in false false x y z f = refl

if_here : (a : Bool) (x z : ℕ) → (a ≡ true → z ≡ x) → (if a then x else z) ≡ z
if_here true x z f = sym (f refl)
if_here false x z f = refl

pub fits_with_lem : (is : List Item) (n run : ℕ) → run < n → fits_with n run is ≡ (blank_run (n - run) is || fits_in n is)
fits_with_lem [] n run l = ap (λ (k : ℕ). blank_run k [] || false) (let e : suc (n - run - 1) ≡ n - run = omega arith in e)
fits_with_lem (blank ∷ is) n run l = go (eqb (run + 1) n) refl (fits_with_lem is n (run + 1))
  where
    e : suc (n - run - 1) ≡ n - run
    e = omega arith

    e' : suc (n - 1) ≡ n
    e' = omega arith

    whole : (blank_run (n - run) (blank ∷ is) || fits_in n (blank ∷ is)) ≡ (blank_run (n - run - 1) is || (blank_run (n - 1) is || fits_in n is))
    whole = ap (λ (k : ℕ). blank_run k (blank ∷ is) || fits_in n (blank ∷ is)) (sym e) ∙ ap (λ (k : ℕ). blank_run (n - run - 1) is || (blank_run k (blank ∷ is) || fits_in n is)) (sym e')

    go : (t : Bool) → eqb (run + 1) n ≡ t → (run + 1 < n → fits_with n (run + 1) is ≡ (blank_run (n - (run + 1)) is || fits_in n is))
        → (eqb (run + 1) n || fits_with n (run + 1) is) ≡ (blank_run (n - run) (blank ∷ is) || fits_in n (blank ∷ is))
    go true q r =
        let h = eqb-true (run + 1) n q in
        let z : 0 ≡ n - run - 1 = omega arith in
        ap (λ (x : Bool). x || fits_with n (run + 1) is) q ∙ ap (λ (k : ℕ). blank_run k is || (blank_run (n - 1) is || fits_in n is)) z ∙ sym whole
    go false q r =
        let h = eqb-false (run + 1) n q in
        let z : n - (run + 1) ≡ n - run - 1 = omega arith in
        ap (λ (x : Bool). x || fits_with n (run + 1) is) q ∙ r (omega arith) ∙ ap (λ (k : ℕ). blank_run k is || fits_in n is) z
        ∙ absorb (blank_run (n - run - 1) is) (blank_run (n - 1) is) (fits_in n is) (blank_less (n - 1) (n - run - 1) is (lesser n run)) ∙ sym whole
fits_with_lem (dead p ∷ is) n run l =
    fits_with_lem is n 0 (omega arith) ∙ or_in (blank_run (n - 0) is) (fits_in n is) (λ (h : blank_run (n - 0) is ≡ true). run_in n is (omega arith) (ap (λ (k : ℕ). blank_run k is) (let z : n ≡ n - 0 = omega arith in z) ∙ h))
    ∙ ap (λ (k : ℕ). blank_run k (dead p ∷ is) || fits_in n is) (let z : suc (n - 1) ≡ n = omega arith in z)
    ∙ ap (λ (k : ℕ). blank_run k (dead p ∷ is) || (blank_run n (dead p ∷ is) || fits_in n is)) (let z : suc (n - run - 1) ≡ n - run = omega arith in z)
fits_with_lem (filed m f ∷ is) n run l =
    fits_with_lem is n 0 (omega arith) ∙ or_in (blank_run (n - 0) is) (fits_in n is) (λ (h : blank_run (n - 0) is ≡ true). run_in n is (omega arith) (ap (λ (k : ℕ). blank_run k is) (let z : n ≡ n - 0 = omega arith in z) ∙ h))
    ∙ ap (λ (k : ℕ). blank_run k (filed m f ∷ is) || fits_in n is) (let z : suc (n - 1) ≡ n = omega arith in z)
    ∙ ap (λ (k : ℕ). blank_run k (filed m f ∷ is) || (blank_run n (filed m f ∷ is) || fits_in n is)) (let z : suc (n - run - 1) ≡ n - run = omega arith in z)
fits_with_lem (junk p ∷ is) n run l =
    fits_with_lem is n 0 (omega arith) ∙ or_in (blank_run (n - 0) is) (fits_in n is) (λ (h : blank_run (n - 0) is ≡ true). run_in n is (omega arith) (ap (λ (k : ℕ). blank_run k is) (let z : n ≡ n - 0 = omega arith in z) ∙ h))
    ∙ ap (λ (k : ℕ). blank_run k (junk p ∷ is) || fits_in n is) (let z : suc (n - 1) ≡ n = omega arith in z)
    ∙ ap (λ (k : ℕ). blank_run k (junk p ∷ is) || (blank_run n (junk p ∷ is) || fits_in n is)) (let z : suc (n - run - 1) ≡ n - run = omega arith in z)

pub fits_none : (is : List Item) (n : ℕ) → 0 < n → fits_with n 0 is ≡ fits_in n is
fits_none is n l =
    fits_with_lem is n 0 l ∙ or_in (blank_run (n - 0) is) (fits_in n is) (λ (h : blank_run (n - 0) is ≡ true). run_in n is l (ap (λ (k : ℕ). blank_run k is) (let z : n ≡ n - 0 = omega arith in z) ∙ h))

-- after an item that is no blank_place place the run begins anew
anew : (is : List Item) (n p : ℕ) → start_with n p 0 is ≡ (if blank_run (n - 0) is then p - 0 else start_in n p is) → start_with n p 0 is ≡ start_in n p is
anew is n p e =
    e ∙ if_here (blank_run (n - 0) is) (p - 0) (start_in n p is)
    (λ (h : blank_run (n - 0) is ≡ true). start_here n p is (ap (λ (k : ℕ). blank_run k is) (let z : n ≡ n - 0 = omega arith in z) ∙ h) ∙ (let z : p ≡ p - 0 = omega arith in z))

pub start_with_lem : (is : List Item) (n p run : ℕ) → run < n → run ≤ p → start_with n p run is ≡ (if blank_run (n - run) is then p - run else start_in n p is)
start_with_lem [] n p run l b = ap (λ (k : ℕ). (if blank_run k [] then p - run else p)) (let e : suc (n - run - 1) ≡ n - run = omega arith in e)
start_with_lem (blank ∷ is) n p run l b = go (eqb (run + 1) n) refl (start_with_lem is n (p + 1 + 0) (run + 1))
  where
    e : suc (n - run - 1) ≡ n - run
    e = omega arith

    e' : suc (n - 1) ≡ n
    e' = omega arith

    Z : ℕ
    Z = start_in n (p + 1 + 0) is

    whole : (if blank_run (n - run) (blank ∷ is) then p - run else start_in n p (blank ∷ is)) ≡ (if blank_run (n - run - 1) is then p - run else if blank_run (n - 1) is then p else start_in n (p + 1 + 0) is)
    whole = ap (λ (k : ℕ). (if blank_run k (blank ∷ is) then p - run else start_in n p (blank ∷ is))) (sym e) ∙ ap (λ (k : ℕ). (if blank_run (n - run - 1) is then p - run else if blank_run k (blank ∷ is) then p else start_in n (p + 1 + 0) is)) (sym e')

    go : (t : Bool) → eqb (run + 1) n ≡ t
        → (run + 1 < n → run + 1 ≤ p + 1 + 0 → start_with n (p + 1 + 0) (run + 1) is ≡ (if blank_run (n - (run + 1)) is then p + 1 + 0 - (run + 1) else start_in n (p + 1 + 0) is))
        → (if eqb (run + 1) n then p - run else start_with n (p + 1 + 0) (run + 1) is) ≡ (if blank_run (n - run) (blank ∷ is) then p - run else start_in n p (blank ∷ is))
    go true q r =
        let h = eqb-true (run + 1) n q in
        let z : 0 ≡ n - run - 1 = omega arith in
        if_true (eqb (run + 1) n) (p - run) (start_with n (p + 1 + 0) (run + 1) is) q
        ∙ ap (λ (k : ℕ). (if blank_run k is then p - run else if blank_run (n - 1) is then p else start_in n (p + 1 + 0) is)) z ∙ sym whole
    go false q r =
        let h = eqb-false (run + 1) n q in
        let z : n - (run + 1) ≡ n - run - 1 = omega arith in
        let y : p + 1 + 0 - (run + 1) ≡ p - run = omega arith in
        if_false (eqb (run + 1) n) (p - run) (start_with n (p + 1 + 0) (run + 1) is) q ∙ r (omega arith) (omega arith)
        ∙ ap (λ (k : ℕ). (if blank_run k is then p + 1 + 0 - (run + 1) else start_in n (p + 1 + 0) is)) z
        ∙ ap (λ (k : ℕ). (if blank_run (n - run - 1) is then k else start_in n (p + 1 + 0) is)) y
        ∙ if_in (blank_run (n - run - 1) is) (blank_run (n - 1) is) (p - run) p (start_in n (p + 1 + 0) is) (blank_less (n - 1) (n - run - 1) is (lesser n run)) ∙ sym whole
start_with_lem (dead q ∷ is) n p run l b =
    anew is n (p + 1 + 0) (start_with_lem is n (p + 1 + 0) 0 (omega arith) (omega arith))
    ∙ ap (λ (k : ℕ). (if blank_run k (dead q ∷ is) then p else start_in n (p + 1 + 0) is)) (let z : suc (n - 1) ≡ n = omega arith in z)
    ∙ ap (λ (k : ℕ). (if blank_run k (dead q ∷ is) then p - run else if blank_run n (dead q ∷ is) then p else start_in n (p + 1 + 0) is)) (let z : suc (n - run - 1) ≡ n - run = omega arith in z)
start_with_lem (filed m f ∷ is) n p run l b =
    anew is n (p + 1 + (length f - 1)) (start_with_lem is n (p + 1 + (length f - 1)) 0 (omega arith) (omega arith))
    ∙ ap (λ (k : ℕ). (if blank_run k (filed m f ∷ is) then p else start_in n (p + 1 + (length f - 1)) is)) (let z : suc (n - 1) ≡ n = omega arith in z)
    ∙ ap (λ (k : ℕ). (if blank_run k (filed m f ∷ is) then p - run else if blank_run n (filed m f ∷ is) then p else start_in n (p + 1 + (length f - 1)) is)) (let z : suc (n - run - 1) ≡ n - run = omega arith in z)
start_with_lem (junk q ∷ is) n p run l b =
    anew is n (p + 1 + 0) (start_with_lem is n (p + 1 + 0) 0 (omega arith) (omega arith))
    ∙ ap (λ (k : ℕ). (if blank_run k (junk q ∷ is) then p else start_in n (p + 1 + 0) is)) (let z : suc (n - 1) ≡ n = omega arith in z)
    ∙ ap (λ (k : ℕ). (if blank_run k (junk q ∷ is) then p - run else if blank_run n (junk q ∷ is) then p else start_in n (p + 1 + 0) is)) (let z : suc (n - run - 1) ≡ n - run = omega arith in z)

pub start_none : (is : List Item) (n : ℕ) → 0 < n → start_with n 0 0 is ≡ start_in n 0 is
start_none is n l = anew is n 0 (start_with_lem is n 0 0 l (omega arith))

-- a run of no places is never reached
fits_zero : (is : List Item) (run : ℕ) → fits_with 0 run is ≡ false
fits_zero [] run = refl
fits_zero (blank ∷ is) run = ap (λ (x : Bool). x || fits_with 0 (run + 1) is) (ne_eqb (run + 1) 0 (λ (e : run + 1 ≡ 0). omega arith)) ∙ fits_zero is (run + 1)
fits_zero (dead p ∷ is) run = fits_zero is 0
fits_zero (filed m f ∷ is) run = fits_zero is 0
fits_zero (junk p ∷ is) run = fits_zero is 0

pub fits_is : (is : List Item) (n : ℕ) → fits_with n 0 is ≡ has_run n is
fits_is is zero = fits_zero is 0
fits_is is (suc n) = fits_none is (suc n) (omega arith) ∙ sym (if_false (eqb (suc n) 0) false (fits_in (suc n) is) (ne_eqb (suc n) 0 (λ (e : suc n ≡ 0). omega arith)))

pub start_is : (is : List Item) (n : ℕ) → has_run n is ≡ true → start_with n 0 0 is ≡ start_in n 0 is
start_is is zero h = absurd (not_both h refl)
start_is is (suc n) h = start_none is (suc n) (omega arith)
