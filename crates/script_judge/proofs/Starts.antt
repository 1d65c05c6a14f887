-- Which lines begin a script.
use mathlib.Core.Path.{◌≡◌, refl, sym, ap, subst, ◌∙◌}
use mathlib.Core.Bool.{Bool, true, false}
use mathlib.Core.List.{List, [], ◌∷◌, ◌++◌}
use Prim.Native.Nat.{ℕ, zero, suc, ◌+◌, ◌-◌, ◌≤◌, ◌<◌}
use native.Mathlib.Omega.{arith}
use Rattle.model_types.specs.declared.Kind.TheVariants.{Idle}
use Rattle.model_types.specs.declared.Cycle.{Cycle}
use Rattle.trace_lines.specs.Lines.{Fits, cycle_as}
use Rattle.script_lines.specs.Scripts.{Script, done, line, group, Some, Formed}
use Rattle.script_judge.specs.Faults.{Mark, a_line, an_open, a_close, marks_on, Begins}
use Rattle.script_judge.proofs.Exact.{must, formed_more, not_both}

-- h groups are open; e: an item must come
unfoldable pub Walks : ℕ → Bool → List Mark → Type 0
Walks h e [] = Unit {0}
Walks h e (a_line k ∷ ms) = Fits k × Walks h false ms
Walks h e (an_open n ∷ ms) = (1 ≤ n) × (n ≤ 999) × (h < 8) × Walks (suc h) true ms
Walks zero e (a_close ∷ ms) = ⊥
Walks (suc h) true (a_close ∷ ms) = ⊥
Walks (suc h) false (a_close ∷ ms) = Walks h false ms

-- the same, and at the end nothing is open
unfoldable pub Whole : ℕ → Bool → List Mark → Type 0
Whole zero true [] = ⊥
Whole zero false [] = Unit {0}
Whole (suc h) e [] = ⊥
Whole h e (a_line k ∷ ms) = Whole h false ms
Whole h e (an_open n ∷ ms) = Whole (suc h) true ms
Whole zero e (a_close ∷ ms) = ⊥
Whole (suc h) e (a_close ∷ ms) = Whole h false ms

walks_flat : (h : ℕ) (r : Script) (ms : List Mark) → Walks h false ms → Walks h (must false r) ms
walks_flat h done ms w = w
walks_flat h (line k r) ms w = w
walks_flat h (group n b r) ms w = w

walks_some : (h : ℕ) (r : Script) (ms : List Mark) → Some r → Walks h false ms → Walks h (must true r) ms
walks_some h done ms s w = absurd s
walks_some h (line k r) ms s w = w
walks_some h (group n b r) ms s w = w

pub walks_script : (s : Script) (d h : ℕ) (e : Bool) (ms : List Mark) → Formed d s → h + d ≡ 8 → Walks h (must e s) ms → Walks h e (marks_on s ms)
unfolding Formed marks_on Walks
walks_script done d h e ms f k w = w
walks_script (line x r) d h e ms f k w = (f.0, walks_script r d h false ms f.1 k (walks_flat h r ms w))
walks_script (group n b r) zero h e ms f k w = absurd f
walks_script (group n b r) (suc d) h e ms f k w =
    let i = walks_script r (suc d) h false ms f.4 k (walks_flat h r ms w) in
    (f.0, f.1, omega arith, walks_script b d (suc h) true (a_close ∷ marks_on r ms) f.3 (omega arith) (walks_some (suc h) b (a_close ∷ marks_on r ms) f.2 i))

pub walks_front : (ms : List Mark) (h : ℕ) (e : Bool) (more : List Mark) → Walks h e (ms ++ more) → Walks h e ms
unfolding Walks
walks_front [] h e more w = tt
walks_front (a_line k ∷ ms) h e more w = (w.0, walks_front ms h false more w.1)
walks_front (an_open n ∷ ms) h e more w = (w.0, w.1, w.2, walks_front ms (suc h) true more w.3)
walks_front (a_close ∷ ms) zero e more w = w
walks_front (a_close ∷ ms) (suc h) true more w = w
walks_front (a_close ∷ ms) (suc h) false more w = walks_front ms h false more w

pub whole_flat : (h : ℕ) (e : Bool) (r : Script) (ms : List Mark) → Whole h false ms → Whole h (must false r) ms
whole_flat h e done ms w = w
whole_flat h e (line k r) ms w = w
whole_flat h e (group n b r) ms w = w

whole_some : (h : ℕ) (r : Script) (ms : List Mark) → Some r → Whole h false ms → Whole h (must true r) ms
whole_some h done ms s w = absurd s
whole_some h (line k r) ms s w = w
whole_some h (group n b r) ms s w = w

pub whole_script : (s : Script) (d h : ℕ) (e : Bool) (ms : List Mark) → Formed d s → Whole h (must e s) ms → Whole h e (marks_on s ms)
unfolding Formed marks_on Whole
whole_script done d h e ms f w = w
whole_script (line x r) d h e ms f w = whole_script r d h false ms f.1 (whole_flat h e r ms w)
whole_script (group n b r) zero h e ms f w = absurd f
whole_script (group n b r) (suc d) h e ms f w =
    let i = whole_script r (suc d) h false ms f.4 (whole_flat h e r ms w) in
    whole_script b d (suc h) true (a_close ∷ marks_on r ms) f.3 (whole_some (suc h) b (a_close ∷ marks_on r ms) f.2 i)

pub begins_walks : (ms : List Mark) → Begins ms → Walks 0 false ms
unfolding Walks
begins_walks ms b =
    walks_front ms 0 false b.more (subst (λ (x : List Mark). Walks 0 false x) (sym b.lines) (walks_script b.script 8 0 false [] b.formed refl (walks_flat 0 b.script [] tt)))

-- ---- and back: what walks can be completed
pub record Left (T : List Mark → Type 0) (d : ℕ) (e : Bool) (ms : List Mark) : Type 0 where
  pub script : Script
  pub tail : List Mark
  pub lines : ms ≡ marks_on script tail
  pub formed : Formed d script
  pub some : e ≡ true → Some script
  pub onward : T tail

pub After : ℕ → List Mark → Type 0
After zero tail = tail ≡ []
After (suc h) tail = (more : List Mark) × (tail ≡ a_close ∷ more) × Left (After h) (8 - h) false more

closes : ℕ → List Mark
closes zero = []
closes (suc h) = a_close ∷ closes h

closed : (h : ℕ) → After h (closes h)
unfolding After closes marks_on Formed
closed zero = refl
closed (suc h) = (closes h, refl, record { script = done; tail = closes h; lines = refl; formed = tt; some = λ z. absurd (not_both z); onward = closed h })

-- some cycle that fits a line
any_cycle : Cycle
any_cycle = cycle_as Idle 1 0 0 0 0

any_fits : Fits any_cycle
unfolding any_cycle
any_fits = (omega arith, omega arith, omega arith, omega arith, omega arith, refl)

pub complete : (ms : List Mark) (h : ℕ) (e : Bool) → Walks h e ms → (more : List Mark) × Left (After h) (8 - h) e (ms ++ more)
unfolding Walks marks_on Formed After
complete [] h true w = (a_line any_cycle ∷ closes h, record { script = line any_cycle done; tail = closes h; lines = refl; formed = (any_fits, tt); some = λ z. tt; onward = closed h })
complete [] h false w = (closes h, record { script = done; tail = closes h; lines = refl; formed = tt; some = λ z. absurd (not_both z); onward = closed h })
complete (a_line k ∷ ms) h e w =
    let i = complete ms h false w.1 in let r = i.1 in
    (i.0, record { script = line k r.script; tail = r.tail; lines = ap (λ (x : List Mark). a_line k ∷ x) r.lines; formed = (w.0, r.formed); some = λ z. tt; onward = r.onward })
complete (an_open n ∷ ms) h e w =
    let i = complete ms (suc h) true w.3 in let r = i.1 in let r2 = r.onward.2 in let l = w.2 in (
      i.0,
      record {
        script = group n r.script r2.script;
        tail = r2.tail;
        lines = ap (λ (x : List Mark). an_open n ∷ x) (r.lines ∙ ap (λ (x : List Mark). marks_on r.script x) (r.onward.1 ∙ ap (λ (x : List Mark). a_close ∷ x) r2.lines));
        formed = formed_more h (8 - suc h) n r.script r2.script l (omega arith) w.0 w.1 (r.some refl) r.formed r2.formed;
        some = λ z. tt;
        onward = r2.onward;
      },
    )
complete (a_close ∷ ms) zero e w = absurd w
complete (a_close ∷ ms) (suc h) true w = absurd w
complete (a_close ∷ ms) (suc h) false w =
    let i = complete ms h false w in
    (i.0, record { script = done; tail = a_close ∷ (ms ++ i.0); lines = refl; formed = tt; some = λ z. absurd (not_both z); onward = (ms ++ i.0, refl, i.1) })

pub walks_begins : (ms : List Mark) → Walks 0 false ms → Begins ms
unfolding After
walks_begins ms w =
    let i = complete ms 0 false w in let r = i.1 in
    record { more = i.0; script = r.script; formed = r.formed; lines = r.lines ∙ ap (λ (x : List Mark). marks_on r.script x) r.onward }
