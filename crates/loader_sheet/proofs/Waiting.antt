-- A wait: it begins without polls, goes on for 65,534 of them, and the next ends it by 20.
use mathlib.Core.Path.{◌≡◌, refl, sym, ap, subst, ◌∙◌}
use mathlib.Core.Bool.{true, false, not}
use mathlib.Core.List.{List, [], ◌∷◌}
use Prim.Native.Nat.{ℕ, suc, ◌+◌, ◌-◌, ◌≤◌, ◌<◌}
use native.Mathlib.Omega.{arith}
use lib.ListN.{length}
use lib.Dec.{eqb, ltb, leb}
use borrow.Author.Tests.{le-leb, lt-leb, not-true}
use Rattle.common.proofs.Choice.{if_ind, if_true, if_false, and_left, and_right, unlike}
use Rattle.loader.specs.declared.Stage.{Stage}
use Rattle.loader.specs.declared.Stage.TheVariants.{Clearing, Opening, Reading, EraseAsking, EraseConfirming, EraseWaiting, ProgramAsking, ProgramSending, ProgramWaiting, Closing, Verifying, Ended}
use Rattle.loader.specs.declared.Loader.{Loader}
use Rattle.loader_walk.specs.Walks.{diff_from, rises_in}
use Rattle.units.specs.Units.{carried}
use Rattle.loader.specs.Statuses.{status_in, is_ready}
use Rattle.loader_moves.specs.Moves.{onward, after_reads, after_read, poll_more, erase_polled, program_polled, verify_more, next_in}
use Rattle.loader_stores.specs.Stores.{erased_well, programmed_well, store_in, store_of}
use Rattle.loader_steps.proofs.StartAndStep.{step_again}
use Rattle.loader_sheet.specs.Hand.{Hand, fed, fed_all, Takes, EndedBy, is_polling, never_ready}
use Rattle.loader_sheet.proofs.Polls.{fed_loader, fed_scratch}

-- a step that is taken gives a hand that takes the next
pub takes_again : (w : List ℕ) (h : Hand) (v : ℕ) → Takes w h → Takes w (fed w h v)
takes_again w h v t = step_again h.loader v w h.scratch t

-- ---- each wait begins without polls
module _ (l : Loader) (w : List ℕ) where
  abbrev Fresh : Loader → Type 0
  Fresh x = is_polling x.stage ≡ true → x.polls ≡ 0

  onward_fresh : (i : ℕ) (sc : List ℕ) → Fresh (onward l i w sc)
  unfolding onward
  onward_fresh i sc = if_ind Fresh (ltb (diff_from i w sc) (length w)) _ _ (λ e q. refl) (λ e q. refl)

  next_fresh : (stage : Stage) (v : ℕ) (sc : List ℕ) → is_polling stage ≡ false → stage ≡ l.stage → Fresh (next_in stage l v w sc)
  unfolding after_read after_reads verify_more
  next_fresh Clearing v sc e s = λ q. refl
  next_fresh Opening v sc e s = λ q. refl
  next_fresh Reading v sc e s =
      if_ind Fresh (ltb l.place (length w - 1)) _ _ (λ a q. refl) (λ a. if_ind Fresh (rises_in w sc) _ _ (λ b q. refl) (λ b. onward_fresh 0 sc))
  next_fresh EraseAsking v sc e s = λ q. refl
  next_fresh EraseConfirming v sc e s = λ q. refl
  next_fresh EraseWaiting v sc e s = absurd (unlike e)
  next_fresh ProgramAsking v sc e s = λ q. refl
  next_fresh ProgramSending v sc e s = λ q. refl
  next_fresh ProgramWaiting v sc e s = absurd (unlike e)
  next_fresh Closing v sc e s = λ q. refl
  next_fresh Verifying v sc e s =
      if_ind Fresh (eqb (carried l.part.word v) _) _ _ (λ a. if_ind Fresh (ltb l.place (length w - 1)) _ _ (λ b q. refl) (λ b q. refl)) (λ a q. refl)
  next_fresh (Ended n) v sc e s = λ q. absurd (unlike (sym q ∙ ap is_polling (sym s)))

pub afresh : (w : List ℕ) (h : Hand) (v : ℕ) → Takes w h → is_polling h.loader.stage ≡ false → is_polling (fed w h v).loader.stage ≡ true → (fed w h v).loader.polls ≡ 0
afresh w h v t e =
    subst (λ (x : Loader). is_polling x.stage ≡ true → x.polls ≡ 0) (sym (fed_loader w h v t))
    (next_fresh h.loader w h.loader.stage v (store_of h.loader v w h.scratch) e refl)

-- ---- a poll without SR.7
polls_on : (l : Loader) (w sc : List ℕ) (v : ℕ) (stage : Stage) → is_polling stage ≡ true → is_ready (status_in v) ≡ false
    → (next_in stage l v w (store_in stage l.part l.place v w sc) ≡ poll_more l stage) × (store_in stage l.part l.place v w sc ≡ sc)
unfolding erase_polled program_polled erased_well programmed_well
polls_on l w sc v Clearing e r = absurd (unlike (sym e))
polls_on l w sc v Opening e r = absurd (unlike (sym e))
polls_on l w sc v Reading e r = absurd (unlike (sym e))
polls_on l w sc v EraseAsking e r = absurd (unlike (sym e))
polls_on l w sc v EraseConfirming e r = absurd (unlike (sym e))
polls_on l w sc v EraseWaiting e r = (if_false (is_ready (status_in v)) _ _ r, simp r)
polls_on l w sc v ProgramAsking e r = absurd (unlike (sym e))
polls_on l w sc v ProgramSending e r = absurd (unlike (sym e))
polls_on l w sc v ProgramWaiting e r = (if_false (is_ready (status_in v)) _ _ r, simp r)
polls_on l w sc v Closing e r = absurd (unlike (sym e))
polls_on l w sc v Verifying e r = absurd (unlike (sym e))
polls_on l w sc v (Ended n) e r = absurd (unlike (sym e))

module _ (w : List ℕ) (h : Hand) (v : ℕ) (vs : List ℕ) (t : Takes w h) (p : is_polling h.loader.stage ≡ true) (never : never_ready (v ∷ vs) ≡ true) where
  ready : is_ready (status_in v) ≡ false
  ready = not-true (is_ready (status_in v)) (and_left (not (is_ready (status_in v))) (never_ready vs) never)

  rest : never_ready vs ≡ true
  rest = and_right (not (is_ready (status_in v))) (never_ready vs) never

  one_loader : (fed w h v).loader ≡ poll_more h.loader h.loader.stage
  one_loader = fed_loader w h v t ∙ (polls_on h.loader w h.scratch v h.loader.stage p ready).0

  one_scratch : (fed w h v).scratch ≡ h.scratch
  one_scratch = fed_scratch w h v t ∙ (polls_on h.loader w h.scratch v h.loader.stage p ready).1

  waits_on : h.loader.polls < 65534 → ((fed w h v).loader.stage ≡ h.loader.stage) × ((fed w h v).loader.polls ≡ h.loader.polls + 1)
  unfolding poll_more
  waits_on few =
      let e = one_loader ∙ if_false (leb 65534 h.loader.polls) _ _ (lt-leb 65534 h.loader.polls few) in
      (ap (λ (x : Loader). x.stage) e, ap (λ (x : Loader). x.polls) e)

  gives_up_now : 65534 ≤ h.loader.polls → EndedBy 20 (fed w h v)
  unfolding poll_more
  gives_up_now many = ap (λ (x : Loader). x.stage) (one_loader ∙ if_true (leb 65534 h.loader.polls) _ _ (le-leb 65534 h.loader.polls many))

-- ---- any number of them
waits_from : (w vs : List ℕ) (h : Hand) → Takes w h → is_polling h.loader.stage ≡ true → never_ready vs ≡ true → h.loader.polls + length vs < 65535
    → ((fed_all w h vs).loader.stage ≡ h.loader.stage) × ((fed_all w h vs).loader.polls ≡ h.loader.polls + length vs) × ((fed_all w h vs).scratch ≡ h.scratch)
waits_from w [] h t p never few = (refl, (let z : h.loader.polls ≡ h.loader.polls + 0 = omega arith in z), refl)
waits_from w (v ∷ vs) h t p never few =
    let o = waits_on w h v vs t p never (let z : h.loader.polls < 65534 = omega arith in z) in
    let q = o.1 in
    let m = waits_from w vs (fed w h v) (takes_again w h v t) (ap is_polling o.0 ∙ p) (rest w h v vs t p never) (let z : (fed w h v).loader.polls + length vs < 65535 = omega arith in z) in
    let k = m.1 in
    (m.0 ∙ o.0, (let z : (fed_all w (fed w h v) vs).loader.polls ≡ h.loader.polls + suc (length vs) = omega arith in z), m.2 ∙ one_scratch w h v vs t p never)

gives_from : (w vs : List ℕ) (h : Hand) → Takes w h → is_polling h.loader.stage ≡ true → never_ready vs ≡ true → h.loader.polls + length vs ≡ 65535
    → h.loader.polls < 65535 → EndedBy 20 (fed_all w h vs) × ((fed_all w h vs).scratch ≡ h.scratch)
gives_from w [] h t p never all few = absurd (omega arith)
gives_from w (v ∷ []) h t p never all few = (gives_up_now w h v [] t p never (let z : 65534 ≤ h.loader.polls = omega arith in z), one_scratch w h v [] t p never)
gives_from w (v ∷ u ∷ vs) h t p never all few =
    let o = waits_on w h v (u ∷ vs) t p never (let z : h.loader.polls < 65534 = omega arith in z) in
    let q = o.1 in
    let m = gives_from w (u ∷ vs) (fed w h v) (takes_again w h v t) (ap is_polling o.0 ∙ p) (rest w h v (u ∷ vs) t p never)
    (let z : (fed w h v).loader.polls + suc (length vs) ≡ 65535 = omega arith in z) (let z : (fed w h v).loader.polls < 65535 = omega arith in z) in
    (m.0, m.1 ∙ one_scratch w h v (u ∷ vs) t p never)

pub waits : (w : List ℕ) (h : Hand) (vs : List ℕ) → Takes w h → is_polling h.loader.stage ≡ true → h.loader.polls ≡ 0 → never_ready vs ≡ true → length vs < 65535
    → ((fed_all w h vs).loader.stage ≡ h.loader.stage) × ((fed_all w h vs).loader.polls ≡ length vs) × ((fed_all w h vs).scratch ≡ h.scratch)
waits w h vs t p none never few =
    let m = waits_from w vs h t p never (let z : h.loader.polls + length vs < 65535 = omega arith in z) in
    let k = m.1 in
    (m.0, (let z : (fed_all w h vs).loader.polls ≡ length vs = omega arith in z), m.2)

pub gives_up : (w : List ℕ) (h : Hand) (vs : List ℕ) → Takes w h → is_polling h.loader.stage ≡ true → h.loader.polls ≡ 0 → never_ready vs ≡ true → length vs ≡ 65535
    → EndedBy 20 (fed_all w h vs) × ((fed_all w h vs).scratch ≡ h.scratch)
gives_up w h vs t p none never all = gives_from w vs h t p never (let z : h.loader.polls + length vs ≡ 65535 = omega arith in z) (let z : h.loader.polls < 65535 = omega arith in z)
