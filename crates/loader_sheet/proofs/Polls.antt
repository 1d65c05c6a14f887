-- One poll: which status ends the load, and what it leaves of scratch.
use mathlib.Core.Path.{◌≡◌, refl, sym, ap, ◌∙◌}
use mathlib.Core.Bool.{Bool, true, false, not, ◌&&◌}
use mathlib.Core.List.{List}
use mathlib.Core.Logic.{◌↔◌, ◌⊎◌, inl, inr}
use Prim.Native.Nat.{ℕ, ◌≤◌, ◌<◌}
use native.Mathlib.Omega.{arith}
use lib.ListN.{length, get_or, set, replicate}
use lib.Bits.{bit_and}
use lib.Dec.{eqb, ltb, leb}
use borrow.Author.Tests.{eqb-true, eq-eqb, ne_eqb, leb-true, le-leb, not-true}
use Rattle.std.specs.Prelude.{if◌then◌else◌}
use Rattle.common.proofs.Choice.{if_ind, if_true, if_false, and_left, and_right, unlike}
use Rattle.model_types.specs.Cells.{ones}
use Rattle.model.proofs.Status.{all_below, all_below_lem}
use Rattle.loader.specs.declared.Stage.{Stage}
use Rattle.loader.specs.declared.Stage.TheVariants.{EraseWaiting, ProgramAsking, ProgramWaiting, Closing, Ended}
use Rattle.loader.specs.declared.Loader.{Loader}
use Rattle.loader.specs.Stages.{end_by}
use Rattle.loader_walk.specs.Walks.{diff_from}
use Rattle.loader_moves.specs.Inner.{past}
use Rattle.loader.specs.Statuses.{status_in, is_ready, sr3, sr4, sr5, both_errors, erase_end, program_end}
use Rattle.loader_moves.specs.Moves.{loaded_stage, ended_by, onward, poll_more, erase_polled, program_polled, next_in, next_of}
use Rattle.loader_stores.specs.Stores.{erased_well, programmed_well, store_in, store_of}
use Rattle.loader_steps.proofs.StartAndStep.{step_on, taken}
use Rattle.loader_sheet.specs.Hand.{Hand, fed, Takes, EndedBy}
use Rattle.loader_sheet.specs.Sentences.{ErasePoll, ProgramPoll}

-- ---- a step that is taken
pub fed_loader : (w : List ℕ) (h : Hand) (v : ℕ) → Takes w h → (fed w h v).loader ≡ next_of h.loader v w (store_of h.loader v w h.scratch)
fed_loader w h v t = ap (λ (g : _). g.loader) (step_on h.loader v w h.scratch t).0

pub fed_scratch : (w : List ℕ) (h : Hand) (v : ℕ) → Takes w h → (fed w h v).scratch ≡ store_of h.loader v w h.scratch
fed_scratch w h v t = (step_on h.loader v w h.scratch t).1

-- ---- what an end is by its number
ended_number : {stage : Stage} (n : ℕ) → stage ≡ Ended n → end_by stage ≡ n
ended_number n e = ap end_by e

-- going on to a program, to the verify or to a load's good end is no end by another number
pub onward_calm : (l : Loader) (i : ℕ) (w sc : List ℕ) (n : ℕ) → n < 255 → (onward l i w sc).stage ≡ Ended n → n ≡ 0
unfolding onward
onward_calm l i w sc n h =
    if_ind (λ (r : Loader). r.stage ≡ Ended n → n ≡ 0) (ltb (diff_from i w sc) (length w)) _ _
    (λ e q. absurd (let z : ◌≡◌ {A = ℕ} 255 n = ended_number {stage = ProgramAsking} n q in omega arith))
    (λ e q. go l.verify q)
  where
    go : (b : Bool) → loaded_stage b ≡ Ended n → n ≡ 0
    go true q = absurd (let z : ◌≡◌ {A = ℕ} 255 n = ended_number {stage = Closing} n q in omega arith)
    go false q = let z : ◌≡◌ {A = ℕ} 0 n = ended_number {stage = Ended 0} n q in sym z

-- ---- a poll, of an erase and of a program alike: f is the number of its fault, o where a good one leads
module _ (l o : Loader) (stage : Stage) (b f : ℕ) (calm : (n : ℕ) → n < 255 → o.stage ≡ Ended n → n ≡ 0) (waiting : end_by stage ≡ 255) where
  abbrev r : Loader
  r = if is_ready b then (if eqb f 0 then o else ended_by l f) else poll_more l stage

  -- an end that is neither good nor by 20 is that of the fault
  fault_end : (n : ℕ) → 20 < n → n < 255 → (r.stage ≡ Ended n) ↔ ((is_ready b && eqb f n) ≡ true)
  unfolding poll_more
  fault_end n low high = (there (is_ready b) refl, back)
    where
      P : Loader → Type 0
      P x = x.stage ≡ Ended n → (is_ready b && eqb f n) ≡ true

      there : (x : Bool) → is_ready b ≡ x → P r
      there x e =
          if_ind P (is_ready b) _ _
          (λ y. if_ind P (eqb f 0) _ _
          (λ z q. absurd (let k = calm n high q in omega arith))
          (λ z q. let k : f ≡ n = ended_number {stage = Ended f} n q in rw (y, eq-eqb f n k) refl))
          (λ y. if_ind P (leb 65534 l.polls) _ _
          (λ z q. absurd (let k : ◌≡◌ {A = ℕ} 20 n = ended_number {stage = Ended 20} n q in omega arith))
          (λ z q. absurd (let k : end_by stage ≡ n = ended_number {stage = stage} n q in omega arith)))

      back : (is_ready b && eqb f n) ≡ true → r.stage ≡ Ended n
      back e =
          let k : f ≡ n = eqb-true f n (and_right (is_ready b) (eqb f n) e) in
          ap (λ (x : Loader). x.stage)
          (if_true (is_ready b) _ (poll_more l stage) (and_left (is_ready b) (eqb f n) e) ∙ if_false (eqb f 0) o (ended_by l f) (ne_eqb f 0 (λ z. omega arith)))
          ∙ ap Ended k

  -- 20 is that of the last poll without SR.7
  twenty_end : (f ≡ 20 → ⊥) → l.polls ≤ 65534 → (r.stage ≡ Ended 20) ↔ ((is_ready b ≡ false) × (l.polls ≡ 65534))
  unfolding poll_more
  twenty_end other most = (there, back)
    where
      P : Loader → Type 0
      P x = x.stage ≡ Ended 20 → (is_ready b ≡ false) × (l.polls ≡ 65534)

      there : P r
      there =
          if_ind P (is_ready b) _ _
          (λ y. if_ind P (eqb f 0) _ _
          (λ z q. absurd (let k = calm 20 (omega arith) q in omega arith))
          (λ z q. absurd (other (ended_number {stage = Ended f} 20 q))))
          (λ y. if_ind P (leb 65534 l.polls) _ _
          (λ z q. (y, let k = leb-true 65534 l.polls z in omega arith))
          (λ z q. absurd (let k : end_by stage ≡ 20 = ended_number {stage = stage} 20 q in omega arith)))

      back : (is_ready b ≡ false) × (l.polls ≡ 65534) → r.stage ≡ Ended 20
      back h =
          let k = h.1 in
          ap (λ (x : Loader). x.stage)
          (if_false (is_ready b) (if eqb f 0 then o else ended_by l f) _ h.0 ∙ if_true (leb 65534 l.polls) _ _ (le-leb 65534 l.polls (omega arith)))

-- ---- statuses by their bits: a test over all of them
same_tests : (f g : ℕ → Bool) → all_below (λ x. if f x then g x else not (g x)) 256 ≡ true → (x : ℕ) → x < 256 → f x ≡ g x
same_tests f g t x h = go (f x) (g x) (all_below_lem (λ y. if f y then g y else not (g y)) 256 t x h)
  where
    go : (a b : Bool) → (if a then b else not b) ≡ true → a ≡ b
    go true b e = sym e
    go false true e = absurd (unlike (sym e))
    go false false e = refl

-- .. of an operation's end
by_bits : (end : ℕ → ℕ) (n mask v : ℕ)
    → all_below (λ x. if is_ready x && eqb (end x) n then eqb (bit_and x mask) v else not (eqb (bit_and x mask) v)) 256 ≡ true → (x : ℕ) → x < 256
    → (is_ready x && eqb (end x) n) ≡ eqb (bit_and x mask) v
by_bits end n mask v = same_tests (λ x. is_ready x && eqb (end x) n) (λ x. eqb (bit_and x mask) v)

-- a test of masked bits as an equation
as_equation : {A : Type 0} {t : Bool} (x y : ℕ) → A ↔ (t ≡ true) → t ≡ eqb x y → A ↔ (x ≡ y)
as_equation x y a e = (λ p. eqb-true x y (sym e ∙ a.0 p), λ q. a.1 (e ∙ eq-eqb x y q))

-- a ready status is the end n of an operation just where its bits under a mask are these
abbrev Bits : (ℕ → ℕ) → ℕ → ℕ → ℕ → ℕ → Type 0
Bits end n mask v x = (is_ready x && eqb (end x) n) ≡ eqb (bit_and x mask) v

erase_bits : (x : ℕ) → x < 256 → Bits erase_end 21 0x88 0x88 x × Bits erase_end 22 0xB8 0xB0 x × Bits erase_end 23 0xB8 0xA0 x
unfolding erase_end both_errors
erase_bits x h = (by_bits erase_end 21 0x88 0x88 refl x h, by_bits erase_end 22 0xB8 0xB0 refl x h, by_bits erase_end 23 0xB8 0xA0 refl x h)

program_bits : (x : ℕ) → x < 256 → Bits program_end 21 0x88 0x88 x × Bits program_end 22 0xB8 0xB0 x × Bits program_end 24 0xB8 0x90 x
unfolding program_end both_errors
program_bits x h = (by_bits program_end 21 0x88 0x88 refl x h, by_bits program_end 22 0xB8 0xB0 refl x h, by_bits program_end 24 0xB8 0x90 refl x h)

not_ready : (x : ℕ) → x < 256 → not (is_ready x) ≡ eqb (bit_and x 0x80) 0
not_ready = same_tests (λ x. not (is_ready x)) (λ x. eqb (bit_and x 0x80) 0) refl

erase_well : (x : ℕ) → x < 256 → erased_well x ≡ eqb (bit_and x 0xA8) 0x80
unfolding erased_well erase_end both_errors
erase_well = same_tests erased_well (λ x. eqb (bit_and x 0xA8) 0x80) refl

program_well : (x : ℕ) → x < 256 → programmed_well x ≡ eqb (bit_and x 0x98) 0x80
unfolding programmed_well program_end both_errors
program_well = same_tests programmed_well (λ x. eqb (bit_and x 0x98) 0x80) refl

-- which numbers a fault has
pub erase_numbers : (x : ℕ) → (erase_end x ≡ 0) ⊎ ((21 ≤ erase_end x) × (erase_end x ≤ 23))
unfolding erase_end
erase_numbers x =
    if_ind P (sr3 x) _ _ (λ a. inr (omega arith, omega arith))
    (λ a. if_ind P (both_errors x) _ _ (λ b. inr (omega arith, omega arith)) (λ b. if_ind P (sr5 x) 23 0 (λ c. inr (omega arith, omega arith)) (λ c. inl refl)))
  where
    P : ℕ → Type 0
    P n = (n ≡ 0) ⊎ ((21 ≤ n) × (n ≤ 23))

pub program_numbers : (x : ℕ) → (program_end x ≡ 0) ⊎ ((21 ≤ program_end x) × (program_end x ≤ 24) × (program_end x ≡ 23 → ⊥))
unfolding program_end
program_numbers x =
    if_ind P (sr3 x) _ _ (λ a. inr (omega arith, omega arith, λ z. omega arith))
    (λ a. if_ind P (both_errors x) _ _ (λ b. inr (omega arith, omega arith, λ z. omega arith))
    (λ b. if_ind P (sr4 x) 24 0 (λ c. inr (omega arith, omega arith, λ z. omega arith)) (λ c. inl refl)))
  where
    P : ℕ → Type 0
    P n = (n ≡ 0) ⊎ ((21 ≤ n) × (n ≤ 24) × (n ≡ 23 → ⊥))

-- ---- a poll of the erase
status_small : (v : ℕ) → status_in v < 256
status_small v = omega arith

module _ (w : List ℕ) (h : Hand) (v : ℕ) (t : Takes w h) where
  abbrev l : Loader
  l = h.loader

  abbrev sr : ℕ
  sr = status_in v

  abbrev sc : List ℕ
  sc = store_of l v w h.scratch

  most : l.polls ≤ 65534
  most = (taken l (length w) (length h.scratch) t).polls

  -- what is said of the record after the poll is said of the record after the step
  carried_to : (m : Loader) → (fed w h v).loader ≡ m → {A : Type 0} (n : ℕ) → (m.stage ≡ Ended n) ↔ A → EndedBy n (fed w h v) ↔ A
  carried_to m e n p = (λ q. p.0 (sym (ap (λ (x : Loader). x.stage) e) ∙ q), λ a. ap (λ (x : Loader). x.stage) e ∙ p.1 a)

  twenty_bits : {A : Type 0} → A ↔ ((is_ready sr ≡ false) × (l.polls ≡ 65534)) → A ↔ ((bit_and sr 0x80 ≡ 0) × (l.polls ≡ 65534))
  twenty_bits p = (
    λ a. let q = p.0 a in (eqb-true (bit_and sr 0x80) 0 (sym (not_ready sr (status_small v)) ∙ ap not q.0), q.1),
    λ q. p.1 (not-true (is_ready sr) (not_ready sr (status_small v) ∙ eq-eqb (bit_and sr 0x80) 0 q.0), q.1),
  )

  module _ (at : l.stage ≡ EraseWaiting) where
    erase_goes : (fed w h v).loader ≡ r l (onward l 0 w sc) EraseWaiting sr (erase_end sr) (onward_calm l 0 w sc) refl
    unfolding erase_polled
    erase_goes = fed_loader w h v t ∙ ap (λ (s : Stage). next_in s l v w sc) at

    erase_by : (n : ℕ) → 20 < n → n < 255 → EndedBy n (fed w h v) ↔ ((is_ready sr && eqb (erase_end sr) n) ≡ true)
    erase_by n a b = carried_to _ erase_goes n (fault_end l (onward l 0 w sc) EraseWaiting sr (erase_end sr) (onward_calm l 0 w sc) refl n a b)

    erase_scratch : (fed w h v).scratch ≡ (if erased_well sr then replicate (length h.scratch) (ones l.part) else h.scratch)
    erase_scratch = fed_scratch w h v t ∙ ap (λ (s : Stage). store_in s l.part l.place v w h.scratch) at

    pub erase_poll : ErasePoll w h v
    erase_poll = record {
      by_20 = twenty_bits (carried_to _ erase_goes 20 (twenty_end l (onward l 0 w sc) EraseWaiting sr (erase_end sr) (onward_calm l 0 w sc) refl (λ z. no_twenty (erase_numbers sr) z) most));
      by_21 = as_equation (bit_and sr 0x88) 0x88 (erase_by 21 (omega arith) (omega arith)) (erase_bits sr (status_small v)).0;
      by_22 = as_equation (bit_and sr 0xB8) 0xB0 (erase_by 22 (omega arith) (omega arith)) (erase_bits sr (status_small v)).1;
      by_23 = as_equation (bit_and sr 0xB8) 0xA0 (erase_by 23 (omega arith) (omega arith)) (erase_bits sr (status_small v)).2;
      not_24 = λ q. no_24 (erase_numbers sr) (eqb-true (erase_end sr) 24 (and_right (is_ready sr) (eqb (erase_end sr) 24) ((erase_by 24 (omega arith) (omega arith)).0 q)));
      scratch = erase_scratch ∙ ap (λ (b : Bool). if b then replicate (length h.scratch) (ones l.part) else h.scratch) (erase_well sr (status_small v));
    }
      where
        no_twenty : {n : ℕ} → (n ≡ 0) ⊎ ((21 ≤ n) × (n ≤ 23)) → n ≡ 20 → ⊥
        no_twenty (inl a) z = omega arith
        no_twenty (inr a) z = let x = a.0 in omega arith

        no_24 : {n : ℕ} → (n ≡ 0) ⊎ ((21 ≤ n) × (n ≤ 23)) → n ≡ 24 → ⊥
        no_24 (inl a) z = omega arith
        no_24 (inr a) z = let x = a.1 in omega arith

  module _ (at : l.stage ≡ ProgramWaiting) where
    abbrev on : Loader
    on = onward l (past l.place (length w)) w sc

    program_goes : (fed w h v).loader ≡ r l on ProgramWaiting sr (program_end sr) (onward_calm l (past l.place (length w)) w sc) refl
    unfolding program_polled
    program_goes = fed_loader w h v t ∙ ap (λ (s : Stage). next_in s l v w sc) at

    program_by : (n : ℕ) → 20 < n → n < 255 → EndedBy n (fed w h v) ↔ ((is_ready sr && eqb (program_end sr) n) ≡ true)
    program_by n a b = carried_to _ program_goes n (fault_end l on ProgramWaiting sr (program_end sr) (onward_calm l (past l.place (length w)) w sc) refl n a b)

    program_scratch : (fed w h v).scratch ≡ (if programmed_well sr then set h.scratch l.place (get_or w l.place 0) else h.scratch)
    program_scratch = fed_scratch w h v t ∙ ap (λ (s : Stage). store_in s l.part l.place v w h.scratch) at

    pub program_poll : ProgramPoll w h v
    program_poll = record {
      by_20 = twenty_bits (carried_to _ program_goes 20 (twenty_end l on ProgramWaiting sr (program_end sr) (onward_calm l (past l.place (length w)) w sc) refl (λ z. no_twenty (program_numbers sr) z) most));
      by_21 = as_equation (bit_and sr 0x88) 0x88 (program_by 21 (omega arith) (omega arith)) (program_bits sr (status_small v)).0;
      by_22 = as_equation (bit_and sr 0xB8) 0xB0 (program_by 22 (omega arith) (omega arith)) (program_bits sr (status_small v)).1;
      by_24 = as_equation (bit_and sr 0xB8) 0x90 (program_by 24 (omega arith) (omega arith)) (program_bits sr (status_small v)).2;
      not_23 = λ q. no_23 (program_numbers sr) (eqb-true (program_end sr) 23 (and_right (is_ready sr) (eqb (program_end sr) 23) ((program_by 23 (omega arith) (omega arith)).0 q)));
      scratch = program_scratch ∙ ap (λ (b : Bool). if b then set h.scratch l.place (get_or w l.place 0) else h.scratch) (program_well sr (status_small v));
    }
      where
        no_twenty : {n : ℕ} → (n ≡ 0) ⊎ ((21 ≤ n) × (n ≤ 24) × (n ≡ 23 → ⊥)) → n ≡ 20 → ⊥
        no_twenty (inl a) z = omega arith
        no_twenty (inr a) z = let x = a.0 in omega arith

        no_23 : {n : ℕ} → (n ≡ 0) ⊎ ((21 ≤ n) × (n ≤ 24) × (n ≡ 23 → ⊥)) → n ≡ 23 → ⊥
        no_23 (inl a) z = omega arith
        no_23 (inr a) z = a.2 z
