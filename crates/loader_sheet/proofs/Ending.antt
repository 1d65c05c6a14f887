-- Scratch at each end: as the polls found it, as wanted, or as wanted below the place that is told.
use mathlib.Core.Path.{◌≡◌, refl, sym, ap, subst, ◌∙◌}
use mathlib.Core.Bool.{Bool, true, false}
use mathlib.Core.List.{List, [], ◌∷◌}
use mathlib.Core.Logic.{◌⊎◌, inl, inr}
use Prim.Native.Nat.{ℕ, zero, suc, ◌+◌, ◌-◌, ◌≤◌, ◌<◌}
use native.Mathlib.Omega.{arith}
use lib.ListN.{length, get_or, set, replicate, length-set}
use lib.Seq.{get_or-set_same, get_or-set_other, ext_get_or}
use lib.Dec.{eqb, ltb, leb}
use borrow.Author.Tests.{eqb-true, eqb-false, ltb-true, ltb-false, lt-ltb}
use Rattle.std.specs.Prelude.{if◌then◌else◌}
use Rattle.common.proofs.Choice.{if_ind, unlike}
use Rattle.device.specs.declared.Part.{Part}
use Rattle.units.specs.Units.{carried}
use Rattle.model_types.specs.Cells.{ones}
use Rattle.model_types.specs.declared.Pins.{Pins}
use Rattle.loader.specs.declared.Stage.{Stage}
use Rattle.loader.specs.declared.Stage.TheVariants.{Clearing, Opening, Reading, EraseAsking, EraseConfirming, EraseWaiting, ProgramAsking, ProgramSending, ProgramWaiting, Closing, Verifying, Ended}
use Rattle.loader.specs.declared.Loader.{Loader}
use Rattle.loader.specs.Stages.{end_by}
use Rattle.loader_walk.specs.Walks.{next_diff, diff_from, rises_in}
use Rattle.loader_moves.specs.Inner.{past}
use Rattle.loader.specs.Statuses.{status_in, is_ready, erase_end, program_end}
use Rattle.loader_moves.specs.Moves.{loaded_stage, moved_to, ended_by, onward, after_reads, after_read, poll_more, erase_polled, program_polled, verify_more, next_in}
use Rattle.loader_stores.specs.Stores.{erased_well, programmed_well, store_in, store_of}
use Rattle.loader_steps.specs.Front.{start_number}
use Rattle.loader_steps.proofs.StartAndStep.{taken, first_taken, store_length}
use Rattle.loader_steps.proofs.Lending.{both_lengths}
use Rattle.loader_sheet.specs.Hand.{Hand, start_hand, fed, fed_all, Takes, EndedBy, is_first, WantedTo}
use Rattle.loader_sheet.proofs.Polls.{fed_loader, fed_scratch, onward_calm, erase_numbers, program_numbers}
use Rattle.loader_sheet.proofs.Waiting.{takes_again}

-- ---- an end by 20 to 24 leaves scratch
module _ (l : Loader) (w : List ℕ) (v n : ℕ) (low : 20 ≤ n) (high : n ≤ 24) where
  abbrev Not : Loader → Type 0
  Not x = x.stage ≡ Ended n → ⊥

  onward_not : (i : ℕ) (sc : List ℕ) → Not (onward l i w sc)
  onward_not i sc q = let z = onward_calm l i w sc n (omega arith) q in omega arith

  number_is : {m : ℕ} → Ended m ≡ Ended n → m ≡ n
  number_is q = ap end_by q

  fault_in : (stage : Stage) (sc : List ℕ) → (next_in stage l v w (store_in stage l.part l.place v w sc)).stage ≡ Ended n → store_in stage l.part l.place v w sc ≡ sc
  unfolding after_read after_reads verify_more erase_polled program_polled erased_well programmed_well
  fault_in Clearing sc q = refl
  fault_in Opening sc q = refl
  fault_in Reading sc q =
      let s : List ℕ = set sc l.place (carried l.part.word v) in
      absurd
      (if_ind Not (ltb l.place (length w - 1)) _ _ (λ a p. let z : ◌≡◌ {A = ℕ} 255 n = ap end_by p in omega arith)
      (λ a. if_ind Not (rises_in w s) _ _ (λ b p. let z : ◌≡◌ {A = ℕ} 255 n = ap end_by p in omega arith) (λ b. onward_not 0 s)) q)
  fault_in EraseAsking sc q = refl
  fault_in EraseConfirming sc q = refl
  fault_in EraseWaiting sc q = go (is_ready (status_in v)) (eqb (erase_end (status_in v)) 0) refl refl q
    where
      go : (a b : Bool) → is_ready (status_in v) ≡ a → eqb (erase_end (status_in v)) 0 ≡ b
          → (next_in EraseWaiting l v w (store_in EraseWaiting l.part l.place v w sc)).stage ≡ Ended n → store_in EraseWaiting l.part l.place v w sc ≡ sc
      go true true e f p = absurd (onward_not 0 (replicate (length sc) (ones l.part)) (simp (e, f) at p))
      go true false e f p = simp (e, f)
      go false b e f p = simp e
  fault_in ProgramAsking sc q = refl
  fault_in ProgramSending sc q = refl
  fault_in ProgramWaiting sc q = go (is_ready (status_in v)) (eqb (program_end (status_in v)) 0) refl refl q
    where
      go : (a b : Bool) → is_ready (status_in v) ≡ a → eqb (program_end (status_in v)) 0 ≡ b
          → (next_in ProgramWaiting l v w (store_in ProgramWaiting l.part l.place v w sc)).stage ≡ Ended n → store_in ProgramWaiting l.part l.place v w sc ≡ sc
      go true true e f p = absurd (onward_not (past l.place (length w)) (set sc l.place (get_or w l.place 0)) (simp (e, f) at p))
      go true false e f p = simp (e, f)
      go false b e f p = simp e
  fault_in Closing sc q = refl
  fault_in Verifying sc q =
      absurd
      (if_ind Not (eqb (carried l.part.word v) (get_or w l.place 0)) _ _
      (λ a. if_ind Not (ltb l.place (length w - 1)) _ _ (λ b p. let z : ◌≡◌ {A = ℕ} 255 n = ap end_by p in omega arith) (λ b p. let z : ◌≡◌ {A = ℕ} 0 n = ap end_by p in omega arith))
      (λ a p. let z : ◌≡◌ {A = ℕ} 25 n = ap end_by p in omega arith) q)
  fault_in (Ended m) sc q = refl

pub fault_leaves : (w : List ℕ) (h : Hand) (v n : ℕ) → Takes w h → 20 ≤ n → n ≤ 24 → EndedBy n (fed w h v) → (fed w h v).scratch ≡ h.scratch
fault_leaves w h v n t low high q =
    fed_scratch w h v t ∙ fault_in h.loader w v n low high h.loader.stage h.scratch (sym (ap (λ (x : Loader). x.stage) (fed_loader w h v t)) ∙ q)

-- ---- what is known of scratch at each stage
abbrev good_at : Stage → ℕ → List ℕ → List ℕ → Type 0
good_at Clearing p w sc = sc ≡ sc
good_at Opening p w sc = sc ≡ sc
good_at Reading p w sc = sc ≡ sc
good_at EraseAsking p w sc = sc ≡ sc
good_at EraseConfirming p w sc = sc ≡ sc
good_at EraseWaiting p w sc = sc ≡ sc
good_at ProgramAsking p w sc = WantedTo p w sc
good_at ProgramSending p w sc = WantedTo p w sc
good_at ProgramWaiting p w sc = WantedTo p w sc
good_at Closing p w sc = sc ≡ sc
good_at Verifying p w sc = WantedTo p w sc
good_at (Ended n) p w sc = (n ≡ 0 → sc ≡ w) × (n ≡ 25 → WantedTo p w sc × (get_or sc p 0 ≡ get_or w p 0 → ⊥))

abbrev Good : List ℕ → List ℕ → Loader → Type 0
Good w sc l = good_at l.stage l.place w sc

-- units that are walked past are as wanted
walked : (k i : ℕ) (w sc : List ℕ) (j : ℕ) → i ≤ j → j < next_diff k i w sc → get_or sc j 0 ≡ get_or w j 0
walked zero i w sc j a = λ b. absurd (omega arith)
walked (suc k) i w sc j a = go (eqb (get_or sc i 0) (get_or w i 0)) refl (walked k (i + 1) w sc j)
  where
    go : (x : Bool) → eqb (get_or sc i 0) (get_or w i 0) ≡ x → (i + 1 ≤ j → j < next_diff k (i + 1) w sc → get_or sc j 0 ≡ get_or w j 0)
        → j < (if x then next_diff k (i + 1) w sc else i) → get_or sc j 0 ≡ get_or w j 0
    go true e rest b = last (eqb j i) refl
      where
        last : (y : Bool) → eqb j i ≡ y → get_or sc j 0 ≡ get_or w j 0
        last true q = let z = eqb-true j i q in rw z (eqb-true (get_or sc i 0) (get_or w i 0) e)
        last false q = let z = eqb-false j i q in rest (omega arith) b
    go false e rest b = absurd (omega arith)

module _ (w : List ℕ) where
  -- on from a place below which all is as wanted
  onward_good : (l : Loader) (i : ℕ) (sc : List ℕ) → length sc ≡ length w → WantedTo i w sc → Good w sc (onward l i w sc)
  unfolding onward diff_from
  onward_good l i sc long below = go (ltb (diff_from i w sc) (length w)) refl
    where
      up_to : WantedTo (diff_from i w sc) w sc
      up_to j b = side (ltb j i) refl
        where
          side : (x : Bool) → ltb j i ≡ x → get_or sc j 0 ≡ get_or w j 0
          side true e = below j (ltb-true j i e)
          side false e = walked (length w - i) i w sc j (ltb-false j i e) b

      ends : length w ≤ diff_from i w sc → (b : Bool) → good_at (loaded_stage b) 0 w sc
      ends past_all true = refl
      ends past_all false = (λ z. ext_get_or 0 sc w long (λ j b. up_to j (omega arith)), λ z. absurd (omega arith))

      go : (x : Bool) → ltb (diff_from i w sc) (length w) ≡ x
          → Good w sc (if ltb (diff_from i w sc) (length w) then moved_to l ProgramAsking (diff_from i w sc) 0 else moved_to l (loaded_stage l.verify) 0 0)
      go true e = rw e up_to
      go false e = rw e (ends (ltb-false (diff_from i w sc) (length w) e) l.verify)

  -- a unit that is put where it is wanted
  set_below : (sc : List ℕ) (p x : ℕ) → WantedTo p w sc → WantedTo p w (set sc p x)
  set_below sc p x below j b = get_or-set_other sc p j x 0 (λ e. omega arith) ∙ below j b

  set_to : (sc : List ℕ) (p x : ℕ) → p < length sc → x ≡ get_or w p 0 → WantedTo p w sc → WantedTo (p + 1) w (set sc p x)
  set_to sc p x inside e below j b = go (eqb j p) refl
    where
      go : (y : Bool) → eqb j p ≡ y → get_or (set sc p x) j 0 ≡ get_or w j 0
      go true q = let z = eqb-true j p q in rw z (get_or-set_same sc p x 0 inside ∙ e)
      go false q = let z = eqb-false j p q in set_below sc p x below j (omega arith)

  module _ (l : Loader) (v : ℕ) where
    -- an end by a fault is neither good nor by 25
    fault_good : (f : ℕ) (sc : List ℕ) → (f ≡ 0 → ⊥) → (f ≡ 25 → ⊥) → Good w sc (ended_by l f)
    fault_good f sc a b = (λ z. absurd (a z), λ z. absurd (b z))

    poll_good : (stage : Stage) (sc : List ℕ) → good_at stage l.place w sc → Good w sc (poll_more l stage)
    unfolding poll_more
    poll_good stage sc g = if_ind (Good w sc) (leb 65534 l.polls) _ _ (λ e. fault_good 20 sc (λ z. omega arith) (λ z. omega arith)) (λ e. g)

    erase_good : (sc : List ℕ) → length sc ≡ length w → Good w sc (erase_polled l (status_in v) w sc)
    unfolding erase_polled
    erase_good sc long =
        if_ind (Good w sc) (is_ready (status_in v)) _ _
        (λ a. if_ind (Good w sc) (eqb (erase_end (status_in v)) 0) _ _ (λ b. onward_good l 0 sc long (λ j c. absurd (omega arith)))
        (λ b. fault_good (erase_end (status_in v)) sc (eqb-false (erase_end (status_in v)) 0 b) (no_25 (erase_numbers (status_in v)))))
        (λ a. poll_good EraseWaiting sc refl)
      where
        no_25 : {n : ℕ} → (n ≡ 0) ⊎ ((21 ≤ n) × (n ≤ 23)) → n ≡ 25 → ⊥
        no_25 (inl a) z = omega arith
        no_25 (inr a) z = let x = a.1 in omega arith

    program_good : (sc : List ℕ) → length sc ≡ length w → l.place < length w → WantedTo l.place w sc
        → (a b : Bool) → is_ready (status_in v) ≡ a → eqb (program_end (status_in v)) 0 ≡ b
        → Good w (store_in ProgramWaiting l.part l.place v w sc) (program_polled l (status_in v) w (store_in ProgramWaiting l.part l.place v w sc))
    unfolding program_polled programmed_well past
    program_good sc long inside below true true e f =
        simp (e, f, lt-ltb l.place (length w) inside)
        (onward_good l (l.place + 1) (set sc l.place (get_or w l.place 0)) (length-set sc l.place (get_or w l.place 0) ∙ long)
        (set_to sc l.place (get_or w l.place 0) (omega arith) refl below))
    program_good sc long inside below true false e f =
        simp (e, f) (fault_good (program_end (status_in v)) sc (eqb-false (program_end (status_in v)) 0 f) (no_25 (program_numbers (status_in v))))
      where
        no_25 : {n : ℕ} → (n ≡ 0) ⊎ ((21 ≤ n) × (n ≤ 24) × (n ≡ 23 → ⊥)) → n ≡ 25 → ⊥
        no_25 (inl a) z = omega arith
        no_25 (inr a) z = let x = a.1 in omega arith
    program_good sc long inside below false b e f = simp e (poll_good ProgramWaiting sc below)

    verify_good : (sc : List ℕ) → length sc ≡ length w → l.place < length w → WantedTo l.place w sc
        → Good w (set sc l.place (carried l.part.word v)) (verify_more l v w)
    unfolding verify_more
    verify_good sc long inside below =
        if_ind G (eqb x (get_or w p 0)) _ _
        (λ a. if_ind G (ltb p (length w - 1)) _ _ (λ b. next (eqb-true x (get_or w p 0) a)) (λ b. last (eqb-true x (get_or w p 0) a) (ltb-false p (length w - 1) b)))
        (λ a. (λ z. absurd (omega arith), λ z. (set_below sc p x below, λ q. eqb-false x (get_or w p 0) a (sym (get_or-set_same sc p x 0 (omega arith)) ∙ q))))
      where
        p : ℕ
        p = l.place

        x : ℕ
        x = carried l.part.word v

        G : Loader → Type 0
        G r = Good w (set sc p x) r

        next : x ≡ get_or w p 0 → WantedTo (p + 1) w (set sc p x)
        next e = set_to sc p x (omega arith) e below

        last : x ≡ get_or w p 0 → length w - 1 ≤ p → Good w (set sc p x) (ended_by l 0)
        last e h = (λ z. ext_get_or 0 (set sc p x) w (length-set sc p x ∙ long) (λ j b. next e j (omega (arith, length-set sc p x))), λ z. absurd (omega arith))

    next_good : (stage : Stage) (sc : List ℕ) → length sc ≡ length w → l.place < length w → stage ≡ l.stage → good_at stage l.place w sc
        → Good w (store_in stage l.part l.place v w sc) (next_in stage l v w (store_in stage l.part l.place v w sc))
    unfolding after_read after_reads
    next_good Clearing sc long inside s g = refl
    next_good Opening sc long inside s g = refl
    next_good Reading sc long inside s g =
        let y : List ℕ = set sc l.place (carried l.part.word v) in
        if_ind (Good w y) (ltb l.place (length w - 1)) _ _ (λ a. refl)
        (λ a. if_ind (Good w y) (rises_in w y) _ _ (λ b. refl)
        (λ b. onward_good l 0 y (length-set sc l.place (carried l.part.word v) ∙ long) (λ j c. absurd (omega arith))))
    next_good EraseAsking sc long inside s g = refl
    next_good EraseConfirming sc long inside s g = refl
    next_good EraseWaiting sc long inside s g =
        erase_good (store_in EraseWaiting l.part l.place v w sc) (store_length EraseWaiting l.part l.place v w sc ∙ long)
    next_good ProgramAsking sc long inside s g = g
    next_good ProgramSending sc long inside s g = g
    next_good ProgramWaiting sc long inside s g = program_good sc long inside g (is_ready (status_in v)) (eqb (program_end (status_in v)) 0) refl refl
    next_good Closing sc long inside s g = λ j b. absurd (omega arith)
    next_good Verifying sc long inside s g = verify_good sc long inside g
    next_good (Ended n) sc long inside s g = subst (λ (x : Stage). good_at x l.place w sc) s g

  -- ---- any values
  fed_good : (h : Hand) (v : ℕ) → Takes w h → Good w h.scratch h.loader → Good w (fed w h v).scratch (fed w h v).loader
  fed_good h v t g =
      let k = taken h.loader (length w) (length h.scratch) t in
      let b = both_lengths h.loader.part h.loader.block (length w) (length h.scratch) k.lengths in
      let step = next_good h.loader v h.loader.stage h.scratch (b.1 ∙ sym b.0) k.place refl g in
      let on-loader = subst (λ (x : Loader). Good w (store_of h.loader v w h.scratch) x) (sym (fed_loader w h v t)) step in
      subst (λ (x : List ℕ). Good w x (fed w h v).loader) (sym (fed_scratch w h v t)) on-loader

  all_good : (vs : List ℕ) (h : Hand) → Takes w h → Good w h.scratch h.loader → Good w (fed_all w h vs).scratch (fed_all w h vs).loader
  all_good [] h t g = g
  all_good (v ∷ vs) h t g = all_good vs (fed w h v) (takes_again w h v t) (fed_good h v t g)

  first_good : (stage : Stage) (sc : List ℕ) → is_first stage ≡ true → good_at stage 0 w sc
  first_good Clearing sc e = refl
  first_good Opening sc e = refl
  first_good Reading sc e = refl
  first_good EraseAsking sc e = refl
  first_good EraseConfirming sc e = refl
  first_good EraseWaiting sc e = refl
  first_good ProgramAsking sc e = absurd (unlike (sym e))
  first_good ProgramSending sc e = absurd (unlike (sym e))
  first_good ProgramWaiting sc e = absurd (unlike (sym e))
  first_good Closing sc e = refl
  first_good Verifying sc e = absurd (unlike (sym e))
  first_good (Ended n) sc e = absurd (unlike (sym e))

  module _ (stage : Stage) (verify : Bool) (part : Part) (p : Pins) (k : ℕ) (sc vs : List ℕ) (first : is_first stage ≡ true)
      (start : start_number part p k (length w) (length sc) ≡ 0) where
    abbrev e : Hand
    e = fed_all w (start_hand stage verify part p k sc) vs

    good : Good w e.scratch e.loader
    good = all_good vs (start_hand stage verify part p k sc) (first_taken stage verify part p k (length w) (length sc) start) (first_good stage sc first)

    at_end : (n : ℕ) → EndedBy n e → good_at (Ended n) e.loader.place w e.scratch
    at_end n q = subst (λ (x : Stage). good_at x e.loader.place w e.scratch) q good

    pub well_ends : EndedBy 0 e → e.scratch ≡ w
    well_ends q = (at_end 0 q).0 refl

    pub apart_ends : EndedBy 25 e → WantedTo e.loader.place w e.scratch × (get_or e.scratch e.loader.place 0 ≡ get_or w e.loader.place 0 → ⊥)
    apart_ends q = (at_end 25 q).1 refl
