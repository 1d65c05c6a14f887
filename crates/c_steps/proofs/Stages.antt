-- Where each stage leads that goes on: by the number of the stage, as the rules have it.
use mathlib.Core.Path.{◌≡◌, refl, sym, ap, ◌∙◌}
use mathlib.Core.Bool.{Bool, true, false, ◌&&◌}
use mathlib.Core.List.{List}
use Prim.Native.Nat.{ℕ, zero, suc, ◌+◌, ◌-◌, ◌%◌, ◌≤◌, ◌<◌}
use native.Mathlib.Omega.{arith}
use lib.ListN.{length, get_or, set}
use lib.Seq.{get_or-set_other}
use lib.Dec.{eqb, ltb, leb}
use borrow.Author.Tests.{lt-ltb, eq-eqb, lt-leb}
use Rattle.std.specs.Prelude.{if◌then◌else◌}
use Rattle.common.proofs.Choice.{if_true, if_false}
use Rattle.units.specs.Units.{units, carried}
use Rattle.model_types.specs.declared.Kind.TheVariants.{Read, Write}
use Rattle.loader.specs.declared.Stage.{Stage}
use Rattle.loader.specs.declared.Stage.TheVariants.{Opening, Reading, EraseConfirming, EraseWaiting}
use Rattle.loader.specs.declared.Stage.TheVariants.{ProgramAsking, ProgramSending, ProgramWaiting, Verifying}
use Rattle.loader.specs.declared.Loader.{Loader}
use Rattle.loader_moves.specs.Moves.{next_in, next_of, moved_to, loaded_stage, ended_by, ended_apart, onward, poll_more, erase_polled, program_polled, after_read, after_reads, verify_more}
use Rattle.loader_moves.specs.Inner.{past}
use Rattle.loader_walk.specs.Walks.{next_diff, diff_from}
use Rattle.loader.specs.Statuses.{is_ready, status_in, both_errors, erase_end, program_end}
use Rattle.loader_stores.specs.Stores.{store_in, store_of, erased_well, erase_stored, programmed_well, program_stored}
use Rattle.c_records.specs.Records.{stage_in, no_record, polls_in, loader_in}
use Rattle.c_records.specs.declared.LoaderNumbers.{LoaderNumbers}
use Rattle.c_steps.specs.declared.Next.{Next}
use Rattle.c_steps.specs.Inner.{gives, GoesOn, GoesTo}

-- a store before a place leaves what is found from it on
kept_diff : (k i p x : ℕ) (w sc : List ℕ) → p < i → next_diff k i w (set sc p x) ≡ next_diff k i w sc
kept_diff zero i p x w sc h = refl
kept_diff (suc k) i p x w sc h =
    let g : get_or (set sc p x) i 0 ≡ get_or sc i 0 = get_or-set_other sc p i x 0 (λ (z : i ≡ p). omega (arith, h, z)) in
    let r = kept_diff k (i + 1) p x w sc (omega (arith, h)) in
    λ j. if eqb (g j) (get_or w i 0) then r j else i

past_is : (p n : ℕ) → p < n → past p n ≡ p + 1
unfolding past
past_is p n h = if_true (ltb p n) (p + 1) p (lt-ltb p n h)

-- a ready status without an error
ready_polled : (l : Loader) (w sc : List ℕ) → program_polled l 128 w sc ≡ onward l (past l.place (length w)) w sc
unfolding program_polled program_end both_errors
ready_polled l w sc = refl

ready_stored : (p : ℕ) (w sc : List ℕ) → program_stored p 128 w sc ≡ set sc p (get_or w p 0)
unfolding programmed_well program_end both_errors
ready_stored p w sc = refl

asked : (l : Loader) (i d : ℕ) (w sc : List ℕ) → diff_from i w sc ≡ d → d < length w → onward l i w sc ≡ moved_to l ProgramAsking d 0
unfolding onward
asked l i d w sc e h =
    if_true (ltb (diff_from i w sc) (length w)) (moved_to l ProgramAsking (diff_from i w sc) 0) (moved_to l (loaded_stage l.verify) 0 0) (ap (λ (x : ℕ). ltb x (length w)) e ∙ lt-ltb d (length w) h)
    ∙ ap (λ (x : ℕ). moved_to l ProgramAsking x 0) e

-- what is found behind the place that a program ended well at
found : (p : ℕ) (w sc : List ℕ) → diff_from (p + 1) w (program_stored p 128 w sc) ≡ diff_from (p + 1) w sc
unfolding diff_from
found p w sc = ap (λ (us : List ℕ). next_diff (length w - (p + 1)) (p + 1) w us) (ready_stored p w sc) ∙ kept_diff (length w - (p + 1)) (p + 1) p (get_or w p 0) w sc (omega arith)

module _ (n : LoaderNumbers) (v : ℕ) where
  -- the record's stage by its number
  staged : (k : ℕ) → n.stage ≡ k → (w sc : List ℕ) → next_of (loader_in n) v w sc ≡ next_in (stage_in k n.end) (loader_in n) v w sc
  staged k e w sc = ap (λ (s : ℕ). next_in (stage_in s n.end) (loader_in n) v w sc) e

  stored : (k : ℕ) → n.stage ≡ k → (w sc : List ℕ) → store_of (loader_in n) v w sc ≡ store_in (stage_in k n.end) (loader_in n).part n.place v w sc
  stored k e w sc = ap (λ (s : ℕ). store_in (stage_in s n.end) (loader_in n).part n.place v w sc) e

  -- stages that only pass on
  pub led_0 : n.stage ≡ 0 → (w : List ℕ) → GoesOn n v w (gives 1 0 0 1 false false 0xFF)
  unfolding stage_in
  led_0 e w = record { stage = Opening; number = refl; kind = Write; kind_number = refl; is = refl; next = λ sc o. staged 0 e w sc }

  pub kept_0 : n.stage ≡ 0 → (w sc : List ℕ) → store_of (loader_in n) v w sc ≡ sc
  unfolding stage_in
  kept_0 e w sc = stored 0 e w sc

  pub led_1 : n.stage ≡ 1 → (w : List ℕ) → GoesOn n v w (gives 2 0 0 0 true false 0)
  unfolding stage_in
  led_1 e w = record { stage = Reading; number = refl; kind = Read; kind_number = refl; is = refl; next = λ sc o. staged 1 e w sc }

  pub kept_1 : n.stage ≡ 1 → (w sc : List ℕ) → store_of (loader_in n) v w sc ≡ sc
  unfolding stage_in
  kept_1 e w sc = stored 1 e w sc

  pub led_3 : n.stage ≡ 3 → (w : List ℕ) → GoesOn n v w (gives 4 0 0 1 false false 0xD0)
  unfolding stage_in
  led_3 e w = record { stage = EraseConfirming; number = refl; kind = Write; kind_number = refl; is = refl; next = λ sc o. staged 3 e w sc }

  pub kept_3 : n.stage ≡ 3 → (w sc : List ℕ) → store_of (loader_in n) v w sc ≡ sc
  unfolding stage_in
  kept_3 e w sc = stored 3 e w sc

  pub led_4 : n.stage ≡ 4 → (w : List ℕ) → GoesOn n v w (gives 5 0 0 0 false false 0)
  unfolding stage_in
  led_4 e w = record { stage = EraseWaiting; number = refl; kind = Read; kind_number = refl; is = refl; next = λ sc o. staged 4 e w sc }

  pub kept_4 : n.stage ≡ 4 → (w sc : List ℕ) → store_of (loader_in n) v w sc ≡ sc
  unfolding stage_in
  kept_4 e w sc = stored 4 e w sc

  pub led_6 : n.stage ≡ 6 → (w : List ℕ) → GoesOn n v w (gives 7 n.place 0 1 true true 0)
  unfolding stage_in
  led_6 e w = record { stage = ProgramSending; number = refl; kind = Write; kind_number = refl; is = refl; next = λ sc o. staged 6 e w sc }

  pub kept_6 : n.stage ≡ 6 → (w sc : List ℕ) → store_of (loader_in n) v w sc ≡ sc
  unfolding stage_in
  kept_6 e w sc = stored 6 e w sc

  pub led_7 : n.stage ≡ 7 → (w : List ℕ) → GoesOn n v w (gives 8 n.place 0 0 true false 0)
  unfolding stage_in
  led_7 e w = record { stage = ProgramWaiting; number = refl; kind = Read; kind_number = refl; is = refl; next = λ sc o. staged 7 e w sc }

  pub kept_7 : n.stage ≡ 7 → (w sc : List ℕ) → store_of (loader_in n) v w sc ≡ sc
  unfolding stage_in
  kept_7 e w sc = stored 7 e w sc

  pub led_9 : n.stage ≡ 9 → (w : List ℕ) → GoesOn n v w (gives 10 0 0 0 true false 0)
  unfolding stage_in
  led_9 e w = record { stage = Verifying; number = refl; kind = Read; kind_number = refl; is = refl; next = λ sc o. staged 9 e w sc }

  pub kept_9 : n.stage ≡ 9 → (w sc : List ℕ) → store_of (loader_in n) v w sc ≡ sc
  unfolding stage_in
  kept_9 e w sc = stored 9 e w sc

  -- polls after which another follows
  module _ (q : v % 256 < 128) where
    busy : is_ready (status_in v) ≡ false
    busy = lt-leb 0x80 (v % 256) q

    unerased : erased_well (status_in v) ≡ false
    unfolding erased_well
    unerased = ap (λ (b : Bool). b && eqb (erase_end (status_in v)) 0) busy

    unprogrammed : programmed_well (status_in v) ≡ false
    unfolding programmed_well
    unprogrammed = ap (λ (b : Bool). b && eqb (program_end (status_in v)) 0) busy

    pub kept_5 : n.stage ≡ 5 → (w sc : List ℕ) → store_of (loader_in n) v w sc ≡ sc
    unfolding stage_in
    kept_5 e w sc = stored 5 e w sc ∙ if_false (erased_well (status_in v)) _ sc unerased

    pub kept_8 : n.stage ≡ 8 → (w sc : List ℕ) → store_of (loader_in n) v w sc ≡ sc
    unfolding stage_in
    kept_8 e w sc = stored 8 e w sc ∙ if_false (programmed_well (status_in v)) _ sc unprogrammed

    module _ (p : n.polls < 65534) where
      more : (stage : Stage) → no_record n ≡ false → poll_more (loader_in n) stage ≡ moved_to (loader_in n) stage n.place (n.polls + 1)
      unfolding poll_more polls_in
      more stage o =
          let e : polls_in n ≡ n.polls = if_false (no_record n) 65535 n.polls o in
          if_false (leb 65534 (polls_in n)) (ended_by (loader_in n) 20) (moved_to (loader_in n) stage n.place (polls_in n + 1)) (lt-leb 65534 (polls_in n) (omega (arith, e, p)))
          ∙ ap (λ (m : ℕ). moved_to (loader_in n) stage n.place (m + 1)) e

      pub led_5 : n.stage ≡ 5 → (w : List ℕ) → GoesOn n v w (gives n.stage n.place (n.polls + 1) 0 false false 0)
      unfolding stage_in erase_polled
      led_5 e w =
          record {
            stage = EraseWaiting;
            number = sym e;
            kind = Read;
            kind_number = refl;
            is = refl;
            next = λ sc o. staged 5 e w sc ∙ if_false (is_ready (status_in v)) _ (poll_more (loader_in n) EraseWaiting) busy ∙ more EraseWaiting o;
          }

      pub led_8 : n.stage ≡ 8 → (w : List ℕ) → GoesOn n v w (gives n.stage n.place (n.polls + 1) 0 true false 0)
      unfolding stage_in program_polled
      led_8 e w =
          record {
            stage = ProgramWaiting;
            number = sym e;
            kind = Read;
            kind_number = refl;
            is = refl;
            next = λ sc o. staged 8 e w sc ∙ if_false (is_ready (status_in v)) _ (poll_more (loader_in n) ProgramWaiting) busy ∙ more ProgramWaiting o;
          }

  -- reads in the midst of a block
  pub stored_2 : n.stage ≡ 2 → (w sc : List ℕ) → store_of (loader_in n) v w sc ≡ set sc n.place (carried (loader_in n).part.word v)
  unfolding stage_in
  stored_2 e w sc = stored 2 e w sc

  pub stored_10 : n.stage ≡ 10 → (w sc : List ℕ) → store_of (loader_in n) v w sc ≡ set sc n.place (carried (loader_in n).part.word v)
  unfolding stage_in
  stored_10 e w sc = stored 10 e w sc

  module _ (w : List ℕ) (h : n.place < length w - 1) where
    pub led_2 : n.stage ≡ 2 → GoesOn n v w (gives 2 (n.place + 1) 0 0 true false 0)
    unfolding stage_in after_read
    led_2 e =
        record {
          stage = Reading;
          number = refl;
          kind = Read;
          kind_number = refl;
          is = refl;
          next = λ sc o. staged 2 e w sc ∙ if_true (ltb n.place (length w - 1)) (moved_to (loader_in n) Reading (n.place + 1) 0) (after_reads (loader_in n) w sc) (lt-ltb n.place (length w - 1) h);
        }

    pub led_10 : n.stage ≡ 10 → carried (loader_in n).part.word v ≡ get_or w n.place 0 → GoesOn n v w (gives 10 (n.place + 1) 0 0 true false 0)
    unfolding stage_in verify_more
    led_10 e same =
        record {
          stage = Verifying;
          number = refl;
          kind = Read;
          kind_number = refl;
          is = refl;
          next = λ sc o.
              staged 10 e w sc
              ∙ if_true (eqb (carried (loader_in n).part.word v) (get_or w n.place 0)) (if ltb n.place (length w - 1) then moved_to (loader_in n) Verifying (n.place + 1) 0 else ended_by (loader_in n) 0) (ended_apart (loader_in n) v (get_or w n.place 0)) (eq-eqb _ _ same)
              ∙ if_true (ltb n.place (length w - 1)) (moved_to (loader_in n) Verifying (n.place + 1) 0) (ended_by (loader_in n) 0) (lt-ltb n.place (length w - 1) h);
        }

  -- the ready poll of a program that went well, where another unit differs
  module _ (e : n.stage ≡ 8) (q : v % 256 ≡ 128) where
    pub stored_ready : (w sc : List ℕ) → store_of (loader_in n) v w sc ≡ program_stored n.place 128 w sc
    unfolding stage_in
    stored_ready w sc = stored 8 e w sc ∙ ap (λ (b : ℕ). program_stored n.place b w sc) q

    pub led_ready : (w sc : List ℕ) (at : ℕ) → at ≡ diff_from (n.place + 1) w sc → n.place < length w → at < length w
        → GoesTo n v w (program_stored n.place 128 w sc) (gives 6 at 0 1 true false 0x40)
    unfolding stage_in
    led_ready w sc at d p h =
        record {
          stage = ProgramAsking;
          number = refl;
          kind = Write;
          kind_number = refl;
          is = refl;
          next = λ o.
              staged 8 e w (program_stored n.place 128 w sc)
              ∙ ap (λ (b : ℕ). program_polled (loader_in n) b w (program_stored n.place 128 w sc)) q
              ∙ ready_polled (loader_in n) w (program_stored n.place 128 w sc)
              ∙ ap (λ (i : ℕ). onward (loader_in n) i w (program_stored n.place 128 w sc)) (past_is n.place (length w) p)
              ∙ asked (loader_in n) (n.place + 1) at w (program_stored n.place 128 w sc) (found n.place w sc ∙ sym d) h;
        }
