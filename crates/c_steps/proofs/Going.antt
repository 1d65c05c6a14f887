-- A step that goes on: its answer in numbers is that of the typed step, and so is what it leaves in scratch.
use mathlib.Core.Path.{◌≡◌, refl, sym, ap, ◌∙◌}
use mathlib.Core.Bool.{Bool, true, false}
use mathlib.Core.List.{List}
use Prim.Native.Nat.{ℕ, ◌+◌, ◌≤◌, ◌<◌}
use native.Mathlib.Omega.{arith}
use lib.ListN.{length}
use lib.Dec.{ltb}
use borrow.Author.Tests.{lt-ltb}
use Rattle.std.specs.Prelude.{if◌then◌else◌}
use Rattle.common.proofs.Choice.{if_true, if_false}
use Rattle.common.specs.Lists.{Bytes}
use Rattle.device.specs.declared.Span.{Span}
use Rattle.device.specs.Parts.{start_of}
use Rattle.units.specs.Units.{units, lent, lent_in}
use Rattle.units.proofs.Widths.{lent_length, lent_is}
use Rattle.loader.specs.declared.Loader.{Loader}
use Rattle.loader.specs.declared.Saying.TheVariants.{Out, Over}
use Rattle.loader.specs.declared.Response.{Response}
use Rattle.loader_moves.specs.Moves.{moved_to}
use Rattle.loader_steps.specs.Addresses.{first_address}
use Rattle.loader_steps.specs.Inner.{here_of}
use Rattle.loader_steps.specs.Outs.{cycle_at, address_in, carried_in}
use Rattle.loader_stores.specs.Stores.{store_of}
use Rattle.loader_steps.specs.Front.{step_number, end_address, response_at, step_response}
use Rattle.loader_steps.proofs.StartAndStep.{taken}
use Rattle.loader_steps.proofs.Lending.{step_some, step_gives, step_leaves}
use Rattle.loader_steps.proofs.SmallAddresses.{length_small}
use Rattle.c_records.specs.Records.{no_record, polls_in, loader_in, loader_out, loader_back, saying_at, saying_out}
use Rattle.c_records.specs.declared.LoaderNumbers.{LoaderNumbers}
use Rattle.c_records.specs.declared.ResponseNumbers.{ResponseNumbers}
use Rattle.c_records.specs.declared.SayingNumbers.{SayingNumbers}
use Rattle.c_records.proofs.Border.{record_numbers}
use Rattle.c_steps.specs.declared.Next.{Next}
use Rattle.c_steps.specs.Steps.{word_in, stepped_of, scratch_stepped}
use Rattle.c_steps.specs.Inner.{GoesOn, GoesTo, on_to_at, Takes}

module _ (n : LoaderNumbers) (v : ℕ) (wanted scratch : List ℕ) (z : step_number (loader_in n) (length (lent (word_in n) wanted)) (length (lent (word_in n) scratch)) ≡ 0) where
  abbrev l : Loader
  l = loader_in n

  abbrev W : List ℕ
  W = units (word_in n) wanted

  abbrev S : List ℕ
  S = units (word_in n) scratch

  -- numbers that stand for no record have too many polls
  pub record_is : no_record n ≡ false
  unfolding polls_in
  record_is = go (no_record n) refl
    where
      go : (t : Bool) → no_record n ≡ t → no_record n ≡ false
      go true e =
          let m = (taken l (length (lent (word_in n) wanted)) (length (lent (word_in n) scratch)) z).polls in
          let p : polls_in n ≡ 65535 = if_true (no_record n) 65535 n.polls e in
          absurd (let y : ⊥ = omega (arith, m, p) in y)
      go false e = e

  module _ (r : Next) (first : ℕ) (G : GoesTo n v W (store_of l v W S) r) (f : first ≡ start_of l.part l.block) (near : r.place ≤ 524288) (end_is : n.end ≡ 0) (high_is : n.high ≡ 0) where
    abbrev M : Loader
    M = moved_to l G.stage r.place r.polls

    first_is : first_address M ≡ first
    unfolding first_address
    first_is = sym f

    here_is : here_of M ≡ first + r.place
    unfolding here_of
    here_is = if_true (ltb r.place 16777216) (first_address M + r.place) (first_address M) (lt-ltb r.place 16777216 (omega (arith, near))) ∙ ap (λ (a : ℕ). a + r.place) first_is

    said : saying_out (response_at M W).saying ≡ (on_to_at n n.rp n.wp n.vpp first r W).turn
    said =
        (λ i.
        saying_out
        (if (G.is i).ended then Over (G.is i).end (end_address M (G.is i).end)
        else Out (cycle_at M (G.is i).kind (address_in (G.is i).here (first_address M) (here_of M)) (carried_in (G.is i).wanted (G.is i).command r.place W))))
        ∙ (λ i.
        saying_at 0 0 0
        (record {
          kind = G.kind_number i;
          rp = n.rp;
          oe = 0;
          wp = n.wp;
          «data» = carried_in r.own r.command r.place W;
          vpp = n.vpp;
          address = address_in r.here (first_is i) (here_is i);
        }))

    left : loader_back n M ≡ (on_to_at n n.rp n.wp n.vpp first r W).loader
    unfolding loader_back
    left =
        if_false (no_record n) n (loader_out M) record_is
        ∙ (λ i.
        record {
          part = (record_numbers n record_is i).part;
          word = (record_numbers n record_is i).word;
          rp = n.rp;
          wp = n.wp;
          block = n.block;
          stage = G.number i;
          end = if (G.is i).ended then (G.is i).end
              else 0;
          verify = (record_numbers n record_is i).verify;
          high = 0;
          vpp = n.vpp;
          polls = r.polls;
          place = r.place;
        })
        ∙ (λ i.
        record {
          part = n.part;
          word = n.word;
          rp = n.rp;
          wp = n.wp;
          block = n.block;
          stage = r.stage;
          end = sym end_is i;
          verify = n.verify;
          high = sym high_is i;
          vpp = n.vpp;
          polls = r.polls;
          place = r.place;
        })

    pub answer : on_to_at n n.rp n.wp n.vpp first r W ≡ stepped_of n v wanted scratch
    unfolding stepped_of
    answer =
        let g : response_at M W ≡ step_response l v (lent (word_in n) wanted) (lent (word_in n) scratch) =
        step_gives l wanted scratch v M (response_at M W) z (sym (G.next record_is)) refl in
        (λ i. record { turn = sym said i; loader = sym left i }) ∙ ap (λ (x : Response). record { turn = saying_out x.saying; loader = loader_back n x.loader }) g

  pub scratch_left : (zs : List ℕ) → length zs ≡ length scratch → Bytes zs → units (word_in n) zs ≡ store_of l v W S → zs ≡ scratch_stepped n v wanted scratch
  unfolding scratch_stepped
  scratch_left zs k b u = step_leaves l wanted scratch v zs z k b u

-- where scratch does not matter
pub at_any : (n : LoaderNumbers) (v : ℕ) (w sc : List ℕ) (r : Next) → GoesOn n v w r → GoesTo n v w sc r
at_any n v w sc r G = record { stage = G.stage; number = G.number; kind = G.kind; kind_number = G.kind_number; is = G.is; next = G.next sc }

-- the record as the code has it: a step that its test lets pass is taken
module _ (n : LoaderNumbers) (wanted scratch : List ℕ) (s : Span) (T : Takes n s (length wanted) (length scratch)) where
  pub is_taken : step_number (loader_in n) (length (lent (word_in n) wanted)) (length (lent (word_in n) scratch)) ≡ 0
  is_taken =
      ap (λ (x : ℕ). step_number (loader_in n) x (length (lent (word_in n) scratch))) (lent_length (word_in n) wanted)
      ∙ ap (λ (y : ℕ). step_number (loader_in n) (lent_in (word_in n) (length wanted)) y) (lent_length (word_in n) scratch)
      ∙ T.number

  -- its place lies inside the block, and no block is long
  pub place_small : n.place ≤ 524287
  place_small =
      let k = taken (loader_in n) (length (lent (word_in n) wanted)) (length (lent (word_in n) scratch)) is_taken in
      omega (arith, k.place, k.wanted, length_small (loader_in n).part (loader_in n).block)

  -- the units that are wanted: some, and no more than that
  pub wanted_units : s.length ≡ length (units (word_in n) wanted)
  wanted_units =
      T.length ∙ sym (lent_length (word_in n) wanted)
      ∙ ap (λ (us : List ℕ). length us) (lent_is (word_in n) wanted (step_some (loader_in n) wanted scratch is_taken).0)

  pub some_wanted : 0 < s.length
  some_wanted =
      let u = (step_some (loader_in n) wanted scratch is_taken).0 in
      let k : s.length ≡ length (lent (word_in n) wanted) = T.length ∙ sym (lent_length (word_in n) wanted) in
      omega (arith, u, k)

  pub few_wanted : s.length ≤ 524288
  few_wanted =
      let k = taken (loader_in n) (length (lent (word_in n) wanted)) (length (lent (word_in n) scratch)) is_taken in
      let m : s.length ≡ length (lent (word_in n) wanted) = T.length ∙ sym (lent_length (word_in n) wanted) in
      omega (arith, m, k.wanted, length_small (loader_in n).part (loader_in n).block)
