-- What only the code's shape asks for: a step that goes on, told in numbers. w is what is wanted, in units.
use Rattle.std.specs.Prelude.{◌≡◌, Bool, true, false, List, ℕ, ◌+◌, get_or, if◌then◌else◌}
use Rattle.model_types.specs.declared.Kind.{Kind}
use Rattle.loader.specs.declared.Work.{Work}
use Rattle.loader.specs.declared.Work.TheVariants.{Load, Verify}
use Rattle.loader.specs.declared.Stage.{Stage}
use Rattle.loader.specs.Stages.{stage_is, gives_cycle}
use Rattle.loader_moves.specs.Moves.{next_of, moved_to}
use Rattle.c_cycle.specs.Values.{kind_out, flag_out}
use Rattle.device.specs.declared.Span.{Span}
use Rattle.device.specs.Parts.{start_of}
use Rattle.units.specs.Units.{lent_in}
use Rattle.loader_steps.specs.Front.{step_number}
use Rattle.c_records.specs.Records.{stage_out, no_record, loader_in, saying_at}
use Rattle.c_records.specs.declared.LoaderNumbers.{LoaderNumbers}
use Rattle.c_records.specs.declared.SayingNumbers.{SayingNumbers}
use Rattle.c_records.specs.declared.ResponseNumbers.{ResponseNumbers}
use Rattle.c_steps.specs.declared.Next.{Next}
use Rattle.c_steps.specs.Steps.{word_in}

-- where a step leads: the record's stage, place and polls, and of the cycle that is out its kind, whether it is about the unit at the
-- place, and what it carries, the wanted unit or a command
abbrev pub gives : ℕ → ℕ → ℕ → ℕ → Bool → Bool → ℕ → Next
gives stage place polls kind here own command =
    record { known = true; stage = stage; place = place; polls = polls; kind = kind; here = here; own = own; command = command }

-- r is where the step of a record leads by the rules, whatever scratch it leaves
pub record GoesOn (n : LoaderNumbers) (v : ℕ) (w : List ℕ) (r : Next) : Type 0 where
  pub stage : Stage
  pub number : stage_out stage ≡ r.stage
  pub kind : Kind
  pub kind_number : kind_out kind ≡ r.kind
  pub is : stage_is stage ≡ gives_cycle kind r.here r.own r.command
  pub next : (sc : List ℕ) → no_record n ≡ false → next_of (loader_in n) v w sc ≡ moved_to (loader_in n) stage r.place r.polls

-- the same for the scratch that it leaves
pub record GoesTo (n : LoaderNumbers) (v : ℕ) (w sc : List ℕ) (r : Next) : Type 0 where
  pub stage : Stage
  pub number : stage_out stage ≡ r.stage
  pub kind : Kind
  pub kind_number : kind_out kind ≡ r.kind
  pub is : stage_is stage ≡ gives_cycle kind r.here r.own r.command
  pub next : no_record n ≡ false → next_of (loader_in n) v w sc ≡ moved_to (loader_in n) stage r.place r.polls

-- what is known of a record whose step goes on, on so many bytes: nothing refuses it, and where its block lies
pub record Takes (n : LoaderNumbers) (s : Span) (wanted scratch : ℕ) : Type 0 where
  pub number : step_number (loader_in n) (lent_in (word_in n) wanted) (lent_in (word_in n) scratch) ≡ 0
  pub first : s.first ≡ start_of (loader_in n).part n.block
  pub length : s.length ≡ lent_in (word_in n) wanted
  pub end : n.end ≡ 0
  pub high : n.high ≡ 0

-- the record at another stage, place and count of polls
abbrev pub moved_on : LoaderNumbers → Next → LoaderNumbers
moved_on n r =
    record {
      part = n.part;
      word = n.word;
      rp = n.rp;
      wp = n.wp;
      block = n.block;
      stage = r.stage;
      end = n.end;
      verify = n.verify;
      high = n.high;
      vpp = n.vpp;
      polls = r.polls;
      place = r.place;
    }

-- the answer of such a step: the cycle that is out, and the record moved on
abbrev pub on_to : LoaderNumbers → ℕ → Next → List ℕ → ResponseNumbers
on_to n first r w =
    record {
      turn = saying_at 0 0 0
          (record {
            kind = r.kind;
            rp = n.rp;
            oe = 0;
            wp = n.wp;
            «data» = if r.own then get_or w r.place 0
                else r.command;
            vpp = n.vpp;
            address = if r.here then first + r.place
                else first;
          });
      loader =
          record {
            part = n.part;
            word = n.word;
            rp = n.rp;
            wp = n.wp;
            block = n.block;
            stage = r.stage;
            end = 0;
            verify = n.verify;
            high = 0;
            vpp = n.vpp;
            polls = r.polls;
            place = r.place;
          };
    }

-- .. at these levels, of a record whose end and high byte stay
abbrev pub on_to_at : LoaderNumbers → ℕ → ℕ → ℕ → ℕ → Next → List ℕ → ResponseNumbers
on_to_at n rp wp vpp first r w =
    record {
      turn = saying_at 0 0 0
          (record {
            kind = r.kind;
            rp = rp;
            oe = 0;
            wp = wp;
            «data» = if r.own then get_or w r.place 0
                else r.command;
            vpp = vpp;
            address = if r.here then first + r.place
                else first;
          });
      loader = moved_on n r;
    }

-- the first stage of a load or of a verify alone
abbrev pub stage_for : Work → ℕ
stage_for (Load v) = 0
stage_for Verify = 9

-- .. whether the verify is part of it
abbrev pub verify_for : Work → ℕ
verify_for (Load v) = flag_out v
verify_for Verify = 1

-- .. the first command
abbrev pub command_for : Work → ℕ
command_for (Load v) = 0x50
command_for Verify = 0xFF

-- the record at its beginning
abbrev pub first_record : Work → ℕ → ℕ → ℕ → ℕ → ℕ → ℕ → LoaderNumbers
first_record work part word rp wp vpp k =
    record {
      part = part;
      word = word;
      rp = rp;
      wp = wp;
      block = k;
      stage = stage_for work;
      end = 0;
      verify = verify_for work;
      high = 0;
      vpp = vpp;
      polls = 0;
      place = 0;
    }

-- the first cycle: a command to the block's first address
abbrev pub first_turn : Work → ℕ → ℕ → ℕ → ℕ → SayingNumbers
first_turn work rp wp vpp first =
    saying_at 0 0 0 (record { kind = 1; rp = rp; oe = 0; wp = wp; «data» = command_for work; vpp = vpp; address = first })
