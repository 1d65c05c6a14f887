-- A start that nothing refuses: its answer in numbers is that of the typed start.
use mathlib.Core.Path.{◌≡◌, refl, sym, ap, ◌∙◌}
use mathlib.Core.Bool.{Bool, true, false}
use mathlib.Core.List.{List}
use Prim.Native.Nat.{ℕ}
use lib.ListN.{length}
use lib.Dec.{eqb}
use Rattle.common.specs.Numbers.{NoRow, end, past}
use Rattle.common.proofs.Numbers.{no_row_given}
use Rattle.std.specs.Prelude.{if◌then◌else◌}
use Rattle.common.proofs.Choice.{if_false}
use Rattle.device.specs.declared.Part.{Part}
use Rattle.device.specs.declared.Span.{Span}
use Rattle.device.specs.Parts.{start_of}
use Rattle.units.specs.Units.{lent}
use Rattle.model_types.specs.declared.Pins.{Pins}
use Rattle.loader.specs.declared.Work.{Work}
use Rattle.loader.specs.declared.Work.TheVariants.{Load, Verify}
use Rattle.loader.specs.declared.Stage.TheVariants.{Clearing, Closing}
use Rattle.loader.specs.declared.Loader.{Loader}
use Rattle.loader.specs.declared.Response.{Response}
use Rattle.loader_steps.specs.Addresses.{first_address}
use Rattle.loader_steps.specs.Front.{start_number, record_of, response_at, start_response}
use Rattle.loader_steps.proofs.StartAndStep.{taken, start_gives}
use Rattle.c_cycle.specs.Values.{part_in, pins_in}
use Rattle.c_records.specs.Records.{stage_in, no_record, polls_in, loader_in, loader_out, saying_at, saying_out}
use Rattle.c_records.specs.declared.LoaderNumbers.{LoaderNumbers}
use Rattle.c_records.specs.declared.SayingNumbers.{SayingNumbers}
use Rattle.c_records.specs.declared.ResponseNumbers.{ResponseNumbers}
use Rattle.c_records.proofs.Border.{record_numbers}
use Rattle.c_steps.specs.Steps.{started_of}
use Rattle.c_steps.specs.Inner.{Takes, first_record, first_turn, command_for}
use Rattle.c_steps.proofs.Going.{is_taken, record_is}

-- what the first record says
turn_is : (work : Work) (part : Part) (rp wp vpp k first : ℕ) (w : List ℕ) → first ≡ start_of part k
    → first_turn work rp wp vpp first ≡ saying_out (response_at (record_of work part (pins_in rp wp vpp) k) w).saying
unfolding first_address
turn_is (Load v) part rp wp vpp k first w f = λ i. saying_at 0 0 0 (record { kind = 1; rp = rp; oe = 0; wp = wp; «data» = 0x50; vpp = vpp; address = f i })
turn_is Verify part rp wp vpp k first w f = λ i. saying_at 0 0 0 (record { kind = 1; rp = rp; oe = 0; wp = wp; «data» = 0xFF; vpp = vpp; address = f i })

-- the numbers of the first record
loader_is : (work : Work) (part word rp wp vpp k : ℕ) → no_record (first_record work part word rp wp vpp k) ≡ false
    → loader_in (first_record work part word rp wp vpp k) ≡ record_of work (part_in part word) (pins_in rp wp vpp) k
unfolding stage_in polls_in
loader_is (Load true) part word rp wp vpp k e =
    λ i. record { part = part_in part word; pins = pins_in rp wp vpp; block = k; stage = Clearing; place = 0; polls = if_false (no_record (first_record (Load true) part word rp wp vpp k)) 65535 0 e i; verify = true; high = false }
loader_is (Load false) part word rp wp vpp k e =
    λ i. record { part = part_in part word; pins = pins_in rp wp vpp; block = k; stage = Clearing; place = 0; polls = if_false (no_record (first_record (Load false) part word rp wp vpp k)) 65535 0 e i; verify = false; high = false }
loader_is Verify part word rp wp vpp k e =
    λ i. record { part = part_in part word; pins = pins_in rp wp vpp; block = k; stage = Closing; place = 0; polls = if_false (no_record (first_record Verify part word rp wp vpp k)) 65535 0 e i; verify = true; high = false }

module _ (work : Work) (part word rp wp vpp k : ℕ) (wanted scratch : List ℕ) (s : Span) (T : Takes (first_record work part word rp wp vpp k) s (length wanted) (length scratch)) where
  abbrev n : LoaderNumbers
  n = first_record work part word rp wp vpp k

  abbrev P : Part
  P = part_in part word

  abbrev W : List ℕ
  W = lent (eqb word 1) wanted

  abbrev S : List ℕ
  S = lent (eqb word 1) scratch

  free : start_number P (pins_in rp wp vpp) k (length W) (length S) ≡ 0
  unfolding start_number
  free = let t = taken (loader_in n) (length W) (length S) (is_taken n wanted scratch s T) in no_row_given (past t.known (past t.levels (past t.block (past t.lengths end))))

  kept : n ≡ loader_out (record_of work P (pins_in rp wp vpp) k)
  kept =
      let r = record_is n 0 wanted scratch (is_taken n wanted scratch s T) in
      sym (record_numbers n r) ∙ ap (λ (l : Loader). loader_out l) (loader_is work part word rp wp vpp k r)

  pub begins : record { turn = first_turn work rp wp vpp s.first; loader = n } ≡ started_of work part word rp wp vpp k wanted scratch
  unfolding started_of
  begins =
      (λ i. record { turn = turn_is work P rp wp vpp k s.first W T.first i; loader = kept i })
      ∙ ap (λ (g : Response). record { turn = saying_out g.saying; loader = loader_out g.loader }) (sym (start_gives work P (pins_in rp wp vpp) k W S free))
