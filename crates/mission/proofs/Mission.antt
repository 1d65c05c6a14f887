-- The mission's three demands: a record for each, its fields in the mission's order, and below them the theorem cited for each field.
-- Lists called xs, rs, w and sc are of units: bytes, in word mode words. All others are of bytes, as they are lent.
use mathlib.Core.{Path.◌≡◌, Path.refl, Path.sym, Path.◌∙◌, Bool.true, Bool.false, List.List, List.[], List.◌∷◌, Logic.◌↔◌}
use Prim.Native.Nat.{ℕ, ◌+◌, ◌≤◌, ◌<◌}
use lib.{ListN.length, ListN.get_or, Dec.ltb}
use Rattle.common.specs.{Lists.Bytes, Numbers.Row, Numbers.row, Numbers.Foremost, Numbers.NoRow}
use Rattle.units.specs.{Units.units, Units.lent, Address.byte_of}
use Rattle.device.specs.{declared.Part.Part, declared.Device.Device, Parts.start_of}
use Rattle.model_types.specs.{declared.Pins.Pins, declared.State.State, declared.Cycle.Cycle, declared.Kind.TheVariants.Read}
use Rattle.model_types.specs.Phases.{is_busy}
use Rattle.model_levels.specs.Levels.{rp_low}
use Rattle.model_states.specs.States.{improper}
use Rattle.model_operation.specs.Settling.{settle_of}
use Rattle.model_rules.{specs.Cycles.table_of, specs.Cycles.number_of, specs.Cycles.accept_of, specs.Cycles.decide_of, proofs.Cases.accepted}
use Rattle.model.specs.declared.Seen.TheVariants.{Data, Refused}
use Rattle.model.specs.Arrays.{Accepted, answer_of, array_after, bytes_after, seen_told, cycle_told}
use Rattle.model.proofs as model
use Rattle.model_history.specs.History.{Bus, World, world_of, buses_of, begun_over, accepts_all}
use Rattle.model_sheet.specs.Sentences.{Cut}
use Rattle.model_sheet.proofs.Claims as sheet
use Rattle.loader.specs.{declared.Work.Work, declared.Work.TheVariants.Load, declared.Loader.Loader, declared.Saying.TheVariants.Refused as SayRefused, Stages.is_ended}
use Rattle.loader_steps.specs.Front.{start_rows, step_rows, start_response, step_response, says_refused}
use Rattle.loader_steps.proofs.Claims as steps
use Rattle.loader_run.specs.{declared.Job.Job, Turns.Config, Runs.RunLeft, Runs.driven, Runs.lent_rows, Runs.lent_run, Runs.doing}
use Rattle.loader_run.proofs.Claims as runs
use Rattle.loader_run_claims.specs.{Wear.held_in, Wear.held_by, Wear.noted_all, Wear.operations_of, Wear.formula, Made.cycles_of_load}
use Rattle.loader_run_claims.specs.{Mission.Brings, Mission.NoFewer, Lent.LentStart, Anchors.all_start}
use Rattle.loader_run_claims.proofs as load
use Rattle.loader_from_file.specs.Loads.{load_rows, load_left}
use Rattle.loader_from_file.proofs.Claims as filed
use Rattle.file_codec.specs.File.{limit, file_of, reader_of, writer_of, in_room, blocks_in, payload_of, read_rows, write_rows}
use Rattle.file_claims.specs.{Tabled.Ordered, Roomy.ReadsInto, Roomy.WritesGivenRoom}
use Rattle.file_claims.proofs.Claims as file
use Rattle.cards as cards

-- refused by m exactly where m's own condition holds and that of no row before it, accepted exactly where no row's holds
abbrev pub Exactly : List Row → (ℕ → Type 0) → Type 0 → Type 0
Exactly rows by taken = ((m : ℕ) → (m ≡ 0 → ⊥) → by m ↔ Foremost rows m) × (taken ↔ NoRow rows)

-- Demand 1. Every entry takes any input and ends: no public function has a `requires`, and the checker admits only code that returns.
pub record Demand1 : Type 0 where
  -- so does every load against the model, whatever it begins from
  pub ends : (d : Device) (w : List ℕ) (c : Config) → is_ended (driven d w c).loader.stage ≡ true
  -- what is wrong is refused by its number in document 01: a bus cycle (`model::cycle`) ..
  pub cycle : (d : Device) (s : State) (c : Cycle) (xs rs : List ℕ) → let a = answer_of d s c xs rs in
      Exactly (table_of d s c (length xs) (length rs)) (λ m. a.seen ≡ Refused m) (Accepted a)
  -- .. a loader's start, of whatever work, and its step (`loader_steps::start`, `step`) ..
  pub start : (work : Work) (part : Part) (p : Pins) (k : ℕ) (w sc : List ℕ) → let t = (start_response work part p k w sc).saying in
      Exactly (start_rows part p k (length w) (length sc)) (λ m. t ≡ SayRefused m) (says_refused t ≡ false)
  pub step : (l : Loader) (b : ℕ) (w sc : List ℕ) → let t = (step_response l b w sc).saying in
      Exactly (step_rows l (length w) (length sc)) (λ m. t ≡ SayRefused m) (says_refused t ≡ false)
  -- .. a run, a load alone and a verify alone (`loader_run::run`), and these from a file (`loader_from_file::load`) ..
  pub run : (j : Job) (array wanted scratch : List ℕ)
      → let r = (lent_run j array wanted scratch).ran in
      Exactly (lent_rows j (length array) (length wanted) (length scratch)) (λ m. (r.count ≡ 0) × (r.end ≡ m)) (0 < r.count)
  pub from_file : (j : Job) (array wanted scratch f : List ℕ) (ℓ : ℕ) → let r = (load_left j array wanted scratch f ℓ).ran in
      Exactly (load_rows j (length array) (length wanted) (length scratch) f ℓ) (λ m. (r.count ≡ 0) × (r.end ≡ m)) (0 < r.count)
  -- .. the writer and the reader of a load file (`file_writer::write`, `file_codec::read`)
  pub writer : (ℓ : ℕ) (p : List ℕ) (room : ℕ) → let f = file_of ℓ p in
      Ordered (write_rows limit ℓ p (row 37 (ltb room (length f)) ∷ [])) f (in_room room (writer_of limit ℓ p))
  pub reader : (f : List ℕ) (ℓ room : ℕ) → let p = payload_of (blocks_in f) f in
      Ordered (read_rows limit f ℓ (row 37 (ltb room (length p)) ∷ [])) p (in_room room (reader_of limit f ℓ))
  -- a refused bus cycle has not happened: the state is as before, and so are the lent bytes
  pub not_happened : (d : Device) (s : State) (c : Cycle) (array residue : List ℕ) (m : ℕ)
      → let a = answer_of d s c (lent d.part.word array) (units d.part.word residue) in
      a.seen ≡ Refused m → (a.state ≡ s) × (bytes_after d s c array residue ≡ array)

-- Demand 2. `model::cycle` promises the answer `answer_of` and to leave the bytes `bytes_after`, whatever it is handed.
pub record Demand2 : Type 0 where
  -- every cycle is answered by the rules: what no number refuses is reset, cut or counted off (`settle_of`), then read or written
  pub rules : (d : Device) (s : State) (c : Cycle) (n r : ℕ) → number_of d s c n r ≡ 0
      → decide_of d s c n r ≡ accept_of d c (settle_of d.part s c.pins)
  -- data: what the host sees is the reply so decided, of the array as the cycle leaves it
  pub given : (d : Device) (s : State) (c : Cycle) (xs rs : List ℕ) → seen_told (answer_of d s c xs rs).seen ≡ cycle_told d s c xs rs
  -- status: an accepted read with RP# up shows it while an operation is busy, on the cycle too where that ends or VPP cuts it
  pub status : (d : Device) (s : State) (c : Cycle) (xs rs : List ℕ) → let a = answer_of d s c xs rs in
      Accepted a → c.kind ≡ Read → rp_low c.pins ≡ false → is_busy s.phase ≡ true → a.seen ≡ Data a.state.status
  -- state: a proper one stays proper
  pub state : (d : Device) (s : State) (c : Cycle) (xs rs : List ℕ) → improper d s ≡ false
      → improper d (answer_of d s c xs rs).state ≡ false
  -- array: the lent bytes are left with the units that the rules leave
  pub array : (d : Device) (s : State) (c : Cycle) (b r : List ℕ)
      → lent d.part.word (bytes_after d s c b r) ≡ array_after d s c (lent d.part.word b) (units d.part.word r)
  -- also when supply or reset cuts an operation: what a cut leaves in state and array, by its cases
  pub cuts : (d : Device) (v : World) (b : Bus) → Cut d v b
  -- worked examples of the page, a cut among them: the twelve bench cards. That the rules are the data sheet's is for people to read
  pub bench : cards.specs.Table.Cards
  -- a load file is, given room, read exactly when our writer could have written it for the letter asked, and comes back as written
  pub load_file : (f : List ℕ) (ℓ : ℕ) (out p : List ℕ) → Bytes f → ReadsInto f ℓ out p ↔ ((length p ≤ length out) × WritesGivenRoom ℓ p f)

-- Demand 3, of a load of block k on a device v: the block begins at byte `from`, the load leaves `left` and makes the cycles `own`.
pub record Demand3 (d : Device) (v : World) (k from : ℕ) (array wanted w : List ℕ) (left : RunLeft) (own : List Cycle) : Type 0 where
  -- it ends well
  pub well : left.ran.end ≡ 0
  -- the block holds the wanted bytes
  pub block : held_in from (length wanted) left.bytes ≡ wanted
  -- every other byte is as before
  pub others : (x : ℕ) → let same = get_or left.bytes x 0 ≡ get_or array x 0 in (x < from → same) × (from + length wanted ≤ x → same)
  -- it erases once if some bit must rise, otherwise never; it programs each unit that then differs once and no other
  pub begins : noted_all (begun_over d v (buses_of own)) ≡ operations_of d.part k (start_of d.part k) w (held_by d.part k v.bytes)
  -- no uncut run from the same start to the same contents begins fewer erases of the block or fewer programs in it; `own` is such a run
  pub least : (bs : List Bus) → Brings d v k w bs → NoFewer d v k (buses_of own) bs
  pub such : (accepts_all d v (buses_of own) ≡ true) × Brings d v k w (buses_of own)
  -- the reported count is the number of cycles made, 2n + 3 + e(2 + E) + p(2 + P)
  pub count : (left.ran.count ≡ length own) × (left.ran.count ≡ formula d w (held_by d.part k v.bytes))

pub demand_1 : Demand1
demand_1 = record {
  ends = runs.always_ends;
  cycle = λ d s c xs rs. (model.Claims.refused_exactly d s c xs rs, model.Claims.accepted_exactly d s c xs rs);
  start = λ work part p k w sc. (steps.start_refused_exactly work part p k w sc, steps.start_accepted_exactly work part p k w sc);
  step = λ l b w sc. (steps.step_refused_exactly l b w sc, steps.step_accepted_exactly l b w sc);
  run = λ j a w t. (runs.lent_refused_exactly j a w t, runs.lent_accepted_exactly j a w t);
  from_file = λ j a w t f ℓ. (filed.refused_exactly j a w t f ℓ, filed.accepted_exactly j a w t f ℓ);
  writer = file.writer_order limit;
  reader = file.reader_order limit;
  not_happened = λ d s c a r m e. ((model.Claims.refused_nothing d s c _ _ m e).0, model.Claims.refused_bytes d s c a r m e);
}

pub demand_2 : Demand2
demand_2 = record {
  rules = accepted;
  given = λ d s c xs rs. (model.Told.answer_too {Left = ℕ} d s c xs rs refl 0).1.0;
  status = model.Claims.busy_read_ending;
  state = model.Claims.stays_proper;
  array = model.Claims.left_units;
  cuts = sheet.cut_leaves;
  bench = cards.proofs.Claims.all_twelve;
  load_file = file.given_room;
}

-- From every proper idle start, VPP high, RP# not low, the boot block unlocked if it is the one (`LentStart`); and such starts there are.
pub demand_3 : (all_start ≡ true)
    × ((j : Job) (array wanted scratch : List ℕ) → LentStart j array wanted scratch
    → let xs = units j.device.part.word array in let w = units j.device.part.word wanted in let sc = units j.device.part.word scratch in
    let from = byte_of j.device.part.word (start_of j.device.part j.block) in
    Demand3 j.device (world_of j.state xs) j.block from array wanted w (lent_run (doing (Load true) j) array wanted scratch) (cycles_of_load j xs w sc))
demand_3 = (
  load.Claims.starts_exist,
  λ j array wanted scratch start.
      let b = load.Claims.lent_demand_3 j array wanted scratch start in let u = b.of_units in record {
        well = b.well;
        block = b.block;
        others = λ x. (b.before x, b.behind x);
        begins = u.own_begins ∙ u.begins;
        least = u.least_wear (load.Lent.units_cells j.device.part array start.array_bytes);
        such = (u.own_accepted, u.own_brings);
        count = (b.by_formula ∙ sym u.by_formula ∙ u.counted, b.by_formula);
      },
)
