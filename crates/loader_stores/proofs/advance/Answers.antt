use mathlib.Core.Path.{◌≡◌, refl, ap, sym, ◌∙◌}
use mathlib.Core.List.{List}
use Prim.Native.Nat.{ℕ}
use Rattle.loader.specs.declared.Stage.{Stage}
use Rattle.loader.specs.declared.Stage.TheVariants.{Clearing, Opening, Reading, EraseAsking, EraseConfirming, EraseWaiting, ProgramAsking, ProgramSending, ProgramWaiting, Closing, Verifying}
use Rattle.loader.specs.declared.Loader.{Loader}
use Rattle.units.specs.Units.{units}
use Rattle.loader_moves.specs.Moves.{erase_polled, program_polled, next_in, next_of}
use Rattle.loader_stores.specs.Stores.{erase_stored, program_stored, store_in, store_of}
use Rattle.loader_stores.proofs.advance.Goals as goal

-- what a stage makes of a read's data
by : (l : Loader) (b : ℕ) (w sc : List ℕ) (s : Stage) → l.stage ≡ s
    → (next_in s l b w (store_in s l.part l.place b w sc) ≡ next_of l b w (store_of l b w sc)) × (store_in s l.part l.place b w sc ≡ store_of l b w sc)
by l b w sc s e =
    (ap (λ (x : Stage). next_in x l b w (store_in x l.part l.place b w sc)) (sym e), ap (λ (x : Stage). store_in x l.part l.place b w sc) (sym e))

pub returns-in-Clearing : goal.returns-in-Clearing
returns-in-Clearing c =
    let a = c.args in
    let k = by a.l a.v (units a.l.part.word a.wanted.now) (units a.l.part.word a.scratch.now) Clearing c.in-Clearing.is in
    record { result = c.moved.ensures ∙ k.0; scratch_left = k.1; scratch_spare = refl }

pub returns-in-Opening : goal.returns-in-Opening
returns-in-Opening c =
    let a = c.args in
    let k = by a.l a.v (units a.l.part.word a.wanted.now) (units a.l.part.word a.scratch.now) Opening c.in-Opening.is in
    record { result = c.moved-in-Opening.ensures ∙ k.0; scratch_left = k.1; scratch_spare = refl }

pub returns-in-Reading : goal.returns-in-Reading
returns-in-Reading c =
    let a = c.args in
    let k = by a.l a.v (units a.l.part.word a.wanted.now) (units a.l.part.word a.scratch.now) Reading c.in-Reading.is in
    record { result = c.take_read.ensures.result ∙ k.0; scratch_left = c.take_read.ensures.scratch_left ∙ k.1; scratch_spare = c.take_read.ensures.scratch_spare }

pub returns-in-EraseAsking : goal.returns-in-EraseAsking
returns-in-EraseAsking c =
    let a = c.args in
    let k = by a.l a.v (units a.l.part.word a.wanted.now) (units a.l.part.word a.scratch.now) EraseAsking c.in-EraseAsking.is in
    record { result = c.moved-in-EraseAsking.ensures ∙ k.0; scratch_left = k.1; scratch_spare = refl }

pub returns-in-EraseConfirming : goal.returns-in-EraseConfirming
returns-in-EraseConfirming c =
    let a = c.args in
    let k = by a.l a.v (units a.l.part.word a.wanted.now) (units a.l.part.word a.scratch.now) EraseConfirming c.in-EraseConfirming.is in
    record { result = c.moved-in-EraseConfirming.ensures ∙ k.0; scratch_left = k.1; scratch_spare = refl }

pub returns-in-EraseWaiting : goal.returns-in-EraseWaiting
returns-in-EraseWaiting c =
    let a = c.args in
    let w = units a.l.part.word a.wanted.now in
    let sc = units a.l.part.word a.scratch.now in
    let o = c.low.ensures in
    let k = by a.l a.v w sc EraseWaiting c.in-EraseWaiting.is in
    record { result = c.take_erase.ensures.result ∙ ap (λ (b : ℕ). erase_polled a.l b w (erase_stored a.l.part b sc)) o ∙ k.0; scratch_left = c.take_erase.ensures.scratch_left ∙ ap (λ (b : ℕ). erase_stored a.l.part b sc) o ∙ k.1; scratch_spare = c.take_erase.ensures.scratch_spare }

pub returns-in-ProgramAsking : goal.returns-in-ProgramAsking
returns-in-ProgramAsking c =
    let a = c.args in
    let k = by a.l a.v (units a.l.part.word a.wanted.now) (units a.l.part.word a.scratch.now) ProgramAsking c.in-ProgramAsking.is in
    record { result = c.moved-in-ProgramAsking.ensures ∙ k.0; scratch_left = k.1; scratch_spare = refl }

pub returns-in-ProgramSending : goal.returns-in-ProgramSending
returns-in-ProgramSending c =
    let a = c.args in
    let k = by a.l a.v (units a.l.part.word a.wanted.now) (units a.l.part.word a.scratch.now) ProgramSending c.in-ProgramSending.is in
    record { result = c.moved-in-ProgramSending.ensures ∙ k.0; scratch_left = k.1; scratch_spare = refl }

pub returns-in-ProgramWaiting : goal.returns-in-ProgramWaiting
returns-in-ProgramWaiting c =
    let a = c.args in
    let w = units a.l.part.word a.wanted.now in
    let sc = units a.l.part.word a.scratch.now in
    let o = c.low-in-ProgramWaiting.ensures in
    let k = by a.l a.v w sc ProgramWaiting c.in-ProgramWaiting.is in
    record { result = c.take_program.ensures.result ∙ ap (λ (b : ℕ). program_polled a.l b w (program_stored a.l.place b w sc)) o ∙ k.0; scratch_left = c.take_program.ensures.scratch_left ∙ ap (λ (b : ℕ). program_stored a.l.place b w sc) o ∙ k.1; scratch_spare = c.take_program.ensures.scratch_spare }

pub returns-in-Closing : goal.returns-in-Closing
returns-in-Closing c =
    let a = c.args in
    let k = by a.l a.v (units a.l.part.word a.wanted.now) (units a.l.part.word a.scratch.now) Closing c.in-Closing.is in
    record { result = c.moved-in-Closing.ensures ∙ k.0; scratch_left = k.1; scratch_spare = refl }

pub returns-in-Verifying : goal.returns-in-Verifying
returns-in-Verifying c =
    let a = c.args in
    let k = by a.l a.v (units a.l.part.word a.wanted.now) (units a.l.part.word a.scratch.now) Verifying c.in-Verifying.is in
    record { result = c.take_verify.ensures.result ∙ k.0; scratch_left = c.take_verify.ensures.scratch_left ∙ k.1; scratch_spare = c.take_verify.ensures.scratch_spare }

pub returns-in-Ended : goal.returns-in-Ended
returns-in-Ended c = simp c.in-Ended.is (record { result = refl; scratch_left = refl; scratch_spare = refl })
