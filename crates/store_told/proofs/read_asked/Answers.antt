-- `store_told::read_asked` meets its contract.
use mathlib.Core.Path.{sym, ap, ◌∙◌}
use mathlib.Core.Bool.{false}
use Prim.Native.Nat.{ℕ}
use lib.IntN.{ℤ}
use lib.ListN.{length}
use mir.Syntax.{w32}
use mir.ValLaws.{to_z-of_z}
use Rattle.text.specs.Writing.{laid_at}
use Rattle.file_codec.specs.File.{in_room}
use Rattle.std.specs.Prelude.{Option, Some}
use Rattle.store_find.specs.Finds.{read_by}
use Rattle.store.specs.Stores.{found_on}
use Rattle.store_told.specs.Sayings.{Asked, read_by_said, asked_on}
use Rattle.store_told.proofs.read_asked.Goals as goal

pub returns-in-Some : goal.returns-in-Some
returns-in-Some c =
    let a = c.args in
    let out = a.out.now in
    let M = a.memory.now in
    let o = in_room (length M) (read_by a.letter (found_on a.part a.image.now a.letter)) in
    let p = c.put_read in
    let x = to_z-of_z w32 c.in-Some.x (record { sfits = c.in-Some.known_told-1-own.given.0.1 }) in
    let e = ap (λ (z : ℤ). read_by_said (Some z) o M) x ∙ ap (λ (z : Option ℤ). read_by_said z o M) (sym (sym c.read_number.ensures.result ∙ c.in-Some.is)) in record { result = c.as_said.ensures ∙ ap (λ (u : ℕ). record { used = u; stream = 1; filled = 0; changed = false }) p.ensures.result ∙ ap (λ (z : Asked). asked_on out z) e; out_left = p.ensures.out_left ∙ ap (λ (z : Asked). laid_at out 0 z.line) e; memory_left = p.ensures.memory_left ∙ ap (λ (z : Asked). z.memory) e }

pub returns-in-None : goal.returns-in-None
returns-in-None c =
    let a = c.args in
    let out = a.out.now in
    let M = a.memory.now in
    let o = in_room (length M) (read_by a.letter (found_on a.part a.image.now a.letter)) in
    let p = c.put_usage in
    let e = ap (λ (z : Option ℤ). read_by_said z o M) (sym (sym c.read_number.ensures.result ∙ c.in-None.is)) in record { result = c.as_said-in-None.ensures ∙ ap (λ (u : ℕ). record { used = u; stream = 2; filled = 0; changed = false }) p.ensures.result ∙ ap (λ (z : Asked). asked_on out z) e; out_left = p.ensures.out_left ∙ ap (λ (z : Asked). laid_at out 0 z.line) e; memory_left = ap (λ (z : Asked). z.memory) e }
