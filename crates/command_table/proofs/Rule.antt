-- The table is the command rules: one test over its 1,792 entries, and from it each entry for every part.
use mathlib.Core.Path.{◌≡◌, refl, sym, ap, ap₂, subst, ◌∙◌}
use mathlib.Core.Bool.{Bool, true, false}
use mathlib.Core.List.{List, []}
use Prim.Native.Nat.{ℕ, ◌+◌, ◌*◌, ◌/◌, ◌%◌, ◌<◌}
use native.Mathlib.Omega.{arith}
use lib.Dec.{eqb}
use lib.ListN.{length, get_or}
use borrow.Author.Tests.{eqb-true}
use Rattle.common.proofs.Choice.{and_left, and_right}
use Rattle.device.specs.Parts.{is_large}
use Rattle.device.specs.declared.Part.{Part}
use Rattle.model_types.specs.declared.Phase.{Phase}
use Rattle.model_types.specs.declared.Phase.TheVariants.{Free, EraseAwaited, DataAwaited, Programming, Erasing, Suspending, Suspended}
use Rattle.model_types.specs.declared.Action.{Action}
use Rattle.model_types.specs.declared.Action.TheVariants.{ToArray, ToIdentifier, ToStatus, Clear, AwaitErase, AwaitData, Confirm, Store, WrongSecond, Suspend, Resume, Ignore, Refuse}
use Rattle.model_types.specs.declared.Cycle.{Cycle}
use Rattle.model_commands.specs.Commands.{command_of, asks_program, first_write, after_erase, while_erasing, while_suspending, while_suspended, action_of}
use Rattle.command_table.specs.Actions.{row_of, phase_at, for_large, action_for, number_for, entry_in, entry_at, follows_for, part_of, follows, each, line_follows}
use Rattle.command_table.specs.Table.{command_table}
use Rattle.command_table.proofs.Entries.{at}

-- every entry follows its rule: one test, computed over the table
pub all_lines : each line_follows 0 command_table ≡ true
unfolding command_table line_follows follows follows_for action_for for_large is_large asks_program first_write after_erase while_erasing while_suspending while_suspended
all_lines = refl

-- there are 112 lines
pub lines : length command_table ≡ 112
unfolding command_table
lines = refl

-- an action is told by its number
numbered : (part : Part) (a : Action) → action_for part (number_for a) ≡ a
unfolding action_for
numbered part ToArray = refl
numbered part ToIdentifier = refl
numbered part ToStatus = refl
numbered part Clear = refl
numbered part AwaitErase = refl
numbered part AwaitData = refl
numbered part Confirm = refl
numbered part Store = refl
numbered part WrongSecond = refl
numbered part Suspend = refl
numbered part Resume = refl
numbered part Ignore = refl
numbered part Refuse = refl

-- what the test says of an entry and a part
tested : (part : Part) (line column x : ℕ) → follows_for part line column x ≡ true
    → action_for part x ≡ action_of part (phase_at (line / 16)) (line % 16 * 16 + column)
unfolding follows_for
tested part line column x h =
    sym (numbered part (action_for part x)) ∙ ap (λ (n : ℕ). action_for part n) (eqb-true _ _ h)
    ∙ numbered part (action_of part (phase_at (line / 16)) (line % 16 * 16 + column))

-- of a part no more is asked than whether it is one of 5 to 8
same_number : (p q : Part) (x : ℕ) → is_large p ≡ is_large q → action_for p x ≡ action_for q x
unfolding action_for for_large
same_number p q x e = rw e refl

same_rule : (p q : Part) (ph : Phase) (b : ℕ) → is_large p ≡ is_large q → action_of p ph b ≡ action_of q ph b
unfolding first_write asks_program
same_rule p q Free b e = rw e refl
same_rule p q EraseAwaited b e = refl
same_rule p q DataAwaited b e = refl
same_rule p q (Programming x) b e = refl
same_rule p q Erasing b e = refl
same_rule p q (Suspending n) b e = refl
same_rule p q Suspended b e = refl

sized : (l : Bool) → is_large (part_of l) ≡ l
unfolding is_large
sized true = refl
sized false = refl

-- the test at a line, and at an entry
at_line : (line : ℕ) → line < 112 → line_follows line (get_or command_table line []) ≡ true
at_line line h = at [] line_follows command_table all_lines line (subst (λ (n : ℕ). line < n) (sym lines) h)

at_entry : (line column : ℕ) → line < 112 → column < 16 → follows line column (entry_in line column) ≡ true
unfolding line_follows entry_in
at_entry line column h w =
    let row : List ℕ = get_or command_table line [] in
    let n : length row ≡ 16 = eqb-true _ _ (and_left (eqb (length row) 16) (each (follows line) 0 row) (at_line line h)) in
    at 0 (follows line) row (and_right (eqb (length row) 16) (each (follows line) 0 row) (at_line line h)) column (subst (λ (m : ℕ). column < m) (sym n) w)

-- the same for a part of either kind
at_part : (l : Bool) (line column : ℕ) → line < 112 → column < 16 → follows_for (part_of l) line column (entry_in line column) ≡ true
unfolding follows
at_part true line column h w = and_left (follows_for (part_of true) line column (entry_in line column)) _ (at_entry line column h w)
at_part false line column h w = and_right (follows_for (part_of true) line column (entry_in line column)) _ (at_entry line column h w)

-- each entry, for every part
pub at_any_part : (part : Part) (line column : ℕ) → line < 112 → column < 16
    → action_for part (entry_in line column) ≡ action_of part (phase_at (line / 16)) (line % 16 * 16 + column)
at_any_part part line column h w =
    let l : Bool = is_large part in
    let x : ℕ = entry_in line column in
    let e : is_large part ≡ is_large (part_of l) = sym (sized l) in
    same_number part (part_of l) x e ∙ tested (part_of l) line column x (at_part l line column h w)
    ∙ sym (same_rule part (part_of l) (phase_at (line / 16)) (line % 16 * 16 + column) e)

-- the same by row and byte
in_row : (part : Part) (row b : ℕ) → row < 7 → b < 256 → action_for part (entry_in (row * 16 + b / 16) (b % 16)) ≡ action_of part (phase_at row) b
in_row part row b r h =
    let q : (row * 16 + b / 16) / 16 ≡ row = omega (arith, h) in
    let m : (row * 16 + b / 16) % 16 * 16 + b % 16 ≡ b = omega (arith, h) in
    at_any_part part (row * 16 + b / 16) (b % 16) (omega (arith, r, h)) (omega arith) ∙ ap₂ (λ (i j : ℕ). action_of part (phase_at i) j) q m

-- the table's action is the command rules' action, for every part, phase and byte
pub byte_is_rule : (part : Part) (ph : Phase) (b : ℕ) → b < 256 → action_for part (entry_at (row_of ph) b) ≡ action_of part ph b
unfolding entry_at
byte_is_rule part Free b h = in_row part 0 b (omega arith) h
byte_is_rule part EraseAwaited b h = in_row part 1 b (omega arith) h
byte_is_rule part DataAwaited b h = in_row part 2 b (omega arith) h
byte_is_rule part (Programming x) b h = in_row part 3 b (omega arith) h
byte_is_rule part Erasing b h = in_row part 4 b (omega arith) h
byte_is_rule part (Suspending n) b h = in_row part 5 b (omega arith) h
byte_is_rule part Suspended b h = in_row part 6 b (omega arith) h

-- and so for every cycle
pub at_any_cycle : (part : Part) (ph : Phase) (c : Cycle) → action_for part (entry_at (row_of ph) (command_of c)) ≡ action_of part ph (command_of c)
unfolding command_of
at_any_cycle part ph c = byte_is_rule part ph (c.data % 256) (omega arith)
