-- A record that is taken is where the code's own limits are not met.
use mathlib.Core.Path.{◌≡◌, subst}
use Prim.Native.Nat.{ℕ, ◌+◌, ◌<◌}
use native.Mathlib.Omega.{arith}
use lib.Dec.{ltb}
use borrow.Author.Tests.{lt-ltb}
use Rattle.common.proofs.Choice.{if_true}
use Rattle.device.specs.Parts.{length_of}
use Rattle.loader.specs.declared.Loader.{Loader}
use Rattle.loader_moves.specs.Inner.{past}
use Rattle.loader_steps.specs.Inner.{reach}
use Rattle.loader_steps.specs.Addresses.{first_address}
use Rattle.loader_steps.specs.Inner.{here_of}
use Rattle.loader_steps.specs.Front.{step_number}
use Rattle.loader_steps.proofs.SmallAddresses.{length_small}
use Rattle.loader_steps.proofs.StartAndStep.{taken}

pub here_is : (l : Loader) (w sc : ℕ) → step_number l w sc ≡ 0 → here_of l ≡ first_address l + l.place
unfolding here_of
here_is l w sc e =
    let t = taken l w sc e in
    let h : l.place < length_of l.part l.block = subst (λ (n : ℕ). l.place < n) t.wanted t.place in
    if_true (ltb l.place reach) (first_address l + l.place) (first_address l) (lt-ltb l.place reach (omega (arith, length_small l.part l.block)))

pub past_is : (l : Loader) (w sc : ℕ) → step_number l w sc ≡ 0 → past l.place w ≡ l.place + 1
unfolding past
past_is l w sc e = if_true (ltb l.place w) (l.place + 1) l.place (lt-ltb l.place w (taken l w sc e).place)
