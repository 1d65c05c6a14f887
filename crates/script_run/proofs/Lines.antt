-- A trace line answered in its place, a mark alone, and a whole run.
use mathlib.Core.Path.{◌≡◌, refl, sym, ap, ◌∙◌}
use mathlib.Core.List.{List}
use Prim.Native.Nat.{ℕ, ◌+◌, ◌-◌, ◌≤◌, ◌<◌}
use native.Mathlib.Omega.{arith}
use lib.Dec.{ltb}
use lib.ListN.{length, take, drop}
use lib.Seq.{length-take-le}
use borrow.Author.Tests.{lt-ltb, le-ltb}
use borrow.Rule.Slice.PartMut.{put_mid, mid_of}
use Rattle.common.specs.Lists.{copied, overlaid}
use Rattle.common.proofs.Choice.{if_true, if_false}
use Rattle.model_types.specs.declared.State.{State}
use Rattle.trace_lines.specs.Lines.{cycle_stated}
use Rattle.trace_replay.specs.Answers.{printed_of, mark_of}
use Rattle.trace_replay.specs.Replays.{line_step, array_by, replayed_as, replayed_in, left_in_room, Used}
use Rattle.trace_replay.proofs.Claims.{eight_bytes}
use Rattle.script_run.specs.declared.Run.{Run}
use Rattle.script_run.specs.Inner.{line_run}
use Rattle.script_run.proofs.Laid.{put_laid}

-- ---- the line at x, whose 20 bytes the code takes as a part
twenty : (a : ℕ) → a + 20 - a ≡ 20
twenty a = omega arith

module _ (text : List ℕ) (x : Run) (xs rs : List ℕ) where
  pub line_state : (s : State) → s ≡ (line_step x.state (cycle_stated (take (x.at + 20 - x.at) (drop x.at text))) xs rs).state
      → record { at = x.at + 20; left = x.left - 1; used = x.used + 8; state = s } ≡ line_run text x xs rs
  line_state s e =
      let f : s ≡ (line_step x.state (cycle_stated (take 20 (drop x.at text))) xs rs).state = e ∙ ap (λ (n : ℕ). (line_step x.state (cycle_stated (take n (drop x.at text))) xs rs).state) (twenty x.at) in
      ap (λ (q : State). record { at = x.at + 20; left = x.left - 1; used = x.used + 8; state = q }) f

  pub line_array : (ys : List ℕ) → ys ≡ array_by x.state (cycle_stated (take (x.at + 20 - x.at) (drop x.at text))) xs rs
      → ys ≡ array_by x.state (cycle_stated (take 20 (drop x.at text))) xs rs
  line_array ys e = e ∙ ap (λ (n : ℕ). array_by x.state (cycle_stated (take n (drop x.at text))) xs rs) (twenty x.at)

  pub line_laid : (out zs : List ℕ) → x.used + 8 ≤ length out
      → zs ≡ copied (mid_of x.used (x.used + 8 - x.used) out) (printed_of (line_step x.state (cycle_stated (take (x.at + 20 - x.at) (drop x.at text))) xs rs))
      → put_mid x.used (x.used + 8 - x.used) out zs ≡ overlaid out x.used (printed_of (line_step x.state (cycle_stated (take 20 (drop x.at text))) xs rs))
  line_laid out zs h e =
      put_laid out (printed_of (line_step x.state (cycle_stated (take 20 (drop x.at text))) xs rs)) zs x.used (eight_bytes (line_step x.state (cycle_stated (take 20 (drop x.at text))) xs rs)) h
      (e ∙ ap (λ (n : ℕ). copied (mid_of x.used (x.used + 8 - x.used) out) (printed_of (line_step x.state (cycle_stated (take n (drop x.at text))) xs rs))) (twenty x.at))

-- ---- output in a room
module _ (room : ℕ) (ys before after : List ℕ) where
  pub room_short : room < length ys → before ≡ left_in_room room ys before after
  unfolding left_in_room
  room_short h = sym (if_true (ltb room (length ys)) before after (lt-ltb room (length ys) h))

  pub room_long : length ys ≤ room → after ≡ left_in_room room ys before after
  unfolding left_in_room
  room_long h = sym (if_false (ltb room (length ys)) before after (le-ltb room (length ys) h))

pub replayed_short : (room : ℕ) (ys : List ℕ) → room < length ys → replayed_as 37 0 ≡ replayed_in room ys
unfolding replayed_in
replayed_short room ys h = sym (if_true (ltb room (length ys)) (replayed_as 37 0) (replayed_as 0 (length ys)) (lt-ltb room (length ys) h))

pub replayed_long : (room : ℕ) (ys : List ℕ) → length ys ≤ room → replayed_as 0 (length ys) ≡ replayed_in room ys
unfolding replayed_in
replayed_long room ys h = sym (if_false (ltb room (length ys)) (replayed_as 37 0) (replayed_as 0 (length ys)) (le-ltb room (length ys) h))

-- ---- a mark alone
pub mark_length : (n : ℕ) → length (mark_of n) ≡ 7
unfolding mark_of
mark_length n = refl

module _ (n : ℕ) (out : List ℕ) where
  pub mark_short : length out < 7 → replayed_as 37 0 ≡ replayed_in (length out) (mark_of n)
  mark_short h = replayed_short (length out) (mark_of n) (let e = mark_length n in omega arith)

  pub mark_short_out : length out < 7 → out ≡ left_in_room (length out) (mark_of n) out (copied out (mark_of n))
  mark_short_out h = room_short (length out) (mark_of n) out (copied out (mark_of n)) (let e = mark_length n in omega arith)

  pub mark_long : 7 ≤ length out → replayed_as 0 7 ≡ replayed_in (length out) (mark_of n)
  mark_long h = ap (λ (m : ℕ). replayed_as 0 m) (sym (mark_length n)) ∙ replayed_long (length out) (mark_of n) (let e = mark_length n in omega arith)

  pub mark_long_out : (zs : List ℕ) → 7 ≤ length out → zs ≡ copied out (mark_of n) → zs ≡ left_in_room (length out) (mark_of n) out (copied out (mark_of n))
  mark_long_out zs h e = e ∙ room_long (length out) (mark_of n) out (copied out (mark_of n)) (let e = mark_length n in omega arith)

pub used_in : (n : ℕ) (out zs : List ℕ) → n ≤ length out → length zs ≡ length out → Used n zs
used_in n out zs h e = let k : n ≤ length zs = omega arith in (k, sym (length-take-le n zs k))

pub mark_used : (out zs : List ℕ) → 7 ≤ length out → length zs ≡ length out → Used 7 zs
mark_used out zs h e = used_in 7 out zs h e
