-- What reader and writer leave in the lent buffer, as laws that they cite.
use mathlib.Core.Path.{◌≡◌, sym, ◌∙◌, ap}
use mathlib.Core.List.{List, ◌++◌}
use Prim.Native.Nat.{ℕ, ◌+◌, ◌*◌, ◌/◌, ◌-◌, ◌≤◌, ◌<◌}
use native.Mathlib.Omega.{arith}
use lib.ListN.{length, get_or, take, drop}
use lib.Seq.{length-take-le}
use Rattle.file_codec.specs.File.{Outcome, refused, made, in_room, left_in, payload_of, places_of, reader_of, answered_told, told_by}
use Rattle.file_codec.proofs.Sizes.{sized}
use Rattle.file_codec.proofs.Outcomes.{length_right, reader_lets, room_37, room_made}
use Rattle.file_codec.proofs.Told.{told_made}
use Rattle.std.specs.Prelude.{Ok}

-- a file that was judged sound with k bytes: its payload is the first k of its payload places
pub record Held (most : ℕ) (f : List ℕ) (asked k : ℕ) : Type 0 where
  pub whole : length f ≡ 512 * (length f / 512)
  pub upper : k ≤ 505 * (length f / 512)
  pub lower : 505 * (length f / 512) < k + 505
  pub size : length (take k (places_of (length f / 512) f)) ≡ k
  pub outcome : reader_of most f asked ≡ made (take k (places_of (length f / 512) f))

pub held : (most : ℕ) (f : List ℕ) (asked k : ℕ) → answered_told (Ok k) ≡ told_by (reader_of most f asked) → Held most f asked k
held most f asked k e =
    let j = told_made k (reader_of most f asked) e in
    let p = j.0 in
    let b = reader_lets most f asked p j.1 in
    let n = length f / 512 in
    let r = length_right most (length f) b.0 in
    let s = sized n (get_or f 0 0) 0 n f r.1 (let q : 0 + n ≡ n = omega arith in q) r.0 b.1 in
    let kp : length (payload_of n f) ≡ k = ap length b.3 ∙ j.2 in
    let pl : payload_of n f ≡ take k (places_of n f) = s.placed ∙ ap (λ (m : ℕ). take m (places_of n f)) kp in
    record {
      whole = r.0;
      upper = omega (arith, s.most);
      lower = omega (arith, s.least);
      size = sym (ap length pl) ∙ kp;
      outcome = j.1 ∙ ap made (sym b.3 ∙ pl);
    }

-- what was written into the front of the buffer, with what lies behind it
pub front_of : (out written : List ℕ) (o : Outcome) (bytes : List ℕ) (k : ℕ) → o ≡ made bytes → length bytes ≡ k → written ≡ bytes
    → written ++ drop (k - 0) (drop 0 out) ≡ left_in out o
front_of out written o bytes k e l w =
    let z : k - 0 ≡ length bytes = omega arith in
    ap (λ (x : List ℕ). x ++ drop (k - 0) out) w ∙ ap (λ (m : ℕ). bytes ++ drop m out) z ∙ sym (ap (left_in out) e)

-- the first k bytes of a buffer that has them
pub cut : (out : List ℕ) (k : ℕ) → k ≤ length out → length (take (k - 0) out) ≡ k
cut out k h = let z : k - 0 ≡ k = omega arith in ap (λ (m : ℕ). length (take m out)) z ∙ length-take-le k out h

-- room for fewer than those k bytes, and room for all
pub too_short : {most : ℕ} {f : List ℕ} {asked k : ℕ} (room : ℕ) → Held most f asked k → room < k → in_room room (reader_of most f asked) ≡ refused 37
too_short {f = f} {k = k} room h r = ap (in_room room) h.outcome ∙ room_37 room (take k (places_of (length f / 512) f)) (omega (arith, h.size))

pub long_enough : {most : ℕ} {f : List ℕ} {asked k : ℕ} (room : ℕ) → Held most f asked k → k ≤ room
    → in_room room (reader_of most f asked) ≡ made (take k (places_of (length f / 512) f))
long_enough {f = f} {k = k} room h r = ap (in_room room) h.outcome ∙ room_made room (take k (places_of (length f / 512) f)) (omega (arith, h.size))
