-- What a cycle answers, in numbers, by the state that it leaves. None of this is part of what a buyer must believe: the answer is the
-- cycle's own, whichever way it goes.
use Rattle.std.specs.Prelude.{ℕ, eqb, if◌then◌else◌}
use Rattle.std.specs.Int.Bits.{bit_and, bit_or}
use Rattle.model_types.specs.Counts.{worn}
use Rattle.c_cycle.specs.Values.{wear_in, wear_out}
use Rattle.c_cycle.specs.declared.StateNumbers.{StateNumbers}
use Rattle.c_cycle.specs.declared.BusNumbers.{BusNumbers}
use Rattle.c_cycle.specs.declared.AnswerNumbers.{AnswerNumbers}
use Rattle.c_cycle.specs.declared.WearNumbers.{WearNumbers}
use Rattle.c_ordinary.specs.Ordinary.{rested_as}

-- whether a poll gives data: a read does
unfoldable pub seen_in : ℕ → ℕ
seen_in kind = if eqb kind 0 then 1 else 0

-- what it gives: the status, or nothing
unfoldable pub shown_in : ℕ → ℕ → ℕ
shown_in kind sr = if eqb kind 0 then sr else 0

-- a read or an idle cycle, by what it leaves: a read gives the status that it leaves
abbrev pub polled_as : StateNumbers → ℕ → ℕ → ℕ → ℕ → ℕ → AnswerNumbers
polled_as n kind sr phase suspend left =
    record {
      seen = seen_in kind;
      value = shown_in kind sr;
      state = record {
        mode = 1;
        status = sr;
        phase = phase;
        suspend = suspend;
        left = left;
        «data» = n.data;
        address = n.address;
        wear = n.wear;
      };
    }

-- a write, by what it leaves
abbrev pub written_as : WearNumbers → ℕ → ℕ → ℕ → ℕ → ℕ → ℕ → ℕ → AnswerNumbers
written_as w mode sr phase suspend left unit address =
    record {
      seen = 0;
      value = 0;
      state = record {
        mode = mode;
        status = sr;
        phase = phase;
        suspend = suspend;
        left = left;
        «data» = unit;
        address = address;
        wear = w;
      };
    }

-- the counts after one more erase of a block
abbrev pub worn_in : WearNumbers → ℕ → WearNumbers
worn_in w k = wear_out (worn (wear_in w) k)

-- a value, and the state as it was
abbrev pub given_as : StateNumbers → ℕ → AnswerNumbers
given_as n v = record { seen = 1; value = v; state = n }

-- a refusal, and the state as it was
abbrev pub refused_as : StateNumbers → ℕ → AnswerNumbers
refused_as n number = record { seen = 2; value = number; state = n }

-- what is seen of an end, and the state at rest: a read gives the status that is left
abbrev pub ended_as : StateNumbers → ℕ → AnswerNumbers
ended_as n kind = rested_as n (seen_in kind) (shown_in kind (bit_or n.status 0x80)) 1 (bit_or n.status 0x80) 0

-- the status after a cut by VPP
abbrev pub cut_status : ℕ → ℕ → ℕ
cut_status sr bits = bit_or (bit_and sr 0xBF) bits

-- what is seen of a cut, and the state at rest: after a reset nothing, after a cut by VPP a read gives the status
unfoldable pub cut_as : StateNumbers → BusNumbers → ℕ → AnswerNumbers
cut_as n b bits =
    if eqb b.rp 0 then rested_as n 0 0 0 0x80 0
    else rested_as n (seen_in b.kind) (shown_in b.kind (cut_status n.status bits)) 1 (cut_status n.status bits) 0
