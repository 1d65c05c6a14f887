-- What states and counts of erases show.
use Rattle.std.specs.Prelude.{ℕ, ◌^◌, ◌-◌, true, false, List, [], ◌∷◌, ◌++◌, encode_utf8}
use Rattle.std.specs.Fmt.{decimal, digits, padded_integral, format_spec}
use Rattle.model_types.specs.declared.Cycle.{Cycle}
use Rattle.model_types.specs.declared.Phase.{Phase}
use Rattle.model_types.specs.declared.Phase.TheVariants.{Free, EraseAwaited, DataAwaited, Programming, Erasing, Suspending, Suspended}
use Rattle.model_types.specs.declared.State.{State}
use Rattle.model_types.specs.declared.Wear.{Wear}
use Rattle.vectors_states.specs.Cycles.{kind_letter}
use Rattle.vectors_states.specs.Letters.{mode_letter, phase_letter}

-- a number in so many hex digits at least
abbrev pub hex_text : ℕ → ℕ → List ℕ
hex_text width n = padded_integral (format_spec 32 0 4 width (2 ^ 64 - 1)) false [] (digits 16 true n)

-- a number in so many decimal digits at least
abbrev pub decimal_text : ℕ → ℕ → List ℕ
decimal_text width n = padded_integral (format_spec 32 0 4 width (2 ^ 64 - 1)) false [] (decimal n)

-- a space and a count
abbrev pub count_text : ℕ → List ℕ
count_text n = 32 ∷ decimal n

-- the counts of erases begun, block by block
abbrev pub wear_text : Wear → List ℕ
wear_text w =
    count_text w.block0 ++ (count_text w.block1 ++ (count_text w.block2 ++ (count_text w.block3
    ++ (count_text w.block4 ++ (count_text w.block5 ++ count_text w.block6)))))

-- status, and the letters of mode and phase
abbrev pub shape_text : State → List ℕ
shape_text s = hex_text 2 s.status ++ (32 ∷ (encode_utf8 (mode_letter s.mode) ++ (32 ∷ encode_utf8 (phase_letter s.phase))))

-- the data or the count of a phase, four lines where it has none
abbrev pub data_text : Phase → List ℕ
data_text Free = 45 ∷ 45 ∷ 45 ∷ 45 ∷ []
data_text EraseAwaited = 45 ∷ 45 ∷ 45 ∷ 45 ∷ []
data_text DataAwaited = 45 ∷ 45 ∷ 45 ∷ 45 ∷ []
data_text (Programming value) = hex_text 4 value
data_text Erasing = 45 ∷ 45 ∷ 45 ∷ 45 ∷ []
data_text (Suspending left) = hex_text 4 left
data_text Suspended = 45 ∷ 45 ∷ 45 ∷ 45 ∷ []

-- kind, RP#, WP#, VPP, address and data of a cycle
abbrev pub cycle_text : Cycle → List ℕ
cycle_text c =
    encode_utf8 (kind_letter c.kind) ++ (32 ∷ (decimal_text 3 c.pins.rp ++ (32 ∷ (decimal_text 3 c.pins.wp ++ (32 ∷ [])))))
    ++ (decimal_text 10 c.pins.vpp ++ (32 ∷ (hex_text 8 c.address ++ (32 ∷ hex_text 4 c.«data»))))
