-- All transports, by their numbers, and the members that are down: this project's own.
use Rattle.std.specs.Prelude.{◌≡◌, ℕ, suc, ◌<◌, ◌-◌, Bool, true, false, List, [], ◌++◌, map, length, replicate, slice_set, slice_index_or}
use Rattle.std.specs.Prelude.{Option, Some, None, option_map}
use Rattle.plain_model.specs.Group.{Meaning}
use Rattle.gateway_wires.specs.Line.{LineState, acting, fallen_with, is_flying}

-- A transport stands at the place of its number, and a member at that of its own. None: it was never dialled.
pub record WiresState (U : Type 0) : Type 0 where
  pub lines : List (Option (LineState U))
  pub down : List Bool

-- no transport was dialled, and all 32 members are up
abbrev pub no_wires : {U : Type 0} → WiresState U
no_wires = record { lines = []; down = replicate 33 false }

abbrev pub line_of : {U : Type 0} → WiresState U → ℕ → Option (LineState U)
line_of w number = slice_index_or w.lines number None

abbrev pub is_down : {U : Type 0} → WiresState U → ℕ → Bool
is_down w member = slice_index_or w.down member false

-- the transport of this number comes to this, if it was dialled
abbrev pub on_line : {U : Type 0} → ℕ → (LineState U → LineState U) → WiresState U → WiresState U
on_line number change w = record w { lines = slice_set w.lines number (option_map change (line_of w number)) }

-- lines for all numbers up to this one
abbrev pub with_room : {A : Type 0} → ℕ → List (Option A) → List (Option A)
with_room number lines = lines ++ replicate (suc number - length lines) None

-- the transport of this number is dialled
abbrev pub with_line : {U : Type 0} → ℕ → LineState U → WiresState U → WiresState U
with_line number x w = record w { lines = slice_set (with_room number w.lines) number (Some x) }

-- a member goes down, with its transports
abbrev pub with_down : {U : Type 0} → ℕ → WiresState U → WiresState U
with_down member w = record { lines = map (option_map (fallen_with member)) w.lines; down = slice_set w.down member true }

abbrev pub with_up : {U : Type 0} → ℕ → WiresState U → WiresState U
with_up member w = record w { down = slice_set w.down member false }

-- what the data are after a member acted on a transport
abbrev pub shared_by : {S U : Type 0} → Meaning S U → ℕ → Option (LineState U) → S → S
shared_by m count None shared = shared
shared_by m count (Some x) shared = (acting m count x shared).shared

-- None has bytes on its way that its member will act on; or this is the lowest number of one that has.
abbrev pub IsFirstFlying : {U : Type 0} → WiresState U → Option ℕ → Type 0
IsFirstFlying w None = (number : ℕ) → is_flying (line_of w number) ≡ false
IsFirstFlying w (Some first) = (is_flying (line_of w first) ≡ true) × ((number : ℕ) → number < first → is_flying (line_of w number) ≡ false)
