-- Bytes: numbers from 0 to 255, eight bits each (DRDA, volume 3, counts everything that is sent in them).
use Rattle.std.specs.Prelude.{ℕ, ◌<◌, List, All}

-- each number of the list is a byte
abbrev pub AreBytes : List ℕ → Type 0
AreBytes bytes = All (λ byte. byte < 256) bytes
