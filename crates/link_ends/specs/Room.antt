-- Bytes kept in memory that was taken before, as contracts see them. No standard speaks of them.
use Rattle.std.specs.Prelude.{ℕ, List, ◌++◌, ◌-◌, take, length, min}

-- the bytes that are kept, and how many more fit
pub record Room : Type 0 where
  pub taken : List ℕ
  pub room : ℕ

-- as many first bytes of the piece as fit are kept
abbrev pub after_put : Room → List ℕ → Room
after_put r piece =
    record {
      taken = r.taken ++ take (min (length piece) r.room) piece;
      room = r.room - min (length piece) r.room;
    }
