-- A whole life of a reader: pieces that it is fed, and DSSs that are taken in between. No standard speaks of it: this is
-- this project's own.
use Rattle.std.specs.Prelude.{ℕ, List, [], ◌∷◌, ◌++◌, take, drop}
use Rattle.dss_frame.specs.declared.dss.Placed.{Placed}
use Rattle.dss_frame.specs.Reading.{View, fed}

-- what is done with a reader
pub data Call : Type 0 where
  Feed : List ℕ → Call
  Take : Call

abbrev pub after_call : View → Call → View
after_call v (Feed piece) = fed v piece
after_call v Take = record v { whole = drop 1 v.whole }

-- the DSS that a call hands out, if it does
abbrev pub handed_out : View → Call → List Placed
handed_out v (Feed piece) = []
handed_out v Take = take 1 v.whole

-- the reader after all of these calls
abbrev pub after_calls : View → List Call → View
after_calls v [] = v
after_calls v (call ∷ calls) = after_calls (after_call v call) calls

-- the DSSs that they hand out, in order
abbrev pub taken_by : View → List Call → List Placed
taken_by v [] = []
taken_by v (call ∷ calls) = handed_out v call ++ taken_by (after_call v call) calls

-- the bytes of all pieces, joined
abbrev pub fed_by : List Call → List ℕ
fed_by [] = []
fed_by (Feed piece ∷ calls) = piece ++ fed_by calls
fed_by (Take ∷ calls) = fed_by calls
