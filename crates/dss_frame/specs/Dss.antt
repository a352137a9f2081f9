-- The canonical spelling of a DSS (data stream structure): DRDA, volume 3, DSS.
use Rattle.std.specs.Prelude.{ℕ, zero, suc, ◌+◌, ◌/◌, Bool, List, [], ◌∷◌, ◌++◌, length, take, drop, nat_lt, if◌then◌else◌}
use Rattle.std.specs.Int.{w16, to_be_bytes}
use Rattle.dss_frame.specs.declared.dss.Kind.{Kind}
use Rattle.dss_frame.specs.declared.dss.Kind.TheVariants.{Request, Reply, Object}
use Rattle.dss_frame.specs.declared.dss.Dss.{Dss}

-- DSS: the low four bits of the format byte say what the DSS holds.
abbrev pub kind_number : Kind → ℕ
kind_number Request = 1
kind_number Reply = 2
kind_number Object = 3

-- a bit of this value, where it is set
abbrev pub flag : Bool → ℕ → ℕ
flag set value = if set then value else 0

-- DSS: the format byte. 40 is set where the DSS is chained to the next one, 20 where the chain goes on
-- after an error, 10 where the next one has the same correlation number.
abbrev pub format_byte : Dss → ℕ
format_byte d = flag d.chained 64 + flag d.go_on 32 + flag d.same 16 + kind_number d.kind

-- DSS: the length of a segment in two bytes, the higher first. The top bit is set where another
-- segment follows.
abbrev pub segment_length : ℕ → Bool → List ℕ
segment_length bytes continues = to_be_bytes w16 (bytes + flag continues 32768)

-- DSS: how many bytes of body the first segment holds, at most, which has 32,767 bytes and six of them
-- before its body
abbrev pub first_room : ℕ
first_room = 32761

-- DSS: how many a further segment holds, at most, which has two bytes before its part of the body
abbrev pub further_room : ℕ
further_room = 32765

-- how many further segments hold this many bytes, where all but the last are full: this project's choice
abbrev pub further_count : ℕ → ℕ
further_count bytes = (bytes + 32764) / further_room

-- DSS: further segments, of which there are this many: two bytes of length, which count themselves,
-- and the next part of the body. That all but the last are full is this project's choice.
unfoldable pub further : ℕ → List ℕ → List ℕ
further zero body = []
further (suc count) body =
    segment_length (2 + length (take further_room body)) (nat_lt 0 count) ++ (take further_room body ++ further count (drop further_room body))

-- DSS: the third byte of each DSS, D0
abbrev pub magic : ℕ
magic = 208

-- DSS: the header of the first segment: its length, D0, the format byte and the correlation number.
abbrev pub header : Dss → ℕ → Bool → List ℕ
header d bytes continues = segment_length bytes continues ++ (magic ∷ format_byte d ∷ to_be_bytes w16 d.corr)

-- the further segments of a DSS
abbrev pub further_segments : List ℕ → List ℕ
further_segments rest = further (further_count (length rest)) rest

-- The canonical spelling, which is this project's choice: the first segment is full before there is a further one.
unfoldable pub canonical : Dss → List ℕ
canonical d =
    header d (6 + length (take first_room d.body)) (nat_lt 0 (length (drop first_room d.body)))
    ++ (take first_room d.body ++ further_segments (drop first_room d.body))
