-- The fields of a DSS as they stand in its bytes: DRDA, volume 3, DSS.
use Rattle.std.specs.Prelude.{ℕ, zero, suc, ◌+◌, ◌*◌, ◌/◌, ◌%◌, Bool, not, ◌&&◌, ◌||◌, ◌==◌, List, [], ◌++◌, length, take, drop, slice_index, nat_lt}
use Rattle.std.specs.Prelude.{nat_le, if◌then◌else◌, Option, Some, None}
use Rattle.dss_frame.specs.declared.dss.Kind.{Kind}
use Rattle.dss_frame.specs.declared.dss.Kind.TheVariants.{Request, Reply, Object}
use Rattle.dss_frame.specs.declared.dss.Side.{Side}
use Rattle.dss_frame.specs.declared.dss.Side.TheVariants.{Requests, Replies}
use Rattle.dss_frame.specs.declared.dss.Dss.{Dss}
use Rattle.dss_frame.specs.Dss.{magic}
use Rattle.dss_frame.specs.declared.fault.Why.{Why}
use Rattle.dss_frame.specs.declared.fault.Why.TheVariants.{Short, NoD0, Format, Continue}
use Rattle.dss_frame.specs.declared.segments.Extent.{Extent}
use Rattle.dss_frame.specs.declared.segments.Extent.TheVariants.{Awaits, Ends, Fails}

-- DSS: the number in the two bytes at a place, the higher first
abbrev pub number_at : ℕ → List ℕ → ℕ
number_at place bytes = 256 * slice_index bytes place + slice_index bytes (place + 1)

-- DSS: the length of the segment that the bytes begin with is in the low 15 bits of its first two bytes.
abbrev pub segment_size : List ℕ → ℕ
segment_size bytes = number_at 0 bytes % 32768

-- DSS: their top bit says that another segment follows.
abbrev pub continues : List ℕ → Bool
continues bytes = nat_le 32768 (number_at 0 bytes)

-- the bit of this value is set in the byte
abbrev pub has_bit : ℕ → ℕ → Bool
has_bit value byte = byte / value % 2 == 1

-- DSS: the low four bits of the format byte are the kind.
abbrev pub kind_of : ℕ → Kind
kind_of format = if format % 16 == 1 then Request else (if format % 16 == 2 then Reply else Object)

-- DSS: a requester sends requests and objects, a server replies and objects. That the other kinds are
-- refused is this project's choice.
abbrev pub is_kind_of : Side → ℕ → Bool
is_kind_of Requests low = low == 1 || low == 3
is_kind_of Replies low = low == 2 || low == 3

-- The format byte is one that is read: a kind of that side, bit 80 clear, and bit 10 only where bit 40 is set, since the
-- next DSS has the same correlation number only where there is one. DSS; the refusal of bit 80 is this
-- project's choice.
abbrev pub is_format_of : Side → ℕ → Bool
is_format_of side format =
    is_kind_of side (format % 16) && (not (has_bit 128 format) && (not (has_bit 16 format) || has_bit 64 format))

-- The first field of the header that has come whole and is none of a DSS: a length below the header's own six bytes, a
-- third byte that isn't D0, a format byte that isn't read. DSS.
unfoldable pub header_fault : Side → List ℕ → Option Why
header_fault side bytes =
    if nat_le 2 (length bytes) && nat_lt (segment_size bytes) 6 then Some Short
    else (if nat_le 3 (length bytes) && not (slice_index bytes 2 == magic) then Some NoD0
    else (if nat_le 4 (length bytes) && not (is_format_of side (slice_index bytes 3)) then Some Format
    else None))

-- DSS: where that field begins
abbrev pub field_offset : Why → ℕ
field_offset Short = 0
field_offset NoD0 = 2
field_offset Format = 3
field_offset Continue = 6

-- What the segments from an offset on come to, of which there are at most count: more bytes are awaited, or the last one
-- ends there, or a length is below its own two bytes and one of body. DSS; that a segment before the last
-- needn't be full is this project's choice.
unfoldable pub segments_extent : ℕ → ℕ → List ℕ → Extent
segments_extent zero offset bytes = Awaits
segments_extent (suc count) offset bytes =
    if nat_lt (length bytes) 2 then Awaits
    else (if nat_lt (segment_size bytes) 3 then Fails offset Continue
    else (if nat_lt (length bytes) (segment_size bytes) then Awaits
    else (if continues bytes then segments_extent count (offset + segment_size bytes) (drop (segment_size bytes) bytes)
    else Ends (offset + segment_size bytes))))

abbrev pub extent_by : Option Why → List ℕ → Extent
extent_by (Some why) bytes = Fails (field_offset why) why
extent_by None bytes = segments_extent (length bytes) 0 bytes

-- What is known of the DSS that begins with these bytes: DSS. It has no more segments than bytes.
unfoldable pub extent_of : Side → List ℕ → Extent
extent_of side bytes = extent_by (header_fault side bytes) bytes

-- What the segments hold, of which there are at most count: the first behind so many bytes, each further one behind its
-- length. DSS.
unfoldable pub body_of : ℕ → ℕ → List ℕ → List ℕ
body_of zero skip bytes = []
body_of (suc count) skip bytes =
    drop skip (take (segment_size bytes) bytes)
    ++ (if continues bytes then body_of count 2 (drop (segment_size bytes) bytes) else [])

-- DSS: the DSS that these bytes are, all of them
unfoldable pub dss_of : List ℕ → Dss
dss_of bytes =
    record {
      kind = kind_of (slice_index bytes 3);
      chained = has_bit 64 (slice_index bytes 3);
      same = has_bit 16 (slice_index bytes 3);
      go_on = has_bit 32 (slice_index bytes 3);
      corr = number_at 4 bytes;
      body = body_of (length bytes) 6 bytes;
    }
