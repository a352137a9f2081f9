-- The text of a trace. Traces are this project's own; names of code points are those of DDM, volume 3.
use Rattle.std.specs.Prelude.{ℕ, Bool, List, [], ◌∷◌, ◌++◌, codes, if◌then◌else◌, Option, Some, None}
use Rattle.std.specs.Int.{w16, to_be_bytes}
use Rattle.std.specs.List.{flat_map}
use Rattle.std.specs.Fmt.{decimal}
use Rattle.hex.specs.Hex.{encode_upper}
use Rattle.hex_lines.specs.Lines.{line_end}
use Rattle.dss_frame.specs.declared.dss.Side.{Side}
use Rattle.dss_frame.specs.declared.dss.Side.TheVariants.{Requests, Replies}
use Rattle.ddm_codepoints.specs.CodeClass.{name_of}
use Rattle.drda_trace.specs.declared.line.Line.{Line}
use Rattle.drda_trace.specs.declared.line.Line.TheVariants.{Chain, Request, Object, Reply, Triplet, TripletFault, Number, Unanswered, Extra, Fault, Rest}
use Rattle.drda_trace.specs.Lines.{are_whole}

-- a correlation number or a code point, in four digits
abbrev pub shown_number : ℕ → List ℕ
shown_number number = encode_upper (to_be_bytes w16 number)

abbrev pub shown_byte : ℕ → List ℕ
shown_byte byte = encode_upper (byte ∷ [])

abbrev pub name_or : ℕ → Option (List ℕ) → List ℕ
name_or code (Some name) = name
name_or code None = shown_number code

-- the standard's name of a code point, or its digits where it has none
abbrev pub shown_code : ℕ → List ℕ
shown_code code = name_or code (name_of code)

-- the same, with a dash for no object
abbrev pub shown_object : Option ℕ → List ℕ
shown_object None = codes "-"
shown_object (Some code) = shown_code code

-- a DSS: its correlation number, what it has, and how long its body is
abbrev pub dss_text : ℕ → List ℕ → ℕ → List ℕ
dss_text corr name len = shown_number corr ++ (codes " " ++ (name ++ (codes " " ++ (decimal len ++ line_end))))

abbrev pub side_mark : Side → List ℕ
side_mark Requests = codes ">"
side_mark Replies = codes "<"

unfoldable pub line_text : Line → List ℕ
line_text (Chain chain) = codes "chain " ++ (decimal chain ++ line_end)
line_text (Request corr code len) = codes "request " ++ dss_text corr (shown_code code) len
line_text (Object corr code len) = codes "object " ++ dss_text corr (shown_object code) len
line_text (Reply corr code len) = codes "reply " ++ dss_text corr (shown_object code) len
line_text (Triplet len kind) = codes "triplet " ++ (decimal len ++ (codes " " ++ (shown_byte kind ++ line_end)))
line_text TripletFault = codes "triplet fault" ++ line_end
line_text (Number chain) = codes "number " ++ (decimal chain ++ line_end)
line_text (Unanswered chain) = codes "unanswered " ++ (decimal chain ++ line_end)
line_text (Extra count) = codes "extra " ++ (decimal count ++ line_end)
line_text (Fault side at err) =
    codes "fault " ++ (side_mark side ++ (codes " " ++ (decimal at ++ (codes " " ++ (shown_byte err ++ line_end)))))
line_text (Rest side count) = codes "rest " ++ (side_mark side ++ (codes " " ++ (decimal count ++ line_end)))

-- the last line
abbrev pub verdict : Bool → List ℕ
verdict whole = (if whole then codes "whole" else codes "not whole") ++ line_end

abbrev pub text_of : List Line → List ℕ
text_of lines = flat_map line_text lines ++ verdict (are_whole lines)
