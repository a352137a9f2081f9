-- What is traced of a text. Traces are this project's own.
use Rattle.std.specs.Prelude.{ℕ, List, Result, Ok, Err}
use Rattle.drda_trace.specs.declared.capture.Capture.{Capture}
use Rattle.drda_trace.specs.declared.line.Line.{Line}
use Rattle.drda_trace.specs.declared.trace.Traced.{Traced}
use Rattle.drda_trace.specs.Capture.{capture_of}
use Rattle.drda_trace.specs.Requests.{requests_of}
use Rattle.drda_trace.specs.Replies.{replies_of}
use Rattle.drda_trace.specs.Lines.{lines_of, are_whole}
use Rattle.drda_trace.specs.Text.{text_of}

-- the lines of a capture
abbrev pub capture_lines : Capture → List Line
capture_lines capture = lines_of (requests_of capture.requester) (replies_of capture.server)

abbrev pub traced_lines : List Line → Traced
traced_lines lines = record { text = text_of lines; whole = are_whole lines }

abbrev pub traced_by : Result Capture ℕ → Result Traced ℕ
traced_by (Ok capture) = Ok (traced_lines (capture_lines capture))
traced_by (Err line) = Err line

-- the trace of the capture that a text is, or its first line that is none of one
unfoldable pub trace_of : List ℕ → Result Traced ℕ
trace_of text = traced_by (capture_of text)
