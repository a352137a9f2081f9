use Rattle.std.proofs.Common.{◌≡◌, ◌-◌, List, ℕ, length, take, drop, ap, sym, ◌∙◌, arith}
use Rattle.std.specs.Prelude.{option_map}
use Rattle.std.proofs.lemmas.List.{take_all, length-drop}
use Rattle.hex_lines.specs.Hex.{bytes_of_hex}
use Rattle.drda_trace.specs.Capture.{line_added, with_requester, with_server}
use Rattle.drda_trace.proofs.Capturing.{line_skipped, line_of_requester, line_of_server, line_of_none, side_more}
use Rattle.drda_trace.proofs.capture.Capture.add_line.Goals as goal

-- the digits of a line, as the code cuts them
digits_are : (line : List ℕ) → take (length line - 2) (drop 2 line) ≡ drop 2 line
digits_are line = take_all (length line - 2) (drop 2 line) (omega (arith, length-drop 2 line))

pub returns-then-is_skipped : goal.returns-then-is_skipped
returns-then-is_skipped c = line_skipped c.args.self.now c.args.line.now c.if-is_skipped.ensures

pub returns-then-is_from : goal.returns-then-is_from
returns-then-is_from c =
    side_more c.push_hex.result c.args.self.now.requester c.push_hex.new.stream (λ
    (bytes : List ℕ). record { requester = bytes; server = c.args.self.now.server })
    _ (line_added c.args.self.now c.args.line.now)
    (line_of_requester c.args.self.now c.args.line.now c.if-is_skipped.ensures c.if-is_from.ensures.from
    ∙ ap (λ (digits : List ℕ). option_map (with_requester c.args.self.now) (bytes_of_hex digits)) (sym (digits_are c.args.line.now))) c.push_hex.ensures

pub returns-then-is_from-2 : goal.returns-then-is_from-2
returns-then-is_from-2 c =
    side_more c.push_hex-then-is_from-2.result c.args.self.now.server c.push_hex-then-is_from-2.new.stream
    (λ (bytes : List ℕ). record { requester = c.args.self.now.requester; server = bytes })
    _ (line_added c.args.self.now c.args.line.now)
    (line_of_server c.args.self.now c.args.line.now c.if-is_skipped.ensures c.if-is_from.ensures.from c.if-is_from-2.ensures.from
    ∙ ap (λ (digits : List ℕ). option_map (with_server c.args.self.now) (bytes_of_hex digits)) (sym
    (digits_are c.args.line.now))) c.push_hex-then-is_from-2.ensures

pub returns : goal.returns
returns c =
    line_of_none c.args.self.now c.args.line.now c.if-is_skipped.ensures c.if-is_from.ensures.from c.if-is_from-2.ensures.from
