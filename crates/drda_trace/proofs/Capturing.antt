-- What is left to read of a capture, added to what was read so far, is the whole.
use Rattle.std.proofs.Common.{◌≡◌, ℕ, ◌+◌, ◌<◌, ◌≤◌, Bool, true, false, List, [], ◌∷◌, ◌++◌, cond, length}
use Rattle.std.proofs.Common.{drop, Option, Some, None, Result, Ok, Err, refl, ap, sym, ◌∙◌, arith}
use Rattle.std.specs.Prelude.{option_map, IfOk}
use Rattle.std.proofs.lemmas.Bool.{lt-ltb, le-ltb}
use Rattle.std.proofs.lemmas.List.{nil_from_length}
use Rattle.hex_lines.specs.Lines.{lines_of, most_bytes, is_skipped}
use Rattle.hex_lines.specs.Hex.{bytes_of_hex}
use Rattle.drda_trace.specs.declared.capture.Capture.{Capture}
use Rattle.drda_trace.specs.Capture.{after_line, line_added, lines_added, capture_of, empty_capture, is_from}
use Rattle.drda_trace.specs.Capture.{requester_mark, server_mark, with_requester, with_server}

-- the lines of the rest, the first of which has this number, added to the capture, say what all lines say
pub record ReadSoFar (number : ℕ) (capture : Capture) (rest text : List ℕ) : Type 0 where
  pub same : lines_added number capture (lines_of rest) ≡ lines_added 1 empty_capture (lines_of text)
  pub counted : number + length rest ≤ length text + 1
  pub short : length text ≤ most_bytes

lines_added-cons : (number : ℕ) (capture : Capture) (rest line after : List ℕ) (o : Option Capture) → lines_of rest ≡ line ∷ lines_of after →
    line_added capture line ≡ o →
    lines_added number capture (lines_of rest) ≡ after_line number o (λ next. lines_added (number + 1) next (lines_of after))
unfolding lines_added
lines_added-cons number capture rest line after o e added =
    ap (lines_added number capture) e ∙ ap (λ answer. after_line number answer (λ next. lines_added (number + 1) next (lines_of after))) added

pub capture_of-long : (text : List ℕ) → most_bytes < length text → capture_of text ≡ Err 0
unfolding capture_of
capture_of-long text long = ap (λ b. cond b (Err 0) (lines_added 1 empty_capture (lines_of text))) (lt-ltb most_bytes (length text) long)

capture_of-short : (text : List ℕ) → length text ≤ most_bytes → capture_of text ≡ lines_added 1 empty_capture (lines_of text)
unfolding capture_of
capture_of-short text short = ap (λ b. cond b (Err 0) (lines_added 1 empty_capture (lines_of text))) (le-ltb most_bytes (length text) short)

capture_of-so_far : (number : ℕ) (capture : Capture) (rest text : List ℕ) → ReadSoFar number capture rest text →
    capture_of text ≡ lines_added number capture (lines_of rest)
capture_of-so_far number capture rest text so_far = capture_of-short text so_far.short ∙ sym so_far.same

-- one line on
pub read_more : (number : ℕ) (capture next : Capture) (rest line after text : List ℕ) → ReadSoFar number capture rest text →
    lines_of rest ≡ line ∷ lines_of after → length after < length rest → line_added capture line ≡ Some next → ReadSoFar (number + 1) next after text
read_more number capture next rest line after text so_far e shorter added =
    record {
      same = sym (lines_added-cons number capture rest line after (Some next) e added) ∙ so_far.same;
      counted = omega (arith, so_far.counted, shorter);
      short = so_far.short;
    }

-- at a line that is none of a capture
pub read_refused : (number : ℕ) (capture : Capture) (rest line after text : List ℕ) → ReadSoFar number capture rest text →
    lines_of rest ≡ line ∷ lines_of after → line_added capture line ≡ None → capture_of text ≡ Err number
read_refused number capture rest line after text so_far e refused =
    capture_of-so_far number capture rest text so_far ∙ lines_added-cons number capture rest line after None e refused

-- at the end
pub read_whole : (number : ℕ) (capture : Capture) (rest text : List ℕ) → ReadSoFar number capture rest text → length rest ≡ 0 →
    capture_of text ≡ Ok capture
unfolding lines_added
read_whole number capture rest text so_far empty =
    capture_of-so_far number capture rest text so_far ∙ ap (λ bytes. lines_added number capture (lines_of bytes)) (nil_from_length rest empty)

-- ---- one line

pub line_skipped : (capture : Capture) (line : List ℕ) → true ≡ is_skipped line → line_added capture line ≡ Some capture
unfolding line_added
line_skipped capture line skipped = rw (sym skipped) refl

pub line_of_requester : (capture : Capture) (line : List ℕ) → false ≡ is_skipped line → true ≡ is_from requester_mark line →
    line_added capture line ≡ option_map (with_requester capture) (bytes_of_hex (drop 2 line))
unfolding line_added
line_of_requester capture line said from = rw (sym said, sym from) refl

pub line_of_server : (capture : Capture) (line : List ℕ) → false ≡ is_skipped line → false ≡ is_from requester_mark line →
    true ≡ is_from server_mark line → line_added capture line ≡ option_map (with_server capture) (bytes_of_hex (drop 2 line))
unfolding line_added
line_of_server capture line said other from = rw (sym said, sym other, sym from) refl

pub line_of_none : (capture : Capture) (line : List ℕ) → false ≡ is_skipped line → false ≡ is_from requester_mark line →
    false ≡ is_from server_mark line → line_added capture line ≡ None
unfolding line_added
line_of_none capture line said other another = rw (sym said, sym other, sym another) refl

map_both : (front : List ℕ) (f : List ℕ → Capture) (o : Option (List ℕ)) →
    option_map (λ bytes. f (front ++ bytes)) o ≡ option_map f (option_map (λ bytes. front ++ bytes) o)
map_both front f None = refl
map_both front f (Some bytes) = refl

map_chosen : (f : List ℕ → Capture) (b : Bool) (stream : List ℕ) → option_map f (cond b (Some stream) None) ≡ cond b (Some (f stream)) None
map_chosen f true stream = refl
map_chosen f false stream = refl

-- a side with more bytes, where there are some
pub side_more : {E : Type 0} (r : Result Bool E) (front stream : List ℕ) (f : List ℕ → Capture) (o : Option (List ℕ)) (added : Option Capture) →
    added ≡ option_map (λ bytes. f (front ++ bytes)) o →
    IfOk r (λ b. option_map (λ bytes. front ++ bytes) o ≡ cond b (Some stream) None) → IfOk r (λ b. added ≡ cond b (Some (f stream)) None)
side_more (Ok b) front stream f o added is h = is ∙ map_both front f o ∙ ap (option_map f) h ∙ map_chosen f b stream
side_more (Err e) front stream f o added is h = tt
