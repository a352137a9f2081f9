-- What is left to read, added to what was read so far, is the whole.
use Rattle.std.proofs.Common.{◌≡◌, ℕ, ◌+◌, ◌<◌, ◌≤◌, ◌==◌, suc, Bool, true, false, List, [], ◌∷◌, cond, length, get_or, Ok, Err}
use Rattle.std.proofs.Common.{refl, ap, sym, ◌∙◌, arith}
use Rattle.std.specs.List.{onto_first}
use Rattle.std.proofs.lemmas.Bool.{lt-ltb, le-ltb}
use Rattle.std.proofs.lemmas.List.{nil_from_length}
use Rattle.script_reader.specs.declared.script.ScriptWhy.{ScriptWhy}
use Rattle.script_reader.specs.declared.script.ScriptWhy.TheVariants.{Long}
use Rattle.script_reader.specs.declared.fault.LineFault.{LineFault}
use Rattle.script_reader.specs.declared.fault.LineFault.TheVariants.{Refused, NoMemory}
use Rattle.script_reader.specs.Draft.{DraftText, start}
use Rattle.script_reader.specs.Answers.{Adds, Reads, fault_at}
use Rattle.script_reader.specs.ScriptText.{ScriptText}
use Rattle.script_reader.specs.Script.{after_line, line_added, lines_added, script_of}
use Rattle.hex_lines.specs.Lines.{lines_of, most_bytes}

-- the lines of the rest, the first of which has this number, added to the draft, say what all lines say
pub record ReadSoFar (number : ℕ) (draft : DraftText) (rest text : List ℕ) : Type 0 where
  pub same : lines_added number draft (lines_of rest) ≡ lines_added 1 start (lines_of text)
  pub first : 1 ≤ number
  pub counted : number + length rest ≤ length text + 1
  pub short : length text ≤ most_bytes

lines_added-cons : (number : ℕ) (draft : DraftText) (rest line after : List ℕ) → lines_of rest ≡ line ∷ lines_of after →
    lines_added number draft (lines_of rest) ≡ after_line number (line_added draft line) (λ next. lines_added (number + 1) next (lines_of after))
unfolding lines_added
lines_added-cons number draft rest line after e = ap (lines_added number draft) e

lines_added-ok : (number : ℕ) (draft next : DraftText) (rest line after : List ℕ) → lines_of rest ≡ line ∷ lines_of after → line_added draft line ≡ Ok next →
    lines_added number draft (lines_of rest) ≡ lines_added (number + 1) next (lines_of after)
lines_added-ok number draft next rest line after e added =
    lines_added-cons number draft rest line after e ∙ ap (λ answer. after_line number answer (λ draft. lines_added (number + 1) draft (lines_of after))) added

lines_added-err : (number : ℕ) (draft : DraftText) (why : ScriptWhy) (rest line after : List ℕ) → lines_of rest ≡ line ∷ lines_of after →
    line_added draft line ≡ Err why → lines_added number draft (lines_of rest) ≡ Err (record { line = number; why = why })
lines_added-err number draft why rest line after e refused =
    lines_added-cons number draft rest line after e ∙ ap (λ answer. after_line number answer (λ draft. lines_added (number + 1) draft (lines_of after))) refused

onto_first-length : (x : ℕ) (parts : List (List ℕ)) → length (get_or (onto_first x parts) 0 []) ≡ suc (length (get_or parts 0 []))
onto_first-length x [] = refl
onto_first-length x (part ∷ parts) = refl

short_step : (x : ℕ) (xs : List ℕ) (b : Bool) → length (get_or (lines_of xs) 0 []) ≤ length xs →
    length (get_or (cond b ([] ∷ lines_of xs) (onto_first x (lines_of xs))) 0 []) ≤ suc (length xs)
short_step x xs true h = omega arith
short_step x xs false h = omega (arith, h, onto_first-length x (lines_of xs))

first_short : (text : List ℕ) → length (get_or (lines_of text) 0 []) ≤ length text
first_short [] = omega arith
first_short (x ∷ xs) = short_step x xs (x == 10) (first_short xs)

-- the first line is no longer than the text
pub line_short : (text line : List ℕ) (others : List (List ℕ)) → lines_of text ≡ line ∷ others → length line ≤ length text
line_short text line others e = omega (arith, first_short text, ap (λ lines. length (get_or lines 0 [])) e)

pub script_of-long : (text : List ℕ) → most_bytes < length text → script_of text ≡ Err (record { line = 0; why = Long })
unfolding script_of
script_of-long text long = ap (λ b. cond b (Err (record { line = 0; why = Long })) (lines_added 1 start (lines_of text))) (lt-ltb most_bytes (length text) long)

script_of-short : (text : List ℕ) → length text ≤ most_bytes → script_of text ≡ lines_added 1 start (lines_of text)
unfolding script_of
script_of-short text short =
    ap (λ b. cond b (Err (record { line = 0; why = Long })) (lines_added 1 start (lines_of text))) (le-ltb most_bytes (length text) short)

-- the script is what is left to read, added to what was read
script_of-so_far : (number : ℕ) (draft : DraftText) (rest text : List ℕ) → ReadSoFar number draft rest text →
    script_of text ≡ lines_added number draft (lines_of rest)
script_of-so_far number draft rest text so_far = script_of-short text so_far.short ∙ sym so_far.same

-- one line on
pub read_more : (number : ℕ) (draft next : DraftText) (rest line after text : List ℕ) → ReadSoFar number draft rest text →
    lines_of rest ≡ line ∷ lines_of after → length after < length rest → line_added draft line ≡ Ok next → ReadSoFar (number + 1) next after text
read_more number draft next rest line after text so_far e shorter added =
    record {
      same = sym (lines_added-ok number draft next rest line after e added)
          ∙ so_far.same;
      first = omega arith;
      counted = omega (arith, so_far.counted, shorter);
      short = so_far.short;
    }

-- at a bad line
pub read_refused : (number : ℕ) (draft changed : DraftText) (rest line after text : List ℕ) → ReadSoFar number draft rest text →
    lines_of rest ≡ line ∷ lines_of after → (fault : LineFault) → Adds {T = Unit {0}} (Err fault) changed (line_added draft line) →
    Reads {A = ScriptText} (Err (fault_at number fault)) (script_of text)
read_refused number draft changed rest line after text so_far e (Refused why) refused =
    script_of-so_far number draft rest text so_far ∙ lines_added-err number draft why rest line after e refused
read_refused number draft changed rest line after text so_far e NoMemory refused = tt

-- at the end
pub read_whole : (number : ℕ) (draft : DraftText) (rest text : List ℕ) → ReadSoFar number draft rest text → length rest ≡ 0 →
    script_of text ≡ lines_added number draft []
read_whole number draft rest text so_far empty =
    script_of-so_far number draft rest text so_far ∙ ap (λ bytes. lines_added number draft (lines_of bytes)) (nil_from_length rest empty)
