-- What a run of calls on an end has come to, call by call.
use Rattle.std.proofs.Common.{◌≡◌, ◌++◌, ◌+◌, ◌<◌, ◌≤◌, ℕ, List, [], Bool, true, false, Option, Some, None, length, take, drop}
use Rattle.std.proofs.Common.{ap, subst, sym, ◌∙◌, refl, arith, append_assoc}
use Rattle.std.proofs.lemmas.Bool.{ne_eqb, le-leb, lt-ltb, lt-leb}
use Rattle.std.proofs.lemmas.List.{append-nil, take-append-drop}
use Rattle.std.proofs.Math.Seq.{take-add}
use Rattle.std.specs.Prelude.{MatchOption, option_map, ◌&&◌, nat_eq, nat_lt, nat_le}
use Rattle.link_ends.specs.Counts.{counted, one_more}
use Rattle.link_ends.specs.Source.{SourceState, AreNext, IsGiven, IsNotGiven, meets_end}
use Rattle.link_ends.specs.Sink.{SinkState, IsTaken, after_write}
use Rattle.hex_lines.specs.Lines.{most_bytes}
use Rattle.program_ends.specs.Ends.{Gave, WasRead, WasReadUp, ReadBrokeOff, Took, with_taken, after_stuck_write}

-- ---- reading

gives_more : (left before now : Option (List ℕ)) (text buffer buffer_now : List ℕ) (count : ℕ)
    → MatchOption left (Unit {0}) (λ bytes. (rest : List ℕ) × (bytes ≡ text ++ rest) × (before ≡ Some rest))
    → MatchOption before (Unit {0}) (λ rest. AreNext count rest buffer buffer_now)
    → now ≡ option_map (λ rest. drop count rest) before
    → MatchOption left (Unit {0}) (λ bytes. (rest : List ℕ) × (bytes ≡ (text ++ take count buffer_now) ++ rest) × (now ≡ Some rest))
gives_more None before now text buffer buffer_now count gave next e = tt
gives_more (Some bytes) before now text buffer buffer_now count gave next e =
    let rest = gave.0 in
    let P : Option (List ℕ) → Type 0 = λ o. MatchOption o (Unit {0}) (λ xs. AreNext count xs buffer buffer_now) in
    let are : AreNext count rest buffer buffer_now = subst P gave.2 next in
    let split : rest ≡ take count buffer_now ++ drop count rest =
    sym (take-append-drop count rest) ∙ ap (λ (front : List ℕ). front ++ drop count rest) (sym are.bytes) in (
      drop count rest,
      gave.1 ∙ ap (λ (xs : List ℕ). text ++ xs) split ∙ sym (append_assoc text (take count buffer_now) (drop count rest)),
      e ∙ ap (λ o. option_map (λ (xs : List ℕ). drop count xs) o) gave.2,
    )

-- what a source gave before one more read, and the bytes of that read
pub gave_more : (old before now : SourceState) (text buffer buffer_now : List ℕ) (count : ℕ)
    → Gave old before text → IsGiven count before now buffer buffer_now → Gave old now (text ++ take count buffer_now)
gave_more old before now text buffer buffer_now count gave given =
    gives_more old.left before.left now.left text buffer buffer_now count gave given.next (ap (λ (s : SourceState). s.left) given.after)

all_given : (left before : Option (List ℕ)) (text buffer buffer_now : List ℕ)
    → MatchOption left (Unit {0}) (λ bytes. (rest : List ℕ) × (bytes ≡ text ++ rest) × (before ≡ Some rest))
    → MatchOption before (Unit {0}) (λ rest. AreNext 0 rest buffer buffer_now) → 0 < length buffer
    → MatchOption left (Unit {0}) (λ bytes. bytes ≡ text)
all_given None before text buffer buffer_now gave next room = tt
all_given (Some bytes) before text buffer buffer_now gave next room =
    let P : Option (List ℕ) → Type 0 = λ o. MatchOption o (Unit {0}) (λ xs. AreNext 0 xs buffer buffer_now) in
    let are : AreNext 0 gave.0 buffer buffer_now = subst P gave.2 next in
    gave.1 ∙ ap (λ (xs : List ℕ). text ++ xs) (are.all_read refl room) ∙ append-nil text

-- what a run of reads has come to, of which none failed or met the end
pub record GoesOn (old now : SourceState) (text : List ℕ) : Type 0 where
  pub gave : Gave old now text
  pub ends : now.ends ≡ old.ends
  pub faults : now.faults ≡ old.faults

not_end : (count : ℕ) (buffer : List ℕ) → (count ≡ 0 → ⊥) → meets_end count buffer ≡ false
not_end count buffer some = ap (λ b. b && nat_lt 0 (length buffer)) (ne_eqb count 0 some)

is_end : (buffer : List ℕ) → 0 < length buffer → meets_end 0 buffer ≡ true
is_end buffer room = lt-ltb 0 (length buffer) room

pub goes_on_more : (old before now : SourceState) (text buffer buffer_now : List ℕ) (count : ℕ)
    → GoesOn old before text → IsGiven count before now buffer buffer_now → (count ≡ 0 → ⊥) → GoesOn old now (text ++ take count buffer_now)
goes_on_more old before now text buffer buffer_now count run given some =
    record {
      gave = gave_more old before now text buffer buffer_now count run.gave given;
      ends = ap (λ (s : SourceState). s.ends) given.after ∙ ap (λ b. counted b before.ends) (not_end count buffer some) ∙ run.ends;
      faults = ap (λ (s : SourceState). s.faults) given.after ∙ run.faults;
    }

-- the run without its last read, where no read is needed to say what was read
pub was_read_some : (old now : SourceState) (text : List ℕ) → GoesOn old now text → WasRead false old now text
was_read_some old now text run =
    record { gave = run.gave; all = λ e. absurd (cc); ends = run.ends; faults = run.faults }

-- the run, and a read that failed
pub broke_off : (old before now : SourceState) (text buffer buffer_now : List ℕ)
    → GoesOn old before text → IsNotGiven before now buffer buffer_now → length text ≤ most_bytes → ReadBrokeOff old now
broke_off old before now text buffer buffer_now run failed within =
    record {
      text = text;
      gave = subst (λ (s : SourceState). Gave old s text) (sym failed.after) run.gave;
      within = within;
      ends = ap (λ (s : SourceState). s.ends) failed.after ∙ run.ends;
      fault = ap (λ (s : SourceState). s.faults) failed.after ∙ ap one_more run.faults;
    }

gave_none_more : (old before now : SourceState) (text buffer buffer_now : List ℕ)
    → Gave old before text → IsGiven 0 before now buffer buffer_now → Gave old now text
gave_none_more old before now text buffer buffer_now gave given =
    subst (λ (t : List ℕ). Gave old now t) (append-nil text) (gave_more old before now text buffer buffer_now 0 gave given)

-- a read that gave nothing for a buffer with room has read the text to its end
pub was_read_to_end : (old before now : SourceState) (text buffer buffer_now : List ℕ)
    → GoesOn old before text → IsGiven 0 before now buffer buffer_now → 0 < length buffer → WasRead true old now text
was_read_to_end old before now text buffer buffer_now run given room =
    record {
      gave = gave_none_more old before now text buffer buffer_now run.gave given;
      all = λ e. all_given old.left before.left text buffer buffer_now run.gave given.next room;
      ends = ap (λ (s : SourceState). s.ends) given.after ∙ ap (λ b. counted b before.ends) (is_end buffer room) ∙ ap one_more run.ends;
      faults = ap (λ (s : SourceState). s.faults) given.after ∙ run.faults;
    }

pub read_up_to_end : (old now : SourceState) (text : List ℕ) → length text ≤ most_bytes → WasRead true old now text → WasReadUp old now text
read_up_to_end old now text within read = subst (λ (b : Bool). WasRead b old now text) (sym (le-leb (length text) most_bytes within)) read

pub read_past : (old now : SourceState) (text : List ℕ) → most_bytes < length text → WasRead false old now text → WasReadUp old now text
read_past old now text long read = subst (λ (b : Bool). WasRead b old now text) (sym (lt-leb (length text) most_bytes long)) read

pub to_end : (old now : SourceState) (text : List ℕ) → length text ≤ most_bytes → WasReadUp old now text → WasRead true old now text
to_end old now text within read = subst (λ (b : Bool). WasRead b old now text) (le-leb (length text) most_bytes within) read

-- ---- writing

none_taken : (taken : Option (List ℕ)) → option_map (λ (bytes : List ℕ). bytes ++ []) taken ≡ taken
none_taken None = refl
none_taken (Some bytes) = ap Some (append-nil bytes)

taken_both : (taken : Option (List ℕ)) (a b : List ℕ)
    → option_map (λ (bytes : List ℕ). bytes ++ b) (option_map (λ (bytes : List ℕ). bytes ++ a) taken) ≡ option_map (λ (bytes : List ℕ). bytes ++ (a ++ b)) taken
taken_both None a b = refl
taken_both (Some bytes) a b = ap Some (append_assoc bytes a b)

-- before the first write nothing was taken
pub took_none : (old : SinkState) → Took old old []
took_none old = ap (λ t. record old { taken = t }) (sym (none_taken old.taken))

wrote : (old : SinkState) (a piece : List ℕ) (count : ℕ) (stuck : Bool) → stuck ≡ false
    → record {
      taken = option_map (λ (bytes : List ℕ). bytes ++ take count piece) (with_taken old a).taken;
      faults = old.faults;
      stuck =
          counted stuck old.stuck;
    }
    ≡ with_taken old (a ++ take count piece)
wrote old a piece count false e = ap (λ t. record old { taken = t }) (taken_both old.taken a (take count piece))
wrote old a piece count true e = absurd (cc)

-- after the first bytes of a text the sink took the next ones
pub took_more : (old before now : SinkState) (text piece : List ℕ) (from count : ℕ) → Took old before (take from text)
    → IsTaken count before now piece → piece ≡ drop from text → (count ≡ 0 → ⊥) → Took old now (take (from + count) text)
took_more old before now text piece from count first next is some =
    let then : now ≡ after_write (with_taken old (take from text)) count piece = next.after ∙ ap (λ (s : SinkState). after_write s count piece) first in
    let stuck = ap (λ b. b && nat_lt 0 (length piece)) (ne_eqb count 0 some) in
    let whole : take from text ++ take count piece ≡ take (from + count) text =
    ap (λ (p : List ℕ). take from text ++ take count p) is ∙ sym (take-add from count text) in
    then ∙ wrote old (take from text) piece count _ stuck ∙ ap (λ (t : List ℕ). with_taken old t) whole

-- a write of a piece with bytes that takes none of them is stuck
pub got_stuck : (begun now : SinkState) (piece : List ℕ) → IsTaken 0 begun now piece → 0 < length piece → now ≡ after_stuck_write begun
got_stuck begun now piece next room =
    next.after
    ∙ ap (λ b. record {
      taken = option_map (λ (bytes : List ℕ). bytes ++ []) begun.taken;
      faults = begun.faults;
      stuck =
          counted b begun.stuck;
    }) (lt-ltb 0 (length piece) room)
    ∙ ap (λ t. record { taken = t; faults = begun.faults; stuck = one_more begun.stuck }) (none_taken begun.taken)
