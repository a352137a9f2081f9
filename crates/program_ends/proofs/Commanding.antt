-- What a run of a command has read and written, put together: of a text that is read as something, or refused.
use Rattle.std.proofs.Common.{◌≡◌, ◌<◌, ◌≤◌, ℕ, List, ◌++◌, Option, Some, Result, Ok, Err, length, sym, subst, ap, ◌∙◌, refl, arith, ⊎_elim, inl, inr}
use Rattle.std.proofs.lemmas.Bool.{cases_lt}
use Rattle.std.proofs.lemmas.List.{length-append}
use Rattle.link_ends.specs.Counts.{Rose, one_more}
use Rattle.link_ends.specs.Source.{SourceState}
use Rattle.link_ends.specs.Sink.{SinkState}
use Rattle.hex_lines.specs.Lines.{most_bytes}
use Rattle.program_ends.specs.Command.{WroteAll, WroteSome}
use Rattle.program_ends.specs.Ends.{WasReadUp, ReadBrokeOff, Took, BrokeOff, NoReadFailed, NoWriteFailed}
use Rattle.program_ends.proofs.Ends.{to_end}

-- ---- a count that rose by one

rose : (before now : ℕ) → now ≡ one_more before → Rose before now
rose before now e = record { reached = omega (arith, e) }

pub read_failed : (source source_now : SourceState) → ReadBrokeOff source source_now → NoReadFailed source source_now → ⊥
read_failed source source_now broke none = none (rose source.faults source_now.faults broke.fault)

pub write_failed : (sink sink_now : SinkState) (text : List ℕ) → BrokeOff sink sink_now text → NoWriteFailed sink sink_now → ⊥
write_failed sink sink_now text broke none =
    ⊎_elim (λ failed. none (inl (rose sink.faults sink_now.faults (ap (λ (s : SinkState). s.faults) failed))))
    (λ stuck. none (inr (rose sink.stuck sink_now.stuck (ap (λ (s : SinkState). s.stuck) stuck)))) broke.cause

-- ---- a source that tells its bytes

-- its bytes begin with those that were read, and are all read where these aren't too long
record IsPart (told text : List ℕ) : Type 0 where
  rest : List ℕ
  parts : told ≡ text ++ rest
  whole : length text ≤ most_bytes → told ≡ text

part_by : (source source_now : SourceState) (told text : List ℕ) → source.left ≡ Some told → WasReadUp source source_now text → IsPart told text
part_by source source_now told text tells read =
    let telling : SourceState = record source { left = Some told } in
    let is_telling : source ≡ telling = ap (λ (left : Option (List ℕ)). record source { left = left }) tells in
    let given : WasReadUp telling source_now text = subst (λ (s : SourceState). WasReadUp s source_now text) is_telling read in
    record {
      rest = given.gave.0;
      parts = given.gave.1;
      whole = λ within. (to_end telling source_now text within given).all refl;
    }

-- a text that was read and isn't too long is all that was told
pub all_told : (source source_now : SourceState) (told text : List ℕ) → source.left ≡ Some told → WasReadUp source source_now text
    → length text ≤ most_bytes → told ≡ text
all_told source source_now told text tells read within = (part_by source source_now told text tells read).whole within

-- a text that was told and isn't too long is all read
pub all_read : (source source_now : SourceState) (told text : List ℕ) → source.left ≡ Some told → WasReadUp source source_now text
    → length told ≤ most_bytes → told ≡ text
all_read source source_now told text tells read fits =
    let part : IsPart told text = part_by source source_now told text tells read in
    part.whole (omega (arith, ap length part.parts, length-append text part.rest, fits))

module _ {A F : Type 0} (read_as : List ℕ → Result A F) where
  -- ---- how long a text is

  -- a text that is read isn't too long, where those that are too long are refused
  pub fits : (text : List ℕ) (said : A) (refusal : F) → (most_bytes < length text → read_as text ≡ Err refusal) → read_as text ≡ Ok said
      → length text ≤ most_bytes
  fits text said refusal too_long says =
      ⊎_elim (λ (long : most_bytes < length text). let refused = too_long long in
      absurd (cc)) (λ (within : length text ≤ most_bytes). within) (cases_lt most_bytes (length text))

  -- ---- what was written

  module _ (shown : A → List ℕ) (source source_now : SourceState) (sink sink_now : SinkState) (text written : List ℕ) (said : A) where
    abbrev pub wrote_all : length text ≤ most_bytes → WasReadUp source source_now text → read_as text ≡ Ok said → written ≡ shown said
        → Took sink sink_now written → WroteAll read_as shown source source_now sink sink_now
    wrote_all within read says e took =
        record {
          text = text;
          said = said;
          read = to_end source source_now text within read;
          says = says;
          took = subst (λ (t : List ℕ). Took sink sink_now t) e took;
        }

    pub wrote_some : length text ≤ most_bytes → WasReadUp source source_now text → read_as text ≡ Ok said → written ≡ shown said
        → BrokeOff sink sink_now written → WroteSome read_as shown source source_now sink sink_now
    wrote_some within read says e begun =
        record {
          text = text;
          said = said;
          read = to_end source source_now text within read;
          says = says;
          begun = subst (λ (t : List ℕ). BrokeOff sink sink_now t) e begun;
        }

  -- ---- what the same text can't be

  pub not_both : (told text : List ℕ) (said : A) (refusal : F) → told ≡ text → read_as told ≡ Ok said → read_as text ≡ Err refusal → ⊥
  not_both told text said refusal same says is_refused =
      let clash : read_as told ≡ Err refusal = ap read_as same ∙ is_refused in
      cc
