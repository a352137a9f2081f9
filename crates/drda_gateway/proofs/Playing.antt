-- What a run of play has read and written, put together.
use Rattle.std.proofs.Common.{◌≡◌, ◌≤◌, ℕ, List, Some, Ok, Err, length, sym, subst, ap, ◌∙◌}
use Rattle.link_ends.specs.Source.{SourceState}
use Rattle.link_ends.specs.Sink.{SinkState}
use Rattle.hex_lines.specs.Lines.{most_bytes}
use Rattle.program_ends.specs.Ends.{WasReadUp, Took, BrokeOff}
use Rattle.drda_gateway.specs.Refusal.{Refusal}
use Rattle.drda_gateway.specs.declared.script.ScriptWhy.{ScriptWhy}
use Rattle.drda_gateway.specs.declared.script.ScriptWhy.TheVariants.{Long}
use Rattle.drda_gateway.specs.declared.script.ScriptFault.{ScriptFault}
use Rattle.drda_gateway.specs.declared.script.ScriptFault.TheVariants.{Refused}
use Rattle.drda_gateway.specs.ScriptText.{ScriptText}
use Rattle.drda_gateway.specs.Script.{script_of}
use Rattle.drda_gateway.specs.World.{world_of, events_of, start_world}
use Rattle.drda_gateway.specs.Dedicated.{AreDedicated}
use Rattle.drda_gateway.specs.Play.{Reports, Played, BegunReport, script_report}
use Rattle.drda_gateway.proofs.ScriptLemmas.{script_of-long}
use Rattle.program_ends.proofs.Commanding.{fits, wrote_all, wrote_some, all_told, all_read, not_both}
use Rattle.drda_gateway.proofs.Headline.{all_dedicated}

-- a text that is a script isn't too long
script_fits : (text : List ℕ) (script : ScriptText) → script_of text ≡ Ok script → length text ≤ most_bytes
script_fits text script e = fits script_of text script (record { line = 0; why = Long }) (λ long. script_of-long text long) e

-- the sessions of a script's world are as dedicated ones
script_dedicated : (script : ScriptText) → AreDedicated (world_of script.lines)
unfolding world_of
script_dedicated script = all_dedicated (events_of start_world script.lines)

-- the text that is reported is the one that was read
read_script : (text said report : List ℕ) (same : said ≡ text) (reports : Reports (Ok report) said) → script_of text ≡ Ok reports.0
read_script text said report same reports = sym (ap script_of same) ∙ reports.1

pub played : (source source_now : SourceState) (sink sink_now : SinkState) (text said report shown : List ℕ) → WasReadUp source source_now text → said ≡ text
    → Reports (Ok report) said → shown ≡ report → Took sink sink_now shown → Played source source_now sink sink_now
played source source_now sink sink_now text said report shown read same reports e took =
    let is_script = read_script text said report same reports in
    record {
      wrote = wrote_all script_of script_report source source_now sink sink_now text shown reports.0 (script_fits text reports.0 is_script) read is_script
          (e ∙ reports.2) took;
      dedicated = script_dedicated reports.0;
    }

pub report_begun : (source source_now : SourceState) (sink sink_now : SinkState) (text said report shown : List ℕ) → WasReadUp source source_now text →
    said ≡ text
    → Reports (Ok report) said → shown ≡ report → BrokeOff sink sink_now shown → BegunReport source source_now sink sink_now
report_begun source source_now sink sink_now text said report shown read same reports e begun =
    let is_script = read_script text said report same reports in
    wrote_some script_of script_report source source_now sink sink_now text shown reports.0 (script_fits text reports.0 is_script) read is_script
    (e ∙ reports.2) begun

pub refused : (text said : List ℕ) (fault : ScriptFault) (line : ℕ) (why : ScriptWhy) → said ≡ text → fault ≡ Refused line why → Reports (Err fault) said →
    script_of text ≡ Err (record { line = line; why = why })
refused text said fault line why same is reports =
    let now : Reports (Err (Refused line why)) said = subst (λ (f : ScriptFault). Reports (Err f) said) is reports in
    sym (ap script_of same) ∙ now

-- a text that a source told and gave isn't refused, where it is a script
pub never_refused : (source source_now : SourceState) (told text : List ℕ) (script : ScriptText) (refusal : Refusal) → source.left ≡ Some told →
    script_of told ≡ Ok script
    → WasReadUp source source_now text → script_of text ≡ Err refusal → ⊥
never_refused source source_now told text script refusal tells is_script read is_refused =
    not_both script_of told text script refusal (all_read source source_now told text tells read (script_fits told script is_script)) is_script is_refused

-- and it isn't played, where it is none
pub never_played : (source source_now : SourceState) (told text said report : List ℕ) (refusal : Refusal) → source.left ≡ Some told →
    script_of told ≡ Err refusal
    → WasReadUp source source_now text → said ≡ text → Reports (Ok report) said → ⊥
never_played source source_now told text said report refusal tells is_refused read same reports =
    let is_script = read_script text said report same reports in
    not_both script_of text told reports.0 refusal (sym (all_told source source_now told text tells read (script_fits text reports.0 is_script))) is_script
    is_refused
