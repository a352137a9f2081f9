-- The chains that are written of commands are read again as these.
use Rattle.std.proofs.Common.{◌≡◌, ℕ, ◌+◌, ◌≤◌, ◌^◌, Bool, true, false, cond, suc, List, [], ◌∷◌, ◌++◌, map, length, refl, sym, ap, ◌∙◌, subst, arith}
use Rattle.std.specs.List.{AllByRecursion}
use Rattle.std.proofs.lemmas.List.{append_assoc, append-nil, length-map}
use Rattle.link_ends.specs.Bytes.{AreBytes}
use Rattle.dss_frame.specs.Dss.{canonical}
use Rattle.ddm_codepoints.specs.CodeClass.{class_of}
use Rattle.ddm_codepoints.specs.CodePoint.{secchk, accrdb}
use Rattle.access_handshake.specs.declared.access.Access.{Access}
use Rattle.access_handshake.specs.declared.stage.Stage.TheVariants.{Accessed}
use Rattle.access_handshake.specs.Access.{request, accsec_object, access_chain}
use Rattle.unit_segments.specs.declared.command.Command.{Command}
use Rattle.unit_segments.specs.Limit.{most_chain_bytes}
use Rattle.unit_segments.specs.Command.{code_of, ends_unit}
use Rattle.unit_segments.specs.Grammar.{IsSound}
use Rattle.unit_segments.specs.Spelling.{chain_bytes, numbered}
use Rattle.unit_segments.specs.Release.{asked, asked_body, asked_bytes}
use Rattle.unit_segments.specs.Registers.{Register, log_chain, log_bytes}
use Rattle.unit_segments.specs.Handshake.{access_commands}
use Rattle.unit_segments.specs.Written.{commands_from, IsWritable, AreWritable, IsReadAs}
use Rattle.unit_segments.proofs.Sound.{asked_sound, set_sound, set_code, accsec_sound}
use Rattle.unit_segments.proofs.WrittenChains.{chain_read_again}

-- ---- numbers

numbered_count : (number : ℕ) (commands : List Command) → length (numbered number commands) ≡ length commands
numbered_count number [] = refl
numbered_count number (command ∷ commands) = ap suc (numbered_count (number + 1) commands)

numbered_fit : (number : ℕ) (commands : List Command) → number + length commands ≤ 2 ^ 16 → AllByRecursion IsWritable commands →
    AllByRecursion IsWritable (numbered number commands)
numbered_fit number [] small each = tt
numbered_fit number (command ∷ commands) small each = (
  record { corr = omega (arith, small); code = each.0.code; sound = each.0.sound },
  numbered_fit (number + 1) commands (omega (arith, small)) each.1,
)

numbered_writable : (commands : List Command) → AreWritable commands → AreWritable (numbered 1 commands)
numbered_writable commands fits = record {
  some = omega (arith, numbered_count 1 commands, fits.some);
  count = omega (arith, numbered_count 1 commands, fits.count);
  each = numbered_fit 1 commands (omega (arith, fits.count)) fits.each;
}

-- ---- asking

abbrev IsShort : Command → Type 0
IsShort command = length command.body ≤ most_chain_bytes

asked_by : (command : Command) (ends : Bool) → ends_unit (class_of command.code) ≡ ends → IsWritable command → IsShort command →
    IsWritable (cond ends (record command { body = asked_body command.body }) command)
asked_by command true is fits short =
    let a = asked_sound command.body fits.sound (ap (λ (n : ℕ). ends_unit (class_of n)) fits.code ∙ is) short in
    record { corr = fits.corr; code = a.code ∙ fits.code; sound = a.sound }
asked_by command false is fits short = fits

asked_each : (segment : List Command) → AllByRecursion IsWritable segment → AllByRecursion IsShort segment → AllByRecursion IsWritable (map asked segment)
asked_each [] fits short = tt
asked_each (command ∷ commands) fits short =
    (asked_by command (ends_unit (class_of command.code)) refl fits.0 short.0, asked_each commands fits.1 short.1)

pub asked_read_again : (limit : ℕ) (segment : List Command) → AreWritable segment → AllByRecursion IsShort segment → AreBytes (asked_bytes segment) →
    length (asked_bytes segment) ≤ limit → IsReadAs limit (commands_from 0 (numbered 1 (map asked segment))) (asked_bytes segment)
unfolding asked_bytes
asked_read_again limit segment fits short bytes small =
    chain_read_again limit (numbered 1 (map asked segment)) (numbered_writable (map asked segment) (record {
      some = omega (arith, length-map segment asked, fits.some);
      count = omega (arith, length-map segment asked, fits.count);
      each = asked_each segment fits.each short;
    })) bytes small

-- ---- registers

log_writable : (register : Register) (log : List Register) → AreWritable (log_chain (register ∷ log))
log_writable register log = record {
  some = omega arith;
  count = omega arith;
  each = (record { corr = omega arith; code = set_code; sound = set_sound }, tt);
}

pub log_read_again : (limit : ℕ) (register : Register) (log : List Register) → AreBytes (log_bytes (register ∷ log)) →
    length (log_bytes (register ∷ log)) ≤ limit → IsReadAs limit (commands_from 0 (log_chain (register ∷ log))) (log_bytes (register ∷ log))
log_read_again limit register log bytes small = chain_read_again limit (log_chain (register ∷ log)) (log_writable register log) bytes small

-- ---- access

access_writable : (access : Access) (name : List ℕ) → length name ≤ 18 → code_of access.secchk ≡ secchk → IsSound access.secchk →
    code_of access.accrdb ≡ accrdb → IsSound access.accrdb → AreWritable (access_commands name Accessed access)
access_writable access name small check_code check access_code sound =
    let a = accsec_sound access.secmec name small in
    record {
      some = omega arith;
      count = omega arith;
      each = (
        record { corr = omega arith; code = a.code; sound = a.sound },
        (record { corr = omega arith; code = check_code; sound = check }, (record { corr = omega arith; code = access_code; sound = sound }, tt)),
      );
    }

-- the commands are written as the chain of access
access_same : (access : Access) (name : List ℕ) → chain_bytes (numbered 1 (access_commands name Accessed access)) ≡ access_chain access name
unfolding chain_bytes
access_same access name =
    let first : List ℕ = canonical (request 1 true (accsec_object access.secmec name)) in
    let second : List ℕ = canonical (request 2 true access.secchk) in
    let third : List ℕ = canonical (request 3 false access.accrdb) in
    ap (λ (xs : List ℕ). first ++ (second ++ xs)) (append-nil third) ∙ sym (append_assoc first second third)

pub access_read_again : (limit : ℕ) (access : Access) (name : List ℕ) → length name ≤ 18 → code_of access.secchk ≡ secchk → IsSound access.secchk →
    code_of access.accrdb ≡ accrdb → IsSound access.accrdb → AreBytes (access_chain access name) → length (access_chain access name) ≤ limit →
    IsReadAs limit (commands_from 0 (numbered 1 (access_commands name Accessed access))) (access_chain access name)
access_read_again limit access name small check_code check access_code sound bytes short =
    let commands : List Command = numbered 1 (access_commands name Accessed access) in
    let same = access_same access name in
    let fits = numbered_writable (access_commands name Accessed access) (access_writable access name small check_code check access_code sound) in
    subst (IsReadAs limit (commands_from 0 commands)) same
    (chain_read_again limit commands fits (subst AreBytes (sym same) bytes) (omega (arith, ap length same, short)))
