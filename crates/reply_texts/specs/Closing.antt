-- The replies that close a conversation, each a whole chain. DDM, volume 3, at each message; their parameters, severities
-- and SQLSTATEs are this project's choice.
use Rattle.std.specs.Prelude.{ℕ, negsuc, Bool, true, false, List, [], ◌∷◌, ◌++◌, codes, replicate, if◌then◌else◌}
use Rattle.dss_frame.specs.declared.dss.Dss.{Dss}
use Rattle.dss_frame.specs.declared.dss.Kind.{Kind}
use Rattle.dss_frame.specs.declared.dss.Kind.TheVariants.{Reply, Object}
use Rattle.dss_frame.specs.declared.fault.Why.{Why}
use Rattle.dss_frame.specs.declared.fault.Why.TheVariants.{Short, NoD0, Format, Continue}
use Rattle.dss_frame.specs.declared.fault.StreamFault.{StreamFault}
use Rattle.dss_frame.specs.declared.fault.StreamFault.TheVariants.{Frame, TooLong}
use Rattle.dss_frame.specs.Dss.{canonical}
use Rattle.ddm_objects.specs.Objects.{canonical_object}
use Rattle.ddm_codepoints.specs.declared.typdef.TypDef.{TypDef}
use Rattle.ddm_codepoints.specs.CodePoint.{synerrcd, syntaxrm, agnprmrm, rsclmtrm}
use Rattle.ddm_codepoints.specs.Value.{error, severe}
use Rattle.reply_texts.specs.declared.sqlcard.Card.{Card}
use Rattle.reply_texts.specs.declared.sqlcard.Card.TheVariants.{Full}
use Rattle.reply_texts.specs.Reply.{severity, abnuow_object}
use Rattle.reply_texts.specs.Sqlcard.{sqlcard_object}

-- a DSS that is the last of its chain: DRDA, volume 3, DSS
abbrev pub last : Kind → ℕ → List ℕ → Dss
last kind corr body = record { kind = kind; chained = false; same = false; go_on = false; corr = corr; body = body }

-- a DSS before one with the same number: DRDA, volume 3, DSS
abbrev pub before_same : Kind → ℕ → List ℕ → Dss
before_same kind corr body = record { kind = kind; chained = true; same = true; go_on = false; corr = corr; body = body }

-- SYNTAXRM with this SYNERRCD: DDM, volume 3, SYNTAXRM
unfoldable pub syntax_reply : ℕ → ℕ → List ℕ
syntax_reply corr code = canonical (last Reply corr (canonical_object syntaxrm (severity error ++ canonical_object synerrcd (code ∷ []))))

-- AGNPRMRM: DDM, volume 3, AGNPRMRM
unfoldable pub agent_reply : ℕ → List ℕ
agent_reply corr = canonical (last Reply corr (canonical_object agnprmrm (severity severe)))

-- RSCLMTRM where a limit was passed: DDM, volume 3, RSCLMTRM
unfoldable pub limit_reply : ℕ → List ℕ
limit_reply corr = canonical (last Reply corr (canonical_object rsclmtrm (severity error)))

-- RSCLMTRM where memory ran out: DDM, volume 3, RSCLMTRM
unfoldable pub memory_reply : ℕ → List ℕ
memory_reply corr = canonical (last Reply corr (canonical_object rsclmtrm (severity severe)))

-- DDM, volume 3, SYNERRCD: what is wrong with the bytes of a DSS
abbrev pub syntax_error : Why → ℕ
syntax_error Short = 0x01
syntax_error NoD0 = 0x03
syntax_error Format = 0x04
syntax_error Continue = 0x05

-- What a reader's fault is answered, with its correlation number: a chain beyond the limit has RSCLMTRM. DDM, volume 3,
-- SYNTAXRM and RSCLMTRM.
abbrev pub fault_reply : StreamFault → List ℕ
fault_reply (Frame at why corr) = syntax_reply corr (syntax_error why)
fault_reply (TooLong at corr) = limit_reply corr

-- What is said where no member is left: SQLCODE -30081, with SQLSTATE 08007 where the outcome of the unit of work isn't
-- known, and else 08001. This project's choice.
abbrev pub ended_card : Bool → Card
ended_card unknown =
    Full (record { code = negsuc 30080; state = if unknown then codes "08007" else codes "08001"; proc = replicate 8 0x20 })

-- ABNUOWRM and a SQLCARD: DDM, volume 3, ABNUOWRM
abbrev pub ended_reply : ℕ → List ℕ → Bool → TypDef → List ℕ
ended_reply corr name unknown typdef =
    canonical (before_same Reply corr (abnuow_object name)) ++ canonical (last Object corr (sqlcard_object typdef (ended_card unknown)))
