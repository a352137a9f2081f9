-- A small group for tests, which has no data and whose units are all the same: it gives access to whoever asks, says that each
-- statement is done, and answers every other command PRCCNVRM. No standard speaks of it: it is this project's own.
use Rattle.std.specs.Prelude.{ℕ, ◌==◌, if◌then◌else◌, List, [], ◌∷◌}
use Rattle.dss_frame.specs.declared.dss.Dss.{Dss}
use Rattle.dss_frame.specs.declared.dss.Kind.TheVariants.{Reply, Object}
use Rattle.ddm_codepoints.specs.CodePoint.{accrdb, excsqlimm}
use Rattle.reply_texts.specs.Closing.{last}
use Rattle.plain_model.specs.Group.{Meaning, Values}

-- ACCRDBRM with SVRCOD 0, PRDID GRP01010, QTDSQL370 and CCSIDSBC 37: DDM, volume 3, ACCRDBRM
abbrev pub access_given : List ℕ
access_given =
    0x00 ∷ 0x2D ∷ 0x22 ∷ 0x01 ∷ 0x00 ∷ 0x06 ∷ 0x11 ∷ 0x49 ∷ 0x00 ∷ 0x00 ∷ 0x00 ∷ 0x0C ∷ 0x11 ∷ 0x2E ∷ 0xC7 ∷ 0xD9 ∷ 0xD7 ∷ 0xF0 ∷ 0xF1 ∷ 0xF0
    ∷ 0xF1 ∷ 0xF0 ∷ 0x00 ∷ 0x0D ∷ 0x00 ∷ 0x2F ∷ 0xD8 ∷ 0xE3 ∷ 0xC4 ∷ 0xE2 ∷ 0xD8 ∷ 0xD3 ∷ 0xF3 ∷ 0xF7 ∷ 0xF0 ∷ 0x00 ∷ 0x0A ∷ 0x00 ∷ 0x35 ∷ 0x00
    ∷ 0x06 ∷ 0x11 ∷ 0x9C ∷ 0x00 ∷ 0x25 ∷ []

-- SQLCARD of success: DDM, volume 3, SQLCARD
abbrev pub statement_done : List ℕ
statement_done = 0x00 ∷ 0x05 ∷ 0x24 ∷ 0x08 ∷ 0xFF ∷ []

-- DDM, volume 3, PRCCNVRM
abbrev pub not_allowed : List ℕ
not_allowed = 0x00 ∷ 0x0A ∷ 0x12 ∷ 0x45 ∷ 0x00 ∷ 0x06 ∷ 0x11 ∷ 0x49 ∷ 0x00 ∷ 0x08 ∷ []

abbrev pub small_reply : ℕ → ℕ → Dss
small_reply code number =
    if code == accrdb then last Reply number access_given
    else (if code == excsqlimm then last Object number statement_done
    else last Reply number not_allowed)

abbrev pub small : {S : Type 0} → Meaning S (Unit {0})
small = record {
  fresh = tt;
  base = λ st. tt;
  data_after = λ s u c. s;
  unit_after = λ s u c. u;
  replies = λ s u c. small_reply c.code c.corr ∷ [];
}

abbrev pub small_values : {S : Type 0} → Values S (Unit {0})
small_values = record { shared = λ s. Unit {0}; unit = λ u. Unit {0}; stands = λ st u. Unit {0} }
