-- What a command is answered, by its code point.
use Rattle.std.proofs.Common.{◌≡◌, ℕ, ◌==◌, Bool, true, false, not, if◌then◌else◌, sym, refl, is_none}
use Rattle.std.proofs.Common.{eqb-true, true≢false}
use Rattle.std.proofs.lemmas.Bool.{cond_both}
use Rattle.ddm_codepoints.specs.CodePoint.{excsat, accsec, secchk, accrdb, rdbcmm, rdbrllbck, excsqlimm, excsqlset, prpsqlstt, opnqry, cntqry}
use Rattle.reply_texts.specs.Reply.{cmdnsp_object, prccnv_object}
use Rattle.access_handshake.specs.Stage.{next_stage}
use Rattle.unit_segments.specs.declared.command.Command.{Command}
use Rattle.unit_segments.specs.Command.{data_of}
use Rattle.group_store.specs.Unit.{UnitState}
use Rattle.group_store.specs.Answered.{Answered, refuses}
use Rattle.group_store.specs.Access.{excsat_answered, accsec_answered, secchk_answered, accrdb_answered}
use Rattle.group_store.specs.Execute.{excsqlimm_answered, excsqlset_answered}
use Rattle.group_store.specs.Query.{prpsqlstt_answered, opnqry_answered, cntqry_answered, clsqry_answered}
use Rattle.group_store.specs.UnitEnd.{rdbcmm_answered, rdbrllbck_answered}
use Rattle.group_store.specs.Store.{StoreState, is_known, done, answered}

-- the stage allows it
abbrev pub IsNow : UnitState → Command → Type 0
IsNow u c = is_none (next_stage u.stage c.code) ≡ false

pub record AllCases (s : StoreState) (u : UnitState) (c : Command) (P : Answered → Type 0) : Type 0 where
  pub unknown : is_known c.code ≡ false → P (refuses u (cmdnsp_object c.code))
  pub not_now : is_none (next_stage u.stage c.code) ≡ true → P (refuses u prccnv_object)
  pub at_excsat : c.code ≡ excsat → IsNow u c → P (excsat_answered u (data_of c.body))
  pub at_accsec : c.code ≡ accsec → IsNow u c → P (accsec_answered u (data_of c.body))
  pub at_secchk : c.code ≡ secchk → IsNow u c → P (secchk_answered s.users u (data_of c.body))
  pub at_accrdb : c.code ≡ accrdb → IsNow u c → P (accrdb_answered u (data_of c.body))
  pub at_rdbcmm : c.code ≡ rdbcmm → IsNow u c → P (rdbcmm_answered s.rows u c)
  pub at_rdbrllbck : c.code ≡ rdbrllbck → IsNow u c → P (rdbrllbck_answered u c)
  pub at_excsqlimm : c.code ≡ excsqlimm → IsNow u c → P (excsqlimm_answered s.rows s.commits u c)
  pub at_excsqlset : c.code ≡ excsqlset → IsNow u c → P (excsqlset_answered u c)
  pub at_prpsqlstt : c.code ≡ prpsqlstt → IsNow u c → P (prpsqlstt_answered u c)
  pub at_opnqry : c.code ≡ opnqry → IsNow u c → P (opnqry_answered s.rows u c)
  pub at_cntqry : c.code ≡ cntqry → IsNow u c → P (cntqry_answered u c)
  pub at_clsqry : IsNow u c → P (clsqry_answered u c)

step : {A : Type 0} (n code : ℕ) (x y : A) (P : A → Type 0) → (n ≡ code → P x) → P y → P (if n == code then x else y)
step n code x y P p q = cond_both (n == code) x y P (λ e. p (eqb-true n code e)) (λ e. q)

done_by : (s : StoreState) (u : UnitState) (c : Command) (P : Answered → Type 0) → AllCases s u c P → IsNow u c → P (done s u c)
done_by s u c P all now =
    step c.code excsat _ _ P (λ e. all.at_excsat e now)
    (step c.code accsec _ _ P (λ e. all.at_accsec e now)
    (step c.code secchk _ _ P (λ e. all.at_secchk e now)
    (step c.code accrdb _ _ P (λ e. all.at_accrdb e now)
    (step c.code rdbcmm _ _ P (λ e. all.at_rdbcmm e now)
    (step c.code rdbrllbck _ _ P (λ e. all.at_rdbrllbck e now)
    (step c.code excsqlimm _ _ P (λ e. all.at_excsqlimm e now)
    (step c.code excsqlset _ _ P (λ e. all.at_excsqlset e now)
    (step c.code prpsqlstt _ _ P (λ e. all.at_prpsqlstt e now)
    (step c.code opnqry _ _ P (λ e. all.at_opnqry e now)
    (step c.code cntqry _ _ P (λ e. all.at_cntqry e now) (all.at_clsqry now)))))))))))

not_known : (b : Bool) → not b ≡ true → b ≡ false
not_known true e = absurd (true≢false (sym e))
not_known false e = refl

pub answered_by : (s : StoreState) (u : UnitState) (c : Command) (P : Answered → Type 0) → AllCases s u c P → P (answered s u c)
unfolding answered
answered_by s u c P all =
    cond_both (not (is_known c.code)) (refuses u (cmdnsp_object c.code)) (if is_none (next_stage u.stage c.code) then refuses u prccnv_object else done s u c) P
    (λ e. all.unknown (not_known (is_known c.code) e))
    (λ e. cond_both (is_none (next_stage u.stage c.code)) (refuses u prccnv_object) (done s u c) P all.not_now (λ now. done_by s u c P all now))
