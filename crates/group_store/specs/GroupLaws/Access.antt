-- Access leads the units of the small group where a session's commands lead the session.
use Rattle.std.proofs.Common.{◌≡◌, ℕ, ◌==◌, Bool, true, false, not, if◌then◌else◌, List, [], ◌∷◌, length, refl, sym, ap}
use Rattle.std.proofs.Common.{◌∙◌, subst, arith, true≢false}
use Rattle.std.proofs.Common.{Option, Some, None, is_none}
use Rattle.std.specs.Prelude.{bytes_eq, unwrap_or}
use Rattle.std.proofs.lemmas.Bool.{cond_both, cond-true, cond-false, and_parts}
use Rattle.std.proofs.lemmas.Slice.Eq.{bytes_eq-Decides}
use Rattle.byteorder.specs.Endian.{big_bytes}
use Rattle.byteorder.specs.Numbers.{length-bytes_high_first}
use Rattle.ddm_objects.specs.Objects.{extent_at, object_at, first_object}
use Rattle.ddm_objects.specs.Members.{members_within}
use Rattle.ddm_codepoints.specs.declared.typdef.TypDef.{TypDef}
use Rattle.ddm_codepoints.specs.declared.typdef.TypDef.TheVariants.{SqlAsc}
use Rattle.ddm_codepoints.specs.Character.{ebcdic_of}
use Rattle.ddm_codepoints.specs.CodeClass.{class_of}
use Rattle.ddm_codepoints.specs.CodePoint as point
use Rattle.ddm_codepoints.specs.Value.{info, error, admitted}
use Rattle.reply_texts.specs.Reply.{cmdnsp_object, prccnv_object}
use Rattle.access_handshake.specs.declared.access.Access.{Access}
use Rattle.access_handshake.specs.declared.stage.Stage.{Stage}
use Rattle.access_handshake.specs.declared.stage.Stage.TheVariants.{New, Attached, Chosen, Checked, Accessed}
use Rattle.access_handshake.specs.Parameter.{parameter}
use Rattle.access_handshake.specs.Excsat.{excsat_answer}
use Rattle.access_handshake.specs.Accsec.{has_secmec, accsecrd_offer, accsec_answer}
use Rattle.access_handshake.specs.Access.{hello_object, accsec_object}
use Rattle.access_handshake.specs.Stage.{next_stage}
use Rattle.unit_segments.specs.declared.command.Command.{Command}
use Rattle.unit_segments.specs.Command.{data_of}
use Rattle.unit_segments.specs.Registers.{Register as Logged, set_command, log_chain}
use Rattle.unit_segments.specs.Handshake.{own_command, replayed}
use Rattle.unit_segments.specs.Accepts.{gives_mechanism, gives_admission, has_accrdbrm, are_readable, accepts}
use Rattle.member_replies.specs.Reply.{Said, message, reply_data, dsss_of, secchkrm_object, accrdbrm_object, valnsprm_object}
use Rattle.plain_model.specs.Standing.{Standing, attached, register_typdef, accessed, checked}
use Rattle.plain_model.specs.Group.{Leads, told_typdef}
use Rattle.group_store.specs.Unit.{UnitState, nothing_at, checked_as, accessed_as}
use Rattle.group_store.specs.Answered.{Answered, says, refuses}
use Rattle.group_store.specs.Access.{Users, to_accsec, accsec_answered, secchkcd_of, secchk_answered, user_in, typdef_in, by_typdef, accrdb_answered}
use Rattle.group_store.specs.Execute.{excsqlset_answered}
use Rattle.group_store.specs.Store.{StoreState, is_known, done, answered, data_after, unit_after, replies, fresh, with_log, base_at, base, store_meaning}
use Rattle.group_store.specs.Values.{store_values}
use Rattle.group_store.specs.GroupLaws.Cases.{IsNow}
use Rattle.group_store.specs.GroupLaws.Replies.{accsec_by}

-- ---- which answer it is

pub secchk_is : (s : StoreState) (u : UnitState) (d : Command) → d.code ≡ point.secchk → IsNow u d → answered s u d ≡ secchk_answered s.users u (data_of d.body)
unfolding answered
secchk_is s u d e now =
    cond-false (not (is_known d.code)) (refuses u (cmdnsp_object d.code)) (if is_none (next_stage u.stage d.code) then refuses u prccnv_object else done s u d)
    (ap (λ n. not (is_known n)) e)
    ∙ cond-false (is_none (next_stage u.stage d.code)) (refuses u prccnv_object) (done s u d) now
    ∙ cond-false (d.code == point.excsat) _ _ (ap (λ n. n == point.excsat) e)
    ∙ cond-false (d.code == point.accsec) _ _ (ap (λ n. n == point.accsec) e)
    ∙ cond-true (d.code == point.secchk) _ _ (ap (λ n. n == point.secchk) e)

pub accrdb_is : (s : StoreState) (u : UnitState) (d : Command) → d.code ≡ point.accrdb → IsNow u d → answered s u d ≡ accrdb_answered u (data_of d.body)
unfolding answered
accrdb_is s u d e now =
    cond-false (not (is_known d.code)) (refuses u (cmdnsp_object d.code)) (if is_none (next_stage u.stage d.code) then refuses u prccnv_object else done s u d)
    (ap (λ n. not (is_known n)) e)
    ∙ cond-false (is_none (next_stage u.stage d.code)) (refuses u prccnv_object) (done s u d) now
    ∙ cond-false (d.code == point.excsat) _ _ (ap (λ n. n == point.excsat) e)
    ∙ cond-false (d.code == point.accsec) _ _ (ap (λ n. n == point.accsec) e)
    ∙ cond-false (d.code == point.secchk) _ _ (ap (λ n. n == point.secchk) e)
    ∙ cond-true (d.code == point.accrdb) _ _ (ap (λ n. n == point.accrdb) e)

-- ---- SECCHK

pub record Admission (params : List ℕ) (number : ℕ) (a : Answered) : Type 0 where
  pub given : gives_admission (dsss_of number a.said) ≡ true → a.unit ≡ checked_as (user_in params)
  pub refused : gives_admission (dsss_of number a.said) ≡ false → a.unit ≡ nothing_at Attached

admission_said : (number : ℕ) → gives_admission (dsss_of number (message (secchkrm_object info admitted) ∷ [])) ≡ true
unfolding parameter members_within object_at extent_at first_object
admission_said number = refl

refusal_said : (number code : ℕ) → (code == admitted) ≡ false → gives_admission (dsss_of number (message (secchkrm_object error code) ∷ [])) ≡ false
unfolding parameter members_within object_at extent_at first_object
refusal_said number code e = rw e refl

pub secchk_leads : (users : Users) (u : UnitState) (params : List ℕ) (number : ℕ) → Admission params number (secchk_answered users u params)
secchk_leads users u params number =
    cond_both (secchkcd_of users params == admitted) (says (checked_as (user_in params)) (message (secchkrm_object info admitted)))
    (says (nothing_at Attached) (message (secchkrm_object error (secchkcd_of users params)))) (Admission params number)
    (λ e. record { given = λ f. refl; refused = λ f. absurd (true≢false (sym (admission_said number) ∙ f)) })
    (λ e. record { given = λ f. absurd (true≢false (sym f ∙ refusal_said number (secchkcd_of users params) e)); refused = λ f. refl })

-- ---- ACCRDB

valnsp_said : (number : ℕ) → has_accrdbrm (dsss_of number (message valnsprm_object ∷ [])) ≡ false
unfolding valnsprm_object object_at extent_at first_object
valnsp_said number = refl

accrdbrm_said : (number : ℕ) → has_accrdbrm (dsss_of number (message accrdbrm_object ∷ [])) ≡ true
unfolding accrdbrm_object object_at extent_at first_object ebcdic_of
accrdbrm_said number = refl

pub record Access_given (u : UnitState) (params : List ℕ) (number : ℕ) (a : Answered) : Type 0 where
  pub given : has_accrdbrm (dsss_of number a.said) ≡ true → a.unit ≡ accessed_as u.user (unwrap_or (typdef_in params) SqlAsc)
  pub refused : has_accrdbrm (dsss_of number a.said) ≡ false → a.unit ≡ u

pub accrdb_leads : (u : UnitState) (params : List ℕ) (number : ℕ) → Access_given u params number (accrdb_answered u params)
accrdb_leads u params number = go (typdef_in params) refl
  where
    go : (o : Option TypDef) → typdef_in params ≡ o → Access_given u params number (by_typdef u o)
    go None e = record { given = λ f. absurd (true≢false (sym f ∙ valnsp_said number)); refused = λ f. refl }
    go (Some typdef) e = record {
      given = λ f. ap (λ (o : Option TypDef). accessed_as u.user (unwrap_or o SqlAsc)) (sym e);
      refused = λ f. absurd (true≢false (sym (accrdbrm_said number) ∙ f));
    }

-- ---- the gateway's own commands

own_excsat : (s : StoreState) (typ : TypDef) (mechanism : ℕ) → unit_after s fresh (own_command point.excsat hello_object) ≡ nothing_at Attached
unfolding unit_after answered excsat_answer parameter members_within object_at extent_at first_object
own_excsat s typ mechanism = refl

cmdnsp_said : (mechanism number : ℕ) → gives_mechanism mechanism (dsss_of number (message (cmdnsp_object point.accsec) ∷ [])) ≡ false
unfolding cmdnsp_object object_at extent_at first_object
cmdnsp_said mechanism number = refl

offer_differs : (mechanism : ℕ) → bytes_eq (0 ∷ 3 ∷ 0 ∷ 4 ∷ []) (big_bytes 2 mechanism) ≡ false
offer_differs mechanism = go (bytes_eq (0 ∷ 3 ∷ 0 ∷ 4 ∷ []) (big_bytes 2 mechanism)) refl
  where
    go : (b : Bool) → bytes_eq (0 ∷ 3 ∷ 0 ∷ 4 ∷ []) (big_bytes 2 mechanism) ≡ b → b ≡ false
    go true e = absurd (omega (arith, ap length ((bytes_eq-Decides (0 ∷ 3 ∷ 0 ∷ 4 ∷ []) (big_bytes 2 mechanism)).0 e), length-bytes_high_first 2 mechanism))
    go false e = refl

offer_said : (mechanism number : ℕ) → gives_mechanism mechanism (dsss_of number (reply_data accsecrd_offer ∷ [])) ≡ false
unfolding accsecrd_offer parameter members_within object_at extent_at first_object
offer_said mechanism number = offer_differs mechanism

chooses : (u : UnitState) (params : List ℕ) (mechanism number : ℕ) → gives_mechanism mechanism (dsss_of number (accsec_answered u params).said) ≡ true
    → (accsec_answered u params).unit ≡ nothing_at Chosen
chooses u params mechanism number = cond_both (has_secmec params) (to_accsec u (accsec_answer params)) (refuses u (cmdnsp_object point.accsec))
    (λ (a : Answered). gives_mechanism mechanism (dsss_of number a.said) ≡ true → a.unit ≡ nothing_at Chosen)
    (λ e. accsec_by (λ a. gives_mechanism mechanism (dsss_of number (to_accsec u a).said) ≡ true → (to_accsec u a).unit ≡ nothing_at Chosen)
    (λ chosen f. refl) (λ f. absurd (true≢false (sym f ∙ offer_said mechanism number))) params)
    (λ e f. absurd (true≢false (sym f ∙ cmdnsp_said mechanism number)))

own_accsec : (s : StoreState) (typ : TypDef) (mechanism : ℕ) (body : List ℕ)
    → accepts typ mechanism point.accsec (replies s (nothing_at Attached) (own_command point.accsec body)) ≡ true
    → unit_after s (nothing_at Attached) (own_command point.accsec body) ≡ nothing_at Chosen
unfolding unit_after replies answered
own_accsec s typ mechanism body e = chooses (nothing_at Attached) (data_of body) mechanism 1 e

own_secchk : (s : StoreState) (typ : TypDef) (mechanism : ℕ) (body : List ℕ)
    → accepts typ mechanism point.secchk (replies s (nothing_at Chosen) (own_command point.secchk body)) ≡ true
    → unit_after s (nothing_at Chosen) (own_command point.secchk body) ≡ checked_as (user_in (data_of body))
unfolding unit_after replies answered
own_secchk s typ mechanism body e = (secchk_leads s.users (nothing_at Chosen) (data_of body) 1).given e

own_accrdb : (s : StoreState) (typ : TypDef) (mechanism : ℕ) (user body : List ℕ)
    → accepts typ mechanism point.accrdb (replies s (checked_as user) (own_command point.accrdb body)) ≡ true
    → unit_after s (checked_as user) (own_command point.accrdb body) ≡ accessed_as user (unwrap_or (typdef_in (data_of body)) SqlAsc)
unfolding unit_after replies answered
own_accrdb s typ mechanism user body e =
    (accrdb_leads (checked_as user) (data_of body) 1).given (and_parts (has_accrdbrm (dsss_of 1 said)) (are_readable (dsss_of 1 said)) e).0
  where
    said : List Said
    said = (accrdb_answered (checked_as user) (data_of body)).said

own_set : (s : StoreState) (user : List ℕ) (typdef : TypDef) (log : List Logged)
    → unit_after s (accessed_as user typdef) (set_command log) ≡ with_log (accessed_as user typdef) log
unfolding unit_after answered class_of
own_set s user typdef log = refl

no_log : (u : UnitState) → with_log u [] ≡ u
unfolding excsqlset_answered
no_log u = refl

-- ---- one after another

abbrev Leads_to : TypDef → ℕ → UnitState → List Command → UnitState → Type 0
Leads_to typ mechanism u cs to = Leads store_meaning store_values typ mechanism u cs to

data_same : (s : StoreState) (u : UnitState) (c : Command) → (c.code == point.rdbcmm) ≡ false → data_after s u c ≡ s
unfolding data_after
data_same s u c e = rw e refl

leads_on : (typ : TypDef) (mechanism : ℕ) (u to : UnitState) (c : Command) (cs : List Command) (next : UnitState) → (c.code == point.rdbcmm) ≡ false
    → ((s : StoreState) → accepts typ mechanism c.code (replies s u c) ≡ true → unit_after s u c ≡ next)
    → ((told : TypDef) → Leads_to told mechanism next cs to) → Leads_to typ mechanism u (c ∷ cs) to
leads_on typ mechanism u to c cs next no_commit one others = λ s is. (
  data_same s u c no_commit,
  λ accepted. subst (λ (v : UnitState). Leads_to (told_typdef typ (replies s u c)) mechanism v cs to) (sym (one s accepted))
      (others (told_typdef typ (replies s u c))),
)

pub greeted : (typ : TypDef) (mechanism : ℕ) → Leads_to typ mechanism fresh (own_command point.excsat hello_object ∷ []) (base attached)
unfolding base
greeted typ mechanism =
    leads_on typ mechanism fresh (nothing_at Attached) (own_command point.excsat hello_object) [] (nothing_at Attached) refl
    (λ s accepted. own_excsat s typ mechanism) (λ told. refl)

leads_accsec : (typ : TypDef) (mechanism : ℕ) (body : List ℕ) (cs : List Command) (to : UnitState)
    → ((told : TypDef) → Leads_to told mechanism (nothing_at Chosen) cs to)
    → Leads_to typ mechanism (nothing_at Attached) (own_command point.accsec body ∷ cs) to
leads_accsec typ mechanism body cs to others =
    leads_on typ mechanism (nothing_at Attached) to (own_command point.accsec body) cs (nothing_at Chosen) refl
    (λ s accepted. own_accsec s typ mechanism body accepted) others

leads_secchk : (typ : TypDef) (mechanism : ℕ) (body : List ℕ) (cs : List Command) (to : UnitState)
    → ((told : TypDef) → Leads_to told mechanism (checked_as (user_in (data_of body))) cs to)
    → Leads_to typ mechanism (nothing_at Chosen) (own_command point.secchk body ∷ cs) to
leads_secchk typ mechanism body cs to others =
    leads_on typ mechanism (nothing_at Chosen) to (own_command point.secchk body) cs (checked_as (user_in (data_of body))) refl
    (λ s accepted. own_secchk s typ mechanism body accepted) others

leads_accrdb : (typ : TypDef) (mechanism : ℕ) (user body : List ℕ) (cs : List Command) (to : UnitState)
    → ((told : TypDef) → Leads_to told mechanism (accessed_as user (unwrap_or (typdef_in (data_of body)) SqlAsc)) cs to)
    → Leads_to typ mechanism (checked_as user) (own_command point.accrdb body ∷ cs) to
leads_accrdb typ mechanism user body cs to others =
    leads_on typ mechanism (checked_as user) to (own_command point.accrdb body) cs (accessed_as user (unwrap_or (typdef_in (data_of body)) SqlAsc)) refl
    (λ s accepted. own_accrdb s typ mechanism user body accepted) others

leads_sets : (typ : TypDef) (mechanism : ℕ) (user : List ℕ) (typdef : TypDef) (log : List Logged)
    → Leads_to typ mechanism (accessed_as user typdef) (log_chain log) (with_log (accessed_as user typdef) log)
leads_sets typ mechanism user typdef [] = sym (no_log (accessed_as user typdef))
leads_sets typ mechanism user typdef (register ∷ log) =
    leads_on typ mechanism (accessed_as user typdef) (with_log (accessed_as user typdef) (register ∷ log)) (set_command (register ∷ log)) []
    (with_log (accessed_as user typdef) (register ∷ log)) refl (λ s accepted. own_set s user typdef (register ∷ log)) (λ told. refl)

leads_by : (name : List ℕ) (typ : TypDef) (mechanism : ℕ) (stage : Stage) (access : Access) (log : List Logged)
    → Leads_to typ mechanism (nothing_at Attached) (replayed name stage access log) (base_at stage access log)
leads_by name typ mechanism New access log = refl
leads_by name typ mechanism Attached access log = refl
leads_by name typ mechanism Chosen access log =
    leads_accsec typ mechanism (accsec_object access.secmec name) [] (nothing_at Chosen) (λ told. refl)
leads_by name typ mechanism Checked access log =
    leads_accsec typ mechanism (accsec_object access.secmec name) (own_command point.secchk access.secchk ∷ []) (checked_as (user_in (data_of access.secchk)))
    (λ t. leads_secchk t mechanism access.secchk [] (checked_as (user_in (data_of access.secchk))) (λ told. refl))
leads_by name typ mechanism Accessed access log =
    let user : List ℕ = user_in (data_of access.secchk) in
    let typdef : TypDef = register_typdef access in
    let to : UnitState = with_log (accessed_as user typdef) log in
    leads_accsec typ mechanism (accsec_object access.secmec name)
    (own_command point.secchk access.secchk ∷ own_command point.accrdb access.accrdb ∷ log_chain log) to
    (λ t. leads_secchk t mechanism access.secchk (own_command point.accrdb access.accrdb ∷ log_chain log) to
    (λ r. leads_accrdb r mechanism user access.accrdb (log_chain log) to (λ told. leads_sets told mechanism user typdef log)))

pub led_back : (name : List ℕ) (typ : TypDef) (st : Standing)
    → Leads_to typ st.access.secmec (base attached) (replayed name st.stage st.access st.log) (base st)
unfolding base
led_back name typ st = leads_by name typ st.access.secmec st.stage st.access st.log

-- ---- a session that gets access

abbrev at_place : Stage → Standing → UnitState
at_place stage st = base_at stage st.access st.log

pub base_there : (st : Standing) (stage : Stage) → st.stage ≡ stage → base st ≡ at_place stage st
unfolding base
base_there st stage at = ap (λ (q : Stage). base_at q st.access st.log) at

pub checked_base : (st : Standing) (secchk : List ℕ) → base (checked secchk st) ≡ checked_as (user_in (data_of secchk))
unfolding base
checked_base st secchk = refl

pub attached_base : base attached ≡ nothing_at Attached
unfolding base
attached_base = refl

pub accessed_base : (st : Standing) (accrdb : List ℕ)
    → base (accessed accrdb st) ≡ accessed_as (user_in (data_of st.access.secchk)) (unwrap_or (typdef_in (data_of accrdb)) SqlAsc)
unfolding base
accessed_base st accrdb = no_log _
