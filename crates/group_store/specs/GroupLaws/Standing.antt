-- Where the units of the small group stand for a session.
use Rattle.std.proofs.Common.{◌≡◌, ℕ, ◌==◌, true, false, List, [], ◌∷◌, map, length, refl, sym, ap}
use Rattle.std.proofs.Common.{◌∙◌, subst, arith, true≢false, eqb-true}
use Rattle.std.proofs.Common.{None, is_none}
use Rattle.std.specs.Prelude.{unwrap_or}
use Rattle.std.specs.List.{AllByRecursion}
use Rattle.std.proofs.lemmas.Bool.{cond-true}
use Rattle.ddm_codepoints.specs.declared.typdef.TypDef.{TypDef}
use Rattle.ddm_codepoints.specs.declared.typdef.TypDef.TheVariants.{SqlAsc}
use Rattle.ddm_codepoints.specs.declared.code_class.CodeClass.{CodeClass}
use Rattle.ddm_codepoints.specs.declared.code_class.CodeClass.TheVariants.{Pass}
use Rattle.ddm_codepoints.specs.CodeClass.{class_of}
use Rattle.ddm_codepoints.specs.CodePoint.{secchk, accrdb, rdbcmm, rdbrllbck}
use Rattle.access_handshake.specs.declared.access.Access.{Access}
use Rattle.access_handshake.specs.declared.stage.Stage.{Stage}
use Rattle.access_handshake.specs.declared.stage.Stage.TheVariants.{New, Attached, Chosen, Checked, Accessed}
use Rattle.access_handshake.specs.Stage.{next_stage}
use Rattle.unit_segments.specs.declared.command.Command.{Command}
use Rattle.unit_segments.specs.Command.{ends_unit, data_of}
use Rattle.unit_segments.specs.Release.{asked}
use Rattle.unit_segments.specs.Registers.{Register as Logged, AfterSets, with_sets}
use Rattle.unit_segments.specs.Accepts.{gives_admission, has_accrdbrm}
use Rattle.member_replies.specs.Reply.{dsss_of}
use Rattle.plain_model.specs.Standing.{Standing, attached, checked, accessed, register_typdef, log_with, after_end}
use Rattle.plain_model.specs.UnitEnd.{unasked, ends, releases, sets_in}
use Rattle.plain_model.specs.Group.{IsCommand}
use Rattle.group_store.specs.Access.{user_in, typdef_in}
use Rattle.group_store.specs.Unit.{Registers, Cursors, UnitState, nothing_at, checked_as, accessed_as}
use Rattle.group_store.specs.Answered.{Answered}
use Rattle.group_store.specs.UnitEnd.{has_no_cursor}
use Rattle.group_store.specs.Store.{StoreState, unit_after, replies, with_log, base_at, base}
use Rattle.group_store.specs.Values.{IsSet, AreSet, set_data, logged, IsAmong, IsAccessed, StandsAt, Stands, IsUnit}
use Rattle.group_store.specs.GroupLaws.Registers.{Entry, of_each, to_each, with_values, all_set, has_told, set_again, told_all, told_among, told_alone}
use Rattle.group_store.specs.GroupLaws.Ends.{it_ends, it_releases, it_tells}
use Rattle.group_store.specs.GroupLaws.Logs.{log_after, set_again_is}
use Rattle.group_store.specs.GroupLaws.Units.{unit_kept_is, kept_excsqlset, stays_accessed}
use Rattle.group_store.specs.GroupLaws.UnitEnds.{left, Both, both_of, is_now}
use Rattle.group_store.specs.GroupLaws.Asking.{ends_code}
use Rattle.group_store.specs.GroupLaws.Access.{secchk_is, accrdb_is, secchk_leads, accrdb_leads, base_there, checked_base, attached_base, accessed_base}

no_registers : AreSet []
no_registers = record { each = tt; order = tt }

-- ---- the unit to which a session is led

abbrev log_of : TypDef → Registers → List Logged
log_of typ told = map (logged typ) told

abbrev accessed_with : Access → Registers → UnitState
accessed_with access registers = record (accessed_as (user_in (data_of access.secchk)) (register_typdef access)) { registers = registers }

base_told : (st : Standing) (told : Registers) → st.stage ≡ Accessed → st.log ≡ log_of (register_typdef st.access) told → AllByRecursion IsSet told
    → base st ≡ accessed_with st.access (with_values told [])
base_told st told at log each =
    base_there st Accessed at
    ∙ ap (λ (l : List Logged). with_log (accessed_as (user_in (data_of st.access.secchk)) (register_typdef st.access)) l) log
    ∙ set_again_is (user_in (data_of st.access.secchk)) (register_typdef st.access) told each

at_told : (st : Standing) (told : Registers) → st.stage ≡ Accessed → st.log ≡ log_of (register_typdef st.access) told → AllByRecursion IsSet told
    → IsAccessed st (base st)
at_told st told at log each = subst (IsAccessed st) (sym (base_told st told at log each)) (record {
  stage = refl;
  user = refl;
  typdef = refl;
  registers = all_set told [] each no_registers;
  told = told;
  log = log;
  each = each;
  within = λ entry among. has_told told [] entry among;
})

stands_there : (st : Standing) (stage : Stage) → (stage ≡ Accessed → IsAccessed st (base st)) → StandsAt stage st (base st)
stands_there st New is = refl
stands_there st Attached is = refl
stands_there st Chosen is = refl
stands_there st Checked is = refl
stands_there st Accessed is = is refl

pub at_unset : (st : Standing) → st.log ≡ [] → Stands st (base st)
at_unset st none = stands_there st st.stage (λ at. at_told st [] at none tt)

-- where it stands at a stage that is known
pub stands_at : (st : Standing) (u : UnitState) (stage : Stage) → st.stage ≡ stage → Stands st u → StandsAt stage st u
stands_at st u stage at is = subst (λ (q : Stage). StandsAt q st u) at is

pub stands_by : (st : Standing) (u : UnitState) (stage : Stage) → st.stage ≡ stage → StandsAt stage st u → Stands st u
stands_by st u stage at is = subst (λ (q : Stage). StandsAt q st u) (sym at) is

pub at_its_base : (st : Standing) (u : UnitState) → Stands st u → Stands st (base st)
at_its_base st u is = stands_there st st.stage (λ at. go at (stands_at st u Accessed at is))
  where
    go : st.stage ≡ Accessed → IsAccessed st u → IsAccessed st (base st)
    go at there = at_told st there.told at there.log there.each

-- ---- it is the group's

base_by : (stage : Stage) (access : Access) (log : List Logged) → IsUnit (base_at stage access log)
base_by New access log = no_registers
base_by Attached access log = no_registers
base_by Chosen access log = no_registers
base_by Checked access log = no_registers
base_by Accessed access log = kept_excsqlset IsUnit unit_kept_is (accessed_as (user_in (data_of access.secchk)) (register_typdef access)) _ no_registers

pub base_is_unit : (st : Standing) → IsUnit (base st)
unfolding base
base_is_unit st = base_by st.stage st.access st.log

pub stands_is_unit : (st : Standing) (u : UnitState) → Stands st u → IsUnit u
stands_is_unit st u is = go st.stage is
  where
    go : (stage : Stage) → StandsAt stage st u → IsUnit u
    go New e = subst IsUnit (sym e) (base_is_unit st)
    go Attached e = subst IsUnit (sym e) (base_is_unit st)
    go Chosen e = subst IsUnit (sym e) (base_is_unit st)
    go Checked e = subst IsUnit (sym e) (base_is_unit st)
    go Accessed there = there.registers

-- ---- SECCHK and ACCRDB

chosen_now : (u : UnitState) (c : Command) → u ≡ nothing_at Chosen → c.code ≡ secchk → is_none (next_stage u.stage c.code) ≡ false
chosen_now u c is e = ap (λ (v : UnitState). is_none (next_stage v.stage c.code)) is ∙ ap (λ n. is_none (next_stage Chosen n)) e

secchk_unit : (s : StoreState) (u : UnitState) (c : Command) → u ≡ nothing_at Chosen → c.code ≡ secchk
    → (gives_admission (replies s u c) ≡ true → unit_after s u c ≡ checked_as (user_in (data_of c.body)))
    × (gives_admission (replies s u c) ≡ false → unit_after s u c ≡ nothing_at Attached)
unfolding replies unit_after
secchk_unit s u c is e =
    let answer = secchk_is s u c e (chosen_now u c is e) in
    let leads = secchk_leads s.users u (data_of c.body) c.corr in (
      λ f. ap (λ (a : Answered). a.unit) answer ∙ leads.given (ap (λ (a : Answered). gives_admission (dsss_of c.corr a.said)) (sym answer) ∙ f),
      λ f. ap (λ (a : Answered). a.unit) answer ∙ leads.refused (ap (λ (a : Answered). gives_admission (dsss_of c.corr a.said)) (sym answer) ∙ f),
    )

chosen_is : (st : Standing) (u : UnitState) → st.stage ≡ Chosen → Stands st u → u ≡ nothing_at Chosen
chosen_is st u at is = stands_at st u Chosen at is ∙ base_there st Chosen at

pub is_admitted : (st : Standing) (s : StoreState) (u : UnitState) (c : Command) → Stands st u → st.stage ≡ Chosen → c.code ≡ secchk
    → gives_admission (replies s u c) ≡ true → Stands (checked c.body st) (unit_after s u c)
is_admitted st s u c is at e f = (secchk_unit s u c (chosen_is st u at is) e).0 f ∙ sym (checked_base st c.body)

pub is_not_admitted : (st : Standing) (s : StoreState) (u : UnitState) (c : Command) → Stands st u → st.stage ≡ Chosen → c.code ≡ secchk
    → gives_admission (replies s u c) ≡ false → unit_after s u c ≡ base attached
is_not_admitted st s u c is at e f = (secchk_unit s u c (chosen_is st u at is) e).1 f ∙ sym attached_base

checked_now : (u : UnitState) (c : Command) (user : List ℕ) → u ≡ checked_as user → c.code ≡ accrdb → is_none (next_stage u.stage c.code) ≡ false
checked_now u c user is e = ap (λ (v : UnitState). is_none (next_stage v.stage c.code)) is ∙ ap (λ n. is_none (next_stage Checked n)) e

accrdb_unit : (s : StoreState) (u : UnitState) (c : Command) (user : List ℕ) → u ≡ checked_as user → c.code ≡ accrdb
    → (has_accrdbrm (replies s u c) ≡ true → unit_after s u c ≡ accessed_as u.user (unwrap_or (typdef_in (data_of c.body)) SqlAsc))
    × (has_accrdbrm (replies s u c) ≡ false → unit_after s u c ≡ u)
unfolding replies unit_after
accrdb_unit s u c user is e =
    let answer = accrdb_is s u c e (checked_now u c user is e) in
    let leads = accrdb_leads u (data_of c.body) c.corr in (
      λ f. ap (λ (a : Answered). a.unit) answer ∙ leads.given (ap (λ (a : Answered). has_accrdbrm (dsss_of c.corr a.said)) (sym answer) ∙ f),
      λ f. ap (λ (a : Answered). a.unit) answer ∙ leads.refused (ap (λ (a : Answered). has_accrdbrm (dsss_of c.corr a.said)) (sym answer) ∙ f),
    )

checked_is : (st : Standing) (u : UnitState) → st.stage ≡ Checked → Stands st u → u ≡ checked_as (user_in (data_of st.access.secchk))
checked_is st u at is = stands_at st u Checked at is ∙ base_there st Checked at

pub is_let_in : (st : Standing) (s : StoreState) (u : UnitState) (c : Command) → Stands st u → st.stage ≡ Checked → c.code ≡ accrdb
    → has_accrdbrm (replies s u c) ≡ true → unit_after s u c ≡ base (accessed c.body st)
is_let_in st s u c is at e f =
    let there = checked_is st u at is in
    (accrdb_unit s u c (user_in (data_of st.access.secchk)) there e).0 f
    ∙ ap (λ (v : UnitState). accessed_as v.user (unwrap_or (typdef_in (data_of c.body)) SqlAsc)) there
    ∙ sym (accessed_base st c.body)

pub is_not_let_in : (st : Standing) (s : StoreState) (u : UnitState) (c : Command) → Stands st u → st.stage ≡ Checked → c.code ≡ accrdb
    → has_accrdbrm (replies s u c) ≡ false → Stands st (unit_after s u c)
is_not_let_in st s u c is at e f =
    subst (Stands st) (sym ((accrdb_unit s u c (user_in (data_of st.access.secchk)) (checked_is st u at is) e).1 f)) is

-- ---- commands that don't end a unit

commit_ends : ends_unit (class_of rdbcmm) ≡ true
unfolding class_of
commit_ends = refl

roll_back_ends : ends_unit (class_of rdbrllbck) ≡ true
unfolding class_of
roll_back_ends = refl

pass_ends_none : (c : Command) (code : ℕ) → class_of c.code ≡ Pass → ends_unit (class_of code) ≡ true → c.code ≡ code → ⊥
pass_ends_none c code pass ends e =
    true≢false (sym ends ∙ ap (λ n. ends_unit (class_of n)) (sym e) ∙ ap (λ (k : CodeClass). ends_unit k) pass)

pub is_passed_on : (st : Standing) (s : StoreState) (u : UnitState) (c : Command) → Stands st u → st.stage ≡ Accessed → class_of c.code ≡ Pass
    → Stands st (unit_after s u c)
is_passed_on st s u c is at pass =
    stands_by st (unit_after s u c) Accessed at (stays_accessed st s u c (stands_at st u Accessed at is)
    (pass_ends_none c rdbcmm pass commit_ends) (pass_ends_none c rdbrllbck pass roll_back_ends))

-- ---- commands that end a unit

both_there : (st : Standing) (s : StoreState) (u : UnitState) (c : Command) → IsAccessed st u → IsCommand c → ends_unit (class_of c.code) ≡ true → Both s u c
both_there st s u c is command ends = both_of s u c command ends (is_now u c.code is.stage (ends_code c.code ends))

pub it_has_ended : (st : Standing) (s : StoreState) (u : UnitState) (c : Command) → IsAccessed st u → IsCommand c → ends_unit (class_of c.code) ≡ true
    → ends (replies s u (asked c)) ≡ true
it_has_ended st s u c is command end =
    let both = both_there st s u c is command end in
    let kept : UnitState = left u both.cursors in
    ap ends both.asked_replies ∙ it_ends c.corr both.disposition both.outcome kept (has_no_cursor kept) true

told_sets : (st : Standing) (s : StoreState) (u : UnitState) (c : Command) → IsAccessed st u → Both s u c
    → sets_in c (replies s u (asked c)) ≡ map (set_data (register_typdef st.access)) u.registers
told_sets st s u c is both =
    let kept : UnitState = left u both.cursors in
    ap (sets_in c) both.asked_replies ∙ it_tells c both.disposition both.outcome kept (has_no_cursor kept) is.registers.each
    ∙ ap (λ (typ : TypDef). map (set_data typ) u.registers) is.typdef

-- the log that the session has then
log_then : (st : Standing) (s : StoreState) (u : UnitState) (c : Command) → (is : IsAccessed st u) → Both s u c
    → (log_with st (sets_in c (replies s u (asked c)))).fault ≡ None
    → (after_end st (sets_in c (replies s u (asked c)))).log ≡ log_of (register_typdef st.access) (told_all u.registers is.told)
log_then st s u c is both none =
    let typ : TypDef = register_typdef st.access in
    let sets : List (List ℕ) = sets_in c (replies s u (asked c)) in
    let same : log_with st sets ≡ with_sets typ (map (set_data typ) u.registers) (log_of typ is.told) =
    ap (λ (bs : List (List ℕ)). with_sets typ bs st.log) (told_sets st s u c is both)
    ∙ ap (λ (log : List Logged). with_sets typ (map (set_data typ) u.registers) log) is.log in
    ap (λ (a : AfterSets). a.log) same
    ∙ log_after typ u.registers is.told is.registers.each is.each (sym (ap (λ (a : AfterSets). a.fault) same) ∙ none)

all_told : (st : Standing) (u : UnitState) (is : IsAccessed st u) (x : Entry) → IsAmong x (told_all u.registers is.told) → IsAmong x u.registers
all_told st u is x among = told_alone u.registers is.told is.within x among

each_told : (st : Standing) (u : UnitState) (is : IsAccessed st u) → AllByRecursion IsSet (told_all u.registers is.told)
each_told st u is =
    to_each IsSet (told_all u.registers is.told) (λ x among. of_each IsSet u.registers is.registers.each x (all_told st u is x among))

pub is_held : (st : Standing) (s : StoreState) (u : UnitState) (c : Command) → IsAccessed st u → IsCommand c → st.stage ≡ Accessed
    → ends_unit (class_of c.code) ≡ true → (log_with st (sets_in c (replies s u (asked c)))).fault ≡ None
    → Stands (after_end st (sets_in c (replies s u (asked c)))) (unit_after s u (unasked c))
is_held st s u c is command at ends none =
    let both = both_there st s u c is command ends in
    let next : Standing = after_end st (sets_in c (replies s u (asked c))) in
    stands_by next (unit_after s u (unasked c)) Accessed at (subst (IsAccessed next) (sym both.unasked_unit) (record {
      stage = is.stage;
      user = is.user;
      typdef = is.typdef;
      registers = is.registers;
      told = told_all u.registers is.told;
      log = log_then st s u c is both none;
      each = each_told st u is;
      within = λ entry among. (entry.1, all_told st u is entry among);
    }))

-- with nothing left besides its access and its registers
no_cursors : (cursors : Cursors) → (length cursors == 0) ≡ true → cursors ≡ []
no_cursors [] e = refl
no_cursors (cursor ∷ cursors) e = absurd (omega (arith, eqb-true (length (cursor ∷ cursors)) 0 e))

left_is : (st : Standing) (u : UnitState) (cursors : Cursors) → IsAccessed st u → cursors ≡ [] → left u cursors ≡ accessed_with st.access u.registers
left_is st u cursors is none =
    ap (λ (stage : Stage). record (left u cursors) { stage = stage }) is.stage
    ∙ ap (λ (user : List ℕ). record (left u cursors) { stage = Accessed; user = user }) is.user
    ∙ ap (λ (typ : TypDef). record (left u cursors) { stage = Accessed; user = user_in (data_of st.access.secchk); typdef = typ }) is.typdef
    ∙ ap (λ (cs : Cursors). record (left u cs) {
      stage = Accessed;
      user = user_in (data_of st.access.secchk);
      typdef = register_typdef st.access;
    }) none

pub is_released : (st : Standing) (s : StoreState) (u : UnitState) (c : Command) → IsAccessed st u → IsCommand c → st.stage ≡ Accessed
    → ends_unit (class_of c.code) ≡ true → releases (replies s u (asked c)) ≡ true
    → (log_with st (sets_in c (replies s u (asked c)))).fault ≡ None
    → (unit_after s u (asked c) ≡ base attached)
    × (unit_after s u (unasked c) ≡ base (after_end st (sets_in c (replies s u (asked c)))))
is_released st s u c is command at ends released none =
    let both = both_there st s u c is command ends in
    let kept : UnitState = left u both.cursors in
    let free : has_no_cursor kept ≡ true =
    sym (ap releases both.asked_replies ∙ it_releases c.corr both.disposition both.outcome kept (has_no_cursor kept) true) ∙ released in
    let told : Registers = told_all u.registers is.told in
    let again : with_values told [] ≡ u.registers =
    set_again told u.registers is.registers (all_told st u is) (λ x among. told_among 0 u.registers is.told is.registers.order x among) in
    let next : Standing = after_end st (sets_in c (replies s u (asked c))) in (
      both.asked_unit ∙ cond-true (has_no_cursor kept) (nothing_at Attached) kept free ∙ sym attached_base,
      both.unasked_unit ∙ left_is st u both.cursors is (no_cursors both.cursors free)
          ∙ ap (λ (registers : Registers). accessed_with st.access registers) (sym again)
          ∙ sym (base_told next told at (log_then st s u c is both none) (each_told st u is)),
    )
