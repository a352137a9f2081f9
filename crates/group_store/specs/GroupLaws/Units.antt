-- What commands leave of a unit: its registers, and where its session stands.
use Rattle.std.proofs.Common.{◌≡◌, ℕ, ◌==◌, ◌&&◌, Bool, true, false, List, [], ◌∷◌, refl, sym, ap}
use Rattle.std.proofs.Common.{◌∙◌, true≢false}
use Rattle.std.proofs.Common.{Option, Some, None, is_some, is_none}
use Rattle.std.specs.Prelude.{option_and_then}
use Rattle.std.proofs.lemmas.Bool.{cond_both}
use Rattle.std.specs.List.{list_any}
use Rattle.ddm_codepoints.specs.declared.typdef.TypDef.{TypDef}
use Rattle.ddm_codepoints.specs.CodeClass.{class_of}
use Rattle.ddm_codepoints.specs.CodePoint as point
use Rattle.ddm_codepoints.specs.Value.{admitted, committed, rolled_back}
use Rattle.reply_texts.specs.Reply.{cmdnsp_object}
use Rattle.access_handshake.specs.declared.stage.Stage.{Stage}
use Rattle.access_handshake.specs.declared.stage.Stage.TheVariants.{Accessed}
use Rattle.access_handshake.specs.Stage.{next_stage}
use Rattle.access_handshake.specs.Excsat.{excsat_answer}
use Rattle.access_handshake.specs.Accsec.{has_secmec, accsec_answer}
use Rattle.unit_segments.specs.declared.command.Command.{Command}
use Rattle.unit_segments.specs.Command.{data_of}
use Rattle.member_statements.specs.declared.statement.Statement.{Statement}
use Rattle.member_statements.specs.declared.statement.Statement.TheVariants.{Insert, Update, Delete, Set, Select}
use Rattle.member_statements.specs.declared.register.Register.{Register}
use Rattle.member_statements.specs.Reading.{statement_of}
use Rattle.member_statements.proofs.Read.{read_is_spelled}
use Rattle.member_replies.specs.declared.sql_outcome.SqlOutcome.{SqlOutcome}
use Rattle.member_replies.specs.declared.sql_outcome.SqlOutcome.TheVariants as outcome
use Rattle.plain_model.specs.Standing.{Standing}
use Rattle.group_store.specs.Rows.{Rows, Writes, conflicts}
use Rattle.group_store.specs.Unit.{Registers, CursorState, UnitState, after_commit, after_roll_back}
use Rattle.group_store.specs.Answered.{Answered, refuses}
use Rattle.group_store.specs.Access.{Users, to_excsat, are_read, excsat_answered, to_accsec, accsec_answered, secchkcd_of, secchk_answered, typdef_in}
use Rattle.group_store.specs.Access.{by_typdef}
use Rattle.group_store.specs.Statement.{is_object_with, data_with, text_of, statement_in, first_data, first_statement, section_of}
use Rattle.group_store.specs.Execute.{sees, statement_done, excsqlimm_answered, excsqlset_answered, set_by}
use Rattle.group_store.specs.Execute.{after_sets, with_value}
use Rattle.group_store.specs.Query.{in_section, is_select, prpsqlstt_answered, opens, opnqry_answered, fetched, fetches, cntqry_answered, closes}
use Rattle.group_store.specs.Query.{clsqry_answered}
use Rattle.group_store.specs.UnitEnd.{asks_release, asks_sets, has_no_cursor, ends_with, ended, rdbcmm_answered, rdbrllbck_answered}
use Rattle.group_store.specs.Store.{StoreState, unit_after}
use Rattle.group_store.specs.Values.{IsSet, AreSet, IsAccessed, IsUnit}
use Rattle.group_store.specs.GroupLaws.Cases.{IsNow, answered_by}
use Rattle.group_store.specs.GroupLaws.Replies.{excsat_by, accsec_by}
use Rattle.group_store.specs.GroupLaws.Registers.{still_set, keeps_register}

-- ---- registers that statements set

no_registers : AreSet []
no_registers = record { each = tt; order = tt }

-- a SET that was read gives a register that has a name, and a value
abbrev is_read : Option Statement → Type 0
is_read (Some (Set register value)) = IsSet (register, value)
is_read _ = Unit {0}

spelled_set : (text : List ℕ) (o : Option Statement) → statement_of text ≡ o → is_read o
spelled_set text None e = tt
spelled_set text (Some (Insert key value)) e = tt
spelled_set text (Some (Update key value)) e = tt
spelled_set text (Some (Delete key)) e = tt
spelled_set text (Some Select) e = tt
spelled_set text (Some (Set register value)) e =
    let spells = read_is_spelled text (Set register value) e in
    record { named = spells.0; value = spells.1 }

read_set : (typ : TypDef) (bytes : List ℕ) → is_read (statement_in typ bytes)
read_set typ bytes = go (text_of typ bytes)
  where
    go : (o : Option (List ℕ)) → is_read (option_and_then statement_of o)
    go None = tt
    go (Some text) = spelled_set text (statement_of text) refl

-- what holds of registers that are set and is kept by one more holds after all
pub after_by : (P : Registers → Type 0) → ((register : Register) (value : List ℕ) (registers : Registers) → IsSet (register, value) → P registers
    → P (with_value register value registers)) → (typ : TypDef) (sets : List (List ℕ)) (registers : Registers) → P registers
    → P (after_sets typ sets registers).registers
after_by P keeps typ [] registers is = is
after_by P keeps typ (bytes ∷ sets) registers is = go (statement_in typ bytes) (read_set typ bytes) (after_by P keeps typ sets)
  where
    go : (o : Option Statement) → is_read o → ((rs : Registers) → P rs → P (after_sets typ sets rs).registers)
        → P (set_by o registers (after_sets typ sets)).registers
    go None read others = is
    go (Some (Insert key value)) read others = is
    go (Some (Update key value)) read others = is
    go (Some (Delete key)) read others = is
    go (Some Select) read others = is
    go (Some (Set register value)) read others = others (with_value register value registers) (keeps register value registers read is)

-- ---- a commands that a session with access has: what holds of its unit

-- It holds whatever is written, prepared and opened, and of the registers with one more.
pub record IsKept (P : UnitState → Type 0) : Type 0 where
  pub rest : (u : UnitState) (writes : Writes) (prepared : List (ℕ × Bool)) (cursors : List (ℕ × CursorState)) → P u
      → P (record u { writes = writes; prepared = prepared; cursors = cursors })
  pub one_set : (u : UnitState) (register : Register) (value : List ℕ) → IsSet (register, value) → P u
      → P (record u { registers = with_value register value u.registers })

kept_statement : (P : UnitState → Type 0) → IsKept P → (rows : Rows) (commits : ℕ) (u : UnitState) (statement : Option Statement) → is_read statement → P u
    → P (statement_done rows commits u statement).unit
kept_statement P kept rows commits u (Some (Insert key text)) read is =
    cond_both (is_some (sees rows u key)) _ _ (λ (a : Answered). P a.unit) (λ e. is) (λ e. kept.rest u _ u.prepared u.cursors is)
kept_statement P kept rows commits u (Some (Update key text)) read is =
    cond_both (is_some (sees rows u key)) _ _ (λ (a : Answered). P a.unit) (λ e. kept.rest u _ u.prepared u.cursors is) (λ e. is)
kept_statement P kept rows commits u (Some (Delete key)) read is =
    cond_both (is_some (sees rows u key)) _ _ (λ (a : Answered). P a.unit) (λ e. kept.rest u _ u.prepared u.cursors is) (λ e. is)
kept_statement P kept rows commits u (Some (Set register value)) read is = kept.one_set u register value read is
kept_statement P kept rows commits u (Some Select) read is = is
kept_statement P kept rows commits u None read is = is

first_read : (typ : TypDef) (given : Option (List ℕ)) → is_read (option_and_then (statement_in typ) given)
first_read typ None = tt
first_read typ (Some bytes) = read_set typ bytes

pub kept_excsqlimm : (P : UnitState → Type 0) → IsKept P → (rows : Rows) (commits : ℕ) (u : UnitState) (c : Command) → P u
    → P (excsqlimm_answered rows commits u c).unit
unfolding excsqlimm_answered
kept_excsqlimm P kept rows commits u c is =
    kept_statement P kept rows commits u (first_statement u.typdef c) (first_read u.typdef (first_data point.sqlstt c.objects)) is

pub kept_excsqlset : (P : UnitState → Type 0) → IsKept P → (u : UnitState) (c : Command) → P u → P (excsqlset_answered u c).unit
unfolding excsqlset_answered
kept_excsqlset P kept u c is =
    cond_both (list_any (is_object_with point.sqlstt) c.objects) _ _ (λ (a : Answered). P a.unit)
    (λ e. after_by (λ registers. P (record u { registers = registers }))
    (λ register value registers set p. kept.one_set (record u { registers = registers }) register value set p)
    u.typdef (data_with point.sqlstt c.objects) u.registers is)
    (λ e. is)

pub kept_prpsqlstt : (P : UnitState → Type 0) → IsKept P → (u : UnitState) (c : Command) → P u → P (prpsqlstt_answered u c).unit
unfolding prpsqlstt_answered
kept_prpsqlstt P kept u c is =
    cond_both (is_select (first_statement u.typdef c)) _ _ (λ (a : Answered). P a.unit) (λ e. kept.rest u u.writes _ u.cursors is) (λ e. is)

kept_opens : (P : UnitState → Type 0) → IsKept P → (rows : Rows) (u : UnitState) (section : ℕ) (held : Option Bool) (cursor : Option CursorState) → P u
    → P (opens rows u section held cursor).unit
kept_opens P kept rows u section None cursor is = is
kept_opens P kept rows u section (Some held) (Some cursor) is = is
kept_opens P kept rows u section (Some held) None is = kept.rest u u.writes u.prepared _ is

pub kept_opnqry : (P : UnitState → Type 0) → IsKept P → (rows : Rows) (u : UnitState) (c : Command) → P u → P (opnqry_answered rows u c).unit
unfolding opnqry_answered
kept_opnqry P kept rows u c is =
    kept_opens P kept rows u (section_of c) (in_section (section_of c) u.prepared) (in_section (section_of c) u.cursors) is

kept_fetched : (P : UnitState → Type 0) → IsKept P → (u : UnitState) (section : ℕ) (held : Bool) (rows : List (ℕ × List ℕ)) → P u
    → P (fetched u section held rows).unit
kept_fetched P kept u section held [] is = kept.rest u u.writes u.prepared _ is
kept_fetched P kept u section held (row ∷ rows) is = kept.rest u u.writes u.prepared _ is

kept_fetches : (P : UnitState → Type 0) → IsKept P → (u : UnitState) (section : ℕ) (cursor : Option CursorState) → P u
    → P (fetches u section cursor).unit
kept_fetches P kept u section None is = is
kept_fetches P kept u section (Some cursor) is = kept_fetched P kept u section cursor.held cursor.rows is

pub kept_cntqry : (P : UnitState → Type 0) → IsKept P → (u : UnitState) (c : Command) → P u → P (cntqry_answered u c).unit
unfolding cntqry_answered
kept_cntqry P kept u c is = kept_fetches P kept u (section_of c) (in_section (section_of c) u.cursors) is

kept_closes : (P : UnitState → Type 0) → IsKept P → (u : UnitState) (section : ℕ) (cursor : Option CursorState) → P u → P (closes u section cursor).unit
kept_closes P kept u section None is = is
kept_closes P kept u section (Some cursor) is = kept.rest u u.writes u.prepared _ is

pub kept_clsqry : (P : UnitState → Type 0) → IsKept P → (u : UnitState) (c : Command) → P u → P (clsqry_answered u c).unit
unfolding clsqry_answered
kept_clsqry P kept u c is = kept_closes P kept u (section_of c) (in_section (section_of c) u.cursors) is

-- ---- every command keeps the unit the group's

pub unit_kept_is : IsKept IsUnit
unit_kept_is = record {
  rest = λ u writes prepared cursors is. is;
  one_set = λ u register value set is. still_set register value u.registers set is;
}

end_unit : (disposition : ℕ) (outcome : SqlOutcome) (u : UnitState) (granted sets : Bool) → IsUnit u
    → IsUnit (ends_with disposition outcome u granted sets).unit
end_unit disposition outcome u true sets is = no_registers
end_unit disposition outcome u false sets is = is

abbrev IsUnitThen : Answered → Type 0
IsUnitThen a = IsUnit a.unit

unit_excsat : (u : UnitState) (params : List ℕ) → IsUnit u → IsUnitThen (excsat_answered u params)
unit_excsat u params is = cond_both (are_read params) (to_excsat u (excsat_answer params)) (refuses u (cmdnsp_object point.excsat)) IsUnitThen
    (λ e. excsat_by (λ a. IsUnitThen (to_excsat u a)) (λ levels. no_registers) is params) (λ e. is)

unit_accsec : (u : UnitState) (params : List ℕ) → IsUnit u → IsUnitThen (accsec_answered u params)
unit_accsec u params is = cond_both (has_secmec params) (to_accsec u (accsec_answer params)) (refuses u (cmdnsp_object point.accsec)) IsUnitThen
    (λ e. accsec_by (λ a. IsUnitThen (to_accsec u a)) (λ mechanism. no_registers) is params) (λ e. is)

unit_secchk : (users : Users) (u : UnitState) (params : List ℕ) → IsUnitThen (secchk_answered users u params)
unit_secchk users u params = cond_both (secchkcd_of users params == admitted) _ _ IsUnitThen (λ e. no_registers) (λ e. no_registers)

unit_typdef : (u : UnitState) (typdef : Option TypDef) → IsUnit u → IsUnitThen (by_typdef u typdef)
unit_typdef u None is = is
unit_typdef u (Some typdef) is = no_registers

unit_rdbcmm : (rows : Rows) (u : UnitState) (c : Command) → IsUnit u → IsUnitThen (rdbcmm_answered rows u c)
unfolding rdbcmm_answered
unit_rdbcmm rows u c is = cond_both (conflicts rows u.writes) (ended rolled_back outcome.Conflict (after_roll_back u) c)
    (ended committed outcome.Success (after_commit u) c) IsUnitThen
    (λ e. end_unit rolled_back outcome.Conflict (after_roll_back u) (asks_release c && has_no_cursor (after_roll_back u)) (asks_sets c) is)
    (λ e. end_unit committed outcome.Success (after_commit u) (asks_release c && has_no_cursor (after_commit u)) (asks_sets c) is)

unit_rdbrllbck : (u : UnitState) (c : Command) → IsUnit u → IsUnitThen (rdbrllbck_answered u c)
unfolding rdbrllbck_answered
unit_rdbrllbck u c is = end_unit rolled_back outcome.Success (after_roll_back u) (asks_release c && has_no_cursor (after_roll_back u)) (asks_sets c) is

pub unit_stays : (s : StoreState) (u : UnitState) (c : Command) → IsUnit u → IsUnit (unit_after s u c)
unfolding unit_after
unit_stays s u c is = answered_by s u c IsUnitThen (record {
  unknown = λ e. is;
  not_now = λ e. is;
  at_excsat = λ e now. unit_excsat u (data_of c.body) is;
  at_accsec = λ e now. unit_accsec u (data_of c.body) is;
  at_secchk = λ e now. unit_secchk s.users u (data_of c.body);
  at_accrdb = λ e now. unit_typdef u (typdef_in (data_of c.body)) is;
  at_rdbcmm = λ e now. unit_rdbcmm s.rows u c is;
  at_rdbrllbck = λ e now. unit_rdbrllbck u c is;
  at_excsqlimm = λ e now. kept_excsqlimm IsUnit unit_kept_is s.rows s.commits u c is;
  at_excsqlset = λ e now. kept_excsqlset IsUnit unit_kept_is u c is;
  at_prpsqlstt = λ e now. kept_prpsqlstt IsUnit unit_kept_is u c is;
  at_opnqry = λ e now. kept_opnqry IsUnit unit_kept_is s.rows u c is;
  at_cntqry = λ e now. kept_cntqry IsUnit unit_kept_is u c is;
  at_clsqry = λ now. kept_clsqry IsUnit unit_kept_is u c is;
})

-- ---- a session with access stands where it did

accessed_kept : (st : Standing) → IsKept (IsAccessed st)
accessed_kept st = record {
  rest = λ u writes prepared cursors is. record {
    stage = is.stage;
    user = is.user;
    typdef = is.typdef;
    registers = is.registers;
    told = is.told;
    log = is.log;
    each = is.each;
    within = is.within;
  };
  one_set = λ u register value set is. record {
    stage = is.stage;
    user = is.user;
    typdef = is.typdef;
    registers = still_set register value u.registers set is.registers;
    told = is.told;
    log = is.log;
    each = is.each;
    within = λ entry among. keeps_register register value u.registers entry.0 (is.within entry among);
  };
}

-- commands of another class than this aren't allowed
never : (u : UnitState) (c : Command) (code : ℕ) → u.stage ≡ Accessed → c.code ≡ code → is_none (next_stage Accessed code) ≡ true → IsNow u c → ⊥
never u c code at e none now =
    true≢false (sym none ∙ ap (λ n. is_none (next_stage Accessed n)) (sym e) ∙ ap (λ (stage : Stage). is_none (next_stage stage c.code)) (sym at) ∙ now)

excsat_never : is_none (next_stage Accessed point.excsat) ≡ true
unfolding class_of
excsat_never = refl

accsec_never : is_none (next_stage Accessed point.accsec) ≡ true
unfolding class_of
accsec_never = refl

secchk_never : is_none (next_stage Accessed point.secchk) ≡ true
unfolding class_of
secchk_never = refl

accrdb_never : is_none (next_stage Accessed point.accrdb) ≡ true
unfolding class_of
accrdb_never = refl

pub stays_accessed : (st : Standing) (s : StoreState) (u : UnitState) (c : Command) → IsAccessed st u → (c.code ≡ point.rdbcmm → ⊥)
    → (c.code ≡ point.rdbrllbck → ⊥)
    → IsAccessed st (unit_after s u c)
unfolding unit_after
stays_accessed st s u c is no_commit no_roll_back = answered_by s u c (λ (a : Answered). IsAccessed st a.unit) (record {
  unknown = λ e. is;
  not_now = λ e. is;
  at_excsat = λ e now. absurd (never u c point.excsat is.stage e excsat_never now);
  at_accsec = λ e now. absurd (never u c point.accsec is.stage e accsec_never now);
  at_secchk = λ e now. absurd (never u c point.secchk is.stage e secchk_never now);
  at_accrdb = λ e now. absurd (never u c point.accrdb is.stage e accrdb_never now);
  at_rdbcmm = λ e now. absurd (no_commit e);
  at_rdbrllbck = λ e now. absurd (no_roll_back e);
  at_excsqlimm = λ e now. kept_excsqlimm (IsAccessed st) (accessed_kept st) s.rows s.commits u c is;
  at_excsqlset = λ e now. kept_excsqlset (IsAccessed st) (accessed_kept st) u c is;
  at_prpsqlstt = λ e now. kept_prpsqlstt (IsAccessed st) (accessed_kept st) u c is;
  at_opnqry = λ e now. kept_opnqry (IsAccessed st) (accessed_kept st) s.rows u c is;
  at_cntqry = λ e now. kept_cntqry (IsAccessed st) (accessed_kept st) u c is;
  at_clsqry = λ now. kept_clsqry (IsAccessed st) (accessed_kept st) u c is;
})
