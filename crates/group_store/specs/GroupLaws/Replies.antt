-- Each reply of the small group is one to its command.
use Rattle.std.proofs.Common.{◌≡◌, ℕ, ◌≤◌, ◌==◌, ◌&&◌, Bool, true, false, List, [], ◌∷◌, ◌++◌, length, sym, refl}
use Rattle.std.proofs.Common.{subst, ◌∙◌, arith}
use Rattle.std.proofs.Common.{Option, Some, None, is_some, Result, Ok, Err, true≢false}
use Rattle.std.proofs.lemmas.Bool.{cond_both, leb-true}
use Rattle.std.specs.Prelude.{codes}
use Rattle.std.specs.List.{AllByRecursion, list_any}
use Rattle.byteorder.specs.Endian.{big_number, big_bytes}
use Rattle.dss_frame.specs.declared.dss.Kind.{Kind}
use Rattle.dss_frame.specs.declared.dss.Kind.TheVariants as kind
use Rattle.ddm_objects.specs.declared.fault.ObjFault.{ObjFault}
use Rattle.ddm_objects.specs.Objects.{Member, extent_at, object_at, first_object, canonical_object}
use Rattle.ddm_objects.specs.Members.{members_within, find_of}
use Rattle.ddm_codepoints.specs.declared.typdef.TypDef.{TypDef}
use Rattle.ddm_codepoints.specs.declared.typdef.TypDef.TheVariants.{Sql370}
use Rattle.ddm_codepoints.specs.Character.{ebcdic_of, ascii_of, ebcdic_text}
use Rattle.ddm_codepoints.specs.TypDef.{typdef_of, qtdsql370}
use Rattle.ddm_codepoints.specs.CodePoint as point
use Rattle.ddm_codepoints.specs.Value.{info, warning, error, admitted, rolled_back, committed, release, user_and_password, user_alone}
use Rattle.reply_texts.specs.Sqlcard.{card_bytes, sqlcard_object}
use Rattle.reply_texts.specs.Text.{codes_in}
use Rattle.reply_texts.specs.Reply.{severity, cmdnsp_object, prccnv_object, enduow_object}
use Rattle.access_handshake.specs.declared.excsat.ExcsatAnswer.{ExcsatAnswer}
use Rattle.access_handshake.specs.declared.excsat.ExcsatAnswer.TheVariants.{Granted, TooLow}
use Rattle.access_handshake.specs.declared.accsec.AccsecAnswer.{AccsecAnswer}
use Rattle.access_handshake.specs.declared.accsec.AccsecAnswer.TheVariants.{Chosen, Offer}
use Rattle.access_handshake.specs.Managers.{managers_of, granted_list, is_too_low, level_pair}
use Rattle.access_handshake.specs.Parameter.{parameter}
use Rattle.access_handshake.specs.Excsat.{excsatrd_object, mgrlvlrm_object, answer_to, excsat_answer}
use Rattle.access_handshake.specs.Accsec.{is_known_secmec, has_secmec, accsecrd_chosen, accsecrd_offer, answer_to_data, accsec_answer}
use Rattle.access_handshake.specs.Accepted.{accepted_of}
use Rattle.unit_segments.specs.declared.command.Command.{Command}
use Rattle.unit_segments.specs.Command.{code_of, data_of}
use Rattle.unit_segments.specs.Chain.{is_request}
use Rattle.unit_segments.specs.Limit.{most_chain_bytes}
use Rattle.unit_segments.specs.Strip.{is_object_of, FitsAReply}
use Rattle.member_statements.specs.declared.statement.Statement.{Statement}
use Rattle.member_statements.specs.declared.statement.Statement.TheVariants.{Insert, Update, Delete, Set, Select}
use Rattle.member_statements.specs.Register.{set_text}
use Rattle.member_replies.specs.declared.sql_outcome.SqlOutcome.{SqlOutcome}
use Rattle.member_replies.specs.declared.sql_outcome.SqlOutcome.TheVariants as outcome
use Rattle.member_replies.specs.Reply.{Said, message, reply_data, dss_of, card_of, card_said, secchkrm_object, accrdbrm_object, valnsprm_object}
use Rattle.member_replies.specs.Reply.{opnqryrm_object, qrydsc_object, qrydta_object, endqryrm_object, qrynoprm_object, ended_object, sets_said}
use Rattle.group_store.specs.Rows.{Rows, conflicts}
use Rattle.group_store.specs.Unit.{UnitState, Registers, CursorState, after_commit, after_roll_back}
use Rattle.group_store.specs.Answered.{Answered, refuses}
use Rattle.group_store.specs.Access.{Users, with_levels, to_excsat, are_read, excsat_answered, to_accsec, accsec_answered, secchkcd_of}
use Rattle.group_store.specs.Access.{secchk_answered, typdef_in, by_typdef}
use Rattle.group_store.specs.Statement.{is_object_with, data_with, first_statement, section_of}
use Rattle.group_store.specs.Execute.{sees, statement_done, excsqlimm_answered, excsqlset_answered, after_sets}
use Rattle.group_store.specs.Query.{in_section, is_select, prpsqlstt_answered, opens, opnqry_answered, fetched, fetches, cntqry_answered}
use Rattle.group_store.specs.Query.{closes, clsqry_answered}
use Rattle.group_store.specs.UnitEnd.{asks_release, asks_sets, has_no_cursor, ends_with, ended, rdbcmm_answered, rdbrllbck_answered}
use Rattle.group_store.specs.Store.{StoreState, answered}
use Rattle.group_store.specs.GroupLaws.WrittenCodes.{is_no_other}
use Rattle.group_store.specs.GroupLaws.Cases.{answered_by}

-- ---- what is said

pub record IsFine (said : Said) : Type 0 where
  pub kind : is_request said.kind ≡ false
  pub access : (code_of said.body == point.accrdbrm) ≡ true → said.body ≡ accrdbrm_object
  pub end : (code_of said.body == point.enduowrm) ≡ true → length said.body ≤ 20

-- something is said
abbrev is_said : List Said → Bool
is_said [] = false
is_said (said ∷ others) = true

pub record AreFine (said : List Said) : Type 0 where
  pub some : is_said said ≡ true
  pub each : AllByRecursion IsFine said

-- an object with another code point than the two
other_fine : (k : Kind) (code : ℕ) (bytes : List ℕ) → is_request k ≡ false → big_number 2 (big_bytes 2 code) ≡ code → (code == point.accrdbrm) ≡ false
    → (code == point.enduowrm) ≡ false → IsFine (record { kind = k; body = canonical_object code bytes })
other_fine k code bytes is n a b = record {
  kind = is;
  access = λ e. absurd (true≢false (sym e ∙ is_no_other code point.accrdbrm bytes n refl a));
  end = λ e. absurd (true≢false (sym e ∙ is_no_other code point.enduowrm bytes n refl b));
}

card_fine : (outcome : SqlOutcome) → IsFine (card_said outcome)
unfolding sqlcard_object
card_fine outcome = other_fine kind.Object point.sqlcard (card_bytes Sql370 (card_of outcome)) refl refl refl refl

cmdnsp_fine : (code : ℕ) → IsFine (message (cmdnsp_object code))
unfolding cmdnsp_object
cmdnsp_fine code = other_fine kind.Reply point.cmdnsprm (severity error ++ canonical_object point.codpnt (big_bytes 2 code)) refl refl refl refl

prccnv_fine : IsFine (message prccnv_object)
unfolding prccnv_object
prccnv_fine = other_fine kind.Reply point.prccnvrm (severity error) refl refl refl refl

valnsp_fine : IsFine (message valnsprm_object)
unfolding valnsprm_object
valnsp_fine = other_fine kind.Reply point.valnsprm (severity error ++ canonical_object point.codpnt (big_bytes 2 point.typdefnam)) refl refl refl refl

opnqryrm_fine : IsFine (message opnqryrm_object)
unfolding opnqryrm_object
opnqryrm_fine = other_fine kind.Reply point.opnqryrm (severity info) refl refl refl refl

qrydsc_fine : IsFine (reply_data qrydsc_object)
unfolding qrydsc_object
qrydsc_fine = other_fine kind.Object point.qrydsc (9 ∷ 118 ∷ 208 ∷ 2 ∷ 0 ∷ 4 ∷ 63 ∷ 0 ∷ 200 ∷ 9 ∷ 113 ∷ 224 ∷ 84 ∷ 0 ∷ 1 ∷ 208 ∷ 0 ∷ 1 ∷ []) refl refl refl refl

endqryrm_fine : IsFine (message endqryrm_object)
unfolding endqryrm_object
endqryrm_fine = other_fine kind.Reply point.endqryrm (severity warning) refl refl refl refl

qrynoprm_fine : IsFine (message qrynoprm_object)
unfolding qrynoprm_object
qrynoprm_fine = other_fine kind.Reply point.qrynoprm (severity warning) refl refl refl refl

chosen_fine : (mechanism : ℕ) → IsFine (reply_data (accsecrd_chosen mechanism))
unfolding accsecrd_chosen
chosen_fine mechanism = other_fine kind.Object point.accsecrd (canonical_object point.secmec (big_bytes 2 mechanism)) refl refl refl refl

offer_fine : IsFine (reply_data accsecrd_offer)
unfolding accsecrd_offer
offer_fine = other_fine kind.Object point.accsecrd (canonical_object point.secmec (big_bytes 2 user_and_password ++ big_bytes 2 user_alone)) refl refl refl refl

levels_fine : (levels : Option (List ℕ)) → IsFine (reply_data (with_levels levels))
levels_fine None = other_fine kind.Object point.excsatrd [] refl refl refl refl
levels_fine (Some levels) = other_fine kind.Object point.excsatrd (canonical_object point.mgrlvlls levels) refl refl refl refl

secchk_fine : (severe code : ℕ) → IsFine (message (secchkrm_object severe code))
secchk_fine severe code =
    other_fine kind.Reply point.secchkrm (severity severe ++ canonical_object point.secchkcd (code ∷ [])) refl refl refl refl

low_fine : IsFine (message mgrlvlrm_object)
low_fine =
    other_fine kind.Reply point.mgrlvlrm (severity error ++ canonical_object point.mgrlvlls (level_pair (record { code = point.sqlam; level = 7 })))
    refl refl refl refl

accrdbrm_fine : IsFine (message accrdbrm_object)
unfolding accrdbrm_object
accrdbrm_fine = record {
  kind = refl;
  access = λ e. refl;
  end = λ e. absurd (true≢false (sym e ∙ is_no_other point.accrdbrm point.enduowrm (severity info
      ++ canonical_object point.prdid (ebcdic_text (codes "GRP01010")) ++ canonical_object point.typdefnam qtdsql370
      ++ canonical_object point.typdefovr (canonical_object point.ccsidsbc (big_bytes 2 37))) refl refl refl));
}

ended_fine : (disposition : ℕ) (granted : Bool) → IsFine (message (ended_object disposition granted))
unfolding enduow_object
ended_fine disposition true = record {
  kind = refl;
  access = λ e. absurd (true≢false (sym e ∙ is_no_other point.enduowrm point.accrdbrm
      (severity warning ++ canonical_object point.uowdsp (disposition ∷ []) ++ canonical_object point.rlsconv (release ∷ [])) refl refl refl));
  end = λ e. leb-true 20 20 refl;
}
ended_fine disposition false = record {
  kind = refl;
  access = λ e. absurd (true≢false (sym e ∙ is_no_other point.enduowrm point.accrdbrm
      (severity warning ++ canonical_object point.uowdsp (disposition ∷ [])) refl refl refl));
  end = λ e. leb-true 15 20 refl;
}

sets_fine : (typdef : TypDef) (registers : Registers) → AllByRecursion IsFine (sets_said typdef registers)
sets_fine typdef [] = tt
sets_fine typdef (register ∷ registers) = (
  other_fine kind.Object point.sqlstt (0 ∷ big_bytes 4 (length (set_text register.0 register.1))
      ++ codes_in typdef (set_text register.0 register.1) ++ 0xFF ∷ []) refl refl refl refl,
  sets_fine typdef registers,
)

one : (said : Said) → IsFine said → AreFine (said ∷ [])
one said is = record { some = refl; each = (is, tt) }

row_fine : (row : ℕ × List ℕ) → IsFine (reply_data (qrydta_object row))
row_fine row = other_fine kind.Object point.qrydta (0xFF ∷ 0 ∷ big_bytes 4 row.0 ++ 0 ∷ big_bytes 2 (length row.1) ++ codes_in Sql370 row.1) refl refl refl refl

two : (a b : Said) → IsFine a → IsFine b → AreFine (a ∷ b ∷ [])
two a b is also = record { some = refl; each = (is, (also, tt)) }

-- ---- the answers to EXCSAT and ACCSEC, one by one

pub excsat_by : (P : ExcsatAnswer → Type 0) → ((levels : List ℕ) → P (Granted (excsatrd_object levels))) → P (TooLow mgrlvlrm_object)
    → (params : List ℕ) → P (excsat_answer params)
unfolding excsat_answer
excsat_by P granted low params = go (find_of params point.mgrlvlls)
  where
    go : (r : Result (Option Member) ObjFault) → P (answer_to r)
    go (Ok (Some list)) = cond_both (is_too_low (managers_of list.bytes)) (TooLow mgrlvlrm_object)
        (Granted (excsatrd_object (canonical_object point.mgrlvlls (granted_list (managers_of list.bytes))))) P (λ e. low) (λ e. granted _)
    go (Ok None) = granted []
    go (Err fault) = granted []

pub accsec_by : (P : AccsecAnswer → Type 0) → ((mechanism : ℕ) → P (Chosen mechanism (accsecrd_chosen mechanism))) → P (Offer accsecrd_offer)
    → (params : List ℕ) → P (accsec_answer params)
accsec_by P chosen offer params = go (parameter params point.secmec)
  where
    go : (r : Option (List ℕ)) → P (answer_to_data r)
    go None = offer
    go (Some bytes) = cond_both (is_known_secmec (big_number 2 bytes)) (Chosen (big_number 2 bytes) (accsecrd_chosen (big_number 2 bytes)))
        (Offer accsecrd_offer) P (λ e. chosen (big_number 2 bytes)) (λ e. offer)

-- ---- the answer to each command

abbrev IsFineAnswer : Answered → Type 0
IsFineAnswer a = AreFine a.said

fine_excsat : (u : UnitState) (params : List ℕ) → IsFineAnswer (excsat_answered u params)
fine_excsat u params = cond_both (are_read params) (to_excsat u (excsat_answer params)) (refuses u (cmdnsp_object point.excsat)) IsFineAnswer
    (λ e. excsat_by (λ a. IsFineAnswer (to_excsat u a)) (λ levels. one _ (levels_fine (parameter (data_of (excsatrd_object levels)) point.mgrlvlls)))
    (one _ low_fine) params)
    (λ e. one _ (cmdnsp_fine point.excsat))

fine_accsec : (u : UnitState) (params : List ℕ) → IsFineAnswer (accsec_answered u params)
fine_accsec u params = cond_both (has_secmec params) (to_accsec u (accsec_answer params)) (refuses u (cmdnsp_object point.accsec)) IsFineAnswer
    (λ e. accsec_by (λ a. IsFineAnswer (to_accsec u a)) (λ mechanism. one _ (chosen_fine mechanism)) (one _ offer_fine) params)
    (λ e. one _ (cmdnsp_fine point.accsec))

fine_secchk : (users : Users) (u : UnitState) (params : List ℕ) → IsFineAnswer (secchk_answered users u params)
fine_secchk users u params = cond_both (secchkcd_of users params == admitted) _ _ IsFineAnswer
    (λ e. one _ (secchk_fine info admitted)) (λ e. one _ (secchk_fine error (secchkcd_of users params)))

fine_typdef : (u : UnitState) (typdef : Option TypDef) → IsFineAnswer (by_typdef u typdef)
fine_typdef u None = one _ valnsp_fine
fine_typdef u (Some typdef) = one _ accrdbrm_fine

fine_end : (disposition : ℕ) (outcome : SqlOutcome) (u : UnitState) (granted sets : Bool) → IsFineAnswer (ends_with disposition outcome u granted sets)
fine_end disposition outcome u granted true =
    record { some = refl; each = (ended_fine disposition granted, (card_fine outcome, sets_fine u.typdef u.registers)) }
fine_end disposition outcome u granted false = record { some = refl; each = (ended_fine disposition granted, (card_fine outcome, tt)) }

fine_rdbcmm : (rows : Rows) (u : UnitState) (c : Command) → IsFineAnswer (rdbcmm_answered rows u c)
unfolding rdbcmm_answered
fine_rdbcmm rows u c = cond_both (conflicts rows u.writes) (ended rolled_back outcome.Conflict (after_roll_back u) c)
    (ended committed outcome.Success (after_commit u) c) IsFineAnswer
    (λ e. fine_end rolled_back outcome.Conflict (after_roll_back u) (asks_release c && has_no_cursor (after_roll_back u)) (asks_sets c))
    (λ e. fine_end committed outcome.Success (after_commit u) (asks_release c && has_no_cursor (after_commit u)) (asks_sets c))

fine_rdbrllbck : (u : UnitState) (c : Command) → IsFineAnswer (rdbrllbck_answered u c)
unfolding rdbrllbck_answered
fine_rdbrllbck u c = fine_end rolled_back outcome.Success (after_roll_back u) (asks_release c && has_no_cursor (after_roll_back u)) (asks_sets c)

fine_statement : (rows : Rows) (commits : ℕ) (u : UnitState) (statement : Option Statement) → IsFineAnswer (statement_done rows commits u statement)
fine_statement rows commits u (Some (Insert key text)) =
    cond_both (is_some (sees rows u key)) _ _ IsFineAnswer (λ e. one _ (card_fine outcome.Duplicate)) (λ e. one _ (card_fine outcome.Success))
fine_statement rows commits u (Some (Update key text)) =
    cond_both (is_some (sees rows u key)) _ _ IsFineAnswer (λ e. one _ (card_fine outcome.Success)) (λ e. one _ (card_fine outcome.NotFound))
fine_statement rows commits u (Some (Delete key)) =
    cond_both (is_some (sees rows u key)) _ _ IsFineAnswer (λ e. one _ (card_fine outcome.Success)) (λ e. one _ (card_fine outcome.NotFound))
fine_statement rows commits u (Some (Set register value)) = one _ (card_fine outcome.Success)
fine_statement rows commits u (Some Select) = one _ (card_fine outcome.NoStatement)
fine_statement rows commits u None = one _ (card_fine outcome.NoStatement)

fine_excsqlimm : (rows : Rows) (commits : ℕ) (u : UnitState) (c : Command) → IsFineAnswer (excsqlimm_answered rows commits u c)
unfolding excsqlimm_answered
fine_excsqlimm rows commits u c = fine_statement rows commits u (first_statement u.typdef c)

fine_excsqlset : (u : UnitState) (c : Command) → IsFineAnswer (excsqlset_answered u c)
unfolding excsqlset_answered
fine_excsqlset u c = cond_both (list_any (is_object_with point.sqlstt) c.objects) _ _ IsFineAnswer
    (λ e. one _ (card_fine (after_sets u.typdef (data_with point.sqlstt c.objects) u.registers).outcome)) (λ e. one _ (card_fine outcome.NoStatement))

fine_prpsqlstt : (u : UnitState) (c : Command) → IsFineAnswer (prpsqlstt_answered u c)
unfolding prpsqlstt_answered
fine_prpsqlstt u c = cond_both (is_select (first_statement u.typdef c)) _ _ IsFineAnswer
    (λ e. one _ (card_fine outcome.Success)) (λ e. one _ (card_fine outcome.NoStatement))

fine_opens : (rows : Rows) (u : UnitState) (section : ℕ) (held : Option Bool) (cursor : Option CursorState) → IsFineAnswer (opens rows u section held cursor)
fine_opens rows u section None cursor = one _ (card_fine outcome.NotPrepared)
fine_opens rows u section (Some held) (Some cursor) = one _ (card_fine outcome.CursorOpen)
fine_opens rows u section (Some held) None = two _ _ opnqryrm_fine qrydsc_fine

fine_opnqry : (rows : Rows) (u : UnitState) (c : Command) → IsFineAnswer (opnqry_answered rows u c)
unfolding opnqry_answered
fine_opnqry rows u c = fine_opens rows u (section_of c) (in_section (section_of c) u.prepared) (in_section (section_of c) u.cursors)

fine_fetched : (u : UnitState) (section : ℕ) (held : Bool) (rows : List (ℕ × List ℕ)) → IsFineAnswer (fetched u section held rows)
fine_fetched u section held [] = two _ _ endqryrm_fine (card_fine outcome.NotFound)
fine_fetched u section held (row ∷ rows) = one _ (row_fine row)

fine_fetches : (u : UnitState) (section : ℕ) (cursor : Option CursorState) → IsFineAnswer (fetches u section cursor)
fine_fetches u section None = one _ qrynoprm_fine
fine_fetches u section (Some cursor) = fine_fetched u section cursor.held cursor.rows

fine_cntqry : (u : UnitState) (c : Command) → IsFineAnswer (cntqry_answered u c)
unfolding cntqry_answered
fine_cntqry u c = fine_fetches u (section_of c) (in_section (section_of c) u.cursors)

fine_closes : (u : UnitState) (section : ℕ) (cursor : Option CursorState) → IsFineAnswer (closes u section cursor)
fine_closes u section None = one _ qrynoprm_fine
fine_closes u section (Some cursor) = one _ (card_fine outcome.Success)

fine_clsqry : (u : UnitState) (c : Command) → IsFineAnswer (clsqry_answered u c)
unfolding clsqry_answered
fine_clsqry u c = fine_closes u (section_of c) (in_section (section_of c) u.cursors)

pub all_fine : (s : StoreState) (u : UnitState) (c : Command) → AreFine (answered s u c).said
all_fine s u c = answered_by s u c IsFineAnswer (record {
  unknown = λ e. one _ (cmdnsp_fine c.code);
  not_now = λ e. one _ prccnv_fine;
  at_excsat = λ e now. fine_excsat u (data_of c.body);
  at_accsec = λ e now. fine_accsec u (data_of c.body);
  at_secchk = λ e now. fine_secchk s.users u (data_of c.body);
  at_accrdb = λ e now. fine_typdef u (typdef_in (data_of c.body));
  at_rdbcmm = λ e now. fine_rdbcmm s.rows u c;
  at_rdbrllbck = λ e now. fine_rdbrllbck u c;
  at_excsqlimm = λ e now. fine_excsqlimm s.rows s.commits u c;
  at_excsqlset = λ e now. fine_excsqlset u c;
  at_prpsqlstt = λ e now. fine_prpsqlstt u c;
  at_opnqry = λ e now. fine_opnqry s.rows u c;
  at_cntqry = λ e now. fine_cntqry u c;
  at_clsqry = λ now. fine_clsqry u c;
})

-- ---- with the command's number

accrdbrm_short : length accrdbrm_object ≤ most_chain_bytes
unfolding accrdbrm_object ebcdic_of
accrdbrm_short = leb-true 45 16777216 refl

accrdbrm_read : is_some (accepted_of (data_of accrdbrm_object)) ≡ true
unfolding accrdbrm_object extent_at object_at first_object members_within parameter typdef_of ebcdic_of ascii_of
accrdbrm_read = refl

pub readable : (number : ℕ) (said : Said) → IsFine said → is_object_of point.accrdbrm (dss_of number said) ≡ true
    → (length said.body ≤ most_chain_bytes) × (is_some (accepted_of (data_of said.body)) ≡ true)
readable number said is e =
    subst (λ (body : List ℕ). (length body ≤ most_chain_bytes) × (is_some (accepted_of (data_of body)) ≡ true)) (sym (is.access e))
    (accrdbrm_short, accrdbrm_read)

pub end_fits : (number : ℕ) (said : Said) → IsFine said → is_object_of point.enduowrm (dss_of number said) ≡ true → FitsAReply (dss_of number said)
end_fits number said is e = omega (arith, is.end e)
