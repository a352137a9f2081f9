-- A group of members that share data: what a command does to the data and to the unit of a conversation, and what it is
-- answered. DRDA, volume 1, units of work; DRDA, volume 3, the commands. That these laws are asked of a group is this
-- project's own.
use Rattle.std.specs.Prelude.{◌≡◌, ◌≢◌, ◌≤◌, ◌==◌, ℕ, true, false, List, [], ◌∷◌, map, length, find, Option, Some, None, is_some}
use Rattle.std.specs.Prelude.{option_and_then}
use Rattle.std.specs.List.{AllByRecursion}
use Rattle.dss_frame.specs.declared.dss.Dss.{Dss}
use Rattle.ddm_codepoints.specs.declared.typdef.TypDef.{TypDef}
use Rattle.ddm_codepoints.specs.declared.code_class.CodeClass.TheVariants.{Pass}
use Rattle.ddm_codepoints.specs.CodeClass.{class_of}
use Rattle.ddm_codepoints.specs.CodePoint.{excsat, secchk, accrdb, rdbcmm, excsqlset, accrdbrm, enduowrm}
use Rattle.access_handshake.specs.declared.stage.Stage.TheVariants.{Chosen, Checked, Accessed}
use Rattle.access_handshake.specs.declared.accepted.Accepted.{Accepted}
use Rattle.access_handshake.specs.Access.{hello_object}
use Rattle.access_handshake.specs.Accepted.{accepted_of}
use Rattle.unit_segments.specs.declared.command.Command.{Command}
use Rattle.unit_segments.specs.Command.{ends_unit, code_of, data_of, body_fault}
use Rattle.unit_segments.specs.Chain.{is_request}
use Rattle.unit_segments.specs.Limit.{most_chain_bytes}
use Rattle.unit_segments.specs.Release.{asked}
use Rattle.unit_segments.specs.Strip.{is_object_of, FitsAReply}
use Rattle.unit_segments.specs.Handshake.{own_command, replayed}
use Rattle.unit_segments.specs.Accepts.{gives_admission, has_accrdbrm, accepts}
use Rattle.plain_model.specs.Standing.{Standing, attached, checked, accessed, log_with, after_end}
use Rattle.plain_model.specs.UnitEnd.{unasked, ends, says_committed, releases, commits, sets_in, without_asked}

-- ---- what commands do

-- data that all conversations share, and the unit of one conversation
pub record Meaning (S U : Type 0) : Type 0 where
  -- the unit of a conversation in which nothing was said
  pub fresh : U
  -- the unit of a conversation that was led to where a session stands, and in which nothing was done then
  pub base : Standing → U
  -- what a command leaves of the data and of the unit, and what it is answered
  pub data_after : S → U → Command → S
  pub unit_after : S → U → Command → U
  pub replies : S → U → Command → List Dss

-- which values are the group's: of the data, of a unit, and of a unit whose session stands so
pub record Values (S U : Type 0) : Type 1 where
  pub shared : S → Type 0
  pub unit : U → Type 0
  pub stands : Standing → U → Type 0

-- ---- commands, one after another

-- the unit to which these lead where none asks, whatever they are answered
abbrev pub led : {S U : Type 0} → Meaning S U → S → U → List Command → U
led m s u [] = u
led m s u (c ∷ cs) = led m (m.data_after s u (unasked c)) (m.unit_after s u (unasked c)) cs

-- what each of them is answered
abbrev pub answers : {S U : Type 0} → Meaning S U → S → U → List Command → List (List Dss)
answers m s u [] = []
answers m s u (c ∷ cs) = m.replies s u (unasked c) ∷ answers m (m.data_after s u (unasked c)) (m.unit_after s u (unasked c)) cs

abbrev pub typdef_in : Option Accepted → TypDef → TypDef
typdef_in None typ = typ
typdef_in (Some accepted) typ = accepted.typdef

-- the type definition that ACCRDBRM tells, or this one where it isn't among these replies: DDM, volume 3, ACCRDBRM
abbrev pub told_typdef : TypDef → List Dss → TypDef
told_typdef typ replies = typdef_in (option_and_then (λ d. accepted_of (data_of d.body)) (find (is_object_of accrdbrm) replies)) typ

-- Whatever others do in between, these commands leave the data, and either one of them is refused access or they lead to this
-- unit.
abbrev pub Leads : {S U : Type 0} → Meaning S U → Values S U → TypDef → ℕ → U → List Command → U → Type 0
Leads m v typ mechanism u [] to = u ≡ to
Leads {S} m v typ mechanism u (c ∷ cs) to = (s : S) → v.shared s
    → (m.data_after s u c ≡ s)
    × (accepts typ mechanism c.code (m.replies s u c) ≡ true
    → Leads m v (told_typdef typ (m.replies s u c)) mechanism (m.unit_after s u c) cs to)

-- ---- commands and replies

-- a command that a chain can have: DRDA, volume 3, RQSDSS
pub record IsCommand (c : Command) : Type 0 where
  pub code : c.code ≡ code_of c.body
  pub sound : body_fault c.body ≡ None
  pub size : length c.body ≤ most_chain_bytes

-- One of the replies to a command: DRDA, volume 3, RPYDSS, OBJDSS; DDM, volume 3, ACCRDBRM, ENDUOWRM. A longer message of the
-- end of a unit couldn't be read any more once it is written anew.
pub record IsReplyTo (c : Command) (d : Dss) : Type 0 where
  pub number : d.corr ≡ c.corr
  pub kind : is_request d.kind ≡ false
  pub readable : is_object_of accrdbrm d ≡ true → (length d.body ≤ most_chain_bytes) × (is_some (accepted_of (data_of d.body)) ≡ true)
  pub end_fits : is_object_of enduowrm d ≡ true → FitsAReply d

pub record AreReplies (c : Command) (replies : List Dss) : Type 0 where
  pub some : replies ≢ []
  pub each : AllByRecursion (IsReplyTo c) replies

-- the same command, wherever it stands
pub record IsSame (c d : Command) : Type 0 where
  pub code : c.code ≡ d.code
  pub body : c.body ≡ d.body
  pub objects : c.objects ≡ d.objects

abbrev pub renumbered : ℕ → List Dss → List Dss
renumbered number replies = map (λ (d : Dss). record d { corr = number }) replies

-- it does, and is answered, the same; the replies have its own number
pub record DoesTheSame {S U : Type 0} (m : Meaning S U) (s : S) (u : U) (c d : Command) : Type 0 where
  pub same_data : m.data_after s u d ≡ m.data_after s u c
  pub same_unit : m.unit_after s u d ≡ m.unit_after s u c
  pub same_replies : m.replies s u d ≡ renumbered d.corr (m.replies s u c)

abbrev pub Set : Command → Type 0
Set c = c.code ≡ excsqlset

-- ---- the laws

-- for all data and units of the group, and all commands
abbrev pub Always : {S U : Type 0} → Values S U → (S → U → Command → Type 0) → Type 0
Always {S} {U} v Holds = (s : S) (u : U) (c : Command) → v.shared s → v.unit u → IsCommand c → Holds s u c

-- the same of a command that asks for release and of one that doesn't
abbrev pub AlwaysBoth : {S U : Type 0} → Values S U → (S → U → Command → Type 0) → Type 0
AlwaysBoth v Holds = Always v (λ s u c. Holds s u (unasked c) × Holds s u (asked c))

-- for all data, and a unit of a session that stands so
abbrev pub WhereItStands : {S U : Type 0} → Values S U → (Standing → S → U → Command → Type 0) → Type 0
WhereItStands {S} {U} v Holds =
    (st : Standing) (s : S) (u : U) (c : Command) → v.shared s → v.stands st u → IsCommand c → Holds st s u c

pub record Laws {S U : Type 0} (m : Meaning S U) (v : Values S U) : Type 0 where
  -- the values of the group
  pub fresh_unit : v.unit m.fresh
  pub base_unit : (st : Standing) → v.unit (m.base st)
  pub standing_unit : (st : Standing) (u : U) → v.stands st u → v.unit u
  pub data_kept : AlwaysBoth v (λ s u c. v.shared (m.data_after s u c))
  pub unit_kept : AlwaysBoth v (λ s u c. v.unit (m.unit_after s u c))
  -- each command is answered, under its number
  pub answered : AlwaysBoth v (λ s u c. AreReplies c (m.replies s u c))
  -- only a commit that is done changes the data, and no other end of a unit is a commit
  pub data_stay : AlwaysBoth v (λ s u c. commits c (m.replies s u c) ≡ false → m.data_after s u c ≡ s)
  pub nothing_else_commits : AlwaysBoth v (λ s u c. ends_unit (class_of c.code) ≡ true → (c.code == rdbcmm) ≡ false
      → says_committed (m.replies s u c) ≡ false)
  -- asking changes neither the data nor the rest of the replies, nor the unit where release isn't granted
  pub asking_same_data : Always v (λ s u c. m.data_after s u (asked c) ≡ m.data_after s u (unasked c))
  pub asking_same_replies : Always v (λ s u c. without_asked c (m.replies s u (asked c)) ≡ without_asked c (m.replies s u (unasked c)))
  pub asking_same_unit : Always v (λ s u c. releases (m.replies s u (asked c)) ≡ false → m.unit_after s u (asked c) ≡ m.unit_after s u (unasked c))
  -- the place of a command, its number and its go-on bit don't matter
  pub anywhere : Always v (λ s u c. (d : Command) → IsSame c d → DoesTheSame m s u (unasked c) (unasked d) × DoesTheSame m s u (asked c) (asked d))
  -- where release is granted, the asking command leads to attached, and the other one to where the session then stands
  pub released : WhereItStands v (λ st s u c. st.stage ≡ Accessed → ends_unit (class_of c.code) ≡ true
      → ends (m.replies s u (asked c)) ≡ true → releases (m.replies s u (asked c)) ≡ true
      → (log_with st (sets_in c (m.replies s u (asked c)))).fault ≡ None
      → (m.unit_after s u (asked c) ≡ m.base attached)
      × (m.unit_after s u (unasked c) ≡ m.base (after_end st (sets_in c (m.replies s u (asked c))))))
  -- whether it is granted or not, the session then stands there in the unit to which the other one leads
  pub held : WhereItStands v (λ st s u c. st.stage ≡ Accessed → ends_unit (class_of c.code) ≡ true
      → ends (m.replies s u (asked c)) ≡ true
      → (log_with st (sets_in c (m.replies s u (asked c)))).fault ≡ None
      → v.stands (after_end st (sets_in c (m.replies s u (asked c)))) (m.unit_after s u (unasked c)))
  -- EXCSAT leads to attached, and the commands that are sent again from there to where the session stands
  pub greeted : (typ : TypDef) (mechanism : ℕ) → Leads m v typ mechanism m.fresh (own_command excsat hello_object ∷ []) (m.base attached)
  pub led_back : (name : List ℕ) (typ : TypDef) (st : Standing) → AllByRecursion IsCommand (replayed name st.stage st.access st.log)
      → Leads m v typ st.access.secmec (m.base attached) (replayed name st.stage st.access st.log) (m.base st)
  -- a session that stands somewhere can stand there at the base, and one without a log can so wherever it stands
  pub unset_base : (st : Standing) → st.log ≡ [] → v.stands st (m.base st)
  pub at_base : (st : Standing) (u : U) → v.stands st u → v.stands st (m.base st)
  -- access, step by step; access that is granted leads to the base
  pub admitted : WhereItStands v (λ st s u c. st.stage ≡ Chosen → c.code ≡ secchk
      → gives_admission (m.replies s u c) ≡ true → v.stands (checked c.body st) (m.unit_after s u c))
  pub not_admitted : WhereItStands v (λ st s u c. st.stage ≡ Chosen → c.code ≡ secchk
      → gives_admission (m.replies s u c) ≡ false → m.unit_after s u c ≡ m.base attached)
  pub let_in : WhereItStands v (λ st s u c. st.stage ≡ Checked → c.code ≡ accrdb
      → has_accrdbrm (m.replies s u c) ≡ true → m.unit_after s u c ≡ m.base (accessed c.body st))
  pub not_let_in : WhereItStands v (λ st s u c. st.stage ≡ Checked → c.code ≡ accrdb
      → has_accrdbrm (m.replies s u c) ≡ false → v.stands st (m.unit_after s u c))
  -- what doesn't end a unit leaves the session where it stands
  pub passed : WhereItStands v (λ st s u c. st.stage ≡ Accessed → class_of c.code ≡ Pass → v.stands st (m.unit_after s u c))
  pub not_ended : WhereItStands v (λ st s u c. st.stage ≡ Accessed → ends_unit (class_of c.code) ≡ true
      → ends (m.replies s u (asked c)) ≡ false → v.stands st (m.unit_after s u (asked c)))
  -- from the base of a session with access, SET statements lead to a unit, and to replies, that the data don't matter to
  pub sets_alone : (st : Standing) (cs : List Command) (s t : S) → st.stage ≡ Accessed → AllByRecursion Set cs → AllByRecursion IsCommand cs
      → v.shared s → v.shared t
      → (led m s (m.base st) cs ≡ led m t (m.base st) cs) × (answers m s (m.base st) cs ≡ answers m t (m.base st) cs)
