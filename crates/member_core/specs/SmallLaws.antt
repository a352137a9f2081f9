-- The small group keeps the laws of groups. No standard speaks of it: this is this project's own.
use Rattle.std.proofs.Common.{◌≡◌, ℕ, Bool, true, false, List, [], ◌∷◌, refl, sym, ap, ◌∙◌, cond, eqb}
use Rattle.std.proofs.lemmas.Bool.{false≢true, leb-true}
use Rattle.dss_frame.specs.declared.dss.Dss.{Dss}
use Rattle.ddm_objects.specs.Objects.{extent_at, object_at, first_object}
use Rattle.ddm_objects.specs.Members.{members_within}
use Rattle.ddm_codepoints.specs.declared.typdef.TypDef.{TypDef}
use Rattle.ddm_codepoints.specs.Character.{ebcdic_of, ascii_of}
use Rattle.ddm_codepoints.specs.TypDef.{typdef_of}
use Rattle.access_handshake.specs.Parameter.{parameter}
use Rattle.ddm_codepoints.specs.CodePoint.{excsat, accrdb, excsqlimm}
use Rattle.ddm_codepoints.specs.CodeClass.{class_of}
use Rattle.unit_segments.specs.declared.command.Command.{Command}
use Rattle.unit_segments.specs.Command.{ends_unit}
use Rattle.access_handshake.specs.Access.{hello_object}
use Rattle.unit_segments.specs.Release.{asked}
use Rattle.unit_segments.specs.Handshake.{own_command, replayed}
use Rattle.plain_model.specs.UnitEnd.{unasked, ends, says_committed, without_asked}
use Rattle.plain_model.specs.Group.{Laws, led, answers, told_typdef, Leads, IsReplyTo, AreReplies, IsSame, DoesTheSame, renumbered}
use Rattle.dss_frame.specs.declared.dss.Kind.TheVariants.{Reply, Object}
use Rattle.reply_texts.specs.Closing.{last}
use Rattle.member_core.specs.SmallGroup.{access_given, statement_done, not_allowed, small_reply, small, small_values}

-- ---- asking changes neither the code point nor the number

asked_by : (b : Bool) (c d : Command) → d.code ≡ c.code → d.corr ≡ c.corr →
    small_reply (cond b d c).code (cond b d c).corr ≡ small_reply c.code c.corr
asked_by true c d code number = rw (code, number) refl
asked_by false c d code number = refl

numbered_by : (b : Bool) (c d : Command) → d.code ≡ c.code → small_reply (cond b d c).code (cond b d c).corr ≡ small_reply c.code (cond b d c).corr
numbered_by true c d code = ap (λ x. small_reply x d.corr) code
numbered_by false c d code = refl

asked_numbered : (c : Command) → small_reply (asked c).code (asked c).corr ≡ small_reply c.code (asked c).corr
asked_numbered c = numbered_by (ends_unit (class_of c.code)) c _ refl

unasked_numbered : (c : Command) → small_reply (unasked c).code (unasked c).corr ≡ small_reply c.code (unasked c).corr
unasked_numbered c = numbered_by (ends_unit (class_of c.code)) c _ refl

asked_reply : (c : Command) → small_reply (asked c).code (asked c).corr ≡ small_reply c.code c.corr
asked_reply c = asked_by (ends_unit (class_of c.code)) c _ refl refl

unasked_reply : (c : Command) → small_reply (unasked c).code (unasked c).corr ≡ small_reply c.code c.corr
unasked_reply c = asked_by (ends_unit (class_of c.code)) c _ refl refl

-- ---- its replies

abbrev reply_by : Bool → Bool → ℕ → Dss
reply_by is_accrdb is_statement number =
    cond is_accrdb (last Reply number access_given) (cond is_statement (last Object number statement_done) (last Reply number not_allowed))

is_reply_by : (a b : Bool) (c : Command) → IsReplyTo c (reply_by a b c.corr)
unfolding extent_at object_at first_object members_within parameter typdef_of ebcdic_of ascii_of
is_reply_by true b c = record { number = refl; kind = refl; readable = λ _. (leb-true 45 16777216 refl, refl); end_fits = λ e. absurd (false≢true e) }
is_reply_by false true c = record { number = refl; kind = refl; readable = λ e. absurd (false≢true e); end_fits = λ e. absurd (false≢true e) }
is_reply_by false false c = record { number = refl; kind = refl; readable = λ e. absurd (false≢true e); end_fits = λ e. absurd (false≢true e) }

abbrev is_nil : List Dss → Bool
is_nil [] = true
is_nil (d ∷ replies) = false

are_replies : (c : Command) → AreReplies c (small_reply c.code c.corr ∷ [])
are_replies c = record { some = λ e. absurd (false≢true (ap is_nil e)); each = (is_reply_by (eqb c.code accrdb) (eqb c.code excsqlimm) c, tt) }

ends_by : (a b : Bool) (number : ℕ) → ends (reply_by a b number ∷ []) ≡ false
unfolding extent_at object_at first_object
ends_by true b number = refl
ends_by false true number = refl
ends_by false false number = refl

commits_by : (a b : Bool) (number : ℕ) → says_committed (reply_by a b number ∷ []) ≡ false
unfolding extent_at object_at first_object
commits_by true b number = refl
commits_by false true number = refl
commits_by false false number = refl

no_commit : (c : Command) → says_committed (small_reply c.code c.corr ∷ []) ≡ false
no_commit c = commits_by (eqb c.code accrdb) (eqb c.code excsqlimm) c.corr

renumbered_by : (a b : Bool) (number other : ℕ) → reply_by a b other ≡ record (reply_by a b number) { corr = other }
renumbered_by true b number other = refl
renumbered_by false true number other = refl
renumbered_by false false number other = refl

renumber : (code number other : ℕ) → small_reply code other ∷ [] ≡ renumbered other (small_reply code number ∷ [])
renumber code number other = ap (λ (d : Dss). d ∷ []) (renumbered_by (eqb code accrdb) (eqb code excsqlimm) number other)

-- ---- the laws

leads_all : (S : Type 0) (mechanism : ℕ) (cs : List Command) (typ : TypDef) → Leads (small {S = S}) small_values typ mechanism tt cs tt
leads_all S mechanism [] typ = refl
leads_all S mechanism (c ∷ cs) typ = λ s is. (refl, λ accepted. leads_all S mechanism cs (told_typdef typ (small_reply c.code c.corr ∷ [])))

led_same : {S : Type 0} (s t : S) (cs : List Command) → led small s tt cs ≡ led small t tt cs
led_same s t [] = refl
led_same s t (c ∷ cs) = led_same s t cs

answers_same : {S : Type 0} (s t : S) (cs : List Command) → answers small s tt cs ≡ answers small t tt cs
answers_same s t [] = refl
answers_same s t (c ∷ cs) = ap (λ (rs : List (List Dss)). (small_reply (unasked c).code (unasked c).corr ∷ []) ∷ rs) (answers_same s t cs)

same_by : {S : Type 0} (s : S) (c d c_sent d_sent : Command) → IsSame c d →
    small_reply c_sent.code c_sent.corr ≡ small_reply c.code c.corr → small_reply d_sent.code d_sent.corr ≡ small_reply d.code d_sent.corr →
    DoesTheSame small s tt c_sent d_sent
same_by s c d c_sent d_sent same of_c of_d = record {
  same_data = refl;
  same_unit = refl;
  same_replies =
      ap (λ (r : Dss). r ∷ []) (of_d ∙ ap (λ code. small_reply code d_sent.corr) (sym same.code))
      ∙ renumber c.code c.corr d_sent.corr
      ∙ ap (λ (r : Dss). renumbered d_sent.corr (r ∷ [])) (sym of_c);
}

pub small_laws : {S : Type 0} → Laws (small {S = S}) small_values
small_laws {S} = record {
  fresh_unit = tt;
  base_unit = λ st. tt;
  standing_unit = λ st u is. tt;
  data_kept = λ s u c a b i. (tt, tt);
  unit_kept = λ s u c a b i. (tt, tt);
  answered = λ s u c a b i. (are_replies (unasked c), are_replies (asked c));
  data_stay = λ s u c a b i. (λ e. refl, λ e. refl);
  nothing_else_commits = λ s u c a b i. (λ e f. no_commit (unasked c), λ e f. no_commit (asked c));
  asking_same_data = λ s u c a b i. refl;
  asking_same_replies = λ s u c a b i. ap (λ (r : Dss). without_asked c (r ∷ [])) (asked_reply c ∙ sym (unasked_reply c));
  asking_same_unit = λ s u c a b i e. refl;
  anywhere = λ s u c a b i d same. (
    same_by s c d (unasked c) (unasked d) same (unasked_reply c) (unasked_numbered d),
    same_by s c d (asked c) (asked d) same (asked_reply c) (asked_numbered d),
  );
  released = λ st s u c a b i e f g h j. (refl, refl);
  held = λ st s u c a b i e f g h. tt;
  greeted = λ typ mechanism. leads_all S mechanism (own_command excsat hello_object ∷ []) typ;
  led_back = λ name typ st are. leads_all S st.access.secmec (replayed name st.stage st.access st.log) typ;
  unset_base = λ st e. tt;
  at_base = λ st u is. tt;
  admitted = λ st s u c a b i e f g. tt;
  not_admitted = λ st s u c a b i e f g. refl;
  let_in = λ st s u c a b i e f g. refl;
  not_let_in = λ st s u c a b i e f g. tt;
  passed = λ st s u c a b i e f. tt;
  not_ended = λ st s u c a b i e f g. tt;
  sets_alone = λ st cs s t e f g a b. (led_same s t cs, answers_same s t cs);
}
