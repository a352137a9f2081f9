-- The place of a command, its number and its go-on bit don't matter to what it does.
use Rattle.std.proofs.Common.{◌≡◌, ℕ, ◌==◌, ◌&&◌, not, if◌then◌else◌, cond, List, [], ◌∷◌, refl, sym, ap, ◌∙◌, is_some}
use Rattle.std.proofs.lemmas.Bool.{cond_both, cond-true, cond-false}
use Rattle.dss_frame.specs.declared.dss.Dss.{Dss}
use Rattle.ddm_codepoints.specs.CodeClass.{class_of}
use Rattle.ddm_codepoints.specs.CodePoint.{rdbcmm}
use Rattle.access_handshake.specs.Stage.{next_stage}
use Rattle.unit_segments.specs.declared.command.Command.{Command}
use Rattle.unit_segments.specs.Command.{ends_unit}
use Rattle.plain_model.specs.Group.{IsSame, DoesTheSame, renumbered}
use Rattle.member_replies.specs.Reply.{Said, dss_of, dsss_of}
use Rattle.group_store.specs.Rows.{conflicts}
use Rattle.group_store.specs.Unit.{UnitState}
use Rattle.group_store.specs.Answered.{Answered}
use Rattle.group_store.specs.Execute.{excsqlimm_answered, excsqlset_answered}
use Rattle.group_store.specs.Query.{prpsqlstt_answered, opnqry_answered, cntqry_answered, clsqry_answered}
use Rattle.group_store.specs.UnitEnd.{rdbcmm_answered, rdbrllbck_answered}
use Rattle.group_store.specs.Store.{StoreState, answered, with_commit, data_after, unit_after, replies, store_meaning}

-- ---- a command whose body is another one where it ends a unit

abbrev pub made : (List ℕ → List ℕ) → Command → Command
made f c = if ends_unit (class_of c.code) then record c { body = f c.body } else c

pub made_code : (f : List ℕ → List ℕ) (c : Command) → (made f c).code ≡ c.code
made_code f c = cond_both (ends_unit (class_of c.code)) (record c { body = f c.body }) c (λ (d : Command). d.code ≡ c.code) (λ e. refl) (λ e. refl)

pub made_number : (f : List ℕ → List ℕ) (c : Command) → (made f c).corr ≡ c.corr
made_number f c = cond_both (ends_unit (class_of c.code)) (record c { body = f c.body }) c (λ (d : Command). d.corr ≡ c.corr) (λ e. refl) (λ e. refl)

made_objects : (f : List ℕ → List ℕ) (c : Command) → (made f c).objects ≡ c.objects
made_objects f c =
    cond_both (ends_unit (class_of c.code)) (record c { body = f c.body }) c (λ (d : Command). d.objects ≡ c.objects) (λ e. refl) (λ e. refl)

made_body : (f : List ℕ → List ℕ) (c : Command) → (made f c).body ≡ cond (ends_unit (class_of c.code)) (f c.body) c.body
made_body f c =
    cond_both (ends_unit (class_of c.code)) (record c { body = f c.body }) c
    (λ (d : Command). d.body ≡ cond (ends_unit (class_of c.code)) (f c.body) c.body)
    (λ e. sym (cond-true (ends_unit (class_of c.code)) (f c.body) c.body e)) (λ e. sym (cond-false (ends_unit (class_of c.code)) (f c.body) c.body e))

pub made_same : (f : List ℕ → List ℕ) (c d : Command) → IsSame c d → IsSame (made f c) (made f d)
made_same f c d same = record {
  code = made_code f c ∙ same.code ∙ sym (made_code f d);
  body = made_body f c ∙ ap (λ n. cond (ends_unit (class_of n)) (f c.body) c.body) same.code
      ∙ ap (λ body. cond (ends_unit (class_of d.code)) (f body) body) same.body ∙ sym (made_body f d);
  objects = made_objects f c ∙ same.objects ∙ sym (made_objects f d);
}

-- ---- what it does

abbrev placed : Command → Command → Command
placed c d = record c { corr = d.corr; go_on = d.go_on; at = d.at }

abbrev with_parts : Command → ℕ → List ℕ → List (List ℕ) → Command
with_parts d code body objects = record d { code = code; body = body; objects = objects }

is_placed : (c d : Command) → IsSame c d → d ≡ placed c d
is_placed c d same =
    ap (λ code. with_parts d code d.body d.objects) (sym same.code) ∙ ap (λ body. with_parts d c.code body d.objects) (sym same.body)
    ∙ ap (λ objects. with_parts d c.code c.body objects) (sym same.objects)

placed_answer : (s : StoreState) (u : UnitState) (c d : Command) → answered s u (placed c d) ≡ answered s u c
unfolding answered rdbcmm_answered rdbrllbck_answered excsqlimm_answered excsqlset_answered prpsqlstt_answered opnqry_answered cntqry_answered clsqry_answered
placed_answer s u c d = refl

same_answer : (s : StoreState) (u : UnitState) (c d : Command) → IsSame c d → answered s u d ≡ answered s u c
same_answer s u c d same = ap (answered s u) (is_placed c d same) ∙ placed_answer s u c d

pub data_by_code : (s : StoreState) (u : UnitState) (c d : Command) → c.code ≡ d.code → data_after s u c ≡ data_after s u d
unfolding data_after
data_by_code s u c d e =
    ap (λ n. if n == rdbcmm && is_some (next_stage u.stage n) && not (conflicts s.rows u.writes) then with_commit s u.writes else s) e

renumbered_said : (number other : ℕ) (said : List Said) → dsss_of other said ≡ renumbered other (dsss_of number said)
renumbered_said number other [] = refl
renumbered_said number other (one ∷ said) = ap (λ (ds : List Dss). dss_of other one ∷ ds) (renumbered_said number other said)

pub does_the_same : (s : StoreState) (u : UnitState) (c d : Command) → IsSame c d → DoesTheSame store_meaning s u c d
unfolding unit_after replies
does_the_same s u c d same = record {
  same_data = data_by_code s u d c (sym same.code);
  same_unit = ap (λ (a : Answered). a.unit) (same_answer s u c d same);
  same_replies = ap (λ (a : Answered). dsss_of d.corr a.said) (same_answer s u c d same) ∙ renumbered_said c.corr d.corr (answered s u c).said;
}
