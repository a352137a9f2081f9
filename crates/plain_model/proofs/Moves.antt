-- Where local answers lead a session: where they don't lead it to a base it stands where it stood, and else no register is set.
use Rattle.std.proofs.Common.{◌≡◌, ◌==◌, ◌||◌, Bool, true, false, not, if◌then◌else◌, ℕ, List, [], ◌∷◌, Option, Some, None, is_none}
use Rattle.std.proofs.Common.{ap, sym, refl, ◌∙◌, true≢false}
use Rattle.std.proofs.lemmas.Bool.{cond_both}
use Rattle.dss_frame.specs.declared.dss.Kind.TheVariants.{Reply}
use Rattle.ddm_codepoints.specs.CodeClass.{class_of, is_command}
use Rattle.ddm_codepoints.specs.CodePoint.{excsat, accsec, accrdb}
use Rattle.access_handshake.specs.declared.excsat.ExcsatAnswer.{ExcsatAnswer}
use Rattle.access_handshake.specs.declared.excsat.ExcsatAnswer.TheVariants as excsat_is
use Rattle.access_handshake.specs.declared.accsec.AccsecAnswer.{AccsecAnswer}
use Rattle.access_handshake.specs.declared.accsec.AccsecAnswer.TheVariants as accsec_is
use Rattle.access_handshake.specs.declared.stage.Stage.TheVariants.{Accessed}
use Rattle.access_handshake.specs.Stage.{next_stage}
use Rattle.access_handshake.specs.Excsat.{excsat_answer}
use Rattle.access_handshake.specs.Accsec.{accsec_answer}
use Rattle.access_handshake.specs.Rdbnam.{rdbnam_answer}
use Rattle.reply_texts.specs.Reply.{cmdnsp_object, prccnv_object}
use Rattle.reply_texts.specs.Closing.{last}
use Rattle.unit_segments.specs.declared.command.Command.{Command}
use Rattle.unit_segments.specs.Command.{data_of}
use Rattle.plain_model.specs.Standing.{Standing}
use Rattle.plain_model.specs.Local.{LocalAnswer, Refuses, Offers, Moves, to_excsat, to_accsec, to_rdbnam, allowed_answer, local_answer, is_local}
use Rattle.plain_model.specs.Local.{Locally, before, locally_by, answered_locally}
use Rattle.plain_model.specs.Core.{Core, Owed, Nothing, Rerouted, Unknown, Settled, still, moved_too, with_local, settle_by, settle_segments, settle_owed}
use Rattle.plain_model.specs.Core.{settled, finish_by, finished}
use Rattle.plain_model.proofs.Repeating.{finished_stands}
use Rattle.plain_model.proofs.Staged.{IsStill, locally_stays}

-- it stood there and stands here now: where it stood, or, where it was led to a base, with no register set
pub record StandsNow (st : Standing) (moved : Bool) (to : Standing) : Type 0 where
  pub unmoved : moved ≡ false → to ≡ st
  pub unset : moved ≡ true → to.log ≡ []

unmoved : (st : Standing) → StandsNow st false st
unmoved st = record { unmoved = λ e. refl; unset = λ e. absurd (true≢false (sym e)) }

moved : (st to : Standing) → to.log ≡ [] → StandsNow st true to
moved st to unset = record { unmoved = λ e. absurd (true≢false e); unset = λ e. unset }

in_turn : (a b c : Standing) (x y : Bool) → StandsNow a x b → StandsNow b y c → StandsNow a (x || y) c
in_turn a b c true true f g = moved a c (g.unset refl)
in_turn a b c true false f g = moved a c (ap (λ (st : Standing). st.log) (g.unmoved refl) ∙ f.unset refl)
in_turn a b c false y f g = record { unmoved = λ e. g.unmoved e ∙ f.unmoved refl; unset = g.unset }

-- ---- a segment

abbrev LeadsUnset : Option LocalAnswer → Type 0
LeadsUnset None = Unit {0}
LeadsUnset (Some (Refuses object)) = Unit {0}
LeadsUnset (Some (Offers object)) = Unit {0}
LeadsUnset (Some (Moves object to)) = to.log ≡ []

leads_unset : (name : List ℕ) (st : Standing) (c : Command) → LeadsUnset (local_answer name st c)
unfolding local_answer
leads_unset name st c = cond_both (not (is_command (class_of c.code))) (Some (Refuses (cmdnsp_object c.code)))
    (if is_none (next_stage st.stage c.code) then Some (Refuses prccnv_object) else allowed_answer name c) LeadsUnset
    (λ e. tt)
    (λ e. cond_both (is_none (next_stage st.stage c.code)) (Some (Refuses prccnv_object)) (allowed_answer name c) LeadsUnset
    (λ f. tt)
    (λ f. go (c.code == excsat) (c.code == accsec) (c.code == accrdb) (excsat_answer (data_of c.body)) (accsec_answer (data_of c.body))
    (rdbnam_answer (data_of c.body) name)))
  where
    go : (a b d : Bool) (x : ExcsatAnswer) (y : AccsecAnswer) (z : Option (List ℕ))
        → LeadsUnset (if a then Some (to_excsat x) else (if b then Some (to_accsec y) else (if d then to_rdbnam z else None)))
    go true b d (excsat_is.Granted object) y z = refl
    go true b d (excsat_is.TooLow object) y z = tt
    go false true d x (accsec_is.Chosen mechanism object) z = refl
    go false true d x (accsec_is.Offer object) z = tt
    go false false true x y None = tt
    go false false true x y (Some object) = tt
    go false false false x y z = tt

by_now : (st : Standing) (c : Command) (answer : Option LocalAnswer) (more : Standing → Locally) → LeadsUnset answer
    → ((to : Standing) → StandsNow to (more to).moved (more to).standing)
    → StandsNow st (locally_by st c answer more).moved (locally_by st c answer more).standing
by_now st c None more unset h = unmoved st
by_now st c (Some (Refuses object)) more unset h = go c.go_on
  where
    no : Locally
    no = record { replies = last Reply c.corr object ∷ []; standing = st; moved = false; stopped = true }

    go : (b : Bool) → StandsNow st (if b then before (last Reply c.corr object) false (more st) else no).moved
        (if b then before (last Reply c.corr object) false (more st) else no).standing
    go true = h st
    go false = unmoved st
by_now st c (Some (Offers object)) more unset h = h st
by_now st c (Some (Moves object to)) more unset h = in_turn st to (more to).standing true (more to).moved (moved st to unset) (h to)

locally_now : (name : List ℕ) (g : List Command) (st : Standing) → StandsNow st (answered_locally name g st).moved (answered_locally name g st).standing
unfolding answered_locally
locally_now name [] st = unmoved st
locally_now name (c ∷ g) st = by_now st c (local_answer name st c) (answered_locally name g) (leads_unset name st c) (locally_now name g)

-- ---- all segments in front

abbrev SettlesNow : Core → Settled → Type 0
SettlesNow k s = StandsNow k.standing s.moved s.core.standing

segment_now : (answer : Locally) (gs : List (List Command)) (k : Core) (next : Core → Settled) → StandsNow k.standing answer.moved answer.standing
    → ((j : Core) → SettlesNow j (next j)) → SettlesNow k (settle_by answer gs k next)
segment_now answer gs k next now holds = cond_both answer.stopped (record { core = with_local answer [] k; moved = answer.moved })
    (moved_too answer.moved (next (with_local answer gs k))) (SettlesNow k)
    (λ e. now)
    (λ e. in_turn k.standing answer.standing (next (with_local answer gs k)).core.standing answer.moved (next (with_local answer gs k)).moved now
    (holds (with_local answer gs k)))

segments_now : (name : List ℕ) (gs : List (List Command)) (k : Core) → SettlesNow k (settle_segments name gs k)
unfolding settle_segments
segments_now name [] k = unmoved k.standing
segments_now name (g ∷ gs) k = cond_both (is_local name k.standing g) (settle_by (answered_locally name g k.standing) gs k
    (settle_segments name gs)) (still k) (SettlesNow k)
    (λ e. segment_now (answered_locally name g k.standing) gs k (settle_segments name gs) (locally_now name g k.standing) (segments_now name gs))
    (λ e. unmoved k.standing)

owed_now : (name : List ℕ) (o : Owed) (k : Core) → SettlesNow k (settle_owed name o k)
owed_now name Nothing k = segments_now name k.segments k
owed_now name Rerouted k = unmoved k.standing
owed_now name Unknown k = unmoved k.standing

finished_moved : (s : Settled) → (finished s).moved ≡ s.moved
finished_moved s = go s.core.segments
  where
    go : (gs : List (List Command)) → (finish_by gs s.moved s.core).moved ≡ s.moved
    go [] = refl
    go (g ∷ gs) = refl

pub stands_now : (name : List ℕ) (k : Core) → StandsNow k.standing (finished (settled name k)).moved (finished (settled name k)).core.standing
stands_now name k =
    let now = owed_now name k.owed k in
    let same = finished_moved (settled name k) in
    let stands = finished_stands (settled name k) in
    record {
      unmoved = λ e. stands ∙ now.unmoved (sym same ∙ e);
      unset = λ e. ap (λ (st : Standing). st.log) stands ∙ now.unset (sym same ∙ e);
    }

-- ---- a session with access isn't led elsewhere

accessed_by : (answer : Locally) (gs : List (List Command)) (k : Core) (next : Core → Settled) → IsStill k.standing answer
    → ((j : Core) → j.standing ≡ k.standing → (next j).moved ≡ false) → (settle_by answer gs k next).moved ≡ false
accessed_by answer gs k next is holds = cond_both answer.stopped (record { core = with_local answer [] k; moved = answer.moved })
    (moved_too answer.moved (next (with_local answer gs k))) (λ s. s.moved ≡ false)
    (λ e. is.moved) (λ e. ap (λ b. b || (next (with_local answer gs k)).moved) is.moved ∙ holds (with_local answer gs k) is.standing)

accessed_segments : (name : List ℕ) (gs : List (List Command)) (k : Core) → k.standing.stage ≡ Accessed → (settle_segments name gs k).moved ≡ false
unfolding settle_segments
accessed_segments name [] k at = refl
accessed_segments name (g ∷ gs) k at = cond_both (is_local name k.standing g) (settle_by (answered_locally name g k.standing) gs k
    (settle_segments name gs)) (still k) (λ s. s.moved ≡ false)
    (λ f. accessed_by (answered_locally name g k.standing) gs k (settle_segments name gs) (locally_stays name g k.standing at)
    (λ j e. accessed_segments name gs j (ap (λ (st : Standing). st.stage) e ∙ at)))
    (λ f. refl)

accessed_owed : (name : List ℕ) (o : Owed) (k : Core) → k.standing.stage ≡ Accessed → (settle_owed name o k).moved ≡ false
accessed_owed name Nothing k at = accessed_segments name k.segments k at
accessed_owed name Rerouted k at = refl
accessed_owed name Unknown k at = refl

pub accessed_unmoved : (name : List ℕ) (k : Core) → k.standing.stage ≡ Accessed → (finished (settled name k)).moved ≡ false
accessed_unmoved name k at = finished_moved (settled name k) ∙ accessed_owed name k.owed k at
