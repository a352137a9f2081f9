-- What local answers, a chain that is finished, and a loss leave of a core.
use Rattle.std.proofs.Common.{◌≡◌, ℕ, suc, ◌||◌, Bool, true, false, not, if◌then◌else◌, List, [], ◌∷◌, ◌++◌, Option, Some, None, ap, sym, refl, subst, ◌∙◌}
use Rattle.std.proofs.lemmas.Bool.{cond_both}
use Rattle.std.specs.List.{AllByRecursion}
use Rattle.dss_frame.specs.declared.dss.Dss.{Dss}
use Rattle.unit_segments.specs.declared.command.Command.{Command}
use Rattle.unit_segments.specs.declared.stripped.Stripped.{Stripped}
use Rattle.unit_segments.specs.declared.registers.RegisterFault.{RegisterFault}
use Rattle.plain_model.specs.Standing.{Standing}
use Rattle.plain_model.specs.Group.{IsCommand}
use Rattle.plain_model.specs.Local.{Locally, is_local, answered_locally}
use Rattle.plain_model.specs.Core.{Core, Owed, Nothing, Rerouted, Unknown, End, AppEnded, AppFault, Refused, NoMember, Limit, Settled, first, others}
use Rattle.plain_model.specs.Core.{still, moved_too, with_local, settle_by, settle_segments, settle_owed, settled, finish_by, finished}
use Rattle.plain_model.specs.Lost.{commit_sent, owes, lost_owing}
use Rattle.plain_model.specs.Answered.{with_work, with_end, unit_after, answered_core, answered_by, left_after, is_work, joins_again}
use Rattle.plain_model.proofs.Segments.{AreSegments, first_cut, others_cut}
use Rattle.plain_model.proofs.Replies.{all_append}

-- the session ended since no member was left
abbrev pub is_bereft : Option End → Bool
is_bereft None = false
is_bereft (Some AppEnded) = false
is_bereft (Some AppFault) = false
is_bereft (Some (Refused place)) = false
is_bereft (Some NoMember) = true
is_bereft (Some (Limit kind)) = false

-- a core of the same unit: only what is answered, where the session stands, and the segments that are left may differ
pub record IsSameUnit (k j : Core) : Type 0 where
  pub unit : j.unit ≡ k.unit
  pub owed : j.owed ≡ k.owed
  pub sent : j.sent ≡ k.sent
  pub end : j.end ≡ k.end
  pub pinned : j.pinned ≡ k.pinned
  pub spoken : j.spoken ≡ k.spoken
  pub again : j.again ≡ k.again
  pub typdef : j.typdef ≡ k.typdef
  pub segments : AreSegments k.segments → AreSegments j.segments

-- a core with other segments, replies and standing
with_others : (k : Core) (standing : Standing) (left : List (List Command)) (kept : List Dss) → (AreSegments k.segments → AreSegments left)
    → IsSameUnit k (record k { standing = standing; segments = left; kept = kept })
with_others k standing left kept h = record {
  unit = refl;
  owed = refl;
  sent = refl;
  end = refl;
  pinned = refl;
  spoken = refl;
  again = refl;
  typdef = refl;
  segments = h;
}

pub itself : (k : Core) → IsSameUnit k k
itself k = with_others k k.standing k.segments k.kept (λ all. all)

with_left : (answer : Locally) (left : List (List Command)) (k : Core) → (AreSegments k.segments → AreSegments left) → IsSameUnit k (with_local answer left k)
with_left answer left k h = with_others k answer.standing left (k.kept ++ answer.replies) h

pub follows : (a b c : Core) → IsSameUnit a b → IsSameUnit b c → IsSameUnit a c
follows a b c x y = record {
  unit = y.unit ∙ x.unit;
  owed = y.owed ∙ x.owed;
  sent = y.sent ∙ x.sent;
  end = y.end ∙ x.end;
  pinned = y.pinned ∙ x.pinned;
  spoken = y.spoken ∙ x.spoken;
  again = y.again ∙ x.again;
  typdef = y.typdef ∙ x.typdef;
  segments = λ all. y.segments (x.segments all);
}

settled_by : (answer : Locally) (left : List (List Command)) (k : Core) (next : Core → Settled) → (AreSegments k.segments → AreSegments left)
    → ((j : Core) → j.segments ≡ left → IsSameUnit j (next j).core) → IsSameUnit k (settle_by answer left k next).core
settled_by answer left k next h same = cond_both answer.stopped (record { core = with_local answer [] k; moved = answer.moved })
    (moved_too answer.moved (next (with_local answer left k))) (λ s. IsSameUnit k s.core)
    (λ e. with_left answer [] k (λ all. tt))
    (λ e. follows k (with_local answer left k) (next (with_local answer left k)).core (with_left answer left k h) (same (with_local answer left k) refl))

segments_settled : (name : List ℕ) (gs : List (List Command)) (k : Core) → k.segments ≡ gs → IsSameUnit k (settle_segments name gs k).core
unfolding settle_segments
segments_settled name [] k e = itself k
segments_settled name (g ∷ gs) k e = cond_both (is_local name k.standing g) (settle_by (answered_locally name g k.standing) gs k
    (settle_segments name gs)) (still k) (λ s. IsSameUnit k s.core)
    (λ f. settled_by (answered_locally name g k.standing) gs k (settle_segments name gs) (λ all. (subst AreSegments e all).1) (segments_settled name gs))
    (λ f. itself k)

pub owed_settled : (name : List ℕ) (o : Owed) (k : Core) → IsSameUnit k (settle_owed name o k).core
owed_settled name Nothing k = segments_settled name k.segments k refl
owed_settled name Rerouted k = itself k
owed_settled name Unknown k = itself k

pub is_settled : (name : List ℕ) (k : Core) → IsSameUnit k (settled name k).core
is_settled name k = owed_settled name k.owed k

pub is_finished : (s : Settled) → IsSameUnit s.core (finished s).core
is_finished s = go s.core.segments
  where
    go : (gs : List (List Command)) → IsSameUnit s.core (finish_by gs s.moved s.core).core
    go [] = with_others s.core s.core.standing s.core.segments [] (λ all. all)
    go (g ∷ gs) = itself s.core

pub settled_finished : (name : List ℕ) (k : Core) → IsSameUnit k (finished (settled name k)).core
settled_finished name k = follows k (settled name k).core (finished (settled name k)).core (is_settled name k) (is_finished (settled name k))

-- ---- a segment that is answered

-- the unit in work is the same, or the next one where it has ended
pub record IsAnswered (r : Stripped) (k j : Core) : Type 0 where
  pub unit : j.unit ≡ (if r.ended then suc k.unit else k.unit)
  pub owed : j.owed ≡ k.owed
  pub sent : j.sent ≡ false
  pub bereft : k.end ≡ None → is_bereft j.end ≡ false
  pub segments : AreSegments k.segments → AreSegments j.segments
  pub again : AllByRecursion IsCommand k.again → AreSegments k.segments → AllByRecursion IsCommand j.again

pub left_segments : (r : Stripped) (gs : List (List Command)) → AreSegments gs → AreSegments (left_after r gs)
left_segments r gs all = cond_both r.stop [] (others gs) AreSegments (λ e. tt) (λ e. others_cut gs all)

-- what unit_after leaves as it is
pub record IsSameChain (k j : Core) : Type 0 where
  pub segments : j.segments ≡ k.segments
  pub owed : j.owed ≡ k.owed
  pub end : j.end ≡ k.end
  pub standing : j.standing ≡ k.standing
  pub kept : j.kept ≡ k.kept
  pub typdef : j.typdef ≡ k.typdef

with_unit : (k : Core) (pinned spoken : Bool) (again : List Command) (unit : ℕ)
    → IsSameChain k (record k { pinned = pinned; spoken = spoken; again = again; unit = unit })
with_unit k pinned spoken again unit = record { segments = refl; owed = refl; end = refl; standing = refl; kept = refl; typdef = refl }

worked : (r : Stripped) (k : Core) → IsSameChain k (with_work r k)
worked r k = cond_both (joins_again r.replies k) _ _ (IsSameChain k)
    (λ e. with_unit k k.pinned k.spoken (k.again ++ first k.segments) k.unit)
    (λ e. with_unit k k.pinned true k.again k.unit)

worked_unit : (r : Stripped) (k : Core) → (with_work r k).unit ≡ k.unit
worked_unit r k = cond_both {A = Core} (joins_again r.replies k) _ _ (λ j. j.unit ≡ k.unit) (λ e. refl) (λ e. refl)

pub after_unit : (r : Stripped) (k : Core) → IsSameChain k (unit_after r k)
after_unit r k = cond_both r.ended (with_end r k) (if is_work (first k.segments) then with_work r k else k) (IsSameChain k)
    (λ e. with_unit k (not r.granted) false [] (suc k.unit))
    (λ e. cond_both (is_work (first k.segments)) (with_work r k) k (IsSameChain k) (λ f. worked r k)
    (λ f. with_unit k k.pinned k.spoken k.again k.unit))

pub unit_is : (r : Stripped) (k : Core) → (unit_after r k).unit ≡ (if r.ended then suc k.unit else k.unit)
unit_is r k = go r.ended
  where
    go : (b : Bool) → (if b then with_end r k else (if is_work (first k.segments) then with_work r k else k)).unit ≡ (if b then suc k.unit else k.unit)
    go true = refl
    go false = cond_both (is_work (first k.segments)) (with_work r k) k (λ j. j.unit ≡ k.unit) (λ f. worked_unit r k) (λ f. refl)

again_worked : (r : Stripped) (k : Core) → AllByRecursion IsCommand k.again → AreSegments k.segments → AllByRecursion IsCommand (with_work r k).again
again_worked r k again all = cond_both {A = Core} (joins_again r.replies k) (record k { again = k.again ++ first k.segments })
    (record k { spoken = true }) (λ j. AllByRecursion IsCommand j.again)
    (λ e. all_append IsCommand k.again (first k.segments) again (first_cut k.segments all).commands)
    (λ e. again)

again_after : (r : Stripped) (k : Core) → AllByRecursion IsCommand k.again → AreSegments k.segments → AllByRecursion IsCommand (unit_after r k).again
again_after r k again all = cond_both {A = Core} r.ended (with_end r k) (if is_work (first k.segments) then with_work r k else k)
    (λ j. AllByRecursion IsCommand j.again)
    (λ e. tt)
    (λ e. cond_both {A = Core} (is_work (first k.segments)) (with_work r k) k (λ j. AllByRecursion IsCommand j.again)
    (λ f. again_worked r k again all) (λ f. again))

core_answered : (r : Stripped) (k : Core) → IsAnswered r k (answered_core r k)
core_answered r k =
    let same = after_unit r k in
    record {
      unit = unit_is r k;
      owed = same.owed;
      sent = refl;
      bereft = λ e. ap is_bereft (same.end ∙ e);
      segments = λ all. subst (λ gs. AreSegments (left_after r gs)) (sym same.segments) (left_segments r k.segments all);
      again = again_after r k;
    }

pub answered_is : (name : List ℕ) (number : ℕ) (fault : Option RegisterFault) (r : Stripped) (k : Core)
    → IsAnswered r k (answered_by name number fault (answered_core r k)).core
answered_is name number None r k =
    let a = core_answered r k in
    let s = settled_finished name (answered_core r k) in
    record {
      unit = s.unit ∙ a.unit;
      owed = s.owed ∙ a.owed;
      sent = s.sent ∙ a.sent;
      bereft = λ e. ap is_bereft s.end ∙ a.bereft e;
      segments = λ all. s.segments (a.segments all);
      again = λ again all. subst (AllByRecursion IsCommand) (sym s.again) (a.again again all);
    }
answered_is name number (Some why) r k =
    let a = core_answered r k in
    record { unit = a.unit; owed = a.owed; sent = a.sent; bereft = λ e. refl; segments = λ all. tt; again = a.again }

-- ---- the conversation is lost

-- what holds whether a loss owes the one error, the other, or none
pub where_lost : (P : Core → Type 0) (o : Owed) (k : Core) → (o ≡ Nothing → commit_sent k ≡ true → P (owes Unknown k))
    → (o ≡ Nothing → (k.spoken || k.pinned) ≡ true → P (owes Rerouted k)) → P (record k { sent = false }) → P (lost_owing o k)
where_lost P Nothing k unknown rerouted none = cond_both (commit_sent k) (owes Unknown k)
    (if k.spoken || k.pinned then owes Rerouted k else record k { sent = false }) P (unknown refl)
    (λ e. cond_both (k.spoken || k.pinned) (owes Rerouted k) (record k { sent = false }) P (rerouted refl) (λ f. none))
where_lost P Rerouted k unknown rerouted none = none
where_lost P Unknown k unknown rerouted none = none
