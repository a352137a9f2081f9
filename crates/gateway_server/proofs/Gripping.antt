-- What each input leaves of the transport that a session holds.
use Rattle.std.proofs.Common.{◌≡◌, ℕ, ◌==◌, ◌&&◌, ◌||◌, Bool, true, false, not, cond, List, [], ◌∷◌, ◌++◌, drop, nat_eq}
use Rattle.std.proofs.Common.{Option, Some, None, is_some, refl, ap, sym, ◌∙◌, subst, arith}
use Rattle.std.proofs.lemmas.Bool.{and_parts}
use Rattle.std.proofs.lemmas.Bool.Decides.{nat_tests}
use Rattle.access_handshake.specs.declared.stage.Mark.{Mark}
use Rattle.access_handshake.specs.declared.stage.Stage.{Stage}
use Rattle.access_handshake.specs.declared.stage.Stage.TheVariants.{New, Attached, Chosen, Checked, Accessed}
use Rattle.unit_segments.specs.declared.command.Command.{Command}
use Rattle.unit_segments.specs.declared.stripped.Stripped.{Stripped}
use Rattle.unit_ledger.specs.declared.outcome.Outcome.{Outcome}
use Rattle.plain_model.specs.Core.{Core, After, Owed, LimitKind, Reply, Numbers}
use Rattle.plain_model.specs.Core as core
use Rattle.plain_model.specs.Begun.{Reading, begun}
use Rattle.plain_model.specs.Answered.{answered}
use Rattle.plain_model.specs.Lost.{accepted, none_left, closed}
use Rattle.session_core.specs.Incoming.{next_of, without_next, with_piece}
use Rattle.requester_core.specs.declared.got.Got.{Got}
use Rattle.requester_core.specs.declared.got.Got.TheVariants as got
use Rattle.requester_core.specs.Talk.{Talking, sent, back, to_send}
use Rattle.requester_core.proofs.Leaving.{back_leaves}
use Rattle.gateway_session.specs.declared.need.Need.{Need}
use Rattle.gateway_session.specs.declared.need.Need.TheVariants as need
use Rattle.gateway_session.specs.declared.need.End.{End}
use Rattle.gateway_session.specs.declared.need.End.TheVariants.{NoMemory}
use Rattle.gateway_session.specs.declared.loss.Lent.{Lent}
use Rattle.gateway_session.specs.declared.loss.Lent.TheVariants as lent
use Rattle.gateway_session.specs.declared.loss.LossWhy.{LossWhy}
use Rattle.gateway_session.specs.declared.loss.LossWhy.TheVariants as why
use Rattle.gateway_session.specs.declared.loss.ErrorWord.{ErrorWord}
use Rattle.gateway_session.specs.declared.loss.ErrorWord.TheVariants as word
use Rattle.gateway_session.specs.declared.held.Held.{Held}
use Rattle.gateway_session.specs.Session as session
use Rattle.gateway_session.specs.Session.{Session, is_released, need_ended, need_going, need_by_end, need_by_held, need_by_saying, need_by_work, need_by_talk, need_by_chain, mark_by_talk}
use Rattle.gateway_session.specs.Told.{with_outcome, end_outcome, owed_outcome, none_left_outcome}
use Rattle.gateway_session.specs.Steps.{with_word, with_list, with_after, with_limit, with_accepted, with_answered, with_whole, with_release, with_none_left}
use Rattle.gateway_session.specs.Steps.{error_of, none_left_word, accept_word, limit_word}
use Rattle.gateway_session.specs.Steps.{awaits_chain, going_on, going_by, set_out_on, lost_by_held, begun_by, begin_next, said_by, untried}
use Rattle.gateway_session.specs.Steps.{after_app, after_said, after_lost, after_app_end, after_lend, after_dialled, after_sent, after_back, after_given}
use Rattle.gateway_session.specs.Steps.{got_by, back_by, got_on, got_by_talk, talked_on, talked_by, is_attached, passes_limit, dialled_by, sent_by_held, sent_by_talk}
use Rattle.gateway_session.specs.Memory.{State, Runs, Closes, need_in, held_in, mark_in, without_list}
use Rattle.gateway_session.specs.Inputs as Input
use Rattle.gateway_session.specs.Inputs.{App, Lend, Sent, Given, Said, Lose, AppEnd}
use Rattle.transport_pool.specs.Grants.{IsAtRest}
use Rattle.gateway_server.specs.declared.lease.Lease.{Lease}
use Rattle.gateway_server.specs.declared.lease.Lease.TheVariants as lease
use Rattle.gateway_server.specs.Feeding.{after_feeding}
use Rattle.gateway_server.specs.Leases.{Grip, Free, Allowed, Dialled, Follows, held_by, grip_of, is_granted, is_dialled, grip_lent, dialled_grip, grip_by_talk, grip_of_held, rests, is_at_rest}

-- A session holds what it held or nothing, and rests where it did.
pub record Kept (old new : Option Held) : Type 0 where
  pub grip : Follows (grip_of_held new) (grip_of_held old)
  pub rest : rests old ≡ true → rests new ≡ true

follows_itself : (grip : Grip) → Follows grip grip
follows_itself Free = tt
follows_itself (Allowed number) = refl
follows_itself (Dialled number) = refl

pub kept_as : (old new : Option Held) → old ≡ new → Kept old new
kept_as old new e =
    subst (λ (h : Option Held). Kept old h) e (record { grip = follows_itself (grip_of_held old); rest = λ r. r })

pub kept_none : (old : Option Held) → Kept old None
kept_none old = record { grip = tt; rest = λ r. refl }

follows_on : (a b c : Grip) → Follows c b → Follows b a → Follows c a
follows_on a b Free h g = tt
follows_on a b (Allowed number) h g = subst (λ (grip : Grip). Follows grip a) (sym h) g
follows_on a b (Dialled number) h g = subst (λ (grip : Grip). Follows grip a) (sym h) g

kept_on : (old mid new : Option Held) → Kept old mid → Kept mid new → Kept old new
kept_on old mid new h g =
    record { grip = follows_on (grip_of_held old) (grip_of_held mid) (grip_of_held new) g.grip h.grip; rest = λ r. g.rest (h.rest r) }

-- ---- going on

talk_set : (number member : ℕ) (talk : Option Talking) (released : Bool) (k : Core)
    → Kept (Some (record { number = number; member = member; talk = talk; released = released }))
    (set_out_on ([] ∷ []) (Some (record { number = number; member = member; talk = talk; released = released })) k)
talk_set number member talk true k = kept_as _ _ refl
talk_set number member None false k = record { grip = refl; rest = λ r. refl }
talk_set number member (Some t) false k = record { grip = refl; rest = λ r. refl }

set_out_kept : (segments : List (List Command)) (held : Option Held) (k : Core) → Kept held (set_out_on segments held k)
set_out_kept [] held k = kept_as held held refl
set_out_kept (segment ∷ segments) None k = kept_none None
set_out_kept (segment ∷ segments) (Some held) k = talk_set held.number held.member held.talk held.released k

lost_kept_by : (reason : LossWhy) (held : Option Held) (s : Session) → s.held ≡ held → Kept s.held (lost_by_held reason held s).held
lost_kept_by reason None s e = kept_as s.held s.held refl
lost_kept_by reason (Some held) s e = kept_none s.held

lost_free : (reason : LossWhy) (held : Option Held) (s : Session) → s.held ≡ held → grip_of_held (lost_by_held reason held s).held ≡ Free
lost_free reason None s e = ap grip_of_held e
lost_free reason (Some held) s e = refl

pub lost_kept : (reason : LossWhy) (s : Session) → Kept s.held (after_lost reason s).held
unfolding after_lost
lost_kept reason s = lost_kept_by reason s.held s refl

going_kept_by : (end : Option core.End) (s : Session) → Kept s.held (going_by end s).held
going_kept_by None s = set_out_kept s.core.segments s.held s.core
going_kept_by (Some end) s = lost_kept why.Left s

going_kept : (s : Session) → Kept s.held (going_on s).held
going_kept s = going_kept_by s.core.end s

-- ---- what is told changes nothing of it

word_kept : (held : Option Held) (word : Option ErrorWord) (s : Session) → Kept held s.held → Kept held (with_word word s).held
word_kept held None s h = h
word_kept held (Some word) s h = h

outcome_kept : (held : Option Held) (outcome : Option Outcome) (s : Session) → Kept held s.held → Kept held (with_outcome outcome s).held
outcome_kept held None s h = h
outcome_kept held (Some outcome) s h = h

list_kept : (held : Option Held) (list : Option (List ℕ)) (s : Session) → Kept held s.held → Kept held (with_list list s).held
list_kept held None s h = h
list_kept held (Some list) s h = h

after_kept : (after : After) (s : Session) → Kept s.held (with_after after s).held
after_kept after s = going_kept (record s { core = after.core })

limit_kept : (which : LimitKind) (s : Session) → Kept s.held (with_limit which s).held
limit_kept which s = word_kept s.held (Some word.Limit) (with_after (closed which s.core) s) (after_kept (closed which s.core) s)

-- ---- bytes of the application

begun_kept : (reading : Option Reading) (s : Session) → Kept s.held (begun_by reading s).held
begun_kept None s = kept_as s.held s.held refl
begun_kept (Some reading) s =
    word_kept s.held (error_of reading) (with_after (begun s.name reading s.core) s) (after_kept (begun s.name reading s.core) s)

begin_kept : (s : Session) → Kept s.held (begin_next s).held
unfolding begin_next
begin_kept s = begun_kept (next_of s.incoming).reading (record s { incoming = without_next s.incoming })

pub app_kept : (piece : List ℕ) (s : Session) → Kept s.held (after_app piece s).held
unfolding after_app
app_kept piece s = begin_kept (record s { incoming = with_piece piece s.incoming })

said_kept_by : (left : List ℕ) (s : Session) → Kept s.held (said_by left s).held
said_kept_by [] s =
    elim (awaits_chain s.core.segments s.core.end)
    as (λ b. let r : Session = cond b (begin_next (record s { to_say = [] })) (record s { to_say = [] }) in Kept s.held r.held) [
      | true ↦ begin_kept (record s { to_say = [] })
      | false ↦ kept_as s.held s.held refl
    ]
said_kept_by (byte ∷ bytes) s = kept_as s.held s.held refl

pub said_kept : (count : ℕ) (s : Session) → Kept s.held (after_said count s).held
unfolding after_said
said_kept count s = said_kept_by (drop count s.to_say) s

pub end_kept : (failed : Bool) (s : Session) → Kept s.held (after_app_end failed s).held
unfolding after_app_end
end_kept failed s = lost_kept why.Left s

-- ---- bytes to the server

sent_talk : (count number member : ℕ) (talk : Option Talking) (released : Bool) (s : Session)
    → s.held ≡ Some (record { number = number; member = member; talk = talk; released = released })
    → Kept s.held (sent_by_talk count talk (record { number = number; member = member; talk = talk; released = released }) s).held
sent_talk count number member None released s e = kept_as s.held s.held refl
sent_talk count number member (Some t) released s e =
    subst (λ (h : Option Held). Kept h (Some (record { number = number; member = member; talk = Some (sent count t); released = released }))) (sym e)
    (record { grip = refl; rest = λ r. r })

sent_kept_by : (count : ℕ) (held : Option Held) (s : Session) → s.held ≡ held → Kept s.held (sent_by_held count held s).held
sent_kept_by count None s e = kept_as s.held s.held refl
sent_kept_by count (Some held) s e = sent_talk count held.number held.member held.talk held.released s e

pub sent_kept : (count : ℕ) (s : Session) → Kept s.held (after_sent count s).held
unfolding after_sent
sent_kept count s =
    elim (count == 0) as (λ b. let r : Session = cond b (after_lost why.Stuck s) (sent_by_held count s.held s) in Kept s.held r.held) [
      | true ↦ lost_kept why.Stuck s
      | false ↦ sent_kept_by count s.held s refl
    ]

-- ---- a transport

none_stays : (old new : Option Held) → old ≡ None → Kept old new → Follows (grip_of_held new) Free
none_stays old new e h = subst (λ (o : Option Held). Follows (grip_of_held new) (grip_of_held o)) e h.grip

rests_none : (old new : Option Held) → old ≡ None → Kept old new → rests new ≡ true
rests_none old new e h = h.rest (subst (λ (o : Option Held). rests o ≡ true) (sym e) refl)

none_left_kept : (s : Session) → Kept s.held (after_lend lent.NoneLeft s).held
unfolding after_lend
none_left_kept s =
    outcome_kept s.held (none_left_outcome s.core.standing.stage s.core.owed) (with_none_left s)
    (word_kept s.held (Some (none_left_word s.core.standing.stage s.core.owed)) (with_after (none_left s.name s.core) s)
    (after_kept (none_left s.name s.core) s))

worn_kept : (s : Session) → Kept s.held (after_lend lent.Worn s).held
unfolding after_lend
worn_kept s = limit_kept Numbers s

pub lent_follows : (l : Lent) (s : Session) → s.held ≡ None → Follows (grip_of_held (after_lend l s).held) (grip_lent l)
unfolding after_lend
lent_follows (lent.Idle number member) s e = refl
lent_follows (lent.Dial number member) s e = refl
lent_follows lent.Queue s e = subst (λ (h : Option Held). Follows (grip_of_held h) Free) (sym e) tt
lent_follows lent.NoneLeft s e = none_stays s.held (after_lend lent.NoneLeft s).held e (none_left_kept s)
lent_follows lent.Worn s e = none_stays s.held (after_lend lent.Worn s).held e (worn_kept s)

pub lent_rests : (l : Lent) (s : Session) → s.held ≡ None → rests (after_lend l s).held ≡ true
unfolding after_lend
lent_rests (lent.Idle number member) s e = refl
lent_rests (lent.Dial number member) s e = refl
lent_rests lent.Queue s e = subst (λ (h : Option Held). rests h ≡ true) (sym e) refl
lent_rests lent.NoneLeft s e = rests_none s.held (after_lend lent.NoneLeft s).held e (none_left_kept s)
lent_rests lent.Worn s e = rests_none s.held (after_lend lent.Worn s).held e (worn_kept s)

dialled_so : (number member : ℕ) (talk : Option Talking) (released : Bool) (s : Session)
    → Follows (grip_of_held (dialled_by (Some (record { number = number; member = member; talk = talk; released = released })) s).held)
    (dialled_grip (grip_by_talk number talk))
dialled_so number member None released s = refl
dialled_so number member (Some t) released s = refl

dialled_follows_by : (held : Option Held) (s : Session) → s.held ≡ held
    → Follows (grip_of_held (dialled_by held s).held) (dialled_grip (grip_of_held held))
dialled_follows_by None s e = subst (λ (h : Option Held). Follows (grip_of_held h) Free) (sym e) tt
dialled_follows_by (Some held) s e = dialled_so held.number held.member held.talk held.released s

pub dialled_follows : (s : Session) → Follows (grip_of_held (after_dialled true s).held) (dialled_grip (grip_of_held s.held))
unfolding after_dialled
dialled_follows s = dialled_follows_by s.held s refl

missed : (s : Session) → grip_of_held (after_dialled false s).held ≡ Free
unfolding after_dialled after_lost
missed s = lost_free why.Dial s.held s refl

-- ---- what a need says of what is held

abbrev pub IsUndialled : Option Held → Type 0
IsUndialled None = ⊥
IsUndialled (Some held) = held.talk ≡ None

abbrev pub has_talk : Option Held → Bool
has_talk None = false
has_talk (Some held) = is_some held.talk

abbrev pub SaysOf : Need → Option Held → Type 0
SaysOf need.Lend held = held ≡ None
SaysOf need.Dial held = IsUndialled held
SaysOf need.Send held = (has_talk held ≡ true) × (is_released held ≡ false)
SaysOf need.Back held = (has_talk held ≡ true) × (is_released held ≡ false)
SaysOf need.Give held = is_released held ≡ true
SaysOf _ held = Unit {0}

ended_says : (end : End) (bytes : List ℕ) (gone : Bool) (held : Option Held) → SaysOf (need_ended end bytes gone) held
ended_says end [] gone held = tt
ended_says end (byte ∷ bytes) true held = tt
ended_says end (byte ∷ bytes) false held = tt

chain_says : (bytes : List ℕ) (held : Option Held) → has_talk held ≡ true → is_released held ≡ false → SaysOf (need_by_chain bytes) held
chain_says [] held h r = (h, r)
chain_says (byte ∷ bytes) held h r = (h, r)

talk_says : (number member : ℕ) (talk : Option Talking) (released : Bool) → released ≡ false
    → SaysOf (need_by_talk talk) (Some (record { number = number; member = member; talk = talk; released = released }))
talk_says number member None released r = refl
talk_says number member (Some t) released r =
    chain_says (to_send t) (Some (record { number = number; member = member; talk = Some t; released = released })) refl r

held_says : (held : Option Held) → is_released held ≡ false → SaysOf (need_by_held held) held
held_says None r = refl
held_says (Some held) r = talk_says held.number held.member held.talk held.released r

work_says : (segments : List (List Command)) (held : Option Held) → is_released held ≡ false → SaysOf (need_by_work segments held) held
work_says [] held r = tt
work_says (segment ∷ segments) held r = held_says held r

saying_says : (bytes : List ℕ) (s : Session) → is_released s.held ≡ false → SaysOf (need_by_saying bytes s) s.held
saying_says [] s r = work_says s.core.segments s.held r
saying_says (byte ∷ bytes) s r = tt

going_says : (s : Session) → SaysOf (need_going s) s.held
going_says s =
    elim (is_released s.held) as (λ b. is_released s.held ≡ b → SaysOf (cond b need.Give (need_by_saying s.to_say s)) s.held) [
      | true ↦ λ yes. yes
      | false ↦ λ no. saying_says s.to_say s no
    ] refl

end_says : (end : Option core.End) (s : Session) → SaysOf (need_by_end end s) s.held
end_says None s = going_says s
end_says (Some end) s = ended_says _ s.to_say s.gone s.held

says_of : (s : Session) → SaysOf (session.need s) s.held
unfolding session.need
says_of s = end_says s.core.end s

pub says_in : (state : State) (n : Need) → need_in state ≡ n → SaysOf n (held_by state)
says_in (Runs s) n e = subst (λ (m : Need). SaysOf m s.held) e (says_of s)
says_in (Closes closing) n e =
    subst (λ (m : Need). SaysOf m None) e (ended_says NoMemory (closing.rest ++ closing.reply) closing.gone None)

-- ---- bytes of the server

at_rest_so : (t : Talking) → t.unread ≡ 0 → (not (is_attached t.stage) || is_at_rest (mark_by_talk (Some t))) ≡ true
at_rest_so t e =
    elim (is_attached t.stage) as (λ b. (not b || (b && nat_eq t.unread 0)) ≡ true) [
      | true ↦ ap (λ (n : ℕ). nat_eq n 0) e
      | false ↦ refl
    ]

-- the transport whose conversation is this one, lent to this member
abbrev pub with_talking : ℕ → ℕ → Bool → Talking → Option Held
with_talking number member released t = Some (record { number = number; member = member; talk = Some t; released = released })

accepted_kept : (s : Session) → Kept s.held (with_accepted s).held
accepted_kept s =
    word_kept s.held (Some (accept_word s.core.owed)) (with_after (accepted s.name s.core) (untried s)) (after_kept (accepted s.name s.core) (untried s))

answered_kept : (r : Stripped) (s : Session) → Kept s.held (with_answered r s).held
answered_kept r s =
    word_kept s.held (limit_word (answered s.name r s.core).core.end) (with_list r.list (with_after (answered s.name r s.core) (untried s)))
    (list_kept s.held r.list (with_after (answered s.name r s.core) (untried s)) (after_kept (answered s.name r s.core) (untried s)))

whole_kept : (r : Stripped) (s : Session) → Kept s.held (with_whole r s).held
whole_kept r s =
    elim (passes_limit r s.core)
    as (λ b. let x : Session = cond b (with_limit Reply s) (with_outcome (end_outcome r) (with_answered r s)) in Kept s.held x.held) [
      | true ↦ limit_kept Reply s
      | false ↦ outcome_kept s.held (end_outcome r) (with_answered r s) (answered_kept r s)
    ]

release_kept : (held : Option Held) (number member : ℕ) (t : Talking) (s : Session) → t.unread ≡ 0 → Kept held (with_talking number member false t)
    → s.held ≡ with_talking number member false t → Kept held (with_release s.held s).held
release_kept held number member t s none h e =
    let released = with_talking number member (is_attached t.stage) t in
    let step : Kept (with_talking number member false t) released = record { grip = refl; rest = λ r. at_rest_so t none } in
    subst (λ (o : Option Held). Kept held (with_release o s).held) (sym e) (kept_on held (with_talking number member false t) released h step)

got_kept : (g : Got) (held : Option Held) (number member : ℕ) (t : Talking) (s : Session) → ((r : Stripped) → g ≡ got.Whole r → t.unread ≡ 0)
    → Kept held (with_talking number member false t) → s.held ≡ with_talking number member false t → Kept held (got_by g s).held
got_kept g held number member t s none h e = by g none
  where
    now : Kept held s.held
    now = subst (λ (o : Option Held). Kept held o) (sym e) h

    by : (g : Got) → ((r : Stripped) → g ≡ got.Whole r → t.unread ≡ 0) → Kept held (got_by g s).held
    by got.More none = now
    by got.Refused none = kept_on held s.held (after_lost why.Refused s).held now (lost_kept why.Refused s)
    by (got.Broken at) none = kept_on held s.held (after_lost (why.Frame at) s).held now (lost_kept (why.Frame at) s)
    by got.TooLong none = kept_on held s.held (with_limit Reply s).held now (limit_kept Reply s)
    by got.Ready none =
        outcome_kept held (owed_outcome s.core.owed) (with_accepted s) (kept_on held s.held (with_accepted s).held now (accepted_kept s))
    by (got.Whole r) none =
        kept_on held (with_release s.held s).held (with_whole r (with_release s.held s)).held
        (release_kept held number member t s (none r refl) h e) (whole_kept r (with_release s.held s))

back_talk : (bytes : List ℕ) (number member : ℕ) (talk : Option Talking) (s : Session)
    → Kept (Some (record { number = number; member = member; talk = talk; released = false }))
    (back_by (got_by_talk bytes talk) (record s {
      held = Some (record { number = number; member = member; talk = talked_by bytes talk; released = false });
    })).held
back_talk bytes number member None s = kept_as _ _ refl
back_talk bytes number member (Some t) s =
    got_kept (back bytes t).got (with_talking number member false t) number member (back bytes t).talk
    (record s { held = with_talking number member false (back bytes t).talk }) (back_leaves bytes t) (record { grip = refl; rest = λ r. r }) refl

back_held : (bytes : List ℕ) (held : Option Held) (s : Session) → is_released held ≡ false
    → Kept held (back_by (got_on bytes held) (record s { held = talked_on bytes held })).held
back_held bytes None s r = kept_none None
back_held bytes (Some held) s r = back_of bytes held.number held.member held.talk held.released s r
  where
    back_of : (bytes : List ℕ) (number member : ℕ) (talk : Option Talking) (released : Bool) (s : Session) → released ≡ false
        → Kept (Some (record { number = number; member = member; talk = talk; released = released }))
        (back_by (got_by_talk bytes talk) (record s {
          held = Some (record { number = number; member = member; talk = talked_by bytes talk; released = released });
        })).held
    back_of bytes number member talk true s r = absurd cc
    back_of bytes number member talk false s r = back_talk bytes number member talk s

pub back_kept : (piece : List ℕ) (s : Session) → is_released s.held ≡ false → Kept s.held (after_back piece s).held
unfolding after_back
back_kept [] s r = lost_kept why.Ended s
back_kept (byte ∷ bytes) s r = back_held (byte ∷ bytes) s.held s r

-- ---- each input, whether it finds its memory or not

pub app_feeds : (memory : Bool) (piece : List ℕ) (state : State) → Kept (held_by state) (held_by (after_feeding memory (App piece) state))
app_feeds true piece (Runs s) = app_kept piece s
app_feeds true piece (Closes closing) = kept_none None
app_feeds false piece (Runs s) = kept_none s.held
app_feeds false piece (Closes closing) = kept_none None

pub end_feeds : (memory failed : Bool) (state : State) → Kept (held_by state) (held_by (after_feeding memory (AppEnd failed) state))
end_feeds true failed (Runs s) = end_kept failed s
end_feeds true failed (Closes closing) = kept_none None
end_feeds false failed (Runs s) = kept_none s.held
end_feeds false failed (Closes closing) = kept_none None

pub said_feeds : (memory : Bool) (count : ℕ) (state : State) → Kept (held_by state) (held_by (after_feeding memory (Said count) state))
said_feeds true count (Runs s) = said_kept count s
said_feeds true count (Closes closing) = kept_none None
said_feeds false count (Runs s) = kept_none s.held
said_feeds false count (Closes closing) = kept_none None

pub sent_feeds : (memory : Bool) (count : ℕ) (state : State) → Kept (held_by state) (held_by (after_feeding memory (Sent count) state))
sent_feeds true count (Runs s) = sent_kept count s
sent_feeds true count (Closes closing) = kept_none None
sent_feeds false count (Runs s) = kept_none s.held
sent_feeds false count (Closes closing) = kept_none None

pub back_feeds : (memory : Bool) (piece : List ℕ) (state : State) → is_released (held_by state) ≡ false
    → Kept (held_by state) (held_by (after_feeding memory (Input.Back piece) state))
back_feeds true piece (Runs s) r = back_kept piece s r
back_feeds true piece (Closes closing) r = kept_none None
back_feeds false piece (Runs s) r = kept_none s.held
back_feeds false piece (Closes closing) r = kept_none None

pub record Rests (was : Grip) (new : Option Held) : Type 0 where
  pub grip : Follows (grip_of_held new) was
  pub rest : rests new ≡ true

pub lend_feeds : (memory : Bool) (l : Lent) (state : State) → held_by state ≡ None → Rests (grip_lent l) (held_by (after_feeding memory (Lend l) state))
lend_feeds true l (Runs s) e = record { grip = lent_follows l s e; rest = lent_rests l s e }
lend_feeds true l (Closes closing) e = record { grip = tt; rest = refl }
lend_feeds false l (Runs s) e = record { grip = tt; rest = refl }
lend_feeds false l (Closes closing) e = record { grip = tt; rest = refl }

undialled_rests : (number member : ℕ) (talk : Option Talking) (released : Bool) (s : Session) → talk ≡ None
    → rests (Some (record { number = number; member = member; talk = talk; released = released })) ≡ true
    → rests (dialled_by (Some (record { number = number; member = member; talk = talk; released = released })) s).held ≡ true
undialled_rests number member None true s n r = absurd cc
undialled_rests number member None false s n r = refl
undialled_rests number member (Some t) released s n r = absurd cc

dialled_rests_by : (held : Option Held) (s : Session) → IsUndialled held → rests held ≡ true → rests (dialled_by held s).held ≡ true
dialled_rests_by None s n r = absurd n
dialled_rests_by (Some held) s n r = undialled_rests held.number held.member held.talk held.released s n r

dialled_rests : (s : Session) → IsUndialled s.held → rests s.held ≡ true → rests (after_dialled true s).held ≡ true
unfolding after_dialled
dialled_rests s n r = dialled_rests_by s.held s n r

missed_kept : (s : Session) → Kept s.held (after_dialled false s).held
unfolding after_dialled
missed_kept s = lost_kept why.Dial s

pub dial_feeds : (memory : Bool) (state : State) → IsUndialled (held_by state) → rests (held_by state) ≡ true
    → Rests (dialled_grip (grip_of_held (held_by state))) (held_by (after_feeding memory (Input.Dialled true) state))
dial_feeds true (Runs s) n r = record { grip = dialled_follows s; rest = dialled_rests s n r }
dial_feeds true (Closes closing) n r = record { grip = tt; rest = refl }
dial_feeds false (Runs s) n r = record { grip = tt; rest = refl }
dial_feeds false (Closes closing) n r = record { grip = tt; rest = refl }

-- nothing is held any more
pub record IsFree (new : Option Held) : Type 0 where
  pub grip : grip_of_held new ≡ Free
  pub rest : rests new ≡ true

pub miss_feeds : (memory : Bool) (state : State) → rests (held_by state) ≡ true → IsFree (held_by (after_feeding memory (Input.Dialled false) state))
miss_feeds true (Runs s) r = record { grip = missed s; rest = (missed_kept s).rest r }
miss_feeds true (Closes closing) r = record { grip = refl; rest = refl }
miss_feeds false (Runs s) r = record { grip = refl; rest = refl }
miss_feeds false (Closes closing) r = record { grip = refl; rest = refl }

fault_free : (s : Session) → grip_of_held (after_lost why.Fault s).held ≡ Free
unfolding after_lost
fault_free s = lost_free why.Fault s.held s refl

pub fault_feeds : (memory : Bool) (state : State) → rests (held_by state) ≡ true → IsFree (held_by (after_feeding memory (Lose why.Fault) state))
fault_feeds true (Runs s) r = record { grip = fault_free s; rest = (lost_kept why.Fault s).rest r }
fault_feeds true (Closes closing) r = record { grip = refl; rest = refl }
fault_feeds false (Runs s) r = record { grip = refl; rest = refl }
fault_feeds false (Closes closing) r = record { grip = refl; rest = refl }

given_free : (s : Session) → (after_given s).held ≡ None
unfolding after_given
given_free s = refl

pub given_feeds : (memory : Bool) (state : State) → IsFree (held_by (after_feeding memory Given state))
given_feeds true (Runs s) = record { grip = ap grip_of_held (given_free s); rest = ap rests (given_free s) }
given_feeds true (Closes closing) = record { grip = refl; rest = refl }
given_feeds false (Runs s) = record { grip = refl; rest = refl }
given_feeds false (Closes closing) = record { grip = refl; rest = refl }

-- a dial that reached its member, or didn't
pub record AfterDial (reached : Bool) (old : Grip) (new : Option Held) : Type 0 where
  pub hits : reached ≡ true → Follows (grip_of_held new) (dialled_grip old)
  pub misses : reached ≡ false → grip_of_held new ≡ Free
  pub rest : rests new ≡ true

pub dialled_feeds : (memory reached : Bool) (state : State) → IsUndialled (held_by state) → rests (held_by state) ≡ true
    → AfterDial reached (grip_of_held (held_by state)) (held_by (after_feeding memory (Input.Dialled reached) state))
dialled_feeds memory true state n r =
    let h = dial_feeds memory state n r in record { hits = λ e. h.grip; misses = λ e. absurd cc; rest = h.rest }
dialled_feeds memory false state n r =
    let h = miss_feeds memory state r in record { hits = λ e. absurd cc; misses = λ e. h.grip; rest = h.rest }

-- ---- what a session tells of the transport that it holds

held_number : (number : ℕ) (talk : Option Talking) (g : Grip) → Follows (grip_by_talk number talk) g → grip_by_talk number talk ≡ g
held_number number None g h = h
held_number number (Some t) g h = h

holds_by : (held : Option Held) (g : Grip) → is_some (session.number_of held) ≡ true → Follows (grip_of_held held) g → grip_of_held held ≡ g
holds_by None g some h = absurd cc
holds_by (Some held) g some h = held_number held.number held.talk g h

pub holds_same : (state : State) (g : Grip) → is_some (held_in state) ≡ true → Follows (grip_of_held (held_by state)) g → grip_of_held (held_by state) ≡ g
holds_same (Runs s) g some h = holds_by s.held g some h
holds_same (Closes closing) g some h = absurd cc

free_by : (held : Option Held) → is_some (session.number_of held) ≡ false → grip_of_held held ≡ Free
free_by None none = refl
free_by (Some held) none = absurd cc

pub holds_none : (state : State) → is_some (held_in state) ≡ false → grip_of_held (held_by state) ≡ Free
holds_none (Runs s) none = free_by s.held none
holds_none (Closes closing) none = refl

some_held_by : (held : Option Held) (number : ℕ) → grip_of_held held ≡ Dialled number → session.number_of held ≡ None → ⊥
some_held_by None number e none = absurd cc
some_held_by (Some held) number e none = absurd cc

pub some_held : (state : State) (number : ℕ) → grip_of_held (held_by state) ≡ Dialled number → held_in state ≡ None → ⊥
some_held (Runs s) number e none = some_held_by s.held number e none
some_held (Closes closing) number e none = absurd cc

list_keeps : (state : State) → held_by (without_list state) ≡ held_by state
list_keeps (Runs s) = refl
list_keeps (Closes closing) = refl

pub without_list_as : {T : Type 0} (f : Option Held → T) (old new : State) → new ≡ without_list old → f (held_by new) ≡ f (held_by old)
without_list_as f old new e = ap (λ (state : State). f (held_by state)) e ∙ ap f (list_keeps old)

-- ---- what a run holds, by what its session needs

talk_grip : (number : ℕ) (talk : Option Talking) → is_some talk ≡ true → grip_by_talk number talk ≡ Dialled number
talk_grip number None t = absurd cc
talk_grip number (Some t) some = refl

released_talks : (number member : ℕ) (talk : Option Talking) (released : Bool) → released ≡ true
    → rests (Some (record { number = number; member = member; talk = talk; released = released })) ≡ true → is_some talk ≡ true
released_talks number member None true r h = absurd cc
released_talks number member None false r h = absurd cc
released_talks number member (Some t) released r h = refl

module _ {L : Type 0} where
  undialled_grip : (held : Option Held) (l : Lease L) → IsUndialled held → grip_of_held held ≡ grip_of l → is_granted l ≡ true
  undialled_grip None l n e = absurd n
  undialled_grip (Some held) l n e = by l (sym e ∙ ap (grip_by_talk held.number) n)
    where
      by : (l : Lease L) → grip_of l ≡ Allowed held.number → is_granted l ≡ true
      by lease.Nothing e = absurd cc
      by (lease.Granted grant) e = refl
      by (lease.Dialled grant link) e = absurd cc

  dialled_lease : (number : ℕ) (l : Lease L) → grip_of l ≡ Dialled number → is_dialled l ≡ true
  dialled_lease number lease.Nothing e = absurd cc
  dialled_lease number (lease.Granted grant) e = absurd cc
  dialled_lease number (lease.Dialled grant link) e = refl

  talking_grip : (held : Option Held) (l : Lease L) → has_talk held ≡ true → grip_of_held held ≡ grip_of l → is_dialled l ≡ true
  talking_grip None l t e = absurd cc
  talking_grip (Some held) l t e = dialled_lease held.number l (sym e ∙ talk_grip held.number held.talk t)

  pub dial_holds : (state : State) (l : Lease L) → need_in state ≡ need.Dial → grip_of_held (held_by state) ≡ grip_of l → is_granted l ≡ true
  dial_holds state l n e = undialled_grip (held_by state) l (says_in state need.Dial n) e

  pub send_holds : (state : State) (l : Lease L) → need_in state ≡ need.Send → grip_of_held (held_by state) ≡ grip_of l → is_dialled l ≡ true
  send_holds state l n e = talking_grip (held_by state) l (says_in state need.Send n).0 e

  pub back_holds : (state : State) (l : Lease L) → need_in state ≡ need.Back → grip_of_held (held_by state) ≡ grip_of l → is_dialled l ≡ true
  back_holds state l n e = talking_grip (held_by state) l (says_in state need.Back n).0 e

  released_grip : (held : Option Held) (l : Lease L) → is_released held ≡ true → rests held ≡ true → grip_of_held held ≡ grip_of l → is_dialled l ≡ true
  released_grip None l r h e = absurd cc
  released_grip (Some held) l r h e =
      talking_grip (Some held) l (released_talks held.number held.member held.talk held.released r h) e

  pub give_holds : (state : State) (l : Lease L) → need_in state ≡ need.Give → rests (held_by state) ≡ true → grip_of_held (held_by state) ≡ grip_of l
      → is_dialled l ≡ true
  give_holds state l n h e = released_grip (held_by state) l (says_in state need.Give n) h e

-- what is to be given back is at rest
rests_so : (held : Held) → held.released ≡ true → rests (Some held) ≡ true → is_at_rest (mark_by_talk held.talk) ≡ true
rests_so held r h =
    let e : rests (Some held) ≡ is_at_rest (mark_by_talk held.talk) = ap (λ (b : Bool). not b || is_at_rest (mark_by_talk held.talk)) r in sym e ∙ h

attached_so : (stage : Stage) → is_attached stage ≡ true → stage ≡ Attached
attached_so New e = absurd cc
attached_so Attached e = refl
attached_so Chosen e = absurd cc
attached_so Checked e = absurd cc
attached_so Accessed e = absurd cc

mark_rests : (mark : Mark) → is_at_rest mark ≡ true → IsAtRest mark
mark_rests mark e =
    let parts = and_parts (is_attached mark.stage) (nat_eq mark.unread 0) e in
    record { stage = attached_so mark.stage parts.0; unread = grind (arith, nat_tests) }

gives_at_rest : (held : Option Held) → is_released held ≡ true → rests held ≡ true → IsAtRest (session.mark_by_held held)
gives_at_rest None r h = absurd cc
gives_at_rest (Some held) r h = mark_rests (mark_by_talk held.talk) (rests_so held r h)

pub give_rests : (state : State) → need_in state ≡ need.Give → rests (held_by state) ≡ true → IsAtRest (mark_in state)
give_rests (Runs s) n h = gives_at_rest s.held (says_in (Runs s) need.Give n) h
give_rests (Closes closing) n h = absurd (let no : false ≡ true = says_in (Closes closing) need.Give n in cc)
