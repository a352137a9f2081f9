-- What each input adds to what is to be said, and that none but the application's end ends a session by its application.
use Rattle.std.proofs.Common.{◌≡◌, ℕ, ◌==◌, Bool, true, false, cond, List, [], ◌∷◌, ◌++◌, drop, Option, Some, None, refl, sym, ap, ◌∙◌, subst}
use Rattle.std.proofs.Common.{append_assoc}
use Rattle.std.proofs.lemmas.List.{append-nil}
use Rattle.unit_segments.specs.declared.registers.RegisterFault.{RegisterFault}
use Rattle.unit_segments.specs.declared.stripped.Stripped.{Stripped}
use Rattle.unit_segments.specs.Segment.{segments_of}
use Rattle.unit_ledger.specs.declared.outcome.Outcome.{Outcome}
use Rattle.plain_model.specs.Core.{Core, After, Owed, Nothing, Rerouted, Unknown, LimitKind, Reply, Numbers, first, number_in, still}
use Rattle.plain_model.specs.Core as core
use Rattle.plain_model.specs.Begun.{Reading, Chain, Fault, TooLong, begun}
use Rattle.plain_model.specs.Answered.{answered, answered_by, answered_core, register_fault}
use Rattle.plain_model.specs.Lost.{lost, lost_owing, commit_sent, owes, rolled_back_with, rerouted_card, accepted, none_left, closed, left, end_or, app_end}
use Rattle.plain_model.proofs.Cores.{settled_finished, is_finished, after_unit}
use Rattle.session_core.specs.Incoming.{next_of, without_next, with_piece}
use Rattle.requester_core.specs.declared.got.Got.{Got}
use Rattle.requester_core.specs.declared.got.Got.TheVariants as got
use Rattle.requester_core.specs.Talk.{Talking, sent, is_in_segment}
use Rattle.gateway_session.specs.declared.loss.Lent.{Lent}
use Rattle.gateway_session.specs.declared.loss.Lent.TheVariants as lent
use Rattle.gateway_session.specs.declared.loss.LossWhy.{LossWhy}
use Rattle.gateway_session.specs.declared.loss.LossWhy.TheVariants as why
use Rattle.gateway_session.specs.declared.loss.ErrorWord.{ErrorWord}
use Rattle.gateway_session.specs.declared.loss.ErrorWord.TheVariants as word
use Rattle.gateway_session.specs.declared.held.Held.{Held}
use Rattle.gateway_session.specs.Session.{Session}
use Rattle.gateway_session.specs.Told.{with_outcome, end_outcome, owed_outcome, none_left_outcome}
use Rattle.gateway_session.specs.Steps.{with_word, with_list, with_after, with_limit, with_accepted, with_answered, with_whole, with_release, with_none_left}
use Rattle.gateway_session.specs.Steps.{error_of, none_left_word, accept_word, limit_word}
use Rattle.gateway_session.specs.Steps.{awaits_chain, going_on, going_by, lost_by_held, begun_by, begin_next, said_by, untried, with_sent}
use Rattle.gateway_session.specs.Steps.{after_app, after_said, after_lost, after_app_end, after_lend, after_dialled, after_sent, after_back, after_given}
use Rattle.gateway_session.specs.Steps.{got_by, back_by, got_on, talked_on, passes_limit, dialled_by, sent_by_held, sent_by_talk}
use Rattle.gateway_server.specs.Leaving.{is_left}
use Rattle.gateway_session.specs.Inputs.{Input, App, Lend, Dialled, Sent, Back, Given, Said, Lose, AppEnd, after_input, unsaid}

-- what this speaks of: the bytes to say, whether the application has gone, and the end
pub record Seen : Type 0 where
  pub to_say : List ℕ
  pub gone : Bool
  pub end : Option core.End

abbrev pub seen : Session → Seen
seen s = record { to_say = s.to_say; gone = s.gone; end = s.core.end }

-- Bytes are added behind those to say, and the application neither goes nor ends the session.
pub record Goes (old new : Seen) : Type 0 where
  pub more : List ℕ
  pub says : new.to_say ≡ old.to_say ++ more
  pub gone : new.gone ≡ old.gone
  pub there : is_left new.end ≡ true → is_left old.end ≡ true

stays : (s : Seen) → Goes s s
stays s = record { more = []; says = sym (append-nil s.to_say); gone = refl; there = λ e. e }

-- where the end is another
ends : (s : Seen) (end : Option core.End) → (is_left end ≡ true → is_left s.end ≡ true) → Goes s (record s { end = end })
ends s end h = record { more = []; says = sym (append-nil s.to_say); gone = refl; there = h }

says_more : (old new : Seen) (bytes : List ℕ) → Goes old new → Goes old (record new { to_say = new.to_say ++ bytes })
says_more old new bytes h = record {
  more = h.more ++ bytes;
  says = ap (λ (xs : List ℕ). xs ++ bytes) h.says ∙ append_assoc old.to_say h.more bytes;
  gone = h.gone;
  there = h.there;
}

on : (a b c : Seen) → Goes a b → Goes b c → Goes a c
on a b c x y = record {
  more = x.more ++ y.more;
  says = y.says ∙ ap (λ (xs : List ℕ). xs ++ y.more) x.says ∙ append_assoc a.to_say x.more y.more;
  gone = y.gone ∙ x.gone;
  there = λ e. x.there (y.there e);
}

-- ---- cores

same_end : (j k : Core) → j.end ≡ k.end → is_left j.end ≡ true → is_left k.end ≡ true
same_end j k e h = ap is_left (sym e) ∙ h

lost_owing_end : (owed : Owed) (k : Core) → (lost_owing owed k).end ≡ k.end
lost_owing_end Nothing k = go (commit_sent k) _
  where
    go : (sent begun : Bool)
        → (cond sent (owes Unknown k) (cond begun (owes Rerouted k) (record k { sent = false }))).end ≡ k.end
    go true begun = refl
    go false true = refl
    go false false = refl
lost_owing_end Rerouted k = refl
lost_owing_end Unknown k = refl

lost_end : (k : Core) → (lost k).end ≡ k.end
unfolding lost
lost_end k = lost_owing_end k.owed k

begun_left : (name : List ℕ) (reading : Reading) (k : Core) → is_left (begun name reading k).core.end ≡ true → is_left k.end ≡ true
unfolding begun
begun_left name (Chain commands) k =
    same_end (begun name (Chain commands) k).core k (settled_finished name (record k { segments = segments_of commands })).end
begun_left name (Fault place error number) k = λ e. absurd cc
begun_left name (TooLong number) k = λ e. absurd cc

accepted_left : (name : List ℕ) (k : Core) → is_left (accepted name k).core.end ≡ true → is_left k.end ≡ true
unfolding accepted
accepted_left name k =
    same_end (accepted name k).core k (is_finished (still (record k {
      kept = k.kept ++ rolled_back_with name (rerouted_card k.owed) k;
      segments = [];
      owed = Nothing;
    }))).end

none_left_left : (name : List ℕ) (k : Core) → is_left (none_left name k).core.end ≡ true → is_left k.end ≡ true
unfolding none_left
none_left_left name k = λ e. absurd cc

closed_left : (which : LimitKind) (k : Core) → is_left (closed which k).core.end ≡ true → is_left k.end ≡ true
unfolding closed
closed_left which k = λ e. absurd cc

answered_by_left : (name : List ℕ) (number : ℕ) (fault : Option RegisterFault) (k : Core)
    → is_left (answered_by name number fault k).core.end ≡ true → is_left k.end ≡ true
answered_by_left name number None k = same_end (answered_by name number None k).core k (settled_finished name k).end
answered_by_left name number (Some why) k = λ e. absurd cc

answered_left : (name : List ℕ) (r : Stripped) (k : Core) → is_left (answered name r k).core.end ≡ true → is_left k.end ≡ true
unfolding answered
answered_left name r k = λ e.
    same_end (answered_core r k) k (after_unit r k).end (answered_by_left name (number_in (first k.segments)) (register_fault r k) (answered_core r k) e)

-- ---- going on

lost_by : (reason : LossWhy) (held : Option Held) (s : Session) → Goes (seen s) (seen (lost_by_held reason held s))
lost_by reason None s = stays (seen s)
lost_by reason (Some held) s = ends (seen s) (lost s.core).end (same_end (lost s.core) s.core (lost_end s.core))

losing : (reason : LossWhy) (s : Session) → Goes (seen s) (seen (after_lost reason s))
unfolding after_lost
losing reason s = lost_by reason s.held s

going_by_end : (end : Option core.End) (s : Session) → Goes (seen s) (seen (going_by end s))
going_by_end None s = stays (seen s)
going_by_end (Some end) s = losing why.Left s

-- after an event of its core
evented : (after : After) (s : Session) → (is_left after.core.end ≡ true → is_left s.core.end ≡ true) → Goes (seen s) (seen (with_after after s))
evented after s h =
    let mid : Session = record s { core = after.core } in
    let gone : Session = going_on mid in
    says_more (seen s) (seen gone) after.said (on (seen s) (seen mid) (seen gone) (ends (seen s) after.core.end h) (going_by_end after.core.end mid))

-- ---- what is told changes nothing of it

worded : (old : Seen) (word : Option ErrorWord) (s : Session) → Goes old (seen s) → Goes old (seen (with_word word s))
worded old None s h = h
worded old (Some word) s h = h

outcomed : (old : Seen) (outcome : Option Outcome) (s : Session) → Goes old (seen s) → Goes old (seen (with_outcome outcome s))
outcomed old None s h = h
outcomed old (Some outcome) s h = h

listed : (old : Seen) (list : Option (List ℕ)) (s : Session) → Goes old (seen s) → Goes old (seen (with_list list s))
listed old None s h = h
listed old (Some list) s h = h

limited : (which : LimitKind) (s : Session) → Goes (seen s) (seen (with_limit which s))
limited which s = worded (seen s) (Some word.Limit) (with_after (closed which s.core) s) (evented (closed which s.core) s (closed_left which s.core))

-- ---- bytes of the application

begun_reading : (reading : Option Reading) (s : Session) → Goes (seen s) (seen (begun_by reading s))
begun_reading None s = stays (seen s)
begun_reading (Some reading) s =
    worded (seen s) (error_of reading) (with_after (begun s.name reading s.core) s)
    (evented (begun s.name reading s.core) s (begun_left s.name reading s.core))

beginning : (s : Session) → Goes (seen s) (seen (begin_next s))
unfolding begin_next
beginning s = begun_reading (next_of s.incoming).reading (record s { incoming = without_next s.incoming })

apping : (piece : List ℕ) (s : Session) → Goes (seen s) (seen (after_app piece s))
unfolding after_app
apping piece s = beginning (record s { incoming = with_piece piece s.incoming })

said_left : (left : List ℕ) (s : Session) → Goes (record (seen s) { to_say = left }) (seen (said_by left s))
said_left [] s =
    elim (awaits_chain s.core.segments s.core.end)
    as (λ b. let r : Session = cond b (begin_next (record s { to_say = [] })) (record s { to_say = [] }) in Goes (record (seen s) { to_say = [] }) (seen r)) [
      | true ↦ beginning (record s { to_say = [] })
      | false ↦ stays (record (seen s) { to_say = [] })
    ]
said_left (byte ∷ bytes) s = stays (record (seen s) { to_say = byte ∷ bytes })

saying : (count : ℕ) (s : Session) → Goes (record (seen s) { to_say = drop count s.to_say }) (seen (after_said count s))
unfolding after_said
saying count s = said_left (drop count s.to_say) s

-- ---- a transport

lending : (l : Lent) (s : Session) → Goes (seen s) (seen (after_lend l s))
unfolding after_lend
lending (lent.Idle number member) s = stays (seen s)
lending (lent.Dial number member) s = stays (seen s)
lending lent.Queue s = stays (seen s)
lending lent.NoneLeft s =
    outcomed (seen s) (none_left_outcome s.core.standing.stage s.core.owed) (with_none_left s)
    (worded (seen s) (Some (none_left_word s.core.standing.stage s.core.owed)) (with_after (none_left s.name s.core) s)
    (evented (none_left s.name s.core) s (none_left_left s.name s.core)))
lending lent.Worn s = limited Numbers s

dialled_on : (held : Option Held) (s : Session) → Goes (seen s) (seen (dialled_by held s))
dialled_on None s = stays (seen s)
dialled_on (Some held) s = stays (seen s)

dialling : (reached : Bool) (s : Session) → Goes (seen s) (seen (after_dialled reached s))
unfolding after_dialled
dialling true s = dialled_on s.held s
dialling false s = losing why.Dial s

sent_end : (b : Bool) (k : Core) → (with_sent b k).end ≡ k.end
sent_end false k = refl
sent_end true k = refl

sent_on : (count : ℕ) (talk : Option Talking) (held : Held) (s : Session) → Goes (seen s) (seen (sent_by_talk count talk held s))
sent_on count None held s = stays (seen s)
sent_on count (Some t) held s =
    let k : Core = with_sent (is_in_segment (sent count t)) s.core in
    ends (seen s) k.end (same_end k s.core (sent_end (is_in_segment (sent count t)) s.core))

sent_held : (count : ℕ) (held : Option Held) (s : Session) → Goes (seen s) (seen (sent_by_held count held s))
sent_held count None s = stays (seen s)
sent_held count (Some held) s = sent_on count held.talk held s

sending : (count : ℕ) (s : Session) → Goes (seen s) (seen (after_sent count s))
unfolding after_sent
sending count s =
    elim (count == 0) as (λ b. let r : Session = cond b (after_lost why.Stuck s) (sent_by_held count s.held s) in Goes (seen s) (seen r)) [
      | true ↦ losing why.Stuck s
      | false ↦ sent_held count s.held s
    ]

-- ---- bytes of the server

accepting : (s : Session) → Goes (seen s) (seen (with_accepted s))
accepting s =
    worded (seen s) (Some (accept_word s.core.owed)) (with_after (accepted s.name s.core) (untried s))
    (evented (accepted s.name s.core) (untried s) (accepted_left s.name s.core))

answering : (r : Stripped) (s : Session) → Goes (seen s) (seen (with_answered r s))
answering r s =
    worded (seen s) (limit_word (answered s.name r s.core).core.end) (with_list r.list (with_after (answered s.name r s.core) (untried s)))
    (listed (seen s) r.list (with_after (answered s.name r s.core) (untried s))
    (evented (answered s.name r s.core) (untried s) (answered_left s.name r s.core)))

whole : (r : Stripped) (s : Session) → Goes (seen s) (seen (with_whole r s))
whole r s =
    elim (passes_limit r s.core)
    as (λ b. let x : Session = cond b (with_limit Reply s) (with_outcome (end_outcome r) (with_answered r s)) in Goes (seen s) (seen x)) [
      | true ↦ limited Reply s
      | false ↦ outcomed (seen s) (end_outcome r) (with_answered r s) (answering r s)
    ]

released : (held : Option Held) (s : Session) → seen (with_release held s) ≡ seen s
released None s = refl
released (Some held) s = refl

getting : (g : Got) (s : Session) → Goes (seen s) (seen (got_by g s))
getting got.More s = stays (seen s)
getting got.Refused s = losing why.Refused s
getting (got.Broken at) s = losing (why.Frame at) s
getting got.TooLong s = limited Reply s
getting got.Ready s = outcomed (seen s) (owed_outcome s.core.owed) (with_accepted s) (accepting s)
getting (got.Whole r) s =
    let x : Session = with_release s.held s in
    subst (λ (old : Seen). Goes old (seen (with_whole r x))) (released s.held s) (whole r x)

got_maybe : (g : Option Got) (s : Session) → Goes (seen s) (seen (back_by g s))
got_maybe None s = stays (seen s)
got_maybe (Some g) s = getting g s

backing : (piece : List ℕ) (s : Session) → Goes (seen s) (seen (after_back piece s))
unfolding after_back
backing [] s = losing why.Ended s
backing (byte ∷ bytes) s = got_maybe (got_on (byte ∷ bytes) s.held) (record s { held = talked_on (byte ∷ bytes) s.held })

giving : (s : Session) → Goes (seen s) (seen (after_given s))
unfolding after_given
giving s = stays (seen s)

-- ---- each input

abbrev pub is_app_end : Input → Bool
is_app_end (AppEnd failed) = true
is_app_end _ = false

pub input_goes : (i : Input) (s : Session) → is_app_end i ≡ false → Goes (record (seen s) { to_say = unsaid i s }) (seen (after_input i s))
input_goes (App piece) s other = apping piece s
input_goes (Lend l) s other = lending l s
input_goes (Dialled reached) s other = dialling reached s
input_goes (Sent count) s other = sending count s
input_goes (Back piece) s other = backing piece s
input_goes Given s other = giving s
input_goes (Said count) s other = saying count s
input_goes (Lose reason) s other = losing reason s
input_goes (AppEnd failed) s other = absurd cc

-- the application's end leaves what is to be said
lost_says : (reason : LossWhy) (held : Option Held) (s : Session) → (lost_by_held reason held s).to_say ≡ s.to_say
lost_says reason None s = refl
lost_says reason (Some held) s = refl

-- and a loss leaves the end
lost_ends : (reason : LossWhy) (held : Option Held) (s : Session) → (lost_by_held reason held s).core.end ≡ s.core.end
lost_ends reason None s = refl
lost_ends reason (Some held) s = lost_end s.core

pub app_end_ends : (failed : Bool) (s : Session) → (after_app_end failed s).core.end ≡ Some (end_or s.core.end (app_end failed))
unfolding after_app_end after_lost left
app_end_ends failed s = ap (λ (e : Option core.End). Some (end_or e (app_end failed))) (lost_ends why.Left s.held s)

pub app_end_gone : (failed : Bool) (s : Session) → (after_app_end failed s).gone ≡ true
unfolding after_app_end
app_end_gone failed s = refl

pub app_end_says : (failed : Bool) (s : Session) → (after_app_end failed s).to_say ≡ s.to_say
unfolding after_app_end after_lost
app_end_says failed s = lost_says why.Left s.held s

-- what an input adds, behind what wasn't said
pub added_behind : (i : Input) (s : Session) → (more : List ℕ) × ((after_input i s).to_say ≡ unsaid i s ++ more)
added_behind (App piece) s = (let h = apping piece s in (h.more, h.says))
added_behind (Lend l) s = (let h = lending l s in (h.more, h.says))
added_behind (Dialled reached) s = (let h = dialling reached s in (h.more, h.says))
added_behind (Sent count) s = (let h = sending count s in (h.more, h.says))
added_behind (Back piece) s = (let h = backing piece s in (h.more, h.says))
added_behind Given s = (let h = giving s in (h.more, h.says))
added_behind (Said count) s = (let h = saying count s in (h.more, h.says))
added_behind (Lose reason) s = (let h = losing reason s in (h.more, h.says))
added_behind (AppEnd failed) s = ([], app_end_says failed s ∙ sym (append-nil s.to_say))
