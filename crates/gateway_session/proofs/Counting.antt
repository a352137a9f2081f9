-- The number of the unit in work: a session doesn't count it, and nothing else of a step depends on it.
use Rattle.std.proofs.Common.{◌≡◌, ℕ, Bool, true, false, ◌||◌, if◌then◌else◌, List, [], ◌∷◌, ◌++◌, Option, Some, None, refl, sym, ap, ◌∙◌}
use Rattle.dss_frame.specs.declared.dss.Dss.{Dss}
use Rattle.access_handshake.specs.declared.stage.Stage.{Stage}
use Rattle.access_handshake.specs.declared.stage.Stage.TheVariants.{New, Attached, Chosen, Checked, Accessed}
use Rattle.unit_segments.specs.declared.command.Command.{Command}
use Rattle.unit_segments.specs.declared.registers.RegisterFault.{RegisterFault}
use Rattle.unit_segments.specs.declared.stripped.Stripped.{Stripped}
use Rattle.unit_segments.specs.Segment.{segments_of}
use Rattle.unit_segments.specs.Spelling.{join}
use Rattle.plain_model.specs.Core.{Core, After, Owed, Nothing, Rerouted, Unknown, LimitKind, first, number_in, settled, finish_by, finished}
use Rattle.plain_model.specs.Core as core
use Rattle.plain_model.specs.Begun.{Reading, Chain, Fault, TooLong, begun}
use Rattle.plain_model.specs.Standing.{Standing}
use Rattle.plain_model.specs.Answered.{answered, answered_by, answered_core, with_replies, with_end, is_work, joins_again, register_fault}
use Rattle.plain_model.specs.Answered.{standing_after, unit_after}
use Rattle.plain_model.specs.Lost.{accepted, none_left, none_left_replies, closed, left, lost, lost_owing, commit_sent, owes}
use Rattle.requester_core.specs.Talk.{Talking}
use Rattle.session_core.specs.Seen.{unnumbered}
use Rattle.session_core.proofs.Cores.{finished_said, finished_core}
use Rattle.gateway_session.specs.declared.loss.LossWhy.{LossWhy}
use Rattle.gateway_session.specs.declared.loss.ErrorWord.{ErrorWord}
use Rattle.gateway_session.specs.declared.loss.ErrorWord.TheVariants as word
use Rattle.unit_ledger.specs.declared.outcome.Outcome.{Outcome}
use Rattle.gateway_session.specs.declared.held.Held.{Held}
use Rattle.gateway_session.specs.Session.{Session, uncounted}
use Rattle.gateway_session.specs.Steps.{going_on, going_by, set_out, set_out_on, set_out_by, after_lost, lost_by_held, lost_transport}
use Rattle.gateway_session.specs.Steps.{says, with_after, with_word, error_of, begun_with, none_left_word, with_none_left, with_limit}
use Rattle.gateway_session.specs.Told.{with_outcome}
use Rattle.gateway_session.specs.Steps.{untried, accept_word, with_accepted, with_list, limit_word, with_answered}

-- two events say the same, and leave the same but for the number
record Alike (found after : After) : Type 0 where
  pub said : found.said ≡ after.said
  pub core : unnumbered found.core ≡ unnumbered after.core

-- a session whose number isn't counted already
pub same : (s : Session) → s.core.unit ≡ 0 → uncounted s ≡ s
same s none = ap (λ (n : ℕ). record s { core = record s.core { unit = n } }) (sym none)

-- ---- events that don't depend on it

-- whether the session was led to the base doesn't matter
still_said : (segments : List (List Command)) (moved : Bool) (k : Core) → (finish_by segments moved k).said ≡ (finish_by segments false k).said
still_said [] moved k = refl
still_said (g ∷ segments) moved k = refl

still_core : (segments : List (List Command)) (moved : Bool) (k : Core) → (finish_by segments moved k).core ≡ (finish_by segments false k).core
still_core [] moved k = refl
still_core (g ∷ segments) moved k = refl

-- the local segments in front are answered, and then all of the chain may be
settled_alike : (name : List ℕ) (k : Core) → Alike (finished (settled name (unnumbered k))) (finished (settled name k))
settled_alike name k =
    let s = settled name (unnumbered k) in
    record {
      said = still_said s.core.segments s.moved s.core ∙ finished_said name k;
      core = ap unnumbered (still_core s.core.segments s.moved s.core ∙ finished_core name k);
    }

begun_alike : (name : List ℕ) (reading : Reading) (k : Core) → Alike (begun name reading (unnumbered k)) (begun name reading k)
unfolding begun
begun_alike name (Chain commands) k = settled_alike name (record k { segments = segments_of commands })
begun_alike name (Fault place error number) k = record { said = refl; core = refl }
begun_alike name (TooLong number) k = record { said = refl; core = refl }

accepted_alike : (name : List ℕ) (k : Core) → Alike (accepted name (unnumbered k)) (accepted name k)
unfolding accepted
accepted_alike name k = record { said = refl; core = refl }

replies_uncounted : (name : List ℕ) (stage : Stage) (k : Core) → none_left_replies name stage (unnumbered k) ≡ none_left_replies name stage k
replies_uncounted name New k = refl
replies_uncounted name Attached k = refl
replies_uncounted name Chosen k = refl
replies_uncounted name Checked k = refl
replies_uncounted name Accessed k = refl

none_left_alike : (name : List ℕ) (k : Core) → Alike (none_left name (unnumbered k)) (none_left name k)
unfolding none_left
none_left_alike name k = record {
  said = ap (λ (replies : List Dss). join (k.kept ++ replies)) (replies_uncounted name k.standing.stage k);
  core = refl;
}

closed_alike : (which : LimitKind) (k : Core) → Alike (closed which (unnumbered k)) (closed which k)
unfolding closed
closed_alike which k = record { said = refl; core = refl }

pub left_uncounted : (failed : Bool) (k : Core) → left failed (unnumbered k) ≡ unnumbered (left failed k)
unfolding left
left_uncounted failed k = refl

-- ---- an answer counts it

answered_core_uncounted : (r : Stripped) (k : Core) → unnumbered (answered_core r (unnumbered k)) ≡ unnumbered (answered_core r k)
answered_core_uncounted r k = go r.ended (is_work (first k.segments)) (joins_again r.replies k)
  where
    go : (ended work joins : Bool)
        → unnumbered (with_replies r (if ended then with_end r (unnumbered k)
        else (if work then (if joins then record (unnumbered k) { again = k.again ++ first k.segments } else record (unnumbered k) { spoken = true })
        else unnumbered k)))
        ≡ unnumbered (with_replies r (if ended then with_end r k
        else (if work then (if joins then record k { again = k.again ++ first k.segments } else record k { spoken = true }) else k)))
    go true work joins = refl
    go false true true = refl
    go false true false = refl
    go false false joins = refl

answered_by_alike : (name : List ℕ) (number : ℕ) (fault : Option RegisterFault) (k : Core)
    → Alike (answered_by name number fault (unnumbered k)) (answered_by name number fault k)
answered_by_alike name number None k = settled_alike name k
answered_by_alike name number (Some why) k = record { said = refl; core = refl }

answered_alike : (name : List ℕ) (r : Stripped) (k : Core) → Alike (answered name r (unnumbered k)) (answered name r k)
unfolding answered
answered_alike name r k =
    let number = number_in (first k.segments) in
    let fault = register_fault r k in
    let first_alike = answered_by_alike name number fault (answered_core r (unnumbered k)) in
    let then_alike = answered_by_alike name number fault (answered_core r k) in
    record {
      said = sym first_alike.said ∙ ap (λ (j : Core). (answered_by name number fault j).said) (answered_core_uncounted r k) ∙ then_alike.said;
      core = sym first_alike.core ∙ ap (λ (j : Core). unnumbered (answered_by name number fault j).core) (answered_core_uncounted r k) ∙ then_alike.core;
    }

-- ---- what else doesn't depend on it

pub set_out_uncounted : (k : Core) (t : Talking) → set_out (unnumbered k) t ≡ set_out k t
unfolding set_out
set_out_uncounted k t = refl

set_out_by_uncounted : (released : Bool) (talk : Option Talking) (k : Core) → set_out_by released talk (unnumbered k) ≡ set_out_by released talk k
set_out_by_uncounted true talk k = refl
set_out_by_uncounted false None k = refl
set_out_by_uncounted false (Some t) k = ap (λ (x : Talking). Some x) (set_out_uncounted k t)

pub out_uncounted : (segments : List (List Command)) (held : Option Held) (k : Core)
    → set_out_on segments held (unnumbered k) ≡ set_out_on segments held k
out_uncounted [] held k = refl
out_uncounted (g ∷ segments) None k = refl
out_uncounted (g ∷ segments) (Some held) k =
    ap (λ (talk : Option Talking). Some (record held { talk = talk })) (set_out_by_uncounted held.released held.talk k)

lost_owing_uncounted : (owed : Owed) (k : Core) → unnumbered (lost_owing owed (unnumbered k)) ≡ unnumbered (lost_owing owed k)
lost_owing_uncounted Rerouted k = refl
lost_owing_uncounted Unknown k = refl
lost_owing_uncounted Nothing k = go (commit_sent k) (k.spoken || k.pinned)
  where
    go : (sent begun : Bool)
        → unnumbered (if sent then owes Unknown (unnumbered k) else (if begun then owes Rerouted (unnumbered k) else record (unnumbered k) { sent = false }))
        ≡ unnumbered (if sent then owes Unknown k else (if begun then owes Rerouted k else record k { sent = false }))
    go true begun = refl
    go false true = refl
    go false false = refl

pub lost_uncounted : (k : Core) → unnumbered (lost (unnumbered k)) ≡ unnumbered (lost k)
unfolding lost
lost_uncounted k = lost_owing_uncounted k.owed k

lost_held_uncounted : (reason : LossWhy) (held : Option Held) (s : Session)
    → uncounted (lost_by_held reason held (uncounted s)) ≡ uncounted (lost_by_held reason held s)
lost_held_uncounted reason None s = refl
lost_held_uncounted reason (Some held) s =
    ap (λ (k : Core). record (lost_transport reason held s) { core = k }) (lost_uncounted s.core)

pub after_lost_uncounted : (reason : LossWhy) (s : Session) → uncounted (after_lost reason (uncounted s)) ≡ uncounted (after_lost reason s)
unfolding after_lost
after_lost_uncounted reason s = lost_held_uncounted reason s.held s

going_by_uncounted : (end : Option core.End) (s : Session) → uncounted (going_by end (uncounted s)) ≡ uncounted (going_by end s)
going_by_uncounted None s =
    ap (λ (held : Option Held). record (uncounted s) { held = held }) (out_uncounted s.core.segments s.held s.core)
going_by_uncounted (Some end) s = after_lost_uncounted _ s

pub going_on_uncounted : (s : Session) → uncounted (going_on (uncounted s)) ≡ uncounted (going_on s)
going_on_uncounted s = going_by_uncounted s.core.end s

-- ---- what is told of an event

pub word_uncounted : (error : Option ErrorWord) (s : Session) → uncounted (with_word error s) ≡ with_word error (uncounted s)
word_uncounted None s = refl
word_uncounted (Some made) s = refl

pub list_uncounted : (list : Option (List ℕ)) (s : Session) → uncounted (with_list list s) ≡ with_list list (uncounted s)
list_uncounted None s = refl
list_uncounted (Some bytes) s = refl

pub outcome_uncounted : (outcome : Option Outcome) (s : Session) → uncounted (with_outcome outcome s) ≡ with_outcome outcome (uncounted s)
outcome_uncounted None s = refl
outcome_uncounted (Some made) s = refl

told : (found after : After) (s : Session) → Alike found after
    → uncounted (with_after found s) ≡ says after.said (uncounted (going_on (record s { core = unnumbered after.core })))
told found after s alike =
    ap (says found.said) (sym (going_on_uncounted (record s { core = found.core })))
    ∙ ap (λ (k : Core). says found.said (uncounted (going_on (record s { core = k })))) alike.core
    ∙ ap (λ (bytes : List ℕ). says bytes (uncounted (going_on (record s { core = unnumbered after.core })))) alike.said

-- a session whose core is this one without its number
abbrev with_core : Core → Session → Session
with_core k s = record s { core = unnumbered k }

begun_told : (reading : Reading) (k : Core) (s : Session) → uncounted (begun_with reading (with_core k s))
    ≡ with_word (error_of reading) (says (begun s.name reading k).said (uncounted (going_on (with_core (begun s.name reading k).core s))))
begun_told reading k s =
    let before = with_core k s in
    word_uncounted (error_of reading) (with_after (begun s.name reading (unnumbered k)) before)
    ∙ ap (with_word (error_of reading))
    (told (begun s.name reading (unnumbered k)) (begun s.name reading k) before (begun_alike s.name reading k))

none_left_told : (k : Core) (s : Session) → uncounted (with_none_left (with_core k s))
    ≡ with_word (Some (none_left_word k.standing.stage k.owed))
    (says (none_left s.name k).said (uncounted (going_on (with_core (none_left s.name k).core s))))
none_left_told k s =
    ap (with_word (Some (none_left_word k.standing.stage k.owed)))
    (told (none_left s.name (unnumbered k)) (none_left s.name k) (with_core k s) (none_left_alike s.name k))

limit_told : (which : LimitKind) (k : Core) (s : Session) → uncounted (with_limit which (with_core k s))
    ≡ with_word (Some word.Limit) (says (closed which k).said (uncounted (going_on (with_core (closed which k).core s))))
limit_told which k s =
    ap (with_word (Some word.Limit)) (told (closed which (unnumbered k)) (closed which k) (with_core k s) (closed_alike which k))

-- ---- a step that tells an event, by what its core and its bytes are

pub begun_ends : (reading : Reading) (k after : Core) (said : List ℕ) (s before : Session) → s ≡ before → s.core ≡ unnumbered k
    → said ≡ (begun s.name reading k).said → after ≡ (begun s.name reading k).core
    → with_word (error_of reading) (says said (uncounted (going_on (with_core after s)))) ≡ uncounted (begun_with reading before)
begun_ends reading k after said s before is core_is said_is after_is =
    sym (
    ap (λ (b : Session). uncounted (begun_with reading b)) (sym is ∙ ap (λ (c : Core). record s { core = c }) core_is)
    ∙ begun_told reading k s
    ∙ ap (λ (bytes : List ℕ). with_word (error_of reading) (says bytes (uncounted (going_on (with_core (begun s.name reading k).core s))))) (sym said_is)
    ∙ ap (λ (j : Core). with_word (error_of reading) (says said (uncounted (going_on (with_core j s))))) (sym after_is)
    )

pub none_left_ends : (k after : Core) (said : List ℕ) (s before : Session) → s ≡ before → s.core ≡ unnumbered k
    → said ≡ (none_left s.name k).said → after ≡ (none_left s.name k).core
    → with_word (Some (none_left_word k.standing.stage k.owed)) (says said (uncounted (going_on (with_core after s)))) ≡ uncounted (with_none_left before)
none_left_ends k after said s before is core_is said_is after_is =
    sym (
    ap (λ (b : Session). uncounted (with_none_left b)) (sym is ∙ ap (λ (c : Core). record s { core = c }) core_is)
    ∙ none_left_told k s
    ∙ ap (λ (bytes : List ℕ). with_word (Some (none_left_word k.standing.stage k.owed))
    (says bytes (uncounted (going_on (with_core (none_left s.name k).core s))))) (sym said_is)
    ∙ ap (λ (j : Core). with_word (Some (none_left_word k.standing.stage k.owed)) (says said (uncounted (going_on (with_core j s))))) (sym after_is)
    )

pub limit_ends : (which : LimitKind) (k after : Core) (said : List ℕ) (s before : Session) → s ≡ before → s.core ≡ unnumbered k
    → said ≡ (closed which k).said → after ≡ (closed which k).core
    → with_word (Some word.Limit) (says said (uncounted (going_on (with_core after s)))) ≡ uncounted (with_limit which before)
limit_ends which k after said s before is core_is said_is after_is =
    sym (
    ap (λ (b : Session). uncounted (with_limit which b)) (sym is ∙ ap (λ (c : Core). record s { core = c }) core_is)
    ∙ limit_told which k s
    ∙ ap (λ (bytes : List ℕ). with_word (Some word.Limit) (says bytes (uncounted (going_on (with_core (closed which k).core s))))) (sym said_is)
    ∙ ap (λ (j : Core). with_word (Some word.Limit) (says said (uncounted (going_on (with_core j s))))) (sym after_is)
    )

pub accepted_ends : (k after : Core) (said : List ℕ) (made : ErrorWord) (s before : Session) → s ≡ untried before → s.core ≡ unnumbered k
    → made ≡ accept_word before.core.owed → said ≡ (accepted s.name k).said → after ≡ (accepted s.name k).core
    → with_word (Some made) (says said (uncounted (going_on (with_core after s)))) ≡ uncounted (with_accepted before)
accepted_ends k after said made s before is core_is made_is said_is after_is =
    sym (
    ap (λ (w : ErrorWord). uncounted (with_word (Some w) (with_after (accepted before.name before.core) (untried before)))) (sym made_is)
    ∙ ap (λ (u : Session). uncounted (with_word (Some made) (with_after (accepted u.name u.core) u)))
    (sym is ∙ ap (λ (c : Core). record s { core = c }) core_is)
    ∙ ap (with_word (Some made)) (told (accepted s.name (unnumbered k)) (accepted s.name k) (with_core k s) (accepted_alike s.name k))
    ∙ ap (λ (bytes : List ℕ). with_word (Some made) (says bytes (uncounted (going_on (with_core (accepted s.name k).core s))))) (sym said_is)
    ∙ ap (λ (j : Core). with_word (Some made) (says said (uncounted (going_on (with_core j s))))) (sym after_is)
    )

-- a list of members isn't looked at
standing_unlisted : (st : Standing) (commands : List Command) (list : Option (List ℕ)) (r : Stripped)
    → standing_after st commands (record r { list = list }) ≡ standing_after st commands r
standing_unlisted st [] list r = refl
standing_unlisted st (command ∷ commands) list r = refl

replies_unlisted : (list : Option (List ℕ)) (r : Stripped) (k : Core) → with_replies (record r { list = list }) k ≡ with_replies r k
replies_unlisted list r k =
    ap (λ (st : Standing). record (with_replies r k) { standing = st }) (standing_unlisted k.standing (first k.segments) list r)

answered_unlisted : (name : List ℕ) (list : Option (List ℕ)) (r : Stripped) (k : Core) → answered name (record r { list = list }) k ≡ answered name r k
unfolding answered
answered_unlisted name list r k =
    ap (λ (j : Core). answered_by name (number_in (first k.segments)) (register_fault r k) j) (replies_unlisted list r (unit_after r k))

pub answered_ends : (r : Stripped) (k after : Core) (said : List ℕ) (s before : Session) → s ≡ untried before → s.core ≡ unnumbered k
    → said ≡ (answered s.name (record r { list = None }) k).said → after ≡ unnumbered (answered s.name (record r { list = None }) k).core
    → with_word (limit_word after.end) (with_list r.list (says said (uncounted (going_on (with_core after s))))) ≡ uncounted (with_answered r before)
answered_ends r k after said s before is core_is said_is after_is =
    let found = answered s.name r (unnumbered k) in
    let there : After = answered s.name r k in
    let alike = answered_alike s.name r k in
    let unlisted : answered s.name (record r { list = None }) k ≡ there = answered_unlisted s.name None r k in
    sym (
    ap (λ (u : Session). uncounted (with_word (limit_word (answered u.name r u.core).core.end) (with_list r.list (with_after (answered u.name r u.core) u))))
    (sym is ∙ ap (λ (c : Core). record s { core = c }) core_is)
    ∙ word_uncounted (limit_word found.core.end) (with_list r.list (with_after found (with_core k s)))
    ∙ ap (with_word (limit_word found.core.end))
    (list_uncounted r.list (with_after found (with_core k s)) ∙ ap (with_list r.list) (told found there (with_core k s) alike))
    ∙ ap (λ (j : Core). with_word (limit_word j.end) (with_list r.list (says there.said (uncounted (going_on (with_core there.core s)))))) alike.core
    ∙ ap (λ (bytes : List ℕ). with_word (limit_word there.core.end) (with_list r.list (says bytes (uncounted (going_on (with_core there.core s))))))
    (sym (said_is ∙ ap (λ (x : After). x.said) unlisted))
    ∙ ap (λ (j : Core). with_word (limit_word j.end) (with_list r.list (says said (uncounted (going_on (with_core j s))))))
    (sym (after_is ∙ ap (λ (x : After). unnumbered x.core) unlisted))
    )
