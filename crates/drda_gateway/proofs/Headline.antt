-- What each application was sent is what a dedicated session sends, for every list of events.
use Rattle.std.proofs.Common.{◌≡◌, ◌++◌, ◌-◌, ℕ, zero, suc, Bool, true, false, List, [], ◌∷◌, Option, Some, None, refl, ap, sym, ◌∙◌, append_assoc}
use Rattle.std.proofs.Common.{length, take, get_or, set, replicate, cond, leb, ltb}
use Rattle.std.specs.Prelude.{is_none, ◌&&◌}
use Rattle.std.proofs.Math.Seq.{take-append_seam}
use Rattle.std.proofs.lemmas.List.{append-nil}
use Rattle.std.proofs.lemmas.Bool.{and_parts, leb-true}
use Rattle.std.specs.List.{AllByRecursion}
use Rattle.dss_frame.specs.declared.dss.Placed.{Placed}
use Rattle.dss_frame.specs.declared.fault.StreamFault.{StreamFault}
use Rattle.dss_frame.specs.Reading.{View}
use Rattle.drda_gateway.specs.Session.{SessionState, fresh, is_reading, is_saying, can_take, taken_more, said_more, appended}
use Rattle.drda_gateway.specs.World.{WorldState, Event, Append, Take, Say, start_world, session_at, changed, after, after_all, answer_entries}
use Rattle.drda_gateway.specs.World.{end_entries, newly_ended}
use Rattle.drda_gateway.specs.declared.world.Entry.{Entry}
use Rattle.drda_gateway.specs.declared.session.End.{End}
use Rattle.drda_gateway.specs.Dedicated.{replies_to, dedicated, IsDedicated, AreDedicated}
use Rattle.drda_gateway.proofs.Following.{Stands, Follows, take_follows, say_follows, append_follows, fresh_follows, is_none-is}
use Rattle.link_ends.proofs.Lists.{all_set, all_get, all_weaker, no_items}

all_replicate : (P : SessionState → Type 0) (count : ℕ) (x : SessionState) → P x → AllByRecursion P (replicate count x)
all_replicate P zero x p = tt
all_replicate P (suc count) x p = (p, all_replicate P count x p)

-- ---- each event keeps it

abbrev AllFollow : WorldState → Type 0
AllFollow w = AllByRecursion Follows w.sessions

follows_at : (w : WorldState) (app : ℕ) → AllFollow w → Follows (session_at w app)
follows_at w app all = all_get Follows w.sessions (app - 1) fresh all fresh_follows

changed_follow : (w : WorldState) (app : ℕ) (s : SessionState) (entries : List Entry) → AllFollow w → Follows s → AllFollow (changed app s entries w)
changed_follow w app s entries all follows = all_set Follows w.sessions (app - 1) s all follows

take_by : (w : WorldState) (app count : ℕ) (entries : List Entry) (taken : Bool) → (ltb 0 count && can_take (session_at w app)) ≡ taken → AllFollow w →
    AllFollow (cond taken (changed app (taken_more count (session_at w app)) entries w) w)
take_by w app count entries false e all = all
take_by w app count entries true e all =
    let s = session_at w app in
    let can = and_parts (ltb 0 count) (can_take s) e in
    let reading = and_parts (is_reading s) (ltb s.taken (length s.bytes)) can.1 in
    let idle = and_parts (leb (length s.saying) 0) (is_none s.ended) reading.0 in
    changed_follow w app (taken_more count s) entries all
    (take_follows s count (follows_at w app all) (no_items s.saying (leb-true (length s.saying) 0 idle.0)) (is_none-is s.ended idle.1))

say_by : (w : WorldState) (app count : ℕ) (entries : List Entry) (said : Bool) → AllFollow w →
    AllFollow (cond said (changed app (said_more count (session_at w app)) entries w) w)
say_by w app count entries false all = all
say_by w app count entries true all =
    changed_follow w app (said_more count (session_at w app)) entries all (say_follows (session_at w app) count (follows_at w app all))

after_follow : (w : WorldState) (event : Event) → AllFollow w → AllFollow (after w event)
after_follow w (Append app bytes) all =
    changed_follow w app (appended bytes (session_at w app)) [] all (append_follows (session_at w app) bytes (follows_at w app all))
after_follow w (Take app count) all =
    let s = session_at w app in
    take_by w app count (end_entries app (newly_ended s (taken_more count s))) (ltb 0 count && can_take s) refl all
after_follow w (Say app count) all =
    let s = session_at w app in
    say_by w app count (answer_entries app (leb (length s.saying) count) ++ end_entries app (newly_ended s (said_more count s)))
    (ltb 0 count && is_saying s) all

after_all_follow : (w : WorldState) (events : List Event) → AllFollow w → AllFollow (after_all w events)
after_all_follow w [] all = all
after_all_follow w (event ∷ events) all = after_all_follow (after w event) events (after_follow w event all)

-- ---- and what is kept says it

began_by : (s : SessionState) (ended : Option End) → Stands ended s → s.sent ≡ take (length s.sent) (dedicated (take s.taken s.bytes))
unfolding dedicated
began_by s (Some end) stands =
    sym (ap (take (length s.sent)) (sym stands) ∙ take-append_seam s.sent s.saying)
began_by s None reads =
    let all = ap (λ (v : View). replies_to v.whole v.fault) reads.read ∙ reads.replied s.reader.whole s.reader.fault
    ∙ append_assoc s.sent s.saying (replies_to s.reader.whole s.reader.fault) in
    sym (ap (take (length s.sent)) all ∙ take-append_seam s.sent (s.saying ++ replies_to s.reader.whole s.reader.fault))

all_sent_by : (s : SessionState) (ended : Option End) → Stands ended s → s.saying ≡ [] → s.sent ≡ dedicated (take s.taken s.bytes)
unfolding dedicated
all_sent_by s (Some end) stands silent = sym (ap (λ (xs : List ℕ). s.sent ++ xs) silent ∙ append-nil s.sent) ∙ stands
all_sent_by s None reads silent =
    let idle = reads.idle silent in
    let all = ap (λ (v : View). replies_to v.whole v.fault) reads.read ∙ reads.replied s.reader.whole s.reader.fault in
    sym (all ∙ ap (λ (xs : List Placed). (s.sent ++ s.saying) ++ replies_to xs s.reader.fault) idle.0
    ∙ ap (λ (f : Option StreamFault). (s.sent ++ s.saying) ++ replies_to [] f) idle.1
    ∙ append-nil (s.sent ++ s.saying) ∙ ap (λ (xs : List ℕ). s.sent ++ xs) silent ∙ append-nil s.sent)

follows_is_dedicated : (s : SessionState) → Follows s → IsDedicated s
follows_is_dedicated s follows = record {
  began = began_by s s.ended follows.stands;
  all_sent = all_sent_by s s.ended follows.stands;
}

-- for every list of events each session is as a dedicated one
pub all_dedicated : (events : List Event) → AreDedicated (after_all start_world events)
all_dedicated events =
    all_weaker Follows IsDedicated (after_all start_world events).sessions follows_is_dedicated
    (after_all_follow start_world events (all_replicate Follows 64 fresh fresh_follows))
