use Rattle.std.proofs.Common.{◌≡◌, ◌++◌, ◌+◌, ◌-◌, ◌<◌, ℕ, suc, Bool, true, false, List, [], ◌∷◌, Option, Some, None, refl, ap, sym, ◌∙◌, arith}
use Rattle.std.proofs.Common.{length, get_or, drop, ◌≤◌}
use Rattle.std.specs.Prelude.{MatchOption}
use Rattle.drda_gateway.specs.World.{WorldState, Event, after, after_all, and_then_more, first_event, settle_events, Steps, line_events, events_of}
use Rattle.drda_gateway.specs.declared.script.Line.{Line}
use Rattle.std.proofs.lemmas.List.{at_drop_more, at_drop_all}

-- the events of two lists are run one list after the other
pub after_all-append : (w : WorldState) (es fs : List Event) → after_all w (es ++ fs) ≡ after_all (after_all w es) fs
after_all-append w [] fs = refl
after_all-append w (e ∷ es) fs = after_all-append (after w e) es fs

settle_by : (w next : WorldState) (went : Bool) (budget : ℕ) (first : Option Event) →
    MatchOption first ((went ≡ false) × (next ≡ w)) (λ event. (went ≡ true) × (next ≡ after w event)) → went ≡ true →
    after_all w (and_then_more first (λ event. settle_events budget (after w event))) ≡ after_all next (settle_events budget next)
settle_by w next went budget None step e = absurd (cc)
settle_by w next went budget (Some event) step e = ap (λ (v : WorldState). after_all v (settle_events budget v)) (sym step.1)

-- after one event one less of the budget is left
pub settle_more : (w next : WorldState) (went : Bool) (budget counter : ℕ) → counter < budget → Steps w next went → went ≡ true →
    after_all w (settle_events (budget - counter) w) ≡ after_all next (settle_events (budget - (counter + 1)) next)
settle_more w next went budget counter below step e =
    let one : budget - counter ≡ suc (budget - (counter + 1)) = omega arith in
    rw one (settle_by w next went (budget - (counter + 1)) (first_event w) step e)

-- the events of the lines from a place on are those of the line there, and then those of the lines after it
pub events_more : (w : WorldState) (lines : List Line) (place : ℕ) (line : Line) → place < length lines → line ≡ get_or lines place line →
    after_all w (events_of w (drop place lines)) ≡ after_all (after_all w (line_events w line))
    (events_of (after_all w (line_events w line)) (drop (place + 1) lines))
events_more w lines place line below e =
    at_drop_more (λ (ls : List Line). after_all w (events_of w ls)) lines place line below
    ∙ ap (λ (l : Line). after_all w (events_of w (l ∷ drop (place + 1) lines))) (sym e)
    ∙ after_all-append w (line_events w line) (events_of (after_all w (line_events w line)) (drop (place + 1) lines))

-- behind the last line there are no events
pub events_end : (w : WorldState) (lines : List Line) (place : ℕ) → length lines ≤ place → after_all w (events_of w (drop place lines)) ≡ w
events_end w lines place past = at_drop_all (λ (ls : List Line). after_all w (events_of w ls)) lines place past
