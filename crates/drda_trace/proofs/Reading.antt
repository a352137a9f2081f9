-- Reading the DSSs of a side one after another.
use Rattle.std.proofs.Common.{◌≡◌, ℕ, Bool, true, false, cond, List, [], ◌∷◌, ◌++◌, drop, Option}
use Rattle.std.proofs.Common.{Some, None, Result, Ok, Err, refl, ap, sym, ◌∙◌, subst, append_assoc}
use Rattle.std.proofs.Common.{append-nil}
use Rattle.std.specs.Prelude.{slice_get, is_ok}
use Rattle.std.specs.List.{take_while}
use Rattle.std.proofs.lemmas.List.Sums.{take_while-cons}
use Rattle.dss_frame.specs.declared.dss.Placed.{Placed}
use Rattle.dss_frame.specs.Reading.{View}
use Rattle.ddm_objects.specs.declared.fault.ObjFault.{ObjFault}
use Rattle.ddm_objects.specs.Objects.{Member, outer_of}
use Rattle.unit_segments.specs.declared.command.Command.{Command}
use Rattle.unit_segments.specs.declared.fault.ChainFault.{ChainFault}
use Rattle.unit_segments.specs.declared.fault.ChainFault.TheVariants.{Syntax, TooMany, NoMemory}
use Rattle.unit_segments.specs.Chain.{OpenChain, Chains, chain_step, chain_after, chains_by, chains_from, chains_of}
use Rattle.unit_segments.specs.ChainReader.{IsAnswer}
use Rattle.drda_trace.specs.declared.ending.Ending.{Ending}
use Rattle.drda_trace.specs.declared.requests.RequestStream.{RequestStream}
use Rattle.drda_trace.specs.declared.replies.ReplyStream.{ReplyStream}
use Rattle.drda_trace.specs.Ending.{stream_ending, rest_from, begun_with, begun_after, taken_all, ending_of}
use Rattle.drda_trace.specs.Requests.{chain_ending, requests_in}
use Rattle.drda_trace.specs.Replies.{has_object, chains_after, object_ending, bodies_ending, replies_in}

-- the DSS that is taken next is the first
pub first_taken : (whole : List Placed) (placed : Placed) → Some placed ≡ slice_get whole 0 → whole ≡ placed ∷ drop 1 whole
first_taken [] placed e = absurd (cc)
first_taken (p ∷ whole) placed e =
    let same : p ≡ placed = cc in
    ap (λ (x : Placed). x ∷ whole) same

pub none_taken : (whole : List Placed) → None ≡ slice_get whole 0 → whole ≡ []
none_taken [] e = refl
none_taken (p ∷ whole) e = absurd (cc)

-- where a chain has begun, after one more
pub begun_on : (begun now : Option ℕ) (whole rest : List Placed) (placed : Placed) → whole ≡ placed ∷ rest → now ≡ begun_with begun placed →
    begun_after now rest ≡ begun_after begun whole
begun_on begun now whole rest placed e is = ap (λ (b : Option ℕ). begun_after b rest) is ∙ sym (ap (begun_after begun) e)

-- ---- chains of commands

-- the same with other chains, read before, in front
abbrev pub behind : List (List Command) → Chains → Chains
behind front read = record read { chains = front ++ read.chains }

step_by : (chain next : OpenChain) (front : List (List Command)) (whole rest : List Placed) (placed : Placed) (r : Result (Option (List Command)) ChainFault) →
    whole ≡ placed ∷ rest → chain_step chain placed ≡ r →
    behind front (chains_from chain whole) ≡ behind front (chains_by chain r (chains_from (chain_after chain placed) rest))
unfolding chains_from
step_by chain next front whole rest placed r e step =
    ap (λ (w : List Placed). behind front (chains_from chain w)) e
    ∙ ap (λ r. behind front (chains_by chain r (chains_from (chain_after chain placed) rest))) step

-- a DSS that ends no chain
pub goes_on : (front : List (List Command)) (chain next : OpenChain) (whole rest : List Placed) (placed : Placed) → whole ≡ placed ∷ rest →
    chain_step chain placed ≡ Ok None → next ≡ chain_after chain placed → behind front (chains_from next rest) ≡ behind front (chains_from chain whole)
goes_on front chain next whole rest placed e step after =
    ap (λ (n : OpenChain). behind front (chains_from n rest)) after ∙ sym (step_by chain next front whole rest placed (Ok None) e step)

-- one that ends a chain
pub ends_one : (front now : List (List Command)) (commands : List Command) (chain next : OpenChain) (whole rest : List Placed) (placed : Placed) →
    whole ≡ placed ∷ rest → chain_step chain placed ≡ Ok (Some commands) → next ≡ chain_after chain placed → now ≡ front ++ commands ∷ [] →
    behind now (chains_from next rest) ≡ behind front (chains_from chain whole)
ends_one front now commands chain next whole rest placed e step after is =
    let read : Chains = chains_from (chain_after chain placed) rest in
    ap (λ (n : OpenChain). behind now (chains_from n rest)) after
    ∙ ap (λ (f : List (List Command)). behind f read) is
    ∙ ap (λ (cs : List (List Command)). record read { chains = cs }) (append_assoc front (commands ∷ []) read.chains)
    ∙ sym (step_by chain next front whole rest placed (Ok (Some commands)) e step)

-- what a DSS comes to that has no fault
abbrev pub comes_to : Option (List Command) → Result (Option (List Command)) ChainFault
comes_to ended = Ok ended

-- a fault that is told is the one that is stated
pub answer_is : (fault : ChainFault) (stated : Result (Option (List Command)) ChainFault) → IsAnswer (Err fault) stated → (fault ≡ NoMemory → ⊥) →
    stated ≡ Err fault
answer_is (Syntax at err corr) stated is known = is
answer_is (TooMany at corr) stated is known = is
answer_is NoMemory stated is known = absurd (known refl)

requests_are : (a b : List (List Command)) (x y : Ending) → a ≡ b → x ≡ y
    → ◌≡◌ {A = RequestStream} (record { chains = a; ending = x }) (record { chains = b; ending = y })
requests_are a b x y e f =
    ap (λ (c : List (List Command)). record { chains = c; ending = x }) e ∙ ap (λ (z : Ending). record { chains = b; ending = z }) f

-- one with a fault ends the reading
pub stops_there : (v : View) (len : ℕ) (front : List (List Command)) (chain : OpenChain) (whole rest : List Placed) (placed : Placed) (fault : ChainFault)
    (ending : Ending) → whole ≡ placed ∷ rest → chain_step chain placed ≡ Err fault → behind front (chains_from chain whole) ≡ chains_of v.whole →
    ((others : Ending) → ending ≡ chain_ending (Some fault) others) → record { chains = front; ending = ending } ≡ requests_in len v
stops_there v len front chain whole rest placed fault ending e step same told =
    let all : chains_of v.whole ≡ behind front (record { chains = []; begun = chain; fault = Some fault }) =
    sym same ∙ step_by chain chain front whole rest placed (Err fault) e step in
    requests_are front (chains_of v.whole).chains ending (chain_ending (chains_of v.whole).fault (ending_of len v))
    (sym (ap (λ (c : Chains). c.chains) all ∙ append-nil front))
    (told (ending_of len v) ∙ sym (ap (λ (c : Chains). chain_ending c.fault (ending_of len v)) all))

at_end : (front : List (List Command)) (chain : OpenChain) (whole : List Placed) → whole ≡ [] →
    behind front (chains_from chain whole) ≡ behind front (record { chains = []; begun = chain; fault = None })
unfolding chains_from
at_end front chain whole e = ap (λ (w : List Placed). behind front (chains_from chain w)) e

-- how bytes end of which all whole DSSs were taken
ends_as : (v now old : View) (len : ℕ) (begun : Option ℕ) (ending : Ending) → now ≡ record old { whole = drop 1 old.whole } → old.whole ≡ [] →
    taken_all old ≡ taken_all v → begun_after begun old.whole ≡ begun_after None v.whole → ending ≡ stream_ending now.fault (rest_from len now begun) →
    ending ≡ ending_of len v
ends_as v now old len begun ending rest none same places told =
    let now_is : now ≡ taken_all v = rest ∙ ap (λ (w : List Placed). record old { whole = drop 1 w }) none ∙ same in
    let begun_is : begun ≡ begun_after None v.whole = sym (ap (begun_after begun) none) ∙ places in
    told ∙ ap (λ (n : View). stream_ending n.fault (rest_from len n begun)) now_is
    ∙ ap (λ (b : Option ℕ). stream_ending v.fault (rest_from len (taken_all v) b)) begun_is

-- at the end
pub requests_end : (v now old : View) (len : ℕ) (front : List (List Command)) (chain : OpenChain) (begun : Option ℕ) (ending : Ending) →
    None ≡ slice_get old.whole 0 → now ≡ record old { whole = drop 1 old.whole } → taken_all old ≡ taken_all v →
    begun_after begun old.whole ≡ begun_after None v.whole → behind front (chains_from chain old.whole) ≡ chains_of v.whole →
    ending ≡ stream_ending now.fault (rest_from len now begun) → record { chains = front; ending = ending } ≡ requests_in len v
requests_end v now old len front chain begun ending last rest same places chains told =
    let none = none_taken old.whole last in
    let all : chains_of v.whole ≡ behind front (record { chains = []; begun = chain; fault = None }) = sym chains ∙ at_end front chain old.whole none in
    requests_are front (chains_of v.whole).chains ending (chain_ending (chains_of v.whole).fault (ending_of len v))
    (sym (ap (λ (c : Chains). c.chains) all ∙ append-nil front))
    (ends_as v now old len begun ending rest none same places told ∙ sym (ap (λ (c : Chains). chain_ending c.fault (ending_of len v)) all))

-- ---- chains of replies

replies_are : (a b : List (List Placed)) (x y : Ending) → a ≡ b → x ≡ y
    → ◌≡◌ {A = ReplyStream} (record { chains = a; ending = x }) (record { chains = b; ending = y })
replies_are a b x y e f =
    ap (λ (c : List (List Placed)). record { chains = c; ending = x }) e ∙ ap (λ (z : Ending). record { chains = b; ending = z }) f

none_while : (whole rest : List Placed) (placed : Placed) → whole ≡ placed ∷ rest → has_object placed ≡ false → take_while has_object whole ≡ []
none_while whole rest placed e bad =
    ap (take_while has_object) e ∙ take_while-cons has_object placed rest
    ∙ ap (λ b. cond b (placed ∷ take_while has_object rest) []) bad

-- a body that is no object ends the reading
pub stops_at_body : (v : View) (len : ℕ) (front : List (List Placed)) (begun whole rest : List Placed) (placed : Placed) (fault : ObjFault) (ending : Ending) →
    whole ≡ placed ∷ rest → outer_of placed.dss.body ≡ Err fault →
    front ++ chains_after begun (take_while has_object whole) ≡ chains_after [] (take_while has_object v.whole) →
    ((others : Ending) → bodies_ending whole others ≡ bodies_ending v.whole others) →
    ((others : Ending) → ending ≡ object_ending placed (Err fault) others) → record { chains = front; ending = ending } ≡ replies_in len v
stops_at_body v len front begun whole rest placed fault ending e bad chains bodies told =
    let others : Ending = ending_of len v in
    replies_are front (chains_after [] (take_while has_object v.whole)) ending (bodies_ending v.whole others)
    (sym (append-nil front)
    ∙ sym (ap (λ (w : List Placed). front ++ chains_after begun w) (none_while whole rest placed e (ap (λ
    (r : Result Member ObjFault). is_ok r) bad))) ∙ chains)
    (told (bodies_ending rest others)
    ∙ sym (ap (λ (w : List Placed). bodies_ending w others) e
    ∙ ap (λ (r : Result Member ObjFault). object_ending placed r (bodies_ending rest others)) bad) ∙ bodies others)
