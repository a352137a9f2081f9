-- It doesn't matter how bytes are cut into pieces.
use Rattle.std.proofs.Common.{◌≡◌, ℕ, Bool, true, false, List, [], ◌∷◌, ◌++◌, Option, Some, None, Result, Ok, Err, refl, sym, ap, ◌∙◌}
use Rattle.std.proofs.lemmas.List.{append-nil}
use Rattle.dss_frame.specs.declared.dss.Placed.{Placed}
use Rattle.dss_frame.specs.declared.fault.StreamFault.{StreamFault}
use Rattle.dss_frame.specs.Reading.{View, fed, behind}
use Rattle.dss_frame.proofs.Pieces.Pieces.{fed_stopped, fed-append, fed-behind}
use Rattle.reply_texts.specs.Closing.{fault_reply}
use Rattle.unit_segments.specs.declared.command.Command.{Command}
use Rattle.unit_segments.specs.declared.fault.ChainFault.{ChainFault}
use Rattle.unit_segments.specs.Chain.{OpenChain, chain_after, chain_step, Chains, with_chain, chains_by, chains_from}
use Rattle.unit_segments.proofs.ReadChains.{chains_step, chains_end}
use Rattle.plain_model.specs.Group.{Meaning}
use Rattle.member_core.specs.Conversation.{ConversationState, Member, after_chain, after_chains, closed, closing_reply, chain_fault_reply}
use Rattle.member_core.specs.Conversation.{settled_by, settled, taken}
use Rattle.member_core.specs.Steps.{member}
use Rattle.member_core.proofs.Settling.{moved, ends_by, settled_moved}

-- ---- chains

-- these were read, and then the others, where no fault came before
abbrev then_by : Option ChainFault → Chains → Chains → Chains
then_by (Some fault) front others = front
then_by None front others = record others { chains = front.chains ++ others.chains }

then_with : (commands : List Command) (fault : Option ChainFault) (front others : Chains) →
    with_chain (Some commands) (then_by fault front others) ≡ then_by fault (with_chain (Some commands) front) others
then_with commands None front others = refl
then_with commands (Some fault) front others = refl

then_step : (chain : OpenChain) (step : Result (Option (List Command)) ChainFault) (front both : Chains) (others : OpenChain → Chains) →
    both ≡ then_by front.fault front (others front.begun) →
    chains_by chain step both ≡ then_by (chains_by chain step front).fault (chains_by chain step front) (others (chains_by chain step front).begun)
then_step chain (Err fault) front both others is = refl
then_step chain (Ok None) front both others is = is
then_step chain (Ok (Some commands)) front both others is =
    ap (with_chain (Some commands)) is ∙ then_with commands front.fault front (others front.begun)

abbrev reads_then : OpenChain → List Placed → List Placed → Chains
reads_then chain a b = then_by (chains_from chain a).fault (chains_from chain a) (chains_from (chains_from chain a).begun b)

chains_append : (a b : List Placed) (chain : OpenChain) → chains_from chain (a ++ b) ≡ reads_then chain a b
chains_append [] b chain =
    sym (ap (λ (front : Chains). then_by front.fault front (chains_from front.begun b)) (chains_end chain))
chains_append (placed ∷ a) b chain =
    chains_step chain placed (a ++ b)
    ∙ then_step chain (chain_step chain placed) (chains_from (chain_after chain placed) a) (chains_from (chain_after chain placed) (a ++ b))
    (λ o. chains_from o b) (chains_append a b (chain_after chain placed))
    ∙ sym (ap (λ (front : Chains). then_by front.fault front (chains_from front.begun b)) (chains_step chain placed a))

after_append : {S U : Type 0} (m : Meaning S U) (a b : List (List Command)) (w : Member S U) →
    after_chains m (a ++ b) w ≡ after_chains m b (after_chains m a w)
after_append m [] b w = refl
after_append m (commands ∷ a) b w = after_append m a b (after_chain m commands w)

-- chains that run leave it as alive as it was
still_alive : {S U : Type 0} (m : Meaning S U) (chains : List (List Command)) (w : Member S U) →
    (after_chains m chains w).conversation.dead ≡ w.conversation.dead
still_alive m [] w = refl
still_alive m (commands ∷ chains) w = still_alive m chains (after_chain m commands w)

-- ---- readers

-- its DSSs, and then what is read of more bytes
reads_behind : (v : View) (q : List ℕ) → fed v q ≡ behind v.whole (fed (record v { whole = [] }) q)
reads_behind v q =
    ap (λ whole. fed (record v { whole = whole }) q) (sym (append-nil v.whole))
    ∙ fed-behind v.whole (record v { whole = [] }) q

-- ---- pieces

taken_dead : {S U : Type 0} (m : Meaning S U) (piece : List ℕ) (w : Member S U) → w.conversation.dead ≡ true → taken m piece w ≡ w
unfolding taken
taken_dead m piece w is = rw is refl

taken_alive : {S U : Type 0} (m : Meaning S U) (piece : List ℕ) (w : Member S U) → w.conversation.dead ≡ false →
    taken m piece w ≡ settled m (fed w.conversation.reader piece) w
unfolding taken
taken_alive m piece w is = rw is refl

-- a fault closes it
closes : {S U : Type 0} (m : Meaning S U) (reader : View) (read : Chains) (w : Member S U) (reply : List ℕ) →
    closing_reply read.fault reader.fault ≡ Some reply →
    let after : Member S U = after_chains m read.chains w in
    settled_by m reader read w ≡ record after { conversation = closed reply after.conversation }
closes m reader read w reply is = rw is refl

-- no fault leaves it open
stays : {S U : Type 0} (m : Meaning S U) (reader : View) (read : Chains) (w : Member S U) → closing_reply read.fault reader.fault ≡ None →
    settled_by m reader read w ≡ moved (record reader { whole = [] }) read.begun (after_chains m read.chains w)
stays m reader read w is = rw is refl

both_none : (f : Option ChainFault) (g : Option StreamFault) → f ≡ None → g ≡ None → closing_reply f g ≡ None
both_none f g f_is g_is = rw (f_is, g_is) refl

chain_first : (f : Option ChainFault) (g : Option StreamFault) (fault : ChainFault) → f ≡ Some fault → closing_reply f g ≡ Some (chain_fault_reply fault)
chain_first f g fault is = rw is refl

stream_then : (f : Option ChainFault) (g : Option StreamFault) (fault : StreamFault) → f ≡ None → g ≡ Some fault →
    closing_reply f g ≡ Some (fault_reply fault)
stream_then f g fault f_is g_is = rw (f_is, g_is) refl

-- what is read of one more piece, behind the DSSs that were read before
abbrev behind_all : View → List ℕ → View
behind_all v q = fed (record v { whole = [] }) q

chains_of_more : (chain : OpenChain) (v : View) (q : List ℕ) → chains_from chain (fed v q).whole ≡ reads_then chain v.whole (behind_all v q).whole
chains_of_more chain v q =
    ap (λ (u : View). chains_from chain u.whole) (reads_behind v q) ∙ chains_append v.whole (behind_all v q).whole chain

-- once it is closed
closed_pieces : {S U : Type 0} (m : Meaning S U) (w after : Member S U) (reply q : List ℕ) →
    w ≡ record after { conversation = closed reply after.conversation } → taken m q w ≡ w
closed_pieces {S} {U} m w after reply q is = taken_dead m q w (ap (λ (u : Member S U). u.conversation.dead) is)

-- the DSSs that were read, and then one more piece
more_pieces : {S U : Type 0} (m : Meaning S U) (w : Member S U) (v : View) (q : List ℕ) → w.conversation.dead ≡ false →
    taken m q (settled m v w) ≡ settled m (fed v q) w
more_pieces {S} {U} m w v q alive = by front.fault refl v.fault refl
  where
    chain : OpenChain
    chain = w.conversation.chain

    front : Chains
    front = chains_from chain v.whole

    back : Chains
    back = chains_from front.begun (behind_all v q).whole

    after : Member S U
    after = after_chains m front.chains w

    by : (f : Option ChainFault) → front.fault ≡ f → (g : Option StreamFault) → v.fault ≡ g → taken m q (settled m v w) ≡ settled m (fed v q) w
    by (Some fault) f g g_is =
        let here = closes m v front w (chain_fault_reply fault) (chain_first front.fault v.fault fault f) in
        let same : chains_from chain (fed v q).whole ≡ front = chains_of_more chain v q ∙ ap (λ x. then_by x front back) f in
        let there = closes m (fed v q) front w (chain_fault_reply fault) (chain_first front.fault (fed v q).fault fault f) in
        closed_pieces m (settled m v w) after (chain_fault_reply fault) q here ∙ here ∙ sym there
        ∙ sym (ap (λ read. settled_by m (fed v q) read w) same)
    by None f (Some fault) g =
        let here = closes m v front w (fault_reply fault) (stream_then front.fault v.fault fault f g) in
        closed_pieces m (settled m v w) after (fault_reply fault) q here ∙ ap (λ u. settled m u w) (sym (fed_stopped v q fault g))
    by None f None g =
        let rest : View = record v { whole = [] } in
        let more : View = behind_all v q in
        let here : settled m v w ≡ moved rest front.begun after = stays m v front w (both_none front.fault v.fault f g) in
        ap (taken m q) here
        ∙ taken_alive m q (moved rest front.begun after) (still_alive m front.chains w ∙ alive)
        ∙ settled_moved m more rest more.whole (v.whole ++ more.whole) back front.begun after
        ∙ sym (ap (λ ran. ends_by (closing_reply back.fault more.fault) (behind v.whole more) back.begun ran) (after_append m front.chains back.chains w))
        ∙ sym (ap (λ x. settled_by m (behind v.whole more) (then_by x front back) w) f)
        ∙ sym (ap (λ read. settled_by m (behind v.whole more) read w) (chains_append v.whole more.whole chain))
        ∙ sym (ap (λ u. settled m u w) (reads_behind v q))

pub taken_pieces : {S U : Type 0} (m : Meaning S U) (w : Member S U) (p q : List ℕ) → taken m q (taken m p w) ≡ taken m (p ++ q) w
taken_pieces m w p q = by w.conversation.dead refl
  where
    by : (dead : Bool) → w.conversation.dead ≡ dead → taken m q (taken m p w) ≡ taken m (p ++ q) w
    by true is = ap (taken m q) (taken_dead m p w is) ∙ taken_dead m q w is ∙ sym (taken_dead m (p ++ q) w is)
    by false is =
        ap (taken m q) (taken_alive m p w is) ∙ more_pieces m w (fed w.conversation.reader p) q is
        ∙ ap (λ v. settled m v w) (fed-append w.conversation.reader p q) ∙ sym (taken_alive m (p ++ q) w is)

-- a piece that its reader has read is settled
pub fed_is_taken : {S U : Type 0} (m : Meaning S U) (old read : ConversationState U) (shared : S) (piece : List ℕ) →
    old.dead ≡ false → read ≡ record old { reader = fed old.reader piece } →
    settled m read.reader (member read shared) ≡ taken m piece (member old shared)
fed_is_taken {S} {U} m old read shared piece alive read_is =
    let v : View = fed old.reader piece in
    ap (λ (c : ConversationState U). settled m c.reader (member c shared)) read_is
    ∙ settled_moved m v v v.whole v.whole (chains_from old.chain v.whole) old.chain (member old shared)
    ∙ sym (taken_alive m piece (member old shared) alive)
