-- What was read is taken one DSS after another.
use Rattle.std.proofs.Common.{◌≡◌, ℕ, List, [], ◌∷◌, drop, slice_get, Option, Some, None, Result, Ok, Err, refl, sym, ap, ◌∙◌}
use Rattle.std.proofs.lemmas.Option.{same_Some}
use Rattle.dss_frame.specs.declared.dss.Placed.{Placed}
use Rattle.dss_frame.specs.Reading.{View}
use Rattle.unit_segments.specs.declared.command.Command.{Command}
use Rattle.unit_segments.specs.declared.fault.ChainFault.{ChainFault}
use Rattle.unit_segments.specs.Chain.{OpenChain, no_chain, chain_after, chain_step, Chains, chains_by, chains_from}
use Rattle.unit_segments.proofs.ReadChains.{chains_step, chains_end}
use Rattle.plain_model.specs.Group.{Meaning}
use Rattle.member_core.specs.Conversation.{ConversationState, Member, unread, after_chain, after_chains, closed_or_open, closing_reply, settled_by, settled}
use Rattle.dss_frame.specs.declared.fault.StreamFault.{StreamFault}
use Rattle.member_core.specs.Steps.{member, with_whole, stopped, after_dss_by, after_dss}

-- with this reader, and this chain begun
abbrev pub moved : {S U : Type 0} → View → OpenChain → Member S U → Member S U
moved reader chain w = record w { conversation = record w.conversation { reader = reader; chain = chain } }

-- what was read doesn't matter to chains that run
pub after_moved : {S U : Type 0} (m : Meaning S U) (chains : List (List Command)) (reader : View) (chain : OpenChain) (w : Member S U) →
    after_chains m chains (moved reader chain w) ≡ moved reader chain (after_chains m chains w)
after_moved m [] reader chain w = refl
after_moved m (commands ∷ chains) reader chain w = after_moved m chains reader chain (after_chain m commands w)

abbrev pub ends_by : {S U : Type 0} → Option (List ℕ) → View → OpenChain → Member S U → Member S U
ends_by reply reader begun w = record { conversation = closed_or_open reply reader begun w.conversation; shared = w.shared }

ends_moved : {S U : Type 0} (reply : Option (List ℕ)) (reader other : View) (a b : List Placed) (begun chain : OpenChain) (w : Member S U) →
    ends_by reply (record reader { whole = a }) begun (moved other chain w) ≡ ends_by reply (record reader { whole = b }) begun w
ends_moved None reader other a b begun chain w = refl
ends_moved (Some reply) reader other a b begun chain w = refl

-- nor to how they are settled
pub settled_moved : {S U : Type 0} (m : Meaning S U) (reader other : View) (a b : List Placed) (read : Chains) (chain : OpenChain) (w : Member S U) →
    settled_by m (record reader { whole = a }) read (moved other chain w) ≡ settled_by m (record reader { whole = b }) read w
settled_moved m reader other a b read chain w =
    ap (λ v. ends_by (closing_reply read.fault reader.fault) (record reader { whole = a }) read.begun v) (after_moved m read.chains other chain w)
    ∙ ends_moved (closing_reply read.fault reader.fault) reader other a b read.begun chain (after_chains m read.chains w)

-- these DSSs are left in its reader
abbrev left_to : {S U : Type 0} → List Placed → Member S U → Member S U
left_to others w = record w { conversation = with_whole others w.conversation }

settles_by : {S U : Type 0} (m : Meaning S U) (w : Member S U) (others : List Placed) (next : OpenChain)
    (step : Result (Option (List Command)) ChainFault) →
    let after : Member S U = after_dss_by m next step (left_to others w) in
    settled_by m w.conversation.reader (chains_by w.conversation.chain step (chains_from next others)) w ≡ settled m after.conversation.reader after
settles_by {S} {U} m w others next (Err fault) =
    let after : Member S U = after_dss_by m next (Err fault) (left_to others w) in
    sym (ap (λ read. settled_by m unread read after) (chains_end no_chain))
settles_by m w others next (Ok None) =
    let reader : View = w.conversation.reader in
    sym (settled_moved m reader (record reader { whole = others }) others reader.whole (chains_from next others) next w)
settles_by m w others next (Ok (Some commands)) =
    let reader : View = w.conversation.reader in
    sym (settled_moved m reader (record reader { whole = others }) others reader.whole (chains_from next others) next (after_chain m commands w))

-- the first DSS is taken
settles_on : {S U : Type 0} (m : Meaning S U) (w : Member S U) (placed : Placed) (others : List Placed) →
    w.conversation.reader.whole ≡ placed ∷ others →
    let after : Member S U = after_dss m placed (left_to others w) in
    settled m w.conversation.reader w ≡ settled m after.conversation.reader after
settles_on m w placed others is =
    let chain : OpenChain = w.conversation.chain in
    ap (λ dsss. settled_by m w.conversation.reader (chains_from chain dsss) w) is
    ∙ ap (λ read. settled_by m w.conversation.reader read w) (chains_step chain placed others)
    ∙ settles_by m w others (chain_after chain placed) (chain_step chain placed)

-- none is left
settles_end : {S U : Type 0} (m : Meaning S U) (w : Member S U) → w.conversation.reader.whole ≡ [] →
    settled m w.conversation.reader w ≡ ends_by (closing_reply None w.conversation.reader.fault) w.conversation.reader w.conversation.chain w
settles_end m w is =
    ap (λ dsss. settled_by m w.conversation.reader (chains_from w.conversation.chain dsss) w) is
    ∙ ap (λ read. settled_by m w.conversation.reader read w) (chains_end w.conversation.chain)

-- ---- the loop

first_is : (dsss : List Placed) (placed : Placed) → Some placed ≡ slice_get dsss 0 → dsss ≡ placed ∷ drop 1 dsss
first_is [] placed is = absurd cc
first_is (first ∷ others) placed is = ap (λ (d : Placed). d ∷ others) (sym (same_Some placed first is))

none_is : (dsss : List Placed) → None ≡ slice_get dsss 0 → dsss ≡ []
none_is [] is = refl
none_is (first ∷ others) is = absurd cc

pub goes_on : {S U : Type 0} (m : Meaning S U) (before taken now : ConversationState U) (shared shared_now : S) (placed : Placed) →
    Some placed ≡ slice_get before.reader.whole 0 → taken ≡ with_whole (drop 1 before.reader.whole) before →
    now ≡ (after_dss m placed (member taken shared)).conversation → shared_now ≡ (after_dss m placed (member taken shared)).shared →
    settled m now.reader (member now shared_now) ≡ settled m before.reader (member before shared)
goes_on {S} {U} m before taken now shared shared_now placed first rest now_is shared_is =
    let w : Member S U = member before shared in
    let after : Member S U = after_dss m placed (member taken shared) in
    let made : ConversationState U → S → Member S U = λ c s. member c s in
    ap (λ c. settled m c.reader (made c shared_now)) now_is
    ∙ ap (λ s. settled m after.conversation.reader (made after.conversation s)) shared_is
    ∙ ap (λ t. settled m (after_dss m placed (member t shared)).conversation.reader (after_dss m placed (member t shared))) rest
    ∙ sym (settles_on m w placed (drop 1 before.reader.whole) (first_is before.reader.whole placed first))

pub comes_to : {S U : Type 0} (m : Meaning S U) (before taken now : ConversationState U) (shared : S) →
    None ≡ slice_get before.reader.whole 0 → taken ≡ with_whole (drop 1 before.reader.whole) before → now ≡ stopped taken.reader.fault taken →
    member now shared ≡ settled m before.reader (member before shared)
comes_to {S} {U} m before taken now shared none rest now_is =
    let empty : before.reader.whole ≡ [] = none_is before.reader.whole none in
    let taken_is : taken ≡ with_whole [] before = rest ∙ ap (λ dsss. with_whole (drop 1 dsss) before) empty in
    ap (λ c. member c shared) (now_is ∙ ap (λ (t : ConversationState U). stopped t.reader.fault t) taken_is)
    ∙ by before.reader.fault refl
    ∙ sym (settles_end m (member before shared) empty)
  where
    by : (fault : Option StreamFault) → before.reader.fault ≡ fault →
        member (stopped before.reader.fault (with_whole [] before)) shared
        ≡ ends_by (closing_reply None before.reader.fault) before.reader before.chain (member before shared)
    by None is = rw is refl
    by (Some fault) is = rw is refl
