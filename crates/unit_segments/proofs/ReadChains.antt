-- DSSs are read as the chains that they are, up to the first fault.
use Rattle.std.proofs.Common.{◌≡◌, ℕ, zero, suc, ◌⊎◌, Bool, true, false, List, [], ◌∷◌, ◌++◌, map, length, take, drop, flat_map, arith}
use Rattle.std.proofs.Common.{Option, Some, None, Result, Ok, refl, sym, ap, ◌∙◌, subst, inl, inr}
use Rattle.std.specs.List.{AllByRecursion}
use Rattle.std.proofs.lemmas.Bool.{both_ways}
use Rattle.std.proofs.lemmas.Option.{same_Some}
use Rattle.std.proofs.lemmas.List.{append_assoc, append-nil, take_at, drop_at}
use Rattle.link_ends.specs.Bytes.{AreBytes}
use Rattle.dss_frame.specs.declared.dss.Dss.{Dss}
use Rattle.dss_frame.specs.declared.dss.Placed.{Placed}
use Rattle.unit_segments.specs.declared.command.Command.{Command}
use Rattle.unit_segments.specs.declared.fault.ChainFault.{ChainFault}
use Rattle.unit_segments.specs.Chain.{OpenChain, no_chain, with_dss, awaited_after, chain_after, chain_by, dss_fault, chain_step, Chains, with_chain, chains_by}
use Rattle.unit_segments.specs.Chain.{chains_from, chains_of}
use Rattle.unit_segments.specs.Grammar.{none_before, AreLinked, commands_of, IsFront, IsChain, Chained, Begins, AreChains}
use Rattle.unit_segments.specs.BadChain.{IsFaultOf, IsBadChain}
use Rattle.unit_segments.proofs.Steps.{opened, GoesOn, goes_on_read, read_goes_on, fault_first, first_read}
use Rattle.unit_segments.proofs.Fronts.{last_push, commands_push, front_push, front_split}

abbrev HasBytes : Placed → Type 0
HasBytes placed = AreBytes placed.dss.body

-- ---- one DSS

pub chains_step : (chain : OpenChain) (placed : Placed) (others : List Placed) →
    chains_from chain (placed ∷ others) ≡ chains_by chain (chain_step chain placed) (chains_from (chain_after chain placed) others)
unfolding chains_from
chains_step chain placed others = refl

pub chains_end : (chain : OpenChain) → chains_from chain [] ≡ record { chains = []; begun = chain; fault = None }
unfolding chains_from
chains_end chain = refl

step_by : (chain : OpenChain) (placed : Placed) (fault : Option ChainFault) → dss_fault chain placed ≡ fault →
    chain_step chain placed ≡ chain_by chain placed fault
unfolding chain_step
step_by chain placed fault is = ap (chain_by chain placed) is

-- it has a fault
stops_there : (chain : OpenChain) (placed : Placed) (others : List Placed) (fault : ChainFault) → dss_fault chain placed ≡ Some fault →
    chains_from chain (placed ∷ others) ≡ record { chains = []; begun = chain; fault = Some fault }
stops_there chain placed others fault is =
    chains_step chain placed others
    ∙ ap (λ (r : Result (Option (List Command)) ChainFault). chains_by chain r (chains_from (chain_after chain placed) others))
    (step_by chain placed (Some fault) is)

-- it has none, and is chained
goes_there : (chain : OpenChain) (placed : Placed) (others : List Placed) → dss_fault chain placed ≡ None → placed.dss.chained ≡ true →
    chains_from chain (placed ∷ others) ≡ chains_from (chain_after chain placed) others
goes_there chain placed others is chained =
    let step : chain_step chain placed ≡ Ok None = step_by chain placed None is ∙ rw chained refl in
    chains_step chain placed others
    ∙ ap (λ (r : Result (Option (List Command)) ChainFault). chains_by chain r (chains_from (chain_after chain placed) others)) step

-- it ends the chain
ends_there : (chain : OpenChain) (placed : Placed) (others : List Placed) → dss_fault chain placed ≡ None → placed.dss.chained ≡ false →
    chains_from chain (placed ∷ others) ≡ with_chain (Some (with_dss chain.commands placed)) (chains_of others)
ends_there chain placed others is ends =
    let step : chain_step chain placed ≡ Ok (Some (with_dss chain.commands placed)) = step_by chain placed None is ∙ rw ends refl in
    let after : chain_after chain placed ≡ no_chain = rw ends refl in
    chains_step chain placed others
    ∙ ap (λ (r : Result (Option (List Command)) ChainFault). chains_by chain r (chains_from (chain_after chain placed) others)) step
    ∙ ap (λ (o : OpenChain). with_chain (Some (with_dss chain.commands placed)) (chains_from o others)) after

-- the chain that has begun with it too
opened_push : (begun : List Placed) (placed : Placed) → IsFront true begun → GoesOn begun placed → placed.dss.chained ≡ true →
    chain_after (opened begun) placed ≡ opened (begun ++ placed ∷ [])
opened_push begun placed front on chained =
    let after : chain_after (opened begun) placed
    ≡ record { commands = with_dss (commands_of begun) placed; awaited = awaited_after placed.dss; before = placed.dss.corr } = rw chained refl in
    after
    ∙ ap (λ (cs : List Command). record { commands = cs; awaited = awaited_after placed.dss; before = placed.dss.corr })
    (sym (commands_push begun placed front.linked on.next))
    ∙ ap (λ (d : Dss). record { commands = commands_of (begun ++ placed ∷ []); awaited = awaited_after d; before = d.corr })
    (sym (last_push none_before begun placed))

-- ---- what is read is so

-- a fault in what follows whole chains
pub record Stops (rest : List Placed) (read : Chains) : Type 0 where
  pub begun : List Placed
  pub bad : Placed
  pub more : List Placed
  pub fault : ChainFault
  pub all : rest ≡ begun ++ bad ∷ more
  pub front : IsFront true begun
  pub first : IsFaultOf begun bad fault
  pub told : read.fault ≡ Some fault

-- what follows whole chains: DSSs that begin one, or a fault
pub record Ends (rest : List Placed) (read : Chains) : Type 0 where
  pub front : IsFront true rest
  pub told : read.fault ≡ None
  pub begun : read.begun ≡ opened rest

pub record Reads (placed : List Placed) (read : Chains) : Type 0 where
  pub chains : List Chained
  pub rest : List Placed
  pub begins : Begins chains rest placed
  pub are : map (λ chain. chain.commands) chains ≡ read.chains
  pub ends : Ends rest read ⊎ Stops rest read

none_begun : IsFront true []
none_begun = record { linked = refl; bodies = tt; count = omega arith }

chain_in_front : (commands : List Command) (front others : List Placed) (read : Chains) → IsChain commands front → Reads others read →
    Reads (front ++ others) (with_chain (Some commands) read)
chain_in_front commands front others read is reads =
    let chain : Chained = record { commands = commands; placed = front } in
    record {
      chains = chain ∷ reads.chains;
      rest = reads.rest;
      begins = record {
        each = (is, reads.begins.each);
        all = ap (λ (ps : List Placed). front ++ ps) reads.begins.all
            ∙ sym (append_assoc front (flat_map (λ (c : Chained). c.placed) reads.chains) reads.rest);
      };
      are = ap (λ (cs : List (List Command)). commands ∷ cs) reads.are;
      ends = elim reads.ends [
        | inl e ↦ inl (record { front = e.front; told = e.told; begun = e.begun })
        | inr s ↦ inr (record {
          begun = s.begun;
          bad = s.bad;
          more = s.more;
          fault = s.fault;
          all = s.all;
          front = s.front;
          first = s.first;
          told = s.told;
        })
      ];
    }

reads_by : (begun : List Placed) (placed : Placed) (others : List Placed) (met : Option ChainFault) (chained : Bool) → IsFront true begun → HasBytes placed →
    dss_fault (opened begun) placed ≡ met → placed.dss.chained ≡ chained →
    (IsFront true (begun ++ placed ∷ []) → Reads ((begun ++ placed ∷ []) ++ others) (chains_from (opened (begun ++ placed ∷ [])) others)) →
    Reads others (chains_of others) → Reads (begun ++ placed ∷ others) (chains_from (opened begun) (placed ∷ others))
reads_by begun placed others (Some fault) chained front fits is chained_is on apart =
    subst (Reads (begun ++ placed ∷ others)) (sym (stops_there (opened begun) placed others fault is)) (record {
      chains = [];
      rest = begun ++ placed ∷ others;
      begins = record { each = tt; all = refl };
      are = refl;
      ends = inr (record {
        begun = begun;
        bad = placed;
        more = others;
        fault = fault;
        all = refl;
        front = front;
        first = fault_first begun placed fault fits is;
        told = refl;
      });
    })
reads_by begun placed others None true front fits is chained_is on apart =
    let goes = read_goes_on begun placed fits is in
    let grown = front_push true begun placed front goes chained_is in
    let same = goes_there (opened begun) placed others is chained_is
    ∙ ap (λ (o : OpenChain). chains_from o others) (opened_push begun placed front goes chained_is) in
    subst (Reads (begun ++ placed ∷ others)) (sym same)
    (subst (λ (ps : List Placed). Reads ps (chains_from (opened (begun ++ placed ∷ [])) others)) (append_assoc begun (placed ∷ []) others) (on grown))
reads_by begun placed others None false front fits is chained_is on apart =
    let goes = read_goes_on begun placed fits is in
    let whole : IsChain (with_dss (commands_of begun) placed) (begun ++ placed ∷ []) = record {
      whole = front_push false begun placed front goes chained_is;
      commands_are = sym (commands_push begun placed front.linked goes.next);
    } in
    let chain = chain_in_front (with_dss (commands_of begun) placed) (begun ++ placed ∷ []) others (chains_of others) whole apart in
    subst (Reads (begun ++ placed ∷ others)) (sym (ends_there (opened begun) placed others is chained_is))
    (subst (λ (ps : List Placed). Reads ps (with_chain (Some (with_dss (commands_of begun) placed)) (chains_of others)))
    (append_assoc begun (placed ∷ []) others) chain)

reads : (begun others : List Placed) → IsFront true begun → AllByRecursion HasBytes others →
    Reads (begun ++ others) (chains_from (opened begun) others)
reads begun [] front fits =
    subst (Reads (begun ++ [])) (sym (chains_end (opened begun))) (record {
      chains = [];
      rest = begun;
      begins = record { each = tt; all = append-nil begun };
      are = refl;
      ends = inl (record { front = front; told = refl; begun = refl });
    })
reads begun (placed ∷ others) front fits =
    reads_by begun placed others (dss_fault (opened begun) placed) placed.dss.chained front fits.0 refl refl
    (λ grown. reads (begun ++ placed ∷ []) others grown fits.1) (reads [] others none_begun fits.1)

pub all_read : (placed : List Placed) → AllByRecursion HasBytes placed → Reads placed (chains_of placed)
all_read placed fits = reads [] placed none_begun fits

-- ---- what is so is read

-- what is read behind DSSs that begin a chain, or are a whole one
abbrev behind_front : Bool → List Placed → List Placed → Chains
behind_front true begun others = chains_from (opened begun) others
behind_front false begun others = with_chain (Some (commands_of begun)) (chains_of others)

linked_both : (d : Dss) (begun : List Placed) → AreLinked true d begun → AreLinked false d begun → ⊥
linked_both d [] goes ends = both_ways d.chained ends goes
linked_both d (first ∷ begun) goes ends = linked_both first.dss begun goes.2 ends.2

read_front_by : (goes_on : Bool) (begun : List Placed) (placed : Placed) (others rest : List Placed) (chained : Bool) →
    placed.dss.chained ≡ chained → IsFront true begun → GoesOn begun placed → AreLinked goes_on placed.dss others →
    (IsFront true (begun ++ placed ∷ []) →
    chains_from (opened (begun ++ placed ∷ [])) (others ++ rest) ≡ behind_front goes_on ((begun ++ placed ∷ []) ++ others) rest) →
    chains_from (opened begun) (placed ∷ (others ++ rest)) ≡ behind_front goes_on (begun ++ placed ∷ others) rest
read_front_by goes_on begun placed others rest true is front on linked more =
    goes_there (opened begun) placed (others ++ rest) (goes_on_read begun placed on) is
    ∙ ap (λ (o : OpenChain). chains_from o (others ++ rest)) (opened_push begun placed front on is)
    ∙ more (front_push true begun placed front on is)
    ∙ ap (λ (ps : List Placed). behind_front goes_on ps rest) (append_assoc begun (placed ∷ []) others)
read_front_by false begun placed [] rest false is front on linked more =
    ends_there (opened begun) placed rest (goes_on_read begun placed on) is
    ∙ ap (λ (cs : List Command). with_chain (Some cs) (chains_of rest)) (sym (commands_push begun placed front.linked on.next))
read_front_by true begun placed [] rest false is front on linked more = absurd (both_ways placed.dss.chained is linked)
read_front_by goes_on begun placed (next ∷ others) rest false is front on linked more = absurd (both_ways placed.dss.chained is linked.0)

read_front : (goes_on : Bool) (begun others rest : List Placed) → AreLinked true none_before begun → IsFront goes_on (begun ++ others) →
    chains_from (opened begun) (others ++ rest) ≡ behind_front goes_on (begun ++ others) rest
read_front true begun [] rest linked front = ap (λ (ps : List Placed). chains_from (opened ps) rest) (sym (append-nil begun))
read_front false begun [] rest linked front =
    absurd (linked_both none_before begun linked (subst (AreLinked false none_before) (append-nil begun) front.linked))
read_front goes_on begun (placed ∷ others) rest linked front =
    let within = front_split goes_on begun placed others front in
    read_front_by goes_on begun placed others rest placed.dss.chained refl within.front within.on within.rest
    (λ grown. read_front goes_on (begun ++ placed ∷ []) others rest grown.linked
    (subst (IsFront goes_on) (sym (append_assoc begun (placed ∷ []) others)) front))

-- a whole chain, whatever follows it
chain_read : (commands : List Command) (placed rest : List Placed) → IsChain commands placed →
    chains_of (placed ++ rest) ≡ with_chain (Some commands) (chains_of rest)
chain_read commands placed rest is =
    read_front false [] placed rest refl is.whole
    ∙ ap (λ (cs : List Command). with_chain (Some cs) (chains_of rest)) (sym is.commands_are)

abbrev after_chains : List Chained → Chains → Chains
after_chains chains read = record { chains = map (λ chain. chain.commands) chains ++ read.chains; begun = read.begun; fault = read.fault }

each_read : (chains : List Chained) (rest : List Placed) → AllByRecursion (λ (chain : Chained). IsChain chain.commands chain.placed) chains →
    chains_of (flat_map (λ (chain : Chained). chain.placed) chains ++ rest) ≡ after_chains chains (chains_of rest)
each_read [] rest each = refl
each_read (chain ∷ chains) rest each =
    let others : List Placed = flat_map (λ (c : Chained). c.placed) chains in
    ap chains_of (append_assoc chain.placed others rest)
    ∙ chain_read chain.commands chain.placed (others ++ rest) each.0
    ∙ ap (with_chain (Some chain.commands)) (each_read chains rest each.1)

pub chains_read : (chains : List Chained) (rest placed : List Placed) → Begins chains rest placed →
    chains_of placed ≡ record {
      chains = map (λ chain. chain.commands) chains ++ (chains_of rest).chains;
      begun = (chains_of rest).begun;
      fault = (chains_of rest).fault;
    }
chains_read chains rest placed begins = ap chains_of begins.all ∙ each_read chains rest begins.each

-- the body of one of them
byte_body : (front : List Placed) (placed : Placed) (others : List Placed) → AllByRecursion HasBytes (front ++ placed ∷ others) → HasBytes placed
byte_body [] placed others all = all.0
byte_body (first ∷ front) placed others all = byte_body front placed others all.1

-- the first fault
pub bad_chain_read : (placed : List Placed) (fault : ChainFault) → AllByRecursion HasBytes placed → IsBadChain placed fault →
    (chains_of placed).fault ≡ Some fault
bad_chain_read placed fault fits bad =
    let rest : List Placed = bad.begun ++ bad.bad ∷ bad.more in
    let chains : List Placed = flat_map (λ (c : Chained). c.placed) bad.chains in
    let same = bad.begins.all ∙ sym (append_assoc chains bad.begun (bad.bad ∷ bad.more)) in
    let body : HasBytes bad.bad = byte_body (chains ++ bad.begun) bad.bad bad.more (subst (AllByRecursion HasBytes) same fits) in
    let whole : IsFront true ([] ++ bad.begun) = bad.front in
    let front = read_front true [] bad.begun (bad.bad ∷ bad.more) refl whole in
    ap (λ (c : Chains). c.fault) (chains_read bad.chains rest placed bad.begins)
    ∙ ap (λ (c : Chains). c.fault) front
    ∙ ap (λ (c : Chains). c.fault) (stops_there (opened bad.begun) bad.bad bad.more fault (first_read bad.begun bad.bad fault body bad.first))

first_chained : (d : Dss) (rest : List Placed) → AreLinked true d rest → d.chained ≡ true
first_chained d [] linked = linked
first_chained d (first ∷ rest) linked = linked.0

no_chain_in : (d : Dss) (rest : List Placed) (count : ℕ) → AreLinked true d rest → AreLinked false d (take count rest) → ⊥
no_chain_in d rest zero goes ends = both_ways d.chained ends (first_chained d rest goes)
no_chain_in d [] (suc count) goes ends = both_ways d.chained ends goes
no_chain_in d (first ∷ rest) (suc count) goes ends = no_chain_in first.dss rest count goes.2 ends.2

-- without a fault, no more chains follow
no_more_by : (rest : List Placed) (read : Chains) → Ends rest read → (commands : List Command) (count : ℕ) → IsChain commands (take count rest) → ⊥
no_more_by rest read ends commands count is = no_chain_in none_before rest count ends.front.linked is.whole.linked

both_faults : (met : Option ChainFault) (fault : ChainFault) → met ≡ None → met ≡ Some fault → ⊥
both_faults None fault none some = absurd cc
both_faults (Some x) fault none some = absurd cc

pub read_chains : (placed : List Placed) → AllByRecursion HasBytes placed → (chains_of placed).fault ≡ None →
    (rest : List Placed) × AreChains (chains_of placed).chains rest placed
read_chains placed fits none =
    let r = all_read placed fits in
    elim r.ends [
      | inl ends ↦ (r.rest, record { chains = r.chains; are = r.are; begins = r.begins; no_more = no_more_by r.rest (chains_of placed) ends })
      | inr stops ↦ absurd (both_faults (chains_of placed).fault stops.fault none stops.told)
    ]

pub told_first : (placed : List Placed) (fault : ChainFault) → AllByRecursion HasBytes placed → (chains_of placed).fault ≡ Some fault →
    IsBadChain placed fault
told_first placed fault fits told =
    let r = all_read placed fits in
    elim r.ends [
      | inl ends ↦ absurd (both_faults (chains_of placed).fault fault ends.told told)
      | inr stops ↦
          record {
            chains = r.chains;
            begun = stops.begun;
            bad = stops.bad;
            more = stops.more;
            begins = record {
              each = r.begins.each;
              all = r.begins.all ∙ ap (λ (ps : List Placed). flat_map (λ (c : Chained). c.placed) r.chains ++ ps) stops.all;
            };
            front = stops.front;
            first = subst (IsFaultOf stops.begun stops.bad) (same_Some stops.fault fault (sym stops.told ∙ told)) stops.first;
          }
    ]

-- ---- one list of chains

linked_one : (d : Dss) (xs ys a b : List Placed) → AreLinked false d xs → AreLinked false d ys → xs ++ a ≡ ys ++ b → xs ≡ ys
linked_one d [] [] a b p q same = refl
linked_one d [] (y ∷ ys) a b p q same = absurd (both_ways d.chained p q.0)
linked_one d (x ∷ xs) [] a b p q same = absurd (both_ways d.chained q p.0)
linked_one d (x ∷ xs) (y ∷ ys) a b p q same =
    let first : x ≡ y = cc in
    let others : xs ++ a ≡ ys ++ b = cc in
    let again : AreLinked false x.dss ys = subst (λ (z : Placed). AreLinked false z.dss ys) (sym first) q.2 in
    ap (λ (z : Placed). z ∷ xs) first ∙ ap (λ (zs : List Placed). y ∷ zs) (linked_one x.dss xs ys a b p.2 again others)

pub one_chain : (commands others : List Command) (a b x y : List Placed) → IsChain commands a → IsChain others b → a ++ x ≡ b ++ y →
    (a ≡ b) × (commands ≡ others)
one_chain commands others a b x y p q same =
    let placed = linked_one none_before a b x y p.whole.linked q.whole.linked same in
    (placed, p.commands_are ∙ ap commands_of placed ∙ sym q.commands_are)

abbrev NoMore : List Placed → Type 0
NoMore rest = (commands : List Command) (count : ℕ) → IsChain commands (take count rest) → ⊥

abbrev AreWhole : List Chained → Type 0
AreWhole chains = AllByRecursion (λ (chain : Chained). IsChain chain.commands chain.placed) chains

abbrev all_placed : List Chained → List Placed
all_placed chains = flat_map (λ (chain : Chained). chain.placed) chains

abbrev all_commands : List Chained → List (List Command)
all_commands chains = map (λ (chain : Chained). chain.commands) chains

-- a rest that begins with a chain
no_rest : (rest : List Placed) (chain : Chained) (chains : List Chained) (other : List Placed) → NoMore rest → IsChain chain.commands chain.placed →
    rest ≡ all_placed (chain ∷ chains) ++ other → ⊥
no_rest rest chain chains other no_more is same =
    let joined = same ∙ append_assoc chain.placed (all_placed chains) other in
    let size : ℕ = length chain.placed in
    let first = ap (take size) joined ∙ take_at chain.placed (all_placed chains ++ other) size refl in
    no_more chain.commands size (subst (IsChain chain.commands) (sym first) is)

one_by : (xs ys : List Chained) (a b : List Placed) → AreWhole xs → AreWhole ys → NoMore a → NoMore b → all_placed xs ++ a ≡ all_placed ys ++ b →
    (all_commands xs ≡ all_commands ys) × (a ≡ b)
one_by [] [] a b p q no_a no_b same = (refl, same)
one_by [] (y ∷ ys) a b p q no_a no_b same = absurd (no_rest a y ys b no_a q.0 same)
one_by (x ∷ xs) [] a b p q no_a no_b same = absurd (no_rest b x xs a no_b p.0 (sym same))
one_by (x ∷ xs) (y ∷ ys) a b p q no_a no_b same =
    let joined : x.placed ++ (all_placed xs ++ a) ≡ y.placed ++ (all_placed ys ++ b) =
    sym (append_assoc x.placed (all_placed xs) a) ∙ same ∙ append_assoc y.placed (all_placed ys) b in
    let first = one_chain x.commands y.commands x.placed y.placed (all_placed xs ++ a) (all_placed ys ++ b) p.0 q.0 joined in
    let others : all_placed xs ++ a ≡ all_placed ys ++ b =
    sym (drop_at x.placed (all_placed xs ++ a) (length x.placed) refl)
    ∙ ap (drop (length x.placed)) joined
    ∙ drop_at y.placed (all_placed ys ++ b) (length x.placed) (sym (ap length first.0)) in
    let rest = one_by xs ys a b p.1 q.1 no_a no_b others in
    (ap (λ (c : List Command). c ∷ all_commands xs) first.1 ∙ ap (λ (cs : List (List Command)). y.commands ∷ cs) rest.0, rest.1)

pub one_list : (commands others : List (List Command)) (rest other placed : List Placed) → AreChains commands rest placed → AreChains others other placed →
    (commands ≡ others) × (rest ≡ other)
one_list commands others rest other placed p q =
    let same = one_by p.chains q.chains rest other p.begins.each q.begins.each p.no_more q.no_more (sym p.begins.all ∙ q.begins.all) in
    (sym p.are ∙ same.0 ∙ q.are, same.1)

-- ---- no others are read

-- of a rest that doesn't begin with a chain none is read
none_by : (rest : List Placed) (chains : List Chained) (read : List (List Command)) (other : List Placed) → NoMore rest → Begins chains other rest →
    all_commands chains ≡ read → read ≡ []
none_by rest [] read other no_more begins are = sym are
none_by rest (chain ∷ chains) read other no_more begins are = absurd (no_rest rest chain chains other no_more begins.each.0 begins.all)

bytes_behind : (front rest : List Placed) → AllByRecursion HasBytes (front ++ rest) → AllByRecursion HasBytes rest
bytes_behind [] rest all = all
bytes_behind (first ∷ front) rest all = bytes_behind front rest all.1

pub all_chains_read : (commands : List (List Command)) (rest placed : List Placed) → AllByRecursion HasBytes placed → AreChains commands rest placed →
    (chains_of placed).chains ≡ commands
all_chains_read commands rest placed fits are =
    let rest_fits = bytes_behind (all_placed are.chains) rest (subst (AllByRecursion HasBytes) are.begins.all fits) in
    let r = all_read rest rest_fits in
    let none : (chains_of rest).chains ≡ [] = none_by rest r.chains (chains_of rest).chains r.rest are.no_more r.begins r.are in
    ap (λ (c : Chains). c.chains) (chains_read are.chains rest placed are.begins)
    ∙ ap (λ (cs : List (List Command)). all_commands are.chains ++ cs) none
    ∙ append-nil (all_commands are.chains)
    ∙ are.are
