-- Bytes are one list of chains at most, and what is read of them is this one.
use Rattle.std.proofs.Common.{◌≡◌, ℕ, suc, ◌+◌, List, [], ◌∷◌, ◌++◌, length, take, None, refl, sym, ap, ◌∙◌, subst, arith}
use Rattle.std.specs.List.{AllByRecursion}
use Rattle.std.proofs.lemmas.List.{append-nil, length-append, length-map}
use Rattle.link_ends.specs.Bytes.{AreBytes}
use Rattle.dss_frame.specs.declared.dss.Side.TheVariants.{Requests}
use Rattle.dss_frame.specs.declared.dss.Dss.{Dss}
use Rattle.dss_frame.specs.declared.dss.Placed.{Placed}
use Rattle.dss_frame.specs.Spelling.{Spelled, Spells, IsSpelled}
use Rattle.dss_frame.specs.Told.{read, AreAt}
use Rattle.dss_frame.proofs.Streams.Streams.{Compared, Longer, Shorter, all_bytes, compare, begins_spelled}
use Rattle.dss_frame.proofs.Streams.Places.{stands_at}
use Rattle.dss_frame.proofs.Streams.Told.{is_stream}
use Rattle.unit_segments.specs.declared.command.Command.{Command}
use Rattle.unit_segments.specs.Chain.{chains_of}
use Rattle.unit_segments.specs.Grammar.{AreChains}
use Rattle.unit_segments.specs.Written.{SpellChains}
use Rattle.unit_segments.proofs.ReadChains.{read_chains, one_list}

-- the places of spellings are one list
one_place : (place : ℕ) (spelled : List Spelled) (xs ys : List Placed) → AreAt place spelled xs → AreAt place spelled ys → xs ≡ ys
one_place place [] [] [] p q = refl
one_place place [] [] (y ∷ ys) p q = absurd q
one_place place [] (x ∷ xs) ys p q = absurd p
one_place place (s ∷ spelled) [] ys p q = absurd p
one_place place (s ∷ spelled) (x ∷ xs) [] p q = absurd q
one_place place (s ∷ spelled) (x ∷ xs) (y ∷ ys) p q =
    ap (λ (d : Dss). record { at = x.at; dss = d } ∷ xs) (p.0 ∙ sym q.0)
    ∙ ap (λ (n : ℕ). record { at = n; dss = y.dss } ∷ xs) (p.1 ∙ sym q.1)
    ∙ ap (λ (ps : List Placed). y ∷ ps) (one_place (place + length s.bytes) spelled xs ys p.2 q.2)

abbrev NoMore : List ℕ → Type 0
NoMore rest = (d : Dss) (count : ℕ) → Spells Requests d (take count rest) → ⊥

none_longer : (zs ys : List Spelled) (a b : List ℕ) → AllByRecursion (IsSpelled Requests) zs → NoMore b → b ≡ all_bytes zs ++ a → ys ++ zs ≡ ys
none_longer [] ys a b each no_more same = append-nil ys
none_longer (z ∷ zs) ys a b each no_more same = absurd (no_more z.dss (length z.bytes) (begins_spelled Requests z zs b a each.0 same))

spelled_by : (xs ys : List Spelled) (a b : List ℕ) → NoMore a → NoMore b → Compared Requests xs ys a b → xs ≡ ys
spelled_by xs ys a b no_a no_b (Longer zs each more rest) = more ∙ none_longer zs ys a b each no_b rest
spelled_by xs ys a b no_a no_b (Shorter z zs each more rest) =
    absurd (no_a z.dss (length z.bytes) (begins_spelled Requests z zs a b each.0 rest))

pub spelled_one : (commands others : List (List Command)) (bytes : List ℕ) → SpellChains commands bytes → SpellChains others bytes → commands ≡ others
spelled_one commands others bytes p q =
    let spelled = spelled_by p.spelled q.spelled p.rest q.rest p.no_more q.no_more
    (compare Requests p.spelled q.spelled p.rest q.rest p.begins.each q.begins.each (sym p.begins.all ∙ q.begins.all)) in
    let placed = one_place 0 q.spelled p.placed q.placed (subst (λ (ss : List Spelled). AreAt 0 ss p.placed) spelled p.stand) q.stand in
    (one_list commands others p.begun q.begun q.placed (subst (AreChains commands p.begun) placed p.are) q.are).0

-- ---- what is read

as_many : (place : ℕ) (spelled : List Spelled) (placed : List Placed) → AreAt place spelled placed → length spelled ≡ length placed
as_many place [] [] at = refl
as_many place [] (p ∷ placed) at = absurd at
as_many place (s ∷ spelled) [] at = absurd at
as_many place (s ∷ spelled) (p ∷ placed) at = ap suc (as_many (place + length s.bytes) spelled placed at.2)

-- as many spellings as there are in all of a stream leave no more of them
no_more_by : (xs ys : List Spelled) (a b : List ℕ) → length xs ≡ length ys → NoMore b → Compared Requests xs ys a b → NoMore a
no_more_by xs ys a b same no_b (Longer [] each more rest) = subst NoMore rest no_b
no_more_by xs ys a b same no_b (Longer (z ∷ zs) each more rest) =
    absurd (no_b z.dss (length z.bytes) (begins_spelled Requests z zs b a each.0 rest))
no_more_by xs ys a b same no_b (Shorter z zs each more rest) =
    absurd (omega (arith, same, ap length more, length-append xs (z ∷ zs)))

pub read_spelled_chains : (limit : ℕ) (bytes : List ℕ) → AreBytes bytes → (read Requests limit bytes).fault ≡ None →
    AllByRecursion (λ (p : Placed). AreBytes p.dss.body) (read Requests limit bytes).whole → (chains_of (read Requests limit bytes).whole).fault ≡ None →
    SpellChains (chains_of (read Requests limit bytes).whole).chains bytes
read_spelled_chains limit bytes fits none bodies right =
    let v = read Requests limit bytes in
    let stream = is_stream Requests limit bytes fits none in
    let at = stands_at Requests limit bytes fits in
    let chains = read_chains v.whole bodies right in
    let dsss : length stream.spelled ≡ length v.whole =
    sym (length-map stream.spelled (λ (s : Spelled). s.dss)) ∙ ap length stream.are ∙ length-map v.whole (λ (p : Placed). p.dss) in
    record {
      spelled = at.spelled;
      rest = at.rest;
      begins = at.begins;
      no_more =
          no_more_by at.spelled stream.spelled at.rest v.open (as_many 0 at.spelled v.whole at.each ∙ sym dsss) stream.no_more
          (compare Requests at.spelled stream.spelled at.rest v.open at.begins.each stream.begins.each (sym at.begins.all ∙ stream.begins.all));
      placed = v.whole;
      stand = at.each;
      begun = chains.0;
      are = chains.1;
    }
