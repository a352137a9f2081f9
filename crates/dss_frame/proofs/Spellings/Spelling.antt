-- The segments of the canonical spelling, one after the other.
use Rattle.std.proofs.Common.{◌≡◌, ℕ, suc, ◌+◌, ◌<◌, ◌≤◌, Bool, false, not, eqb, ltb, List, [], ◌++◌, length, take, drop, refl, sym, ap, ◌∙◌, append_assoc}
use Rattle.std.proofs.Common.{arith, inl, inr}
use Rattle.std.proofs.lemmas.Bool.{cases_lt, lt-ltb, le-ltb}
use Rattle.std.proofs.lemmas.Bool.Decides.{nat_tests}
use Rattle.std.proofs.lemmas.List.{append-nil, length-drop, nil_from_length, take_all}
use Rattle.dss_frame.specs.declared.dss.Dss.{Dss}
use Rattle.dss_frame.specs.Scan.{Extends}
use Rattle.dss_frame.proofs.Loops.Extending.{Extends-same, Extends-append}
use Rattle.dss_frame.specs.Dss.{segment_length, further_room, first_room, further_count, further, further_segments, header, canonical}

-- what the code tests
pub some_left : (m : ℕ) → not (eqb m 0) ≡ ltb 0 m
some_left m = grind (arith, nat_tests)

pub further-nil : (rest : List ℕ) → length rest ≡ 0 → further_segments rest ≡ []
unfolding further
further-nil rest none = rw (nil_from_length rest none) refl

-- there is a further segment where there are bytes for one
pub same_test : (k m : ℕ) → k ≡ further_count m → ltb 0 k ≡ ltb 0 m
same_test k m e =
    elim (cases_lt 0 m) [
      | inl some ↦ lt-ltb 0 k (omega arith) ∙ sym (lt-ltb 0 m some)
      | inr none ↦ le-ltb 0 k (omega arith) ∙ sym (le-ltb 0 m none)
    ]

-- the next further segment, and those after it
pub further-more : (rest : List ℕ) → 0 < length rest → further_segments rest
    ≡ segment_length (2 + length (take further_room rest)) (ltb 0 (length (drop further_room rest))) ++
    (take further_room rest ++ further_segments (drop further_room rest))
unfolding further
further-more rest some =
    let left = length (drop further_room rest) in
    let k = further_count left in
    let e : further_count (length rest) ≡ suc k = omega (arith, length-drop further_room rest) in
    ap (λ (n : ℕ). further n rest) e
    ∙ ap (λ (b : Bool). segment_length (2 + length (take further_room rest)) b ++ (take further_room rest ++ further k (drop further_room rest)))
    (same_test k left refl)

pub nonempty : (m : ℕ) (b : Bool) → b ≡ eqb m 0 → b ≡ false → 0 < m
nonempty m b e f = grind (arith, nat_tests)

pub canonical-is : (d : Dss) → canonical d ≡ header d (6 + length (take first_room d.body)) (ltb 0 (length (drop first_room d.body))) ++
    (take first_room d.body ++ further_segments (drop first_room d.body))
unfolding canonical
canonical-is d = refl

-- a short body stands in the first segment, all of it
pub canonical_short : (d : Dss) → length d.body ≤ 24 → canonical d ≡ header d (6 + length d.body) false ++ d.body
canonical_short d short =
    let first : List ℕ = take first_room d.body in
    let front : first ≡ d.body = take_all first_room d.body (omega arith) in
    let none : length (drop first_room d.body) ≡ 0 = omega (arith, length-drop first_room d.body) in
    canonical-is d
    ∙ ap (λ (b : Bool). header d (6 + length first) b ++ (first ++ further_segments (drop first_room d.body))) (le-ltb 0 _ (omega arith))
    ∙ ap (λ (xs : List ℕ). header d (6 + length first) false ++ (first ++ xs)) (further-nil (drop first_room d.body) none)
    ∙ ap (λ (xs : List ℕ). header d (6 + length xs) false ++ (xs ++ [])) front
    ∙ ap (λ (xs : List ℕ). header d (6 + length d.body) false ++ xs) (append-nil d.body)

-- what is written of a segment, and what is still to be written
wrote_part : (old now later head part others all : List ℕ) → now ≡ old ++ head → later ≡ now ++ part → all ≡ head ++ (part ++ others)
    → later ++ others ≡ old ++ all
wrote_part old now later head part others all a b e = rw (b, a, e) (simp append_assoc)

-- the first segment was written
pub wrote_first : (d : Dss) (old headed out part rest : List ℕ) (continues : Bool) → part ≡ take first_room d.body → rest ≡ drop first_room d.body
    → continues ≡ not (eqb (length rest) 0)
    → headed ≡ old ++ header d (6 + length part) continues → out ≡ headed ++ part
    → Extends old out × (out ++ further_segments rest ≡ old ++ canonical d)
wrote_first d old headed out part rest continues p r t a b =
    let head = header d (6 + length part) continues in
    let more : continues ≡ ltb 0 (length rest) = t ∙ some_left (length rest) in
    let all : canonical d ≡ head ++ (part ++ further_segments rest) = rw (more, p, r) (canonical-is d) in (
      rw (b, a) (Extends-append old (old ++ head) part (Extends-append old old head (Extends-same old))),
      wrote_part old headed out head part
          (further_segments rest) (canonical d) a b all,
    )

-- a further segment was written
pub wrote_further : (first old headed out part rest after all : List ℕ) (continues : Bool) → 0 < length rest → part ≡ take further_room rest
    → after ≡ drop further_room rest → continues ≡ not (eqb (length after) 0)
    → headed ≡ old ++ segment_length (2 + length part) continues → out ≡ headed ++ part
    → Extends first old → old ++ further_segments rest ≡ all
    → Extends first out × (out ++ further_segments after ≡ all)
wrote_further first old headed out part rest after all continues some p r t a b kept so_far =
    let head = segment_length (2 + length part) continues in
    let more : continues ≡ ltb 0 (length after) = t ∙ some_left (length after) in
    let next : further_segments rest ≡ head ++ (part ++ further_segments after) = rw (more, p, r) (further-more rest some) in (
      rw (b, a) (Extends-append first (old ++ head) part (Extends-append first old head kept)),
      wrote_part old headed out head part (further_segments after)
          (further_segments rest) a b next ∙ so_far,
    )

pub wrote_all : (out rest all : List ℕ) → length rest ≡ 0 → out ++ further_segments rest ≡ all → out ≡ all
wrote_all out rest all none so_far = sym (append-nil out) ∙ ap (λ (xs : List ℕ). out ++ xs) (sym (further-nil rest none)) ∙ so_far
