-- The canonical spelling is one of the spellings.
use Rattle.std.proofs.Common.{◌≡◌, ℕ, zero, suc, ◌+◌, ◌*◌, ◌<◌, ◌≤◌, Bool, ltb, List, [], ◌∷◌, ◌++◌, length, take, drop, refl, ap, sym, ◌∙◌, arith}
use Rattle.std.specs.List.{flat_map, AllByRecursion}
use Rattle.std.proofs.lemmas.List.{length-take, length-drop, take-append-drop, nil_from_length}
use Rattle.dss_frame.specs.declared.dss.Side.{Side}
use Rattle.dss_frame.specs.declared.dss.Dss.{Dss}
use Rattle.dss_frame.specs.Dss.{segment_length, further_room, first_room, further_count, further, header, canonical}
use Rattle.dss_frame.specs.Spelling.{IsDssOf, IsPart, further_spelling, Spells}
use Rattle.dss_frame.proofs.Spellings.Spelling.{same_test, canonical-is}

-- the parts of so many further segments
parts : ℕ → List ℕ → List (List ℕ)
parts zero body = []
parts (suc count) body = take further_room body ∷ parts count (drop further_room body)

parts_count : (count : ℕ) (body : List ℕ) → length (parts count body) ≡ count
unfolding parts
parts_count zero body = refl
parts_count (suc count) body = ap suc (parts_count count (drop further_room body))

parts_spelled : (count : ℕ) (body : List ℕ) → further count body ≡ further_spelling (parts count body)
unfolding parts further
parts_spelled zero body = refl
parts_spelled (suc count) body =
    let part = take further_room body in
    let rest = drop further_room body in
    ap (λ (n : ℕ). segment_length (2 + length part) (ltb 0 n) ++ (part ++ further count rest)) (sym (parts_count count rest))
    ∙ ap (λ (xs : List ℕ). segment_length (2 + length part) (ltb 0 (length (parts count rest))) ++ (part ++ xs)) (parts_spelled count rest)

parts_body : (count : ℕ) (body : List ℕ) → length body ≤ 32765 * count → flat_map (λ part. part) (parts count body) ≡ body
unfolding parts
parts_body zero body all = sym (nil_from_length body (omega arith))
parts_body (suc count) body all =
    let rest = drop further_room body in
    ap (λ (xs : List ℕ). take further_room body ++ xs) (parts_body count rest (omega (arith, length-drop further_room body)))
    ∙ take-append-drop further_room body

parts_fit : (count : ℕ) (body : List ℕ) → 32765 * count < length body + 32765 → AllByRecursion IsPart (parts count body)
unfolding parts
parts_fit zero body none_empty = tt
parts_fit (suc count) body none_empty =
    let len = length-take further_room body in
    (record { some = omega (arith, len); fits = omega (arith, len) }, parts_fit count (drop further_room body) (omega (arith, length-drop further_room body)))

pub canonical_spells : (side : Side) (d : Dss) → IsDssOf side d → Spells side d (canonical d)
canonical_spells side d h =
    let first = take first_room d.body in
    let rest = drop first_room d.body in
    let count = further_count (length rest) in
    let more : ltb 0 (length rest) ≡ ltb 0 (length (parts count rest)) = sym (same_test count (length rest) refl) ∙ ap (ltb 0) (sym (parts_count count rest)) in
    record {
      first = first;
      parts = parts count rest;
      body = sym (take-append-drop first_room d.body) ∙ ap (λ (xs : List ℕ). first ++ xs) (sym (parts_body count rest (omega arith)));
      first_fits = omega (arith, length-take first_room d.body);
      parts_fit = parts_fit count rest (omega arith);
      is_dss = h;
      spelled =
          canonical-is d
          ∙ ap (λ (b : Bool). header d (6 + length first) b ++ (first ++ further count rest)) more
          ∙ ap (λ (xs : List ℕ). header d (6 + length first) (ltb 0 (length (parts count rest))) ++ (first ++ xs)) (parts_spelled count rest);
    }
