-- What is found in a list passes the test by which it was found, and each test that all elements pass.
use Rattle.std.proofs.Common.{◌≡◌, Bool, true, false, cond, List, [], ◌∷◌, find, Some, refl}
use Rattle.std.specs.List.{list_all}
use Rattle.std.proofs.lemmas.Bool.{and_parts}

pub found_passes : {X : Type 0} (p q : X → Bool) (elements : List X) (found : X) → list_all q elements ≡ true → Some found ≡ find p elements →
    (p found ≡ true) × (q found ≡ true)
found_passes p q [] found all e = absurd (cc)
found_passes {X = X} p q (first ∷ elements) found all e =
    let both = and_parts (q first) (list_all q elements) all in
    let Goal : Bool → Type 0 = λ b. p first ≡ b → Some found ≡ cond b (Some first) (find p elements) → (p found ≡ true) × (q found ≡ true) in
    let cases : Goal (p first) = elim (p first) as Goal [
      | true ↦ λ passes is. let same : found ≡ first = cc in rw same (passes, both.0)
      | false ↦ λ fails is. found_passes p q elements found both.1 is
    ] in
    cases refl e
