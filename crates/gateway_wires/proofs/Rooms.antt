-- Room is made for one transport after another.
use Rattle.std.proofs.Common.{◌≡◌, ◌<◌, ◌≤◌, ◌+◌, ◌-◌, ℕ, zero, suc, List, [], ◌∷◌, ◌++◌, length, replicate, Option, None, refl, sym, ap, ◌∙◌, arith}
use Rattle.std.proofs.lemmas.List.{append-nil, length-append, length-replicate}
use Rattle.gateway_wires.specs.Wires.{with_room}

-- so much room was made, and no more than there is to be
pub record Makes {A : Type 0} (number : ℕ) (old new : List (Option A)) : Type 0 where
  pub room : ℕ
  pub least : room ≤ suc number - length old
  pub is : new ≡ old ++ replicate room None

one_more : {A : Type 0} (old : List (Option A)) (room : ℕ) → (old ++ replicate room None) ++ None ∷ [] ≡ old ++ replicate (suc room) None
one_more [] zero = refl
one_more [] (suc room) = ap (λ (xs : List (Option _)). None ∷ xs) (one_more [] room)
one_more (x ∷ old) room = ap (λ (xs : List (Option _)). x ∷ xs) (one_more old room)

pub makes_none : {A : Type 0} (number : ℕ) (old : List (Option A)) → Makes number old old
makes_none number old = record { room = 0; least = omega arith; is = sym (append-nil old) }

made : {A : Type 0} (old : List (Option A)) (room : ℕ) → length (old ++ replicate room None) ≡ length old + room
made old room = length-append old (replicate room None) ∙ ap (λ (n : ℕ). length old + n) (length-replicate room None)

pub makes_more : {A : Type 0} (number : ℕ) (old new : List (Option A)) → Makes number old new → length new ≤ number → Makes number old (new ++ None ∷ [])
makes_more number old new makes le = record {
  room = suc makes.room;
  least = let h = ap length makes.is ∙ made old makes.room in omega (arith, h, le);
  is = ap (λ (xs : List (Option _)). xs ++ None ∷ []) makes.is ∙ one_more old makes.room;
}

pub makes_all : {A : Type 0} (number : ℕ) (old new : List (Option A)) → Makes number old new → number < length new → new ≡ with_room number old
makes_all number old new makes lt =
    let h = ap length makes.is ∙ made old makes.room in
    let k = makes.least in
    let same : makes.room ≡ suc number - length old = omega (arith, h, k, lt) in
    makes.is ∙ ap (λ (n : ℕ). old ++ replicate n None) same
