-- What is left of bytes without the spaces at their end.
use Rattle.std.proofs.Common.{◌≡◌, ℕ, ◌==◌, ◌≢◌, false, List, [], ◌∷◌, ◌++◌, refl, sym, ap, ◌∙◌, ne_eqb}
use Rattle.ddm_codepoints.specs.Character.{space, without_blank, trimmed}

trimmed_blank : (bytes : List ℕ) → trimmed (bytes ++ space ∷ []) ≡ trimmed bytes
trimmed_blank [] = refl
trimmed_blank (byte ∷ bytes) = ap (without_blank byte) (trimmed_blank bytes)

before_kept : (byte last : ℕ) (bytes : List ℕ) → without_blank byte (bytes ++ last ∷ []) ≡ byte ∷ bytes ++ last ∷ []
before_kept byte last [] = refl
before_kept byte last (next ∷ bytes) = refl

trimmed_kept : (bytes : List ℕ) (last : ℕ) → (last == space) ≡ false → trimmed (bytes ++ last ∷ []) ≡ bytes ++ last ∷ []
trimmed_kept [] last e = rw e refl
trimmed_kept (byte ∷ bytes) last e = ap (without_blank byte) (trimmed_kept bytes last e) ∙ before_kept byte last bytes

pub blank_dropped : (bytes front : List ℕ) (last : ℕ) → bytes ≡ front ++ last ∷ [] → last ≡ space → trimmed front ≡ trimmed bytes
blank_dropped bytes front last e blank = sym (ap trimmed e ∙ ap (λ byte. trimmed (front ++ byte ∷ [])) blank ∙ trimmed_blank front)

pub nothing_dropped : (bytes front : List ℕ) (last : ℕ) → bytes ≡ front ++ last ∷ [] → last ≢ space → bytes ≡ trimmed bytes
nothing_dropped bytes front last e kept = sym (ap trimmed e ∙ trimmed_kept front last (ne_eqb last space kept) ∙ sym e)
