-- Lists of bytes: what is a byte in them, and which other lists are lists of bytes then.
use Rattle.std.proofs.Common.{ℕ, ◌<◌, List, [], ◌∷◌, ◌++◌, length, get_or, take, drop, arith, inl, inr}
use Rattle.std.proofs.lemmas.Bool.{cases_lt}
use Rattle.std.proofs.lemmas.List.{get_or_past}
use Rattle.std.proofs.lemmas.List.Elements.{All-nil, All-cons, All-append, All-take, All-drop}
use Rattle.link_ends.specs.Bytes.{AreBytes}

-- at each place stands a byte, and 0 behind the last one
pub byte_at : (bytes : List ℕ) → AreBytes bytes → (i : ℕ) → get_or bytes i 0 < 256
byte_at bytes are i =
    elim (cases_lt i (length bytes)) [
      | inl lt ↦ are i 0 lt
      | inr le ↦ rw (get_or_past bytes i 0 le) (omega arith)
    ]

pub AreBytes-nil : AreBytes []
AreBytes-nil = All-nil (λ byte. byte < 256)

pub AreBytes-cons : (byte : ℕ) (bytes : List ℕ) → byte < 256 → AreBytes bytes → AreBytes (byte ∷ bytes)
AreBytes-cons byte bytes fits are = All-cons (λ b. b < 256) byte bytes fits are

pub AreBytes-append : (front back : List ℕ) → AreBytes front → AreBytes back → AreBytes (front ++ back)
AreBytes-append front back f b = All-append (λ byte. byte < 256) front back f b

pub AreBytes-take : (n : ℕ) (bytes : List ℕ) → AreBytes bytes → AreBytes (take n bytes)
AreBytes-take n bytes are = All-take (λ byte. byte < 256) n bytes are

pub AreBytes-drop : (n : ℕ) (bytes : List ℕ) → AreBytes bytes → AreBytes (drop n bytes)
AreBytes-drop n bytes are = All-drop (λ byte. byte < 256) n bytes are
