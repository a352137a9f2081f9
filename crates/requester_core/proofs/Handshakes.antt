-- What a conversation sends in all.
use Rattle.std.proofs.Common.{◌≡◌, ℕ, Bool, true, false, List, [], ◌∷◌, ◌++◌, map, Option, Some, None, refl, sym, ap, ◌∙◌}
use Rattle.std.proofs.lemmas.List.{map-append}
use Rattle.access_handshake.specs.declared.access.Access.{Access}
use Rattle.access_handshake.specs.declared.stage.Stage.{Stage}
use Rattle.access_handshake.specs.declared.stage.Stage.TheVariants.{New, Attached}
use Rattle.unit_segments.specs.declared.command.Command.{Command}
use Rattle.unit_segments.specs.Registers.{Register}
use Rattle.unit_segments.specs.Spelling.{chain_bytes}
use Rattle.unit_segments.specs.Handshake.{handshake, hello_chains, replayed, in_chains, again_chains}
use Rattle.requester_core.specs.declared.round.Round.{Round}
use Rattle.requester_core.specs.declared.round.Round.TheVariants as round
use Rattle.requester_core.specs.Replay.{given}
use Rattle.requester_core.specs.Round.{bytes_of, silent, needed, work}
use Rattle.requester_core.specs.Talk.{Talking, again_for, begun}
use Rattle.requester_core.specs.Laws.{asked_of}

access_bytes : (chains : List (List Command)) → map bytes_of (map round.Access chains) ≡ map chain_bytes chains
access_bytes [] = refl
access_bytes (chain ∷ chains) = ap (λ (rest : List (List ℕ)). chain_bytes chain ∷ rest) (access_bytes chains)

again_bytes : (chains : List (List Command)) → map bytes_of (map round.Again chains) ≡ map chain_bytes chains
again_bytes [] = refl
again_bytes (chain ∷ chains) = ap (λ (rest : List (List ℕ)). chain_bytes chain ∷ rest) (again_bytes chains)

work_bytes : (segment : Option (List Command)) → map bytes_of (work segment) ≡ asked_of segment
work_bytes None = refl
work_bytes (Some segment) = refl

silent_bytes : (name : List ℕ) (stage : Stage) (access : Access) (log : List Register) (again : List Command) (dialled : Bool)
    → map bytes_of (silent name stage access log again dialled) ≡ map chain_bytes (handshake name stage access log again dialled)
unfolding handshake
silent_bytes name stage access log again dialled =
    let hello : List (List Command) = hello_chains dialled in
    let replay : List (List Command) = in_chains (replayed name stage access log) in
    let repeat : List (List Command) = again_chains stage again in
    map-append bytes_of (map round.Access hello ++ map round.Access replay) (map round.Again repeat)
    ∙ ap (λ (xs : List (List ℕ)). xs ++ map bytes_of (map round.Again repeat)) (map-append bytes_of (map round.Access hello) (map round.Access replay))
    ∙ ap (λ (xs : List (List ℕ)). xs ++ map bytes_of (map round.Access replay) ++ map bytes_of (map round.Again repeat)) (access_bytes hello)
    ∙ ap (λ (xs : List (List ℕ)). map chain_bytes hello ++ xs ++ map bytes_of (map round.Again repeat)) (access_bytes replay)
    ∙ ap (λ (xs : List (List ℕ)). map chain_bytes hello ++ map chain_bytes replay ++ xs) (again_bytes repeat)
    ∙ ap (λ (xs : List (List ℕ)). xs ++ map chain_bytes repeat) (sym (map-append chain_bytes hello replay))
    ∙ sym (map-append chain_bytes (hello ++ replay) repeat)

all_bytes : (rounds : List Round) (segment : Option (List Command)) (chains : List (List Command)) → map bytes_of rounds ≡ map chain_bytes chains
    → map bytes_of (rounds ++ work segment) ≡ map chain_bytes chains ++ asked_of segment
all_bytes rounds segment chains e =
    map-append bytes_of rounds (work segment)
    ∙ ap (λ (xs : List (List ℕ)). xs ++ map bytes_of (work segment)) e
    ∙ ap (λ (xs : List (List ℕ)). map chain_bytes chains ++ xs) (work_bytes segment)

pub dialled_bytes : (t : Talking) (stage : Stage) (mechanism : ℕ) (access : Option Access) (log : List Register) (again : List Command)
    (segment : Option (List Command)) → t.stage ≡ New
    → map bytes_of (begun stage mechanism access log again segment t).rounds
    ≡ map chain_bytes (handshake t.name stage (given mechanism access) log (again_for segment again) true) ++ asked_of segment
unfolding begun
dialled_bytes t stage mechanism access log again segment is =
    ap (λ (s : Stage). map bytes_of (needed s t.name stage (given mechanism access) log (again_for segment again) ++ work segment)) is
    ∙ all_bytes (silent t.name stage (given mechanism access) log (again_for segment again) true) segment
    (handshake t.name stage (given mechanism access) log (again_for segment again) true) (silent_bytes t.name stage (given mechanism access) log
    (again_for segment again) true)

pub idle_bytes : (t : Talking) (stage : Stage) (mechanism : ℕ) (access : Option Access) (log : List Register) (again : List Command)
    (segment : Option (List Command)) → t.stage ≡ Attached
    → map bytes_of (begun stage mechanism access log again segment t).rounds
    ≡ map chain_bytes (handshake t.name stage (given mechanism access) log (again_for segment again) false) ++ asked_of segment
unfolding begun
idle_bytes t stage mechanism access log again segment is =
    ap (λ (s : Stage). map bytes_of (needed s t.name stage (given mechanism access) log (again_for segment again) ++ work segment)) is
    ∙ all_bytes (silent t.name stage (given mechanism access) log (again_for segment again) false) segment
    (handshake t.name stage (given mechanism access) log (again_for segment again) false) (silent_bytes t.name stage (given mechanism access) log
    (again_for segment again) false)
