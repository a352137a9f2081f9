-- One turn more.
use Rattle.std.proofs.Common.{◌≡◌, ℕ, List, [], ◌∷◌, ◌++◌, Option, Some, None, ◌∙◌, ap, sym, refl, append_assoc}
use Rattle.std.proofs.lemmas.List.{append-nil}
use Rattle.std.proofs.lemmas.Fn.{FoldsTo-push}
use Rattle.gateway_session.specs.Memory.{State, to_say_in}
use Rattle.gateway_session.specs.Inputs.{Input, App, Lend, Dialled, Sent, Back, Given, Said, Lose, AppEnd}
use Rattle.gateway_server.specs.Events.{heard_after, taken_after}
use Rattle.gateway_server.specs.Feeding.{after_turn}
use Rattle.gateway_server.specs.Went.{Fed, Went, after_all, piece_of, heard_by, bytes_said, said_by, more}
use Rattle.gateway_server.proofs.Told.{told_none}

more_more : (told : Option (List ℕ)) (xs ys : List ℕ) → more (more told xs) ys ≡ more told (xs ++ ys)
more_more None xs ys = refl
more_more (Some zs) xs ys = ap Some (append_assoc zs xs ys)

heard_so : (told : Option (List ℕ)) (i : Input) → heard_after told i ≡ more told (piece_of i)
heard_so told (App piece) = refl
heard_so told (Lend lent) = sym (told_none told)
heard_so told (Dialled reached) = sym (told_none told)
heard_so told (Sent count) = sym (told_none told)
heard_so told (Back piece) = sym (told_none told)
heard_so told Given = sym (told_none told)
heard_so told (Said count) = sym (told_none told)
heard_so told (Lose reason) = sym (told_none told)
heard_so told (AppEnd failed) = sym (told_none told)

taken_so : (told : Option (List ℕ)) (i : Input) (state : State) → taken_after told i (to_say_in state) ≡ more told (bytes_said i state)
taken_so told (App piece) state = sym (told_none told)
taken_so told (Lend lent) state = sym (told_none told)
taken_so told (Dialled reached) state = sym (told_none told)
taken_so told (Sent count) state = sym (told_none told)
taken_so told (Back piece) state = sym (told_none told)
taken_so told Given state = sym (told_none told)
taken_so told (Said count) state = refl
taken_so told (Lose reason) state = sym (told_none told)
taken_so told (AppEnd failed) state = sym (told_none told)

after_push : (state : State) (turns : List Fed) (t : Fed) → after_all (turns ++ t ∷ []) state ≡ after_turn t.memory t.input (after_all turns state)
after_push state [] t = refl
after_push state (first ∷ others) t = after_push (after_turn first.memory first.input state) others t

heard_push : (turns : List Fed) (t : Fed) → heard_by (turns ++ t ∷ []) ≡ heard_by turns ++ piece_of t.input
heard_push [] t = append-nil (piece_of t.input)
heard_push (first ∷ others) t =
    ap (λ (bytes : List ℕ). piece_of first.input ++ bytes) (heard_push others t)
    ∙ sym (append_assoc (piece_of first.input) (heard_by others) (piece_of t.input))

said_push : (state : State) (turns : List Fed) (t : Fed)
    → said_by (turns ++ t ∷ []) state ≡ said_by turns state ++ bytes_said t.input (after_all turns state)
said_push state [] t = append-nil (bytes_said t.input state)
said_push state (first ∷ others) t =
    let next = after_turn first.memory first.input state in
    ap (λ (bytes : List ℕ). bytes_said first.input state ++ bytes) (said_push next others t)
    ∙ sym (append_assoc (bytes_said first.input state) (said_by others next) (bytes_said t.input (after_all others next)))

module _ {R : Type 0} (Turn : R → Fed → R → Type 0) (session : R → State) (heard taken : R → Option (List ℕ)) (r : R) where
  -- before any turn
  pub went_nowhere : Went Turn session heard taken r r
  went_nowhere = record { turns = []; made = refl; after = refl; read = sym (told_none (heard r)); said = sym (told_none (taken r)) }

  pub went_on : (r' r'' : R) → Went Turn session heard taken r r' → (t : Fed) → Turn r' t r'' → session r'' ≡ after_turn t.memory t.input (session r')
      → heard r'' ≡ heard_after (heard r') t.input → taken r'' ≡ taken_after (taken r') t.input (to_say_in (session r'))
      → Went Turn session heard taken r r''
  went_on r' r'' w t made after read said = record {
    turns = w.turns ++ t ∷ [];
    made = FoldsTo-push Turn r w.turns r' t r'' w.made made;
    after = after ∙ (ap (after_turn t.memory t.input) w.after ∙ sym (after_push (session r) w.turns t));
    read = read ∙ (heard_so (heard r') t.input ∙ (ap (λ (told : Option (List ℕ)). more told (piece_of t.input)) w.read
        ∙ (more_more (heard r) (heard_by w.turns) (piece_of t.input) ∙ ap (more (heard r)) (sym (heard_push w.turns t)))));
    said = said ∙ (taken_so (taken r') t.input (session r') ∙ (ap (λ (told : Option (List ℕ)). more told (bytes_said t.input (session r'))) w.said
        ∙ (more_more (taken r) (said_by w.turns (session r)) (bytes_said t.input (session r'))
        ∙ ap (λ (bytes : List ℕ). more (taken r) (said_by w.turns (session r) ++ bytes)) (ap (bytes_said t.input) w.after)
        ∙ ap (more (taken r)) (sym (said_push (session r) w.turns t)))));
  }
