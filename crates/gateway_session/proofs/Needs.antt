-- What a need says of a session, and what a session closes with where memory ran out.
use Rattle.std.proofs.Common.{◌≡◌, ◌≢◌, ℕ, Bool, true, false, if◌then◌else◌, List, [], ◌∷◌, Option, Some, None, refl, sym, ap, ◌∙◌}
use Rattle.plain_model.specs.Core as core
use Rattle.reply_texts.specs.Closing.{memory_reply}
use Rattle.gateway_session.specs.declared.need.End.{End}
use Rattle.gateway_session.specs.declared.need.Need.{Need}
use Rattle.gateway_session.specs.declared.need.Need.TheVariants.{App, Lend, Dial, Send, Back, Give, Say, Done}
use Rattle.gateway_session.specs.declared.loss.LossWhy.{LossWhy}
use Rattle.gateway_session.specs.declared.session.Closing.{Closing as Left}
use Rattle.gateway_session.specs.declared.session.Last.{Last}
use Rattle.gateway_session.specs.Session.{Session, need_ended, need_by_saying, need_by_end, need, is_released}
use Rattle.gateway_session.specs.Memory.{State, Runs, Closes, KeepsSaying, IsLast, closing_with, closed_after, need_in, held_in}
use Rattle.gateway_session.specs.Closing.{state_of}

-- ---- a session that needs bytes or a transport

abbrev pub is_for_work : Need → Bool
is_for_work App = true
is_for_work Lend = true
is_for_work Dial = true
is_for_work Send = true
is_for_work Back = true
is_for_work Give = false
is_for_work Say = false
is_for_work (Done end) = false

-- it goes on, and has nothing to say
pub record AtWork (s : Session) (closing : Option Left) : Type 0 where
  pub going : closing ≡ None
  pub said : s.to_say ≡ []

ended_rests : (end : End) (bytes : List ℕ) (gone : Bool) → is_for_work (need_ended end bytes gone) ≡ true → ⊥
ended_rests end [] gone e = absurd cc
ended_rests end (byte ∷ bytes) true e = absurd cc
ended_rests end (byte ∷ bytes) false e = absurd cc

going_said : (b : Bool) (bytes : List ℕ) (s : Session) → is_for_work (if b then Give else need_by_saying bytes s) ≡ true → bytes ≡ []
going_said true bytes s e = absurd cc
going_said false [] s e = refl
going_said false (byte ∷ bytes) s e = absurd cc

said_by_end : (end : Option core.End) (s : Session) → is_for_work (need_by_end end s) ≡ true → s.to_say ≡ []
said_by_end None s e = going_said (is_released s.held) s.to_say s e
said_by_end (Some end) s e = absurd (ended_rests _ s.to_say s.gone e)

at_work : (s : Session) (closing : Option Left) → is_for_work (need_in (state_of s closing)) ≡ true → AtWork s closing
unfolding need
at_work s None e = record { going = refl; said = said_by_end s.core.end s e }
at_work s (Some left) e = absurd (ended_rests _ _ s.gone e)

-- the same, by what it needs before a step
pub works : (s : Session) (closing : Option Left) (before : State) (wanted : Need) → state_of s closing ≡ before → need_in before ≡ wanted
    → is_for_work wanted ≡ true → AtWork s closing
works s closing before wanted is e work = at_work s closing (ap (λ (b : State). is_for_work (need_in b)) is ∙ ap is_for_work e ∙ work)

-- ---- a session that closes needs none of the rest either

ended_keeps : (end : End) (bytes : List ℕ) (gone : Bool) → need_ended end bytes gone ≡ Give → ⊥
ended_keeps end [] gone e = absurd cc
ended_keeps end (byte ∷ bytes) true e = absurd cc
ended_keeps end (byte ∷ bytes) false e = absurd cc

pub gives : (s : Session) (closing : Option Left) (before : State) → state_of s closing ≡ before → need_in before ≡ Give → closing ≡ None
gives s None before is e = refl
gives s (Some left) before is e = absurd (ended_keeps _ _ s.gone (ap need_in is ∙ e))

pub holds : (s : Session) (closing : Option Left) (before : State) → state_of s closing ≡ before → held_in before ≢ None → closing ≡ None
holds s None before is some = refl
holds s (Some left) before is some = absurd (some (sym (ap held_in is)))

-- ---- want of memory

-- of a reply that was finished before, this was left to be said
pub closes_with : (rest : List ℕ) (s after : Session) (last : Last) → IsLast (Runs s) last → KeepsSaying (record s { to_say = rest }) after
    → closed_after last (Runs after) ≡ Closes (closing_with rest s)
closes_with rest s after last is kept =
    ap (λ (id : ℕ). Closes (record { id = id; rest = after.to_say; reply = memory_reply last.number; loss = last.loss; gone = after.gone })) kept.id
    ∙ ap (λ (bytes : List ℕ). Closes (record { id = s.id; rest = bytes; reply = memory_reply last.number; loss = last.loss; gone = after.gone })) kept.to_say
    ∙ ap (λ (n : ℕ). Closes (record { id = s.id; rest = rest; reply = memory_reply n; loss = last.loss; gone = after.gone })) is.0
    ∙ ap (λ (loss : Option (ℕ × LossWhy)). Closes (record (closing_with rest s) { loss = loss; gone = after.gone })) is.1
    ∙ ap (λ (gone : Bool). Closes (record (closing_with rest s) { gone = gone })) kept.gone
