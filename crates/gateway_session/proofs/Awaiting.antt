-- What a session comes to when bytes were said: it looks for the next chain when all were, or goes on as it is.
use Rattle.std.proofs.Common.{◌≡◌, ◌==◌, ℕ, Bool, true, false, if◌then◌else◌, List, [], ◌∷◌, drop, length, Option, Some, None, is_some, slice_get}
use Rattle.std.proofs.Common.{option_copied, option_map, Bor, refl, sym, ap, ◌∙◌}
use Rattle.unit_segments.specs.declared.command.Command.{Command}
use Rattle.plain_model.specs.Core as core
use Rattle.session_core.specs.declared.end.CoreEnd.{CoreEnd}
use Rattle.session_core.specs.Seen.{seen_end}
use Rattle.gateway_session.specs.Session.{Session, uncounted}
use Rattle.gateway_session.specs.Steps.{awaits_chain, said_by, after_said, begin_next}
use Rattle.gateway_session.proofs.Counting.{same}

pub some_mapped : {T U : Type 0} (f : T → U) (o : Option T) → is_some (option_map f o) ≡ is_some o
some_mapped f None = refl
some_mapped f (Some x) = refl

-- ---- a session that looks for no chain

busy : (segments : List (List Command)) (end : Option core.End) → is_some (slice_get segments 0) ≡ true → awaits_chain segments end ≡ false
busy [] end e = absurd cc
busy (g ∷ segments) end e = refl

ended : (segments : List (List Command)) (end : Option core.End) → is_some end ≡ true → awaits_chain segments end ≡ false
ended [] None e = absurd cc
ended [] (Some end) e = refl
ended (g ∷ segments) end e = refl

says_on : (left : List ℕ) (s : Session) → (length left == 0) ≡ false → said_by left s ≡ record s { to_say = left }
says_on [] s e = absurd cc
says_on (byte ∷ bytes) s e = refl

waits : (left : List ℕ) (s : Session) → awaits_chain s.core.segments s.core.end ≡ false → said_by left s ≡ record s { to_say = left }
waits [] s e = ap (λ (b : Bool). if b then begin_next (record s { to_say = [] }) else record s { to_say = [] }) e
waits (byte ∷ bytes) s e = refl

-- ---- so many bytes were said, and it goes on as it is

stays : (n : ℕ) (s after : Session) → after ≡ record s { to_say = drop n s.to_say } → s.core.unit ≡ 0
    → said_by (drop n s.to_say) s ≡ record s { to_say = drop n s.to_say } → after ≡ uncounted (after_said n s)
unfolding after_said
stays n s after is zero_unit still = is ∙ sym (same (record s { to_say = drop n s.to_say }) zero_unit) ∙ sym (ap uncounted still)

-- some are left to be said
pub stays_saying : (n : ℕ) (s after : Session) (empty : Bool) → after ≡ record s { to_say = drop n s.to_say } → s.core.unit ≡ 0
    → empty ≡ (length after.to_say == 0) → empty ≡ false → after ≡ uncounted (after_said n s)
stays_saying n s after empty is zero_unit empty_is left =
    stays n s after is zero_unit
    (says_on (drop n s.to_say) s (ap (λ (a : Session). length a.to_say == 0) (sym is) ∙ sym empty_is ∙ left))

-- as code has it, it looks for none
stays_waiting : (n : ℕ) (s after there : Session) → after ≡ record s { to_say = drop n s.to_say } → s.core.unit ≡ 0 → there ≡ after
    → awaits_chain there.core.segments there.core.end ≡ false → after ≡ uncounted (after_said n s)
stays_waiting n s after there is zero_unit there_is e =
    stays n s after is zero_unit
    (waits (drop n s.to_say) s (ap (λ (a : Session). awaits_chain a.core.segments a.core.end) (sym is ∙ sym there_is) ∙ e))

-- a chain is in work
pub stays_busy : (n : ℕ) (s after there : Session) (first : Option (Bor (List Command))) (work : Bool) → after ≡ record s { to_say = drop n s.to_say }
    → s.core.unit ≡ 0 → there ≡ after → option_copied first ≡ slice_get there.core.segments 0 → work ≡ is_some first → work ≡ true
    → after ≡ uncounted (after_said n s)
stays_busy n s after there first work is zero_unit there_is first_is work_is works =
    stays_waiting n s after there is zero_unit there_is
    (busy there.core.segments there.core.end
    (ap (λ (o : Option (List Command)). is_some o) (sym first_is) ∙ some_mapped (λ (x : Bor (List Command)). x.now) first ∙ sym work_is ∙ works))

-- it has ended
pub stays_ended : (n : ℕ) (s after there : Session) (end : Option CoreEnd) (over : Bool) → after ≡ record s { to_say = drop n s.to_say }
    → s.core.unit ≡ 0 → there ≡ after → option_map seen_end end ≡ there.core.end → over ≡ is_some end → over ≡ true
    → after ≡ uncounted (after_said n s)
stays_ended n s after there end over is zero_unit there_is end_is over_is ends =
    stays_waiting n s after there is zero_unit there_is
    (ended there.core.segments there.core.end
    (ap (λ (o : Option core.End). is_some o) (sym end_is) ∙ some_mapped seen_end end ∙ sym over_is ∙ ends))
