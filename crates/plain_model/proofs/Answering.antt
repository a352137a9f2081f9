-- The segment in work is answered: what a session keeps.
use Rattle.std.proofs.Common.{◌≡◌, ℕ, suc, Bool, true, false, if◌then◌else◌, List, [], Option, Some, None, is_some, ap, sym, refl, subst, ◌∙◌}
use Rattle.std.proofs.Common.{le_refl, true≢false}
use Rattle.dss_frame.specs.declared.dss.Dss.{Dss}
use Rattle.ddm_codepoints.specs.CodePoint.{uowdsp}
use Rattle.ddm_codepoints.specs.Value.{committed}
use Rattle.unit_segments.specs.declared.command.Command.{Command}
use Rattle.unit_segments.specs.Strip.{stripped, has_ended, is_committed, end_says, end_message}
use Rattle.plain_model.specs.Core.{Core, first, number_in}
use Rattle.plain_model.specs.Answered.{answered, register_fault}
use Rattle.plain_model.specs.Plain.{Session, IsSending, seen, seen_of, segment_of, Answer}
use Rattle.plain_model.specs.Told.{Outcome, Committed, RolledBack, telling, told_by}
use Rattle.plain_model.proofs.Accounts.{Account, note, tell, Fits, books_ended}
use Rattle.plain_model.proofs.Cores.{is_bereft, IsAnswered, answered_is}
use Rattle.plain_model.proofs.Facts.{Fact, FactOf, works_start, books_with, same_unit}

pub seen_ended : (g : List Command) (part asking : List Dss) → (seen g part asking).ended ≡ has_ended g part
unfolding stripped
seen_ended g part asking = refl

end_fits : (b : Bool) (c : ℕ) → c ≡ (if b then 1 else 0) → Fits (Some (if b then Committed else RolledBack)) c
end_fits true c e = e
end_fits false c e = e

-- where the unit hasn't ended it wasn't committed
not_ended : (d : Option Dss) → is_some d ≡ false → end_says uowdsp committed d ≡ false
not_ended None e = refl
not_ended (Some d) e = absurd (true≢false e)

pub answer_keeps : {U : Type 0} (name : List ℕ) (q : Session U) (l : Account) → Fact q l → IsSending q.core
    → FactOf (answered name (seen_of q) q.core).core 0 [] q.in_flight (note (told_by q Answer) l)
unfolding answered
answer_keeps {U} name q l f sending = go (has_ended (segment_of q) q.part) refl
  where
    j : Core
    j = (answered name (seen_of q) q.core).core

    a : IsAnswered (seen_of q) q.core j
    a = answered_is name (number_in (first q.core.segments)) (register_fault (seen_of q) q.core) (seen_of q) q.core

    outcome : Outcome
    outcome = if is_committed (segment_of q) q.part then Committed else RolledBack

    bereft : is_bereft j.end ≡ false
    bereft = a.bereft sending.live

    live : is_bereft q.core.end ≡ false
    live = ap is_bereft sending.live

    unit_if : (b : Bool) → has_ended (segment_of q) q.part ≡ b → j.unit ≡ (if b then suc q.core.unit else q.core.unit)
    unit_if b e = a.unit ∙ ap (λ v. if v then suc q.core.unit else q.core.unit) (seen_ended (segment_of q) q.part q.asking ∙ e)

    go : (b : Bool) → has_ended (segment_of q) q.part ≡ b → FactOf j 0 [] q.in_flight (note (if has_ended
        (segment_of q) q.part then telling q.core.unit outcome else None) l)
    go true e = subst (λ b. FactOf j 0 [] q.in_flight (note (if b then telling q.core.unit outcome else None) l)) (sym e) (record {
      books = books_with (suc q.core.unit) j.unit q.core.owed j.owed (is_bereft q.core.end) (is_bereft j.end) q.in_flight (tell q.core.unit outcome l)
          (unit_if true e) a.owed (bereft ∙ sym live)
          (books_ended q.core.unit q.core.owed (is_bereft q.core.end) q.in_flight l outcome f.books live sending.owed
          (end_fits (is_committed (segment_of q) q.part) (l.commits q.core.unit) f.working));
      bereft_sent = λ t. a.sent;
      works = works_start j (λ ne. a.sent) (a.segments f.works.cut) (a.again f.works.again f.works.cut);
      working = ap l.commits (unit_if true e) ∙ f.books.above (suc q.core.unit) (le_refl (suc q.core.unit));
    })
    go false e = subst (λ b. FactOf j 0 [] q.in_flight (note (if b then telling q.core.unit outcome else None) l)) (sym e)
        (same_unit q.core j q.ran q.part q.in_flight l f (unit_if false e) a.owed (bereft
        ∙ sym live) (λ ne. a.sent) (λ t. a.sent) (a.segments f.works.cut) (a.again f.works.again f.works.cut)
        (ap (λ b. if b then 1 else 0) (not_ended (end_message (segment_of q) q.part) e)))
