-- A chain comes into work, or a fault in its place: what a session keeps.
use Rattle.std.proofs.Common.{◌≡◌, ℕ, if◌then◌else◌, List, [], None, ap, sym, refl, subst, ◌∙◌, true≢false}
use Rattle.std.specs.List.{AllByRecursion}
use Rattle.dss_frame.specs.declared.dss.Dss.{Dss}
use Rattle.unit_segments.specs.Segment.{segments_of}
use Rattle.plain_model.specs.Core.{Core, first, settled, finished}
use Rattle.plain_model.specs.Group.{IsCommand}
use Rattle.plain_model.specs.Begun.{Reading, Chain, Fault, TooLong, IsReading, begun}
use Rattle.plain_model.specs.Plain.{InFlight}
use Rattle.plain_model.proofs.Segments.{segments_cut}
use Rattle.plain_model.proofs.Replies.{none_zero, committed_in}
use Rattle.plain_model.proofs.Accounts.{Account}
use Rattle.plain_model.proofs.Cores.{is_bereft, settled_finished}
use Rattle.plain_model.proofs.Facts.{FactOf, won, same_unit}

-- no segment is in work: nothing is won
pub idle_won : {U : Type 0} (k : Core) (ran : ℕ) (part : List Dss) (flight : ℕ → InFlight U) (l : Account) → FactOf k ran part flight l
    → k.segments ≡ [] → won (first k.segments) part ≡ 0
idle_won k ran part flight l f e =
    ap (λ gs. won (first gs) part) e ∙ ap (λ replies. if committed_in replies then 1 else 0) (none_zero ran part f.works.up_to)

pub begin_keeps : {U : Type 0} (name : List ℕ) (reading : Reading) (k : Core) (ran : ℕ) (part : List Dss) (flight : ℕ → InFlight U) (l : Account)
    → FactOf k ran part flight l
    → k.end ≡ None → k.segments ≡ [] → IsReading reading → FactOf (begun name reading k).core 0 [] flight l
unfolding begun
begin_keeps name (Chain commands) k ran part flight l f live idle is =
    let k2 : Core = record k { segments = segments_of commands } in
    let same = settled_finished name k2 in
    let j : Core = (finished (settled name k2)).core in
    same_unit k j ran part flight l f same.unit same.owed (ap is_bereft same.end)
    (λ ne. same.sent ∙ f.works.owed_sent (λ e. ne (same.owed ∙ e)))
    (λ e. same.sent ∙ f.bereft_sent (sym (ap is_bereft same.end) ∙ e))
    (same.segments (segments_cut commands is.1))
    (subst (AllByRecursion IsCommand) (sym same.again) f.works.again)
    (idle_won k ran part flight l f idle)
begin_keeps name (Fault place error number) k ran part flight l f live idle is =
    same_unit k (begun name (Fault place error number) k).core ran part flight l f refl refl (sym (ap is_bereft live)) f.works.owed_sent
    (λ e. absurd (true≢false (sym e))) f.works.cut f.works.again (idle_won k ran part flight l f idle)
begin_keeps name (TooLong number) k ran part flight l f live idle is =
    same_unit k (begun name (TooLong number) k).core ran part flight l f refl refl (sym (ap is_bereft live)) f.works.owed_sent (λ e. absurd
    (true≢false (sym e))) f.works.cut f.works.again (idle_won k ran part flight l f idle)
