-- SET statements lead to a unit, and to replies, that the data don't matter to.
use Rattle.std.proofs.Common.{◌≡◌, ◌==◌, not, if◌then◌else◌, List, [], ◌∷◌, refl, sym, ap, ◌∙◌, is_none}
use Rattle.std.specs.List.{AllByRecursion}
use Rattle.std.proofs.lemmas.Bool.{cond-true, cond-false}
use Rattle.ddm_codepoints.specs.CodePoint.{excsat, accsec, secchk, accrdb, rdbcmm, rdbrllbck, excsqlimm, excsqlset}
use Rattle.reply_texts.specs.Reply.{cmdnsp_object, prccnv_object}
use Rattle.access_handshake.specs.Stage.{next_stage}
use Rattle.unit_segments.specs.declared.command.Command.{Command}
use Rattle.member_replies.specs.Reply.{dsss_of}
use Rattle.plain_model.specs.UnitEnd.{unasked}
use Rattle.plain_model.specs.Group.{Set, led, answers}
use Rattle.group_store.specs.Unit.{UnitState}
use Rattle.group_store.specs.Answered.{Answered, refuses}
use Rattle.group_store.specs.Execute.{excsqlset_answered}
use Rattle.group_store.specs.Store.{StoreState, is_known, done, answered, data_after, unit_after, replies, store_meaning}
use Rattle.group_store.specs.GroupLaws.UnitEnds.{unasked_code}

done_set : (s : StoreState) (u : UnitState) (d : Command) → d.code ≡ excsqlset → done s u d ≡ excsqlset_answered u d
done_set s u d e =
    cond-false (d.code == excsat) _ _ (ap (λ n. n == excsat) e)
    ∙ cond-false (d.code == accsec) _ _ (ap (λ n. n == accsec) e)
    ∙ cond-false (d.code == secchk) _ _ (ap (λ n. n == secchk) e)
    ∙ cond-false (d.code == accrdb) _ _ (ap (λ n. n == accrdb) e)
    ∙ cond-false (d.code == rdbcmm) _ _ (ap (λ n. n == rdbcmm) e)
    ∙ cond-false (d.code == rdbrllbck) _ _ (ap (λ n. n == rdbrllbck) e)
    ∙ cond-false (d.code == excsqlimm) _ _ (ap (λ n. n == excsqlimm) e)
    ∙ cond-true (d.code == excsqlset) _ _ (ap (λ n. n == excsqlset) e)

set_alike : (s t : StoreState) (u : UnitState) (d : Command) → d.code ≡ excsqlset → answered s u d ≡ answered t u d
unfolding answered
set_alike s t u d e =
    ap (λ (a : Answered). if not (is_known d.code) then refuses u (cmdnsp_object d.code)
    else (if is_none (next_stage u.stage d.code) then refuses u prccnv_object else a)) (done_set s u d e ∙ sym (done_set t u d e))

unit_alike : (s t : StoreState) (u : UnitState) (d : Command) → d.code ≡ excsqlset → unit_after s u d ≡ unit_after t u d
unfolding unit_after
unit_alike s t u d e = ap (λ (a : Answered). a.unit) (set_alike s t u d e)

replies_alike : (s t : StoreState) (u : UnitState) (d : Command) → d.code ≡ excsqlset → replies s u d ≡ replies t u d
unfolding replies
replies_alike s t u d e = ap (λ (a : Answered). dsss_of d.corr a.said) (set_alike s t u d e)

pub led_alike : (cs : List Command) (s t : StoreState) (u : UnitState) → AllByRecursion Set cs → led store_meaning s u cs ≡ led store_meaning t u cs
led_alike [] s t u sets = refl
led_alike (c ∷ cs) s t u sets =
    ap (λ v. led store_meaning (data_after s u (unasked c)) v cs) (unit_alike s t u (unasked c) (unasked_code c ∙ sets.0))
    ∙ led_alike cs (data_after s u (unasked c)) (data_after t u (unasked c)) (unit_after t u (unasked c)) sets.1

pub answers_alike : (cs : List Command) (s t : StoreState) (u : UnitState) → AllByRecursion Set cs
    → answers store_meaning s u cs ≡ answers store_meaning t u cs
answers_alike [] s t u sets = refl
answers_alike (c ∷ cs) s t u sets =
    ap (λ r. r ∷ answers store_meaning (data_after s u (unasked c)) (unit_after s u (unasked c)) cs) (replies_alike s t u (unasked c) (unasked_code c ∙ sets.0))
    ∙ ap (λ v. replies t u (unasked c) ∷ answers store_meaning (data_after s u (unasked c)) v cs) (unit_alike s t u (unasked c) (unasked_code c ∙ sets.0))
    ∙ ap (λ rs. replies t u (unasked c) ∷ rs)
    (answers_alike cs (data_after s u (unasked c)) (data_after t u (unasked c)) (unit_after t u (unasked c)) sets.1)
