-- Commands that run one after another: where they stand doesn't matter, and those that set registers leave the data.
use Rattle.std.proofs.Common.{◌≡◌, ◌==◌, ◌&&◌, Bool, false, List, [], ◌∷◌, ap, refl, ◌∙◌}
use Rattle.std.specs.List.{AllByRecursion}
use Rattle.ddm_codepoints.specs.CodePoint.{rdbcmm}
use Rattle.unit_segments.specs.declared.command.Command.{Command}
use Rattle.plain_model.specs.UnitEnd.{unasked, says_committed}
use Rattle.plain_model.specs.Group.{Meaning, Values, Laws, IsCommand, Set, renumbered, led, answers}
use Rattle.plain_model.specs.Repeats.{data_led, AreSame, renumbered_as}
use Rattle.plain_model.proofs.Runs.{without_code, without_number}

pub led_same : {S U : Type 0} {m : Meaning S U} {v : Values S U} → Laws m v → (cs ds : List Command) (s : S) (u : U) → v.shared s → v.unit u
    → AllByRecursion IsCommand cs → AreSame cs ds → led m s u ds ≡ led m s u cs
led_same laws [] [] s u sh un all are = refl
led_same laws [] (d ∷ ds) s u sh un all are = absurd are
led_same laws (c ∷ cs) [] s u sh un all are = absurd are
led_same {m = m} laws (c ∷ cs) (d ∷ ds) s u sh un all are =
    let does = (laws.anywhere s u c sh un all.0 d are.0).0 in
    ap (λ t. led m t (m.unit_after s u (unasked d)) ds) does.same_data
    ∙ ap (λ w. led m (m.data_after s u (unasked c)) w ds) does.same_unit
    ∙ led_same laws cs ds (m.data_after s u (unasked c)) (m.unit_after s u (unasked c)) (laws.data_kept s u c sh un all.0).0
    (laws.unit_kept s u c sh un all.0).0 all.1 are.1

pub answered_same : {S U : Type 0} {m : Meaning S U} {v : Values S U} → Laws m v → (cs ds : List Command) (s : S) (u : U) → v.shared s → v.unit u
    → AllByRecursion IsCommand cs → AreSame cs ds → answers m s u ds ≡ renumbered_as ds (answers m s u cs)
answered_same laws [] [] s u sh un all are = refl
answered_same laws [] (d ∷ ds) s u sh un all are = absurd are
answered_same laws (c ∷ cs) [] s u sh un all are = absurd are
answered_same {m = m} laws (c ∷ cs) (d ∷ ds) s u sh un all are =
    let does = (laws.anywhere s u c sh un all.0 d are.0).0 in
    ap (λ t. m.replies s u (unasked d) ∷ answers m t (m.unit_after s u (unasked d)) ds) does.same_data
    ∙ ap (λ w. m.replies s u (unasked d) ∷ answers m (m.data_after s u (unasked c)) w ds) does.same_unit
    ∙ ap (λ r. r ∷ answers m (m.data_after s u (unasked c)) (m.unit_after s u (unasked c)) ds) (does.same_replies
    ∙ ap (λ n. renumbered n (m.replies s u (unasked c))) (without_number d))
    ∙ ap (λ rs. renumbered d.corr (m.replies s u (unasked c)) ∷ rs) (answered_same laws cs ds (m.data_after s u (unasked c))
    (m.unit_after s u (unasked c)) (laws.data_kept s u c sh un all.0).0 (laws.unit_kept s u c sh un all.0).0 all.1 are.1)

-- a command that sets registers commits nothing
set_commits : (c : Command) (b : Bool) → Set c → (c.code == rdbcmm && b) ≡ false
set_commits c b e = ap (λ n. n == rdbcmm && b) e

set_stays : {S U : Type 0} {m : Meaning S U} {v : Values S U} → Laws m v → (c : Command) (s : S) (u : U) → v.shared s → v.unit u → IsCommand c → Set c
    → m.data_after s u (unasked c) ≡ s
set_stays {m = m} laws c s u sh un is set =
    (laws.data_stay s u c sh un is).0 (set_commits (unasked c) (says_committed (m.replies s u (unasked c))) (without_code c ∙ set))

pub sets_stay : {S U : Type 0} {m : Meaning S U} {v : Values S U} → Laws m v → (cs : List Command) (s : S) (u : U) → v.shared s → v.unit u
    → AllByRecursion IsCommand cs → AllByRecursion Set cs → data_led m s u cs ≡ s
sets_stay laws [] s u sh un all sets = refl
sets_stay {m = m} laws (c ∷ cs) s u sh un all sets =
    sets_stay laws cs (m.data_after s u (unasked c)) (m.unit_after s u (unasked c)) (laws.data_kept s u c sh un all.0).0
    (laws.unit_kept s u c sh un all.0).0 all.1 sets.1
    ∙ set_stays laws c s u sh un all.0 sets.0
