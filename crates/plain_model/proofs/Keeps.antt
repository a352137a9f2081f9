-- The values of all sessions stay the group's.
use Rattle.std.proofs.Common.{ℕ, List, [], ◌∷◌}
use Rattle.std.proofs.lemmas.Bool.{cond_both}
use Rattle.std.specs.List.{AllByRecursion}
use Rattle.unit_segments.specs.declared.command.Command.{Command}
use Rattle.plain_model.specs.UnitEnd.{unasked}
use Rattle.plain_model.specs.Group.{Meaning, Values, Laws, IsCommand, led}
use Rattle.plain_model.specs.Core.{Core, Owed, After}
use Rattle.plain_model.specs.Begun.{begun}
use Rattle.plain_model.specs.Answered.{answered}
use Rattle.plain_model.specs.Lost.{commit_sent, lost_owing, lost, accepted, none_left}
use Rattle.plain_model.specs.Plain.{Session, InFlight, What, Begin, Sent, Run, Answer, Lose, RunLate, Accept, NoneLeft, Close, Leave, put}
use Rattle.plain_model.specs.Plain.{segment_of, seen_of, to_run, data_run, data_after, with_after, run_first, run_late, lose, session_after}
use Rattle.plain_model.proofs.Puts.{put_holds}
use Rattle.plain_model.proofs.Segments.{first_cut}
use Rattle.plain_model.proofs.Accounts.{Account}
use Rattle.plain_model.proofs.Cores.{where_lost}
use Rattle.plain_model.proofs.Facts.{Fact}
use Rattle.plain_model.proofs.Loses.{left_segment}

pub record AreValues {S U : Type 0} (v : Values S U) (q : Session U) : Type 0 where
  pub held : v.unit q.held
  pub in_flight : (n : ℕ) → v.unit (q.in_flight n).held

data_run_kept : {S U : Type 0} {m : Meaning S U} {v : Values S U} → Laws m v → (s : S) (u : U) (cs : List Command) → v.shared s → v.unit u
    → AllByRecursion IsCommand cs → v.shared (data_run m s u cs)
data_run_kept laws s u [] sh un all = sh
data_run_kept laws s u (c ∷ cs) sh un all = (laws.data_kept s u c sh un all.0).0

to_run_commands : {U : Type 0} (q : Session U) (l : Account) → Fact q l → AllByRecursion IsCommand (to_run q)
to_run_commands q l f = (left_segment (segment_of q) q.ran q.part (first_cut q.core.segments f.works.cut)).commands

pub data_kept : {S U : Type 0} {m : Meaning S U} {v : Values S U} → Laws m v → (s : S) (q : Session U) (l : Account) (what : What) → v.shared s
    → AreValues v q → Fact q l → v.shared (data_after m s q what)
data_kept laws s q l (Begin reading) sh are f = sh
data_kept laws s q l Sent sh are f = sh
data_kept laws s q l Run sh are f = data_run_kept laws s q.held (to_run q) sh are.held (to_run_commands q l f)
data_kept laws s q l Answer sh are f = sh
data_kept laws s q l Lose sh are f = sh
data_kept laws s q l (RunLate n) sh are f = data_run_kept laws s (q.in_flight n).held (q.in_flight n).commands sh (are.in_flight n) (f.books.shape n).commands
data_kept laws s q l Accept sh are f = sh
data_kept laws s q l NoneLeft sh are f = sh
data_kept laws s q l (Close which) sh are f = sh
data_kept laws s q l (Leave failed) sh are f = sh

pub led_kept : {S U : Type 0} {m : Meaning S U} {v : Values S U} → Laws m v → (cs : List Command) (s : S) (u : U) → v.shared s → v.unit u
    → AllByRecursion IsCommand cs → v.unit (led m s u cs)
led_kept laws [] s u sh un all = un
led_kept {m = m} laws (c ∷ cs) s u sh un all =
    led_kept laws cs (m.data_after s u (unasked c)) (m.unit_after s u (unasked c)) (laws.data_kept s u c sh un all.0).0
    (laws.unit_kept s u c sh un all.0).0 all.1

after_kept : {S U : Type 0} {m : Meaning S U} {v : Values S U} → Laws m v → (after : After) (q : Session U) → AreValues v q
    → AreValues v (with_after m after q)
after_kept {m = m} {v = v} laws after q are = record {
  held = cond_both after.moved (m.base after.core.standing) q.held v.unit (λ e. laws.base_unit after.core.standing) (λ e. are.held);
  in_flight = are.in_flight;
}

run_kept : {S U : Type 0} {m : Meaning S U} {v : Values S U} → Laws m v → (s : S) (q : Session U) (cs : List Command) → v.shared s → AreValues v q
    → AllByRecursion IsCommand cs → AreValues v (run_first m s q cs)
run_kept laws s q [] sh are all = are
run_kept laws s q (c ∷ cs) sh are all = record { held = (laws.unit_kept s q.held c sh are.held all.0).0; in_flight = are.in_flight }

late_kept : {S U : Type 0} {m : Meaning S U} {v : Values S U} → Laws m v → (s : S) (n : ℕ) (q : Session U) (u : U) (cs : List Command) → v.shared s
    → v.unit u → AreValues v q → AllByRecursion IsCommand cs → AreValues v (run_late m s n q u cs)
late_kept laws s n q u [] sh un are all = are
late_kept {U = U} {m = m} {v = v} laws s n q u (c ∷ cs) sh un are all = record {
  held = are.held;
  in_flight = put_holds q.in_flight n (record { held = m.unit_after s u (unasked c); commands = cs }) (λ k (o : InFlight U). v.unit o.held)
      (laws.unit_kept s u c sh un all.0).0 (λ k ne. are.in_flight k);
}

lost_again_commands : (o : Owed) (k : Core) → AllByRecursion IsCommand k.again → AllByRecursion IsCommand (lost_owing o k).again
lost_again_commands o k all = where_lost (λ j. AllByRecursion IsCommand j.again) o k (λ n e. tt) (λ n e. tt) all

lost_commands : (k : Core) → AllByRecursion IsCommand k.again → AllByRecursion IsCommand (lost k).again
unfolding lost
lost_commands k all = lost_again_commands k.owed k all

lose_kept : {S U : Type 0} {m : Meaning S U} {v : Values S U} → Laws m v → (s : S) (q : Session U) (l : Account) → v.shared s → AreValues v q
    → Fact q l → AreValues v (lose m s q)
lose_kept {U = U} {m = m} {v = v} laws s q l sh are f = record {
  held = led_kept laws (lost q.core).again s (m.base q.core.standing) sh (laws.base_unit q.core.standing) (lost_commands q.core f.works.again);
  in_flight = cond_both (commit_sent q.core) (put q.in_flight q.core.unit (record { held = q.held; commands = to_run q })) q.in_flight (λ flight.
      (n : ℕ) → v.unit (flight n).held)
      (λ e. put_holds q.in_flight q.core.unit (record { held = q.held; commands = to_run q }) (λ k (o : InFlight U). v.unit o.held) are.held
      (λ k ne. are.in_flight k))
      (λ e. are.in_flight);
}

pub values_kept : {S U : Type 0} {m : Meaning S U} {v : Values S U} → Laws m v
    → (name : List ℕ) (s : S) (q : Session U) (l : Account) (what : What) → v.shared s → AreValues v q → Fact q l
    → AreValues v (session_after name m s q what)
values_kept laws name s q l (Begin reading) sh are f = after_kept laws (begun name reading q.core) q are
values_kept laws name s q l Sent sh are f = record { held = are.held; in_flight = are.in_flight }
values_kept laws name s q l Run sh are f = run_kept laws s q (to_run q) sh are (to_run_commands q l f)
values_kept laws name s q l Answer sh are f = after_kept laws (answered name (seen_of q) q.core) q are
values_kept laws name s q l Lose sh are f = lose_kept laws s q l sh are f
values_kept laws name s q l (RunLate n) sh are f = late_kept laws s n q (q.in_flight n).held (q.in_flight n).commands sh (are.in_flight n) are
    (f.books.shape n).commands
values_kept laws name s q l Accept sh are f = after_kept laws (accepted name q.core) q are
values_kept laws name s q l NoneLeft sh are f = after_kept laws (none_left name q.core) q are
values_kept laws name s q l (Close which) sh are f = record { held = are.held; in_flight = are.in_flight }
values_kept laws name s q l (Leave failed) sh are f = record { held = are.held; in_flight = are.in_flight }
