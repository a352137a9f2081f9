-- What runs again after a loss comes to the same, whatever the data are then. No standard speaks of it: it is this project's
-- own.
use Rattle.std.specs.Prelude.{◌≡◌, ◌≢◌, ℕ, true, List, [], ◌∷◌}
use Rattle.dss_frame.specs.declared.dss.Dss.{Dss}
use Rattle.access_handshake.specs.declared.stage.Stage.{Stage}
use Rattle.access_handshake.specs.declared.stage.Stage.TheVariants.{Accessed}
use Rattle.unit_segments.specs.declared.command.Command.{Command}
use Rattle.plain_model.specs.UnitEnd.{unasked}
use Rattle.plain_model.specs.Group.{Meaning, IsSame, renumbered, led, answers}
use Rattle.plain_model.specs.Core.{Core, Nothing}
use Rattle.plain_model.specs.Plain.{Session, Event, start, plain, lose, ArePossible}

-- nothing was done in a unit of work, and nothing is owed, before the database was accessed
pub record IsDoneAt (stage : Stage) (k : Core) : Type 0 where
  pub again : k.again ≢ [] → stage ≡ Accessed
  pub spoken : k.spoken ≡ true → stage ≡ Accessed
  pub pinned : k.pinned ≡ true → stage ≡ Accessed
  pub owed : k.owed ≢ Nothing → stage ≡ Accessed

-- ---- what runs again

-- these are the same commands, in order, wherever they stand and whatever their numbers
abbrev pub AreSame : List Command → List Command → Type 0
AreSame [] [] = Unit {0}
AreSame (c ∷ cs) (d ∷ ds) = IsSame c d × AreSame cs ds
AreSame _ _ = ⊥

-- the replies to each command, with the numbers of these commands
abbrev pub renumbered_as : List Command → List (List Dss) → List (List Dss)
renumbered_as [] replies = []
renumbered_as (d ∷ ds) [] = []
renumbered_as (d ∷ ds) (r ∷ replies) = renumbered d.corr r ∷ renumbered_as ds replies

-- the data that commands leave where none asks
abbrev pub data_led : {S U : Type 0} → Meaning S U → S → U → List Command → S
data_led m s u [] = s
data_led m s u (c ∷ cs) = data_led m (m.data_after s u (unasked c)) (m.unit_after s u (unasked c)) cs

pub record NeedsNoData {S U : Type 0} (m : Meaning S U) (is_shared : S → Type 0) (q : Session U) : Type 0 where
  pub done : IsDoneAt q.core.standing.stage q.core
  -- from the base the commands that run again, with whatever numbers, lead to one unit, and are answered alike
  pub unit : (ds : List Command) → AreSame q.core.again ds → (s t : S) → is_shared s → is_shared t
      → led m s (m.base q.core.standing) q.core.again ≡ led m t (m.base q.core.standing) ds
  pub replies : (ds : List Command) → AreSame q.core.again ds → (s t : S) → is_shared s → is_shared t
      → renumbered_as ds (answers m s (m.base q.core.standing) q.core.again) ≡ answers m t (m.base q.core.standing) ds
  -- they leave the data
  pub data_stay : (s : S) → is_shared s → data_led m s (m.base q.core.standing) q.core.again ≡ s
  -- and that unit is the one that a loss leaves
  pub lost : (s t : S) → is_shared s → is_shared t
      → (lose m s q).held ≡ led m t (m.base (lose m s q).core.standing) (lose m s q).core.again

-- of each session after every list of events each of which is possible where it stands
abbrev pub NoRepeatNeedsData : {S U : Type 0} → List ℕ → Meaning S U → (S → Type 0) → Type 0
NoRepeatNeedsData {S} name m is_shared =
    (s : S) → is_shared s → (events : List Event) → ArePossible name m (start m s) events → (i : ℕ)
    → NeedsNoData m is_shared ((plain name m (start m s) events).session i)
