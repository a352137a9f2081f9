-- What holds of the core of every session, whatever happens. No standard speaks of it: it is this project's own.
use Rattle.std.specs.Prelude.{◌≡◌, ◌≢◌, ℕ, true, false, List, []}
use Rattle.std.specs.List.{AllByRecursion}
use Rattle.plain_model.specs.Group.{Meaning, Set}
use Rattle.plain_model.specs.Local.{is_local}
use Rattle.plain_model.specs.Core.{Core, Nothing, first}
use Rattle.plain_model.specs.Answered.{fit}
use Rattle.plain_model.specs.Plain.{Event, start, plain, ArePossible}

-- nothing was done in the unit in work
pub record IsEmptied (k : Core) : Type 0 where
  pub again : k.again ≡ []
  pub spoken : k.spoken ≡ false
  pub pinned : k.pinned ≡ false
  pub sent : k.sent ≡ false

pub record IsSound (name : List ℕ) (k : Core) : Type 0 where
  -- what runs again sets registers, and isn't too much
  pub sets : AllByRecursion Set k.again
  pub fits : fit k.again ≡ true
  -- while an error is owed nothing is done
  pub emptied : k.owed ≢ Nothing → IsEmptied k
  -- and else a server answers the segment in work
  pub front : k.owed ≡ Nothing → is_local name k.standing (first k.segments) ≡ false

-- after every list of events each of which is possible where it stands
abbrev pub EachCoreIsSound : {S U : Type 0} → List ℕ → Meaning S U → Type 0
EachCoreIsSound {S} name m =
    (s : S) (events : List Event) → ArePossible name m (start m s) events → (i : ℕ) → IsSound name ((plain name m (start m s) events).session i).core
