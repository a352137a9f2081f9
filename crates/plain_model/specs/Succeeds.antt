-- What runs again after a loss succeeds. No standard speaks of it: it is this project's own.
use Rattle.std.specs.Prelude.{◌≡◌, ℕ, true, false, List, None}
use Rattle.std.specs.List.{flat_map}
use Rattle.dss_frame.specs.declared.dss.Dss.{Dss}
use Rattle.access_handshake.specs.declared.stage.Stage.TheVariants.{Accessed}
use Rattle.unit_segments.specs.declared.command.Command.{Command}
use Rattle.unit_segments.specs.Accepts.{sets_only}
use Rattle.plain_model.specs.Group.{Meaning, led, answers}
use Rattle.plain_model.specs.Core.{Core}
use Rattle.plain_model.specs.Answered.{without_error}
use Rattle.plain_model.specs.Plain.{Session, Event, start, plain, ArePossible}
use Rattle.plain_model.specs.Repeats.{AreSame}

-- the replies to all of these commands, one after another
abbrev pub all_replies : {S U : Type 0} → Meaning S U → S → U → List Command → List Dss
all_replies m s u cs = flat_map (λ (replies : List Dss). replies) (answers m s u cs)

-- the session goes on, its database was accessed, and its unit is neither spoken nor pinned
pub record CanRepeat (k : Core) : Type 0 where
  pub live : k.end ≡ None
  pub accessed : k.standing.stage ≡ Accessed
  pub unspoken : k.spoken ≡ false
  pub unpinned : k.pinned ≡ false

pub record Succeeds {S U : Type 0} (m : Meaning S U) (is_shared : S → Type 0) (q : Session U) : Type 0 where
  -- before the segment in work begins to run, the unit is where the commands that run again lead from the base
  pub unit : q.ran ≡ 0 → (s : S) → is_shared s → q.held ≡ led m s (m.base q.core.standing) q.core.again
  -- run from there, with whatever numbers and go-on bits, each is answered by one SQLCARD of success
  pub replies : (ds : List Command) → AreSame q.core.again ds → (s : S) → is_shared s
      → sets_only q.core.typdef ds (all_replies m s (m.base q.core.standing) ds) ≡ true
  -- and none by an error that would keep the others from running
  pub no_error : (ds : List Command) → AreSame q.core.again ds → (s : S) → is_shared s
      → without_error (all_replies m s (m.base q.core.standing) ds) ≡ true

-- of each session that can repeat, after every list of events each of which is possible where it stands
abbrev pub EachRepeatSucceeds : {S U : Type 0} → List ℕ → Meaning S U → (S → Type 0) → Type 0
EachRepeatSucceeds {S} name m is_shared =
    (s : S) → is_shared s → (events : List Event) → ArePossible name m (start m s) events → (i : ℕ)
    → CanRepeat ((plain name m (start m s) events).session i).core → Succeeds m is_shared ((plain name m (start m s) events).session i)
