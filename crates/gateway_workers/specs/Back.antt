-- Links that come back from their sessions. This project's own.
use Rattle.std.specs.Prelude.{◌≡◌, Bool, true, List, Option, Some, None}
use Rattle.link_ends.specs.Link.{LinkState, IsFresh}
use Rattle.gateway_session.specs.declared.need.Need.TheVariants as need
use Rattle.gateway_session.specs.Memory.{State, need_in}
use Rattle.gateway_server.specs.declared.run.Done.{Done}
use Rattle.gateway_server.specs.Went.{Fed, after_all, heard_by, said_by, out_by, memory_by}
use Rattle.gateway_server.specs.Served.{IsNew, Tells, IsFront, EndsBy, is_memory}

-- A link that nobody had used, whose session went from new to its end: where the link tells its bytes, they are what the session read,
-- and the front of what it was to say, all of that where the application's bytes came to their end.
pub record IsServed {A : Type 0} (state : A → LinkState) (done : Done A) : Type 0 where
  pub begun : State
  pub turns : List Fed
  pub unused : LinkState
  pub new : IsNew begun
  pub fresh : IsFresh unused
  pub ended : need_in (after_all turns begun) ≡ need.Done done.end
  pub heard : Tells (state done.link).heard (heard_by turns)
  pub taken : Tells (state done.link).taken (said_by turns begun)
  pub front : IsFront done.end (said_by turns begun) (out_by turns begun) (memory_by turns begun)
  pub cause : EndsBy done.end unused (state done.link) (said_by turns begun) (out_by turns begun)

-- a session for which there was no memory, or that found none
abbrev pub is_refused : {A : Type 0} → Option (Done A) → Bool
is_refused None = true
is_refused (Some done) = is_memory done.end
