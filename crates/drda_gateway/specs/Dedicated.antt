-- What an application may believe: a session of its own, which reads its bytes and answers one command after another.
-- There are no pieces here, and no other application. This promise is this project's own.
use Rattle.std.specs.Prelude.{ℕ, List, [], ◌∷◌, ◌++◌, ◌≡◌, length, take, Option, Some, None}
use Rattle.std.specs.List.{AllByRecursion}
use Rattle.dss_frame.specs.declared.dss.Placed.{Placed}
use Rattle.dss_frame.specs.declared.fault.StreamFault.{StreamFault}
use Rattle.dss_frame.specs.declared.dss.Side.TheVariants.{Requests}
use Rattle.dss_frame.specs.Reading.{start, fed}
use Rattle.reply_texts.specs.Closing.{fault_reply}
use Rattle.drda_gateway.specs.Answer.{most_chain, answer_to, refusal}
use Rattle.drda_gateway.specs.Session.{SessionState}
use Rattle.drda_gateway.specs.World.{WorldState}

-- what is sent behind the last whole DSS
abbrev pub closing : Option StreamFault → List ℕ
closing None = []
closing (Some fault) = fault_reply fault

abbrev pub reply_or_close : Option (List ℕ) → List ℕ → List ℕ
reply_or_close None others = refusal
reply_or_close (Some reply) others = reply ++ others

-- the replies to DSSs in their order, and then the closing one; a refused DSS is the last that is answered
abbrev pub replies_to : List Placed → Option StreamFault → List ℕ
replies_to [] fault = closing fault
replies_to (placed ∷ others) fault = reply_or_close (answer_to placed.dss) (replies_to others fault)

-- what a dedicated session sends when it has read these bytes
unfoldable pub dedicated : List ℕ → List ℕ
dedicated bytes =
    replies_to (fed (start Requests most_chain) bytes).whole (fed (start Requests most_chain) bytes).fault

-- What was sent is the beginning of what a dedicated session sends for the bytes that were taken, and all of it where
-- nothing is left to say: so where the session waits for more bytes, and after its end.
pub record IsDedicated (s : SessionState) : Type 0 where
  pub began : s.sent ≡ take (length s.sent) (dedicated (take s.taken s.bytes))
  pub all_sent : s.saying ≡ [] → s.sent ≡ dedicated (take s.taken s.bytes)

-- so it is for each application
abbrev pub AreDedicated : WorldState → Type 0
AreDedicated w = AllByRecursion IsDedicated w.sessions
