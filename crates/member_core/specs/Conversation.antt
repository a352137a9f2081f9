-- A member's end of one transport: the bytes that it takes are read as chains of commands, each of which it runs once it is
-- whole and answers. DRDA, volume 1, units of work; DRDA, volume 3, DSS: chaining; DDM, volume 3, SYNTAXRM, RSCLMTRM. That a
-- conversation ends at its first fault is this project's own.
use Rattle.std.specs.Prelude.{ℕ, Bool, true, false, if◌then◌else◌, List, [], ◌∷◌, ◌++◌, Option, Some, None}
use Rattle.dss_frame.specs.declared.dss.Side.TheVariants.{Requests}
use Rattle.dss_frame.specs.declared.fault.StreamFault.{StreamFault}
use Rattle.dss_frame.specs.Reading.{View, start, fed}
use Rattle.reply_texts.specs.Closing.{syntax_reply, limit_reply, fault_reply}
use Rattle.server_list.specs.Lists.{Listing}
use Rattle.unit_segments.specs.declared.command.Command.{Command}
use Rattle.unit_segments.specs.declared.fault.ChainFault.{ChainFault}
use Rattle.unit_segments.specs.declared.fault.ChainFault.TheVariants.{Syntax, TooMany, NoMemory}
use Rattle.unit_segments.specs.Limit.{most_reply_bytes}
use Rattle.unit_segments.specs.Chain.{OpenChain, no_chain, Chains, chains_from}
use Rattle.unit_segments.specs.Spelling.{join}
use Rattle.plain_model.specs.Group.{Meaning}
use Rattle.member_core.specs.ChainRun.{Ran, run_on}

-- what a conversation has, apart from the data that all of them share
pub record ConversationState (U : Type 0) : Type 0 where
  -- the list of members that it tells, which may have no rows
  pub list : Listing
  pub unit : U
  -- what was read of the bytes taken that is no whole chain yet
  pub reader : View
  pub chain : OpenChain
  -- all bytes that it has answered, and the code points of all commands that it has run
  pub answered : List ℕ
  pub ran : List ℕ
  -- it takes nothing more
  pub dead : Bool

-- a conversation and the shared data
pub record Member (S U : Type 0) : Type 0 where
  pub conversation : ConversationState U
  pub shared : S

-- A chain of requests may have as many bytes as one of replies, since a gateway adds to what its application sent.
abbrev pub unread : View
unread = start Requests most_reply_bytes

-- nothing was taken
abbrev pub fresh : {S U : Type 0} → Meaning S U → Listing → ConversationState U
fresh m list = record {
  list = list;
  unit = m.fresh;
  reader = unread;
  chain = no_chain;
  answered = [];
  ran = [];
  dead = false;
}

-- ---- chains that are whole

-- before its first command
abbrev pub no_replies : {S U : Type 0} → Member S U → Ran S U
no_replies w = record { shared = w.shared; unit = w.conversation.unit; replies = []; codes = w.conversation.ran }

-- a chain has run, and its replies are answered as one chain
abbrev pub with_run : {S U : Type 0} → Ran S U → ConversationState U → Member S U
with_run r c = record {
  conversation = record c { unit = r.unit; answered = c.answered ++ join r.replies; ran = r.codes };
  shared = r.shared;
}

abbrev pub after_chain : {S U : Type 0} → Meaning S U → List Command → Member S U → Member S U
after_chain m commands w = with_run (run_on m w.conversation.list commands (no_replies w)) w.conversation

-- one after another
abbrev pub after_chains : {S U : Type 0} → Meaning S U → List (List Command) → Member S U → Member S U
after_chains m [] w = w
after_chains m (commands ∷ chains) w = after_chains m chains (after_chain m commands w)

-- ---- the first fault

-- what a fault of a chain is answered: a command too many has RSCLMTRM
abbrev pub chain_fault_reply : ChainFault → List ℕ
chain_fault_reply (Syntax at err corr) = syntax_reply corr err
chain_fault_reply (TooMany at corr) = limit_reply corr
chain_fault_reply NoMemory = []

-- DSS by DSS: a fault of those that are whole comes before one of the bytes behind them
abbrev pub closing_reply : Option ChainFault → Option StreamFault → Option (List ℕ)
closing_reply (Some fault) behind = Some (chain_fault_reply fault)
closing_reply None (Some fault) = Some (fault_reply fault)
closing_reply None None = None

-- It answers this, once. What it has read and not run is dropped, and it takes nothing more.
abbrev pub closed : {U : Type 0} → List ℕ → ConversationState U → ConversationState U
closed reply c = record c { reader = unread; chain = no_chain; answered = c.answered ++ reply; dead = true }

-- all whole DSSs were taken from its reader, and behind them this chain has begun
abbrev pub with_read : {U : Type 0} → View → OpenChain → ConversationState U → ConversationState U
with_read reader chain c = record c { reader = record reader { whole = [] }; chain = chain }

abbrev pub closed_or_open : {U : Type 0} → Option (List ℕ) → View → OpenChain → ConversationState U → ConversationState U
closed_or_open (Some reply) reader chain c = closed reply c
closed_or_open None reader chain c = with_read reader chain c

-- ---- a step

abbrev pub settled_by : {S U : Type 0} → Meaning S U → View → Chains → Member S U → Member S U
settled_by {S} {U} m reader read w =
    let after : Member S U = after_chains m read.chains w in
    record {
      conversation = closed_or_open (closing_reply read.fault reader.fault) reader read.begun after.conversation;
      shared = after.shared;
    }

-- Of the DSSs that were read, the chains that become whole run in order; at the first fault it is dead.
abbrev pub settled : {S U : Type 0} → Meaning S U → View → Member S U → Member S U
settled m reader w = settled_by m reader (chains_from w.conversation.chain reader.whole) w

-- A piece of bytes is taken, unless it is dead.
unfoldable pub taken : {S U : Type 0} → Meaning S U → List ℕ → Member S U → Member S U
taken m piece w = if w.conversation.dead then w else settled m (fed w.conversation.reader piece) w
