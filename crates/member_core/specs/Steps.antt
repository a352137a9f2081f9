-- How a conversation takes what it has read, one DSS and one command at a time. No standard speaks of it: this is this
-- project's own.
use Rattle.std.specs.Prelude.{List, Option, Some, None, Result, Ok, Err}
use Rattle.dss_frame.specs.declared.dss.Dss.{Dss}
use Rattle.dss_frame.specs.declared.dss.Placed.{Placed}
use Rattle.dss_frame.specs.declared.fault.StreamFault.{StreamFault}
use Rattle.reply_texts.specs.Closing.{fault_reply}
use Rattle.unit_segments.specs.declared.command.Command.{Command}
use Rattle.unit_segments.specs.declared.fault.ChainFault.{ChainFault}
use Rattle.unit_segments.specs.Chain.{OpenChain, chain_after, chain_step}
use Rattle.plain_model.specs.Group.{Meaning}
use Rattle.member_core.specs.ChainRun.{Ran}
use Rattle.member_core.specs.Conversation.{ConversationState, Member, after_chain, chain_fault_reply, closed}

abbrev pub member : {S U : Type 0} → ConversationState U → S → Member S U
member c shared = record { conversation = c; shared = shared }

-- what the commands of a chain that runs have come to
abbrev pub ran_by : {S U : Type 0} → ConversationState U → S → List Dss → Ran S U
ran_by c shared replies = record { shared = shared; unit = c.unit; replies = replies; codes = c.ran }

-- these DSSs are left in its reader
abbrev pub with_whole : {U : Type 0} → List Placed → ConversationState U → ConversationState U
with_whole dsss c = record c { reader = record c.reader { whole = dsss } }

-- the bytes behind the whole DSSs may have a fault
abbrev pub stopped : {U : Type 0} → Option StreamFault → ConversationState U → ConversationState U
stopped None c = c
stopped (Some fault) c = closed (fault_reply fault) c

abbrev pub with_chain : {S U : Type 0} → OpenChain → Member S U → Member S U
with_chain chain w = record w { conversation = record w.conversation { chain = chain } }

abbrev pub after_dss_by : {S U : Type 0} → Meaning S U → OpenChain → Result (Option (List Command)) ChainFault → Member S U → Member S U
after_dss_by m next (Err fault) w = record w { conversation = closed (chain_fault_reply fault) w.conversation }
after_dss_by m next (Ok None) w = with_chain next w
after_dss_by m next (Ok (Some commands)) w = after_chain m commands (with_chain next w)

-- a DSS was taken
abbrev pub after_dss : {S U : Type 0} → Meaning S U → Placed → Member S U → Member S U
after_dss m placed w =
    after_dss_by m (chain_after w.conversation.chain placed) (chain_step w.conversation.chain placed) w
