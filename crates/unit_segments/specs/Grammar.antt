-- What chains of commands are, apart from how they are read: DRDA, volume 3, DSS: chaining, RQSDSS, OBJDSS.
use Rattle.std.specs.Prelude.{◌≡◌, ℕ, ◌≤◌, Bool, true, false, if◌then◌else◌, List, [], ◌∷◌, ◌++◌, map, length, take}
use Rattle.std.specs.List.{flat_map, AllByRecursion}
use Rattle.ddm_objects.specs.Objects.{Member, IsObject}
use Rattle.ddm_objects.specs.Members.{AreMembers}
use Rattle.ddm_codepoints.specs.CodeClass.{class_of}
use Rattle.dss_frame.specs.declared.dss.Kind.{Kind}
use Rattle.dss_frame.specs.declared.dss.Kind.TheVariants.{Request, Object}
use Rattle.dss_frame.specs.declared.dss.Dss.{Dss}
use Rattle.dss_frame.specs.declared.dss.Placed.{Placed}
use Rattle.unit_segments.specs.declared.command.Command.{Command}
use Rattle.unit_segments.specs.Limit.{most_commands}
use Rattle.unit_segments.specs.Command.{code_of, is_looked_into, has_needed}
use Rattle.unit_segments.specs.Chain.{is_request}

-- ---- how DSSs follow one another

-- the kind of the DSS that comes next in a chain: an object of the same command, or the request of another one
abbrev pub kind_after : Dss → Kind
kind_after d = if d.same then Object else Request

-- The DSS that comes next in a chain is of that kind, and has the same number where the one before it says so.
pub record IsNext (d next : Dss) : Type 0 where
  pub kind : next.kind ≡ kind_after d
  pub number : d.same ≡ true → next.corr ≡ d.corr

-- In front of a chain there is no DSS. It is as if one stood there behind which a request comes, with number 0.
abbrev pub none_before : Dss
none_before = record { kind = Request; chained = true; same = false; go_on = false; corr = 0; body = [] }

-- These DSSs follow one: each but the last of all is chained and followed by one that may come next, and the last is
-- chained where the chain goes on.
abbrev pub AreLinked : Bool → Dss → List Placed → Type 0
AreLinked goes_on d [] = d.chained ≡ goes_on
AreLinked goes_on d (next ∷ others) = (d.chained ≡ true) × IsNext d next.dss × AreLinked goes_on next.dss others

-- ---- commands

-- whether the last of these DSSs says that the chain goes on after an error
abbrev pub goes_on_after : Dss → List Placed → Bool
goes_on_after d [] = d.go_on
goes_on_after d (next ∷ others) = goes_on_after next.dss others

-- a command: a request and the objects that follow it
abbrev pub command_with : Placed → List Placed → Command
command_with request objects = record {
  code = code_of request.dss.body;
  corr = request.dss.corr;
  go_on = goes_on_after request.dss objects;
  at = request.at;
  body = request.dss.body;
  objects = map (λ object. object.dss.body) objects;
}

-- commands, and objects of another command in front of them
pub record Grouped : Type 0 where
  pub objects : List Placed
  pub commands : List Command

abbrev pub grouped_with : Placed → Bool → Grouped → Grouped
grouped_with placed true others =
    record { objects = []; commands = command_with placed others.objects ∷ others.commands }
grouped_with placed false others = record { objects = placed ∷ others.objects; commands = others.commands }

-- a request begins a command, and what isn't one belongs to the command before it
abbrev pub grouped : List Placed → Grouped
grouped [] = record { objects = []; commands = [] }
grouped (placed ∷ others) = grouped_with placed (is_request placed.dss.kind) (grouped others)

-- the commands of DSSs the first of which is a request
abbrev pub commands_of : List Placed → List Command
commands_of placed = (grouped placed).commands

-- ---- the bodies of requests

-- The data of an object are objects one after another, and those that a command needs are there. Of those that come again
-- the first counts: this project's choice.
pub record AreParams (object : Member) : Type 0 where
  pub objects : List Member
  pub are : AreMembers objects object.bytes
  pub needed : has_needed object.code object.bytes ≡ true

-- A command's body is exactly one object. Where the command is of access, or ends a unit of work, its data are parameters.
pub record IsSound (body : List ℕ) : Type 0 where
  pub object : Member
  pub one : IsObject true object body
  pub params : is_looked_into (class_of object.code) ≡ true → AreParams object

-- a request has such a body; objects aren't looked into
abbrev pub HasSoundBody : Placed → Type 0
HasSoundBody placed = is_request placed.dss.kind ≡ true → IsSound placed.dss.body

-- ---- chains

-- DSSs that begin a chain, which goes on behind them, or ends with them. How many commands it may have is this project's
-- choice.
pub record IsFront (goes_on : Bool) (placed : List Placed) : Type 0 where
  pub linked : AreLinked goes_on none_before placed
  pub bodies : AllByRecursion HasSoundBody placed
  pub count : length (commands_of placed) ≤ most_commands

-- the DSSs are a whole chain, of these commands
pub record IsChain (commands : List Command) (placed : List Placed) : Type 0 where
  pub whole : IsFront false placed
  pub commands_are : commands ≡ commands_of placed

-- a chain with its DSSs
pub record Chained : Type 0 where
  pub commands : List Command
  pub placed : List Placed

-- the DSSs are whole chains one after another, and then a rest
pub record Begins (chains : List Chained) (rest placed : List Placed) : Type 0 where
  pub each : AllByRecursion (λ chain. IsChain chain.commands chain.placed) chains
  pub all : placed ≡ flat_map (λ chain. chain.placed) chains ++ rest

-- the DSSs are chains of these commands, and then a rest that doesn't begin with a whole chain
pub record AreChains (commands : List (List Command)) (rest placed : List Placed) : Type 0 where
  pub chains : List Chained
  pub are : map (λ chain. chain.commands) chains ≡ commands
  pub begins : Begins chains rest placed
  pub no_more : (others : List Command) (count : ℕ) → IsChain others (take count rest) → ⊥
