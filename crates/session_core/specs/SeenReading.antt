-- What code has for what bytes go on with, as the plain model has it. No standard speaks of it: this is this project's own.
use Rattle.std.specs.List.{AllByRecursion}
use Rattle.session_core.specs.declared.incoming.Reading.{Reading as Read}
use Rattle.session_core.specs.declared.incoming.Reading.TheVariants as read
use Rattle.plain_model.specs.Group.{IsCommand}
use Rattle.plain_model.specs.Begun.{Reading, Chain, Fault, TooLong}

abbrev pub seen_reading : Read → Reading
seen_reading (read.Chain chain) = Chain chain
seen_reading (read.Fault place error number) = Fault place error number
seen_reading (read.TooLong number) = TooLong number

-- the commands of a chain are such as a chain can have
abbrev pub HasCommands : Read → Type 0
HasCommands (read.Chain chain) = AllByRecursion IsCommand chain
HasCommands (read.Fault place error number) = Unit {0}
HasCommands (read.TooLong number) = Unit {0}
