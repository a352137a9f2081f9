-- The name that a value holds. No standard speaks of it: this is this project's own.
use Rattle.std.specs.Prelude.{ℕ, List, take}
use Rattle.reply_texts.specs.declared.rdb_name.RdbName.{RdbName}

abbrev pub characters_of : RdbName → List ℕ
characters_of name = take name.length name.characters
