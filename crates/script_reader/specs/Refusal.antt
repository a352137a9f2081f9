-- The first bad line of a script. Scripts and their refusals are this project's own.
use Rattle.std.specs.Prelude.{ℕ}
use Rattle.script_reader.specs.declared.script.ScriptWhy.{ScriptWhy}

-- Lines are numbered from 1; a script that is too long is refused at line 0.
pub record Refusal : Type 0 where
  pub line : ℕ
  pub why : ScriptWhy
