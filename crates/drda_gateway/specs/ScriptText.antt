-- What a script says, without where it lies in memory. Scripts are this project's own.
use Rattle.std.specs.Prelude.{ℕ, List, []}
use Rattle.drda_gateway.specs.declared.script.Member.{Member}
use Rattle.drda_gateway.specs.declared.script.User.{User}
use Rattle.drda_gateway.specs.declared.script.Line.{Line}

pub record ScriptText : Type 0 where
  pub rdb : List ℕ
  pub cap : ℕ
  pub members : List Member
  pub users : List User
  pub lines : List Line

-- a script of which nothing was read yet
abbrev pub empty_text : ScriptText
empty_text = record { rdb = []; cap = 0; members = []; users = []; lines = [] }
