-- A statement that is read is sound.
use Rattle.std.specs.Prelude.{ℕ, ◌≡◌, ◌↔◌, List, Option, Some, None, Result, Ok, Err, IfOk, IfSome}
use Rattle.std.proofs.Common.{arith, sym}
use Rattle.member_statements.specs.declared.statement.Statement.{Statement}
use Rattle.member_statements.specs.declared.statement.Statement.TheVariants.{Insert, Update, Delete, Set, Select}
use Rattle.member_statements.specs.Statement.{Spells}
use Rattle.member_statements.specs.Reading.{statement_of}
use Rattle.group_store.specs.Statement.{IsSound}

spelled_is_sound : (bytes : List ℕ) (statement : Statement) → Spells bytes statement → IsSound statement
spelled_is_sound bytes (Insert key text) spells = grind (arith, spells.2)
spelled_is_sound bytes (Update key text) spells = grind (arith, spells.2)
spelled_is_sound bytes (Delete key) spells = tt
spelled_is_sound bytes (Set register value) spells = (spells.0, grind (arith, spells.1))
spelled_is_sound bytes Select spells = tt

pub read_is_sound : {E : Type 0} → ((bytes : List ℕ) (statement : Statement) → (statement_of bytes ≡ Some statement) ↔ Spells bytes statement)
    → (bytes : List ℕ) (read : Result (Option Statement) E) → IfOk read (λ found. found ≡ statement_of bytes)
    → IfOk read (λ found. IfSome found IsSound)
read_is_sound laws bytes (Err e) is = tt
read_is_sound laws bytes (Ok None) is = tt
read_is_sound laws bytes (Ok (Some statement)) is = spelled_is_sound bytes statement ((laws bytes statement).0 (sym is))
