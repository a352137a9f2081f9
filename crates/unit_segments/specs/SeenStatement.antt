-- Texts and statements without where they lie in memory. No standard speaks of it: this is this project's own.
use Rattle.std.specs.Borrow.{Bor}
use Rattle.std.specs.Prelude.{ℕ, List, length, Option, Some, None, option_map}
use Rattle.unit_segments.specs.declared.statement.Text.{Text as FoundText}
use Rattle.unit_segments.specs.declared.statement.Statement.{Statement as FoundStatement}
use Rattle.unit_segments.specs.Statement.{Text, Statement}

abbrev pub seen_text : FoundText → Text
seen_text found = record { text = option_map (λ text. text.now) found.text; rest = found.rest.now }

abbrev pub seen_statement : FoundStatement → Statement
seen_statement found = record { text = found.text.now; size = found.size }

abbrev pub text_length : Option (Bor (List ℕ)) → ℕ
text_length None = 0
text_length (Some text) = length text.now
