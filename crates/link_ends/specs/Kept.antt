-- Where a list of bytes is kept: in the value itself, or in a buffer. No standard speaks of it.
use Rattle.std.specs.Prelude.{ℕ, List}
use Rattle.link_ends.specs.declared.octets.Kept.{Kept}
use Rattle.link_ends.specs.declared.octets.Kept.TheVariants.{Inside, Own, Shared}

-- the bytes that are kept there
abbrev pub kept_bytes : Kept → List ℕ
kept_bytes (Inside bytes) = bytes
kept_bytes (Own bytes) = bytes.items
kept_bytes (Shared bytes) = bytes
