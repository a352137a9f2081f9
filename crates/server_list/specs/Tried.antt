-- Sets of members. A group has at most 32 members, numbered from 1, and a set of them is a number whose bits say which it
-- has: this project's own.
use Rattle.std.specs.Prelude.{ℕ, ◌-◌, ◌^◌, Bool, ◌&&◌, ◌==◌, nat_le, bit_or}
use Rattle.std.specs.Int.{bit_at}

-- this project's own
abbrev pub is_member : ℕ → Bool
is_member number = nat_le 1 number && nat_le number 32

-- a number that is no member's is in no set: this project's own
abbrev pub has_member : ℕ → ℕ → Bool
has_member tried member = is_member member && bit_at tried (member - 1) == 1

-- this project's own
abbrev pub with_member : ℕ → ℕ → ℕ
with_member tried member = bit_or tried (2 ^ (member - 1))
