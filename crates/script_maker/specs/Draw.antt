-- Numbers that are drawn one after another: a linear congruential generator below 2 ^ 31, of which the high bits are seen. It is
-- this project's choice.
use Rattle.std.specs.Prelude.{ℕ, zero, suc, ◌+◌, ◌*◌, ◌/◌, ◌%◌, ◌^◌}

-- the number that is drawn after this one
abbrev pub drawn : ℕ → ℕ
drawn number = (number * 1103515245 + 12345) % 2 ^ 31

-- the number after so many draws
abbrev pub after_draws : ℕ → ℕ → ℕ
after_draws zero seed = seed
after_draws (suc count) seed = drawn (after_draws count seed)

-- what a drawn number is seen as
abbrev pub shown : ℕ → ℕ
shown number = number / 2 ^ 16
