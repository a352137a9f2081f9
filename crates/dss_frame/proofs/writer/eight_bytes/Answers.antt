use Rattle.std.proofs.Common.{◌≡◌, ℕ, ◌+◌, ◌*◌, ◌/◌, ◌%◌, ◌<◌, [], ◌∷◌, take, refl, arith, rules}
use Rattle.std.specs.Int.{w64, to_be_bytes}
use Rattle.dss_frame.proofs.writer.eight_bytes.Goals as goal

-- the number of eight bytes whose upper six are these
number : ℕ → ℕ → ℕ → ℕ
number length format corr = (length * 65536 + 208 * 256 + format) * 4294967296 + corr * 65536

upper_six : (length format corr : ℕ) → length < 65536 → format < 256 → corr < 65536
    → take 6 (to_be_bytes w64 (number length format corr))
    ≡ (length / 256 % 256) ∷ (length % 256) ∷ 208 ∷ format ∷ (corr / 256 % 256) ∷ (corr % 256) ∷ []
unfolding number
upper_six length format corr l f c =
    let first : number length format corr / 72057594037927936 % 256 ≡ length / 256 % 256 = omega (arith, l, f, c) in
    let second : number length format corr / 281474976710656 % 256 ≡ length % 256 = omega (arith, l, f, c) in
    let third : number length format corr / 1099511627776 % 256 ≡ 208 = omega (arith, l, f, c) in
    let fourth : number length format corr / 4294967296 % 256 ≡ format = omega (arith, l, f, c) in
    let fifth : number length format corr / 16777216 % 256 ≡ corr / 256 % 256 = omega (arith, l, f, c) in
    let sixth : number length format corr / 65536 % 256 ≡ corr % 256 = omega (arith, l, f, c) in
    rw (first, second, third, fourth, fifth, sixth) refl

pub returns : goal.returns
returns c = search rules
