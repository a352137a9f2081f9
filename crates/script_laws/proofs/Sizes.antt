-- Made scripts aren't too long to be read.
use Rattle.std.proofs.Common.{◌≡◌, ℕ, zero, suc, ◌+◌, ◌*◌, ◌/◌, ◌%◌, ◌<◌, ◌≤◌, ◌^◌, ◌==◌, Bool, true, false, cond, List, [], ◌++◌, length, subst, arith}
use Rattle.std.proofs.lemmas.List.{length-append}
use Rattle.std.proofs.lemmas.Fmt.{length-decimal-le}
use Rattle.std.proofs.Math.Nat.{mod-lt, div-le_self}
use Rattle.std.proofs.lemmas.Nat.{mul-le}
use Rattle.std.specs.Prelude.{codes}
use Rattle.std.specs.Fmt.{decimal}
use Rattle.std.specs.List.{flat_map, range_with_len}
use Rattle.hex_lines.specs.Lines.{line_end, most_bytes}
use Rattle.script_maker.specs.Draw.{drawn, after_draws, shown}
use Rattle.script_maker.specs.Asked.{IsWithin}
use Rattle.script_maker.specs.declared.words.Asked.{Asked}
use Rattle.script_maker.specs.Lines.{header_lines, user_line, start_line, settle_line, insert_line, cut_line, commit_line, end_line, turn_lines}
use Rattle.script_maker.specs.Made.{each_app, turn_of, all_turns, made}

-- ---- so many pieces

pub pieces_at_most : (f : ℕ → List ℕ) (a n : ℕ) → ((k : ℕ) → a ≤ k → k < a + n → length (f k) ≤ 500) → length (flat_map f (range_with_len a n)) ≤ n * 500
pieces_at_most f a zero h = omega arith
pieces_at_most f a (suc n) h =
    omega (
      arith,
      length-append (f a) (flat_map f (range_with_len (a + 1) n)),
      h a (omega arith) (omega arith),
      pieces_at_most f (a + 1) n (λ k l m. h k (omega arith) (omega arith)),
    )

-- ---- numbers of at most ten digits

decimal_size : (n : ℕ) → n < 10 ^ 10 → length (decimal n) ≤ 10
decimal_size n small = length-decimal-le 10 n (omega arith) small (omega arith)

-- ---- lines

user_size : (app : ℕ) → app ≤ 64 → length (user_line app) ≤ 500
unfolding user_line
user_size app most =
    omega (arith, length-append (decimal app) (codes " P" ++ line_end), decimal_size app (omega arith))

start_size : (app : ℕ) → app ≤ 64 → length (start_line app) ≤ 500
unfolding start_line
start_size app most =
    omega (
      arith,
      length-append (decimal app) (codes " U" ++ (decimal app ++ (codes " P" ++ line_end))),
      length-append (decimal app) (codes " P" ++ line_end),
      decimal_size app (omega arith),
    )

end_size : (app : ℕ) → app ≤ 64 → length (end_line app) ≤ 500
unfolding end_line
end_size app most = omega (arith, length-append (decimal app) line_end, decimal_size app (omega arith))

commit_size : (app : ℕ) → app ≤ 64 → length (commit_line app) ≤ 18
unfolding commit_line
commit_size app most = omega (arith, length-append (decimal app) line_end, decimal_size app (omega arith))

cut_by : (app : ℕ) (b : Bool) → app ≤ 64 → length (cond b (codes "cut " ++ (decimal app ++ line_end)) []) ≤ 15
cut_by app true most = omega (arith, length-append (decimal app) line_end, decimal_size app (omega arith))
cut_by app false most = omega arith

cut_size : (app number : ℕ) → app ≤ 64 → length (cut_line app number) ≤ 15
unfolding cut_line
cut_size app number most = cut_by app (number % 8 == 0) most

insert_size : (app key number : ℕ) → app ≤ 64 → key < 10 ^ 10 → number < 10 ^ 10 → length (insert_line app key number) ≤ 70
unfolding insert_line
insert_size app key number most k n =
    let last : List ℕ = decimal number ++ (codes "')" ++ line_end) in
    let middle : List ℕ = decimal key ++ (codes ", 'V" ++ last) in
    omega (
      arith,
      length-append (decimal app) (codes " INSERT INTO T VALUES (" ++ middle),
      length-append (decimal key) (codes ", 'V" ++ last),
      length-append (decimal number) (codes "')" ++ line_end),
      decimal_size app (omega arith),
      decimal_size key k,
      decimal_size number n,
    )

settle_size : length settle_line ≤ 14
unfolding settle_line
settle_size = omega arith

header_size : length header_lines ≤ 100
unfolding header_lines
header_size = omega arith

turn_size : (app key number : ℕ) → app ≤ 64 → key < 10 ^ 10 → shown number < 10 ^ 10 → length (turn_lines app key number) ≤ 500
turn_size app key number most k n =
    let last : List ℕ = commit_line app ++ settle_line in
    let more : List ℕ = cut_line app (shown number) ++ last in
    omega (
      arith,
      length-append (insert_line app key (shown number)) (settle_line ++ more),
      length-append settle_line more,
      length-append (cut_line app (shown number)) last,
      length-append (commit_line app) settle_line,
      insert_size app key (shown number) most k n,
      settle_size,
      cut_size app (shown number) most,
      commit_size app most,
    )

-- ---- the numbers of a turn

pub app_within : (turn apps : ℕ) → 1 ≤ apps → turn % apps + 1 ≤ apps
app_within turn apps some = omega (arith, mod-lt turn {m = apps} (omega arith))

pub key_small : (turn apps : ℕ) → 1 ≤ apps → apps ≤ 64 → turn ≤ 6400 → turn / apps * 64 + (turn % apps + 1) < 10 ^ 10
key_small turn apps some most less = omega (arith, app_within turn apps some, div-le_self turn apps)

pub shown_small : (number : ℕ) → shown (drawn number) < 10 ^ 10
shown_small number = omega (arith, mod-lt (number * 1103515245 + 12345) {m = 2 ^ 31} (omega arith))

pub turn_is_small : (seed apps turn : ℕ) → 1 ≤ apps → apps ≤ 64 → turn ≤ 6400 → shown (after_draws (turn + 1) seed) < 10 ^ 10
turn_is_small seed apps turn some most less =
    let e : suc turn ≡ turn + 1 = omega arith in
    subst (λ k. shown (after_draws k seed) < 10 ^ 10) e (shown_small (after_draws turn seed))

-- ---- the whole

pub turns_within : (apps units : ℕ) → apps ≤ 64 → units ≤ 100 → apps * units ≤ 6400
turns_within apps units most most_units = mul-le apps units 64 100 most most_units

pub turns_size : (asked : Asked) → IsWithin asked → length (all_turns asked.seed asked.apps asked.units) ≤ 3200000
turns_size asked within =
    omega (
      arith,
      turns_within asked.apps asked.units within.most_apps within.most_units,
      pieces_at_most (turn_of asked.seed asked.apps) 0 (asked.apps * asked.units)
          (λ turn least most.
          let less : turn ≤ 6400 = omega (arith, turns_within asked.apps asked.units within.most_apps within.most_units) in
          turn_size (turn % asked.apps + 1) (turn / asked.apps * 64 + (turn % asked.apps + 1)) (after_draws (turn + 1) asked.seed)
          (omega (arith, app_within turn asked.apps within.some_apps, within.most_apps)) (key_small turn asked.apps within.some_apps within.most_apps less)
          (turn_is_small asked.seed asked.apps turn within.some_apps within.most_apps less)),
    )

pub made_size : (asked : Asked) → IsWithin asked → length (made asked.seed asked.apps asked.units) ≤ most_bytes
unfolding made
made_size asked within =
    let apps = asked.apps in
    let turns = all_turns asked.seed apps asked.units in
    let users = each_app user_line apps in
    let starts = each_app start_line apps in
    let ends = each_app end_line apps in
    omega (
      arith,
      within.most_apps,
      turns_size asked within,
      header_size,
      settle_size,
      length-append header_lines (users ++ (starts ++ (settle_line ++ (turns ++ ends)))),
      length-append users (starts ++ (settle_line ++ (turns ++ ends))),
      length-append starts (settle_line ++ (turns ++ ends)),
      length-append settle_line (turns ++ ends),
      length-append turns ends,
      pieces_at_most user_line 1 apps (λ k l m. user_size k (omega (arith, within.most_apps))),
      pieces_at_most start_line 1 apps (λ k l m. start_size k (omega (arith, within.most_apps))),
      pieces_at_most end_line 1 apps (λ k l m. end_size k (omega (arith, within.most_apps))),
    )
