-- What stands at each number after transports and members change.
use Rattle.std.proofs.Common.{◌≡◌, ◌<◌, ◌≤◌, ℕ, suc, ◌-◌, Bool, true, false, List, ◌++◌, set, get_or, length, replicate, leb}
use Rattle.std.proofs.Common.{Option, Some, None, refl, sym, ap, subst, ◌∙◌, get_or-set_same, get_or-set_other, arith}
use Rattle.std.specs.Prelude.{option_map}
use Rattle.std.proofs.Math.ListN.{get_or-map}
use Rattle.std.proofs.lemmas.List.{get_or_past, set_past, get_or_append_left, get_or-append_right, get_or-replicate, length-append, length-replicate}
use Rattle.std.proofs.lemmas.Bool.Decides.{nat_tests}
use Rattle.plain_model.specs.Plain.{put}
use Rattle.plain_model.proofs.Puts.{by_equal, put_same, put_other}
use Rattle.gateway_wires.specs.Line.{LineState, fallen_with}
use Rattle.gateway_wires.specs.Wires.{WiresState, line_of, is_down, on_line, with_line, with_room, with_down}

-- a number is within a list or past it
within : {A B : Type 0} (xs : List A) (n : ℕ) → (n < length xs → B) → (length xs ≤ n → B) → B
within {B = B} xs n inside past = go (leb (suc n) (length xs)) refl
  where
    go : (b : Bool) → leb (suc n) (length xs) ≡ b → B
    go true e = inside (grind (arith, nat_tests))
    go false e = past (grind (arith, nat_tests))

-- what is written at a place that may be past the end, by what stood there
write_there : {A : Type 0} (xs : List (Option A)) (n : ℕ) (change : A → A) → get_or (set xs n (option_map change (get_or xs n None))) n None
    ≡ option_map change (get_or xs n None)
write_there {A} xs n change = within xs n
    (λ lt. get_or-set_same xs n (option_map change (get_or xs n None)) None lt)
    (λ le. ap (λ (ys : List (Option A)). get_or ys n None) (set_past xs n (option_map change (get_or xs n None)) le)
    ∙ get_or_past xs n None le ∙ sym (ap (option_map change) (get_or_past xs n None le)))

pub line_changed : {U : Type 0} (number : ℕ) (change : LineState U → LineState U) (w : WiresState U) (n : ℕ)
    → line_of (on_line number change w) n ≡ put (line_of w) number (option_map change (line_of w number)) n
line_changed number change w n = by_equal n number
    (λ e. subst (λ (k : ℕ). line_of (on_line number change w) k ≡ put (line_of w) number (option_map change (line_of w number)) k) (sym e)
    (write_there w.lines number change ∙ sym (put_same (line_of w) number (option_map change (line_of w number)))))
    (λ ne. get_or-set_other w.lines number n (option_map change (line_of w number)) None ne
    ∙ sym (put_other (line_of w) number (option_map change (line_of w number)) n ne))

-- room changes nothing
pub any_room_same : {A : Type 0} (room : ℕ) (lines : List (Option A)) (n : ℕ) → get_or (lines ++ replicate room None) n None ≡ get_or lines n None
any_room_same {A} room lines n = within lines n
    (λ lt. get_or_append_left lines (replicate room None) None n lt)
    (λ le. within (lines ++ replicate room None) n
    (λ lt. get_or-append_right lines (replicate room None) (length lines) n None refl le
    ∙ get_or-replicate room (n - length lines) None None (in_room le lt) ∙ sym (get_or_past lines n None le))
    (λ past. get_or_past (lines ++ replicate room None) n None past ∙ sym (get_or_past lines n None le)))
  where
    in_room : length lines ≤ n → n < length (lines ++ replicate room None) → n - length lines < room
    in_room le lt = omega (arith, length-append lines (replicate room None), length-replicate {A = Option A} room None)

pub room_same : {A : Type 0} (number : ℕ) (lines : List (Option A)) (n : ℕ) → get_or (with_room number lines) n None ≡ get_or lines n None
room_same number lines n = any_room_same (suc number - length lines) lines n

pub has_room : {A : Type 0} (number : ℕ) (lines : List (Option A)) → number < length (with_room number lines)
has_room {A} number lines =
    let room : ℕ = suc number - length lines in
    omega (arith, length-append lines (replicate room None), length-replicate {A = Option A} room None)

pub line_dialled : {U : Type 0} (number : ℕ) (x : LineState U) (w : WiresState U) (n : ℕ)
    → line_of (with_line number x w) n ≡ put (line_of w) number (Some x) n
line_dialled number x w n = by_equal n number
    (λ e. subst (λ (k : ℕ). line_of (with_line number x w) k ≡ put (line_of w) number (Some x) k) (sym e)
    (get_or-set_same (with_room number w.lines) number (Some x) None (has_room number w.lines) ∙ sym (put_same (line_of w) number (Some x))))
    (λ ne. get_or-set_other (with_room number w.lines) number n (Some x) None ne ∙ room_same number w.lines n
    ∙ sym (put_other (line_of w) number (Some x) n ne))

pub line_fallen : {U : Type 0} (member : ℕ) (w : WiresState U) (n : ℕ) → line_of (with_down member w) n ≡ option_map (fallen_with member) (line_of w n)
line_fallen member w n = get_or-map (option_map (fallen_with member)) w.lines n None

-- ---- members

pub is_down_put : {U : Type 0} (member : ℕ) (down : Bool) (w : WiresState U) → member < length w.down → (n : ℕ)
    → get_or (set w.down member down) n false ≡ put (is_down w) member down n
is_down_put member down w lt n = by_equal n member
    (λ e. subst (λ (k : ℕ). get_or (set w.down member down) k false ≡ put (is_down w) member down k) (sym e)
    (get_or-set_same w.down member down false lt ∙ sym (put_same (is_down w) member down)))
    (λ ne. get_or-set_other w.down member n down false ne ∙ sym (put_other (is_down w) member down n ne))
