-- A reply in pieces is the reply at once.
use Rattle.std.proofs.Common.{◌≡◌, ℕ, ◌+◌, ◌-◌, ◌≤◌, Bool, true, false, List, [], ◌∷◌, ◌++◌, length, map, take, drop}
use Rattle.std.proofs.Common.{Option, Some, None, refl, sym, ap, subst, ◌∙◌}
use Rattle.std.proofs.Common.{arith, if◌then◌else◌}
use Rattle.std.specs.Prelude.{slice_get, ◌||◌, is_some}
use Rattle.std.proofs.lemmas.List.{length-append, length-drop, map-append, append-nil, append_assoc, take-append-drop}
use Rattle.std.proofs.lemmas.Option.{slice_get_read}
use Rattle.std.proofs.Math.ListN.{drop_of_length-le}
use Rattle.std.proofs.Math.Seq.{get_or-append_seam, take-append-add, drop-append-add}
use Rattle.dss_frame.specs.declared.dss.Dss.{Dss}
use Rattle.dss_frame.specs.declared.dss.Placed.{Placed}
use Rattle.dss_frame.specs.declared.fault.Why.{Why}
use Rattle.dss_frame.specs.declared.fault.Why.TheVariants.{Short, NoD0, Format, Continue}
use Rattle.dss_frame.specs.declared.fault.StreamFault.{StreamFault}
use Rattle.dss_frame.specs.declared.fault.StreamFault.TheVariants as fault
use Rattle.dss_frame.specs.Reading.{View, fed, behind}
use Rattle.dss_frame.proofs.Pieces.Pieces.{fed-append, fed-behind}
use Rattle.requester_core.specs.declared.reply.Rest.{Rest}
use Rattle.requester_core.specs.declared.reply.Judged.{Judged}
use Rattle.requester_core.specs.declared.reply.Judged.TheVariants.{GoesOn, Leaves, Passes, Ends}
use Rattle.requester_core.specs.declared.round.Round.{Round}
use Rattle.requester_core.specs.declared.got.Got.TheVariants.{More, Refused, TooLong}
use Rattle.requester_core.specs.Reply.{may_come, number_of, least_after, number_place, rest_of, judged_end, judged}
use Rattle.requester_core.specs.Reply.{by_number, by_told, by_field, by_field_beyond, completed}
use Rattle.requester_core.specs.Round.{commands_of, is_work}
use Rattle.requester_core.specs.Talk.{Talking, Back, read_in, judged_piece, room_of, within, beyond, with_byte, with_beyond, after_beyond, read_all, judged_all}
use Rattle.requester_core.specs.Talk.{after_round, got_by, given_up, back_by, back_in, back}
use Rattle.requester_core.specs.Judging.{admits, stripped_by}
use Rattle.requester_core.specs.Laws.{LeavesOpen}

-- ---- what goes on

-- the least number that may come behind these
abbrev last_number : ℕ → List Placed → ℕ
last_number least [] = least
last_number least (p ∷ placed) = last_number p.dss.corr placed

final_by : (b : Bool) (at : ℕ) → (if b then Leaves at else Ends) ≡ GoesOn → ⊥
final_by true at e = cc
final_by false at e = cc

end_is_final : (placed : List Placed) (r : Rest) → judged_end placed r ≡ GoesOn → ⊥
end_is_final (p ∷ placed) r e = cc
end_is_final [] r e = final_by (r.begun || is_some r.fault) r.place e

goes_cases : (m c : Bool) (next end : Judged) (at : ℕ) → (end ≡ GoesOn → ⊥) → (if m then (if c then next else end) else Leaves at) ≡ GoesOn
    → (m ≡ true) × (c ≡ true) × (next ≡ GoesOn)
goes_cases true true next end at final e = (refl, refl, e)
goes_cases true false next end at final e = absurd (final e)
goes_cases false c next end at final e = absurd (cc)

both : (m c : Bool) (next end : Judged) (at : ℕ) → m ≡ true → c ≡ true → (if m then (if c then next else end) else Leaves at) ≡ next
both true true next end at m c = refl
both true false next end at m c = absurd (cc)
both false c next end at m k = absurd (cc)

-- DSSs behind which a reply goes on, and others behind them
goes_on : (count least : ℕ) (placed others : List Placed) (r s : Rest) → judged count least placed r ≡ GoesOn
    → judged count least (placed ++ others) s ≡ judged count (last_number least placed) others s
unfolding judged
goes_on count least [] others r s e = refl
goes_on count least (p ∷ placed) others r s e =
    let h = goes_cases (may_come count least p.dss.corr) p.dss.chained (judged count p.dss.corr placed r) (judged_end placed r)
    (number_place p.at) (end_is_final placed r) e in
    both (may_come count least p.dss.corr) p.dss.chained (judged count p.dss.corr (placed ++ others) s) (judged_end (placed ++ others) s)
    (number_place p.at) h.0 h.1
    ∙ goes_on count p.dss.corr placed others r s h.2

last_of : (replies : List Dss) (d : Dss) → slice_get (replies ++ d ∷ []) (length (replies ++ d ∷ []) - 1) ≡ Some d
last_of replies d =
    let size = length-append replies (d ∷ []) in
    ap (slice_get (replies ++ d ∷ [])) (omega arith) ∙ slice_get_read (replies ++ d ∷ []) (length (replies ++ d ∷ [])) (length replies) d refl (omega arith)
    (sym (get_or-append_seam replies d [] d))

-- the number of the last one counts
least_behind : (replies : List Dss) (placed : List Placed) → least_after (replies ++ map (λ p. p.dss) placed) ≡ last_number (least_after replies) placed
least_behind replies [] = ap least_after (append-nil replies)
least_behind replies (p ∷ placed) =
    ap least_after (sym (append_assoc replies (p.dss ∷ []) (map (λ p. p.dss) placed)))
    ∙ least_behind (replies ++ p.dss ∷ []) placed
    ∙ ap (λ (n : ℕ). last_number n placed) (ap number_of (last_of replies p.dss))

-- ---- a piece behind a piece

-- what the second piece gives stands behind what the first one gave
fed_behind : (v : View) (p q : List ℕ) → behind (fed v p).whole (fed (record (fed v p) { whole = [] }) q) ≡ fed v (p ++ q)
fed_behind v p q =
    let w : View = fed v p in
    sym (fed-behind w.whole (record w { whole = [] }) q)
    ∙ ap (λ (ps : List Placed). fed (record w { whole = ps }) q) (append-nil w.whole)
    ∙ fed-append v p q

pub same_talk : (t : Talking) (a b : View) (x y : List Dss) (m n : ℕ) → a ≡ b → x ≡ y → m ≡ n
    → ◌≡◌ {A = Talking} (record t { reader = a; replies = x; unread = m }) (record t { reader = b; replies = y; unread = n })
same_talk t a b x y m n r s u = rw (r, s, u) refl

unread_twice : (unread a b c : ℕ) → c ≡ a + b → unread + a + b ≡ unread + c
unread_twice unread a b c e = omega arith

pub read_twice : (p q : List ℕ) (t : Talking) → read_in q (read_in p t) ≡ read_in (p ++ q) t
read_twice p q t =
    let v : View = fed t.reader p in
    let next : View = fed (record v { whole = [] }) q in
    let all : View = fed t.reader (p ++ q) in
    let readers : record next { whole = [] } ≡ record all { whole = [] } = ap (λ (w : View). record w { whole = [] }) (fed_behind t.reader p q) in
    let replies : (t.replies ++ map (λ p. p.dss) v.whole) ++ map (λ p. p.dss) next.whole ≡ t.replies ++ map (λ p. p.dss) all.whole =
    append_assoc t.replies (map (λ p. p.dss) v.whole) (map (λ p. p.dss) next.whole)
    ∙ ap (λ (ds : List Dss). t.replies ++ ds)
    (sym (map-append (λ p. p.dss) v.whole next.whole) ∙ ap (λ (w : View). map (λ p. p.dss) w.whole) (fed_behind t.reader p q)) in
    same_talk t (record next { whole = [] }) (record all { whole = [] }) ((t.replies ++ map (λ p. p.dss) v.whole) ++ map (λ p. p.dss) next.whole)
    (t.replies ++ map (λ p. p.dss) all.whole) (t.unread + length p + length q) (t.unread + length (p ++ q)) readers replies
    (unread_twice t.unread (length p) (length q) (length (p ++ q)) (length-append p q))

-- what the second piece is judged to be
judged_twice : (count : ℕ) (p q : List ℕ) (t : Talking) → judged_piece count p t ≡ GoesOn
    → judged_piece count q (read_in p t) ≡ judged_piece count (p ++ q) t
judged_twice count p q t e =
    let v : View = fed t.reader p in
    let next : View = fed (record v { whole = [] }) q in
    ap (λ (n : ℕ). judged count n next.whole (rest_of next)) (least_behind t.replies v.whole)
    ∙ sym (goes_on count (least_after t.replies) v.whole next.whole (rest_of v) (rest_of next) e)
    ∙ ap (λ (w : View). judged count (least_after t.replies) w.whole (rest_of w)) (fed_behind t.reader p q)

-- ---- the first byte beyond the limit

-- it ends the reply
pub record IsFinal (j : Judged) : Type 0 where
  pub more : j ≡ GoesOn → ⊥
  pub whole : j ≡ Ends → ⊥

leaves_final : (at : ℕ) → IsFinal (Leaves at)
leaves_final at = record { more = λ e. cc; whole = λ e. cc }

passes_final : IsFinal Passes
passes_final = record { more = λ e. cc; whole = λ e. cc }

if_final : (b : Bool) (x y : Judged) → IsFinal x → IsFinal y → IsFinal (if b then x else y)
if_final true x y f g = f
if_final false x y f g = g

number_final : (count least place number : ℕ) (j : Judged) → IsFinal j → IsFinal (by_number count least place number j)
number_final count least place number j f = if_final (may_come count least number) j (Leaves (number_place place)) f (leaves_final (number_place place))

told_final : (count least place : ℕ) (number : Option ℕ) → IsFinal (by_told count least place number Passes)
told_final count least place None = passes_final
told_final count least place (Some number) = number_final count least place number Passes passes_final

field_final : (count least place at : ℕ) (why : Why) (number : ℕ) → IsFinal (by_field count least place at why number)
field_final count least place at Short number = leaves_final at
field_final count least place at NoD0 number = leaves_final at
field_final count least place at Format number = leaves_final at
field_final count least place at Continue number = number_final count least place number (Leaves at) (leaves_final at)

beyond_final : (count least place : ℕ) (number : Option ℕ) (f : Option StreamFault) → IsFinal (by_field_beyond count least place number f)
beyond_final count least place number None = told_final count least place number
beyond_final count least place number (Some (fault.TooLong at corr)) = told_final count least place number
beyond_final count least place number (Some (fault.Frame at why corr)) = field_final count least place at why corr

byte_final : (j : Judged) (count byte : ℕ) (t : Talking) → IsFinal (with_byte j count byte t)
byte_final GoesOn count byte t =
    beyond_final count (least_after t.replies) t.reader.position.at (completed t.reader.open byte) (fed t.reader (byte ∷ [])).fault
byte_final (Leaves at) count byte t = leaves_final at
byte_final Passes count byte t = passes_final
byte_final Ends count byte t = leaves_final t.reader.position.at

none_beyond : (j : Judged) (count : ℕ) (bytes : List ℕ) (t : Talking) (k : Judged) → with_beyond j count bytes t ≡ k → (IsFinal k → ⊥)
    → (bytes ≡ []) × (j ≡ k)
none_beyond j count [] t k e lasts = (refl, e)
none_beyond j count (byte ∷ more) t k e lasts = absurd (lasts (subst IsFinal e (byte_final j count byte t)))

no_more_than : (room : ℕ) (p : List ℕ) → drop room p ≡ [] → length p ≤ room
no_more_than room p e = let size = ap length e in let left = length-drop room p in omega arith

all_within : (room : ℕ) (p : List ℕ) → drop room p ≡ [] → take room p ≡ p
all_within room p e = sym (append-nil (take room p)) ∙ ap (λ (xs : List ℕ). take room p ++ xs) (sym e) ∙ take-append-drop room p

-- all of a piece that doesn't end a reply by its limit is within it
pub record Within (count : ℕ) (p : List ℕ) (t : Talking) (j : Judged) : Type 0 where
  pub fits : length p ≤ room_of t
  pub judged : judged_piece count p t ≡ j
  pub read : read_all p t ≡ read_in p t

pub is_within : (count : ℕ) (p : List ℕ) (t : Talking) (j : Judged) → judged_all count p t ≡ j → (IsFinal j → ⊥) → Within count p t j
is_within count p t j e lasts =
    let h = none_beyond (judged_piece count (within p t) t) count (beyond p t) (read_in (within p t) t) j e lasts in
    let all = all_within (room_of t) p h.0 in
    record {
      fits = no_more_than (room_of t) p h.0;
      judged = ap (λ (xs : List ℕ). judged_piece count xs t) (sym all) ∙ h.1;
      read = ap (λ (xs : List ℕ). after_beyond xs (read_in (within p t) t)) h.0 ∙ ap (λ (xs : List ℕ). read_in xs t) all;
    }

-- so is all of a piece that is no longer than the room
pub within_all : (count : ℕ) (p : List ℕ) (t : Talking) → length p ≤ room_of t → (judged_all count p t ≡ judged_piece count p t) × (read_all p t ≡ read_in p t)
within_all count p t fits =
    let none : beyond p t ≡ [] = drop_of_length-le p fits in
    let all = all_within (room_of t) p none in (
      ap (λ (xs : List ℕ). with_beyond (judged_piece count (within p t) t) count xs (read_in (within p t) t)) none
          ∙ ap (λ (xs : List ℕ). judged_piece count xs t) all,
      ap (λ (xs : List ℕ). after_beyond xs (read_in (within p t) t)) none ∙ ap (λ (xs : List ℕ). read_in xs t) all,
    )

-- what is left of the room, and what of both pieces is within it
left : (room size n : ℕ) → size ≤ room → n ≡ room - size → room ≡ size + n
left room size n fits e = omega arith

room_left : (limit unread size : ℕ) → limit - (unread + size) ≡ limit - unread - size
room_left limit unread size = omega arith

front_joined : (room n : ℕ) (p q : List ℕ) → length p ≤ room → n ≡ room - length p → p ++ take n q ≡ take room (p ++ q)
front_joined room n p q fits e =
    sym (take-append-add p q n) ∙ ap (λ (k : ℕ). take k (p ++ q)) (sym (left room (length p) n fits e))

back_joined : (room n : ℕ) (p q : List ℕ) → length p ≤ room → n ≡ room - length p → drop n q ≡ drop room (p ++ q)
back_joined room n p q fits e =
    sym (drop-append-add p q n) ∙ ap (λ (k : ℕ). drop k (p ++ q)) (sym (left room (length p) n fits e))

-- ---- a piece that leaves a reply open

no_round_less : (round : Round) (rounds : List Round) → rounds ≡ round ∷ rounds → ⊥
no_round_less round rounds e = let size = ap length e in omega arith

long_is_final : (b : Bool) → (if b then TooLong else Refused) ≡ More → ⊥
long_is_final true e = cc
long_is_final false e = cc

ended_by : (b : Bool) (x y : Back) (round : Round) (rounds : List Round) → x.talk.rounds ≡ rounds → y.got ≡ Refused
    → (if b then x else y).got ≡ More → (if b then x else y).talk.rounds ≡ round ∷ rounds → ⊥
ended_by true x y round rounds less refused more same = no_round_less round rounds (sym less ∙ same)
ended_by false x y round rounds less refused more same = cc

-- only a reply that goes on is left open
open_by : (j : Judged) (round : Round) (rounds : List Round) (u : Talking)
    → (back_by j round rounds u).got ≡ More → (back_by j round rounds u).talk.rounds ≡ round ∷ rounds → j ≡ GoesOn
open_by GoesOn round rounds u more same = refl
open_by (Leaves at) round rounds u more same = absurd (cc)
open_by Passes round rounds u more same = absurd (long_is_final (is_work round) more)
open_by Ends round rounds u more same =
    absurd (ended_by (admits u.typdef u.mechanism round u.replies)
    (record { talk = after_round round rounds u; got = got_by (stripped_by round u.replies) rounds }) (record { talk = given_up u; got = Refused })
    round rounds refl refl more same)

goes_on_open : IsFinal GoesOn → ⊥
goes_on_open f = f.more refl

-- what both pieces come to
joined_all : (count : ℕ) (p q : List ℕ) (t : Talking) → Within count p t GoesOn → judged_all count q (read_in p t) ≡ judged_all count (p ++ q) t
joined_all count p q t h =
    let u : Talking = read_in p t in
    let f : List ℕ = within q u in
    let room : room_of u ≡ room_of t - length p = room_left 33554432 t.unread (length p) in
    let front : p ++ f ≡ within (p ++ q) t = front_joined (room_of t) (room_of u) p q h.fits room in
    let rest : beyond q u ≡ beyond (p ++ q) t = back_joined (room_of t) (room_of u) p q h.fits room in
    ap (λ (j : Judged). with_beyond j count (beyond q u) (read_in f u)) (judged_twice count p f t h.judged)
    ∙ ap (with_beyond (judged_piece count (p ++ f) t) count (beyond q u)) (read_twice p f t)
    ∙ ap (λ (xs : List ℕ). with_beyond (judged_piece count xs t) count (beyond q u) (read_in xs t)) front
    ∙ ap (λ (xs : List ℕ). with_beyond (judged_piece count (within (p ++ q) t) t) count xs (read_in (within (p ++ q) t) t)) rest

joined_read : (count : ℕ) (p q : List ℕ) (t : Talking) → Within count p t GoesOn → read_all q (read_in p t) ≡ read_all (p ++ q) t
joined_read count p q t h =
    let u : Talking = read_in p t in
    let f : List ℕ = within q u in
    let room : room_of u ≡ room_of t - length p = room_left 33554432 t.unread (length p) in
    ap (after_beyond (beyond q u)) (read_twice p f t)
    ∙ ap (λ (xs : List ℕ). after_beyond (beyond q u) (read_in xs t)) (front_joined (room_of t) (room_of u) p q h.fits room)
    ∙ ap (λ (xs : List ℕ). after_beyond xs (read_in (within (p ++ q) t) t)) (back_joined (room_of t) (room_of u) p q h.fits room)

-- a piece that leaves the reply to a round open
pub record IsOpen (round : Round) (rounds : List Round) (p : List ℕ) (t : Talking) : Type 0 where
  pub judged : judged_all (length (commands_of round)) p t ≡ GoesOn
  pub within : Within (length (commands_of round)) p t GoesOn
  pub back : back_in (round ∷ rounds) p t ≡ record { talk = read_in p t; got = More }

pub goes_open : (round : Round) (rounds : List Round) (p : List ℕ) (t : Talking)
    → judged_all (length (commands_of round)) p t ≡ GoesOn → IsOpen round rounds p t
goes_open round rounds p t goes =
    let h = is_within (length (commands_of round)) p t GoesOn goes goes_on_open in
    record {
      judged = goes;
      within = h;
      back = ap (λ (j : Judged). back_by j round rounds (read_all p t)) goes ∙ ap (λ (u : Talking). record { talk = u; got = More }) h.read;
    }

pub is_open : (round : Round) (rounds : List Round) (p : List ℕ) (t : Talking) → (back_in (round ∷ rounds) p t).got ≡ More
    → (back_in (round ∷ rounds) p t).talk.rounds ≡ round ∷ rounds → IsOpen round rounds p t
is_open round rounds p t more same =
    goes_open round rounds p t (open_by (judged_all (length (commands_of round)) p t) round rounds (read_all p t) more same)

joined_open : (round : Round) (rounds : List Round) (p q : List ℕ) (t : Talking) → IsOpen round rounds p t
    → back_in (round ∷ rounds) q (read_in p t) ≡ back_in (round ∷ rounds) (p ++ q) t
joined_open round rounds p q t h =
    let count : ℕ = length (commands_of round) in
    ap (λ (j : Judged). back_by j round rounds (read_all q (read_in p t))) (joined_all count p q t h.within)
    ∙ ap (back_by (judged_all count (p ++ q) t) round rounds) (joined_read count p q t h.within)

joined_by : (rounds : List Round) (t : Talking) (p q : List ℕ) → t.rounds ≡ rounds → (back_in rounds p t).got ≡ More
    → (back_in rounds p t).talk.rounds ≡ rounds → back q (back_in rounds p t).talk ≡ back_in rounds (p ++ q) t
unfolding back
joined_by [] t p q is more same = ap (λ (rs : List Round). back_in rs q t) is
joined_by (round ∷ rounds) t p q is more same =
    let h = is_open round rounds p t more same in
    ap (λ (b : Back). back q b.talk) h.back
    ∙ ap (λ (rs : List Round). back_in rs q (read_in p t)) is
    ∙ joined_open round rounds p q t h

pub pieces_joined : (t : Talking) (p q : List ℕ) → LeavesOpen p t → back q (back p t).talk ≡ back (p ++ q) t
unfolding back
pieces_joined t p q opens = joined_by t.rounds t p q refl opens.more opens.same
