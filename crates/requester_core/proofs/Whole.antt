-- What is read as a whole reply is one, and a reply is read as a whole one.
use Rattle.std.proofs.Common.{◌≡◌, ℕ, zero, suc, ◌+◌, ◌-◌, ◌≤◌, ◌⊎◌, ◌||◌, Bool, true, false, if◌then◌else◌, List, [], ◌∷◌, ◌++◌, length, map, take, drop}
use Rattle.std.proofs.Common.{Option, Some, None, is_some, refl, sym, ap, subst, ◌∙◌, arith, nat_le, inl, inr}
use Rattle.std.specs.List.{AllByRecursion}
use Rattle.std.proofs.lemmas.Bool.{and_parts, and_from, leb-true, leb-false, le-leb}
use Rattle.std.proofs.lemmas.List.{length-append, append-nil, append_assoc, take_at, drop_at}
use Rattle.link_ends.specs.Bytes.{AreBytes}
use Rattle.dss_frame.specs.declared.dss.Dss.{Dss}
use Rattle.dss_frame.specs.declared.dss.Placed.{Placed}
use Rattle.dss_frame.specs.declared.dss.Side.TheVariants.{Replies}
use Rattle.dss_frame.specs.declared.fault.StreamFault.{StreamFault}
use Rattle.dss_frame.specs.declared.fault.StreamFault.TheVariants as fault
use Rattle.dss_frame.specs.declared.fault.Why.TheVariants.{Short, NoD0, Format, Continue}
use Rattle.dss_frame.specs.declared.step.Position.{Position}
use Rattle.dss_frame.specs.Segments.{extent_of, dss_of}
use Rattle.dss_frame.specs.Spelling.{Spelled, IsSpelled, Begins}
use Rattle.dss_frame.specs.Reading.{View, with_dss, with_bytes, position_after, read_on, fed}
use Rattle.dss_frame.proofs.Pieces.NextStep.{step_reads}
use Rattle.dss_frame.proofs.Pieces.Pieces.{on_none, on_reads, fed_none}
use Rattle.dss_frame.proofs.Spellings.OneSpelling.{spelled_dss}
use Rattle.dss_frame.proofs.Streams.Streams.{all_bytes, first_ends, some_bytes}
use Rattle.dss_frame.proofs.Streams.Ended.{Ended, Waiting, Long, Wrong, placed_on, position_on, same_dsss, ended as reading_ends}
use Rattle.access_handshake.specs.declared.access.Access.{Access}
use Rattle.access_handshake.specs.declared.stage.Stage.{Stage}
use Rattle.unit_segments.specs.Registers.{Register}
use Rattle.unit_segments.specs.declared.command.Command.{Command}
use Rattle.unit_segments.specs.declared.stripped.Stripped.{Stripped}
use Rattle.unit_segments.specs.Strip.{stripped}
use Rattle.unit_segments.specs.Accepts.{are_readable}
use Rattle.requester_core.specs.declared.got.Got.TheVariants.{Whole, Refused}
use Rattle.requester_core.specs.declared.reply.Rest.{Rest}
use Rattle.requester_core.specs.declared.reply.Judged.{Judged}
use Rattle.requester_core.specs.declared.reply.Judged.TheVariants.{GoesOn, Leaves, Passes, Ends}
use Rattle.requester_core.specs.declared.round.Round.{Round}
use Rattle.requester_core.specs.declared.round.Round.TheVariants.{Work}
use Rattle.requester_core.specs.Reply.{may_come, number_place, rest_of, by_rest, judged_end, judged}
use Rattle.requester_core.specs.Round.{commands_of}
use Rattle.requester_core.specs.Talk.{Talking, Back, quiet, begun, read_in, judged_piece, within, judged_all, read_all}
use Rattle.requester_core.specs.Talk.{after_round, given_up, got_by, ended, back_by, back_in, back}
use Rattle.requester_core.specs.Judging.{admits, stripped_by}
use Rattle.requester_core.specs.Grammar.{AreOneChain, NeverFall, IsReply, reader_at, StandsBefore}
use Rattle.requester_core.proofs.Pieces.{same_talk, IsFinal, is_within, within_all}

-- ---- spellings are read

room_left : (c : Bool) (size count rest room limit : ℕ) → size ≡ count + rest → size ≤ room → room ≤ limit
    → (rest ≤ (if c then room - count else limit)) × ((if c then room - count else limit) ≤ limit)
room_left true size count rest room limit e fits most = (omega arith, omega arith)
room_left false size count rest room limit e fits most = (omega arith, omega arith)

-- what a reader has that read these
abbrev pub read_whole : View → List Spelled → View
read_whole v spelled = record v {
  whole = v.whole ++ placed_on v.limit v.position spelled;
  position = position_on v.limit v.position spelled;
  «open» = [];
}

nothing_read : (v : View) → v.open ≡ [] → v ≡ read_whole v []
nothing_read v e =
    ap (λ (bytes : List ℕ). record v { «open» = bytes }) e
    ∙ ap (λ (ps : List Placed). record v { whole = ps; «open» = [] }) (sym (append-nil v.whole))

spelled_are_read : (spelled : List Spelled) (n : ℕ) (v : View) → AllByRecursion (IsSpelled v.side) spelled → v.open ≡ all_bytes spelled
    → length v.open ≤ n → length v.open ≤ v.position.room → v.position.room ≤ v.limit → read_on n v ≡ read_whole v spelled
spelled_are_read [] n v each e enough room most = on_none n v (ap length e) ∙ nothing_read v e
spelled_are_read (s ∷ others) zero v each e enough room most =
    let size = ap length e ∙ length-append s.bytes (all_bytes others) in
    absurd (omega (arith, some_bytes v.side s each.0))
spelled_are_read (s ∷ others) (suc n) v each e enough room most =
    let count : ℕ = length s.bytes in
    let size = ap length e ∙ length-append s.bytes (all_bytes others) in
    let some = some_bytes v.side s each.0 in
    let ends = ap (extent_of v.side) e ∙ first_ends v.side s (all_bytes others) each.0 in
    let front : take count v.open ≡ s.bytes = ap (take count) e ∙ take_at s.bytes (all_bytes others) count refl in
    let rest : drop count v.open ≡ all_bytes others = ap (drop count) e ∙ drop_at s.bytes (all_bytes others) count refl in
    let dss : dss_of (take count v.open) ≡ s.dss = ap dss_of front ∙ spelled_dss v.side s.dss s.bytes each.0 in
    let w : View = with_dss v s.dss count in
    let least : length (drop count v.open) ≡ length (all_bytes others) = ap length rest in
    let h = room_left s.dss.chained (length v.open) count (length (drop count v.open)) v.position.room v.limit (omega arith) room most in
    on_reads n v count (step_reads v.side v.position v.open count ends (omega arith))
    ∙ ap (λ (d : Dss). read_on n (with_dss v d count)) dss
    ∙ spelled_are_read others n w each.1 rest (omega arith) h.0 h.1
    ∙ ap (λ (ps : List Placed). record (read_whole w others) { whole = ps })
    (append_assoc v.whole (record { at = v.position.at; dss = s.dss } ∷ []) (placed_on v.limit (position_after v.limit v.position s.dss count) others))

-- ---- they are judged as the grammar says

may : (count least number : ℕ) → least ≤ number → number ≤ count → may_come count least number ≡ true
may count least number low high = and_from (nat_le least number) (nat_le number count) (le-leb least number low) (le-leb number count high)

comes : (m c : Bool) (next end : Judged) (at : ℕ) → m ≡ true → (if m then (if c then next else end) else Leaves at) ≡ (if c then next else end)
comes true c next end at is = refl
comes false c next end at is = absurd (cc)

on_chained : (c : Bool) (next end : Judged) → c ≡ true → (if c then next else end) ≡ next
on_chained true next end is = refl
on_chained false next end is = absurd (cc)

on_last : (c : Bool) (next end : Judged) → c ≡ false → (if c then next else end) ≡ end
on_last false next end is = refl
on_last true next end is = absurd (cc)

nothing_behind : (r : Rest) → r.begun ≡ false → r.fault ≡ None → judged_end [] r ≡ Ends
nothing_behind r begun fault =
    ap (λ (b : Bool). if b || is_some r.fault then Leaves r.place else Ends) begun
    ∙ ap (λ (f : Option StreamFault). if is_some f then Leaves r.place else Ends) fault

judged_whole : (spelled : List Spelled) (count least limit : ℕ) (position : Position) (r : Rest) → AreOneChain (map (λ s. s.dss) spelled)
    → NeverFall count least (map (λ s. s.dss) spelled) → r.begun ≡ false → r.fault ≡ None
    → judged count least (placed_on limit position spelled) r ≡ Ends
unfolding judged
judged_whole [] count least limit position r chain numbers begun fault = absurd chain
judged_whole (s ∷ []) count least limit position r chain numbers begun fault =
    comes (may_come count least s.dss.corr) s.dss.chained (judged count s.dss.corr [] r) (judged_end [] r) (number_place position.at)
    (may count least s.dss.corr numbers.0 numbers.1)
    ∙ on_last s.dss.chained (judged count s.dss.corr [] r) (judged_end [] r) chain
    ∙ nothing_behind r begun fault
judged_whole (s ∷ next ∷ others) count least limit position r chain numbers begun fault =
    let after = position_after limit position s.dss (length s.bytes) in
    let behind = placed_on limit after (next ∷ others) in
    comes (may_come count least s.dss.corr) s.dss.chained (judged count s.dss.corr behind r) (judged_end behind r) (number_place position.at)
    (may count least s.dss.corr numbers.0 numbers.1)
    ∙ on_chained s.dss.chained (judged count s.dss.corr behind r) (judged_end behind r) chain.0
    ∙ judged_whole (next ∷ others) count s.dss.corr limit after r chain.1 numbers.2 begun fault

-- ---- and back

-- what isn't whole ends no reply
goes_final : (b : Bool) (at : ℕ) → (if b then GoesOn else Leaves at) ≡ Ends → ⊥
goes_final true at e = cc
goes_final false at e = cc

passes_final : (b : Bool) (at : ℕ) → (if b then Passes else Leaves at) ≡ Ends → ⊥
passes_final true at e = cc
passes_final false at e = cc

leaves_final : (b : Bool) (at place : ℕ) → (if b then Leaves at else Leaves place) ≡ Ends → ⊥
leaves_final true at place e = cc
leaves_final false at place e = cc

rest_final : (count least place : ℕ) (number : Option ℕ) (f : Option StreamFault) → by_rest count least place number f ≡ Ends → ⊥
rest_final count least place None None e = cc
rest_final count least place (Some number) None e = goes_final (may_come count least number) (number_place place) e
rest_final count least place number (Some (fault.TooLong at corr)) e = passes_final (may_come count least corr) (number_place place) e
rest_final count least place number (Some (fault.Frame at Short corr)) e = cc
rest_final count least place number (Some (fault.Frame at NoD0 corr)) e = cc
rest_final count least place number (Some (fault.Frame at Format corr)) e = cc
rest_final count least place number (Some (fault.Frame at Continue corr)) e = leaves_final (may_come count least corr) at (number_place place) e

-- a DSS that a whole reply has came, and is chained or the last
came : (m c : Bool) (next end : Judged) (at : ℕ) → (if m then (if c then next else end) else Leaves at) ≡ Ends → m ≡ true
came true c next end at e = refl
came false c next end at e = absurd (cc)

pub record Last (c : Bool) (next end : Judged) : Type 0 where
  pub chained : c ≡ true → next ≡ Ends
  pub last : c ≡ false → end ≡ Ends

last_by : (m c : Bool) (next end : Judged) (at : ℕ) → (if m then (if c then next else end) else Leaves at) ≡ Ends → Last c next end
last_by true true next end at e = record { chained = λ _. e; last = λ isnt. absurd (cc) }
last_by true false next end at e = record { chained = λ isnt. absurd (cc); last = λ _. e }
last_by false c next end at e = absurd (cc)

nothing_left : (b : Bool) (f : Option StreamFault) (place : ℕ) → (if b || is_some f then Leaves place else Ends) ≡ Ends → (b ≡ false) × (f ≡ None)
nothing_left true f place e = absurd (cc)
nothing_left false (Some fault) place e = absurd (cc)
nothing_left false None place e = (refl, refl)

pub record IsWhole (count least : ℕ) (dsss : List Dss) (r : Rest) : Type 0 where
  pub chain : AreOneChain dsss
  pub numbers : NeverFall count least dsss
  pub begun : r.begun ≡ false
  pub fault : r.fault ≡ None

either : (b : Bool) → (b ≡ true) ⊎ (b ≡ false)
either true = inl refl
either false = inr refl

whole_of : (spelled : List Spelled) (count least limit : ℕ) (position : Position) (r : Rest) → judged count least (placed_on limit position spelled) r ≡ Ends
    → IsWhole count least (map (λ s. s.dss) spelled) r
unfolding judged
whole_of [] count least limit position r e = absurd (rest_final count least r.place r.number r.fault e)
whole_of (s ∷ []) count least limit position r e =
    let next = judged count s.dss.corr [] r in
    let m = came (may_come count least s.dss.corr) s.dss.chained next (judged_end [] r) (number_place position.at) e in
    let both = and_parts (nat_le least s.dss.corr) (nat_le s.dss.corr count) m in
    let l = last_by (may_come count least s.dss.corr) s.dss.chained next (judged_end [] r) (number_place position.at) e in
    elim (either s.dss.chained) [
      | inl is ↦ absurd (rest_final count s.dss.corr r.place r.number r.fault (l.chained is))
      | inr isnt ↦
          let h = nothing_left r.begun r.fault r.place (l.last isnt) in
          record { chain = isnt; numbers = (leb-true least s.dss.corr both.0, leb-true s.dss.corr count both.1, tt); begun = h.0; fault = h.1 }
    ]
whole_of (s ∷ next ∷ others) count least limit position r e =
    let after = position_after limit position s.dss (length s.bytes) in
    let behind = placed_on limit after (next ∷ others) in
    let go = judged count s.dss.corr behind r in
    let m = came (may_come count least s.dss.corr) s.dss.chained go (judged_end behind r) (number_place position.at) e in
    let both = and_parts (nat_le least s.dss.corr) (nat_le s.dss.corr count) m in
    let l = last_by (may_come count least s.dss.corr) s.dss.chained go (judged_end behind r) (number_place position.at) e in
    elim (either s.dss.chained) [
      | inl is ↦
          let h = whole_of (next ∷ others) count s.dss.corr limit after r (l.chained is) in
          record {
            chain = (is, h.chain);
            numbers = (leb-true least s.dss.corr both.0, leb-true s.dss.corr count both.1, h.numbers);
            begun = h.begun;
            fault = h.fault;
          }
      | inr isnt ↦ let none = l.last isnt in absurd (cc)
    ]

-- ---- all of a reply

pub fresh_read : (at : ℕ) (spelled : List Spelled) (bytes : List ℕ) → Begins Replies spelled [] bytes → length bytes ≤ 33554432
    → fed (reader_at at) bytes ≡ read_whole (with_bytes (reader_at at) bytes) spelled
fresh_read at spelled bytes begins fits =
    fed_none (reader_at at) bytes refl
    ∙ spelled_are_read spelled (length bytes) (with_bytes (reader_at at) bytes) begins.each (begins.all ∙ append-nil (all_bytes spelled)) (omega arith) fits
    (omega arith)

-- a conversation that stands before a reply
abbrev pub begun_at : ℕ → Talking → Talking
begun_at at t = record t { reader = reader_at at; replies = []; unread = 0 }

pub begun_talk : (t : Talking) → StandsBefore t → t ≡ begun_at t.reader.position.at t
begun_talk t h = same_talk t t.reader (reader_at t.reader.position.at) t.replies [] t.unread 0 h.reader h.replies h.unread

reply_judged : (count at : ℕ) (dsss : List Dss) (bytes : List ℕ) (t : Talking) → (r : IsReply count dsss bytes)
    → judged_piece count bytes (begun_at at t) ≡ Ends
reply_judged count at dsss bytes t r =
    let chain = subst AreOneChain (sym r.are) r.chain in
    let numbers = subst (NeverFall count 1) (sym r.are) r.numbers in
    let v : View = read_whole (with_bytes (reader_at at) bytes) r.spelled in
    ap (λ (w : View). judged count 1 w.whole (rest_of w)) (fresh_read at r.spelled bytes r.begins r.fits)
    ∙ judged_whole r.spelled count 1 33554432 (reader_at at).position (rest_of v) chain numbers refl refl

reply_kept : (count at : ℕ) (dsss : List Dss) (bytes : List ℕ) (t : Talking) → (r : IsReply count dsss bytes)
    → (read_in bytes (begun_at at t)).replies ≡ dsss
reply_kept count at dsss bytes t r =
    ap (λ (w : View). map (λ p. p.dss) w.whole) (fresh_read at r.spelled bytes r.begins r.fits)
    ∙ sym (same_dsss 33554432 (reader_at at).position r.spelled) ∙ r.are

none_begun : (bytes : List ℕ) → nat_le 1 (length bytes) ≡ false → bytes ≡ []
none_begun [] e = refl
none_begun (byte ∷ bytes) e = let less = leb-false 1 (length (byte ∷ bytes)) e in absurd (omega arith)

no_rest : (v r : View) (h : Ended v r) → r.open ≡ [] → r.fault ≡ None → h.rest ≡ []
no_rest v r h none fault =
    elim h.last [
      | Waiting f same awaits room ↦ sym same ∙ none
      | Long f x e past within ↦ absurd (let both = sym fault ∙ f in cc)
      | Wrong offset why f e room ↦ absurd (let both = sym fault ∙ f in cc)
    ]

reply_of : (count at : ℕ) (bytes : List ℕ) (t : Talking) → AreBytes bytes → length bytes ≤ 33554432
    → judged_piece count bytes (begun_at at t) ≡ Ends → (dsss : List Dss) × IsReply count dsss bytes
reply_of count at bytes t are fits e =
    let v : View = with_bytes (reader_at at) bytes in
    let r : View = read_on (length bytes) v in
    let h : Ended v r = reading_ends (length bytes) v are refl (omega arith) in
    let same : fed (reader_at at) bytes ≡ r = fed_none (reader_at at) bytes refl in
    let judged_now : judged count 1 (placed_on 33554432 (reader_at at).position h.spelled) (rest_of r) ≡ Ends =
    ap (λ (ps : List Placed). judged count 1 ps (rest_of r)) (sym h.whole)
    ∙ ap (λ (w : View). judged count 1 w.whole (rest_of w)) (sym same) ∙ e in
    let w = whole_of h.spelled count 1 33554432 (reader_at at).position (rest_of r) judged_now in
    let rest = no_rest v r h (none_begun r.open w.begun) w.fault in (
      map (λ s. s.dss) h.spelled,
      record {
        spelled = h.spelled;
        are = refl;
        begins = subst (λ (xs : List ℕ). Begins Replies h.spelled xs bytes) rest h.begins;
        chain = w.chain;
        numbers = w.numbers;
        fits = fits;
      },
    )

-- ---- what it is answered

admitted : (b : Bool) (x y : Back) → b ≡ true → (if b then x else y) ≡ x
admitted true x y is = refl
admitted false x y is = absurd (cc)

ends_open : IsFinal Ends → ⊥
ends_open f = f.whole refl

-- a whole reply ends its round
reply_ends : (round : Round) (rounds : List Round) (at : ℕ) (dsss : List Dss) (bytes : List ℕ) (t : Talking) → IsReply (length (commands_of round)) dsss bytes
    → back_in (round ∷ rounds) bytes (begun_at at t) ≡ ended round rounds (read_in bytes (begun_at at t))
reply_ends round rounds at dsss bytes t r =
    let u : Talking = begun_at at t in
    let count : ℕ = length (commands_of round) in
    let h = within_all count bytes u r.fits in
    ap (λ (j : Judged). back_by j round rounds (read_all bytes u)) (h.0 ∙ reply_judged count at dsss bytes t r)
    ∙ ap (ended round rounds) h.1

found_by : (segment : List Command) (rounds : List Round) (at : ℕ) (dsss : List Dss) (bytes : List ℕ) (t : Talking) → IsReply (length segment) dsss bytes
    → are_readable dsss ≡ true → (back_in (Work segment ∷ rounds) bytes (begun_at at t)).got ≡ Whole (stripped segment dsss)
found_by segment rounds at dsss bytes t r readable =
    let u : Talking = read_in bytes (begun_at at t) in
    let kept : u.replies ≡ dsss = reply_kept (length segment) at dsss bytes t r in
    ap (λ (b : Back). b.got) (reply_ends (Work segment) rounds at dsss bytes t r)
    ∙ ap (λ (b : Back). b.got) (admitted (are_readable u.replies) _ _ (ap are_readable kept ∙ readable))
    ∙ ap (λ (ds : List Dss). Whole (stripped segment ds)) kept

pub reply_found : (t : Talking) (segment : List Command) (rounds : List Round) (dsss : List Dss) (bytes : List ℕ) → StandsBefore t
    → t.rounds ≡ Work segment ∷ rounds → IsReply (length segment) dsss bytes → are_readable dsss ≡ true
    → (back bytes t).got ≡ Whole (stripped segment dsss)
unfolding back
reply_found t segment rounds dsss bytes before is r readable =
    let at : ℕ = t.reader.position.at in
    ap (λ (rs : List Round). (back_in rs bytes t).got) is
    ∙ ap (λ (u : Talking). (back_in (Work segment ∷ rounds) bytes u).got) (begun_talk t before)
    ∙ found_by segment rounds at dsss bytes t r readable

-- only a reply that ends is answered so
whole_ends : (j : Judged) (segment : List Command) (rounds : List Round) (u : Talking) (s : Stripped)
    → (back_by j (Work segment) rounds u).got ≡ Whole s → (j ≡ Ends) × ((ended (Work segment) rounds u).got ≡ Whole s)
whole_ends GoesOn segment rounds u s e = absurd (cc)
whole_ends (Leaves at) segment rounds u s e = absurd (cc)
whole_ends Passes segment rounds u s e = absurd (cc)
whole_ends Ends segment rounds u s e = (refl, e)

stripped_as : (b : Bool) (segment : List Command) (u : Talking) (x y : Back) (s : Stripped) → x.got ≡ Whole (stripped segment u.replies) → y.got ≡ Refused
    → (if b then x else y).got ≡ Whole s → s ≡ stripped segment u.replies
stripped_as true segment u x y s is refused e = let both : Whole s ≡ Whole (stripped segment u.replies) = sym e ∙ is in cc
stripped_as false segment u x y s is refused e = absurd (let both : Refused ≡ Whole s = sym refused ∙ e in cc)

only_by : (segment : List Command) (rounds : List Round) (at : ℕ) (bytes : List ℕ) (t : Talking) (s : Stripped) → AreBytes bytes
    → (back_in (Work segment ∷ rounds) bytes (begun_at at t)).got ≡ Whole s
    → (dsss : List Dss) × IsReply (length segment) dsss bytes × (s ≡ stripped segment dsss)
only_by segment rounds at bytes t s are e =
    let u : Talking = begun_at at t in
    let count : ℕ = length segment in
    let ends = whole_ends (judged_all count bytes u) segment rounds (read_all bytes u) s e in
    let h = is_within count bytes u Ends ends.0 ends_open in
    let r = reply_of count at bytes t are h.fits h.judged in
    let w : Talking = read_in bytes u in
    let answered : (ended (Work segment) rounds w).got ≡ Whole s = ap (λ (x : Talking). (ended (Work segment) rounds x).got) (sym h.read) ∙ ends.1 in (
      r.0,
      r.1,
      stripped_as (are_readable w.replies) segment w _ _ s refl refl answered ∙ ap (stripped segment) (reply_kept count at r.0 bytes t r.1),
    )

pub reply_only : (t : Talking) (segment : List Command) (rounds : List Round) (bytes : List ℕ) (s : Stripped) → AreBytes bytes → StandsBefore t
    → t.rounds ≡ Work segment ∷ rounds → (back bytes t).got ≡ Whole s
    → (dsss : List Dss) × IsReply (length segment) dsss bytes × (s ≡ stripped segment dsss)
unfolding back
reply_only t segment rounds bytes s are before is e =
    let at : ℕ = t.reader.position.at in
    only_by segment rounds at bytes t s are
    (ap (λ (u : Talking). (back_in (Work segment ∷ rounds) bytes u).got) (sym (begun_talk t before))
    ∙ ap (λ (rs : List Round). (back_in rs bytes t).got) (sym is) ∙ e)

-- ---- the reply that follows

last_position : (c : Bool) (at room limit before : ℕ) → c ≡ false
    → ◌≡◌ {A = Position} (record { at = at; room = if c then room else limit; before = if c then before else 0 }) (record { at = at; room = limit; before = 0 })
last_position false at room limit before is = refl
last_position true at room limit before is = absurd (cc)

position_last : (limit : ℕ) (position : Position) (spelled : List Spelled) → AreOneChain (map (λ s. s.dss) spelled)
    → position_on limit position spelled ≡ record { at = (position_on limit position spelled).at; room = limit; before = 0 }
position_last limit position [] chain = absurd chain
position_last limit position (s ∷ []) chain = last_position s.dss.chained (position_after limit position s.dss (length s.bytes)).at
    (position.room - length s.bytes) limit s.dss.corr chain
position_last limit position (s ∷ next ∷ others) chain =
    position_last limit (position_after limit position s.dss (length s.bytes)) (next ∷ others) chain.1

next_by : (round : Round) (rounds : List Round) (at : ℕ) (dsss : List Dss) (bytes : List ℕ) (t : Talking)
    → (r : IsReply (length (commands_of round)) dsss bytes)
    → StandsBefore (after_round round rounds (read_in bytes (begun_at at t)))
next_by round rounds at dsss bytes t r =
    let read = fresh_read at r.spelled bytes r.begins r.fits in
    let chain = subst AreOneChain (sym r.are) r.chain in
    let v : View = read_whole (with_bytes (reader_at at) bytes) r.spelled in
    let last = position_last 33554432 (reader_at at).position r.spelled chain in
    let stands : record (fed (reader_at at) bytes) { whole = [] } ≡ reader_at v.position.at =
    ap (λ (w : View). record w { whole = [] }) read ∙ ap (λ (p : Position). record (reader_at at) { position = p }) last in
    record {
      reader = stands ∙ ap (λ (w : View). reader_at w.position.at) (sym read);
      replies = refl;
      unread = refl;
    }

not_less : (round : Round) (rounds : List Round) → round ∷ rounds ≡ rounds → ⊥
not_less round rounds e = let size = ap length e in omega arith

ended_next : (b : Bool) (x y : Back) (round : Round) (rounds : List Round) → y.talk.rounds ≡ round ∷ rounds
    → (if b then x else y).talk.rounds ≡ rounds → b ≡ true
ended_next true x y round rounds kept less = refl
ended_next false x y round rounds kept less = absurd (not_less round rounds (sym kept ∙ less))

next_of : (j : Judged) (round : Round) (rounds : List Round) (u : Talking) → u.rounds ≡ round ∷ rounds → (back_by j round rounds u).talk.rounds ≡ rounds
    → (j ≡ Ends) × (admits u.typdef u.mechanism round u.replies ≡ true)
next_of GoesOn round rounds u kept less = absurd (not_less round rounds (sym kept ∙ less))
next_of (Leaves at) round rounds u kept less = absurd (not_less round rounds (sym kept ∙ less))
next_of Passes round rounds u kept less = absurd (not_less round rounds (sym kept ∙ less))
next_of Ends round rounds u kept less = (
  refl,
  ended_next (admits u.typdef u.mechanism round u.replies)
      (record { talk = after_round round rounds u; got = got_by (stripped_by round u.replies) rounds }) (record { talk = given_up u; got = Refused })
      round rounds kept less,
)

next_in : (round : Round) (rounds : List Round) (at : ℕ) (bytes : List ℕ) (t : Talking) → AreBytes bytes → t.rounds ≡ round ∷ rounds
    → (back_in (round ∷ rounds) bytes (begun_at at t)).talk.rounds ≡ rounds → StandsBefore (back_in (round ∷ rounds) bytes (begun_at at t)).talk
next_in round rounds at bytes t are is less =
    let u : Talking = begun_at at t in
    let count : ℕ = length (commands_of round) in
    let all : Talking = read_all bytes u in
    let h = next_of (judged_all count bytes u) round rounds all is less in
    let w = is_within count bytes u Ends h.0 ends_open in
    let r = reply_of count at bytes t are w.fits w.judged in
    let there : (back_in (round ∷ rounds) bytes u).talk ≡ after_round round rounds (read_in bytes u) =
    ap (λ (j : Judged). (back_by j round rounds all).talk) h.0
    ∙ ap (λ (b : Back). b.talk) (admitted (admits all.typdef all.mechanism round all.replies)
    (record { talk = after_round round rounds all; got = got_by (stripped_by round all.replies) rounds }) (record { talk = given_up all; got = Refused }) h.1)
    ∙ ap (after_round round rounds) w.read in
    subst StandsBefore (sym there) (next_by round rounds at r.0 bytes t r.1)

pub next_reply : (t : Talking) (round : Round) (rounds : List Round) (bytes : List ℕ) → AreBytes bytes → StandsBefore t → t.rounds ≡ round ∷ rounds
    → (back bytes t).talk.rounds ≡ rounds → StandsBefore (back bytes t).talk
unfolding back
next_reply t round rounds bytes are before is less =
    let at : ℕ = t.reader.position.at in
    let same : back_in t.rounds bytes t ≡ back_in (round ∷ rounds) bytes (begun_at at t) =
    ap (λ (rs : List Round). back_in rs bytes t) is ∙ ap (λ (u : Talking). back_in (round ∷ rounds) bytes u) (begun_talk t before) in
    subst (λ (b : Back). StandsBefore b.talk) (sym same)
    (next_in round rounds at bytes t are is (ap (λ (b : Back). b.talk.rounds) (sym same) ∙ less))

pub first_reply : (name : List ℕ) (stage : Stage) → StandsBefore (quiet name stage)
first_reply name stage = record { reader = refl; replies = refl; unread = refl }

pub begun_reply : (t : Talking) (stage : Stage) (mechanism : ℕ) (access : Option Access) (log : List Register) (again : List Command)
    (segment : Option (List Command)) → StandsBefore t → StandsBefore (begun stage mechanism access log again segment t)
unfolding begun
begun_reply t stage mechanism access log again segment h = record { reader = h.reader; replies = refl; unread = refl }
