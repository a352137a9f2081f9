-- Each session follows a dedicated one: what is kept by each event, and why.
use Rattle.std.proofs.Common.{◌≡◌, ◌++◌, ◌+◌, ◌<◌, ◌≤◌, ℕ, Bool, true, false, List, [], ◌∷◌, Option, Some, None, refl, ap, sym, subst, ◌∙◌, arith}
use Rattle.std.proofs.Common.{append_assoc, length, take, drop, cond, leb, ltb, ⊎_elim}
use Rattle.std.specs.Prelude.{option_map, is_none, ◌&&◌}
use Rattle.std.proofs.Math.Seq.{take-add}
use Rattle.std.proofs.lemmas.List.{append-nil, take-append-le, take-append-drop, length-take, length-take-le, length-append, length-drop, take_all}
use Rattle.std.proofs.lemmas.Bool.{and_parts, cases_lt, leb-true}
use Rattle.dss_frame.specs.declared.dss.Placed.{Placed}
use Rattle.dss_frame.specs.declared.fault.StreamFault.{StreamFault}
use Rattle.dss_frame.specs.Reading.{View, read_on, fed, behind}
use Rattle.dss_frame.proofs.Pieces.Pieces.{fed-append, fed-behind}
use Rattle.dss_frame.specs.declared.dss.Dss.{Dss}
use Rattle.std.specs.Int.{w16, to_be_bytes}
use Rattle.dss_frame.specs.Dss.{canonical, segment_length, first_room, format_byte, further_segments}
use Rattle.access_handshake.specs.Excsat.{excsat_answer}
use Rattle.link_ends.proofs.Lists.{no_items}
use Rattle.drda_gateway.specs.Answer.{answer_to, params_of, reply_dss, is_lone_request}
use Rattle.drda_gateway.specs.declared.session.End.{End}
use Rattle.drda_gateway.specs.Session.{SessionState, unread, fresh, put_in_work, past_requests, begun_with, begun, is_reading, next_piece, taken_more}
use Rattle.drda_gateway.specs.Session.{said_part, said_more, appended}
use Rattle.drda_gateway.specs.Dedicated.{reply_or_close, replies_to, dedicated}

-- an answer isn't empty
some_bytes : (a b c : List ℕ) (x : ℕ) → (a ++ (x ∷ b)) ++ c ≡ [] → ⊥
some_bytes [] b c x e = cc
some_bytes (y ∷ a) b c x e = cc

spelling_some : (d : Dss) → canonical d ≡ [] → ⊥
unfolding canonical
spelling_some d e =
    some_bytes (segment_length (6 + length (take first_room d.body)) (ltb 0 (length (drop first_room d.body)))) (format_byte d ∷ to_be_bytes w16 d.corr)
    (take first_room d.body ++ further_segments (drop first_room d.body)) 208 e

answer_by : (corr : ℕ) (params : Option (List ℕ)) (reply : List ℕ) → option_map (λ p. canonical (reply_dss corr (excsat_answer p))) params ≡ Some reply →
    reply ≡ [] → ⊥
answer_by corr None reply e silent = absurd (cc)
answer_by corr (Some p) reply e silent =
    let same : canonical (reply_dss corr (excsat_answer p)) ≡ reply = cc in
    spelling_some (reply_dss corr (excsat_answer p)) (same ∙ silent)

lone_by : (d : Dss) (lone : Bool) (reply : List ℕ) →
    cond lone (option_map (λ p. canonical (reply_dss d.corr (excsat_answer p))) (params_of d.body)) None ≡ Some reply → reply ≡ [] → ⊥
lone_by d false reply e silent = absurd (cc)
lone_by d true reply e silent = answer_by d.corr (params_of d.body) reply e silent

answer_some : (d : Dss) (reply : List ℕ) → answer_to d ≡ Some reply → reply ≡ [] → ⊥
unfolding answer_to
answer_some d reply e silent = lone_by d (is_lone_request d) reply e silent

-- all bytes that a session has taken
abbrev pub taken_bytes : SessionState → List ℕ
taken_bytes s = take s.taken s.bytes

-- a session that goes on: these requests were answered, and what the reader has is what follows them
pub record Reads (s : SessionState) : Type 0 where
  pub answered : List Placed
  pub read : fed unread (taken_bytes s) ≡ behind answered s.reader
  pub replied : (others : List Placed) (fault : Option StreamFault) → replies_to (answered ++ others) fault ≡ (s.sent ++ s.saying) ++ replies_to others fault
  pub idle : s.saying ≡ [] → (s.reader.whole ≡ []) × (s.reader.fault ≡ None)

abbrev pub Stands : Option End → SessionState → Type 0
Stands None s = Reads s
Stands (Some end) s = s.sent ++ s.saying ≡ dedicated (taken_bytes s)

pub record Follows (s : SessionState) : Type 0 where
  pub within : s.taken ≤ length s.bytes
  pub stands : Stands s.ended s

-- a session at rest that may put the next request into work
pub record Rests (s : SessionState) : Type 0 where
  pub silent : s.saying ≡ []
  pub goes_on : s.ended ≡ None
  pub within : s.taken ≤ length s.bytes
  pub answered : List Placed
  pub read : fed unread (taken_bytes s) ≡ behind answered s.reader
  pub replied : (others : List Placed) (fault : Option StreamFault) → replies_to (answered ++ others) fault ≡ s.sent ++ replies_to others fault

-- what a dedicated session sends, in terms of what is read and not answered
dedicated_is : (s : SessionState) → (rests : Rests s) → dedicated (taken_bytes s) ≡ s.sent ++ replies_to s.reader.whole s.reader.fault
unfolding dedicated
dedicated_is s rests =
    ap (λ (v : View). replies_to v.whole v.fault) rests.read ∙ rests.replied s.reader.whole s.reader.fault

-- where no whole DSS is left
past_follows : (s : SessionState) → Rests s → s.reader.whole ≡ [] → (fault : Option StreamFault) → s.reader.fault ≡ fault → Follows (past_requests fault s)
past_follows s rests none None e = record {
  within = rests.within;
  stands =
      let reads : Reads s = record {
        answered = rests.answered;
        read = rests.read;
        replied = λ others fault. rests.replied others fault
            ∙ ap (λ (xs : List ℕ). xs ++ replies_to others fault) (sym (ap (λ (xs : List ℕ). s.sent ++ xs) rests.silent ∙ append-nil s.sent));
        idle = λ _. (none, e);
      } in
      subst (λ (o : Option End). Stands o s) (sym rests.goes_on) reads;
}
past_follows s rests none (Some fault) e = record {
  within = rests.within;
  stands = sym (dedicated_is s rests ∙ ap (λ (xs : List Placed). s.sent ++ replies_to xs s.reader.fault) none
      ∙ ap (λ (f : Option StreamFault). s.sent ++ replies_to [] f) e);
}

-- where a request comes into work
work_follows : (s : SessionState) → Rests s → (placed : Placed) (others : List Placed) → s.reader.whole ≡ placed ∷ others → (answer : Option (List ℕ)) →
    answer_to placed.dss ≡ answer → Follows (put_in_work placed.at answer (record s { reader = record s.reader { whole = others } }))
work_follows s rests placed others e None a = record {
  within = rests.within;
  stands = sym (dedicated_is s rests ∙ ap (λ (xs : List Placed). s.sent ++ replies_to xs s.reader.fault) e
      ∙ ap (λ (o : Option (List ℕ)). s.sent ++ reply_or_close o (replies_to others s.reader.fault)) a);
}
work_follows s rests placed others e (Some reply) a = record {
  within = rests.within;
  stands =
      let reads : Reads (record s { reader = record s.reader { whole = others }; saying = reply }) = record {
        answered = rests.answered ++ placed ∷ [];
        read = rests.read
            ∙ ap (λ (xs : List Placed). record s.reader { whole = xs }) (ap (λ (xs : List Placed). rests.answered ++ xs) e
            ∙ sym (append_assoc rests.answered (placed ∷ []) others));
        replied = λ more fault.
            ap (λ (xs : List Placed). replies_to xs fault) (append_assoc rests.answered (placed ∷ []) more)
            ∙ rests.replied (placed ∷ more) fault
            ∙ ap (λ (o : Option (List ℕ)). s.sent ++ reply_or_close o (replies_to more fault)) a
            ∙ sym (append_assoc s.sent reply (replies_to more fault));
        idle = λ silent. absurd (answer_some placed.dss reply a silent);
      } in
      subst (λ (o : Option End). Stands o (record s { reader = record s.reader { whole = others }; saying = reply })) (sym rests.goes_on) reads;
}

begun_with_follows : (s : SessionState) → Rests s → (whole : List Placed) → s.reader.whole ≡ whole → Follows (begun_with whole s)
begun_with_follows s rests [] e = past_follows s rests e s.reader.fault refl
begun_with_follows s rests (placed ∷ others) e = work_follows s rests placed others e (answer_to placed.dss) refl

-- the next request comes into work
pub begun_follows : (s : SessionState) → Rests s → Follows (begun s)
unfolding begun
begun_follows s rests = begun_with_follows s rests s.reader.whole refl

-- ---- the events of a session

take_length_take : (n : ℕ) (xs : List ℕ) → take (length (take n xs)) xs ≡ take n xs
take_length_take n xs =
    ⊎_elim (λ (h : n < length xs). ap (λ (k : ℕ). take k xs) (length-take-le n xs (omega arith)))
    (λ (h : length xs ≤ n). ap (λ (ys : List ℕ). take (length ys) xs) (take_all n xs h) ∙ take_all (length xs) xs (omega arith) ∙ sym (take_all n xs h))
    (cases_lt n (length xs))

-- what is taken is what was taken before, and then the piece
taken_is : (bytes : List ℕ) (taken count : ℕ) → take (taken + length (take count (drop taken bytes))) bytes ≡ take taken bytes ++ take count (drop taken bytes)
taken_is bytes taken count =
    take-add taken (length (take count (drop taken bytes))) bytes
    ∙ ap (λ (xs : List ℕ). take taken bytes ++ xs) (take_length_take count (drop taken bytes))

reads_of : (s : SessionState) → Follows s → s.ended ≡ None → Reads s
reads_of s follows e = subst (λ (o : Option End). Stands o s) e follows.stands

-- bytes are taken
pub take_follows : (s : SessionState) (count : ℕ) → Follows s → s.saying ≡ [] → s.ended ≡ None → Follows (taken_more count s)
unfolding taken_more
take_follows s count follows silent goes_on =
    let piece = next_piece count s in
    let reads = reads_of s follows goes_on in
    let next : SessionState = record s { taken = s.taken + length piece; reader = fed s.reader piece } in
    let rests : Rests next = record {
      silent = silent;
      goes_on = goes_on;
      within = omega (arith, follows.within, length-take count (drop s.taken s.bytes), length-drop s.taken s.bytes);
      answered = reads.answered;
      read =
          ap (fed unread) (taken_is s.bytes s.taken count)
          ∙ sym (fed-append unread (taken_bytes s) piece)
          ∙ ap (λ (v : View). fed v piece) reads.read
          ∙ fed-behind reads.answered s.reader piece;
      replied = λ others fault. reads.replied others fault
          ∙ ap (λ (xs : List ℕ). xs ++ replies_to others fault) (ap (λ (xs : List ℕ). s.sent ++ xs) silent ∙ append-nil s.sent);
    } in
    begun_follows next rests

-- what was said and what is left to say are the same bytes
said_is : (s : SessionState) (count : ℕ) → (said_part count s).sent ++ (said_part count s).saying ≡ s.sent ++ s.saying
said_is s count = append_assoc s.sent (take count s.saying) (drop count s.saying) ∙ ap (λ (xs : List ℕ). s.sent ++ xs) (take-append-drop count s.saying)

-- a part of a reply is said, and more is left
part_follows : (s : SessionState) (count : ℕ) → (ended : Option End) → s.ended ≡ ended → Follows s → ((said_part count s).saying ≡ [] → ended ≡ None → ⊥) →
    Follows (said_part count s)
part_follows s count None e follows more =
    let reads = reads_of s follows e in
    let said : Reads (said_part count s) = record {
      answered = reads.answered;
      read = reads.read;
      replied = λ others fault. reads.replied others fault ∙ ap (λ (xs : List ℕ). xs ++ replies_to others fault) (sym (said_is s count));
      idle = λ silent. absurd (more silent refl);
    } in
    record { within = follows.within; stands = subst (λ (o : Option End). Stands o (said_part count s)) (sym e) said }
part_follows s count (Some end) e follows more =
    let stands : s.sent ++ s.saying ≡ dedicated (taken_bytes s) = subst (λ (o : Option End). Stands o s) e follows.stands in
    let said : Stands (Some end) (said_part count s) = said_is s count ∙ stands in
    record { within = follows.within; stands = subst (λ (o : Option End). Stands o (said_part count s)) (sym e) said }

pub is_none-is : (o : Option End) → is_none o ≡ true → o ≡ None
is_none-is None e = refl
is_none-is (Some x) e = absurd (cc)

say_by : (s : SessionState) (count : ℕ) → Follows s → (reading : Bool) → is_reading (said_part count s) ≡ reading →
    Follows (cond reading (begun (said_part count s)) (said_part count s))
say_by s count follows true e =
    let parts = and_parts (leb (length (said_part count s).saying) 0) (is_none s.ended) e in
    let silent = no_items (said_part count s).saying (leb-true (length (said_part count s).saying) 0 parts.0) in
    let goes_on = is_none-is s.ended parts.1 in
    let reads = reads_of s follows goes_on in
    let rests : Rests (said_part count s) = record {
      silent = silent;
      goes_on = goes_on;
      within = follows.within;
      answered = reads.answered;
      read = reads.read;
      replied = λ others fault. reads.replied others fault
          ∙ ap (λ (xs : List ℕ). xs ++ replies_to others fault) (sym (said_is s count) ∙ ap (λ (xs : List ℕ). (said_part count s).sent ++ xs) silent
          ∙ append-nil (said_part count s).sent);
    } in
    begun_follows (said_part count s) rests
say_by s count follows false e = part_follows s count s.ended refl follows (λ silent goes_on.
    let t : is_reading (said_part count s) ≡ true = ap (λ (xs : List ℕ). leb (length xs) 0 && is_none s.ended) silent
    ∙ ap (λ (o : Option End). is_none o) goes_on in
    absurd (cc))

-- a part of a reply is said
pub say_follows : (s : SessionState) (count : ℕ) → Follows s → Follows (said_more count s)
unfolding said_more
say_follows s count follows = say_by s count follows (is_reading (said_part count s)) refl

-- an application has more bytes to send
append_by : (s : SessionState) (more : List ℕ) → (ended : Option End) → s.ended ≡ ended → Follows s → take s.taken (s.bytes ++ more) ≡ taken_bytes s →
    Stands ended (appended more s)
append_by s more None e follows same =
    let reads = reads_of s follows e in
    record { answered = reads.answered; read = ap (fed unread) same ∙ reads.read; replied = reads.replied; idle = reads.idle }
append_by s more (Some end) e follows same =
    let stands : s.sent ++ s.saying ≡ dedicated (taken_bytes s) = subst (λ (o : Option End). Stands o s) e follows.stands in
    stands ∙ ap dedicated (sym same)

pub append_follows : (s : SessionState) (more : List ℕ) → Follows s → Follows (appended more s)
append_follows s more follows = record {
  within = omega (arith, follows.within, length-append s.bytes more);
  stands = append_by s more s.ended refl follows (take-append-le s.taken s.bytes more follows.within);
}

-- nothing was sent
pub fresh_follows : Follows fresh
unfolding fed read_on
fresh_follows = record {
  within = omega arith;
  stands = record { answered = []; read = refl; replied = λ others fault. refl; idle = λ _. (refl, refl) };
}
