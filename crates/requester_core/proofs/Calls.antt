-- Whatever the calls, each round comes to what its bytes come to at once.
use Rattle.std.proofs.Common.{◌≡◌, ℕ, ◌+◌, List, [], ◌∷◌, ◌++◌, length, refl, sym, ap, ◌∙◌, append_assoc, arith}
use Rattle.requester_core.specs.declared.got.Got.{Got}
use Rattle.requester_core.specs.declared.got.Got.TheVariants.{More}
use Rattle.requester_core.specs.declared.round.Round.{Round}
use Rattle.requester_core.specs.declared.reply.Judged.{Judged}
use Rattle.requester_core.specs.declared.reply.Judged.TheVariants.{GoesOn, Leaves, Passes, Ends}
use Rattle.requester_core.specs.Round.{commands_of}
use Rattle.requester_core.specs.Talk.{Talking, Back, sent, read_in, judged_piece, within, beyond, with_byte, with_beyond, back_in, back}
use Rattle.requester_core.specs.Laws.{LeavesOpen}
use Rattle.requester_core.specs.Calls.{Call, Sent, Read, after_calls, sent_by, read_by, AllOpen, Turn, piece_by_piece, at_once, talk_after, answers, AreTurns}
use Rattle.requester_core.proofs.Pieces.{goes_open, is_open, pieces_joined}

sent_none : (count : ℕ) (t : Talking) → count ≡ t.taken → record t { taken = count } ≡ t
sent_none count t e = rw e refl

sent_twice : (a b : ℕ) (t : Talking) → sent b (sent a t) ≡ sent (a + b) t
sent_twice a b t = let both : t.taken + a + b ≡ t.taken + (a + b) = omega arith in ap (λ (n : ℕ). record t { taken = n }) both

-- how far the chain was taken doesn't matter to what is read
byte_sent : (j : Judged) (count byte n : ℕ) (t : Talking) → with_byte j count byte (sent n t) ≡ with_byte j count byte t
byte_sent GoesOn count byte n t = refl
byte_sent (Leaves at) count byte n t = refl
byte_sent Passes count byte n t = refl
byte_sent Ends count byte n t = refl

beyond_sent : (j : Judged) (count : ℕ) (bytes : List ℕ) (n : ℕ) (t : Talking) → with_beyond j count bytes (sent n t) ≡ with_beyond j count bytes t
beyond_sent j count [] n t = refl
beyond_sent j count (byte ∷ more) n t = byte_sent j count byte n t

open_sent : (rounds : List Round) (n : ℕ) (p : List ℕ) (t : Talking) → (back_in rounds p t).got ≡ More
    → (back_in rounds p t).talk.rounds ≡ rounds → back_in rounds p (sent n t) ≡ record { talk = sent n (back_in rounds p t).talk; got = More }
open_sent [] n p t more same = refl
open_sent (round ∷ rounds) n p t more same =
    let count : ℕ = length (commands_of round) in
    let h = is_open round rounds p t more same in
    let k = goes_open round rounds p (sent n t) (beyond_sent (judged_piece count (within p t) t) count (beyond p t) n (read_in (within p t) t) ∙ h.judged) in
    k.back ∙ ap (λ (b : Back). record { talk = sent n b.talk; got = More }) (sym h.back)

still_open : (n : ℕ) (p : List ℕ) (t : Talking) → LeavesOpen p t → back p (sent n t) ≡ record { talk = sent n (back p t).talk; got = More }
unfolding back
still_open n p t opens = open_sent t.rounds n p t opens.more opens.same

opens_sent : (n : ℕ) (p : List ℕ) (t : Talking) → LeavesOpen p t → LeavesOpen p (sent n t)
opens_sent n p t opens =
    let e = still_open n p t opens in
    record { more = ap (λ (b : Back). b.got) e; same = ap (λ (b : Back). b.talk.rounds) e ∙ opens.same }

-- the pieces before join the last one
calls_joined : (calls : List Call) (last : List ℕ) (t : Talking) → AllOpen t calls
    → back last (after_calls t calls) ≡ back (read_by calls ++ last) (sent (sent_by calls) t)
calls_joined [] last t opens = ap (back last) (sym (sent_none (t.taken + 0) t (omega arith)))
calls_joined (Sent count ∷ calls) last t opens =
    calls_joined calls last (sent count t) opens ∙ ap (back (read_by calls ++ last)) (sent_twice count (sent_by calls) t)
calls_joined (Read piece ∷ calls) last t opens =
    let n : ℕ = sent_by calls in
    let rest : List ℕ = read_by calls ++ last in
    calls_joined calls last (back piece t).talk opens.1
    ∙ ap (λ (b : Back). back rest b.talk) (sym (still_open n piece t opens.0))
    ∙ pieces_joined (sent n t) piece rest (opens_sent n piece t opens.0)
    ∙ ap (λ (bytes : List ℕ). back bytes (sent n t)) (sym (append_assoc piece (read_by calls) last))

pub turn_joined : (turn : Turn) (t : Talking) → AllOpen t turn.calls → piece_by_piece turn t ≡ at_once turn t
turn_joined turn t opens = calls_joined turn.calls turn.last t opens

-- ---- several rounds

pub same_talk : (t : Talking) (turns : List Turn) → AreTurns t turns → talk_after piece_by_piece t turns ≡ talk_after at_once t turns
same_talk t [] h = refl
same_talk t (turn ∷ turns) h =
    same_talk (piece_by_piece turn t).talk turns h.1 ∙ ap (λ (b : Back). talk_after at_once b.talk turns) (turn_joined turn t h.0)

pub same_answers : (t : Talking) (turns : List Turn) → AreTurns t turns → answers piece_by_piece t turns ≡ answers at_once t turns
same_answers t [] h = refl
same_answers t (turn ∷ turns) h =
    ap (λ (gots : List Got). (piece_by_piece turn t).got ∷ gots) (same_answers (piece_by_piece turn t).talk turns h.1)
    ∙ ap (λ (b : Back). b.got ∷ answers at_once b.talk turns) (turn_joined turn t h.0)
