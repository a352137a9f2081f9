-- After the whole reply to the chain of a segment, no byte of it is still unread.
use Rattle.std.proofs.Common.{◌≡◌, ℕ, Bool, true, false, cond, List, [], ◌∷◌, length, refl}
use Rattle.unit_segments.specs.declared.stripped.Stripped.{Stripped}
use Rattle.requester_core.specs.declared.got.Got.TheVariants.{More, Refused, TooLong, Whole}
use Rattle.requester_core.specs.declared.round.Round.{Round}
use Rattle.requester_core.specs.declared.reply.Judged.{Judged}
use Rattle.requester_core.specs.declared.reply.Judged.TheVariants.{GoesOn, Leaves, Passes, Ends}
use Rattle.requester_core.specs.Round.{commands_of, is_work}
use Rattle.requester_core.specs.Judging.{admits, stripped_by}
use Rattle.requester_core.specs.Talk.{Talking, Back, too_long, after_round, got_by, given_up, ended, read_all, judged_all, back_by, back_in, back}

abbrev pub LeavesNone : Back → Type 0
LeavesNone b = (r : Stripped) → b.got ≡ Whole r → b.talk.unread ≡ 0

ended_leaves : (round : Round) (rounds : List Round) (t : Talking) → LeavesNone (ended round rounds t)
ended_leaves round rounds t =
    let goes : Back = record { talk = after_round round rounds t; got = got_by (stripped_by round t.replies) rounds } in
    let refused : Back = record { talk = given_up t; got = Refused } in
    elim (admits t.typdef t.mechanism round t.replies) as (λ b. LeavesNone (cond b goes refused)) [
      | true ↦ λ r e. refl
      | false ↦ λ r e. absurd cc
    ]

long_leaves : (round : Round) (t : Talking) → LeavesNone (record { talk = t; got = too_long round })
long_leaves round t = elim (is_work round) as (λ b. LeavesNone (record { talk = t; got = cond b TooLong Refused })) [
  | true ↦ λ r e. absurd cc
  | false ↦ λ r e. absurd cc
]

leaves_by : (j : Judged) (round : Round) (rounds : List Round) (t : Talking) → LeavesNone (back_by j round rounds t)
leaves_by GoesOn round rounds t = λ r e. absurd cc
leaves_by (Leaves at) round rounds t = λ r e. absurd cc
leaves_by Passes round rounds t = long_leaves round (given_up t)
leaves_by Ends round rounds t = ended_leaves round rounds t

leaves_in : (rounds : List Round) (piece : List ℕ) (t : Talking) → LeavesNone (back_in rounds piece t)
leaves_in [] piece t = λ r e. absurd cc
leaves_in (round ∷ rounds) piece t = leaves_by (judged_all (length (commands_of round)) piece t) round rounds (read_all piece t)

pub back_leaves : (piece : List ℕ) (t : Talking) → LeavesNone (back piece t)
unfolding back
back_leaves piece t = leaves_in t.rounds piece t
