use Rattle.std.proofs.Common.{◌≡◌, ◌∙◌, ◌+◌, ◌<◌, ℕ, sym, ap, subst, arith, List, [], ◌∷◌, ◌++◌, map, length, Option, Some}
use Rattle.std.specs.Borrow.{Bor}
use Rattle.std.specs.List.{slice_index_or}
use Rattle.std.proofs.lemmas.List.{get_or_default, map-append}
use Rattle.server_words.specs.Field.{user_of}
use Rattle.server_words.specs.Member.{user_in}
use Rattle.server_words.proofs.Each.{Reads, reads_next}
use Rattle.server_words.proofs.member.read_each.Goals as goal

reads_on : {A : Type 0} (read : List ℕ → Option A) (words : List (Bor (List ℕ))) (at : ℕ) (done : List A) (d : Bor (List ℕ)) (x : A)
    → at < length words → read (slice_index_or words at d).now ≡ Some x → Reads read words at done → Reads read words (at + 1) (done ++ x ∷ [])
reads_on read words at done d x below is reads =
    let word = slice_index_or words at d in
    reads_next read words at done word x below (get_or_default words at word d below) is reads

pub loop-word-preserved : goal.loop-word-preserved
loop-word-preserved c =
    let parts : List ℕ × List ℕ = (c.in-Some.parts.0.now, c.in-Some.parts.1.now) in
    let before = map user_in c.loop-word.users.items in
    let user = c.in_ok-user_of-in-Some.field-0 in
    let same : user_in user ≡ parts = c.in_ok-user_of-in-Some.ensures in
    let pushed : map user_in c.push.new.self.items ≡ before ++ parts ∷ [] =
    ap (map user_in) c.in_ok-push-in-Some.ensures.items
    ∙ (map-append user_in c.loop-word.users.items (user ∷ []) ∙ ap (λ p. before ++ p ∷ []) same) in
    let step : Reads user_of c.args.words.now (c.loop-word.word-index + 1) (before ++ parts ∷ []) =
    reads_on user_of c.args.words.now c.loop-word.word-index before _ parts (omega arith) (sym c.in-Some.ensures) c.loop-word.invariant in
    subst (λ done. Reads user_of c.args.words.now (c.loop-word.word-index + 1) done) (sym pushed) step
