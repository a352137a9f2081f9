-- What the replies to a segment say, as its application gets them, is what those to its commands say.
use Rattle.std.proofs.Common.{◌≡◌, ◌≢◌, ℕ, suc, ◌≤◌, ◌<◌, ◌==◌, ◌&&◌, ◌||◌, Bool, true, false, not, if◌then◌else◌, List, [], ◌∷◌, ◌++◌, length, drop}
use Rattle.std.proofs.Common.{find, map, filter, is_some, Option, Some, ap, sym, refl, ◌∙◌, arith, eqb-true}
use Rattle.std.proofs.lemmas.Bool.{cond-true, cond-false}
use Rattle.std.specs.List.{AllByRecursion}
use Rattle.dss_frame.specs.declared.dss.Dss.{Dss}
use Rattle.ddm_codepoints.specs.CodePoint.{enduowrm, accrdbrm, secchkrm, sqlcard, sqlstt}
use Rattle.unit_segments.specs.declared.command.Command.{Command}
use Rattle.unit_segments.specs.Limit.{most_reply_body}
use Rattle.unit_segments.specs.Command.{data_of}
use Rattle.unit_segments.specs.Spelling.{numbered}
use Rattle.unit_segments.specs.Strip.{is_object_of, end_number, replies_to, end_message, Marked, answers, marked_from}
use Rattle.unit_segments.specs.Strip.{sets_of, without_lists, given_back, replies_of}
use Rattle.unit_segments.specs.Accepts.{is_admission, gives_admission, has_accrdbrm}
use Rattle.plain_model.specs.UnitEnd.{end_of, ends, sets_in, without_asked}
use Rattle.plain_model.specs.Group.{IsReplyTo}
use Rattle.plain_model.proofs.Runs.{and_true}
use Rattle.plain_model.proofs.Segments.{IsCut, is_end, ends_next}
use Rattle.plain_model.proofs.Replies.{HaveNumber, AreUpTo, other_number, all_replies, none_beyond, replies_both}
use Rattle.plain_model.proofs.Codes.{enduowrm_still, accrdbrm_still, secchkrm_kept}

-- ---- replies to other commands than the one that ends the unit

abbrev unset : Dss → Marked
unset d = record { reply = d; is_set = false }

abbrev pub AreOthers : ℕ → List Dss → Type 0
AreOthers number replies = AllByRecursion (λ d. d.corr ≢ number) replies

-- they are no SET statements, and none of them is the SQLCARD behind which these stand
others_first : (number : ℕ) (a r : List Dss) → AreOthers number a → marked_from number false (a ++ r) ≡ map unset a ++ marked_from number false r
others_first number [] r all = refl
others_first number (d ∷ a) r all =
    ap (λ b. unset d ∷ marked_from number (b && is_object_of sqlcard d) (a ++ r)) (other_number d.corr number all.0)
    ∙ ap (λ ms. unset d ∷ ms) (others_first number a r all.1)

others_unset : (a : List Dss) (ms : List Marked) → filter (λ m. m.is_set) (map unset a ++ ms) ≡ filter (λ m. m.is_set) ms
others_unset [] ms = refl
others_unset (d ∷ a) ms = others_unset a ms

others_stay : (g : List Command) (a : List Dss) → map (λ m. given_back g m.reply) (filter (λ m. not m.is_set) (map unset a ++ [])) ≡ map (given_back g) a
others_stay g [] = refl
others_stay g (d ∷ a) = ap (λ ds. given_back g d ∷ ds) (others_stay g a)

pub append_nil : {X : Type 0} (xs : List X) → xs ++ [] ≡ xs
append_nil [] = refl
append_nil (x ∷ xs) = ap (λ ys. x ∷ ys) (append_nil xs)

-- nothing of them is taken out
pub all_given_back : (g : List Command) (part : List Dss) → AreOthers (end_number g) part → replies_of g part ≡ map (given_back g) part
all_given_back g part all =
    ap (λ ds. map (λ m. given_back g m.reply) (filter (λ m. not m.is_set) (marked_from (end_number g) false ds))) (sym (append_nil part))
    ∙ ap (λ ms. map (λ m. given_back g m.reply) (filter (λ m. not m.is_set) ms)) (others_first (end_number g) part [] all)
    ∙ others_stay g part

-- ---- the command that ends the unit

pub end_is : (ran : ℕ) (g : List Command) (c : Command) (cs : List Command) → IsCut g → drop ran (numbered 1 g) ≡ c ∷ cs → is_end c ≡ true
    → end_number g ≡ suc ran
end_is ran g c cs cut e end = ends_next ran 1 g c cs cut e end ∙ omega arith

-- the message that says how the unit ended is the one in the replies to it
pub message_is : (ran : ℕ) (g : List Command) (part r : List Dss) → end_number g ≡ suc ran → AreUpTo ran part → HaveNumber (suc ran) r
    → end_message g (part ++ r) ≡ end_of r
message_is ran g part r is all more =
    ap (find (is_object_of enduowrm)) (replies_both (end_number g) part r
    ∙ ap (λ xs. xs ++ replies_to (end_number g) r) (none_beyond ran (end_number g) part all (omega arith))
    ∙ ap (λ n. replies_to n r) is ∙ all_replies (suc ran) r more)

up_to_others : (ran number : ℕ) (part : List Dss) → ran < number → AreUpTo ran part → AreOthers number part
up_to_others ran number [] lt all = tt
up_to_others ran number (d ∷ part) lt all = let most = all.0.most in ((λ e. omega arith), up_to_others ran number part lt all.1)

pub sets_are_in : (ran : ℕ) (g : List Command) (c : Command) (part r : List Dss) → end_number g ≡ suc ran → c.corr ≡ suc ran → AreUpTo ran part
    → sets_of g (part ++ r) ≡ sets_in c r
sets_are_in ran g c part r is number all =
    ap (λ ms. map (λ m. data_of m.reply.body) (filter (λ m. m.is_set) ms))
    (others_first (end_number g) part r (up_to_others ran (end_number g) part (omega arith) all))
    ∙ ap (map (λ m. data_of m.reply.body)) (others_unset part (marked_from (end_number g) false r))
    ∙ ap (λ n. map (λ m. data_of m.reply.body) (filter (λ m. m.is_set) (marked_from n false r))) (is ∙ sym number)

-- ---- whether the unit ended, without what was asked for

some_found : (p : Dss → Bool) (d : Dss) (r : List Dss) → is_some (find p (d ∷ r)) ≡ (p d || is_some (find p r))
some_found p d r = go (p d)
  where
    go : (b : Bool) → is_some (if b then Some d else find p r) ≡ (b || is_some (find p r))
    go true = refl
    go false = refl

no_enduowrm : (number : ℕ) (d : Dss) → answers number sqlstt d ≡ true → is_object_of enduowrm d ≡ false
no_enduowrm number d e =
    ap (λ n. n == enduowrm) (eqb-true _ sqlstt (and_true (d.corr == number) (is_object_of sqlstt d) e).1)

still_ends : (number : ℕ) (after : Bool) (c : Command) (r : List Dss) → AllByRecursion (IsReplyTo c) r
    → ends (map (λ m. without_lists m.reply) (filter (λ m. not m.is_set) (marked_from number after r))) ≡ ends r
still_ends number after c [] all = refl
still_ends number after c (d ∷ r) all = go (still_ends number (after || answers number sqlcard d) c r all.1) (after && answers number sqlstt d) refl
  where
    rest : List Dss
    rest = map (λ m. without_lists m.reply) (filter (λ m. not m.is_set) (marked_from number (after || answers number sqlcard d) r))

    go : ends rest ≡ ends r → (b : Bool) → (after && answers number sqlstt d) ≡ b
        → ends (map (λ m. without_lists m.reply) (filter (λ m. not m.is_set) (record { reply = d; is_set = b }
        ∷ marked_from number (after || answers number sqlcard d) r))) ≡ ends (d ∷ r)
    go same true e =
        same ∙ sym (some_found (is_object_of enduowrm) d r ∙ ap (λ b. b || ends r) (no_enduowrm number d (and_true after (answers number sqlstt d) e).1))
    go same false e =
        some_found (is_object_of enduowrm) (without_lists d) rest
        ∙ ap (λ b. b || ends rest) (enduowrm_still d all.0.end_fits) ∙ ap (λ b. is_object_of enduowrm d || b) same
        ∙ sym (some_found (is_object_of enduowrm) d r)

-- where the rest of the replies is the same, the unit ended in both cases or in none
pub ends_alike : (c a b : Command) (r t : List Dss) → AllByRecursion (IsReplyTo a) r → AllByRecursion (IsReplyTo b) t
    → without_asked c r ≡ without_asked c t → ends r ≡ ends t
ends_alike c a b r t all alls e = sym (still_ends c.corr false a r all) ∙ ap ends e ∙ still_ends c.corr false b t alls

-- ---- access

pub admission_same : (g : List Command) (r : List Dss) → gives_admission (map (given_back g) r) ≡ gives_admission r
admission_same g [] = refl
admission_same g (d ∷ r) = go (admission_same g r) (is_object_of secchkrm d) refl
  where
    found : List Dss → Option Dss
    found ds = find (is_object_of secchkrm) ds

    go : gives_admission (map (given_back g) r) ≡ gives_admission r → (b : Bool) → is_object_of secchkrm d ≡ b
        → gives_admission (map (given_back g) (d ∷ r)) ≡ gives_admission (d ∷ r)
    go same true e =
        let now = (secchkrm_kept d).still ∙ e in
        ap is_admission (cond-true (is_object_of secchkrm (without_lists d)) (Some (given_back g d)) (found (map (given_back g) r)) now)
        ∙ ap (λ (w : Dss). is_admission (Some w)) ((secchkrm_kept d).same now)
        ∙ ap is_admission (sym (cond-true (is_object_of secchkrm d) (Some d) (found r) e))
    go same false e =
        ap is_admission (cond-false (is_object_of secchkrm (without_lists d)) (Some (given_back g d)) (found (map (given_back g) r))
        ((secchkrm_kept d).still ∙ e))
        ∙ same
        ∙ ap is_admission (sym (cond-false (is_object_of secchkrm d) (Some d) (found r) e))

pub access_same : (g : List Command) (r : List Dss) → AllByRecursion (λ d. is_object_of accrdbrm d ≡ true → length d.body ≤ most_reply_body) r
    → has_accrdbrm (map (given_back g) r) ≡ has_accrdbrm r
access_same g [] all = refl
access_same g (d ∷ r) all =
    ap (λ b. b || has_accrdbrm (map (given_back g) r)) (accrdbrm_still d all.0) ∙ ap (λ b. is_object_of accrdbrm d || b) (access_same g r all.1)
