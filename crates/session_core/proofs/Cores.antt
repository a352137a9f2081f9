-- Segments one after another, what runs again where that is nothing, and what an answer makes of the core.
use Rattle.std.proofs.Common.{◌≡◌, ℕ, zero, suc, ◌+◌, ◌==◌, ◌||◌, Bool, true, false, if◌then◌else◌, List, [], ◌∷◌, ◌++◌, drop, Some, None, refl}
use Rattle.std.proofs.Common.{sym, ap, subst, ◌∙◌, slice_get, add-one, true≢false}
use Rattle.std.specs.List.{AllByRecursion}
use Rattle.std.proofs.lemmas.Bool.{cond_both}
use Rattle.dss_frame.specs.declared.dss.Dss.{Dss}
use Rattle.dss_frame.specs.declared.dss.Kind.TheVariants.{Reply}
use Rattle.ddm_objects.specs.Objects.{canonical_object}
use Rattle.reply_texts.specs.Reply.{severity}
use Rattle.reply_texts.specs.Closing.{last}
use Rattle.plain_model.specs.Lost.{message}
use Rattle.ddm_codepoints.specs.CodePoint.{secchk, accrdb}
use Rattle.unit_segments.specs.declared.command.Command.{Command}
use Rattle.unit_segments.specs.declared.stripped.Stripped.{Stripped}
use Rattle.unit_segments.specs.Spelling.{chain_bytes}
use Rattle.plain_model.specs.Standing.{Standing, after_secchk, after_accrdb, after_end}
use Rattle.plain_model.specs.Group.{IsCommand}
use Rattle.plain_model.specs.Local.{is_local, answered_locally}
use Rattle.plain_model.specs.Core.{Core, Owed, Nothing, Rerouted, Unknown, first, others, first_number, still, moved_too, with_local}
use Rattle.plain_model.specs.Core.{settle_by, settle_segments, settle_owed, settled, finish_by, finished}
use Rattle.plain_model.specs.Answered.{fit, is_work, joins_again, with_work, with_end, with_replies, standing_after, unit_after, answered_core}
use Rattle.session_core.specs.SeenAnswer.{left_by}
use Rattle.session_core.specs.Seen.{unnumbered, stands_by_access, standing_by_access, segment_left}

-- ---- lists

pub next_drop : {A : Type 0} (n : ℕ) (gs : List A) → drop (suc n) gs ≡ drop 1 (drop n gs)
next_drop zero gs = refl
next_drop (suc n) [] = refl
next_drop (suc n) (g ∷ gs) = next_drop n gs

others_is : (gs : List (List Command)) → drop 1 gs ≡ others gs
others_is [] = refl
others_is (g ∷ gs) = refl

pub others_drop : (n : ℕ) (gs : List (List Command)) → drop (n + 1) gs ≡ others (drop n gs)
others_drop n gs = rw add-one (next_drop n gs ∙ others_is (drop n gs))

all_others : (gs : List (List Command)) → AllByRecursion (AllByRecursion IsCommand) gs → AllByRecursion (AllByRecursion IsCommand) (others gs)
all_others [] all = tt
all_others (g ∷ gs) all = all.1

pub all_next : (n : ℕ) (gs : List (List Command)) → AllByRecursion (AllByRecursion IsCommand) (drop n gs)
    → AllByRecursion (AllByRecursion IsCommand) (drop (n + 1) gs)
all_next n gs all = subst (AllByRecursion (AllByRecursion IsCommand)) (sym (others_drop n gs)) (all_others (drop n gs) all)

pub none_each : (n : ℕ) (gs : List (List Command)) → gs ≡ [] → AllByRecursion (AllByRecursion IsCommand) (drop n gs)
none_each zero gs e = subst (AllByRecursion (AllByRecursion IsCommand)) (sym e) tt
none_each (suc n) gs e = subst (λ xs. AllByRecursion (AllByRecursion IsCommand) (drop (suc n) xs)) (sym e) tt

pub first_at : (n : ℕ) (gs : List (List Command)) (g : List Command) → slice_get gs n ≡ Some g → g ≡ first (drop n gs)
first_at zero [] g e = absurd cc
first_at zero (h ∷ gs) g e = cc
first_at (suc n) [] g e = absurd cc
first_at (suc n) (h ∷ gs) g e = first_at n gs g e

pub none_at : (n : ℕ) (gs : List (List Command)) → slice_get gs n ≡ None → first (drop n gs) ≡ []
none_at zero [] e = refl
none_at zero (h ∷ gs) e = absurd cc
none_at (suc n) [] e = refl
none_at (suc n) (h ∷ gs) e = none_at n gs e

pub first_commands : (gs : List (List Command)) → AllByRecursion (AllByRecursion IsCommand) gs → AllByRecursion IsCommand (first gs)
first_commands [] all = tt
first_commands (g ∷ gs) all = all.0

-- ---- what runs again

pub none_fit : (again : List Command) → again ≡ [] → fit again ≡ true
unfolding chain_bytes
none_fit again e = ap fit e

-- ---- an answer

pub access_stands : (st : Standing) (g : List Command) (r : Stripped) → stands_by_access g ≡ true
    → standing_after st g r ≡ standing_by_access st g r.replies
access_stands st [] r access = refl
access_stands st (c ∷ cs) r access = go (c.code == secchk) (c.code == accrdb) access
  where
    go : (a b : Bool) → (a || b) ≡ true
        → (if a then after_secchk st c r.replies else (if b then after_accrdb st c r.replies else (if r.ended then after_end st r.sets else st)))
        ≡ (if a then after_secchk st c r.replies else (if b then after_accrdb st c r.replies else st))
    go true b access = refl
    go false true access = refl
    go false false access = absurd cc

pub unit_stands : (st : Standing) (g : List Command) (r : Stripped) → stands_by_access g ≡ false
    → standing_after st g r ≡ (if r.ended then after_end st r.sets else st)
unit_stands st [] r unit = absurd cc
unit_stands st (c ∷ cs) r unit = go (c.code == secchk) (c.code == accrdb) unit
  where
    go : (a b : Bool) → (a || b) ≡ false
        → (if a then after_secchk st c r.replies else (if b then after_accrdb st c r.replies else (if r.ended then after_end st r.sets else st)))
        ≡ (if r.ended then after_end st r.sets else st)
    go true b unit = absurd cc
    go false true unit = absurd cc
    go false false unit = refl

-- the unit of work doesn't depend on where the session stands
pub stands_then_left : (r : Stripped) (k : Core)
    → segment_left r (unnumbered (unit_after r (record k { standing = standing_after k.standing (first k.segments) r }))) ≡ unnumbered (answered_core r k)
stands_then_left r k =
    let to = standing_after k.standing (first k.segments) r in
    let there = record k { standing = to } in
    cond_both r.ended (with_end r there) (if is_work (first k.segments) then with_work r there else there)
    (λ u. segment_left r (unnumbered u) ≡ unnumbered (answered_core r k))
    (λ e. sym (ap (λ b. unnumbered (with_replies r (if b then with_end r k else (if is_work (first k.segments) then with_work r k else k)))) e))
    (λ e. cond_both (is_work (first k.segments)) (with_work r there) there
    (λ u. segment_left r (unnumbered u) ≡ unnumbered (answered_core r k))
    (λ f. cond_both (joins_again r.replies k) (record there { again = k.again ++ first k.segments }) (record there { spoken = true })
    (λ u. segment_left r (unnumbered u) ≡ unnumbered (answered_core r k))
    (λ j. sym (ap (λ b. unnumbered (with_replies r (if b then with_end r k else (if is_work (first k.segments) then with_work r k else k)))) e
    ∙ ap (λ b. unnumbered (with_replies r (if b then with_work r k else k))) f
    ∙ ap (λ b. unnumbered (with_replies r (if b then record k { again = k.again ++ first k.segments } else record k { spoken = true }))) j))
    (λ j. sym (ap (λ b. unnumbered (with_replies r (if b then with_end r k else (if is_work (first k.segments) then with_work r k else k)))) e
    ∙ ap (λ b. unnumbered (with_replies r (if b then with_work r k else k))) f
    ∙ ap (λ b. unnumbered (with_replies r (if b then record k { again = k.again ++ first k.segments } else record k { spoken = true }))) j)))
    (λ f. sym (ap (λ b. unnumbered (with_replies r (if b then with_end r k else (if is_work (first k.segments) then with_work r k else k)))) e
    ∙ ap (λ b. unnumbered (with_replies r (if b then with_work r k else k))) f)))

-- ---- local answers

pub settle_first : (name : List ℕ) (gs : List (List Command)) (k : Core) → is_local name k.standing (first gs) ≡ true
    → (settle_segments name (left_by (answered_locally name (first gs) k.standing).stopped gs)
    (with_local (answered_locally name (first gs) k.standing) (left_by (answered_locally name (first gs) k.standing).stopped gs) k)).core
    ≡ (settle_segments name gs k).core
unfolding settle_segments
settle_first name [] k e = absurd (true≢false (sym e))
settle_first name (g ∷ gs) k e =
    go (answered_locally name g k.standing).stopped
    ∙ ap (λ b. (if b then settle_by (answered_locally name g k.standing) gs k (settle_segments name gs) else still k).core) (sym e)
  where
    go : (b : Bool)
        → (settle_segments name (left_by b (g ∷ gs)) (with_local (answered_locally name g k.standing) (left_by b (g ∷ gs)) k)).core
        ≡ (if b then record { core = with_local (answered_locally name g k.standing) [] k; moved = (answered_locally name g k.standing).moved }
        else moved_too (answered_locally name g k.standing).moved (settle_segments name gs (with_local (answered_locally name g k.standing) gs k))).core
    go true = refl
    go false = refl

pub settle_still : (name : List ℕ) (gs : List (List Command)) (k : Core) → is_local name k.standing (first gs) ≡ false
    → (settle_segments name gs k).core ≡ k
unfolding settle_segments
settle_still name [] k e = refl
settle_still name (g ∷ gs) k e =
    ap (λ b. (if b then settle_by (answered_locally name g k.standing) gs k (settle_segments name gs) else still k).core) e

-- the number of the unit in work doesn't matter
settle_unnumbered : (name : List ℕ) (gs : List (List Command)) (k : Core)
    → (settle_segments name gs (unnumbered k)).core ≡ unnumbered (settle_segments name gs k).core
unfolding settle_segments
settle_unnumbered name [] k = refl
settle_unnumbered name (g ∷ gs) k =
    go (is_local name k.standing g) (answered_locally name g k.standing).stopped
    (settle_unnumbered name gs (with_local (answered_locally name g k.standing) gs k))
  where
    go : (b s : Bool)
        → (settle_segments name gs (unnumbered (with_local (answered_locally name g k.standing) gs k))).core
        ≡ unnumbered (settle_segments name gs (with_local (answered_locally name g k.standing) gs k)).core
        → (if b
        then (if s
        then record { core = with_local (answered_locally name g k.standing) [] (unnumbered k); moved = (answered_locally name g k.standing).moved }
        else moved_too (answered_locally name g k.standing).moved (settle_segments name gs (with_local (answered_locally name g k.standing) gs (unnumbered k))))
        else still (unnumbered k)).core
        ≡ unnumbered (if b
        then (if s
        then record { core = with_local (answered_locally name g k.standing) [] k; moved = (answered_locally name g k.standing).moved }
        else moved_too (answered_locally name g k.standing).moved (settle_segments name gs (with_local (answered_locally name g k.standing) gs k)))
        else still k).core
    go true true h = refl
    go true false h = h
    go false s h = refl

owed_unnumbered : (name : List ℕ) (owed : Owed) (k : Core) → (settle_owed name owed (unnumbered k)).core ≡ unnumbered (settle_owed name owed k).core
owed_unnumbered name Nothing k = settle_unnumbered name k.segments k
owed_unnumbered name Rerouted k = refl
owed_unnumbered name Unknown k = refl

pub settled_unnumbered : (name : List ℕ) (k : Core) → (settled name (unnumbered k)).core ≡ unnumbered (settled name k).core
settled_unnumbered name k = owed_unnumbered name k.owed k

-- whether the session was led to the base doesn't matter either
finish_said : (gs : List (List Command)) (k : Core) (moved : Bool) → (finish_by gs false (unnumbered k)).said ≡ (finish_by gs moved k).said
finish_said [] k moved = refl
finish_said (g ∷ gs) k moved = refl

finish_core : (gs : List (List Command)) (k : Core) (moved : Bool) → (finish_by gs false (unnumbered k)).core ≡ unnumbered (finish_by gs moved k).core
finish_core [] k moved = refl
finish_core (g ∷ gs) k moved = refl

pub finished_said : (name : List ℕ) (k : Core) → (finished (still (settled name (unnumbered k)).core)).said ≡ (finished (settled name k)).said
finished_said name k =
    ap (λ (j : Core). (finished (still j)).said) (settled_unnumbered name k)
    ∙ finish_said (settled name k).core.segments (settled name k).core (settled name k).moved

pub finished_core : (name : List ℕ) (k : Core) → (finished (still (settled name (unnumbered k)).core)).core ≡ unnumbered (finished (settled name k)).core
finished_core name k =
    ap (λ (j : Core). (finished (still j)).core) (settled_unnumbered name k)
    ∙ finish_core (settled name k).core.segments (settled name k).core (settled name k).moved

-- ---- a reply message

pub with_message : (kept : List Dss) (d : Dss) (code value number : ℕ) (k : Core) → number ≡ first_number k
    → d ≡ last Reply number (canonical_object code (severity value)) → kept ++ d ∷ [] ≡ kept ++ message code value k
with_message kept d code value number k number_is is =
    ap (λ (x : Dss). kept ++ x ∷ []) (is ∙ ap (λ n. last Reply n (canonical_object code (severity value))) number_is)
