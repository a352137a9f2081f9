-- The segments of a chain are the only ones that are maximal.
use Rattle.std.proofs.Common.{◌≡◌, Bool, true, false, List, [], ◌∷◌, ◌++◌, flat_map, refl, sym, ap, ◌∙◌, subst, inl, inr, ◌⊎◌}
use Rattle.std.specs.List.{AllByRecursion}
use Rattle.std.proofs.lemmas.Bool.{both_ways, or_left}
use Rattle.ddm_codepoints.specs.CodeClass.{class_of}
use Rattle.unit_segments.specs.declared.command.Command.{Command}
use Rattle.unit_segments.specs.Command.{is_passed, ends_unit}
use Rattle.unit_segments.specs.Segment.{goes_on_a_run, passed_before, segments_of, IsRun, IsAlone, IsOpenRun, BeginsRun, AreMaximal, AreSegments}

abbrev passes : Command → Bool
passes command = is_passed (class_of command.code)

segments_passed : (command : Command) (rest : List Command) → passes command ≡ true → segments_of (command ∷ rest) ≡ passed_before command (segments_of rest)
unfolding segments_of
segments_passed command rest is = rw is refl

segments_apart : (command : Command) (rest : List Command) → passes command ≡ false → segments_of (command ∷ rest) ≡ (command ∷ []) ∷ segments_of rest
unfolding segments_of
segments_apart command rest isnt = rw isnt refl

segments_none : segments_of [] ≡ []
unfolding segments_of
segments_none = refl

-- ---- those that are cut are such

abbrev Fits : List Command → Type 0
Fits segment = IsRun segment ⊎ IsAlone segment

goes_on : (command : Command) → passes command ≡ true → goes_on_a_run command ≡ true
goes_on command is = or_left (passes command) (ends_unit (class_of command.code)) is

-- a command in front, which is a segment of its own
fits_alone : (command : Command) (b : Bool) → goes_on_a_run command ≡ b → Fits (command ∷ [])
fits_alone command true is = inl is
fits_alone command false is = inr is

abbrev Whole : List Command → List (List Command) → Type 0
Whole commands segments = AreSegments commands segments

-- behind a command that isn't passed a segment ends
closed_front : (command : Command) (segments : List (List Command)) → passes command ≡ false → AreMaximal segments → AreMaximal ((command ∷ []) ∷ segments)
closed_front command [] isnt maximal = tt
closed_front command (next ∷ segments) isnt maximal = (λ is begins. both_ways (passes command) isnt is, maximal)

apart_whole : (command : Command) (rest : List Command) (segments : List (List Command)) → passes command ≡ false → Whole rest segments →
    Whole (command ∷ rest) ((command ∷ []) ∷ segments)
apart_whole command rest segments isnt whole = record {
  joined = ap (λ (cs : List Command). command ∷ cs) whole.joined;
  each = (fits_alone command (goes_on_a_run command) refl, whole.each);
  maximal = closed_front command segments isnt whole.maximal;
}

first_run : (next : Command) (segment : List Command) → goes_on_a_run next ≡ true → Fits (next ∷ segment) → IsRun (next ∷ segment)
first_run next segment is (inl run) = run
first_run next [] is (inr alone) = absurd (both_ways (goes_on_a_run next) alone is)
first_run next (other ∷ segment) is (inr alone) = absurd alone

joined_maximal : (command next : Command) (segment : List Command) (segments : List (List Command)) → AreMaximal ((next ∷ segment) ∷ segments) →
    AreMaximal ((command ∷ next ∷ segment) ∷ segments)
joined_maximal command next segment [] maximal = tt
joined_maximal command next segment (other ∷ segments) maximal = maximal

passed_by : (command next : Command) (segment : List Command) (segments : List (List Command)) (rest : List Command) (b : Bool) → goes_on_a_run next ≡ b →
    passes command ≡ true → Whole rest ((next ∷ segment) ∷ segments) → Whole (command ∷ rest) (passed_before command ((next ∷ segment) ∷ segments))
passed_by command next segment segments rest true is passed whole =
    rw is (record {
      joined = ap (λ (cs : List Command). command ∷ cs) whole.joined;
      each = (inl (passed, first_run next segment is whole.each.0), whole.each.1);
      maximal = joined_maximal command next segment segments whole.maximal;
    })
passed_by command next segment segments rest false is passed whole =
    rw is (record {
      joined = ap (λ (cs : List Command). command ∷ cs) whole.joined;
      each = (inl (goes_on command passed), whole.each);
      maximal = (λ run begins. both_ways (goes_on_a_run next) is begins, whole.maximal);
    })

passed_whole : (command : Command) (rest : List Command) (segments : List (List Command)) → passes command ≡ true → Whole rest segments →
    Whole (command ∷ rest) (passed_before command segments)
passed_whole command rest [] is whole = record {
  joined = ap (λ (cs : List Command). command ∷ cs) whole.joined;
  each = (inl (goes_on command is), tt);
  maximal = tt;
}
passed_whole command rest ([] ∷ segments) is whole = absurd (elim whole.each.0 [ inl run ↦ run | inr alone ↦ alone ])
passed_whole command rest ((next ∷ segment) ∷ segments) is whole =
    passed_by command next segment segments rest (goes_on_a_run next) refl is whole

whole_by : (command : Command) (rest : List Command) (b : Bool) → passes command ≡ b → Whole rest (segments_of rest) →
    Whole (command ∷ rest) (segments_of (command ∷ rest))
whole_by command rest true is whole =
    subst (Whole (command ∷ rest)) (sym (segments_passed command rest is)) (passed_whole command rest (segments_of rest) is whole)
whole_by command rest false isnt whole =
    subst (Whole (command ∷ rest)) (sym (segments_apart command rest isnt)) (apart_whole command rest (segments_of rest) isnt whole)

pub segments_are : (commands : List Command) → AreSegments commands (segments_of commands)
segments_are [] = subst (Whole []) (sym segments_none) (record { joined = refl; each = tt; maximal = tt })
segments_are (command ∷ rest) = whole_by command rest (passes command) refl (segments_are rest)

-- ---- and no others are

-- the first of the segments doesn't go on a run that isn't ended
abbrev Follows : List Command → List (List Command) → Type 0
Follows segment [] = Unit {0}
Follows segment (next ∷ others) = IsOpenRun segment → BeginsRun next → ⊥

follows_first : (segment : List Command) (segments : List (List Command)) → AreMaximal (segment ∷ segments) → Follows segment segments
follows_first segment [] maximal = tt
follows_first segment (next ∷ others) maximal = maximal.0

maximal_rest : (segment : List Command) (segments : List (List Command)) → AreMaximal (segment ∷ segments) → AreMaximal segments
maximal_rest segment [] maximal = tt
maximal_rest segment (next ∷ others) maximal = maximal.1

stands_apart : (command next : Command) (segment : List Command) (others : List (List Command)) (b : Bool) → goes_on_a_run next ≡ b →
    (goes_on_a_run next ≡ true → ⊥) → passed_before command ((next ∷ segment) ∷ others) ≡ (command ∷ []) ∷ (next ∷ segment) ∷ others
stands_apart command next segment others true is isnt = absurd (isnt is)
stands_apart command next segment others false is isnt = rw is refl

-- a passed command in front of segments that don't go on its run
alone_before : (command : Command) (segments : List (List Command)) → passes command ≡ true → AllByRecursion Fits segments → Follows (command ∷ []) segments →
    passed_before command segments ≡ (command ∷ []) ∷ segments
alone_before command [] is each follows = refl
alone_before command ([] ∷ others) is each follows = absurd (elim each.0 [ inl run ↦ run | inr alone ↦ alone ])
alone_before command ((next ∷ segment) ∷ others) is each follows =
    stands_apart command next segment others (goes_on_a_run next) refl (follows is)

one_by : (command : Command) (rest : List Command) (segments : List (List Command)) (b : Bool) → passes command ≡ b →
    AllByRecursion Fits segments → Follows (command ∷ []) segments → segments_of rest ≡ segments →
    segments_of (command ∷ rest) ≡ (command ∷ []) ∷ segments
one_by command rest segments true is each follows same =
    segments_passed command rest is ∙ ap (passed_before command) same ∙ alone_before command segments is each follows
one_by command rest segments false isnt each follows same = segments_apart command rest isnt ∙ ap (λ (ss : List (List Command)). (command ∷ []) ∷ ss) same

run_first : (next : Command) (others : List Command) → IsRun (next ∷ others) → goes_on_a_run next ≡ true
run_first next [] run = run
run_first next (other ∷ others) run = goes_on next run.0

open_rest : (command next : Command) (others : List Command) (segments : List (List Command)) → Follows (command ∷ next ∷ others) segments →
    Follows (next ∷ others) segments
open_rest command next others [] follows = tt
open_rest command next others (segment ∷ segments) follows = follows

-- a segment in front of others is cut there
cut_first : (segment rest : List Command) (segments : List (List Command)) → IsRun segment → AllByRecursion Fits segments →
    Follows segment segments → segments_of rest ≡ segments → segments_of (segment ++ rest) ≡ segment ∷ segments
cut_first [] rest segments run each follows same = absurd run
cut_first (command ∷ []) rest segments run each follows same = one_by command rest segments (passes command) refl each follows same
cut_first (command ∷ next ∷ others) rest segments run each follows same =
    let behind = cut_first (next ∷ others) rest segments run.1 each (open_rest command next others segments follows) same in
    let on = run_first next others run.1 in
    let joins : passed_before command ((next ∷ others) ∷ segments) ≡ (command ∷ next ∷ others) ∷ segments = rw on refl in
    segments_passed command (next ∷ others ++ rest) run.0 ∙ ap (passed_before command) behind ∙ joins

cut_alone : (segment rest : List Command) (segments : List (List Command)) → IsAlone segment → AllByRecursion Fits segments →
    Follows segment segments → segments_of rest ≡ segments → segments_of (segment ++ rest) ≡ segment ∷ segments
cut_alone [] rest segments alone each follows same = absurd alone
cut_alone (command ∷ []) rest segments alone each follows same = one_by command rest segments (passes command) refl each follows same
cut_alone (command ∷ next ∷ others) rest segments alone each follows same = absurd alone

cut_as : (segments : List (List Command)) → AllByRecursion Fits segments → AreMaximal segments →
    segments_of (flat_map (λ (s : List Command). s) segments) ≡ segments
cut_as [] each maximal = segments_none
cut_as (segment ∷ segments) each maximal =
    let rest : List Command = flat_map (λ (s : List Command). s) segments in
    let behind = cut_as segments each.1 (maximal_rest segment segments maximal) in
    let follows = follows_first segment segments maximal in
    elim each.0 as (λ fits. segments_of (segment ++ rest) ≡ segment ∷ segments) [
      | inl run ↦ cut_first segment rest segments run each.1 follows behind
      | inr alone ↦ cut_alone segment rest segments alone each.1 follows behind
    ]

pub segments_only : (commands : List Command) (segments : List (List Command)) → AreSegments commands segments → segments ≡ segments_of commands
segments_only commands segments are = sym (cut_as segments are.each are.maximal) ∙ ap segments_of are.joined
