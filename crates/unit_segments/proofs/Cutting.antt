-- A chain is cut into its segments, one command after another.
use Rattle.std.proofs.Common.{◌≡◌, ℕ, suc, ◌+◌, ◌<◌, ◌≤◌, Bool, true, false, cond, List, [], ◌∷◌, ◌++◌, length, get_or, drop, refl, sym, ap, ◌∙◌, subst, arith}
use Rattle.std.specs.Prelude.{◌||◌}
use Rattle.std.specs.List.{AllByRecursion}
use Rattle.std.proofs.lemmas.List.{append_assoc, append-nil, length-append}
use Rattle.std.proofs.Math.Seq.{drop-cons}
use Rattle.std.proofs.Math.ListN.{drop_of_length-le}
use Rattle.link_ends.proofs.Lists.{all_push}
use Rattle.ddm_codepoints.specs.CodeClass.{class_of}
use Rattle.unit_segments.specs.declared.command.Command.{Command}
use Rattle.unit_segments.specs.Command.{is_passed, ends_unit}
use Rattle.unit_segments.specs.Segment.{goes_on_a_run, passed_before, segments_of}
use Rattle.unit_segments.specs.Cut.{with_run, run_before, IsPassed, Cuts, after_command}

or_true : (a b : Bool) → a ≡ true → (a || b) ≡ true
or_true true b is = refl
or_true false b is = absurd cc

or_right : (a b : Bool) → a ≡ false → b ≡ true → (a || b) ≡ true
or_right true b isnt is = absurd cc
or_right false true isnt is = refl
or_right false false isnt is = absurd cc

or_false : (a b : Bool) → a ≡ false → b ≡ false → (a || b) ≡ false
or_false true b isnt neither = absurd cc
or_false false true isnt neither = absurd cc
or_false false false isnt neither = refl

passed_follows : (command : Command) → IsPassed command → goes_on_a_run command ≡ true
passed_follows command is = or_true (is_passed (class_of command.code)) (ends_unit (class_of command.code)) is

-- in front of a command that goes on the run
in_one : (command next : Command) (segment : List Command) (segments : List (List Command)) → goes_on_a_run next ≡ true →
    passed_before command ((next ∷ segment) ∷ segments) ≡ (command ∷ next ∷ segment) ∷ segments
in_one command next segment segments is = rw is refl

-- in front of one that doesn't
apart : (command next : Command) (segment : List Command) (segments : List (List Command)) → goes_on_a_run next ≡ false →
    passed_before command ((next ∷ segment) ∷ segments) ≡ (command ∷ []) ∷ (next ∷ segment) ∷ segments
apart command next segment segments is = rw is refl

-- no segment goes on the run
abbrev EndsRun : List (List Command) → Type 0
EndsRun [] = Unit {0}
EndsRun ([] ∷ segments) = ⊥
EndsRun ((next ∷ segment) ∷ segments) = goes_on_a_run next ≡ false

run_push : (run : List Command) (command : Command) (segments : List (List Command)) →
    run_before (run ++ command ∷ []) segments ≡ run_before run (passed_before command segments)
run_push [] command segments = refl
run_push (first ∷ run) command segments = ap (passed_before first) (run_push run command segments)

alone : (command : Command) (segments : List (List Command)) → EndsRun segments →
    passed_before command segments ≡ (command ∷ []) ∷ segments
alone command [] ends = refl
alone command ([] ∷ segments) ends = absurd ends
alone command ((next ∷ segment) ∷ segments) ends = apart command next segment segments ends

-- a run in front of what ends it is a segment
run_ends : (first : Command) (run : List Command) (segments : List (List Command)) → AllByRecursion IsPassed run → EndsRun segments →
    run_before (first ∷ run) segments ≡ (first ∷ run) ∷ segments
run_ends first [] segments all ends = alone first segments ends
run_ends first (next ∷ run) segments all ends =
    ap (passed_before first) (run_ends next run segments all.1 ends) ∙ in_one first next run segments (passed_follows next all.0)

-- a run and the command that ends its unit are a segment
run_with_end : (run : List Command) (command : Command) (segments : List (List Command)) → AllByRecursion IsPassed run →
    goes_on_a_run command ≡ true → run_before run ((command ∷ []) ∷ segments) ≡ (run ++ command ∷ []) ∷ segments
run_with_end [] command segments all is = refl
run_with_end (first ∷ []) command segments all is = in_one first command [] segments is
run_with_end (first ∷ next ∷ run) command segments all is =
    ap (passed_before first) (run_with_end (next ∷ run) command segments all.1 is)
    ∙ in_one first next (run ++ command ∷ []) segments (passed_follows next all.1.0)

with_some : (segments : List (List Command)) (run : List Command) (command : Command) →
    with_run segments (run ++ command ∷ []) ≡ segments ++ (run ++ command ∷ []) ∷ []
with_some segments [] command = refl
with_some segments (first ∷ run) command = refl

segments_step : (command : Command) (rest : List Command) →
    segments_of (command ∷ rest) ≡ cond (is_passed (class_of command.code)) (passed_before command (segments_of rest)) ((command ∷ []) ∷ segments_of rest)
unfolding segments_of
segments_step command rest = refl

-- ---- one command more

pub cuts_passed : (all rest : List Command) (segments : List (List Command)) (run : List Command) (command : Command) → Cuts all (command ∷ rest) segments run →
    is_passed (class_of command.code) ≡ true → Cuts all rest segments (run ++ command ∷ [])
cuts_passed all rest segments run command cuts is =
    let first : segments_of (command ∷ rest) ≡ passed_before command (segments_of rest) = segments_step command rest ∙ rw is refl in
    record {
      same = ap (λ (ss : List (List Command)). segments ++ ss) (run_push run command (segments_of rest))
          ∙ ap (λ (ss : List (List Command)). segments ++ run_before run ss) (sym first) ∙ cuts.same;
      passed = all_push IsPassed run command cuts.passed is;
    }

pub cuts_ended : (all rest : List Command) (segments : List (List Command)) (run : List Command) (command : Command) → Cuts all (command ∷ rest) segments run →
    is_passed (class_of command.code) ≡ false → ends_unit (class_of command.code) ≡ true → Cuts all rest (with_run segments (run ++ command ∷ [])) []
cuts_ended all rest segments run command cuts isnt is =
    let first : segments_of (command ∷ rest) ≡ (command ∷ []) ∷ segments_of rest = segments_step command rest ∙ rw isnt refl in
    let follows = or_right (is_passed (class_of command.code)) (ends_unit (class_of command.code)) isnt is in
    record {
      same = ap (λ (ss : List (List Command)). ss ++ segments_of rest) (with_some segments run command)
          ∙ append_assoc segments ((run ++ command ∷ []) ∷ []) (segments_of rest)
          ∙ ap (λ (ss : List (List Command)). segments ++ ss) (sym (run_with_end run command (segments_of rest) cuts.passed follows))
          ∙ ap (λ (ss : List (List Command)). segments ++ run_before run ss) (sym first) ∙ cuts.same;
      passed = tt;
    }

-- a run that is ended in front of what ends it
run_whole : (run : List Command) (segments rest : List (List Command)) → AllByRecursion IsPassed run → EndsRun rest →
    with_run segments run ++ rest ≡ segments ++ run_before run rest
run_whole [] segments rest all ends = refl
run_whole (first ∷ run) segments rest all ends =
    append_assoc segments ((first ∷ run) ∷ []) rest ∙ ap (λ (ss : List (List Command)). segments ++ ss) (sym (run_ends first run rest all.1 ends))

pub cuts_apart : (all rest : List Command) (segments : List (List Command)) (run : List Command) (command : Command) → Cuts all (command ∷ rest) segments run →
    is_passed (class_of command.code) ≡ false → ends_unit (class_of command.code) ≡ false →
    Cuts all rest (with_run (with_run segments run) (command ∷ [])) []
cuts_apart all rest segments run command cuts isnt neither =
    let first : segments_of (command ∷ rest) ≡ (command ∷ []) ∷ segments_of rest = segments_step command rest ∙ rw isnt refl in
    let ends : EndsRun ((command ∷ []) ∷ segments_of rest) = or_false (is_passed (class_of command.code)) (ends_unit (class_of command.code)) isnt neither in
    record {
      same = append_assoc (with_run segments run) ((command ∷ []) ∷ []) (segments_of rest)
          ∙ run_whole run segments ((command ∷ []) ∷ segments_of rest) cuts.passed ends
          ∙ ap (λ (ss : List (List Command)). segments ++ run_before run ss) (sym first) ∙ cuts.same;
      passed = tt;
    }

-- the command at a place, and those behind it
pub rest_at : (commands : List Command) (i : ℕ) (command : Command) → i < length commands → command ≡ get_or commands i command →
    drop i commands ≡ command ∷ drop (i + 1) commands
rest_at commands i command within is =
    let next : suc i ≡ i + 1 = omega arith in
    drop-cons commands i command within ∙ ap (λ (c : Command). c ∷ drop (suc i) commands) (sym is) ∙ ap (λ (n : ℕ). command ∷ drop n commands) next

-- the progress with one command more, by its class
cuts_by : (all rest : List Command) (segments : List (List Command)) (run : List Command) (command : Command) (passed ends : Bool) →
    is_passed (class_of command.code) ≡ passed → ends_unit (class_of command.code) ≡ ends → Cuts all (command ∷ rest) segments run →
    Cuts all rest (after_command command segments run).segments (after_command command segments run).run
cuts_by all rest segments run command true ends is also cuts = rw is (cuts_passed all rest segments run command cuts is)
cuts_by all rest segments run command false true is also cuts = rw (is, also) (cuts_ended all rest segments run command cuts is also)
cuts_by all rest segments run command false false is also cuts = rw (is, also) (cuts_apart all rest segments run command cuts is also)

run_grows : (segments : List (List Command)) (run : List Command) (command : Command) (passed ends : Bool) →
    is_passed (class_of command.code) ≡ passed → ends_unit (class_of command.code) ≡ ends →
    length (after_command command segments run).run ≤ length run + 1
run_grows segments run command true ends is also = rw is (omega (arith, length-append run (command ∷ [])))
run_grows segments run command false true is also = rw (is, also) (omega arith)
run_grows segments run command false false is also = rw (is, also) (omega arith)

pub cuts_on : (commands : List Command) (i : ℕ) (command : Command) (segments segments_now : List (List Command)) (run run_now : List Command) →
    i < length commands → command ≡ get_or commands i command → Cuts commands (drop i commands) segments run → length run ≤ i →
    segments_now ≡ (after_command command segments run).segments → run_now ≡ (after_command command segments run).run →
    Cuts commands (drop (i + 1) commands) segments_now run_now × (length run_now ≤ i + 1)
cuts_on commands i command segments segments_now run run_now within is cuts small segments_is run_is =
    let here = subst (λ (cs : List Command). Cuts commands cs segments run) (rest_at commands i command within is) cuts in
    let step =
    cuts_by commands (drop (i + 1) commands) segments run command (is_passed (class_of command.code)) (ends_unit (class_of command.code)) refl refl here in
    let grows = run_grows segments run command (is_passed (class_of command.code)) (ends_unit (class_of command.code)) refl refl in (
      rw (segments_is, run_is) step,
      omega (arith, ap length run_is, grows, small),
    )

-- at the end the run is the last segment
pub cuts_all : (all : List Command) (segments : List (List Command)) (run : List Command) → Cuts all [] segments run → with_run segments run ≡ segments_of all
unfolding segments_of
cuts_all all segments run cuts =
    sym (append-nil (with_run segments run)) ∙ run_whole run segments [] cuts.passed tt ∙ cuts.same

pub cuts_none : (all : List Command) → Cuts all all [] []
cuts_none all = record { same = refl; passed = tt }

pub cuts_end : (items all : List Command) (i : ℕ) (segments segments_now : List (List Command)) (run : List Command) → items ≡ all → length items ≤ i →
    Cuts items (drop i items) segments run → segments_now ≡ with_run segments run → segments_now ≡ segments_of all
cuts_end items all i segments segments_now run same past cuts is =
    let none : drop i items ≡ [] = drop_of_length-le items past in
    is ∙ cuts_all items segments run (subst (λ (cs : List Command). Cuts items cs segments run) none cuts) ∙ ap segments_of same
