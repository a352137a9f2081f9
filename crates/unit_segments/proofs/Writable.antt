-- The commands of chains that were read, and of their segments, can be written.
use Rattle.std.proofs.Common.{◌≡◌, ◌<◌, ◌≤◌, ◌^◌, Bool, true, false, List, [], ◌∷◌, ◌++◌, length, flat_map, refl, sym, ap, subst, inl, inr, ◌⊎◌, arith}
use Rattle.std.specs.List.{AllByRecursion}
use Rattle.std.proofs.lemmas.Bool.{true≢false}
use Rattle.std.proofs.lemmas.List.{length-append}
use Rattle.dss_frame.specs.declared.dss.Placed.{Placed}
use Rattle.unit_segments.specs.declared.command.Command.{Command}
use Rattle.unit_segments.specs.Limit.{most_commands}
use Rattle.unit_segments.specs.Chain.{is_request}
use Rattle.unit_segments.specs.Grammar.{none_before, AreLinked, Grouped, grouped_with, grouped, commands_of, HasSoundBody, IsChain}
use Rattle.unit_segments.specs.Segment.{IsRun, IsAlone, AreSegments}
use Rattle.unit_segments.specs.Written.{IsWritable, AreWritable}

abbrev HasNumber : Placed → Type 0
HasNumber placed = placed.dss.corr < 2 ^ 16

writable_by : (first : Placed) (b : Bool) (others : Grouped) → is_request first.dss.kind ≡ b → HasSoundBody first → HasNumber first →
    AllByRecursion IsWritable others.commands → AllByRecursion IsWritable (grouped_with first b others).commands
writable_by first true others is sound corr all = (record { corr = corr; code = refl; sound = sound is }, all)
writable_by first false others is sound corr all = all

each_writable : (placed : List Placed) → AllByRecursion HasSoundBody placed → AllByRecursion HasNumber placed →
    AllByRecursion IsWritable (commands_of placed)
each_writable [] sound corr = tt
each_writable (first ∷ others) sound corr =
    writable_by first (is_request first.dss.kind) (grouped others) refl sound.0 corr.0 (each_writable others sound.1 corr.1)

some_by : (first : Placed) (b : Bool) (others : Grouped) → b ≡ true → 0 < length (grouped_with first b others).commands
some_by first true others is = omega arith
some_by first false others is = absurd (true≢false (sym is))

some_command : (placed : List Placed) → AreLinked false none_before placed → 0 < length (commands_of placed)
some_command [] linked = absurd (true≢false linked)
some_command (first ∷ others) linked = some_by first (is_request first.dss.kind) (grouped others) (ap is_request linked.1.kind)

pub chain_writable : (commands : List Command) (placed : List Placed) → AllByRecursion HasNumber placed → IsChain commands placed → AreWritable commands
chain_writable commands placed corr is =
    subst AreWritable (sym is.commands_are) (record {
      some = some_command placed is.whole.linked;
      count = is.whole.count;
      each = each_writable placed is.whole.bodies corr;
    })

-- ---- segments

all_front : (front back : List Command) → AllByRecursion IsWritable (front ++ back) → AllByRecursion IsWritable front
all_front [] back all = tt
all_front (command ∷ front) back all = (all.0, all_front front back all.1)

all_back : (front back : List Command) → AllByRecursion IsWritable (front ++ back) → AllByRecursion IsWritable back
all_back [] back all = all
all_back (command ∷ front) back all = all_back front back all.1

abbrev joined : List (List Command) → List Command
joined segments = flat_map (λ (segment : List Command). segment) segments

segment_some : (segment : List Command) → IsRun segment ⊎ IsAlone segment → 0 < length segment
segment_some [] (inl run) = absurd run
segment_some [] (inr alone) = absurd alone
segment_some (command ∷ commands) is = omega arith

parts_writable : (segments : List (List Command)) → AllByRecursion (λ (segment : List Command). IsRun segment ⊎ IsAlone segment) segments →
    length (joined segments) ≤ most_commands → AllByRecursion IsWritable (joined segments) → AllByRecursion AreWritable segments
parts_writable [] each small all = tt
parts_writable (segment ∷ segments) each small all = (
  record {
    some = segment_some segment each.0;
    count = omega (arith, small, length-append segment (joined segments));
    each = all_front segment (joined segments) all;
  },
  parts_writable segments each.1 (omega (arith, small, length-append segment (joined segments))) (all_back segment (joined segments) all),
)

pub segments_writable : (commands : List Command) (segments : List (List Command)) → AreWritable commands → AreSegments commands segments →
    AllByRecursion AreWritable segments
segments_writable commands segments fits are =
    let same = subst AreWritable (sym are.joined) fits in
    parts_writable segments are.each same.count same.each
