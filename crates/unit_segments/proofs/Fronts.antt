-- The DSSs that begin a chain, and one more.
use Rattle.std.proofs.Common.{◌≡◌, ℕ, suc, ◌<◌, ◌≤◌, Bool, true, false, List, [], ◌∷◌, ◌++◌, map, length, refl, sym, ap, ◌∙◌, arith}
use Rattle.std.specs.List.{AllByRecursion}
use Rattle.std.proofs.lemmas.Bool.{both_ways, cond-true, cond-false}
use Rattle.std.proofs.lemmas.List.{append_assoc, length-append, map-append}
use Rattle.link_ends.proofs.Lists.{all_push}
use Rattle.dss_frame.specs.declared.dss.Dss.{Dss}
use Rattle.dss_frame.specs.declared.dss.Placed.{Placed}
use Rattle.unit_segments.specs.declared.command.Command.{Command}
use Rattle.unit_segments.specs.Limit.{most_commands}
use Rattle.unit_segments.specs.Chain.{is_request, command_of, with_object, with_dss}
use Rattle.unit_segments.specs.Grammar.{IsNext, none_before, AreLinked, goes_on_after, command_with, Grouped, grouped_with, grouped, commands_of}
use Rattle.unit_segments.specs.Grammar.{HasSoundBody, IsFront}
use Rattle.unit_segments.specs.BadChain.{last_of}
use Rattle.unit_segments.proofs.Steps.{GoesOn}

-- ---- the last of them

pub last_push : (d : Dss) (begun : List Placed) (placed : Placed) → last_of d (begun ++ placed ∷ []) ≡ placed.dss
last_push d [] placed = refl
last_push d (next ∷ others) placed = last_push next.dss others placed

link_push : (goes_on : Bool) (d : Dss) (begun : List Placed) (placed : Placed) → AreLinked true d begun → IsNext (last_of d begun) placed.dss →
    placed.dss.chained ≡ goes_on → AreLinked goes_on d (begun ++ placed ∷ [])
link_push goes_on d [] placed linked next is = (linked, next, is)
link_push goes_on d (first ∷ others) placed linked next is = (linked.0, linked.1, link_push goes_on first.dss others placed linked.2 next is)

-- behind DSSs of a chain that aren't its last, with whether it is chained where it is followed
pub record IsLink (goes_on : Bool) (d : Dss) (begun : List Placed) (placed : Placed) (others : List Placed) : Type 0 where
  pub front : AreLinked true d begun
  pub next : IsNext (last_of d begun) placed.dss
  pub rest : AreLinked goes_on placed.dss others

pub link_split : (goes_on : Bool) (d : Dss) (begun : List Placed) (placed : Placed) (others : List Placed) → AreLinked goes_on d (begun ++ placed ∷ others) →
    IsLink goes_on d begun placed others
link_split goes_on d [] placed others linked = record { front = linked.0; next = linked.1; rest = linked.2 }
link_split goes_on d (first ∷ begun) placed others linked =
    let behind = link_split goes_on first.dss begun placed others linked.2 in
    record { front = (linked.0, linked.1, behind.front); next = behind.next; rest = behind.rest }

-- ---- their commands

go_on_push : (d : Dss) (objects : List Placed) (placed : Placed) → goes_on_after d (objects ++ placed ∷ []) ≡ placed.dss.go_on
go_on_push d [] placed = refl
go_on_push d (next ∷ others) placed = go_on_push next.dss others placed

command_push : (request : Placed) (objects : List Placed) (placed : Placed) →
    command_with request (objects ++ placed ∷ []) ≡ record (command_with request objects) {
      go_on = placed.dss.go_on;
      objects = map (λ object. object.dss.body) objects ++ placed.dss.body ∷ [];
    }
command_push request objects placed =
    ap (λ (b : Bool). record (command_with request objects) { go_on = b; objects = map (λ object. object.dss.body) (objects ++ placed ∷ []) })
    (go_on_push request.dss objects placed)
    ∙ ap (λ (bodies : List (List ℕ)). record (command_with request objects) { go_on = placed.dss.go_on; objects = bodies })
    (map-append (λ (object : Placed). object.dss.body) objects (placed ∷ []))

-- a request behind them begins a command
request_by : (first placed : Placed) (b : Bool) (others : Grouped) →
    grouped_with first b (record { objects = others.objects; commands = others.commands ++ command_of placed ∷ [] })
    ≡ record { objects = (grouped_with first b others).objects; commands = (grouped_with first b others).commands ++ command_of placed ∷ [] }
request_by first placed true others = refl
request_by first placed false others = refl

request_push : (begun : List Placed) (placed : Placed) → is_request placed.dss.kind ≡ true →
    grouped (begun ++ placed ∷ []) ≡ record { objects = (grouped begun).objects; commands = (grouped begun).commands ++ command_of placed ∷ [] }
request_push [] placed is = rw is refl
request_push (first ∷ others) placed is =
    ap (grouped_with first (is_request first.dss.kind)) (request_push others placed is)
    ∙ request_by first placed (is_request first.dss.kind) (grouped others)

-- an object belongs to the last command, or to the one before all of them
abbrev with_last_object : List Placed → List Command → Placed → Grouped
with_last_object objects [] placed = record { objects = objects ++ placed ∷ []; commands = [] }
with_last_object objects (command ∷ commands) placed =
    record { objects = objects; commands = with_object (command ∷ commands) placed.dss }

object_by : (first placed : Placed) (b : Bool) (objects : List Placed) (commands : List Command) →
    grouped_with first b (with_last_object objects commands placed)
    ≡ with_last_object (grouped_with first b (record { objects = objects; commands = commands })).objects
    (grouped_with first b (record { objects = objects; commands = commands })).commands placed
object_by first placed true objects [] =
    ap (λ (c : Command). record { objects = []; commands = c ∷ [] }) (command_push first objects placed)
object_by first placed true objects (command ∷ commands) = refl
object_by first placed false objects [] = refl
object_by first placed false objects (command ∷ commands) = refl

object_push : (begun : List Placed) (placed : Placed) → is_request placed.dss.kind ≡ false →
    grouped (begun ++ placed ∷ []) ≡ with_last_object (grouped begun).objects (grouped begun).commands placed
object_push [] placed isnt = rw isnt refl
object_push (first ∷ others) placed isnt =
    ap (grouped_with first (is_request first.dss.kind)) (object_push others placed isnt)
    ∙ object_by first placed (is_request first.dss.kind) (grouped others).objects (grouped others).commands

-- the first DSS of a chain is a request, which begins a command
first_is_request : (first : Placed) → IsNext none_before first.dss → is_request first.dss.kind ≡ true
first_is_request first next = ap is_request next.kind

command_first : (first placed : Placed) (b : Bool) (others : Grouped) → b ≡ true →
    (with_last_object (grouped_with first b others).objects (grouped_with first b others).commands placed).commands
    ≡ with_object (grouped_with first b others).commands placed.dss
command_first first placed true others is = refl
command_first first placed false others is = absurd (both_ways false refl is)

push_by : (begun : List Placed) (placed : Placed) (b : Bool) → is_request placed.dss.kind ≡ b → AreLinked true none_before begun →
    IsNext (last_of none_before begun) placed.dss → commands_of (begun ++ placed ∷ []) ≡ with_dss (commands_of begun) placed
push_by begun placed true is linked next =
    ap (λ (g : Grouped). g.commands) (request_push begun placed is)
    ∙ sym (cond-true (is_request placed.dss.kind) (commands_of begun ++ command_of placed ∷ []) (with_object (commands_of begun) placed.dss) is)
push_by [] placed false isnt linked next = absurd (both_ways (is_request placed.dss.kind) isnt (first_is_request placed next))
push_by (first ∷ others) placed false isnt linked next =
    ap (λ (g : Grouped). g.commands) (object_push (first ∷ others) placed isnt)
    ∙ command_first first placed (is_request first.dss.kind) (grouped others) (first_is_request first linked.1)
    ∙ sym (cond-false (is_request placed.dss.kind) (commands_of (first ∷ others) ++ command_of placed ∷ [])
    (with_object (commands_of (first ∷ others)) placed.dss) isnt)

pub commands_push : (begun : List Placed) (placed : Placed) → AreLinked true none_before begun → IsNext (last_of none_before begun) placed.dss →
    commands_of (begun ++ placed ∷ []) ≡ with_dss (commands_of begun) placed
commands_push begun placed linked next = push_by begun placed (is_request placed.dss.kind) refl linked next

-- ---- how many

object_keeps : (commands : List Command) (d : Dss) → length (with_object commands d) ≡ length commands
object_keeps [] d = refl
object_keeps (command ∷ []) d = refl
object_keeps (command ∷ next ∷ commands) d = ap suc (object_keeps (next ∷ commands) d)

count_by : (commands : List Command) (placed : Placed) (b : Bool) → is_request placed.dss.kind ≡ b → length commands ≤ most_commands →
    (is_request placed.dss.kind ≡ true → length commands < most_commands) → length (with_dss commands placed) ≤ most_commands
count_by commands placed true is small room = rw is (omega (arith, room is, length-append commands (command_of placed ∷ [])))
count_by commands placed false isnt small room = rw isnt (omega (arith, small, object_keeps commands placed.dss))

count_both : (first : Placed) (b : Bool) (some all : Grouped) → length some.commands ≤ length all.commands →
    length (grouped_with first b some).commands ≤ length (grouped_with first b all).commands
count_both first true some all fewer = omega (arith, fewer)
count_both first false some all fewer = fewer

-- those of the DSSs in front are no more
count_front : (begun others : List Placed) → length (commands_of begun) ≤ length (commands_of (begun ++ others))
count_front [] others = omega arith
count_front (first ∷ begun) others =
    count_both first (is_request first.dss.kind) (grouped begun) (grouped (begun ++ others)) (count_front begun others)

-- ---- one more

pub front_push : (goes_on : Bool) (begun : List Placed) (placed : Placed) → IsFront true begun → GoesOn begun placed → placed.dss.chained ≡ goes_on →
    IsFront goes_on (begun ++ placed ∷ [])
front_push goes_on begun placed front on is = record {
  linked = link_push goes_on none_before begun placed front.linked on.next is;
  bodies = all_push HasSoundBody begun placed front.bodies on.sound;
  count =
      omega (
        arith,
        ap length (commands_push begun placed front.linked on.next),
        count_by (commands_of begun) placed (is_request placed.dss.kind) refl front.count on.room,
      );
}

-- ---- each of them

sound_front : (begun others : List Placed) → AllByRecursion HasSoundBody (begun ++ others) → AllByRecursion HasSoundBody begun
sound_front [] others all = tt
sound_front (first ∷ begun) others all = (all.0, sound_front begun others all.1)

sound_behind : (begun others : List Placed) → AllByRecursion HasSoundBody (begun ++ others) → AllByRecursion HasSoundBody others
sound_behind [] others all = all
sound_behind (first ∷ begun) others all = sound_behind begun others all.1

-- a DSS within those that begin a chain
pub record IsWithin (goes_on : Bool) (begun : List Placed) (placed : Placed) (others : List Placed) : Type 0 where
  pub front : IsFront true begun
  pub on : GoesOn begun placed
  pub rest : AreLinked goes_on placed.dss others

pub front_split : (goes_on : Bool) (begun : List Placed) (placed : Placed) (others : List Placed) → IsFront goes_on (begun ++ placed ∷ others) →
    IsWithin goes_on begun placed others
front_split goes_on begun placed others front =
    let link = link_split goes_on none_before begun placed others front.linked in
    let all = count_front begun (placed ∷ others) in
    let more = count_front (begun ++ placed ∷ []) others in
    let same = ap (λ (ps : List Placed). length (commands_of ps)) (append_assoc begun (placed ∷ []) others) in
    let grows = ap length (commands_push begun placed link.front link.next) in
    record {
      front = record {
        linked = link.front;
        bodies = sound_front begun (placed ∷ others) front.bodies;
        count = omega (arith, all, front.count);
      };
      on = record {
        next = link.next;
        room = λ is.
            let one = ap length (cond-true (is_request placed.dss.kind) (commands_of begun ++ command_of placed ∷ [])
            (with_object (commands_of begun) placed.dss) is) in
            omega (arith, more, same, grows, one, length-append (commands_of begun) (command_of placed ∷ []), front.count);
        sound = (sound_behind begun (placed ∷ others) front.bodies).0;
      };
      rest = link.rest;
    }
