-- What a worker makes of its door, link by link.
use Rattle.std.proofs.Common.{◌≡◌, ◌∙◌, ap, sym, refl, subst, ℕ, ◌+◌, ◌<◌, ◌≤◌, min, Bool, true, false, List, [], ◌∷◌, ◌++◌, length, if◌then◌else◌, Option, Some, option_map, arith}
use Rattle.std.specs.Prelude.{IfSome}
use Rattle.std.proofs.lemmas.Bool.{lt-ltb}
use Rattle.std.proofs.lemmas.List.{append-nil, append_assoc, length-append}
use Rattle.std.proofs.lemmas.List.Elements.{All-push, All-nil}
use Rattle.link_ends.specs.Counts.{greatest, one_more}
use Rattle.link_ends.specs.Doors.{DoorState, with_one_more, after_back}
use Rattle.member_server.specs.Doors.{CameSince, after_failing}
use Rattle.gateway_workers.specs.Doors.{HasWorked, HandsBack, CameBack, after_giving}

-- no link was served yet
pub works_none : {B : Type 0} (P : B → Type 0) (door : DoorState B) → HasWorked P door door 0 false false
works_none P door =
    record {
      given = λ _. omega arith;
      faults = refl;
      came = λ _ came is within below. record { values = []; came = is ∙ ap Some (sym (append-nil came)); count = omega arith; each = All-nil P };
    }

-- a call of the door failed
pub works_no_more : {B : Type 0} (P : B → Type 0) (old now new : DoorState B) (sessions : ℕ) →
    HasWorked P old now sessions false false → new ≡ after_failing now → HasWorked P old new sessions true false
works_no_more {B} P old now new sessions worked is =
    let failed : HasWorked P old (after_failing now) sessions true false =
    record { given = worked.given; faults = ap one_more worked.faults; came = worked.came } in
    subst (λ (door : DoorState B). HasWorked P old door sessions true false) (sym is) failed

-- one value more came back, where fewer had come back than links were given
comes_back : {B : Type 0} (P : B → Type 0) (given now : ℕ) (came : List B) (came_now : Option (List B)) (value : B) →
    P value → now < greatest → CameSince P given came now came_now →
    length came ≤ given →
    CameSince P given came (one_more now) (option_map (with_one_more (one_more now) value) came_now)
comes_back {B} P given now came came_now value holds below since within =
    let fewer : length (came ++ since.values) < one_more now = omega (arith, length-append came since.values, since.count) in
    let kept : with_one_more (one_more now) value (came ++ since.values) ≡ (came ++ since.values) ++ value ∷ [] =
    ap (λ b. if b then (came ++ since.values) ++ value ∷ [] else came ++ since.values) (lt-ltb (length (came ++ since.values)) (one_more now) fewer) in
    record {
      values = since.values ++ value ∷ [];
      came = ap (option_map (with_one_more (one_more now) value)) since.came ∙ ap Some (kept ∙ append_assoc came since.values (value ∷ []));
      count = omega (arith, length-append since.values (value ∷ []), since.count);
      each = All-push P since.values value since.each holds;
    }

-- it comes back to a door that gave one link more
back_more : {B : Type 0} (P : B → Type 0) (old now new : DoorState B) (value : B) → P value → CameBack P old now
    → new ≡ after_back value (after_giving now) → CameBack P old new
back_more {B} P old now new value holds back is =
    let served : CameBack P old (after_back value (after_giving now)) =
    λ came told within below.
    comes_back P old.given now.given came now.came value holds (omega (arith, below)) (back came told within (omega (arith, below))) within in
    subst (λ (door : DoorState B). CameBack P old door) (sym is) served

-- what came of the last link came back
pub hands_back : {B : Type 0} (P : B → Type 0) (old new : DoorState B) (done : Option B) (value : B) (refused : Bool) → done ≡ Some value
    → IfSome done P → new ≡ after_back value old → HandsBack P old new refused
hands_back {B} P old new done value refused some holds is =
    record {
      given = ap (λ (door : DoorState B). door.given) is;
      faults = ap (λ (door : DoorState B). door.faults) is;
      came = λ found. (value, subst (λ (one : Option B). IfSome one P) some holds, is);
    }

-- one link more was served
pub works_more : {B : Type 0} (P : B → Type 0) (old now given new : DoorState B) (sessions more : ℕ) (refused : Bool) →
    HasWorked P old now sessions false false → given ≡ after_giving now → HandsBack P given new refused → more ≡ min (sessions + 1) greatest
    → HasWorked P old new more false refused
works_more {B} P old now given new sessions more refused worked gives hands counted =
    let count : new.given ≡ one_more now.given = hands.given ∙ ap (λ (door : DoorState B). door.given) gives in
    record {
      given = λ below.
          let before : now.given ≡ old.given + sessions = worked.given (omega (arith, below, count)) in omega (arith, before, below, counted, count);
      faults = hands.faults ∙ (ap (λ (door : DoorState B). door.faults) gives ∙ worked.faults);
      came = λ found.
          let h = hands.came found in
          back_more P old now new h.0 h.1 (worked.came refl) (h.2 ∙ ap (after_back h.0) gives);
    }
