-- What a worker makes of its door, link by link.
use Rattle.std.proofs.Common.{◌≡◌, ◌∙◌, ap, sym, refl, subst, ℕ, ◌+◌, ◌<◌, ◌≤◌, min, true, false, List, [], ◌∷◌, ◌++◌, length, if◌then◌else◌, Option, Some, option_map, arith}
use Rattle.std.specs.Prelude.{nat_lt}
use Rattle.std.specs.List.{All}
use Rattle.std.proofs.lemmas.Bool.{lt-ltb}
use Rattle.std.proofs.lemmas.List.{append-nil, append_assoc, length-append}
use Rattle.std.proofs.lemmas.List.Elements.{All-push, All-nil}
use Rattle.link_ends.specs.Counts.{greatest, one_more}
use Rattle.link_ends.specs.Doors.{DoorState, with_one_more}
use Rattle.member_server.specs.Doors.{HasWorked, CameSince, after_failing, after_serving}

-- no link was served yet
pub works_none : {B : Type 0} (P : B → Type 0) (door : DoorState B) → HasWorked P door door 0 false
works_none P door =
    record {
      given = λ _. omega arith;
      faults = refl;
      came = λ came is within below. record { values = []; came = is ∙ ap Some (sym (append-nil came)); count = omega arith; each = All-nil P };
    }

-- a call of the door failed
pub works_no_more : {B : Type 0} (P : B → Type 0) (old now new : DoorState B) (sessions : ℕ) →
    HasWorked P old now sessions false → new ≡ after_failing now → HasWorked P old new sessions true
works_no_more {B} P old now new sessions worked is =
    let failed : HasWorked P old (after_failing now) sessions true =
    record { given = worked.given; faults = ap one_more worked.faults; came = worked.came } in
    subst (λ (door : DoorState B). HasWorked P old door sessions true) (sym is) failed

-- one value more came back, where fewer had come back than links were given
comes_back : {B : Type 0} (P : B → Type 0) (given now : ℕ) (came : List B) (came_now : Option (List B)) (link : B) →
    P link → now < greatest → CameSince P given came now came_now →
    length came ≤ given →
    CameSince P given came (one_more now) (option_map (with_one_more (one_more now) link) came_now)
comes_back {B} P given now came came_now link holds below since within =
    let fewer : length (came ++ since.values) < one_more now = omega (arith, length-append came since.values, since.count) in
    let kept : with_one_more (one_more now) link (came ++ since.values) ≡ (came ++ since.values) ++ link ∷ [] =
    ap (λ b. if b then (came ++ since.values) ++ link ∷ [] else came ++ since.values) (lt-ltb (length (came ++ since.values)) (one_more now) fewer) in
    record {
      values = since.values ++ link ∷ [];
      came = ap (option_map (with_one_more (one_more now) link)) since.came ∙ ap Some (kept ∙ append_assoc came since.values (link ∷ []));
      count = omega (arith, length-append since.values (link ∷ []), since.count);
      each = All-push P since.values link since.each holds;
    }

-- one link more was served
pub works_more : {B : Type 0} (P : B → Type 0) (old now new : DoorState B) (sessions more : ℕ) (link : B) →
    HasWorked P old now sessions false → P link → new ≡ after_serving link now → more ≡ min (sessions + 1) greatest → HasWorked P old new more false
works_more {B} P old now new sessions more link worked holds is counted =
    let served : HasWorked P old (after_serving link now) more false =
    record {
      given = λ below. let before : now.given ≡ old.given + sessions = worked.given (omega (arith, below)) in omega (arith, before, below, counted);
      faults = worked.faults;
      came = λ came told within below.
          comes_back P old.given now.given came now.came link holds (omega (arith, below)) (worked.came came told within (omega (arith, below))) within;
    } in
    subst (λ (door : DoorState B). HasWorked P old door more false) (sym is) served
