-- What the workers of a member made of their doors, put together.
use Rattle.std.proofs.Common.{◌≡◌, ◌∙◌, ap, sym, refl, subst, ℕ, suc, ◌+◌, ◌<◌, ◌≤◌, min, Bool, true, false, List, [], ◌∷◌, Some, length, map, take, get_or, ◌||◌, cond, inl, inr, ⊎_elim, ◌⊎◌, arith}
use Rattle.std.specs.Prelude.{slice_index_or}
use Rattle.std.specs.List.{All, sum_by, list_any}
use Rattle.std.proofs.lemmas.Bool.{or_cases}
use Rattle.std.proofs.lemmas.List.{take_more, take_all}
use Rattle.std.proofs.lemmas.List.Folds.{list_any_more}
use Rattle.std.proofs.lemmas.List.Elements.{All-nil, All-cons, All-head, All-tail}
use Rattle.std.proofs.lemmas.List.Sums.{sum_by-cons, sum_by_push}
use Rattle.link_ends.specs.Counts.{greatest, one_more, Rose}
use Rattle.link_ends.specs.Doors.{DoorState}
use Rattle.link_ends.specs.Sink.{SinkState}
use Rattle.program_ends.specs.Ends.{BrokeOff, NoWriteFailed}
use Rattle.program_ends.proofs.Commanding.{write_failed}
use Rattle.server_words.specs.Member.{Membership}
use Rattle.member_server.specs.declared.workers.Worked.{Worked}
use Rattle.member_server.specs.Doors.{Work, AreWorks, HasWorked}
use Rattle.drda_gateway.specs.Member.{said_for, member_text, WereServed, Told, ToldAsSaid, DoorFailed, FaultsRose}

-- ---- sums of what was counted, up to the greatest value

-- the sum of one element more
pub sum_more : {X : Type 0} (f : X → ℕ) (xs : List X) (i sum more : ℕ) (x : X) → i < length xs → x ≡ get_or xs i x →
    sum ≡ min (sum_by f (take i xs)) greatest → more ≡ min (sum + f x) greatest → more ≡ min (sum_by f (take (i + 1) xs)) greatest
sum_more f xs i sum more x within is before after =
    let front : sum_by f (take (i + 1) xs) ≡ sum_by f (take i xs) + f x =
    ap (λ ys. sum_by f ys) (take_more xs i x within) ∙ sum_by_push f (take i xs) (get_or xs i x) ∙ ap (λ y. sum_by f (take i xs) + f y) (sym is) in
    omega (arith, front, before, after)

pub sum_whole : {X : Type 0} (f : X → ℕ) (xs : List X) (i sum : ℕ) → length xs ≤ i → sum ≡ min (sum_by f (take i xs)) greatest →
    sum ≡ min (sum_by f xs) greatest
sum_whole f xs i sum past is = is ∙ ap (λ ys. min (sum_by f ys) greatest) (take_all i xs past)

-- whether one of one element more
pub any_more : {X : Type 0} (p : X → Bool) (xs : List X) (i : ℕ) (some : Bool) (x : X) → i < length xs → x ≡ get_or xs i x →
    some ≡ list_any p (take i xs) → (some || p x) ≡ list_any p (take (i + 1) xs)
any_more p xs i some x within is before =
    ap (λ b. b || p x) before ∙ ap (λ y. list_any p (take i xs) || p y) is ∙ sym (list_any_more p xs i x within)

pub any_whole : {X : Type 0} (p : X → Bool) (xs : List X) (i : ℕ) (some : Bool) → length xs ≤ i → some ≡ list_any p (take i xs) → some ≡ list_any p xs
any_whole p xs i some past is = is ∙ ap (λ ys. list_any p ys) (take_all i xs past)

-- ---- doors and what their workers tell

module _ {D B : Type 0} (P : B → Type 0) (state : D → DoorState B) where
  -- what each worker tells is so
  abbrev pub AreSo : List D → List (Worked D) → Type 0
  AreSo doors worked =
      (i : ℕ) (door : D) (one : Worked D) → i < length doors →
      HasWorked P (state (slice_index_or doors i door)) (state (slice_index_or worked i one).door) (slice_index_or worked i one).sessions
      (slice_index_or worked i one).failed

  pub record Pairs (doors : List D) (worked : List (Worked D)) : Type 0 where
    pub works : List (Work B)
    pub are : AreWorks P (map state doors) (map (λ (one : Worked D). state one.door) worked) works
    pub sum : sum_by (λ (work : Work B). work.sessions) works ≡ sum_by (λ (one : Worked D). one.sessions) worked
    pub fails : list_any (λ (work : Work B). work.failed) works ≡ list_any (λ (one : Worked D). one.failed) worked

  pub pairs : (doors : List D) (worked : List (Worked D)) → length worked ≡ length doors → AreSo doors worked → Pairs doors worked
  pairs [] [] same so =
      record {
        works = [];
        are = record { old = refl; new = refl; each = All-nil (λ (work : Work B). HasWorked P work.before work.now work.sessions work.failed) };
        sum = refl;
        fails = refl;
      }
  pairs [] (one ∷ worked) same so = absurd (omega (arith, same))
  pairs (door ∷ doors) [] same so = absurd (omega (arith, same))
  pairs (door ∷ doors) (one ∷ worked) same so =
      let rest : Pairs doors worked = pairs doors worked (omega (arith, same)) (λ i d o within. so (suc i) d o (omega (arith, within))) in
      let first : HasWorked P (state door) (state one.door) one.sessions one.failed = so 0 door one (omega arith) in
      let work : Work B = record { before = state door; now = state one.door; sessions = one.sessions; failed = one.failed } in
      record {
        works = work ∷ rest.works;
        are =
            record {
              old = ap (λ (ds : List (DoorState B)). state door ∷ ds) rest.are.old;
              new = ap (λ (ds : List (DoorState B)). state one.door ∷ ds) rest.are.new;
              each =
                  All-cons (λ (w : Work B). HasWorked P w.before w.now w.sessions w.failed) work rest.works first
                  rest.are.each;
            };
        sum =
            sum_by-cons (λ (w : Work B). w.sessions) work rest.works ∙ ap (λ n. one.sessions + n) rest.sum
            ∙ sym (sum_by-cons (λ (o : Worked D). o.sessions) one worked);
        fails = ap (λ b. one.failed || b) rest.fails;
      }

  both : (worked : List (Worked D)) → map state (map (λ (one : Worked D). one.door) worked) ≡ map (λ (one : Worked D). state one.door) worked
  both [] = refl
  both (one ∷ worked) = ap (λ (ds : List (DoorState B)). state one.door ∷ ds) (both worked)

  -- the doors that were put back, and what was counted
  pub were_served : (doors back : List D) (worked : List (Worked D)) (failed : Bool) → length worked ≡ length doors → AreSo doors worked →
      back ≡ map (λ (one : Worked D). one.door) worked → failed ≡ list_any (λ (one : Worked D). one.failed) worked →
      WereServed P (sum_by (λ (one : Worked D). one.sessions) worked) failed (map state doors) (map state back)
  were_served doors back worked failed same so put fails =
      let of : Pairs doors worked = pairs doors worked same so in
      record {
        works = of.works;
        are = record { old = of.are.old; new = of.are.new ∙ sym (ap (λ (ds : List D). map state ds) put ∙ both worked); each = of.are.each };
        sum = of.sum;
        fails = of.fails ∙ sym fails;
      }

-- ---- a count of faults that rose

rose : (before now : ℕ) (failed : Bool) → now ≡ cond failed (one_more before) before → failed ≡ true → Rose before now
rose before now failed is fails =
    let risen : now ≡ one_more before = is ∙ ap (λ b. cond b (one_more before) before) fails in
    record { reached = omega (arith, risen) }

rises : {B : Type 0} (P : B → Type 0) (works : List (Work B)) →
    All (λ (work : Work B). HasWorked P work.before work.now work.sessions work.failed) works →
    list_any (λ (work : Work B). work.failed) works ≡ true →
    FaultsRose (map (λ (work : Work B). work.before) works) (map (λ (work : Work B). work.now) works)
rises P [] each some = absurd (cc)
rises {B} P (work ∷ works) each some =
    let So : Work B → Type 0 = λ (w : Work B). HasWorked P w.before w.now w.sessions w.failed in
    ⊎_elim (λ failed. inl (rose work.before.faults work.now.faults work.failed (All-head So work works each).faults failed))
    (λ later. inr (rises P works (All-tail So work works each) later)) (or_cases work.failed (list_any (λ (w : Work B). w.failed) works) some)

-- where a call of a door failed, its count of faults rose
pub fault_rose : {B : Type 0} (P : B → Type 0) (doors doors_now : List (DoorState B)) → DoorFailed P doors doors_now → FaultsRose doors doors_now
fault_rose {B} P doors doors_now failed =
    let are = failed.served.are in
    let works = failed.served.works in
    let risen = rises P works are.each failed.served.fails in
    let first : FaultsRose doors (map (λ (work : Work B). work.now) works) =
    subst (λ (ds : List (DoorState B)). FaultsRose ds (map (λ (work : Work B). work.now) works)) are.old risen in
    subst (λ (ds : List (DoorState B)). FaultsRose doors ds) are.new first

-- ---- what is told

pub as_said : {B : Type 0} (Wrote : SinkState → SinkState → List ℕ → Type 0) (P : B → Type 0) (words : List (List ℕ)) (count : ℕ) (said : Membership)
    (doors doors_now : List (DoorState B)) (sink sink_now : SinkState) → Some said ≡ said_for words count → count ≡ length doors →
    Told Wrote P said.options.sessions doors doors_now sink sink_now → ToldAsSaid Wrote P words doors doors_now sink sink_now
as_said Wrote P words count said doors doors_now sink sink_now says is of =
    record { said = said; says = sym (says ∙ ap (λ n. said_for words n) is); told = of }

-- where no count of faults rose, all is told, or memory ran out
pub all_told : {B : Type 0} (P : B → Type 0) (status sessions : ℕ) (doors doors_now : List (DoorState B)) (sink sink_now : SinkState) →
    (status ≡ 0) ⊎ ((status ≡ 3) ⊎ ((status ≡ 4) ⊎ (status ≡ 5))) → (status ≡ 3 → DoorFailed P doors doors_now) →
    (status ≡ 4 → Told BrokeOff P sessions doors doors_now sink sink_now) → (FaultsRose doors doors_now → ⊥) → NoWriteFailed sink sink_now →
    (status ≡ 0) ⊎ (status ≡ 5)
all_told P status sessions doors doors_now sink sink_now is door_fault sink_fault no_fault no_write =
    ⊎_elim (λ done. inl done) (λ (other : (status ≡ 3) ⊎ ((status ≡ 4) ⊎ (status ≡ 5))).
    ⊎_elim (λ (three : status ≡ 3). absurd (no_fault (fault_rose P doors doors_now (door_fault three)))) (λ (rest : (status ≡ 4) ⊎ (status ≡ 5)).
    ⊎_elim (λ (four : status ≡ 4).
    let begun = sink_fault four in
    absurd (write_failed sink sink_now (member_text sessions begun.commits) begun.wrote no_write)) (λ five. inr five) rest) other) is
