-- What all workers did, put together.
use Rattle.std.proofs.Common.{◌≡◌, ◌∙◌, ap, sym, refl, ℕ, suc, ◌+◌, ◌<◌, ◌||◌, List, [], ◌∷◌, ◌++◌, length, map, arith, subst}
use Rattle.std.specs.Prelude.{slice_index_or}
use Rattle.std.specs.List.{All, sum_by, list_any}
use Rattle.std.proofs.lemmas.List.Elements.{All-nil, All-cons, All-push}
use Rattle.std.proofs.lemmas.List.Sums.{sum_by-cons}
use Rattle.link_ends.specs.Doors.{DoorState}
use Rattle.gateway_workers.specs.Dials.{HasDialled}
use Rattle.gateway_workers.specs.declared.jobs.Job.{Job}
use Rattle.gateway_workers.specs.declared.jobs.Worked.{Worked}
use Rattle.gateway_workers.specs.declared.jobs.WorkerEnds.{WorkerEnds}
use Rattle.gateway_workers.specs.Workers.{Seen, Work, IsWork, Works, ends_in, ends_after, seen}

-- one job more, of which nothing was counted
pub none_more : {D N X Y : Type 0} (jobs jobs' : List (Job D N X Y)) (job : Job D N X Y) → jobs' ≡ jobs ++ job ∷ []
    → All (λ (one : Job D N X Y). one.dials.amount ≡ 0) jobs → job.dials.amount ≡ 0 → All (λ (one : Job D N X Y). one.dials.amount ≡ 0) jobs'
none_more {D} {N} {X} {Y} jobs jobs' job e none new =
    subst (λ (all : List (Job D N X Y)). All (λ (one : Job D N X Y). one.dials.amount ≡ 0) all) (sym e)
    (All-push (λ (one : Job D N X Y). one.dials.amount ≡ 0) jobs job none new)

pushed : {D N X Y : Type 0} (jobs : List (Job D N X Y)) (job : Job D N X Y) (rest : List (WorkerEnds D N))
    → map ends_in (jobs ++ job ∷ []) ++ rest ≡ map ends_in jobs ++ ends_in job ∷ rest
pushed [] job rest = refl
pushed {D} {N} (one ∷ jobs) job rest = ap (λ (ends : List (WorkerEnds D N)). ends_in one ∷ ends) (pushed jobs job rest)

-- the ends of one worker more have a job
pub ends_more : {D N X Y : Type 0} (jobs jobs' : List (Job D N X Y)) (job : Job D N X Y) (one : WorkerEnds D N) (rest rest' all : List (WorkerEnds D N))
    → jobs' ≡ jobs ++ job ∷ [] → ends_in job ≡ one → rest ≡ one ∷ rest' → map ends_in jobs ++ rest ≡ all → map ends_in jobs' ++ rest' ≡ all
ends_more {D} {N} {X} {Y} jobs jobs' job one rest rest' all e of first is =
    ap (λ (some : List (Job D N X Y)). map ends_in some ++ rest') e ∙ pushed jobs job rest'
    ∙ ap (λ (begun : WorkerEnds D N). map ends_in jobs ++ begun ∷ rest') of ∙ ap (λ (ends : List (WorkerEnds D N)). map ends_in jobs ++ ends) (sym first)
    ∙ is

module _ {B D N X Y : Type 0} (P : B → Type 0) (door : D → DoorState B) (calls : N → ℕ) where
  -- what each worker tells is so
  abbrev pub AreSo : List (Job D N X Y) → List (Worked D N X Y) → Type 0
  AreSo jobs worked =
      (i : ℕ) (job : Job D N X Y) (one : Worked D N X Y) → i < length jobs →
      Works door calls P (slice_index_or jobs i job) (slice_index_or worked i one)

  -- nothing was counted before
  abbrev pub AreNew : List (Job D N X Y) → Type 0
  AreNew jobs = All (λ (job : Job D N X Y). job.dials.amount ≡ 0) jobs

  pub record Pairs (jobs : List (Job D N X Y)) (worked : List (Worked D N X Y)) : Type 0 where
    pub works : List (Work B)
    pub before : map (λ (work : Work B). work.before) works ≡ map (λ (job : Job D N X Y). seen door calls (ends_in job)) jobs
    pub now : map (λ (work : Work B). work.now) works ≡ map (λ (one : Worked D N X Y). seen door calls (ends_after one)) worked
    pub each : All (IsWork P) works
    pub sessions : sum_by (λ (work : Work B). work.sessions) works ≡ sum_by (λ (one : Worked D N X Y). one.sessions) worked
    pub dials : sum_by (λ (work : Work B). work.dials) works ≡ sum_by (λ (one : Worked D N X Y). one.job.dials.amount) worked
    pub fails : list_any (λ (work : Work B). work.failed) works ≡ list_any (λ (one : Worked D N X Y). one.failed) worked
    pub refuses : list_any (λ (work : Work B). work.refused) works ≡ list_any (λ (one : Worked D N X Y). one.refused) worked

  pub pairs : (jobs : List (Job D N X Y)) (worked : List (Worked D N X Y)) → length worked ≡ length jobs → AreSo jobs worked → AreNew jobs
      → Pairs jobs worked
  pairs [] [] same so new =
      record { works = []; before = refl; now = refl; each = All-nil (IsWork P); sessions = refl; dials = refl; fails = refl; refuses = refl }
  pairs [] (one ∷ worked) same so new = absurd (omega (arith, same))
  pairs (job ∷ jobs) [] same so new = absurd (omega (arith, same))
  pairs (job ∷ jobs) (one ∷ worked) same so new =
      let rest : Pairs jobs worked =
      pairs jobs worked (omega (arith, same)) (λ i j o within. so (suc i) j o (omega (arith, within))) (λ i j within. new (suc i) j (omega (arith, within))) in
      let first : Works door calls P job one = so 0 job one (omega arith) in
      let none : job.dials.amount ≡ 0 = new 0 job (omega arith) in
      let work : Work B =
      record {
        before = seen door calls (ends_in job);
        now = seen door calls (ends_after one);
        sessions = one.sessions;
        dials = one.job.dials.amount;
        failed = one.failed;
        refused = one.refused;
      } in
      let is : IsWork P work =
      record {
        door = first.door;
        dial = subst (λ n. HasDialled (calls job.dial) n (calls one.job.dial) one.job.dials.amount one.refused) none first.dial;
      } in
      record {
        works = work ∷ rest.works;
        before = ap (λ (xs : List (Seen B)). seen door calls (ends_in job) ∷ xs) rest.before;
        now = ap (λ (xs : List (Seen B)). seen door calls (ends_after one) ∷ xs) rest.now;
        each = All-cons (IsWork P) work rest.works is rest.each;
        sessions =
            sum_by-cons (λ (w : Work B). w.sessions) work rest.works ∙ ap (λ n. one.sessions + n) rest.sessions
            ∙ sym (sum_by-cons (λ (o : Worked D N X Y). o.sessions) one worked);
        dials =
            sum_by-cons (λ (w : Work B). w.dials) work rest.works ∙ ap (λ n. one.job.dials.amount + n) rest.dials
            ∙ sym (sum_by-cons (λ (o : Worked D N X Y). o.job.dials.amount) one worked);
        fails = ap (λ b. one.failed || b) rest.fails;
        refuses = ap (λ b. one.refused || b) rest.refuses;
      }

  -- the ends of jobs, as they are seen
  both : (jobs : List (Job D N X Y)) → map (seen door calls) (map ends_in jobs) ≡ map (λ (job : Job D N X Y). seen door calls (ends_in job)) jobs
  both [] = refl
  both (job ∷ jobs) = ap (λ (xs : List (Seen B)). seen door calls (ends_in job) ∷ xs) (both jobs)

  pub seen_in : (ends : List (WorkerEnds D N)) (jobs : List (Job D N X Y)) → map ends_in jobs ≡ ends →
      map (λ (job : Job D N X Y). seen door calls (ends_in job)) jobs ≡ map (seen door calls) ends
  seen_in ends jobs is = sym (both jobs) ∙ ap (map (seen door calls)) is

  after : (worked : List (Worked D N X Y)) →
      map (seen door calls) (map ends_after worked) ≡ map (λ (one : Worked D N X Y). seen door calls (ends_after one)) worked
  after [] = refl
  after (one ∷ worked) = ap (λ (xs : List (Seen B)). seen door calls (ends_after one) ∷ xs) (after worked)

  pub seen_after : (ends : List (WorkerEnds D N)) (worked : List (Worked D N X Y)) → ends ≡ map ends_after worked →
      map (λ (one : Worked D N X Y). seen door calls (ends_after one)) worked ≡ map (seen door calls) ends
  seen_after ends worked is = sym (ap (map (seen door calls)) is ∙ after worked)
