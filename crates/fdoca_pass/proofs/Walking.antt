-- A walk over triplets: what each step leaves to read.
use Rattle.std.proofs.Common.{◌≡◌, ℕ, ◌+◌, ◌≤◌, List, [], ◌∷◌, length, Option, Some, None, Result, Ok, Err, refl, sym, ap, ◌∙◌, arith}
use Rattle.fdoca_pass.specs.declared.fault.TripletFault.{TripletFault}
use Rattle.fdoca_pass.specs.declared.triplet.Triplet.{Triplet}
use Rattle.fdoca_pass.specs.Triplets.{Described, Found, Triplets, Scan, no_triplets, with_first, past, triplet_at, triplets_from, triplets_within, triplet_in}
use Rattle.fdoca_pass.specs.Triplets.{next_of, past_triplet, after_next}
use Rattle.fdoca_pass.specs.Seen.{seen, seen_result}
use Rattle.fdoca_pass.proofs.Reading.{found_size, triplets_step}

-- the triplets that a walk has before it
abbrev pub triplets_left : Scan → Triplets
triplets_left scan = triplets_from scan.at scan.left

-- what one triplet of a walk makes of it
pub record Steps (scan : Scan) (triplet : Described) : Type 0 where
  pub triplets : triplets_left scan
      ≡ record { triplets = triplet ∷ (triplets_left (after_next scan)).triplets; fault = (triplets_left (after_next scan)).fault }
  pub smaller : (2 + length triplet.bytes) + length (after_next scan).left ≤ length scan.left

abbrev next_is : Result Described TripletFault → Option (Result Described TripletFault)
next_is r = Some r

abbrev found_is : Described → Result Described TripletFault
found_is triplet = Ok triplet

same_triplet : (a b : Described) → next_is (found_is a) ≡ next_is (found_is b) → a ≡ b
same_triplet a b e = cc

steps_with : (place b : ℕ) (bytes : List ℕ) (triplet : Described) (r : Result Found TripletFault) → triplet_at place (b ∷ bytes) ≡ r →
    next_is (found_is triplet) ≡ next_is (triplet_in r) → Steps (record { at = place; left = b ∷ bytes }) triplet
steps_with place b bytes triplet (Ok found) is e =
    let scan : Scan = record { at = place; left = b ∷ bytes } in
    let same = same_triplet triplet found.triplet e in
    let after : after_next scan ≡ past_triplet place (b ∷ bytes) (Ok found) = ap (past_triplet place (b ∷ bytes)) is in
    let triplets : triplets_left scan ≡ record {
      triplets = found.triplet ∷ (triplets_left (past_triplet place (b ∷ bytes) (Ok found))).triplets;
      fault = (triplets_left (past_triplet place (b ∷ bytes) (Ok found))).fault;
    } = triplets_step place b bytes
    ∙ ap (λ (r : Result Found TripletFault). with_first r (λ f. triplets_from (past place (b ∷ bytes) f) f.rest)) is in
    let size = found_size place (b ∷ bytes) found is in
    record {
      triplets = triplets
          ∙ ap (λ (s : Scan). record { triplets = found.triplet ∷ (triplets_left s).triplets; fault = (triplets_left s).fault }) (sym after)
          ∙ ap (λ (m : Described).
          record { triplets = m ∷ (triplets_left (after_next scan)).triplets; fault = (triplets_left (after_next scan)).fault }) (sym same);
      smaller = omega (arith, ap (λ (m : Described). length m.bytes) same, ap (λ (s : Scan). length s.left) after, size);
    }
steps_with place b bytes triplet (Err fault) is e = absurd cc

steps_at : (place : ℕ) (left : List ℕ) (triplet : Described) → next_is (found_is triplet) ≡ next_of (record { at = place; left = left }) →
    Steps (record { at = place; left = left }) triplet
steps_at place [] triplet e = absurd cc
steps_at place (b ∷ bytes) triplet e = steps_with place b bytes triplet (triplet_at place (b ∷ bytes)) refl e

pub steps : (scan : Scan) (triplet : Described) → Some (Ok triplet) ≡ next_of scan → Steps scan triplet
steps scan triplet e = steps_at scan.at scan.left triplet e

stops_with : (place b : ℕ) (bytes : List ℕ) (fault : TripletFault) (r : Result Found TripletFault) → triplet_at place (b ∷ bytes) ≡ r →
    next_is (Err fault) ≡ next_is (triplet_in r) → triplets_from place (b ∷ bytes) ≡ record { triplets = []; fault = Some fault }
stops_with place b bytes fault (Ok found) is e = absurd cc
stops_with place b bytes fault (Err d) is e =
    let same : d ≡ fault = cc in
    triplets_step place b bytes
    ∙ ap (λ (r : Result Found TripletFault). with_first r (λ f. triplets_from (past place (b ∷ bytes) f) f.rest)) is
    ∙ ap (λ (x : TripletFault). record { triplets = []; fault = Some x }) same

stops_at : (place : ℕ) (left : List ℕ) (fault : TripletFault) → next_is (Err fault) ≡ next_of (record { at = place; left = left }) →
    triplets_from place left ≡ record { triplets = []; fault = Some fault }
stops_at place [] fault e = absurd cc
stops_at place (b ∷ bytes) fault e = stops_with place b bytes fault (triplet_at place (b ∷ bytes)) refl e

-- a fault that a walk meets ends it
pub stops : (scan : Scan) (fault : TripletFault) → Some (Err fault) ≡ next_of scan → triplets_left scan ≡ record { triplets = []; fault = Some fault }
stops scan fault e = stops_at scan.at scan.left fault e

ends_at : (place : ℕ) (left : List ℕ) → None ≡ next_of (record { at = place; left = left }) → triplets_from place left ≡ no_triplets
unfolding triplets_within
ends_at place [] e = refl
ends_at place (b ∷ bytes) e = absurd cc

-- at the end there are no triplets
pub ends : (scan : Scan) → None ≡ next_of scan → triplets_left scan ≡ no_triplets
ends scan e = ends_at scan.at scan.left e

-- the answer of a walk where a triplet was read
pub is_next : (scan : Scan) (next : Result Triplet TripletFault) (triplet : Triplet) → next ≡ Ok triplet → Some (seen_result next) ≡ next_of scan →
    Some (Ok (seen triplet)) ≡ next_of scan
is_next scan next triplet is e = ap (λ (r : Result Triplet TripletFault). Some (seen_result r)) (sym is) ∙ e

-- and where a fault was
pub is_fault : (scan : Scan) (next : Result Triplet TripletFault) (fault : TripletFault) → next ≡ Err fault → Some (seen_result next) ≡ next_of scan →
    Some (Err fault) ≡ next_of scan
is_fault scan next fault is e = ap (λ (r : Result Triplet TripletFault). Some (seen_result r)) (sym is) ∙ e
