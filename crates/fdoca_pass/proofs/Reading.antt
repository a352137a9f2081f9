-- What is read of triplets: how it is spelled, and where it ends.
use Rattle.std.proofs.Common.{◌≡◌, ℕ, zero, suc, ◌+◌, ◌-◌, ◌<◌, ◌≤◌, ◌⊎◌, Bool, true, false, cond, ltb, List, [], ◌∷◌, ◌++◌, length, take, drop, get_or}
use Rattle.std.proofs.Common.{Option, Some, None, Result, Ok, Err, refl, sym, ap, ◌∙◌, subst, inl, inr, arith}
use Rattle.std.specs.List.{flat_map, AllByRecursion}
use Rattle.std.proofs.lemmas.Bool.{ltb-false, ltb-true, le-ltb}
use Rattle.std.proofs.lemmas.List.{length-take, length-drop, length-append, take-append-drop, append_assoc, append-nil, take_at, drop_at}
use Rattle.std.proofs.lemmas.List.Concat.{flat_map-cons}
use Rattle.link_ends.specs.Bytes.{AreBytes}
use Rattle.link_ends.proofs.Bytes.{byte_at, AreBytes-drop}
use Rattle.fdoca_pass.specs.declared.fault.TripletFault.{TripletFault}
use Rattle.fdoca_pass.specs.declared.fault.TripletWhy.{TripletWhy}
use Rattle.fdoca_pass.specs.declared.fault.TripletWhy.TheVariants.{Short, Past}
use Rattle.fdoca_pass.specs.Triplets.{Described, Found, Triplets, HasSpelling, AreTriplets, IsFirstFault, IsWrong, spelling, fault_at, length_in, triplet_at}
use Rattle.fdoca_pass.specs.Triplets.{with_first, past, triplets_within, triplets_from, triplets_of, place_or, read_to}

-- ---- one triplet

-- a test that did not fail
guard : {A : Type 0} (b : Bool) (d : TripletFault) (x : Result A TripletFault) (y : A) → cond b (Err d) x ≡ Ok y → (b ≡ false) × (x ≡ Ok y)
guard true d x y e = absurd cc
guard false d x y e = (refl, e)

-- which way a test went
chosen : {A : Type 0} (b : Bool) (x y z : A) → cond b x y ≡ z → ((b ≡ true) × (x ≡ z)) ⊎ ((b ≡ false) × (y ≡ z))
chosen true x y z e = inl (refl, e)
chosen false x y z e = inr (refl, e)

abbrev done : Found → Result Found TripletFault
done x = Ok x

ok_is : (x y : Found) → done x ≡ done y → x ≡ y
ok_is x y e = cc

abbrev failed : TripletFault → Result Found TripletFault
failed x = Err x

err_is : (x y : TripletFault) → failed x ≡ failed y → x ≡ y
err_is x y e = cc

both : (x : Found) (y : TripletFault) → done x ≡ failed y → ⊥
both x y e = cc

-- the triplet where no test fails
abbrev pub found_in : List ℕ → Found
found_in bytes = record {
  triplet = record { kind = get_or bytes 1 0; bytes = drop 2 (take (length_in bytes) bytes) };
  rest = drop (length_in bytes) bytes;
}

pub record IsFound (bytes : List ℕ) (found : Found) : Type 0 where
  pub low : 2 ≤ length_in bytes
  pub within : length_in bytes ≤ length bytes
  pub is : found_in bytes ≡ found

pub triplet_found : (place : ℕ) (bytes : List ℕ) (found : Found) → triplet_at place bytes ≡ Ok found → IsFound bytes found
unfolding triplet_at
triplet_found place bytes found e =
    let a = guard (ltb (length_in bytes) 2) (fault_at place Short) _ found e in
    let b = guard (ltb (length bytes) (length_in bytes)) (fault_at place Past) (Ok (found_in bytes)) found a.1 in
    record { low = ltb-false _ _ a.0; within = ltb-false _ _ b.0; is = ok_is (found_in bytes) found b.1 }

-- a fault has this place, and what it says is so
pub record IsFailed (place : ℕ) (bytes : List ℕ) (fault : TripletFault) : Type 0 where
  pub there : fault.at ≡ place
  pub wrong : IsWrong fault.why bytes

wrong_is : (place : ℕ) (bytes : List ℕ) (why : TripletWhy) (fault : TripletFault) → fault_at place why ≡ fault → IsWrong why bytes →
    IsFailed place bytes fault
wrong_is place bytes why fault e wrong =
    subst (λ (f : TripletFault). IsFailed place bytes f) e (record { there = refl; wrong = wrong })

pub triplet_failed : (place : ℕ) (bytes : List ℕ) (fault : TripletFault) → triplet_at place bytes ≡ Err fault → IsFailed place bytes fault
unfolding triplet_at
triplet_failed place bytes fault e =
    elim (chosen (ltb (length_in bytes) 2) (failed (fault_at place Short)) _ _ e) [
      | inl p ↦ wrong_is place bytes Short fault (err_is _ _ p.1) (ltb-true _ _ p.0)
      | inr p ↦
          elim (chosen (ltb (length bytes) (length_in bytes)) (failed (fault_at place Past)) (done (found_in bytes)) _ p.1) [
            | inl q ↦ wrong_is place bytes Past fault (err_is _ _ q.1) (ltb-false _ _ p.0, ltb-true _ _ q.0)
            | inr q ↦ absurd (both (found_in bytes) fault q.1)
          ]
    ]

-- its spelling is what stands before the rest
spelled_from : (n kind : ℕ) (more : List ℕ) → n ≤ length more →
    spelling (record { kind = kind; bytes = take n more }) ++ drop n more ≡ (2 + n) ∷ kind ∷ more
spelled_from n kind more fits =
    let size : length (take n more) ≡ n = omega (arith, length-take n more, fits) in
    ap (λ (m : ℕ). (2 + m) ∷ kind ∷ (take n more ++ drop n more)) size ∙ ap (λ (xs : List ℕ). (2 + n) ∷ kind ∷ xs) (take-append-drop n more)

found_spelled : (bytes : List ℕ) (n : ℕ) → length_in bytes ≡ suc (suc n) → suc (suc n) ≤ length bytes →
    spelling (found_in bytes).triplet ++ (found_in bytes).rest ≡ bytes
found_spelled [] n is within = absurd (omega (arith, within))
found_spelled (x ∷ []) n is within = absurd (omega (arith, within))
found_spelled (x ∷ y ∷ more) n is within =
    let two : suc (suc n) ≡ 2 + n = omega arith in
    rw is (spelled_from n y more (omega (arith, within)) ∙ ap (λ (b : ℕ). b ∷ y ∷ more) (sym two))

pub triplet_spelled : (bytes : List ℕ) (found : Found) → IsFound bytes found → spelling found.triplet ++ found.rest ≡ bytes
triplet_spelled bytes found is =
    subst (λ (f : Found). spelling f.triplet ++ f.rest ≡ bytes) is.is
    (found_spelled bytes (length_in bytes - 2) (omega (arith, is.low)) (omega (arith, is.low, is.within)))

pub found_size : (place : ℕ) (bytes : List ℕ) (found : Found) → triplet_at place bytes ≡ Ok found →
    (2 + length found.triplet.bytes) + length found.rest ≡ length bytes
found_size place bytes found e =
    let spelled = triplet_spelled bytes found (triplet_found place bytes found e) in
    omega (arith, ap length spelled, length-append (spelling found.triplet) found.rest)

-- a triplet that is found of bytes has a spelling
found_has : (bytes : List ℕ) (found : Found) → AreBytes bytes → IsFound bytes found → HasSpelling found.triplet
found_has bytes found are is =
    subst (λ (f : Found). HasSpelling f.triplet) is.is (record {
      kind = byte_at bytes are 1;
      size = omega (arith, byte_at bytes are 0, length-drop 2 (take (length_in bytes) bytes), length-take (length_in bytes) bytes, is.low, is.within);
    })

-- what is spelled so is read, whatever follows it
pub triplet_again : (place : ℕ) (triplet : Described) (rest : List ℕ) → HasSpelling triplet →
    triplet_at place (spelling triplet ++ rest) ≡ Ok (record { triplet = triplet; rest = rest })
unfolding triplet_at
triplet_again place triplet rest has =
    let size : ℕ = 2 + length triplet.bytes in
    let bytes : List ℕ = spelling triplet ++ rest in
    let long : size ≤ length bytes = omega (arith, length-append (spelling triplet) rest) in
    let low : 2 ≤ size = omega arith in
    let same : length (spelling triplet) ≡ size = omega arith in
    rw (le-ltb size 2 low, le-ltb (length bytes) size long, take_at (spelling triplet) rest size same, drop_at (spelling triplet) rest size same) refl

-- ---- all of them

with_first_same : (r : Result Found TripletFault) (f g : Found → Triplets) → ((x : Found) → r ≡ Ok x → f x ≡ g x) → with_first r f ≡ with_first r g
with_first_same (Ok x) f g h = ap (λ (m : Triplets). record { triplets = x.triplet ∷ m.triplets; fault = m.fault }) (h x refl)
with_first_same (Err d) f g h = refl

-- as long as the count is no less than the bytes, it doesn't matter
pub triplets_same : (m n place : ℕ) (bytes : List ℕ) → length bytes ≤ m → length bytes ≤ n → triplets_within m place bytes ≡ triplets_within n place bytes
unfolding triplets_within
triplets_same zero zero place bytes p q = refl
triplets_same zero (suc n) place [] p q = refl
triplets_same zero (suc n) place (b ∷ bytes) p q = absurd (omega (arith, p))
triplets_same (suc m) zero place [] p q = refl
triplets_same (suc m) zero place (b ∷ bytes) p q = absurd (omega (arith, q))
triplets_same (suc m) (suc n) place [] p q = refl
triplets_same (suc m) (suc n) place (b ∷ bytes) p q =
    with_first_same (triplet_at place (b ∷ bytes)) _ _ (λ x e.
    let size = found_size place (b ∷ bytes) x e in
    triplets_same m n (past place (b ∷ bytes) x) x.rest (omega (arith, size, p)) (omega (arith, size, q)))

-- the triplets of bytes that aren't empty are the first and the others
pub triplets_step : (place b : ℕ) (bytes : List ℕ) →
    triplets_from place (b ∷ bytes) ≡ with_first (triplet_at place (b ∷ bytes)) (λ found. triplets_from (past place (b ∷ bytes) found) found.rest)
unfolding triplets_within
triplets_step place b bytes =
    with_first_same (triplet_at place (b ∷ bytes)) _ _ (λ x e.
    let size = found_size place (b ∷ bytes) x e in
    triplets_same (length bytes) (length x.rest) (past place (b ∷ bytes) x) x.rest (omega (arith, size)) (omega (arith, size)))

-- what is left over where reading ends, of bytes that lie at a place
abbrev pub EndsAs : ℕ → List ℕ → Option TripletFault → Type 0
EndsAs place rest None = rest ≡ []
EndsAs place rest (Some fault) = (fault.at ≡ place) × (0 < length rest) × IsWrong fault.why rest

-- the bytes are the triplets that were read, and what is left over
pub record Reads (place : ℕ) (bytes : List ℕ) (read : Triplets) : Type 0 where
  pub rest : List ℕ
  pub parts : bytes ≡ flat_map spelling read.triplets ++ rest
  pub ends : EndsAs (place + length (flat_map spelling read.triplets)) rest read.fault
  pub each : AreBytes bytes → AllByRecursion HasSpelling read.triplets

ends_later : (place further : ℕ) (rest : List ℕ) (fault : Option TripletFault) → place ≡ further → EndsAs place rest fault → EndsAs further rest fault
ends_later place further rest fault e ends = subst (λ (n : ℕ). EndsAs n rest fault) e ends

reads_first : (place b : ℕ) (bytes : List ℕ) (found : Found) (others : Triplets) → triplet_at place (b ∷ bytes) ≡ Ok found →
    Reads (past place (b ∷ bytes) found) found.rest others →
    Reads place (b ∷ bytes) (record { triplets = found.triplet ∷ others.triplets; fault = others.fault })
reads_first place b bytes found others e reads =
    let is = triplet_found place (b ∷ bytes) found e in
    let spelled = triplet_spelled (b ∷ bytes) found is in
    let size = found_size place (b ∷ bytes) found e in
    let joined : flat_map spelling (found.triplet ∷ others.triplets) ≡ spelling found.triplet ++ flat_map spelling others.triplets =
    flat_map-cons spelling found.triplet others.triplets in
    let there : past place (b ∷ bytes) found + length (flat_map spelling others.triplets) ≡
    place + length (flat_map spelling (found.triplet ∷ others.triplets)) =
    omega (arith, size, ap length joined, length-append (spelling found.triplet) (flat_map spelling others.triplets)) in
    record {
      rest = reads.rest;
      parts = sym spelled ∙ ap (λ (xs : List ℕ). spelling found.triplet ++ xs) reads.parts
          ∙ sym (append_assoc (spelling found.triplet) (flat_map spelling others.triplets) reads.rest)
          ∙ ap (λ (xs : List ℕ). xs ++ reads.rest) (sym joined);
      ends = ends_later _ _ reads.rest others.fault there reads.ends;
      each = λ are. (
        found_has (b ∷ bytes) found are is,
        reads.each (subst (λ (xs : List ℕ). AreBytes xs) (ap (λ (f : Found). f.rest) is.is) (AreBytes-drop (length_in (b ∷ bytes)) (b ∷ bytes) are)),
      );
    }

reads_with : (place b : ℕ) (bytes : List ℕ) (r : Result Found TripletFault) (others : Found → Triplets) → triplet_at place (b ∷ bytes) ≡ r →
    ((found : Found) → triplet_at place (b ∷ bytes) ≡ Ok found → Reads (past place (b ∷ bytes) found) found.rest (others found)) →
    Reads place (b ∷ bytes) (with_first r others)
reads_with place b bytes (Ok found) others e h = reads_first place b bytes found (others found) e (h found e)
reads_with place b bytes (Err fault) others e h =
    let is = triplet_failed place (b ∷ bytes) fault e in
    record { rest = b ∷ bytes; parts = refl; ends = (omega (arith, is.there), omega arith, is.wrong); each = λ are. tt }

pub reads_within : (count place : ℕ) (bytes : List ℕ) → length bytes ≤ count → Reads place bytes (triplets_within count place bytes)
unfolding triplets_within
reads_within zero place [] enough = record { rest = []; parts = refl; ends = refl; each = λ are. tt }
reads_within zero place (b ∷ bytes) enough = absurd (omega (arith, enough))
reads_within (suc count) place [] enough = record { rest = []; parts = refl; ends = refl; each = λ are. tt }
reads_within (suc count) place (b ∷ bytes) enough =
    reads_with place b bytes (triplet_at place (b ∷ bytes)) (λ found. triplets_within count (past place (b ∷ bytes) found) found.rest) refl (λ found e.
    let size = found_size place (b ∷ bytes) found e in
    reads_within count (past place (b ∷ bytes) found) found.rest (omega (arith, size, enough)))

pub reads_all : (bytes : List ℕ) → Reads 0 bytes (triplets_of bytes)
reads_all bytes = reads_within (length bytes) 0 bytes (omega arith)

-- how much is left over, counted from the beginning
ends_all : (bytes : List ℕ) → EndsAs (length (flat_map spelling (triplets_of bytes).triplets)) (reads_all bytes).rest (triplets_of bytes).fault
ends_all bytes = ends_later _ _ (reads_all bytes).rest (triplets_of bytes).fault (omega arith) (reads_all bytes).ends

-- the triplets joined are the bytes before the place at which reading ends
joined_to : (bytes joined rest : List ℕ) (fault : Option TripletFault) → bytes ≡ joined ++ rest → EndsAs (length joined) rest fault →
    joined ≡ take (place_or (length bytes) fault) bytes
joined_to bytes joined rest None parts ends =
    let all : bytes ≡ joined = parts ∙ ap (λ (xs : List ℕ). joined ++ xs) ends ∙ append-nil joined in
    sym (take_at joined [] (length bytes) (ap length (sym all)) ∙ refl) ∙ ap (take (length bytes)) (append-nil joined ∙ sym all)
joined_to bytes joined rest (Some fault) parts ends =
    sym (take_at joined rest fault.at (sym ends.0)) ∙ ap (take fault.at) (sym parts)

pub joined_all : (bytes : List ℕ) → flat_map spelling (triplets_of bytes).triplets ≡ take (read_to bytes) bytes
joined_all bytes =
    let reads = reads_all bytes in
    joined_to bytes (flat_map spelling (triplets_of bytes).triplets) reads.rest (triplets_of bytes).fault reads.parts (ends_all bytes)

-- where there is no fault, they are all of the bytes
pub all_triplets : (bytes : List ℕ) → AreBytes bytes → (triplets_of bytes).fault ≡ None → AreTriplets (triplets_of bytes).triplets bytes
all_triplets bytes are none =
    let reads = reads_all bytes in
    let empty : reads.rest ≡ [] =
    subst (λ (f : Option TripletFault). EndsAs (length (flat_map spelling (triplets_of bytes).triplets)) reads.rest f) none (ends_all bytes) in
    record {
      each = reads.each are;
      all = reads.parts ∙ ap (λ (xs : List ℕ). flat_map spelling (triplets_of bytes).triplets ++ xs) empty
          ∙ append-nil (flat_map spelling (triplets_of bytes).triplets);
    }

pub first_fault : (bytes : List ℕ) (fault : TripletFault) → AreBytes bytes → (triplets_of bytes).fault ≡ Some fault →
    IsFirstFault fault (triplets_of bytes).triplets bytes
first_fault bytes fault are is =
    let reads = reads_all bytes in
    let joined : List ℕ = flat_map spelling (triplets_of bytes).triplets in
    let ends : EndsAs (length joined) reads.rest (Some fault) = subst (λ (f : Option TripletFault). EndsAs (length joined) reads.rest f) is (ends_all bytes) in
    let rest : drop fault.at bytes ≡ reads.rest = ap (drop fault.at) reads.parts ∙ drop_at joined reads.rest fault.at (sym ends.0) in
    record {
      before = record {
        each = reads.each are;
        all = ap (take fault.at) reads.parts ∙ take_at joined reads.rest fault.at (sym ends.0);
      };
      within = omega (arith, ends.0, ends.1, ap length reads.parts, length-append joined reads.rest);
      wrong = subst (λ (xs : List ℕ). IsWrong fault.why xs) (sym rest) ends.2;
    }

-- what triplets spell is read as them
spelled_within : (count place : ℕ) (triplets : List Described) → AllByRecursion HasSpelling triplets → length (flat_map spelling triplets) ≤ count →
    triplets_within count place (flat_map spelling triplets) ≡ record { triplets = triplets; fault = None }
unfolding triplets_within
spelled_within zero place [] each enough = refl
spelled_within (suc count) place [] each enough = refl
spelled_within zero place (t ∷ triplets) each enough = absurd (omega (arith, enough, length-append (spelling t) (flat_map spelling triplets)))
spelled_within (suc count) place (t ∷ triplets) each enough =
    let rest : List ℕ = flat_map spelling triplets in
    ap (λ (r : Result Found TripletFault). with_first r (λ found. triplets_within count (past place (spelling t ++ rest) found) found.rest))
    (triplet_again place t rest each.0)
    ∙ ap (λ (m : Triplets). record { triplets = t ∷ m.triplets; fault = m.fault })
    (spelled_within count (past place (spelling t ++ rest) (record { triplet = t; rest = rest })) triplets each.1
    (omega (arith, enough, length-append (spelling t) rest)))

pub spelled_are_read : (triplets : List Described) (bytes : List ℕ) → AreTriplets triplets bytes →
    triplets_of bytes ≡ record { triplets = triplets; fault = None }
spelled_are_read triplets bytes are =
    ap (λ (xs : List ℕ). triplets_of xs) are.all ∙ spelled_within (length (flat_map spelling triplets)) 0 triplets are.each (omega arith)
