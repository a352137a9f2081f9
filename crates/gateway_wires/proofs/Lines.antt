-- What is seen of transports after one of them changes.
use Rattle.std.proofs.Common.{◌≡◌, ◌≢◌, ◌<◌, ℕ, ◌==◌, Bool, true, false, ◌&&◌, eqb, eq-eqb, List, [], ◌∷◌, set, get_or, map, length}
use Rattle.std.proofs.Common.{Result, Ok, Err, Option, Some, None, refl, sym, ap, subst, ◌∙◌, get_or-set_same, get_or-set_other, arith}
use Rattle.std.proofs.Common.{zero, suc}
use Rattle.std.specs.Prelude.{option_map, OnOk}
use Rattle.std.specs.BTreeSet.{BTreeSet}
use Rattle.std.proofs.Math.ListN.{get_or-map}
use Rattle.std.proofs.lemmas.List.{map-set, set-get_or}
use Rattle.std.proofs.lemmas.Bool.{and_left, and_right, ne_eqb}
use Rattle.std.proofs.lemmas.Option.{none-some}
use Rattle.plain_model.proofs.Puts.{by_equal}
use Rattle.plain_model.specs.Group.{Meaning}
use Rattle.gateway_wires.specs.Line.{LineState, is_flying_on, flying_of, coming_of}
use Rattle.gateway_wires.specs.Wires.{WiresState, line_of, on_line, shared_by}
use Rattle.gateway_wires.specs.Inside.{Dialled, line_at, on_dialled, seen_line, wires_in, flies_to, is_in}

module _ {U : Type 0} (fell : List ℕ) (down : List Bool) where
  pub seen : (lines : List (Option (Dialled U))) (number : ℕ)
      → line_of (wires_in lines fell down) number ≡ option_map (seen_line fell) (get_or lines number None)
  seen lines number = get_or-map (option_map (seen_line fell)) lines number None

  -- one that was dialled, and one that wasn't
  pub seen_so : (lines : List (Option (Dialled U))) (number : ℕ) (x : Option (Dialled U)) → x ≡ get_or lines number None
      → line_of (wires_in lines fell down) number ≡ option_map (seen_line fell) x
  seen_so lines number x is = seen lines number ∙ ap (option_map (seen_line fell)) (sym is)

  -- what is asked of it is told of all transports as they are seen
  pub seen_as : {A : Type 0} (lines : List (Option (Dialled U))) (number : ℕ) (w : WiresState U) (x : Option (Dialled U)) → wires_in lines fell down ≡ w
      → x ≡ get_or lines number None → (ask : Option (LineState U) → A) → ask (option_map (seen_line fell) x) ≡ ask (line_of w number)
  seen_as lines number w x view is ask = ap ask (sym (seen_so lines number x is) ∙ ap (λ (v : WiresState U). line_of v number) view)

  -- the same of how many bytes there are, which is as the transport is kept
  module _ (lines : List (Option (Dialled U))) (number : ℕ) (w : WiresState U) (x : Option (Dialled U)) (view : wires_in lines fell down ≡ w)
      (is : x ≡ get_or lines number None) where
    pub seen_coming : length (coming_of (line_of w number)) ≡ length (coming_of (line_at x))
    seen_coming = sym (seen_as lines number w x view is (λ (y : Option (LineState U)). length (coming_of y))) ∙ kept x
      where
        kept : (x : Option (Dialled U)) → length (coming_of (option_map (seen_line fell) x)) ≡ length (coming_of (line_at x))
        kept None = refl
        kept (Some x) = refl

    pub seen_flying : length (flying_of (line_of w number)) ≡ length (flying_of (line_at x))
    seen_flying = sym (seen_as lines number w x view is (λ (y : Option (LineState U)). length (flying_of y))) ∙ kept x
      where
        kept : (x : Option (Dialled U)) → length (flying_of (option_map (seen_line fell) x)) ≡ length (flying_of (line_at x))
        kept None = refl
        kept (Some x) = refl

    -- and what its member makes of them
    pub seen_shared : {S : Type 0} (m : Meaning S U) (count : ℕ) (shared : S)
        → shared_by m count (line_at x) shared ≡ shared_by m count (line_of w number) shared
    seen_shared m count shared = kept x ∙ seen_as lines number w x view is (λ (y : Option (LineState U)). shared_by m count y shared)
      where
        kept : (x : Option (Dialled U)) → shared_by m count (line_at x) shared ≡ shared_by m count (option_map (seen_line fell) x) shared
        kept None = refl
        kept (Some x) = refl

  module _ (change : LineState U → LineState U) (lines : List (Option (Dialled U))) (number : ℕ) (w : WiresState U)
      (view : wires_in lines fell down ≡ w) where
    -- what is done with it shows, whether it was dialled or not
    pub changed : (slot : Option (Dialled U)) → slot ≡ option_map (on_dialled change) (get_or lines number None)
        → ((x : Dialled U) → seen_line fell (on_dialled change x) ≡ change (seen_line fell x))
        → wires_in (set lines number slot) fell down ≡ on_line number change w
    changed slot is alike =
        ap (λ (ls : List (Option (LineState U))). record { lines = ls; down = down }) (
        map-set (option_map (seen_line fell)) lines number slot
        ∙ ap (λ (o : Option (LineState U)). set (map (option_map (seen_line fell)) lines) number o)
        (ap (option_map (seen_line fell)) is ∙ both (get_or lines number None) ∙ ap (option_map change) (sym (seen lines number))))
        ∙ ap (on_line number change) view
      where
        both : (x : Option (Dialled U)) → option_map (seen_line fell) (option_map (on_dialled change) x) ≡ option_map change (option_map (seen_line fell) x)
        both None = refl
        both (Some x) = ap (λ (y : LineState U). Some y) (alike x)

    -- the same, where memory may have run out
    pub changed_ok : {A E : Type 0} (result : Result A E) (slot : Option (Dialled U))
        → OnOk result (slot ≡ option_map (on_dialled change) (get_or lines number None))
        → ((x : Dialled U) → seen_line fell (on_dialled change x) ≡ change (seen_line fell x))
        → OnOk result (wires_in (set lines number slot) fell down ≡ on_line number change w)
    changed_ok (Ok a) slot done alike = changed slot done alike
    changed_ok (Err e) slot done alike = tt

    -- nothing is done with one that wasn't dialled
    pub unchanged : None ≡ get_or lines number None → wires_in lines fell down ≡ on_line number change w
    unchanged is =
        let none = seen_so lines number None is in
        let all : List (Option (LineState U)) = map (option_map (seen_line fell)) lines in
        ap (λ (ls : List (Option (LineState U))). record { lines = ls; down = down }) (
        sym (set-get_or all number None)
        ∙ ap (λ (o : Option (LineState U)). set all number o) none
        ∙ ap (λ (o : Option (LineState U)). set all number (option_map change o)) (sym none))
        ∙ ap (on_line number change) view

-- ---- which have bytes on their way

past : {A : Type 0} (xs : List A) (n : ℕ) (d : A) → get_or xs n d ≢ d → n < length xs
past [] n d other = absurd (other refl)
past (x ∷ xs) zero d other = omega arith
past (x ∷ xs) (suc n) d other = let h = past xs n d other in omega (arith, h)

-- it is there
pub there : {A : Type 0} (xs : List (Option A)) (n : ℕ) (x : A) → Some x ≡ get_or xs n None → n < length xs
there xs n x is = past xs n None (λ e. none-some x (sym (is ∙ e)))

module _ {U : Type 0} (fell : List ℕ) (flying flying' : List (BTreeSet ℕ)) (lines : List (Option (Dialled U))) (number : ℕ) where
  -- all transports but this one, or this one of another member
  abbrev pub Others : ℕ → Type 0
  Others member = (another other : ℕ) → (another == member && other == number) ≡ false → is_in flying' another other ≡ is_in flying another other

  abbrev Flies : List (BTreeSet ℕ) → List (Option (Dialled U)) → Type 0
  Flies flying lines = (member number : ℕ) → member < 33 → is_in flying member number ≡ flies_to member (option_map (seen_line fell) (get_or lines number None))

  pub flies_after : (x x' : Dialled U) → Some x ≡ get_or lines number None → x'.line.member ≡ x.line.member
      → is_in flying' x.line.member number ≡ is_flying_on (seen_line fell x') → Others x.line.member
      → Flies flying lines → Flies flying' (set lines number (Some x'))
  flies_after x x' is same this others flies member other in_range = by_equal other number
      (λ e. subst (λ (n : ℕ). is_in flying' member n ≡ flies_to member (option_map (seen_line fell) (get_or (set lines number (Some x')) n None))) (sym e)
      (at_number ∙ ap (λ (o : Option (Dialled U)). flies_to member (option_map (seen_line fell) o))
      (sym (get_or-set_same lines number (Some x') None (there lines number x is)))))
      (λ ne. others member other (and_right (eqb member x.line.member) (eqb other number) (ne_eqb other number ne))
      ∙ flies member other in_range
      ∙ ap (λ (o : Option (Dialled U)). flies_to member (option_map (seen_line fell) o)) (sym (get_or-set_other lines number other (Some x') None ne)))
    where
      and_true : (a b : Bool) → b ≡ true → a ≡ (a && b)
      and_true true b e = sym e
      and_true false b e = refl

      -- the member's own set, or another one
      at_number : is_in flying' member number ≡ (is_flying_on (seen_line fell x') && eqb x'.line.member member)
      at_number = by_equal member x.line.member
          (λ e. ap (λ (m : ℕ). is_in flying' m number) e ∙ this
          ∙ and_true (is_flying_on (seen_line fell x')) (eqb x'.line.member member) (eq-eqb x'.line.member member (same ∙ sym e)))
          (λ ne. others member number (and_left (eqb member x.line.member) (eqb number number) (ne_eqb member x.line.member ne))
          ∙ flies member number in_range
          ∙ ap (λ (o : Option (Dialled U)). flies_to member (option_map (seen_line fell) o)) (sym is)
          ∙ and_right (is_flying_on (seen_line fell x)) (eqb x.line.member member) (ne_eqb x.line.member member (λ e. ne (sym e)))
          ∙ sym (and_right (is_flying_on (seen_line fell x')) (eqb x'.line.member member) (ne_eqb x'.line.member member (λ e. ne (sym (sym same ∙ e))))))
