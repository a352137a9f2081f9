-- All transports once one of them has changed.
use Rattle.std.proofs.Common.{◌≡◌, ◌<◌, ℕ, zero, suc, ◌==◌, Bool, true, false, not, ◌&&◌, ◌||◌, eq-eqb, List, []}
use Rattle.std.proofs.Common.{◌∷◌, ◌++◌, set, get_or, drop, length}
use Rattle.std.proofs.Common.{Option, Some, None, Result, Ok, Err, refl, sym, ap, subst, ◌∙◌, arith}
use Rattle.std.specs.Prelude.{option_map, nat_lt, if◌then◌else◌, OnOk, OnErr}
use Rattle.std.specs.BTreeSet.{BTreeSet}
use Rattle.std.proofs.lemmas.Bool.{false≢true}
use Rattle.std.proofs.lemmas.List.{set-get_or}
use Rattle.std.proofs.Math.Dec.{eqb-suc-zero}
use Rattle.link_ends.proofs.Lists.{all_set, all_get}
use Rattle.plain_model.specs.Group.{Meaning}
use Rattle.gateway_wires.specs.Line.{with_sent, with_acted, with_read, with_dropped, is_flying_on, is_empty}
use Rattle.gateway_wires.specs.Inside.{Dialled, on_dialled, fell_of, has_dropped, seen_line, flies_to, is_in, OfDialled, WasDialled, IsIn, AreWires, Sorts}
use Rattle.gateway_wires.specs.Inside.{KeepsBytes, SortsOld, SortsOut, EntersIf, LeavesAtRest, AreSame}
use Rattle.gateway_wires.proofs.Lines.{flies_after, Others}

empty_by_length : (bytes : List ℕ) → is_empty bytes ≡ (length bytes == 0)
empty_by_length [] = refl
empty_by_length (byte ∷ bytes) = sym (eqb-suc-zero (length bytes))

and_off : (a b : Bool) → b ≡ true → (a && not b) ≡ false
and_off true true e = refl
and_off false true e = refl
and_off a false e = absurd (false≢true e)

and_on : (a b : Bool) → b ≡ false → (a && not b) ≡ a
and_on true false e = refl
and_on false false e = refl
and_on a true e = absurd (false≢true (sym e))

and_same : (a : Bool) (n : ℕ) → (a && n == n) ≡ a
and_same true n = eq-eqb n n refl
and_same false n = refl

module _ {U : Type 0} (fell : List ℕ) (flying : List (BTreeSet ℕ)) (lines : List (Option (Dialled U))) (count number : ℕ) where
  was_dialled : (x : Dialled U) → Some x ≡ get_or lines number None → AreWires lines fell flying count → WasDialled count x
  was_dialled x is wires = subst (OfDialled (WasDialled count)) (sym is) (all_get (OfDialled (WasDialled count)) lines number None wires.dialled tt)

  -- one that was there is another one now, and has bytes on its way or not
  pub kept_changed : (flying' : List (BTreeSet ℕ)) (x x' : Dialled U) → Some x ≡ get_or lines number None → x'.line.member ≡ x.line.member → x'.since ≡ x.since
      → Sorts x.line.member number (is_flying_on (seen_line fell x')) flying flying' → AreWires lines fell flying count
      → AreWires (set lines number (Some x')) fell flying' count
  kept_changed flying' x x' is member since sorts wires =
      let was = was_dialled x is wires in
      record {
        all_members = sorts.size ∙ wires.all_members;
        dialled = all_set (OfDialled (WasDialled count)) lines number (Some x') wires.dialled
            (record { before = subst (λ (n : ℕ). n < count) (sym since) was.before; member = subst (λ (n : ℕ). n < 33) (sym member) was.member });
        fell_before = wires.fell_before;
        flies = flies_after fell flying flying' lines number x x' is member sorts.this sorts.others wires.flies;
      }

  -- whether it stands among those with bytes on their way
  pub in_place : (x : Dialled U) → Some x ≡ get_or lines number None → AreWires lines fell flying count
      → is_in flying x.line.member number ≡ is_flying_on (seen_line fell x)
  in_place x is wires =
      let was = was_dialled x is wires in
      wires.flies x.line.member number was.member
      ∙ ap (λ (o : Option (Dialled U)). flies_to x.line.member (option_map (seen_line fell) o)) (sym is)
      ∙ and_same (is_flying_on (seen_line fell x)) x.line.member

  pub member_within : (x : Dialled U) → Some x ≡ get_or lines number None → AreWires lines fell flying count → x.line.member < length flying
  member_within x is wires =
      let was = was_dialled x is wires in
      let h = was.member in let k = wires.all_members in omega (arith, h, k)

  -- nothing changed among those
  pub sorts_same : (x x' : Dialled U) → Some x ≡ get_or lines number None → AreWires lines fell flying count
      → is_flying_on (seen_line fell x') ≡ is_flying_on (seen_line fell x) → Sorts x.line.member number (is_flying_on (seen_line fell x')) flying flying
  sorts_same x x' is wires same = record { size = refl; this = in_place x is wires ∙ sym same; others = λ another other e. refl }

  -- it leaves them where no byte is on its way
  pub sorts_rest : (middle flying' : List (BTreeSet ℕ)) (m : ℕ) (x' : Dialled U) → length middle ≡ length flying → Others fell flying middle lines number m
      → ((length x'.line.flying == 0) ≡ false → is_in middle m number ≡ not (has_dropped fell x'))
      → SortsOut (length x'.line.flying == 0) m number middle flying' → Sorts m number (is_flying_on (seen_line fell x')) flying flying'
  sorts_rest middle flying' m x' size others stays out = go (length x'.line.flying == 0) refl out
    where
      go : (t : Bool) → (length x'.line.flying == 0) ≡ t → SortsOut t m number middle flying' → Sorts m number (is_flying_on (seen_line fell x')) flying flying'
      go true e sorts = record {
        size = sorts.size ∙ size;
        this = sorts.this ∙ sym (and_off (not (has_dropped fell x')) (is_empty x'.line.flying) (empty_by_length x'.line.flying ∙ e));
        others = λ another other off. sorts.others another other off ∙ others another other off;
      }
      go false e same = record {
        size = ap length same ∙ size;
        this = ap (λ (f : List (BTreeSet ℕ)). is_in f m number) same ∙ stays e
            ∙ sym (and_on (not (has_dropped fell x')) (is_empty x'.line.flying) (empty_by_length x'.line.flying ∙ e));
        others = λ another other off. ap (λ (f : List (BTreeSet ℕ)). is_in f another other) same ∙ others another other off;
      }

  -- ---- sending

  entered : (b : Bool) (middle : List (BTreeSet ℕ)) (m : ℕ) → EntersIf b m number flying middle
      → (length middle ≡ length flying) × Others fell flying middle lines number m
  entered true middle m sorts = (sorts.size, sorts.others)
  entered false middle m same = (ap length same, λ another other off. ap (λ (f : List (BTreeSet ℕ)). is_in f another other) same)

  in_middle : (b : Bool) (middle : List (BTreeSet ℕ)) (m : ℕ) → EntersIf b m number flying middle
      → is_in middle m number ≡ (if b then true else is_in flying m number)
  in_middle true middle m sorts = sorts.this
  in_middle false middle m same = ap (λ (f : List (BTreeSet ℕ)). is_in f m number) same

  -- it stands among those with bytes on their way, unless it is dropped
  will_stay : (dropped : Bool) (piece before : List ℕ) → (length (before ++ piece) == 0) ≡ false
      → (if not (is_empty piece) && not dropped then true else not dropped && not (is_empty before)) ≡ not dropped
  will_stay true [] before e = refl
  will_stay true (byte ∷ piece) before e = refl
  will_stay false (byte ∷ piece) before e = refl
  will_stay false [] [] e = absurd (false≢true (sym e))
  will_stay false [] (byte ∷ before) e = refl

  stays_same : (dropped : Bool) (piece before : List ℕ) → (length before == 0) ≡ false
      → (if not (is_empty piece) && not dropped then true else not dropped && not (is_empty before)) ≡ not dropped
  stays_same true [] before e = refl
  stays_same true (byte ∷ piece) before e = refl
  stays_same false (byte ∷ piece) before e = refl
  stays_same false [] [] e = absurd (false≢true (sym e))
  stays_same false [] (byte ∷ before) e = refl

  module _ (x : Dialled U) (is : Some x ≡ get_or lines number None) (wires : AreWires lines fell flying count) (piece : List ℕ)
      (middle flying' : List (BTreeSet ℕ)) where
    abbrev pub enters : Bool
    enters = not (is_empty piece) && not (has_dropped fell x)

    in_middle_sets : EntersIf enters x.line.member number flying middle → x.line.member < length middle
    in_middle_sets into = let h = member_within x is wires in let k = (entered enters middle x.line.member into).0 in omega (arith, h, k)

    kept_sent_ok : EntersIf enters x.line.member number flying middle
        → SortsOut (length (x.line.flying ++ piece) == 0) x.line.member number middle flying'
        → AreWires (set lines number (Some (on_dialled (with_sent piece) x))) fell flying' count
    kept_sent_ok into out =
        let both = entered enters middle x.line.member into in
        kept_changed flying' x (on_dialled (with_sent piece) x) is refl refl
        (sorts_rest middle flying' x.line.member (on_dialled (with_sent piece) x) both.0 both.1
        (λ e. in_middle enters middle x.line.member into
        ∙ ap (λ (b : Bool). if enters then true else b) (in_place x is wires)
        ∙ will_stay (has_dropped fell x) piece x.line.flying e) out) wires

    kept_sent_err : EntersIf enters x.line.member number flying middle
        → SortsOut (length x.line.flying == 0) x.line.member number middle flying'
        → AreWires (set lines number (Some x)) fell flying' count
    kept_sent_err into out =
        let both = entered enters middle x.line.member into in
        kept_changed flying' x x is refl refl
        (sorts_rest middle flying' x.line.member x both.0 both.1
        (λ e. in_middle enters middle x.line.member into
        ∙ ap (λ (b : Bool). if enters then true else b) (in_place x is wires)
        ∙ stays_same (has_dropped fell x) piece x.line.flying e) out) wires

    -- bytes were sent on it, or memory ran out
    pub kept_sent : {A E : Type 0} (result : Result A E) (slot : Option (Dialled U)) → OnOk result (slot ≡ option_map (on_dialled (with_sent piece)) (Some x))
        → OnErr result (slot ≡ Some x) → EntersIf enters x.line.member number flying middle → LeavesAtRest number slot middle flying'
        → AreWires (set lines number slot) fell flying' count
    kept_sent (Ok a) slot ok err into out = rw ok (kept_sent_ok into (rw ok at out))
    kept_sent (Err e) slot ok err into out = rw err (kept_sent_err into (rw err at out))

    pub in_sent : {A E : Type 0} (result : Result A E) (slot : Option (Dialled U)) → OnOk result (slot ≡ option_map (on_dialled (with_sent piece)) (Some x))
        → OnErr result (slot ≡ Some x) → EntersIf enters x.line.member number flying middle → OfDialled (IsIn (length middle)) slot
    in_sent (Ok a) slot ok err into = rw ok (in_middle_sets into)
    in_sent (Err e) slot ok err into = rw err (in_middle_sets into)

  -- ---- acting

  -- it had bytes on its way where it has some still
  kept_acted_on : (flying' : List (BTreeSet ℕ)) (n : ℕ) (x x' : Dialled U) → Some x ≡ get_or lines number None → AreWires lines fell flying count
      → x'.line.member ≡ x.line.member → x'.since ≡ x.since → x'.line.dropped ≡ x.line.dropped → x'.line.flying ≡ drop n x.line.flying
      → LeavesAtRest number (Some x') flying flying' → AreWires (set lines number (Some x')) fell flying' count
  kept_acted_on flying' n x x' is wires member since dropped left out =
      kept_changed flying' x x' is member since
      (sorts_rest flying flying' x.line.member x' refl (λ another other off. refl)
      (λ e. in_place x is wires
      ∙ and_on (not (has_dropped fell x)) (is_empty x.line.flying) (had n x.line.flying (ap (λ (l : List ℕ). length l == 0) (sym left) ∙ e))
      ∙ sym same_dropped)
      (subst (λ (m : ℕ). SortsOut (length x'.line.flying == 0) m number flying flying') member out)) wires
    where
      had : (n : ℕ) (bytes : List ℕ) → (length (drop n bytes) == 0) ≡ false → is_empty bytes ≡ false
      had zero [] e = absurd (false≢true (sym e))
      had (suc n) [] e = absurd (false≢true (sym e))
      had n (byte ∷ bytes) e = refl

      same_dropped : not (has_dropped fell x') ≡ not (has_dropped fell x)
      same_dropped =
          ap (λ (b : Bool). not (b || nat_lt x'.since (fell_of fell x'.line.member))) dropped
          ∙ ap (λ (n : ℕ). not (x.line.dropped || nat_lt n (fell_of fell x'.line.member))) since
          ∙ ap (λ (m : ℕ). not (x.line.dropped || nat_lt x.since (fell_of fell m))) member

  -- ---- what changes no bytes on their way

  pub kept_same : (x x' : Dialled U) → Some x ≡ get_or lines number None → AreWires lines fell flying count
      → x'.line.member ≡ x.line.member → x'.since ≡ x.since → x'.line.dropped ≡ x.line.dropped → x'.line.flying ≡ x.line.flying
      → AreWires (set lines number (Some x')) fell flying count
  kept_same x x' is wires member since dropped flies = kept_changed flying x x' is member since (sorts_same x x' is wires
      (ap (λ (bytes : List ℕ). not (has_dropped fell x') && not (is_empty bytes)) flies
      ∙ ap (λ (b : Bool). not (b || nat_lt x'.since (fell_of fell x'.line.member)) && not (is_empty x.line.flying)) dropped
      ∙ ap (λ (n : ℕ). not (x.line.dropped || nat_lt n (fell_of fell x'.line.member)) && not (is_empty x.line.flying)) since
      ∙ ap (λ (m : ℕ). not (x.line.dropped || nat_lt x.since (fell_of fell m)) && not (is_empty x.line.flying)) member)) wires

  -- ---- what stands at the number

  -- one that wasn't dialled stays so
  none_kept : (flying' : List (BTreeSet ℕ)) (slot : Option (Dialled U)) → None ≡ get_or lines number None → AreWires lines fell flying count
      → flying' ≡ flying → slot ≡ None → AreWires (set lines number slot) fell flying' count
  none_kept flying' slot is wires sets none =
      subst (λ (ls : List (Option (Dialled U))). AreWires ls fell flying' count)
      (sym (ap (λ (o : Option (Dialled U)). set lines number o) (none ∙ is) ∙ set-get_or lines number None))
      (subst (λ (f : List (BTreeSet ℕ)). AreWires lines fell f count) (sym sets) wires)

  pub kept_acted : {S : Type 0} (m : Meaning S U) (n : ℕ) (shared : S) (flying' : List (BTreeSet ℕ)) (slot x : Option (Dialled U))
      → x ≡ get_or lines number None
      → AreWires lines fell flying count → slot ≡ option_map (on_dialled (with_acted m n shared)) x → LeavesAtRest number slot flying flying'
      → AreWires (set lines number slot) fell flying' count
  kept_acted m n shared flying' slot None is wires acted out = none_kept flying' slot is wires (rw acted at out) acted
  kept_acted m n shared flying' slot (Some x) is wires acted out =
      rw acted (kept_acted_on flying' n x (on_dialled (with_acted m n shared) x) is wires refl refl refl refl (rw acted at out))

  -- memory ran out
  pub kept_bytes : (slot x : Option (Dialled U)) → x ≡ get_or lines number None → AreWires lines fell flying count → KeepsBytes x slot
      → AreWires (set lines number slot) fell flying count
  kept_bytes slot None is wires keeps = none_kept flying slot is wires refl keeps
  kept_bytes None (Some x) is wires keeps = absurd keeps
  kept_bytes (Some x') (Some x) is wires keeps = kept_same x x' is wires
      (ap (λ (y : Dialled U). y.line.member) keeps) (ap (λ (y : Dialled U). y.since) keeps)
      (ap (λ (y : Dialled U). y.line.dropped) keeps) (ap (λ (y : Dialled U). y.line.flying) keeps)

  pub kept_read : (n : ℕ) (slot x : Option (Dialled U)) → x ≡ get_or lines number None → AreWires lines fell flying count
      → slot ≡ option_map (on_dialled (with_read n)) x → AreWires (set lines number slot) fell flying count
  kept_read n slot None is wires done = none_kept flying slot is wires refl done
  kept_read n slot (Some x) is wires done = rw done (kept_same x (on_dialled (with_read n) x) is wires refl refl refl refl)

  -- its member drops it
  pub kept_dropped : (flying' : List (BTreeSet ℕ)) (slot x : Option (Dialled U)) → x ≡ get_or lines number None → AreWires lines fell flying count
      → SortsOld number x flying flying' → slot ≡ option_map (on_dialled with_dropped) x → AreWires (set lines number slot) fell flying' count
  kept_dropped flying' slot None is wires sorts done = none_kept flying' slot is wires sorts done
  kept_dropped flying' slot (Some x) is wires sorts done = rw done (kept_changed flying' x (on_dialled with_dropped x) is refl refl sorts wires)

  -- its member's number is one that there is a set for
  pub in_sets : (x : Option (Dialled U)) → x ≡ get_or lines number None → AreWires lines fell flying count → OfDialled (IsIn (length flying)) x
  in_sets None is wires = tt
  in_sets (Some x) is wires = member_within x is wires

  pub in_acted : {S : Type 0} (m : Meaning S U) (n : ℕ) (shared : S) (slot x : Option (Dialled U)) → x ≡ get_or lines number None
      → AreWires lines fell flying count → slot ≡ option_map (on_dialled (with_acted m n shared)) x → OfDialled (IsIn (length flying)) slot
  in_acted m n shared slot None is wires acted = rw acted tt
  in_acted m n shared slot (Some x) is wires acted = rw acted (member_within x is wires)

  -- memory ran out before anything was sent
  pub same_sets : (flying' : List (BTreeSet ℕ)) → AreSame flying flying' → AreWires lines fell flying count → AreWires lines fell flying' count
  same_sets flying' same wires = record {
    all_members = same.size ∙ wires.all_members;
    dialled = wires.dialled;
    fell_before = wires.fell_before;
    flies = λ member n in_range. same.numbers member n ∙ wires.flies member n in_range;
  }
