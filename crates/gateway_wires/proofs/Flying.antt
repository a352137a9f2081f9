-- The first transport with bytes on its way.
use Rattle.std.proofs.Common.{◌≡◌, ◌<◌, ℕ, zero, suc, ◌==◌, Bool, true, false, ◌&&◌, List, [], ◌∷◌, get_or, length, Option}
use Rattle.std.proofs.Common.{Some, None}
use Rattle.std.proofs.Common.{refl, sym, ap, ◌∙◌, arith}
use Rattle.std.specs.Prelude.{option_map}
use Rattle.std.specs.BTreeSet.{BTreeSet}
use Rattle.std.proofs.lemmas.Bool.{false≢true}
use Rattle.gateway_wires.specs.Line.{is_flying, is_flying_on}
use Rattle.gateway_wires.specs.Wires.{line_of, IsFirstFlying}
use Rattle.gateway_wires.specs.Inside.{Dialled, seen_line, wires_in, flies_to, is_in, AreWires, IsLowest}
use Rattle.gateway_wires.proofs.Lines.{seen}
use Rattle.gateway_wires.proofs.Sorting.{in_place}

module _ {U : Type 0} (fell : List ℕ) (down : List Bool) (flying : List (BTreeSet ℕ)) (lines : List (Option (Dialled U))) (count : ℕ)
    (wires : AreWires lines fell flying count) where
  -- whether it flies is what its member's set says
  by_line : (number : ℕ) (x : Option (Dialled U)) → x ≡ get_or lines number None → ((member : ℕ) → is_in flying member number ≡ false)
      → is_flying (option_map (seen_line fell) x) ≡ false
  by_line number None there off = refl
  by_line number (Some x) there off = sym (in_place fell flying lines count number x there wires) ∙ off x.line.member

  off_of : (number : ℕ) → ((member : ℕ) → is_in flying member number ≡ false) → is_flying (line_of (wires_in lines fell down) number) ≡ false
  off_of number off = ap is_flying (seen fell down lines number) ∙ by_line number (get_or lines number None) refl off

  past_end : (sets : List (BTreeSet ℕ)) (member number : ℕ) → is_in sets member number ≡ true → member < length sets
  past_end [] member number e = absurd (false≢true e)
  past_end (s ∷ sets) zero number e = omega arith
  past_end (s ∷ sets) (suc member) number e = let h = past_end sets member number e in omega (arith, h)

  on_line : (member : ℕ) (x : Option (Dialled U)) → flies_to member (option_map (seen_line fell) x) ≡ true → is_flying (option_map (seen_line fell) x) ≡ true
  on_line member None e = absurd (false≢true e)
  on_line member (Some x) e = left (is_flying_on (seen_line fell x)) (x.line.member == member) e
    where
      left : (a b : Bool) → (a && b) ≡ true → a ≡ true
      left true b e = refl
      left false b e = absurd (false≢true e)

  on_of : (member number : ℕ) → is_in flying member number ≡ true → is_flying (line_of (wires_in lines fell down) number) ≡ true
  on_of member number e =
      let within : member < 33 = (let h = past_end flying member number e in let k = wires.all_members in omega (arith, h, k)) in
      ap is_flying (seen fell down lines number)
      ∙ on_line member (get_or lines number None) (sym (wires.flies member number within) ∙ e)

  pub first_of_all : (first : Option ℕ) → IsLowest flying first → IsFirstFlying (wires_in lines fell down) first
  first_of_all None none = λ number. off_of number (λ member. none member number)
  first_of_all (Some first) is =
      (on_of is.0.0 first is.0.1, λ number lt. off_of number (λ member. is.1 member number lt))
