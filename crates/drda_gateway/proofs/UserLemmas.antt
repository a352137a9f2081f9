-- A set of names beside a list of users.
use Rattle.std.proofs.Common.{◌≡◌, ℕ, Bool, true, false, List, [], ◌∷◌, ◌++◌, Ordering, refl, ap, sym, ◌∙◌}
use Rattle.std.specs.Prelude.{◌||◌}
use Rattle.std.specs.List.{list_any}
use Rattle.std.specs.Str.{bytes_eq}
use Rattle.std.specs.Prelude.{Vec}
use Rattle.std.specs.Ordering.{nat_cmp, is_eq, match_ordering}
use Rattle.std.specs.declared.cmp.Ordering.TheVariants.{Less, Equal, Greater}
use Rattle.std.specs.Cmp.Lexicographic.{slice_cmp}
use Rattle.std.specs.BTreeMap.{is_at}
use Rattle.std.specs.BTreeSet.{insert_key}
use Rattle.std.proofs.lemmas.Map.Text.{is_eq-slice_cmp}
use Rattle.std.proofs.lemmas.Slice.Eq.{bytes_eq-Decides}
use Rattle.std.proofs.lemmas.List.Recursion.{or_push}
use Rattle.std.specs.BTreeSet.{BTreeSet, contains}
use Rattle.drda_gateway.specs.declared.script.User.{User}
use Rattle.drda_gateway.specs.Users.{KnowsNames, has_name, is_taken}

or_swap : (a b c : Bool) → (a || (b || c)) ≡ ((b || c) || a)
or_swap true true c = refl
or_swap true false true = refl
or_swap true false false = refl
or_swap false true c = refl
or_swap false false true = refl
or_swap false false false = refl

or_again : (a b c : Bool) → a ≡ c → (a || b) ≡ ((a || b) || c)
or_again true b c e = refl
or_again false true c e = refl
or_again false false c e = e

or_nil : (b : Bool) → (b || false) ≡ (false || b)
or_nil true = refl
or_nil false = refl

or_regroup : (a b c : Bool) → (a || (b || c)) ≡ ((a || b) || c)
or_regroup true b c = refl
or_regroup false b c = refl

-- equal lists have the same name
same_name : (xs ys name : List ℕ) → is_eq (slice_cmp nat_cmp xs ys) ≡ true → bytes_eq name ys ≡ bytes_eq name xs
same_name xs ys name e =
    ap (λ zs. bytes_eq name zs) (sym ((bytes_eq-Decides xs ys).0 (sym (is_eq-slice_cmp xs ys) ∙ e)))

module _ {Z : Type 0} (key : Vec ℕ Z) (name : List ℕ) where
  names_step : (x : Vec ℕ Z) (xs more : List (Vec ℕ Z)) (o : Ordering) → slice_cmp nat_cmp key.items x.items ≡ o →
      list_any (λ k. bytes_eq name k.items) more ≡ (list_any (λ k. bytes_eq name k.items) xs || bytes_eq name key.items) →
      list_any (λ k. bytes_eq name k.items) (match_ordering o (key ∷ x ∷ xs) (x ∷ xs) (x ∷ more)) ≡
      (list_any (λ k. bytes_eq name k.items) (x ∷ xs) || bytes_eq name key.items)
  names_step x xs more Less e h = or_swap (bytes_eq name key.items) (bytes_eq name x.items) (list_any (λ k. bytes_eq name k.items) xs)
  names_step x xs more Equal e h =
      or_again (bytes_eq name x.items) (list_any (λ k. bytes_eq name k.items) xs) (bytes_eq name key.items) (same_name key.items x.items name (ap is_eq e))
  names_step x xs more Greater e h = ap (λ b. bytes_eq name x.items || b) h
      ∙ or_regroup (bytes_eq name x.items) (list_any (λ k. bytes_eq name k.items) xs) (bytes_eq name key.items)

  -- the names after one more
  pub names-insert_key : (keys : List (Vec ℕ Z)) →
      list_any (λ k. bytes_eq name k.items) (insert_key (λ x y. slice_cmp nat_cmp x.items y.items) keys key) ≡
      (list_any (λ k. bytes_eq name k.items) keys || bytes_eq name key.items)
  names-insert_key [] = or_nil (bytes_eq name key.items)
  names-insert_key (x ∷ xs) =
      names_step x xs (insert_key (λ x y. slice_cmp nat_cmp x.items y.items) xs key) (slice_cmp nat_cmp key.items x.items) refl (names-insert_key xs)

-- the order of the keys
abbrev pub key_cmp : {Z : Type 0} → Vec ℕ Z → Vec ℕ Z → Ordering
key_cmp x y = slice_cmp nat_cmp x.items y.items

any_key : {Z : Type 0} (key : Vec ℕ Z) (keys : List (Vec ℕ Z)) → list_any (is_at (key_cmp key)) keys ≡ list_any (λ k. bytes_eq key.items k.items) keys
any_key key [] = refl
any_key key (x ∷ xs) =
    ap (λ b. b || list_any (is_at (key_cmp key)) xs) (is_eq-slice_cmp key.items x.items) ∙ ap (λ b. bytes_eq key.items x.items || b) (any_key key xs)

-- a name is taken where the set has its key
pub is_taken-contains : {Z : Type 0} (names : BTreeSet (Vec ℕ Z)) (users : List User) (name : List ℕ) (key : Vec ℕ Z) → KnowsNames names users →
    key.items ≡ name → is_taken name users ≡ contains key_cmp names key
is_taken-contains names users name key known same =
    sym (known name) ∙ ap (λ bytes. has_name bytes names) (sym same) ∙ sym (any_key key names.keys)

-- the set after one more
pub KnowsNames-push : {Z : Type 0} (names changed : BTreeSet (Vec ℕ Z)) (users : List User) (user : User) (key : Vec ℕ Z) → KnowsNames names users →
    key.items ≡ user.name → changed.keys ≡ insert_key key_cmp names.keys key → KnowsNames changed (users ++ user ∷ [])
KnowsNames-push names changed users user key known same e =
    λ name. ap (list_any (λ k. bytes_eq name k.items)) e
    ∙ names-insert_key key name names.keys
    ∙ ap (λ b. b || bytes_eq name key.items) (known name)
    ∙ ap (λ bytes. is_taken name users || bytes_eq name bytes) same
    ∙ sym (or_push (is_taken name) (λ u. bytes_eq name u.name) refl (λ _ _. refl) users user)
