-- A set of names beside a list of what has them.
use Rattle.std.proofs.Common.{◌≡◌, ℕ, ◌<◌, ◌^◌, Bool, true, false, List, [], ◌∷◌, ◌++◌, Ordering, refl, ap, sym, ◌∙◌, drop, Decides, ◌&&◌, ◌==◌}
use Rattle.std.specs.Prelude.{◌||◌, Vec}
use Rattle.std.specs.List.{list_any}
use Rattle.std.specs.Str.{bytes_eq}
use Rattle.std.specs.Ordering.{nat_cmp, is_eq, match_ordering}
use Rattle.std.specs.declared.cmp.Ordering.TheVariants.{Less, Equal, Greater}
use Rattle.std.specs.Cmp.Lexicographic.{slice_cmp}
use Rattle.std.specs.BTreeMap.{is_at}
use Rattle.std.specs.BTreeSet.{BTreeSet, contains, insert_key}
use Rattle.std.proofs.lemmas.Bool.Decides.{same_from_decides, Decides-and, Decides-eqb}
use Rattle.std.proofs.lemmas.Map.Text.{is_eq-slice_cmp}
use Rattle.std.proofs.lemmas.Slice.Eq.{bytes_eq-Decides}
use Rattle.std.proofs.lemmas.List.Recursion.{or_push}
use Rattle.byteorder.specs.Endian.{big_number}
use Rattle.byteorder.specs.Numbers.{big_number-reads_back}
use Rattle.script_reader.specs.declared.script.User.{User}
use Rattle.script_reader.specs.declared.script.Row.{Row}
use Rattle.script_reader.specs.Names.{KnowsUsers, KnowsRows, has_name, is_user, is_row, row_name}

or_swap : (a b c : Bool) → (a || (b || c)) ≡ ((b || c) || a)
or_swap true true c = refl
or_swap true false true = refl
or_swap true false false = refl
or_swap false true c = refl
or_swap false false true = refl
or_swap false false false = refl

or_again : (a b c : Bool) → a ≡ c → (a || b) ≡ ((a || b) || c)
or_again true b c e = refl
or_again false true c e = refl
or_again false false c e = e

or_nil : (b : Bool) → (b || false) ≡ (false || b)
or_nil true = refl
or_nil false = refl

or_regroup : (a b c : Bool) → (a || (b || c)) ≡ ((a || b) || c)
or_regroup true b c = refl
or_regroup false b c = refl

-- equal lists have the same name
same_name : (xs ys name : List ℕ) → is_eq (slice_cmp nat_cmp xs ys) ≡ true → bytes_eq name ys ≡ bytes_eq name xs
same_name xs ys name e = ap (λ zs. bytes_eq name zs) (sym ((bytes_eq-Decides xs ys).0 (sym (is_eq-slice_cmp xs ys) ∙ e)))

-- the order of the keys
abbrev pub key_cmp : {Z : Type 0} → Vec ℕ Z → Vec ℕ Z → Ordering
key_cmp x y = slice_cmp nat_cmp x.items y.items

module _ {Z : Type 0} (key : Vec ℕ Z) (name : List ℕ) where
  names_step : (x : Vec ℕ Z) (xs more : List (Vec ℕ Z)) (o : Ordering) → slice_cmp nat_cmp key.items x.items ≡ o →
      list_any (λ k. bytes_eq name k.items) more ≡ (list_any (λ k. bytes_eq name k.items) xs || bytes_eq name key.items) →
      list_any (λ k. bytes_eq name k.items) (match_ordering o (key ∷ x ∷ xs) (x ∷ xs) (x ∷ more)) ≡
      (list_any (λ k. bytes_eq name k.items) (x ∷ xs) || bytes_eq name key.items)
  names_step x xs more Less e h = or_swap (bytes_eq name key.items) (bytes_eq name x.items) (list_any (λ k. bytes_eq name k.items) xs)
  names_step x xs more Equal e h =
      or_again (bytes_eq name x.items) (list_any (λ k. bytes_eq name k.items) xs) (bytes_eq name key.items) (same_name key.items x.items name (ap is_eq e))
  names_step x xs more Greater e h = ap (λ b. bytes_eq name x.items || b) h
      ∙ or_regroup (bytes_eq name x.items) (list_any (λ k. bytes_eq name k.items) xs) (bytes_eq name key.items)

  -- the names after one more
  names-insert_key : (keys : List (Vec ℕ Z)) →
      list_any (λ k. bytes_eq name k.items) (insert_key (λ x y. slice_cmp nat_cmp x.items y.items) keys key) ≡
      (list_any (λ k. bytes_eq name k.items) keys || bytes_eq name key.items)
  names-insert_key [] = or_nil (bytes_eq name key.items)
  names-insert_key (x ∷ xs) =
      names_step x xs (insert_key (λ x y. slice_cmp nat_cmp x.items y.items) xs key) (slice_cmp nat_cmp key.items x.items) refl (names-insert_key xs)

any_key : {Z : Type 0} (key : Vec ℕ Z) (keys : List (Vec ℕ Z)) → list_any (is_at (key_cmp key)) keys ≡ list_any (λ k. bytes_eq key.items k.items) keys
any_key key [] = refl
any_key key (x ∷ xs) =
    ap (λ b. b || list_any (is_at (key_cmp key)) xs) (is_eq-slice_cmp key.items x.items) ∙ ap (λ b. bytes_eq key.items x.items || b) (any_key key xs)

-- the set has a name where it has the key of this name
has_name-contains : {Z : Type 0} (names : BTreeSet (Vec ℕ Z)) (name : List ℕ) (key : Vec ℕ Z) → key.items ≡ name →
    has_name name names ≡ contains key_cmp names key
has_name-contains names name key same = ap (λ bytes. has_name bytes names) (sym same) ∙ sym (any_key key names.keys)

-- the names of a set after one more
has_name-insert : {Z : Type 0} (names changed : BTreeSet (Vec ℕ Z)) (key : Vec ℕ Z) (name added : List ℕ) → key.items ≡ added →
    changed.keys ≡ insert_key key_cmp names.keys key → has_name name changed ≡ (has_name name names || bytes_eq name added)
has_name-insert names changed key name added same e =
    ap (list_any (λ k. bytes_eq name k.items)) e
    ∙ names-insert_key key name names.keys
    ∙ ap (λ bytes. has_name name names || bytes_eq name bytes) same

-- ---- users

-- a user has a name where the set has its key
pub is_user-contains : {Z : Type 0} (names : BTreeSet (Vec ℕ Z)) (users : List User) (name : List ℕ) (key : Vec ℕ Z) → KnowsUsers names users →
    key.items ≡ name → is_user name users ≡ contains key_cmp names key
is_user-contains names users name key known same = sym (known name) ∙ has_name-contains names name key same

-- the set after one user more
pub KnowsUsers-push : {Z : Type 0} (names changed : BTreeSet (Vec ℕ Z)) (users : List User) (user : User) (key : Vec ℕ Z) → KnowsUsers names users →
    key.items ≡ user.name → changed.keys ≡ insert_key key_cmp names.keys key → KnowsUsers changed (users ++ user ∷ [])
KnowsUsers-push names changed users user key known same e =
    λ name. has_name-insert names changed key name user.name same e
    ∙ ap (λ b. b || bytes_eq name user.name) (known name)
    ∙ sym (or_push (is_user name) (λ u. bytes_eq name u.name) refl (λ _ _. refl) users user)

-- ---- rows

parts_same : (s t : List ℕ) (k l : ℕ) → k < 2 ^ 32 → l < 2 ^ 32 → row_name s k ≡ row_name t l → (s ≡ t) × (k ≡ l)
parts_same s t k l k_in l_in same =
    let keys : k ≡ l = sym (big_number-reads_back 4 k s k_in) ∙ ap (big_number 4) same ∙ big_number-reads_back 4 l t l_in in
    let schemas : s ≡ t = ap (drop 4) same in
    (schemas, keys)

-- rows have the same name where they have the same schema and key
row_name-same : (s t : List ℕ) (k l : ℕ) → k < 2 ^ 32 → l < 2 ^ 32 → bytes_eq (row_name s k) (row_name t l) ≡ (bytes_eq s t && k == l)
row_name-same s t k l k_in l_in =
    let both = Decides-and (bytes_eq s t) (k == l) (bytes_eq-Decides s t) (Decides-eqb k l) in
    let names = bytes_eq-Decides (row_name s k) (row_name t l) in
    let parts : Decides (bytes_eq s t && k == l) (row_name s k ≡ row_name t l) = (
      λ yes. let same = both.0 yes in ap (λ n. row_name s n) same.1 ∙ ap (λ n. row_name n l) same.0,
      λ same. both.1 (parts_same s t k l k_in l_in same),
    ) in
    same_from_decides (bytes_eq (row_name s k) (row_name t l)) (bytes_eq s t && k == l) names parts

-- a row has a schema and key where the set has its name
pub is_row-contains : {Z : Type 0} (names : BTreeSet (Vec ℕ Z)) (rows : List Row) (schema : List ℕ) (key : ℕ) (name : Vec ℕ Z) → key < 2 ^ 32 →
    KnowsRows names rows → name.items ≡ row_name schema key → is_row schema key rows ≡ contains key_cmp names name
is_row-contains names rows schema key name within known same = sym (known schema key within) ∙ has_name-contains names (row_name schema key) name same

-- the set after one row more
pub KnowsRows-push : {Z : Type 0} (names changed : BTreeSet (Vec ℕ Z)) (rows : List Row) (row : Row) (name : Vec ℕ Z) → row.key < 2 ^ 32 →
    KnowsRows names rows → name.items ≡ row_name row.schema row.key → changed.keys ≡ insert_key key_cmp names.keys name →
    KnowsRows changed (rows ++ row ∷ [])
KnowsRows-push names changed rows row name row_in known same e =
    λ schema key within. has_name-insert names changed name (row_name schema key) (row_name row.schema row.key) same e
    ∙ ap (λ b. b || bytes_eq (row_name schema key) (row_name row.schema row.key)) (known schema key within)
    ∙ ap (λ b. is_row schema key rows || b) (row_name-same schema row.schema key row.key within row_in)
    ∙ sym (or_push (is_row schema key) (λ r. bytes_eq schema r.schema && key == r.key) refl (λ _ _. refl) rows row)
