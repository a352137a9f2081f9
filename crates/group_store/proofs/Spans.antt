-- The rows of a schema stand between its first place and the first place behind them.
use Rattle.std.specs.Prelude.{ℕ, ◌≡◌, ◌<◌, List, [], ◌∷◌, ◌++◌, bytes_eq, cond, not, ◌&&◌, Bool, true, false, Option}
use Rattle.std.specs.Ordering.{nat_cmp, is_le, is_gt, MatchOrdering}
use Rattle.std.specs.Cmp.Lexicographic.{slice_cmp}
use Rattle.std.specs.declared.cmp.Ordering.{Ordering}
use Rattle.std.specs.declared.cmp.Ordering.TheVariants.{Less, Equal, Greater}
use Rattle.std.specs.declared.ops.Bound.TheVariants.{Included, Excluded}
use Rattle.std.specs.BTreeMap.Range.{range_contains, entries_between}
use Rattle.std.proofs.lemmas.Cmp.{nat_cmp_total, nat_list_cmp_total, ranked}
use Rattle.std.proofs.lemmas.Slice.Eq.{bytes_eq-Decides}
use Rattle.std.proofs.Common.{arith, refl, sym, ap, subst, ◌∙◌, true≢false}
use Rattle.group_store.specs.declared.rows.Place.{Place}
use Rattle.group_store.specs.Rows.{Rows, place_order, place_behind, with_row, with_rows}
use Rattle.group_store.proofs.TakingBack.{equal_from}

abbrev pub at_key : List ℕ → ℕ → Place
at_key schema key = record { schema = schema; key = key }

same_number : (n : ℕ) → nat_cmp n n ≡ Equal
same_number n = equal_from (nat_cmp n n) (nat_cmp_total.antisymm n n)

same_text : (text : List ℕ) → slice_cmp nat_cmp text text ≡ Equal
same_text text = equal_from (slice_cmp nat_cmp text text) (nat_list_cmp_total.antisymm text text)

-- a text with one more character is behind it
longer : (text : List ℕ) → slice_cmp nat_cmp (text ++ 0 ∷ []) text ≡ Greater
longer [] = refl
longer (c ∷ text) = rw (same_number c) (longer text)

shorter : (text : List ℕ) → slice_cmp nat_cmp text (text ++ 0 ∷ []) ≡ Less
shorter [] = refl
shorter (c ∷ text) = rw (same_number c) (shorter text)

not_behind : (key : ℕ) (o : Ordering) → MatchOrdering o (0 < key) (0 ≡ key) (key < 0) → is_le o ≡ true
not_behind key Less is = refl
not_behind key Equal is = refl
not_behind key Greater is = absurd (omega (arith, is))

from_first : (schema : List ℕ) (key : ℕ) → is_le (place_order (at_key schema 0) (at_key schema key)) ≡ true
from_first schema key = rw (same_text schema) (not_behind key (nat_cmp 0 key) (ranked 0 key (nat_cmp 0 key) refl))

before_last : (schema : List ℕ) (key : ℕ) → is_le (place_order (place_behind schema) (at_key schema key)) ≡ false
before_last schema key = rw (longer schema) refl

in_order : (schema : List ℕ) → is_gt (place_order (at_key schema 0) (place_behind schema)) ≡ false
in_order schema = rw (shorter schema) refl

pub forward : (schema : List ℕ) (from until : Place) → from ≡ at_key schema 0 → until ≡ place_behind schema → is_gt (place_order from until) ≡ false
forward schema from until first behind = rw (first, behind) (in_order schema)

abbrev spans : List ℕ → Place → Bool
spans schema place = range_contains place_order (Included (at_key schema 0)) (Excluded (place_behind schema)) place

spans_it : (schema : List ℕ) (key : ℕ) → spans schema (at_key schema key) ≡ true
spans_it schema key = rw (from_first schema key, before_last schema key) refl

outside : (schema : List ℕ) (place : Place) (text : Option (List ℕ)) (seen : List (ℕ × List ℕ)) → spans schema place ≡ false
    → with_row schema place text seen ≡ seen
outside schema place text seen out = go (bytes_eq place.schema schema) refl where
  go : (b : Bool) → bytes_eq place.schema schema ≡ b → with_row schema place text seen ≡ seen
  go true e =
      absurd (true≢false (sym (subst (λ s. spans s place ≡ true) ((bytes_eq-Decides place.schema schema).0 e) (spans_it place.schema place.key)) ∙ out))
  go false e = rw e refl

all_between : (schema : List ℕ) (rows : Rows) (seen : List (ℕ × List ℕ))
    → with_rows schema (entries_between place_order (Included (at_key schema 0)) (Excluded (place_behind schema)) rows) seen ≡ with_rows schema rows seen
all_between schema [] seen = refl
all_between schema (entry ∷ rows) seen = go (spans schema entry.0) refl (λ seen. all_between schema rows seen) where
  between : Rows
  between = entries_between place_order (Included (at_key schema 0)) (Excluded (place_behind schema)) rows

  go : (b : Bool) → spans schema entry.0 ≡ b → ((seen : List (ℕ × List ℕ)) → with_rows schema between seen ≡ with_rows schema rows seen)
      → with_rows schema (cond b (entry ∷ between) between) seen ≡ with_rows schema rows (with_row schema entry.0 entry.1.text seen)
  go true e others = others (with_row schema entry.0 entry.1.text seen)
  go false e others = others seen ∙ ap (with_rows schema rows) (sym (outside schema entry.0 entry.1.text seen e))

-- the rows between the first place of a schema and the first place behind it are all rows of the schema
pub all_within : (schema : List ℕ) (rows : Rows) (seen : List (ℕ × List ℕ)) (from until : Place) → from ≡ at_key schema 0 → until ≡ place_behind schema
    → with_rows schema (entries_between place_order (Included from) (Excluded until) rows) seen ≡ with_rows schema rows seen
all_within schema rows seen from until first behind = rw (first, behind) (all_between schema rows seen)
