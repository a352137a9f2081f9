-- Lists of registers: in order, set again, and told.
use Rattle.std.proofs.Common.{◌≡◌, ◌⊎◌, inl, inr, ℕ, suc, ◌≤◌, ◌==◌, Bool, true, false, if◌then◌else◌, cond, List, [], ◌∷◌, ◌++◌, refl}
use Rattle.std.proofs.Common.{sym, ap, ◌∙◌, subst, arith, true≢false, eqb-true}
use Rattle.std.proofs.Common.{map, ◌||◌}
use Rattle.std.proofs.lemmas.Bool.{eq-eqb}
use Rattle.std.specs.List.{AllByRecursion, list_any}
use Rattle.std.specs.Ordering.{nat_cmp, match_ordering}
use Rattle.std.specs.Cmp.{ranked}
use Rattle.std.specs.declared.cmp.Ordering.{Ordering}
use Rattle.std.specs.declared.cmp.Ordering.TheVariants.{Less, Equal, Greater}
use Rattle.member_statements.specs.declared.register.Register.{Register}
use Rattle.member_statements.specs.declared.register.Register.TheVariants.{Schema, Degree, Path, Numbered}
use Rattle.group_store.specs.Unit.{register_rank, Registers}
use Rattle.group_store.specs.Execute.{with_value}
use Rattle.group_store.specs.Values.{IsSet, AreOrdered, AreSet, IsAmong, HasRegister}

abbrev pub Entry : Type 0
Entry = Register × List ℕ

abbrev pub rank : Entry → ℕ
rank entry = register_rank entry.0

pub same_register : (a b : Register) → register_rank a ≡ register_rank b → a ≡ b
same_register Schema Schema e = refl
same_register Schema Degree e = absurd (omega (arith, e))
same_register Schema Path e = absurd (omega (arith, e))
same_register Schema (Numbered n) e = absurd (omega (arith, e))
same_register Degree Schema e = absurd (omega (arith, e))
same_register Degree Degree e = refl
same_register Degree Path e = absurd (omega (arith, e))
same_register Degree (Numbered n) e = absurd (omega (arith, e))
same_register Path Schema e = absurd (omega (arith, e))
same_register Path Degree e = absurd (omega (arith, e))
same_register Path Path e = refl
same_register Path (Numbered n) e = absurd (omega (arith, e))
same_register (Numbered n) Schema e = absurd (omega (arith, e))
same_register (Numbered n) Degree e = absurd (omega (arith, e))
same_register (Numbered n) Path e = absurd (omega (arith, e))
same_register (Numbered n) (Numbered k) e = let same : n ≡ k = omega (arith, e) in ap Numbered same

-- ---- what holds of each

pub of_each : (P : Entry → Type 0) (registers : Registers) → AllByRecursion P registers → (x : Entry) → IsAmong x registers → P x
of_each P [] all x is = absurd is
of_each P (entry ∷ registers) all x (inl e) = subst P (sym e) all.0
of_each P (entry ∷ registers) all x (inr is) = of_each P registers all.1 x is

pub to_each : (P : Entry → Type 0) (registers : Registers) → ((x : Entry) → IsAmong x registers → P x) → AllByRecursion P registers
to_each P [] all = tt
to_each P (entry ∷ registers) all = (all entry (inl refl), to_each P registers (λ x is. all x (inr is)))

-- ---- their order

pub least_rank : (least : ℕ) (registers : Registers) → AreOrdered least registers → (x : Entry) → IsAmong x registers → least ≤ rank x
least_rank least [] order x is = absurd is
least_rank least (entry ∷ registers) order x (inl e) = subst (λ (y : Entry). least ≤ rank y) (sym e) order.0
least_rank least (entry ∷ registers) order x (inr is) = omega (arith, order.0, least_rank (suc (rank entry)) registers order.1 x is)

-- each stands there once
pub one_alone : (least : ℕ) (registers : Registers) → AreOrdered least registers → (x y : Entry) → IsAmong x registers → IsAmong y registers
    → rank x ≡ rank y → x ≡ y
one_alone least [] order x y is also e = absurd is
one_alone least (entry ∷ registers) order x y (inl f) (inl g) e = f ∙ sym g
one_alone least (entry ∷ registers) order x y (inl f) (inr also) e =
    absurd (omega (arith, e, ap rank f, least_rank (suc (rank entry)) registers order.1 y also))
one_alone least (entry ∷ registers) order x y (inr is) (inl g) e =
    absurd (omega (arith, e, ap rank g, least_rank (suc (rank entry)) registers order.1 x is))
one_alone least (entry ∷ registers) order x y (inr is) (inr also) e = one_alone (suc (rank entry)) registers order.1 x y is also e

same_first : (x y : Entry) (a b : Registers) → AreOrdered (suc (rank x)) a → AreOrdered (suc (rank y)) b → (x ≡ y) ⊎ IsAmong x b → (y ≡ x) ⊎ IsAmong y a → x ≡ y
same_first x y a b p q (inl e) other = e
same_first x y a b p q (inr is) (inl e) = sym e
same_first x y a b p q (inr is) (inr also) = absurd (omega (arith, least_rank (suc (rank y)) b q x is, least_rank (suc (rank x)) a p y also))

not_first : (first z : Entry) (rest : Registers) → (z ≡ first) ⊎ IsAmong z rest → (n : ℕ) → rank first ≡ n → suc n ≤ rank z → IsAmong z rest
not_first first z rest (inl e) n same more = absurd (omega (arith, ap rank e, same, more))
not_first first z rest (inr is) n same more = is

-- with the same ones, they are the same list
pub same_list : (least : ℕ) (a b : Registers) → AreOrdered least a → AreOrdered least b → ((x : Entry) → IsAmong x a → IsAmong x b)
    → ((x : Entry) → IsAmong x b → IsAmong x a) → a ≡ b
same_list least [] [] p q to from = refl
same_list least [] (y ∷ b) p q to from = absurd (from y (inl refl))
same_list least (x ∷ a) [] p q to from = absurd (to x (inl refl))
same_list least (x ∷ a) (y ∷ b) p q to from =
    let e : x ≡ y = same_first x y a b p.1 q.1 (to x (inl refl)) (from y (inl refl)) in
    let rest : a ≡ b = same_list (suc (rank x)) a b p.1 (subst (λ (z : Entry). AreOrdered (suc (rank z)) b) (sym e) q.1)
    (λ z is. not_first y z b (to z (inr is)) (rank x) (ap rank (sym e)) (least_rank (suc (rank x)) a p.1 z is))
    (λ z is. not_first x z a (from z (inr is)) (rank y) (ap rank e) (least_rank (suc (rank y)) b q.1 z is)) in
    ap (λ z. z ∷ a) e ∙ ap (λ c. y ∷ c) rest

-- ---- one more value

-- what stands there then
pub among_new : (r : Register) (v : List ℕ) (registers : Registers) (x : Entry) → IsAmong x (with_value r v registers) → (x ≡ (r, v)) ⊎ IsAmong x registers
among_new r v [] x (inl e) = inl e
among_new r v [] x (inr is) = absurd is
among_new r v (entry ∷ registers) x is = go (nat_cmp (register_rank r) (rank entry)) refl (among_new r v registers x) is
  where
    more : (x ≡ (r, v)) ⊎ IsAmong x registers → (x ≡ (r, v)) ⊎ IsAmong x (entry ∷ registers)
    more (inl e) = inl e
    more (inr is) = inr (inr is)

    go : (o : Ordering) → o ≡ nat_cmp (register_rank r) (rank entry) → (IsAmong x (with_value r v registers) → (x ≡ (r, v)) ⊎ IsAmong x registers)
        → IsAmong x (match_ordering o ((r, v) ∷ entry ∷ registers) ((entry.0, v) ∷ registers) (entry ∷ with_value r v registers))
        → (x ≡ (r, v)) ⊎ IsAmong x (entry ∷ registers)
    go Less o others (inl e) = inl e
    go Less o others (inr is) = inr is
    go Equal o others (inl e) = inl (e ∙ ap (λ k. (k, v)) (same_register entry.0 r (sym (ranked (register_rank r) (rank entry) Equal o))))
    go Equal o others (inr is) = inr (inr is)
    go Greater o others (inl e) = inr (inl e)
    go Greater o others (inr is) = more (others is)

pub new_among : (r : Register) (v : List ℕ) (registers : Registers) → IsAmong (r, v) (with_value r v registers)
new_among r v [] = inl refl
new_among r v (entry ∷ registers) = go (nat_cmp (register_rank r) (rank entry)) refl (new_among r v registers)
  where
    go : (o : Ordering) → o ≡ nat_cmp (register_rank r) (rank entry) → IsAmong (r, v) (with_value r v registers)
        → IsAmong (r, v) (match_ordering o ((r, v) ∷ entry ∷ registers) ((entry.0, v) ∷ registers) (entry ∷ with_value r v registers))
    go Less o others = inl refl
    go Equal o others = inl (ap (λ k. (k, v)) (same_register r entry.0 (ranked (register_rank r) (rank entry) Equal o)))
    go Greater o others = inr others

pub stays_among : (r : Register) (v : List ℕ) (registers : Registers) (x : Entry) → IsAmong x registers → (rank x ≡ register_rank r → ⊥)
    → IsAmong x (with_value r v registers)
stays_among r v [] x is ne = absurd is
stays_among r v (entry ∷ registers) x is ne = go (nat_cmp (register_rank r) (rank entry)) refl (λ among. stays_among r v registers x among ne) is
  where
    go : (o : Ordering) → o ≡ nat_cmp (register_rank r) (rank entry) → (IsAmong x registers → IsAmong x (with_value r v registers))
        → IsAmong x (entry ∷ registers)
        → IsAmong x (match_ordering o ((r, v) ∷ entry ∷ registers) ((entry.0, v) ∷ registers) (entry ∷ with_value r v registers))
    go Less o others is = inr is
    go Equal o others (inl e) = absurd (ne (ap rank e ∙ sym (ranked (register_rank r) (rank entry) Equal o)))
    go Equal o others (inr is) = inr is
    go Greater o others (inl e) = inl e
    go Greater o others (inr is) = inr (others is)

pub still_ordered : (least : ℕ) (r : Register) (v : List ℕ) (registers : Registers) → least ≤ register_rank r → AreOrdered least registers
    → AreOrdered least (with_value r v registers)
still_ordered least r v [] low order = (low, tt)
still_ordered least r v (entry ∷ registers) low order =
    go (nat_cmp (register_rank r) (rank entry)) refl (λ more. still_ordered (suc (rank entry)) r v registers more order.1)
  where
    go : (o : Ordering) → o ≡ nat_cmp (register_rank r) (rank entry)
        → (suc (rank entry) ≤ register_rank r → AreOrdered (suc (rank entry)) (with_value r v registers))
        → AreOrdered least (match_ordering o ((r, v) ∷ entry ∷ registers) ((entry.0, v) ∷ registers) (entry ∷ with_value r v registers))
    go Less o others = (low, (omega (arith, ranked (register_rank r) (rank entry) Less o), order.1))
    go Equal o others = (order.0, order.1)
    go Greater o others = (order.0, others (omega (arith, ranked (register_rank r) (rank entry) Greater o)))

pub still_set : (r : Register) (v : List ℕ) (registers : Registers) → IsSet (r, v) → AreSet registers → AreSet (with_value r v registers)
still_set r v registers is set = record {
  each = to_each IsSet (with_value r v registers) (λ x among. go x (among_new r v registers x among));
  order = still_ordered 0 r v registers (omega arith) set.order;
}
  where
    go : (x : Entry) → (x ≡ (r, v)) ⊎ IsAmong x registers → IsSet x
    go x (inl e) = subst IsSet (sym e) is
    go x (inr among) = of_each IsSet registers set.each x among

-- a register that it has it keeps, with whatever value
pub keeps_register : (r : Register) (v : List ℕ) (registers : Registers) (k : Register) → HasRegister k registers → HasRegister k (with_value r v registers)
keeps_register r v registers k has = go (register_rank k == register_rank r) refl
  where
    go : (b : Bool) → (register_rank k == register_rank r) ≡ b → HasRegister k (with_value r v registers)
    go true e = (
      v,
      subst (λ q. IsAmong (q, v) (with_value r v registers)) (sym (same_register k r (eqb-true (register_rank k) (register_rank r) e)))
          (new_among r v registers),
    )
    go false e = (has.0, stays_among r v registers (k, has.0) has.1 (λ f. absurd (true≢false (sym (eq-eqb (register_rank k) (register_rank r) f) ∙ e))))

-- ---- all of a list, one after another

abbrev pub with_values : Registers → Registers → Registers
with_values [] registers = registers
with_values (entry ∷ told) registers = with_values told (with_value entry.0 entry.1 registers)

pub among_all : (told registers : Registers) (x : Entry) → IsAmong x (with_values told registers) → IsAmong x told ⊎ IsAmong x registers
among_all [] registers x is = inr is
among_all (entry ∷ told) registers x is = go (among_all told (with_value entry.0 entry.1 registers) x is)
  where
    old : (x ≡ (entry.0, entry.1)) ⊎ IsAmong x registers → IsAmong x (entry ∷ told) ⊎ IsAmong x registers
    old (inl e) = inl (inl e)
    old (inr is) = inr is

    go : IsAmong x told ⊎ IsAmong x (with_value entry.0 entry.1 registers) → IsAmong x (entry ∷ told) ⊎ IsAmong x registers
    go (inl is) = inl (inr is)
    go (inr is) = old (among_new entry.0 entry.1 registers x is)

pub all_set : (told registers : Registers) → AllByRecursion IsSet told → AreSet registers → AreSet (with_values told registers)
all_set [] registers each set = set
all_set (entry ∷ told) registers each set =
    all_set told (with_value entry.0 entry.1 registers) each.1 (still_set entry.0 entry.1 registers each.0 set)

pub keeps_all : (told registers : Registers) (k : Register) → HasRegister k registers → HasRegister k (with_values told registers)
keeps_all [] registers k has = has
keeps_all (entry ∷ told) registers k has = keeps_all told (with_value entry.0 entry.1 registers) k (keeps_register entry.0 entry.1 registers k has)

pub has_told : (told registers : Registers) (x : Entry) → IsAmong x told → HasRegister x.0 (with_values told registers)
has_told [] registers x is = absurd is
has_told (entry ∷ told) registers x (inl e) =
    keeps_all told (with_value entry.0 entry.1 registers) x.0
    (entry.1, subst (λ k. IsAmong (k, entry.1) (with_value entry.0 entry.1 registers)) (ap (λ (y : Entry). y.0) (sym e)) (new_among entry.0 entry.1 registers))
has_told (entry ∷ told) registers x (inr is) = has_told told (with_value entry.0 entry.1 registers) x is

-- one that no other of them changes stays
stays_all : (told registers : Registers) (x : Entry) → IsAmong x registers → ((y : Entry) → IsAmong y told → rank x ≡ rank y → x ≡ y)
    → IsAmong x (with_values told registers)
stays_all [] registers x is alone = is
stays_all (entry ∷ told) registers x is alone =
    stays_all told (with_value entry.0 entry.1 registers) x (go (rank x == rank entry) refl) (λ y among. alone y (inr among))
  where
    go : (b : Bool) → (rank x == rank entry) ≡ b → IsAmong x (with_value entry.0 entry.1 registers)
    go true e = subst (λ (y : Entry). IsAmong y (with_value entry.0 entry.1 registers)) (sym (alone entry (inl refl) (eqb-true (rank x) (rank entry) e)))
        (new_among entry.0 entry.1 registers)
    go false e = stays_among entry.0 entry.1 registers x is (λ f. absurd (true≢false (sym (eq-eqb (rank x) (rank entry) f) ∙ e)))

told_stays : (told registers : Registers) (x : Entry) → IsAmong x told → ((y : Entry) → IsAmong y told → rank x ≡ rank y → x ≡ y)
    → IsAmong x (with_values told registers)
told_stays [] registers x is alone = absurd is
told_stays (entry ∷ told) registers x (inl e) alone =
    stays_all told (with_value entry.0 entry.1 registers) x
    (subst (λ (y : Entry). IsAmong y (with_value entry.0 entry.1 registers)) (sym e) (new_among entry.0 entry.1 registers)) (λ y among. alone y (inr among))
told_stays (entry ∷ told) registers x (inr is) alone =
    told_stays told (with_value entry.0 entry.1 registers) x is (λ y among. alone y (inr among))

-- the same ones, set one after another, are the same registers
pub set_again : (told registers : Registers) → AreSet registers → ((x : Entry) → IsAmong x told → IsAmong x registers)
    → ((x : Entry) → IsAmong x registers → IsAmong x told) → with_values told [] ≡ registers
set_again told registers set to from =
    same_list 0 (with_values told []) registers
    (all_set told [] (to_each IsSet told (λ x is. of_each IsSet registers set.each x (to x is))) (record { each = tt; order = tt })).order
    set.order (λ x is. back x (among_all told [] x is))
    (λ x is. told_stays told [] x (from x is) (λ y among e. one_alone 0 registers set.order x y is (to y among) e))
  where
    back : (x : Entry) → IsAmong x told ⊎ IsAmong x [] → IsAmong x registers
    back x (inl is) = to x is
    back x (inr is) = absurd is

-- ---- a list as a log keeps it: what is there keeps its place, and any other comes last

abbrev pub has_entry : Entry → Registers → Bool
has_entry entry told = list_any (λ (other : Entry). rank entry == rank other) told

abbrev pub in_place : Entry → Entry → Entry
in_place entry other = if rank entry == rank other then entry else other

abbrev pub told_one : Entry → Registers → Registers
told_one entry told = if has_entry entry told then map (in_place entry) told else told ++ entry ∷ []

abbrev pub told_all : Registers → Registers → Registers
told_all [] told = told
told_all (entry ∷ entries) told = told_all entries (told_one entry told)

-- another one than this
abbrev Differs : Entry → Entry → Type 0
Differs x entry = rank x ≡ rank entry → ⊥

place_among : (entry x : Entry) (told : Registers) → IsAmong x (map (in_place entry) told) → (x ≡ entry) ⊎ (IsAmong x told × Differs x entry)
place_among entry x [] is = absurd is
place_among entry x (other ∷ told) (inl e) = go (rank entry == rank other) refl e
  where
    go : (b : Bool) → (rank entry == rank other) ≡ b → x ≡ cond b entry other → (x ≡ entry) ⊎ (IsAmong x (other ∷ told) × Differs x entry)
    go true f e = inl e
    go false f e = inr (inl e, λ g. absurd (true≢false (sym (eq-eqb (rank entry) (rank other) (sym g ∙ ap rank e)) ∙ f)))
place_among entry x (other ∷ told) (inr is) = go (place_among entry x told is)
  where
    go : (x ≡ entry) ⊎ (IsAmong x told × Differs x entry) → (x ≡ entry) ⊎ (IsAmong x (other ∷ told) × Differs x entry)
    go (inl e) = inl e
    go (inr p) = inr (inr p.0, p.1)

none_has : (entry x : Entry) (told : Registers) → has_entry entry told ≡ false → IsAmong x told → Differs x entry
none_has entry x [] none is = absurd is
none_has entry x (other ∷ told) none is = go (rank entry == rank other) refl (none_has entry x told) none is
  where
    go : (b : Bool) → (rank entry == rank other) ≡ b → (has_entry entry told ≡ false → IsAmong x told → Differs x entry) → (b || has_entry entry told) ≡ false
        → IsAmong x (other ∷ told) → Differs x entry
    go true f others none is = absurd (true≢false none)
    go false f others none (inl e) = λ g. absurd (true≢false (sym (eq-eqb (rank entry) (rank other) (sym g ∙ ap rank e)) ∙ f))
    go false f others none (inr is) = others none is

last_among : (x entry : Entry) (told : Registers) → IsAmong x (told ++ entry ∷ []) → (x ≡ entry) ⊎ IsAmong x told
last_among x entry [] (inl e) = inl e
last_among x entry [] (inr is) = absurd is
last_among x entry (other ∷ told) (inl e) = inr (inl e)
last_among x entry (other ∷ told) (inr is) = go (last_among x entry told is)
  where
    go : (x ≡ entry) ⊎ IsAmong x told → (x ≡ entry) ⊎ IsAmong x (other ∷ told)
    go (inl e) = inl e
    go (inr is) = inr (inr is)

among_one : (entry x : Entry) (told : Registers) → IsAmong x (told_one entry told) → (x ≡ entry) ⊎ (IsAmong x told × Differs x entry)
among_one entry x told is = go (has_entry entry told) refl is
  where
    last : has_entry entry told ≡ false → (x ≡ entry) ⊎ IsAmong x told → (x ≡ entry) ⊎ (IsAmong x told × Differs x entry)
    last none (inl e) = inl e
    last none (inr is) = inr (is, none_has entry x told none is)

    go : (b : Bool) → has_entry entry told ≡ b → IsAmong x (cond b (map (in_place entry) told) (told ++ entry ∷ []))
        → (x ≡ entry) ⊎ (IsAmong x told × Differs x entry)
    go true e is = place_among entry x told is
    go false e is = last e (last_among x entry told is)

last_is : (x : Entry) (told : Registers) → IsAmong x (told ++ x ∷ [])
last_is x [] = inl refl
last_is x (other ∷ told) = inr (last_is x told)

front_is : (x entry : Entry) (told : Registers) → IsAmong x told → IsAmong x (told ++ entry ∷ [])
front_is x entry [] is = absurd is
front_is x entry (other ∷ told) (inl e) = inl e
front_is x entry (other ∷ told) (inr is) = inr (front_is x entry told is)

placed : (entry : Entry) (told : Registers) → has_entry entry told ≡ true → IsAmong entry (map (in_place entry) told)
placed entry [] some = absurd (true≢false (sym some))
placed entry (other ∷ told) some = go (rank entry == rank other) refl (placed entry told) some
  where
    go : (b : Bool) → (rank entry == rank other) ≡ b → (has_entry entry told ≡ true → IsAmong entry (map (in_place entry) told))
        → (b || has_entry entry told) ≡ true → IsAmong entry (cond b entry other ∷ map (in_place entry) told)
    go true e others some = inl refl
    go false e others some = inr (others some)

left_in_place : (entry x : Entry) (told : Registers) → IsAmong x told → Differs x entry → IsAmong x (map (in_place entry) told)
left_in_place entry x [] is ne = absurd is
left_in_place entry x (other ∷ told) (inl e) ne = go (rank entry == rank other) refl
  where
    go : (b : Bool) → (rank entry == rank other) ≡ b → IsAmong x (cond b entry other ∷ map (in_place entry) told)
    go true f = absurd (ne (ap rank e ∙ sym (eqb-true (rank entry) (rank other) f)))
    go false f = inl e
left_in_place entry x (other ∷ told) (inr is) ne = inr (left_in_place entry x told is ne)

one_among : (entry : Entry) (told : Registers) → IsAmong entry (told_one entry told)
one_among entry told = go (has_entry entry told) refl
  where
    go : (b : Bool) → has_entry entry told ≡ b → IsAmong entry (cond b (map (in_place entry) told) (told ++ entry ∷ []))
    go true e = placed entry told e
    go false e = last_is entry told

others_among : (entry x : Entry) (told : Registers) → IsAmong x told → Differs x entry → IsAmong x (told_one entry told)
others_among entry x told is ne = go (has_entry entry told)
  where
    go : (b : Bool) → IsAmong x (cond b (map (in_place entry) told) (told ++ entry ∷ []))
    go true = left_in_place entry x told is ne
    go false = front_is x entry told is

-- of what was there only others are left
pub among_told : (entries told : Registers) (x : Entry) → IsAmong x (told_all entries told)
    → IsAmong x entries ⊎ (IsAmong x told × ((y : Entry) → IsAmong y entries → Differs x y))
among_told [] told x is = inr (is, λ y none. absurd none)
among_told (entry ∷ entries) told x is = go (among_told entries (told_one entry told) x is)
  where
    old : ((y : Entry) → IsAmong y entries → Differs x y) → (x ≡ entry) ⊎ (IsAmong x told × Differs x entry)
        → IsAmong x (entry ∷ entries) ⊎ (IsAmong x told × ((y : Entry) → IsAmong y (entry ∷ entries) → Differs x y))
    old others (inl e) = inl (inl e)
    old others (inr p) = inr (p.0, both)
      where
        both : (y : Entry) → (y ≡ entry) ⊎ IsAmong y entries → Differs x y
        both y (inl e) = λ f. p.1 (f ∙ ap rank e)
        both y (inr is) = others y is

    go : IsAmong x entries ⊎ (IsAmong x (told_one entry told) × ((y : Entry) → IsAmong y entries → Differs x y))
        → IsAmong x (entry ∷ entries) ⊎ (IsAmong x told × ((y : Entry) → IsAmong y (entry ∷ entries) → Differs x y))
    go (inl is) = inl (inr is)
    go (inr p) = old p.1 (among_one entry x told p.0)

others_stay : (entries told : Registers) (x : Entry) → IsAmong x told → ((y : Entry) → IsAmong y entries → Differs x y) → IsAmong x (told_all entries told)
others_stay [] told x is ne = is
others_stay (entry ∷ entries) told x is ne =
    others_stay entries (told_one entry told) x (others_among entry x told is (ne entry (inl refl))) (λ y among. ne y (inr among))

pub told_among : (least : ℕ) (entries told : Registers) → AreOrdered least entries → (x : Entry) → IsAmong x entries → IsAmong x (told_all entries told)
told_among least [] told order x is = absurd is
told_among least (entry ∷ entries) told order x (inl e) =
    others_stay entries (told_one entry told) x (subst (λ (y : Entry). IsAmong y (told_one entry told)) (sym e) (one_among entry told))
    (λ y among f. absurd (omega (arith, f, ap rank e, least_rank (suc (rank entry)) entries order.1 y among)))
told_among least (entry ∷ entries) told order x (inr is) = told_among (suc (rank entry)) entries (told_one entry told) order.1 x is

-- where all that was there is told again, what is there is what was told
pub told_alone : (registers told : Registers) → ((x : Entry) → IsAmong x told → HasRegister x.0 registers) → (x : Entry)
    → IsAmong x (told_all registers told) → IsAmong x registers
told_alone registers told within x is = go (among_told registers told x is)
  where
    go : IsAmong x registers ⊎ (IsAmong x told × ((y : Entry) → IsAmong y registers → Differs x y)) → IsAmong x registers
    go (inl is) = is
    go (inr p) = absurd (p.1 (x.0, (within x p.0).0) (within x p.0).1 refl)
