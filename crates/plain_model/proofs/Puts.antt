-- A function of numbers that is changed at one.
use Rattle.std.proofs.Common.{◌≡◌, ◌≢◌, ℕ, Bool, true, false, refl, sym, subst, eqb, eqb-true, eq-eqb}
use Rattle.std.proofs.lemmas.Bool.{eqb-false, cond-true, cond-false}
use Rattle.plain_model.specs.Plain.{put}

-- two numbers are the same or not
pub by_equal {ℓ} : {P : Type ℓ} (j i : ℕ) → (j ≡ i → P) → (j ≢ i → P) → P
by_equal {P = P} j i equal other = go (eqb j i) refl
  where
    go : (b : Bool) → eqb j i ≡ b → P
    go true e = equal (eqb-true j i e)
    go false e = other (eqb-false j i e)

pub put_same : {A : Type 0} (f : ℕ → A) (i : ℕ) (x : A) → put f i x i ≡ x
put_same f i x = cond-true (eqb i i) x (f i) (eq-eqb i i refl)

pub put_other : {A : Type 0} (f : ℕ → A) (i : ℕ) (x : A) (j : ℕ) → j ≢ i → put f i x j ≡ f j
put_other f i x j ne = cond-false (eqb j i) x (f j) (other (eqb j i) refl)
  where
    other : (b : Bool) → eqb j i ≡ b → eqb j i ≡ false
    other true e = absurd (ne (eqb-true j i e))
    other false e = e

-- what holds of the new value at i, and of the old ones elsewhere, holds everywhere
pub put_holds : {A : Type 0} (f : ℕ → A) (i : ℕ) (x : A) (P : ℕ → A → Type 0) → P i x → ((j : ℕ) → j ≢ i → P j (f j)) → (j : ℕ) → P j (put f i x j)
put_holds f i x P here there j = by_equal j i
    (λ e. subst (λ k. P k (put f i x k)) (sym e) (subst (λ y. P i y) (sym (put_same f i x)) here))
    (λ ne. subst (λ y. P j y) (sym (put_other f i x j ne)) (there j ne))
