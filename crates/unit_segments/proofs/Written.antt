-- Commands and replies are written as chains.
use Rattle.std.proofs.Common.{◌≡◌, ℕ, List, [], ◌∷◌, ◌++◌, refl, sym, ap, ◌∙◌}
use Rattle.std.proofs.lemmas.List.{append_assoc, append-nil}
use Rattle.dss_frame.specs.declared.dss.Dss.{Dss}
use Rattle.dss_frame.specs.Dss.{canonical}
use Rattle.unit_segments.specs.Spelling.{linked, join}

join_first : (d : Dss) (replies : List Dss) → join (d ∷ replies) ≡ canonical (linked d replies) ++ join replies
unfolding join
join_first d replies = refl

join_none : join [] ≡ []
unfolding join
join_none = refl

-- one reply more is written
pub joins_on : (out out_now : List ℕ) (d shown : Dss) (replies left all : List Dss) → out ++ join left ≡ join all → left ≡ d ∷ replies →
    shown ≡ linked d replies → out_now ≡ out ++ canonical shown → out_now ++ join replies ≡ join all
joins_on out out_now d shown replies left all so_far first shown_is is =
    ap (λ (xs : List ℕ). xs ++ join replies) (is ∙ ap (λ (x : Dss). out ++ canonical x) shown_is)
    ∙ append_assoc out (canonical (linked d replies)) (join replies)
    ∙ ap (λ (xs : List ℕ). out ++ xs) (sym (join_first d replies))
    ∙ ap (λ (ds : List Dss). out ++ join ds) (sym first) ∙ so_far

pub all_joined : (out : List ℕ) (left all : List Dss) → out ++ join left ≡ join all → left ≡ [] → out ≡ join all
all_joined out left all so_far none =
    sym (append-nil out) ∙ ap (λ (xs : List ℕ). out ++ xs) (sym join_none) ∙ ap (λ (ds : List Dss). out ++ join ds) (sym none) ∙ so_far
