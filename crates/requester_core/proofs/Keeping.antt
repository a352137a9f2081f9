-- What is kept of a reply.
use Rattle.std.proofs.Common.{◌≡◌, List, [], ◌∷◌, ◌++◌, map, sym, ◌∙◌, ap, subst}
use Rattle.std.specs.List.{AllByRecursion}
use Rattle.dss_frame.specs.declared.dss.Dss.{Dss}
use Rattle.dss_frame.specs.declared.dss.Placed.{Placed}
use Rattle.unit_segments.specs.Strip.{FitsAReply}

all_placed : (placed : List Placed) → AllByRecursion (λ p. FitsAReply p.dss) placed → AllByRecursion FitsAReply (map (λ p. p.dss) placed)
all_placed [] h = tt
all_placed (p ∷ placed) h = (h.0, all_placed placed h.1)

all_behind : (replies : List Dss) (placed : List Placed) → AllByRecursion FitsAReply replies → AllByRecursion (λ p. FitsAReply p.dss) placed
    → AllByRecursion FitsAReply (replies ++ map (λ p. p.dss) placed)
all_behind [] placed h k = all_placed placed k
all_behind (d ∷ replies) placed h k = (h.0, all_behind replies placed h.1 k)

-- the DSSs before, and these behind them
pub all_kept : (before replies new : List Dss) (placed : List Placed) → new ≡ replies ++ map (λ p. p.dss) placed → replies ≡ before
    → AllByRecursion FitsAReply before → AllByRecursion (λ p. FitsAReply p.dss) placed → AllByRecursion FitsAReply new
all_kept before replies new placed is same h k =
    subst (AllByRecursion FitsAReply) (sym (is ∙ ap (λ (ds : List Dss). ds ++ map (λ p. p.dss) placed) same)) (all_behind before placed h k)

pub none_kept : (replies : List Dss) → replies ≡ [] → AllByRecursion FitsAReply replies
none_kept replies is = subst (AllByRecursion FitsAReply) (sym is) tt
