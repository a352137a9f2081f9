-- How the lists that members send are kept in place: beside them stands a list without rows. This project's own.
use Rattle.std.specs.Prelude.{◌≡◌, List, Option, length}
use Rattle.std.proofs.Common.{sym, ap}
use Rattle.server_list.specs.Lists.{Listing, no_rows}
use Rattle.gateway_setup.specs.declared.sent_lists.SentLists.TheInside.{Inside}

abbrev pub lists_in : Inside → List (Option Listing)
lists_in kept = kept.lists

abbrev pub inside_of : List (Option Listing) → Inside
inside_of lists = record { lists = lists; none = no_rows }

pub record IsKept (kept : Inside) : Type 0 where
  pub size : length kept.lists ≡ 32
  pub none : kept.none ≡ no_rows

-- the lists are all that there is
pub inside_is_kept : (kept : Inside) → IsKept kept → inside_of (lists_in kept) ≡ kept
inside_is_kept kept is_kept =
    let made : Listing → Inside = λ none. record { lists = kept.lists; none = none } in
    ap (λ (none : Listing). made none) (sym is_kept.none)
