use Rattle.std.proofs.Common.{◌≡◌, ℕ, Bool, true, sym, ap, ◌∙◌}
use Rattle.server_list.specs.Lists.{Listing, is_listable}
use Rattle.server_list.proofs.Keeping.{blank_left, kept_with_blank_used, view_with_blank_used}
use Rattle.server_list.proofs.list.ServerList.push.Goals as goal

listable : (list seen : Listing) (member : ℕ) (can : Bool) → list ≡ seen → can ≡ is_listable seen.rows member → can ≡ true → is_listable list.rows member ≡ true
listable list seen member can e f g = ap (λ (l : Listing). is_listable l.rows member) e ∙ sym f ∙ g

pub bounds-self-inside-self-inside : goal.bounds-self-inside-self-inside
bounds-self-inside-self-inside c =
    blank_left c.self.inside c.args.row c.self.invariant (listable _ _ c.args.row.member _ c.self.view_is c.can_add.ensures c.if-not-can_add.false)

pub invariant_of-self : goal.invariant_of-self
invariant_of-self c =
    kept_with_blank_used c.self.inside c.args.row c.self.invariant (listable _ _ c.args.row.member _ c.self.view_is c.can_add.ensures c.if-not-can_add.false)

pub returns-clause-list : goal.returns-clause-list
returns-clause-list c =
    rw (← c.self.view_is) (view_with_blank_used c.self.inside c.args.row c.self.invariant (listable _ _ c.args.row.member _ c.self.view_is
    c.can_add.ensures c.if-not-can_add.false))
