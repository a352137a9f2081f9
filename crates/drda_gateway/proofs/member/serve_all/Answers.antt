use Rattle.std.proofs.Common.{◌≡◌, ◌∙◌, ap, [], ◌++◌, map, min, length, subst, arith, rules}
use Rattle.std.specs.List.{sum_by, list_any}
use Rattle.link_ends.specs.Counts.{greatest}
use Rattle.member_server.specs.Doors.{IsServed}
use Rattle.drda_gateway.specs.Member.{WereServed}
use Rattle.drda_gateway.proofs.Membering.{were_served}
use Rattle.group_store.specs.Store.{store_meaning}
use Rattle.drda_gateway.proofs.member.serve_all.Goals as goal

pub returns : goal.returns
returns g c =
    let worked = c.in_ok-worked.worked in
    let taken = c.replace-taken.result in
    let counted : c.deref-2.result.now ≡ worked.items = c.deref-2.ensures.value in
    let same : taken.items ≡ c.args.doors.now.items = search rules in
    let none : c.replace-taken.new.dest.items ≡ [] = search rules in
    let put : c.put_back.new.doors.items ≡ map (λ one. one.door) worked.items =
    c.in_ok-put_back.ensures ∙ ap (λ ds. ds ++ map (λ one. one.door) worked.items) none in
    let length_is : length worked.items ≡ length taken.items = omega (arith, worked.ok.0, taken.ok.0, c.in_ok-worked.ensures.len) in
    let all = were_served (IsServed g.A.Link.state store_meaning) g.D.Door.state taken.items c.put_back.new.doors.items worked.items
    c.count-counted.result.failed length_is (λ i door one within. c.in_ok-worked.ensures.each i door one (omega (arith, within, taken.ok.0))) put
    (c.count-counted.ensures.failed ∙ ap (λ ws. list_any (λ one. one.failed) ws) counted) in (
      sum_by (λ one. one.sessions) worked.items,
      c.count-counted.ensures.sessions ∙ ap (λ ws. min (sum_by (λ one. one.sessions) ws) greatest) counted,
      subst (λ ds. WereServed (IsServed g.A.Link.state store_meaning) (sum_by (λ one. one.sessions) worked.items) c.count-counted.result.failed
          (map g.D.Door.state ds) (map g.D.Door.state c.put_back.new.doors.items)) same all,
    )
