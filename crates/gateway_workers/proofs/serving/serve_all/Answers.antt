use Rattle.std.proofs.Common.{rules, ◌≡◌, ◌∙◌, ap, sym, ℕ, min, length}
use Rattle.link_ends.specs.Counts.{greatest}
use Rattle.gateway_workers.specs.Back.{IsServed}
use Rattle.gateway_workers.proofs.Putting.{AreSo, pairs, seen_in, seen_after}
use Rattle.gateway_workers.proofs.serving.serve_all.Goals as goal

same_len : (g : _) (c : goal.In_ok-served g) → length c.in_ok-worked.worked.items ≡ length c.in_ok-jobs.jobs.items
same_len g c = search rules

pub returns : goal.returns
returns g c =
    let P = IsServed g.A.Link.state in
    let door = g.D.Door.state in
    let calls : g.row.N.Denot → ℕ = λ dial. (g.N.Dial.state dial).calls in
    let jobs = c.in_ok-jobs.jobs.items in
    let worked = c.in_ok-worked.worked.items in
    let did = c.in_ok-worked.ensures in
    let so : AreSo P door calls jobs worked =
    λ i job one within. record { door = did.doors i job one (search rules); dial = did.dials i job one (search rules) } in
    let of = pairs P door calls jobs worked (same_len g c) so c.in_ok-jobs.ensures.none in
    record {
      works = of.works;
      before = of.before ∙ seen_in P door calls c.args.ends.items jobs c.in_ok-jobs.ensures.jobs;
      now = of.now ∙ seen_after P door calls c.in_ok-served.served.ends.items worked c.in_ok-served.ensures.ends;
      each = of.each;
      session_sum = c.in_ok-served.ensures.sessions ∙ ap (λ n. min n greatest) (sym of.sessions);
      dial_sum = c.in_ok-served.ensures.dials ∙ ap (λ n. min n greatest) (sym of.dials);
      fails = of.fails ∙ sym c.in_ok-served.ensures.failed;
      refuses = of.refuses ∙ sym c.in_ok-served.ensures.refused;
    }
