use Rattle.std.proofs.Common.{rules, ◌≡◌, ◌∷◌}
use Rattle.std.specs.Vec.Iter.{into_iter_items}
use Rattle.gateway_workers.proofs.Putting.{ends_more, none_more}
use Rattle.gateway_workers.proofs.serving.make_jobs.Goals as goal

-- the worker whose turn it is
turn_items : (g : _) (c : goal.After-push_reserved g) → into_iter_items c.loop-one.one-iterator ≡ c.in-Some.one ∷ into_iter_items c.next.new.self
turn_items g c = search rules

pub loop-one-preserved : goal.loop-one-preserved
loop-one-preserved g c =
    let i = c.loop-one.invariant in
    let pushed = c.push_reserved.ensures.items in
    record {
      jobs = ends_more _ _ c.make_job.result c.in-Some.one _ _ _ pushed c.make_job.ensures.ends (turn_items g c) i.jobs;
      none = none_more _ _ c.make_job.result pushed i.none (search rules);
      calls_parts = search rules;
      calls = search rules;
      dials_parts = search rules;
      dials = search rules;
      count = search rules;
      room = search rules;
    }
