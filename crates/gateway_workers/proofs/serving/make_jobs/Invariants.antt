use Rattle.std.proofs.Common.{◌≡◌, ◌+◌, ◌++◌, ◌≤◌, map, length, vec_len, vec_capacity}
use Rattle.std.specs.List.{All}
use Rattle.std.specs.Vec.Iter.{into_iter_items}
use Rattle.gateway_workers.specs.Workers.{ends_in}
use Rattle.gateway_workers.proofs.serving.make_jobs.Given as goal

-- the jobs of the first ends, with a part of each share for each that is left
abbrev pub invariant-loop-one : goal.invariant-loop-one
invariant-loop-one g l =
    let rest = into_iter_items l.one-iterator in
    record {
      jobs : map ends_in l.jobs.items ++ rest ≡ l.fn.ends.items;
      none : All (λ job. job.dials.amount ≡ 0) l.jobs.items;
      calls_parts : l.calls.parts ≡ length rest;
      calls : l.calls.amount ≡ 0;
      dials_parts : l.dials.parts ≡ length rest;
      dials : l.dials.amount ≡ 0;
      count : vec_len l.jobs + length rest ≡ vec_len l.fn.ends;
      room : vec_len l.jobs + length rest ≤ vec_capacity l.jobs;
    }
