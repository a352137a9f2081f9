use Rattle.std.proofs.Common.{◌≡◌, ◌+◌, ◌≤◌, ◌++◌, ◌||◌, min, map, length, vec_len, vec_capacity, sum_by}
use Rattle.std.specs.List.{list_any}
use Rattle.std.specs.Vec.Iter.{into_iter_items, into_iter_len}
use Rattle.link_ends.specs.Counts.{greatest}
use Rattle.gateway_workers.specs.Workers.{ends_after}
use Rattle.gateway_workers.proofs.settling.settle.Given as goal

abbrev pub invariant-loop-one : goal.invariant-loop-one
invariant-loop-one g l =
    let rest = into_iter_items l.one-iterator in
    let all = l.fn.worked.items in
    record {
      ends : l.ends.items ++ map ends_after rest ≡ map ends_after all;
      calls_parts : l.counted.calls.parts + length rest ≡ l.fn.calls.parts + length all;
      dials_parts : l.counted.dials.parts + length rest ≡ l.fn.dials.parts + length all;
      calls : l.counted.calls.amount + sum_by (λ w. w.job.calls.amount) rest ≡ sum_by (λ w. w.job.calls.amount) all;
      dials : l.counted.dials.amount + sum_by (λ w. w.job.dials.amount) rest ≡ sum_by (λ w. w.job.dials.amount) all;
      failed : (l.counted.door_failed || list_any (λ w. w.failed) rest) ≡ list_any (λ w. w.failed) all;
      refused : (l.counted.refused || list_any (λ w. w.refused) rest) ≡ list_any (λ w. w.refused) all;
      sessions : min (l.counted.sessions + sum_by (λ w. w.sessions) rest) greatest ≡ min (sum_by (λ w. w.sessions) all) greatest;
      room : vec_len l.ends + length rest ≤ vec_capacity l.ends;
      most : l.counted.sessions ≤ greatest;
      left : into_iter_len l.one-iterator ≡ length rest;
    }
