use Rattle.std.proofs.Common.{rules, arith, ◌≡◌, ◌∷◌, sym, ◌∙◌}
use Rattle.std.proofs.lemmas.List.{nil_from_length}
use Rattle.std.specs.Vec.Iter.{into_iter_items}
use Rattle.gateway_workers.proofs.Sums.{map_step, sum_step, capped_step, count_step, any_step, map_none, sum_none, capped_none, count_none, any_none, any_all, map_all}
use Rattle.gateway_workers.proofs.settling.settle.Goals as goal

-- the worker whose turn it is
turn_items : (g : _) (c : goal.After-push_reserved g) → into_iter_items c.loop-one.one-iterator ≡ c.in-Some.one ∷ into_iter_items c.next.new.self
turn_items g c = search rules

pub loop-one-init : goal.loop-one-init
loop-one-init g c =
    let e = c.into_iter-one-iterator.ensures.into_iter_gives.0 in
    record {
      ends = map_none _ _ e _ _ c.in_ok-ends.ensures.items;
      calls_parts = count_none _ _ e _;
      dials_parts = count_none _ _ e _;
      calls = sum_none _ _ e _ _ c.requires.calls.1;
      dials = sum_none _ _ e _ _ c.requires.dials.1;
      failed = any_none _ _ e _;
      refused = any_none _ _ e _;
      sessions = capped_none _ _ e _;
      room = search rules;
      most = omega arith;
      left = search rules;
    }

pub loop-one-preserved : goal.loop-one-preserved
loop-one-preserved g c =
    let i = c.loop-one.invariant in
    let e = turn_items g c in
    record {
      ends = map_step _ _ _ e _ _ _ _ (c.push_reserved.ensures.items ∙ search rules) i.ends;
      calls_parts = count_step _ _ _ e _ _ _ c.add.ensures.calls.0 i.calls_parts;
      dials_parts = count_step _ _ _ e _ _ _ c.add.ensures.dials.0 i.dials_parts;
      calls = sum_step _ _ _ e _ _ _ _ c.add.ensures.calls.1 i.calls;
      dials = sum_step _ _ _ e _ _ _ _ c.add.ensures.dials.1 i.dials;
      failed = any_step _ _ _ e _ _ _ _ c.add.ensures.failed i.failed;
      refused = any_step _ _ _ e _ _ _ _ c.add.ensures.refused i.refused;
      sessions = capped_step _ _ _ e _ _ _ _ c.add.ensures.sessions i.sessions;
      room = search rules;
      most = search rules;
      left = search rules;
    }

pub returns-clause-failed : goal.returns-clause-failed
returns-clause-failed g c = let e = nil_from_length _ (sym c.loop-one.invariant.left ∙ (search rules)) in any_all _ e _ _ _ c.loop-one.invariant.failed

pub returns-clause-refused : goal.returns-clause-refused
returns-clause-refused g c = let e = nil_from_length _ (sym c.loop-one.invariant.left ∙ (search rules)) in any_all _ e _ _ _ c.loop-one.invariant.refused

pub returns-clause-ends : goal.returns-clause-ends
returns-clause-ends g c = let e = nil_from_length _ (sym c.loop-one.invariant.left ∙ (search rules)) in map_all _ e _ _ _ c.loop-one.invariant.ends
