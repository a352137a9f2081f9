-- How often a worker's dial was called, session by session.
use Rattle.std.proofs.Common.{ℕ, min, Bool, false, refl, arith}
use Rattle.link_ends.specs.Counts.{greatest}
use Rattle.gateway_workers.specs.Dials.{HasDialled}

pub dialled_none : (calls dials : ℕ) → HasDialled calls dials calls dials false
dialled_none calls dials =
    record {
      calls_before = λ below. below;
      dials_before = λ below. below;
      most = λ below fewer. omega arith;
      all = λ found below fewer. refl;
    }

-- one session more
pub dialled_more : (calls dials calls_now dials_now calls_new dials_new : ℕ) (refused : Bool) → HasDialled calls dials calls_now dials_now false
    → HasDialled calls_now dials_now calls_new dials_new refused → HasDialled calls dials calls_new dials_new refused
dialled_more calls dials calls_now dials_now calls_new dials_new refused so_far next =
    record {
      calls_before = λ below. so_far.calls_before (next.calls_before below);
      dials_before = λ below. so_far.dials_before (next.dials_before below);
      most = λ below fewer.
          let a = so_far.all refl (next.calls_before below) (next.dials_before fewer) in
          let b = next.most below fewer in
          omega (arith, a, b);
      all = λ found below fewer.
          let a = so_far.all refl (next.calls_before below) (next.dials_before fewer) in
          let b = next.all found below fewer in
          omega (arith, a, b);
    }

-- The same by counts of 64 bits, which stand for the amounts of a share.
pub dialled_capped : (calls amount calls_now amount_now : ℕ) (refused : Bool)
    → HasDialled calls (min amount greatest) calls_now (min amount_now greatest) refused → HasDialled calls amount calls_now amount_now refused
dialled_capped calls amount calls_now amount_now refused capped =
    record {
      calls_before = capped.calls_before;
      dials_before = λ fewer. let fits = capped.dials_before (omega (arith, fewer)) in omega (arith, fits);
      most = λ below fewer.
          let fits = capped.dials_before (omega (arith, fewer)) in
          let h = capped.most below (omega (arith, fewer)) in
          omega (arith, fits, fewer, h);
      all = λ found below fewer.
          let fits = capped.dials_before (omega (arith, fewer)) in
          let h = capped.all found below (omega (arith, fewer)) in
          omega (arith, fits, fewer, h);
    }
