-- Each lend that was answered Dial is dialled.
use Rattle.std.proofs.Common.{◌≡◌, ◌≤◌, ℕ, Bool, true, false, cond, List, [], ◌∷◌, Option, Some, None, refl, sym, ap, ◌∙◌, subst, arith}
use Rattle.unit_segments.specs.declared.command.Command.{Command}
use Rattle.plain_model.specs.Core as core
use Rattle.link_ends.specs.Counts.{one_more}
use Rattle.gateway_session.specs.declared.need.End.{End}
use Rattle.gateway_session.specs.declared.need.Need.{Need}
use Rattle.gateway_session.specs.declared.need.Need.TheVariants as need
use Rattle.gateway_session.specs.declared.loss.Lent.{Lent}
use Rattle.gateway_session.specs.declared.loss.Lent.TheVariants as lent
use Rattle.gateway_session.specs.declared.held.Held.{Held}
use Rattle.gateway_session.specs.Session as session
use Rattle.gateway_session.specs.Session.{Session, uncounted, is_released, need_ended, need_by_end, need_by_saying, need_by_work, need_by_held}
use Rattle.gateway_session.specs.Steps.{after_lend, holding}
use Rattle.gateway_session.specs.Memory.{State, Runs, Closes, need_in, without_list}
use Rattle.gateway_session.specs.Inputs.{Input, App, Lend, Dialled, Sent, Back, Given, Said, Lose, AppEnd}
use Rattle.gateway_server.specs.Feeding.{after_feeding}
use Rattle.gateway_server.specs.declared.lease.Lease.{Lease}
use Rattle.gateway_server.specs.declared.lease.Lease.TheVariants as leases
use Rattle.gateway_server.specs.Leases as lease
use Rattle.gateway_server.specs.Leases.{Grip, Free, Allowed, Follows, grip_in, grip_of, grip_lent, grip_of_held, granted_in}
use Rattle.gateway_server.proofs.Gripping.{says_in}
use Rattle.gateway_server.proofs.Unasked.{list_needs}
use Rattle.gateway_server.specs.Dialling.{pending, pending_in, AsksDial, finds_memory, AfterLend, Counted, counted, Balanced}

abbrev pub is_dial : Need → Bool
is_dial need.Dial = true
is_dial _ = false

-- ---- what isn't pending

pending_by : (grip : Grip) (n : Need) → (pending grip ≡ 1 → n ≡ need.Dial) → is_dial n ≡ false → pending grip ≡ 0
pending_by Free n asks other = refl
pending_by (Allowed number) n asks other = (let e : n ≡ need.Dial = asks refl in absurd cc)
pending_by (lease.Dialled number) n asks other = refl

pub not_pending : (state : State) (n : Need) → AsksDial state → need_in state ≡ n → is_dial n ≡ false → pending_in state ≡ 0
not_pending state n asks e other = pending_by (grip_in state) (need_in state) asks (ap is_dial e ∙ other)

-- nothing is held where a transport is asked for
pub lend_pending : (state : State) → need_in state ≡ need.Lend → pending_in state ≡ 0
lend_pending state e = ap (λ (held : Option Held). pending (grip_of_held held)) (says_in state need.Lend e)

pub follows_none : (new old : Grip) → Follows new old → pending old ≡ 0 → pending new ≡ 0
follows_none Free old f none = refl
follows_none (Allowed number) old f none = subst (λ (grip : Grip). pending grip ≡ 0) (sym f) none
follows_none (lease.Dialled number) old f none = refl

pub asks_none : (state : State) → pending_in state ≡ 0 → AsksDial state
asks_none state none = λ one. absurd (omega arith)

-- ---- want of memory stays

found_before : (i : Input) (closing : _) → finds_memory (after_feeding true i (Closes closing)) ≡ false
found_before (App piece) closing = refl
found_before (Lend lent) closing = refl
found_before (Dialled reached) closing = refl
found_before (Sent count) closing = refl
found_before (Back piece) closing = refl
found_before Given closing = refl
found_before (Said count) closing = refl
found_before (Lose reason) closing = refl
found_before (AppEnd failed) closing = refl

starved_before : (i : Input) (closing : _) → finds_memory (after_feeding false i (Closes closing)) ≡ false
starved_before (App piece) closing = refl
starved_before (Lend lent) closing = refl
starved_before (Dialled reached) closing = refl
starved_before (Sent count) closing = refl
starved_before (Back piece) closing = refl
starved_before Given closing = refl
starved_before (Said count) closing = refl
starved_before (Lose reason) closing = refl
starved_before (AppEnd failed) closing = refl

pub memory_before : (m : Bool) (i : Input) (state : State) → finds_memory (after_feeding m i state) ≡ true → finds_memory state ≡ true
memory_before m i (Runs s) h = refl
memory_before true i (Closes closing) h = (let other = found_before i closing in cc)
memory_before false i (Closes closing) h = (let other = starved_before i closing in cc)

-- ---- a right to dial is what is needed next

work_asks : (segments : List (List Command)) (held : Option Held) (number member : ℕ) → need_by_work segments held ≡ need.Lend
    → need_by_work segments (Some (record { number = number; member = member; talk = None; released = false })) ≡ need.Dial
work_asks [] held number member e = absurd cc
work_asks (segment ∷ segments) held number member e = refl

saying_asks : (bytes : List ℕ) (s : Session) (number member : ℕ) → need_by_saying bytes s ≡ need.Lend
    → need_by_saying bytes (uncounted (holding number member None s)) ≡ need.Dial
saying_asks [] s number member e = work_asks s.core.segments s.held number member e
saying_asks (byte ∷ bytes) s number member e = absurd cc

going_asks : (b : Bool) (s : Session) (number member : ℕ) → cond b need.Give (need_by_saying s.to_say s) ≡ need.Lend
    → need_by_saying s.to_say (uncounted (holding number member None s)) ≡ need.Dial
going_asks true s number member e = absurd cc
going_asks false s number member e = saying_asks s.to_say s number member e

ended_lends : (end : End) (bytes : List ℕ) (gone : Bool) → need_ended end bytes gone ≡ need.Lend → ⊥
ended_lends end [] gone e = absurd cc
ended_lends end (byte ∷ bytes) true e = absurd cc
ended_lends end (byte ∷ bytes) false e = absurd cc

end_asks : (end : Option core.End) (s : Session) (number member : ℕ) → need_by_end end s ≡ need.Lend
    → need_by_end end (uncounted (holding number member None s)) ≡ need.Dial
end_asks None s number member e = going_asks (is_released s.held) s number member e
end_asks (Some end) s number member e = absurd (ended_lends _ s.to_say s.gone e)

holding_asks : (s : Session) (number member : ℕ) → session.need s ≡ need.Lend → session.need (uncounted (holding number member None s)) ≡ need.Dial
unfolding session.need
holding_asks s number member e = end_asks s.core.end s number member e

-- what a session asks after a lend, by whether the answer was Dial
abbrev pub is_dial_lent : Lent → Bool
is_dial_lent (lent.Dial number member) = true
is_dial_lent _ = false

lent_none : (l : Lent) (new : Grip) → is_dial_lent l ≡ false → Follows new (grip_lent l) → pending new ≡ 0
lent_none (lent.Idle number member) new other f = follows_none new (lease.Dialled number) f refl
lent_none (lent.Dial number member) new other f = absurd cc
lent_none lent.Queue new other f = follows_none new Free f refl
lent_none lent.NoneLeft new other f = follows_none new Free f refl
lent_none lent.Worn new other f = follows_none new Free f refl

lent_pending : (l : Lent) → is_dial_lent l ≡ false → pending (grip_lent l) ≡ 0
lent_pending (lent.Idle number member) other = refl
lent_pending (lent.Dial number member) other = absurd cc
lent_pending lent.Queue other = refl
lent_pending lent.NoneLeft other = refl
lent_pending lent.Worn other = refl

others_lent : (l : Lent) (new : State) → is_dial_lent l ≡ false → Follows (grip_in new) (grip_lent l) → AfterLend l new
others_lent l new other f =
    let none : pending_in new ≡ 0 = lent_none l (grip_in new) other f in
    let same : pending (grip_lent l) ≡ 0 = lent_pending l other in
    record { asks = asks_none new none; most = omega arith; all = λ found. none ∙ sym same }

dial_lent : (m : Bool) (number member : ℕ) (state : State) → need_in state ≡ need.Lend
    → AfterLend (lent.Dial number member) (after_feeding m (Lend (lent.Dial number member)) state)
unfolding after_lend
dial_lent true number member (Runs s) e = record { asks = λ one. holding_asks s number member e; most = omega arith; all = λ found. refl }
dial_lent true number member (Closes closing) e = record { asks = λ one. absurd cc; most = omega arith; all = λ found. absurd cc }
dial_lent false number member (Runs s) e = record { asks = λ one. absurd cc; most = omega arith; all = λ found. absurd cc }
dial_lent false number member (Closes closing) e = record { asks = λ one. absurd cc; most = omega arith; all = λ found. absurd cc }

pub lend_asks : (m : Bool) (l : Lent) (state : State) → need_in state ≡ need.Lend → Follows (grip_in (after_feeding m (Lend l) state)) (grip_lent l)
    → AfterLend l (after_feeding m (Lend l) state)
lend_asks m (lent.Dial number member) state e f = dial_lent m number member state e
lend_asks m (lent.Idle number member) state e f = others_lent (lent.Idle number member) (after_feeding m (Lend (lent.Idle number member)) state) refl f
lend_asks m lent.Queue state e f = others_lent lent.Queue (after_feeding m (Lend lent.Queue) state) refl f
lend_asks m lent.NoneLeft state e f = others_lent lent.NoneLeft (after_feeding m (Lend lent.NoneLeft) state) refl f
lend_asks m lent.Worn state e f = others_lent lent.Worn (after_feeding m (Lend lent.Worn) state) refl f

-- ---- a list that is asked for changes nothing of it

pub list_memory : (state : State) → finds_memory (without_list state) ≡ finds_memory state
list_memory (Runs s) = refl
list_memory (Closes closing) = refl

-- ---- the counts

module _ (old new : Counted) (before after : State) (memory : finds_memory after ≡ true → finds_memory before ≡ true) where
  -- no call of a dial, and no lend that was answered Dial
  pub quiet : new ≡ old → pending_in before ≡ 0 → pending_in after ≡ 0 → Balanced old new before after
  quiet e b a =
      let c : new.calls ≡ old.calls = ap (λ (x : Counted). x.calls) e in
      let d : new.dials ≡ old.dials = ap (λ (x : Counted). x.dials) e in
      record { calls = λ x. omega arith; dials = λ x. omega arith; memory = memory; most = λ x y. omega arith; all = λ m x y. omega arith }

  -- a right that was held was dialled
  pub dialled : new.calls ≡ one_more old.calls → new.dials ≡ old.dials → pending_in before ≡ 1 → pending_in after ≡ 0 → Balanced old new before after
  dialled c d b a =
      record { calls = λ x. omega arith; dials = λ x. omega arith; memory = memory; most = λ x y. omega arith; all = λ m x y. omega arith }

  -- a lend was answered Dial
  pub granted : new.calls ≡ old.calls → new.dials ≡ one_more old.dials → pending_in before ≡ 0 → pending_in after ≤ 1
      → (finds_memory after ≡ true → pending_in after ≡ 1) → Balanced old new before after
  granted c d b a all =
      record {
        calls = λ x. omega arith;
        dials = λ x. omega arith;
        memory = memory;
        most = λ x y. omega arith;
        all = λ m x y. (let one : pending_in after ≡ 1 = all m in omega arith);
      }

-- one after another
pub balanced_on : (a b c : Counted) (s t u : State) → Balanced a b s t → Balanced b c t u → Balanced a c s u
balanced_on a b c s t u x y = record {
  calls = λ l. x.calls (y.calls l);
  dials = λ l. x.dials (y.dials l);
  memory = λ m. x.memory (y.memory m);
  most = λ l k. (let p = x.most (y.calls l) (y.dials k) in let q = y.most l k in omega (arith, p, q));
  all = λ m l k. (let p = x.all (y.memory m) (y.calls l) (y.dials k) in let q = y.all m l k in omega (arith, p, q));
}

pub balanced_same : (a : Counted) (s : State) → Balanced a a s s
balanced_same a s =
    record { calls = λ l. l; dials = λ l. l; memory = λ m. m; most = λ l k. omega arith; all = λ m l k. omega arith }

-- where the last state is told otherwise
pub balanced_list : (a b : Counted) (s t : State) → Balanced a b s t → Balanced a b s (without_list t)
balanced_list a b s (Runs t) x = record { calls = x.calls; dials = x.dials; memory = x.memory; most = x.most; all = x.all }
balanced_list a b s (Closes t) x = x

-- ---- the turns

abbrev pub Quiet : Counted → State → State → Type 0
Quiet a old new = Balanced a a old new × AsksDial new

pub memory_of : (m : Bool) (i : Input) (old new : State) → new ≡ after_feeding m i old → finds_memory new ≡ true → finds_memory old ≡ true
memory_of m i old new e found = memory_before m i old (ap finds_memory (sym e) ∙ found)

-- a call that neither lends nor dials
pub quiet_turn : (a : Counted) (m : Bool) (i : Input) (old new : State) (n : Need) → new ≡ after_feeding m i old → AsksDial old → need_in old ≡ n
    → is_dial n ≡ false → (pending_in old ≡ 0 → pending_in new ≡ 0) → Quiet a old new
quiet_turn a m i old new n e asks needs other keeps =
    let before : pending_in old ≡ 0 = not_pending old n asks needs other in
    let after : pending_in new ≡ 0 = keeps before in
    (quiet a a old new (memory_of m i old new e) refl before after, asks_none new after)

pub dial_turn : (calls calls' dials : ℕ) (m : Bool) (i : Input) (old new : State) → new ≡ after_feeding m i old → calls' ≡ one_more calls
    → pending_in old ≡ 1 → pending_in new ≡ 0 → Balanced (counted calls dials) (counted calls' dials) old new
dial_turn calls calls' dials m i old new e c before after =
    dialled (counted calls dials) (counted calls' dials) old new (memory_of m i old new e) c refl before after

lend_turn_by : (g : Grip) (calls dials dials' : ℕ) (old new : State) → (finds_memory new ≡ true → finds_memory old ≡ true) → pending_in old ≡ 0
    → pending_in new ≤ pending g → (finds_memory new ≡ true → pending_in new ≡ pending g)
    → (pending g ≡ 0 → dials' ≡ dials) → (pending g ≡ 1 → dials' ≡ one_more dials) → Balanced (counted calls dials) (counted calls dials') old new
lend_turn_by Free calls dials dials' old new memory before most all same more =
    quiet (counted calls dials) (counted calls dials') old new memory (ap (counted calls) (same refl)) before (omega arith)
lend_turn_by (Allowed number) calls dials dials' old new memory before most all same more =
    granted (counted calls dials) (counted calls dials') old new memory refl (more refl) before most all
lend_turn_by (lease.Dialled number) calls dials dials' old new memory before most all same more =
    quiet (counted calls dials) (counted calls dials') old new memory (ap (counted calls) (same refl)) before (omega arith)

module _ {L : Type 0} where
  granted_same : (l : Lease L) (count : ℕ) → pending (grip_of l) ≡ 0 → granted_in l count ≡ count
  granted_same leases.Nothing count none = refl
  granted_same (leases.Granted grant) count none = absurd (omega arith)
  granted_same (leases.Dialled grant link) count none = refl

  granted_more : (l : Lease L) (count : ℕ) → pending (grip_of l) ≡ 1 → granted_in l count ≡ one_more count
  granted_more leases.Nothing count one = absurd (omega arith)
  granted_more (leases.Granted grant) count one = refl
  granted_more (leases.Dialled grant link) count one = absurd (omega arith)

  pub lend_turn : (l : Lease L) (told : Lent) (calls dials dials' : ℕ) (m : Bool) (i : Input) (old new : State) → new ≡ after_feeding m i old
      → pending_in old ≡ 0 → AfterLend told new → grip_lent told ≡ grip_of l → dials' ≡ granted_in l dials
      → Balanced (counted calls dials) (counted calls dials') old new
  lend_turn l told calls dials dials' m i old new e before after same counts =
      let most : pending_in new ≤ pending (grip_of l) = subst (λ (g : Grip). pending_in new ≤ pending g) same after.most in
      let all : finds_memory new ≡ true → pending_in new ≡ pending (grip_of l) = λ found. after.all found ∙ ap pending same in
      lend_turn_by (grip_of l) calls dials dials' old new (memory_of m i old new e) before most all (λ none. counts ∙ granted_same l dials none)
      (λ one. counts ∙ granted_more l dials one)

-- ---- a whole turn

pub balanced_after : (a b b' : Counted) (s t t' : State) → Balanced a b s t → b' ≡ b → t' ≡ without_list t → Balanced a b' s t'
balanced_after a b b' s t t' x same list =
    subst (λ (c : Counted). Balanced a c s t') (sym same) (subst (λ (u : State). Balanced a b s u) (sym list) (balanced_list a b s t x))

pub asks_after : (t t' : State) → AsksDial t → t' ≡ without_list t → AsksDial t'
asks_after t t' asks list = subst AsksDial (sym list) (asks_list t asks)
  where
    asks_list : (t : State) → AsksDial t → AsksDial (without_list t)
    asks_list (Runs s) asks = λ one. list_needs (Runs s) ∙ asks one
    asks_list (Closes closing) asks = asks
