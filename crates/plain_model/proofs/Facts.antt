-- The fact that every session keeps: of its account, and of the segment in work.
use Rattle.std.proofs.Common.{◌≡◌, ◌≢◌, ℕ, Bool, true, false, if◌then◌else◌, List, [], ap, sym, refl, subst, ◌∙◌}
use Rattle.std.specs.List.{AllByRecursion}
use Rattle.dss_frame.specs.declared.dss.Dss.{Dss}
use Rattle.unit_segments.specs.declared.command.Command.{Command}
use Rattle.unit_segments.specs.Strip.{is_committed}
use Rattle.plain_model.specs.Core.{Core, Owed, Nothing, first, has_commit}
use Rattle.plain_model.specs.Group.{IsCommand}
use Rattle.plain_model.specs.Plain.{Session, InFlight}
use Rattle.plain_model.proofs.Segments.{AreSegments}
use Rattle.plain_model.proofs.Replies.{AreUpTo}
use Rattle.plain_model.proofs.Accounts.{Account, Books}
use Rattle.plain_model.proofs.Cores.{is_bereft}

-- how often the replies to the segment in work say that the unit was committed
abbrev pub won : List Command → List Dss → ℕ
won segment part = if is_committed segment part then 1 else 0

pub record Works (k : Core) (ran : ℕ) (part : List Dss) : Type 0 where
  pub still_none : k.sent ≡ false → (ran ≡ 0) × (part ≡ [])
  pub owed_sent : k.owed ≢ Nothing → k.sent ≡ false
  pub cut : AreSegments k.segments
  pub up_to : AreUpTo ran part
  pub again : AllByRecursion IsCommand k.again
  pub wins : has_commit (first k.segments) ≡ false → is_committed (first k.segments) part ≡ false

pub record FactOf {U : Type 0} (k : Core) (ran : ℕ) (part : List Dss) (flight : ℕ → InFlight U) (l : Account) : Type 0 where
  pub books : Books k.unit k.owed (is_bereft k.end) flight l
  pub bereft_sent : is_bereft k.end ≡ true → k.sent ≡ false
  pub works : Works k ran part
  pub working : l.commits k.unit ≡ won (first k.segments) part

abbrev pub Fact : {U : Type 0} → Session U → Account → Type 0
Fact q l = FactOf q.core q.ran q.part q.in_flight l

-- a segment of which nothing ran
pub works_start : (k : Core) → (k.owed ≢ Nothing → k.sent ≡ false) → AreSegments k.segments → AllByRecursion IsCommand k.again → Works k 0 []
works_start k o all again = record { still_none = λ e. (refl, refl); owed_sent = o; cut = all; up_to = tt; again = again; wins = λ e. refl }

-- nothing is won before the segment is sent
pub still_won : {U : Type 0} (k : Core) (ran : ℕ) (part : List Dss) (flight : ℕ → InFlight U) (l : Account) → FactOf k ran part flight l
    → k.sent ≡ false → won (first k.segments) part ≡ 0
still_won k ran part flight l f e = ap (λ p. won (first k.segments) p) (f.works.still_none e).1

pub books_with : {U : Type 0} (unit unit2 : ℕ) (o o2 : Owed) (b b2 : Bool) (flight : ℕ → InFlight U) (l : Account) → unit2 ≡ unit → o2 ≡ o → b2 ≡ b
    → Books unit o b flight l → Books unit2 o2 b2 flight l
books_with unit unit2 o o2 b b2 flight l eu eo eb books =
    subst (λ n. Books n o2 b2 flight l) (sym eu) (subst (λ n. Books unit n b2 flight l) (sym eo) (subst (λ n. Books unit o n flight l) (sym eb) books))

-- Another core of the same unit, of whose segment nothing ran. The unit wasn't committed.
pub same_unit : {U : Type 0} (k j : Core) (ran : ℕ) (part : List Dss) (flight : ℕ → InFlight U) (l : Account) → FactOf k ran part flight l
    → j.unit ≡ k.unit → j.owed ≡ k.owed → is_bereft j.end ≡ is_bereft k.end → (j.owed ≢ Nothing → j.sent ≡ false) → (is_bereft j.end ≡ true → j.sent ≡ false)
    → AreSegments j.segments → AllByRecursion IsCommand j.again → won (first k.segments) part ≡ 0 → FactOf j 0 [] flight l
same_unit k j ran part flight l f eu eo eb owed_sent bereft_sent all again none = record {
  books = books_with k.unit j.unit k.owed j.owed (is_bereft k.end) (is_bereft j.end) flight l eu eo eb f.books;
  bereft_sent = bereft_sent;
  works = works_start j owed_sent all again;
  working = ap l.commits eu ∙ f.working ∙ none;
}
