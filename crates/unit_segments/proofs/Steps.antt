-- One DSS more behind those that begin a chain: it has a fault, or it goes on the chain.
use Rattle.std.proofs.Common.{◌≡◌, ℕ, ◌<◌, ◌⊎◌, Bool, true, false, cond, eqb, leb, List, length}
use Rattle.std.proofs.Common.{Option, Some, None, refl, sym, ap, ◌∙◌, inl, inr}
use Rattle.std.specs.Prelude.{◌&&◌}
use Rattle.std.specs.Option.{option_or}
use Rattle.std.proofs.lemmas.Bool.{both_ways, eqb-true, eqb-false, eq-eqb, ne_eqb, leb-true, leb-false, le-leb, lt-leb, cond-true}
use Rattle.std.proofs.lemmas.Option.{same_Some}
use Rattle.link_ends.specs.Bytes.{AreBytes}
use Rattle.dss_frame.specs.declared.dss.Kind.{Kind}
use Rattle.dss_frame.specs.declared.dss.Kind.TheVariants.{Request, Reply, Object}
use Rattle.dss_frame.specs.declared.dss.Placed.{Placed}
use Rattle.unit_segments.specs.declared.chain_reader.Awaited.TheVariants as awaits
use Rattle.unit_segments.specs.declared.fault.ChainFault.{ChainFault}
use Rattle.unit_segments.specs.declared.fault.ChainFault.TheVariants.{TooMany}
use Rattle.unit_segments.specs.Limit.{most_commands}
use Rattle.unit_segments.specs.Command.{BodyFault, body_fault}
use Rattle.unit_segments.specs.Chain.{OpenChain, is_request, is_object, wrong_kind, wrong_number, order_fault, count_fault, at_body, command_fault, dss_fault}
use Rattle.unit_segments.specs.Chain.{awaited_after}
use Rattle.unit_segments.specs.Grammar.{kind_after, IsNext, none_before, commands_of, HasSoundBody}
use Rattle.unit_segments.specs.BadChain.{last_of, IsFaultOf}
use Rattle.unit_segments.proofs.Bodies.{sound_read, read_sound, read_bad, bad_read}

-- the chain that has begun with these DSSs
abbrev pub opened : List Placed → OpenChain
opened begun = record {
  commands = commands_of begun;
  awaited = awaited_after (last_of none_before begun);
  before = (last_of none_before begun).corr;
}

-- the DSS has no fault behind them
pub record GoesOn (begun : List Placed) (placed : Placed) : Type 0 where
  pub next : IsNext (last_of none_before begun) placed.dss
  pub room : is_request placed.dss.kind ≡ true → length (commands_of begun) < most_commands
  pub sound : HasSoundBody placed

abbrev fault_is : ChainFault → Option ChainFault
fault_is fault = Some fault

abbrev no_fault : Option ChainFault
no_fault = None

-- ---- kinds

kind_of_request : (kind : Kind) → is_request kind ≡ true → kind ≡ Request
kind_of_request Request is = refl
kind_of_request Reply is = absurd cc
kind_of_request Object is = absurd cc

request_kind : (kind : Kind) (fault : ChainFault) → cond (is_request kind) None (Some fault) ≡ no_fault → kind ≡ Request
request_kind Request fault e = refl
request_kind Reply fault e = absurd cc
request_kind Object fault e = absurd cc

object_kind : (kind : Kind) (number : Option ChainFault) (fault : ChainFault) → cond (is_object kind) number (Some fault) ≡ no_fault →
    (kind ≡ Object) × (number ≡ None)
object_kind Request number fault e = absurd cc
object_kind Reply number fault e = absurd cc
object_kind Object number fault e = (refl, e)

abbrev request_is : Kind
request_is = Request

abbrev object_is : Kind
object_is = Object

not_request : (kind : Kind) (told fault : ChainFault) → cond (is_request kind) None (Some told) ≡ fault_is fault → (kind ≡ request_is → ⊥) × (told ≡ fault)
not_request Request told fault e = absurd cc
not_request Reply told fault e = (λ same. absurd cc, same_Some told fault e)
not_request Object told fault e = (λ same. absurd cc, same_Some told fault e)

not_object : (kind : Kind) (number : Option ChainFault) (told fault : ChainFault) → cond (is_object kind) number (Some told) ≡ fault_is fault →
    ((kind ≡ object_is → ⊥) × (told ≡ fault)) ⊎ ((kind ≡ object_is) × (number ≡ Some fault))
not_object Request number told fault e = inl (λ same. absurd cc, same_Some told fault e)
not_object Reply number told fault e = inl (λ same. absurd cc, same_Some told fault e)
not_object Object number told fault e = inr (refl, e)

request_fails : (kind : Kind) (told : ChainFault) → (kind ≡ request_is → ⊥) → cond (is_request kind) None (Some told) ≡ fault_is told
request_fails Request told isnt = absurd (isnt refl)
request_fails Reply told isnt = refl
request_fails Object told isnt = refl

object_fails : (kind : Kind) (number : Option ChainFault) (told : ChainFault) → (kind ≡ object_is → ⊥) →
    cond (is_object kind) number (Some told) ≡ fault_is told
object_fails Request number told isnt = refl
object_fails Reply number told isnt = refl
object_fails Object number told isnt = absurd (isnt refl)

-- ---- what comes next

number_by : (b : Bool) (told : ChainFault) → cond b None (Some told) ≡ no_fault → b ≡ true
number_by true told e = refl
number_by false told e = absurd cc

other_by : (b : Bool) (told fault : ChainFault) → cond b None (Some told) ≡ fault_is fault → (b ≡ false) × (told ≡ fault)
other_by true told fault e = absurd cc
other_by false told fault e = (refl, same_Some told fault e)

record Comes (same : Bool) (corr : ℕ) (placed : Placed) : Type 0 where
  kind : placed.dss.kind ≡ cond same Object Request
  number : same ≡ true → placed.dss.corr ≡ corr

comes_read : (same : Bool) (corr : ℕ) (placed : Placed) → Comes same corr placed →
    order_fault (cond same (awaits.Object corr) awaits.Command) corr placed ≡ no_fault
comes_read true corr placed comes = rw (comes.kind, eq-eqb placed.dss.corr corr (comes.number refl)) refl
comes_read false corr placed comes = rw comes.kind refl

read_comes : (same : Bool) (corr : ℕ) (placed : Placed) → order_fault (cond same (awaits.Object corr) awaits.Command) corr placed ≡ no_fault →
    Comes same corr placed
read_comes true corr placed e =
    let both = object_kind placed.dss.kind (cond (eqb placed.dss.corr corr) None (Some (wrong_number placed))) (wrong_kind corr placed) e in
    record {
      kind = both.0;
      number = λ _. eqb-true placed.dss.corr corr (number_by (eqb placed.dss.corr corr) (wrong_number placed) both.1);
    }
read_comes false corr placed e =
    record { kind = request_kind placed.dss.kind (wrong_kind corr placed) e; number = λ same. absurd (both_ways false refl same) }

-- ---- the first fault

either_some : (a b : Option ChainFault) (fault : ChainFault) → option_or a b ≡ fault_is fault → (a ≡ Some fault) ⊎ ((a ≡ None) × (b ≡ Some fault))
either_some None b fault e = inr (refl, e)
either_some (Some x) b fault e = inl e

either_none : (a b : Option ChainFault) → option_or a b ≡ no_fault → (a ≡ None) × (b ≡ None)
either_none None b e = (refl, e)
either_none (Some x) b e = absurd cc

counted : (request full : Bool) (told : ChainFault) → cond (request && full) (Some told) None ≡ no_fault → request ≡ true → full ≡ false
counted true true told e is = absurd cc
counted true false told e is = refl
counted false full told e is = absurd cc

counts : (request full : Bool) (told : ChainFault) → (request ≡ true → full ≡ false) → cond (request && full) (Some told) None ≡ no_fault
counts true full told room = rw (room refl) refl
counts false full told room = refl

too_many : (request full : Bool) (told fault : ChainFault) → cond (request && full) (Some told) None ≡ fault_is fault →
    (request ≡ true) × (full ≡ true) × (told ≡ fault)
too_many true true told fault e = (refl, refl, same_Some told fault e)
too_many true false told fault e = absurd cc
too_many false full told fault e = absurd cc

body_none : (request : Bool) (placed : Placed) (found : Option BodyFault) → cond request (at_body placed found) None ≡ no_fault → request ≡ true → found ≡ None
body_none true placed None e is = refl
body_none true placed (Some fault) e is = absurd cc
body_none false placed found e is = absurd cc

body_read : (request : Bool) (placed : Placed) (found : Option BodyFault) → (request ≡ true → found ≡ None) →
    cond request (at_body placed found) None ≡ no_fault
body_read true placed found none = rw (none refl) refl
body_read false placed found none = refl

body_some : (request : Bool) (placed : Placed) (found : Option BodyFault) (fault : ChainFault) → cond request (at_body placed found) None ≡ fault_is fault →
    (request ≡ true) × ((within : BodyFault) × (found ≡ Some within) × (at_body placed (Some within) ≡ fault_is fault))
body_some true placed None fault e = absurd cc
body_some true placed (Some within) fault e = (refl, (within, refl, e))
body_some false placed found fault e = absurd cc

-- ---- no fault, and which one

pub goes_on_read : (begun : List Placed) (placed : Placed) → GoesOn begun placed → dss_fault (opened begun) placed ≡ None
unfolding dss_fault
goes_on_read begun placed on =
    let before = last_of none_before begun in
    let request = is_request placed.dss.kind in
    let order = comes_read before.same before.corr placed (record { kind = on.next.kind; number = on.next.number }) in
    let count = counts request (leb most_commands (length (commands_of begun))) (TooMany placed.at placed.dss.corr)
    (λ is. lt-leb most_commands (length (commands_of begun)) (on.room is)) in
    let body = body_read request placed (body_fault placed.dss.body) (λ is. sound_read placed.dss.body (on.sound is)) in
    ap (λ (o : Option ChainFault). option_or o (option_or (count_fault (commands_of begun) placed) (command_fault placed))) order
    ∙ ap (λ (o : Option ChainFault). option_or o (command_fault placed)) count
    ∙ body

pub read_goes_on : (begun : List Placed) (placed : Placed) → AreBytes placed.dss.body → dss_fault (opened begun) placed ≡ None → GoesOn begun placed
unfolding dss_fault
read_goes_on begun placed fits e =
    let before = last_of none_before begun in
    let request = is_request placed.dss.kind in
    let first = either_none (order_fault (awaited_after before) before.corr placed)
    (option_or (count_fault (commands_of begun) placed) (command_fault placed)) e in
    let second = either_none (count_fault (commands_of begun) placed) (command_fault placed) first.1 in
    let comes = read_comes before.same before.corr placed first.0 in
    record {
      next = record { kind = comes.kind; number = comes.number };
      room = λ is.
          leb-false most_commands (length (commands_of begun))
          (counted request (leb most_commands (length (commands_of begun))) (TooMany placed.at placed.dss.corr) second.0 is);
      sound = λ is. read_sound placed.dss.body fits (body_none request placed (body_fault placed.dss.body) second.1 is);
    }

-- it isn't of the kind, or has another number
order_bad : (begun : List Placed) (same : Bool) (corr : ℕ) (placed : Placed) (fault : ChainFault) → (last_of none_before begun).same ≡ same →
    (last_of none_before begun).corr ≡ corr → order_fault (cond same (awaits.Object corr) awaits.Command) corr placed ≡ Some fault →
    IsFaultOf begun placed fault
order_bad begun true corr placed fault same_is corr_is e =
    let kind_is : kind_after (last_of none_before begun) ≡ Object = rw same_is refl in
    elim (not_object placed.dss.kind (cond (eqb placed.dss.corr corr) None (Some (wrong_number placed))) (wrong_kind corr placed) fault e) [
      | inl wrong ↦
          inl (record {
            other = λ k. wrong.0 (k ∙ kind_is);
            told = sym wrong.1 ∙ ap (λ (n : ℕ). wrong_kind n placed) (sym corr_is);
          })
      | inr right ↦
          let number = other_by (eqb placed.dss.corr corr) (wrong_number placed) fault right.1 in
          inr (inl (record {
            kind = right.0 ∙ sym kind_is;
            same = same_is;
            other = λ n. eqb-false placed.dss.corr corr number.0 (n ∙ corr_is);
            told = sym number.1;
          }))
    ]
order_bad begun false corr placed fault same_is corr_is e =
    let kind_is : kind_after (last_of none_before begun) ≡ Request = rw same_is refl in
    let wrong = not_request placed.dss.kind (wrong_kind corr placed) fault e in
    inl (record {
      other = λ k. wrong.0 (k ∙ kind_is);
      told = sym wrong.1 ∙ ap (λ (n : ℕ). wrong_kind n placed) (sym corr_is);
    })

pub fault_first : (begun : List Placed) (placed : Placed) (fault : ChainFault) → AreBytes placed.dss.body → dss_fault (opened begun) placed ≡ Some fault →
    IsFaultOf begun placed fault
unfolding dss_fault
fault_first begun placed fault fits e =
    let before = last_of none_before begun in
    let request = is_request placed.dss.kind in
    elim (either_some (order_fault (awaited_after before) before.corr placed)
    (option_or (count_fault (commands_of begun) placed) (command_fault placed)) fault e) [
      | inl order ↦ order_bad begun before.same before.corr placed fault refl refl order
      | inr later ↦
          let comes = read_comes before.same before.corr placed later.0 in
          let next : IsNext before placed.dss = record { kind = comes.kind; number = comes.number } in
          elim (either_some (count_fault (commands_of begun) placed) (command_fault placed) fault later.1) [
            | inl count ↦
                let many = too_many request (leb most_commands (length (commands_of begun))) (TooMany placed.at placed.dss.corr) fault count in
                inr (inr (inl (record {
                  begins = record { next = next; request = many.0 };
                  full = leb-true most_commands (length (commands_of begun)) many.1;
                  told = sym many.2;
                })))
            | inr last ↦
                let body = body_some request placed (body_fault placed.dss.body) fault last.1 in
                let room = counted request (leb most_commands (length (commands_of begun))) (TooMany placed.at placed.dss.corr) last.0 body.0 in
                inr (inr (inr (record {
                  begins = record { next = next; request = body.0 };
                  room = leb-false most_commands (length (commands_of begun)) room;
                  within = body.1.0;
                  first = read_bad placed.dss.body body.1.0 fits body.1.1;
                  told = sym (same_Some _ fault body.1.2);
                })))
          ]
    ]

-- ---- the first fault is read

kind_met : (same : Bool) (corr : ℕ) (placed : Placed) → (placed.dss.kind ≡ cond same Object Request → ⊥) →
    order_fault (cond same (awaits.Object corr) awaits.Command) corr placed ≡ Some (wrong_kind corr placed)
kind_met true corr placed other =
    object_fails placed.dss.kind (cond (eqb placed.dss.corr corr) None (Some (wrong_number placed))) (wrong_kind corr placed) other
kind_met false corr placed other = request_fails placed.dss.kind (wrong_kind corr placed) other

number_met : (same : Bool) (corr : ℕ) (placed : Placed) → same ≡ true → placed.dss.kind ≡ cond same Object Request → (placed.dss.corr ≡ corr → ⊥) →
    order_fault (cond same (awaits.Object corr) awaits.Command) corr placed ≡ Some (wrong_number placed)
number_met true corr placed is kind other = rw (kind, ne_eqb placed.dss.corr corr other) refl
number_met false corr placed is kind other = absurd (both_ways false refl is)

order_met : (begun : List Placed) (placed : Placed) (fault : ChainFault) →
    order_fault (opened begun).awaited (opened begun).before placed ≡ Some fault → dss_fault (opened begun) placed ≡ Some fault
unfolding dss_fault
order_met begun placed fault e =
    ap (λ (o : Option ChainFault). option_or o (option_or (count_fault (commands_of begun) placed) (command_fault placed))) e

later_met : (begun : List Placed) (placed : Placed) → IsNext (last_of none_before begun) placed.dss →
    dss_fault (opened begun) placed ≡ option_or (count_fault (commands_of begun) placed) (command_fault placed)
unfolding dss_fault
later_met begun placed next =
    let before = last_of none_before begun in
    let order = comes_read before.same before.corr placed (record { kind = next.kind; number = next.number }) in
    ap (λ (o : Option ChainFault). option_or o (option_or (count_fault (commands_of begun) placed) (command_fault placed))) order

pub first_read : (begun : List Placed) (placed : Placed) (fault : ChainFault) → AreBytes placed.dss.body → IsFaultOf begun placed fault →
    dss_fault (opened begun) placed ≡ Some fault
first_read begun placed fault fits (inl bad) =
    let before = last_of none_before begun in
    order_met begun placed fault (kind_met before.same before.corr placed bad.other ∙ ap fault_is (sym bad.told))
first_read begun placed fault fits (inr (inl bad)) =
    let before = last_of none_before begun in
    order_met begun placed fault (number_met before.same before.corr placed bad.same bad.kind bad.other ∙ ap fault_is (sym bad.told))
first_read begun placed fault fits (inr (inr (inl bad))) =
    let full = le-leb most_commands (length (commands_of begun)) bad.full in
    let count : count_fault (commands_of begun) placed ≡ Some (TooMany placed.at placed.dss.corr) = rw (bad.begins.request, full) refl in
    later_met begun placed bad.begins.next
    ∙ ap (λ (o : Option ChainFault). option_or o (command_fault placed)) count
    ∙ ap fault_is (sym bad.told)
first_read begun placed fault fits (inr (inr (inr bad))) =
    let room = lt-leb most_commands (length (commands_of begun)) bad.room in
    let count : count_fault (commands_of begun) placed ≡ None = rw (bad.begins.request, room) refl in
    let body : command_fault placed ≡ at_body placed (Some bad.within) =
    cond-true (is_request placed.dss.kind) (at_body placed (body_fault placed.dss.body)) None bad.begins.request
    ∙ ap (at_body placed) (bad_read placed.dss.body bad.within fits bad.first) in
    later_met begun placed bad.begins.next
    ∙ ap (λ (o : Option ChainFault). option_or o (command_fault placed)) count
    ∙ body
    ∙ ap fault_is (sym bad.told)
