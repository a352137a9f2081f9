-- The parameters of a command that is looked into are objects one after another, and those that it needs are there.
use Rattle.std.proofs.Common.{◌≡◌, ℕ, ◌-◌, ◌&&◌, Bool, true, false, if◌then◌else◌, List, length, Option, Some, None, is_some, Result, Ok, Err}
use Rattle.std.proofs.Common.{refl, sym, ap, subst, ◌∙◌}
use Rattle.ddm_objects.specs.declared.fault.ObjFault.{ObjFault}
use Rattle.ddm_objects.specs.Objects.{Member, outer_of}
use Rattle.ddm_objects.specs.Members.{members_of, first_with, IsMembers, found_or_fault}
use Rattle.ddm_codepoints.specs.CodeClass.{class_of}
use Rattle.ddm_codepoints.specs.CodePoint.{accsec, secmec, accrdb, rdbnam}
use Rattle.access_handshake.specs.Parameter.{parameter}
use Rattle.access_handshake.specs.Parameter as given
use Rattle.access_handshake.specs.Accsec.{has_number, has_secmec}
use Rattle.access_handshake.specs.Rdbnam.{has_rdbnam}
use Rattle.unit_segments.specs.declared.command.Command.{Command}
use Rattle.unit_segments.specs.Command.{BodyFault, code_by, code_of, data_by, data_of, is_looked_into, params_fault, body_fault_by, body_fault}
use Rattle.unit_segments.specs.Command.{has_needed, has_two_bytes}
use Rattle.plain_model.specs.Group.{IsCommand}

-- what is known of the parameters of a command with this code point
pub record Needed (code : ℕ) (params : List ℕ) : Type 0 where
  pub members : IsMembers params
  pub there : has_needed code params ≡ true

params_needed : (offset code : ℕ) (params : List ℕ) (fault : Option ObjFault) → (members_of params).fault ≡ fault
    → params_fault offset code params fault ≡ None → Needed code params
params_needed offset code params (Some f) is e = absurd cc
params_needed offset code params None is e = record { members = is; there = go (has_needed code params) refl e }
  where
    go : (b : Bool) → has_needed code params ≡ b
        → if◌then◌else◌ {A = Option BodyFault} b None (Some (record { offset = 0; err = 0x0E })) ≡ None → has_needed code params ≡ true
    go true is e = is
    go false is e = absurd cc

by_outer : (body : List ℕ) (outer : Result Member ObjFault) → is_looked_into (class_of (code_by outer)) ≡ true → body_fault_by body outer ≡ None
    → Needed (code_by outer) (data_by outer)
by_outer body (Err fault) looked e = absurd cc
by_outer body (Ok object) looked e =
    params_needed (length body - length object.bytes) object.code object.bytes (members_of object.bytes).fault refl
    (sym (ap (λ b. if◌then◌else◌ {A = Option BodyFault} b
    (params_fault (length body - length object.bytes) object.code object.bytes (members_of object.bytes).fault) None) looked) ∙ e)

body_needed : (body : List ℕ) → is_looked_into (class_of (code_of body)) ≡ true → body_fault body ≡ None → Needed (code_of body) (data_of body)
unfolding body_fault
body_needed body looked e = by_outer body (outer_of body) looked e

pub needed : (command : Command) (code : ℕ) → IsCommand command → command.code ≡ code → is_looked_into (class_of code) ≡ true
    → Needed code (data_of command.body)
needed command code is e looked =
    let same : code_of command.body ≡ code = sym is.code ∙ e in
    subst (λ n. Needed n (data_of command.body)) same
    (body_needed command.body (ap (λ n. is_looked_into (class_of n)) same ∙ looked) is.sound)

-- ---- ACCSEC

number_there : (object : Option Member) → has_two_bytes object ≡ true → has_number (given.data_of (Ok object)) ≡ true
number_there None e = e
number_there (Some object) e = e

by_members : (fault : Option ObjFault) (object : Option Member) → fault ≡ None → given.data_of (found_or_fault fault object) ≡ given.data_of (Ok object)
by_members None object e = refl
by_members (Some f) object e = absurd cc

pub secmec_there : (params : List ℕ) → Needed accsec params → has_secmec params ≡ true
unfolding parameter
secmec_there params need =
    ap has_number (by_members (members_of params).fault (first_with secmec (members_of params).objects) need.members)
    ∙ number_there (first_with secmec (members_of params).objects) need.there

-- ---- ACCRDB

name_there : (object : Option Member) (b : Bool) → (is_some object && b) ≡ true → is_some (given.data_of (Ok object)) ≡ true
name_there None b e = e
name_there (Some object) b e = refl

pub rdbnam_there : (params : List ℕ) → Needed accrdb params → has_rdbnam params ≡ true
unfolding parameter
rdbnam_there params need =
    ap is_some (by_members (members_of params).fault (first_with rdbnam (members_of params).objects) need.members)
    ∙ name_there (first_with rdbnam (members_of params).objects) _ need.there
