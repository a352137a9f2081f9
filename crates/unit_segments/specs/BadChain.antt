-- The first fault of DSSs that are no chains: DRDA, volume 3, DSS: chaining; DDM, volume 3, SYNTAXRM, SYNERRCD. The order of
-- the faults of one DSS is this project's own.
use Rattle.std.specs.Prelude.{◌≡◌, ℕ, ◌+◌, ◌-◌, ◌<◌, ◌≤◌, ◌⊎◌, true, false, List, [], ◌∷◌, ◌++◌, length}
use Rattle.ddm_objects.specs.declared.fault.ObjFault.{ObjFault}
use Rattle.ddm_objects.specs.Objects.{Member, IsObject, IsOuterFault}
use Rattle.ddm_objects.specs.Members.{AreMembers, IsFirstFault}
use Rattle.ddm_codepoints.specs.CodeClass.{class_of}
use Rattle.dss_frame.specs.declared.dss.Dss.{Dss}
use Rattle.dss_frame.specs.declared.dss.Placed.{Placed}
use Rattle.dss_frame.specs.Reading.{further_on}
use Rattle.unit_segments.specs.declared.fault.ChainFault.{ChainFault}
use Rattle.unit_segments.specs.declared.fault.ChainFault.TheVariants.{Syntax, TooMany}
use Rattle.unit_segments.specs.Limit.{most_commands}
use Rattle.unit_segments.specs.Command.{BodyFault, fault_from, missing_error, is_looked_into, has_needed}
use Rattle.unit_segments.specs.Chain.{is_request, wrong_kind, wrong_number}
use Rattle.unit_segments.specs.Grammar.{kind_after, IsNext, none_before, commands_of, IsFront, Chained, Begins}

-- ---- the fault of a body

-- it isn't exactly one object
pub record IsNoObject (fault : BodyFault) (body : List ℕ) : Type 0 where
  pub outer : ObjFault
  pub first : IsOuterFault outer body
  pub told : fault ≡ fault_from 0 outer

-- it is one object, whose data are looked into
pub record IsLookedInto (object : Member) (body : List ℕ) : Type 0 where
  pub one : IsObject true object body
  pub looked : is_looked_into (class_of object.code) ≡ true

-- its data aren't objects one after another
pub record HasBadMember (fault : BodyFault) (body : List ℕ) : Type 0 where
  pub object : Member
  pub is : IsLookedInto object body
  pub before : List Member
  pub member : ObjFault
  pub first : IsFirstFault member before object.bytes
  pub told : fault ≡ fault_from (length body - length object.bytes) member

-- they are, but one is missing that the command needs
pub record LacksParam (fault : BodyFault) (body : List ℕ) : Type 0 where
  pub object : Member
  pub is : IsLookedInto object body
  pub objects : List Member
  pub are : AreMembers objects object.bytes
  pub missing : has_needed object.code object.bytes ≡ false
  pub told : fault ≡ record { offset = 0; err = missing_error }

-- the first fault of a command's body
abbrev pub IsBodyFault : BodyFault → List ℕ → Type 0
IsBodyFault fault body = IsNoObject fault body ⊎ (HasBadMember fault body ⊎ LacksParam fault body)

-- ---- the fault of a DSS

-- the last of these DSSs, or with none of them this one
abbrev pub last_of : Dss → List Placed → Dss
last_of d [] = d
last_of d (next ∷ others) = last_of next.dss others

-- it isn't of the kind that comes next: the format byte, told with the number of the DSS before it in the chain
pub record IsOfOtherKind (begun : List Placed) (bad : Placed) (fault : ChainFault) : Type 0 where
  pub other : bad.dss.kind ≡ kind_after (last_of none_before begun) → ⊥
  pub told : fault ≡ wrong_kind (last_of none_before begun).corr bad

-- it is, but it has another number than the DSS before it, which says that it has the same
pub record HasOtherNumber (begun : List Placed) (bad : Placed) (fault : ChainFault) : Type 0 where
  pub kind : bad.dss.kind ≡ kind_after (last_of none_before begun)
  pub same : (last_of none_before begun).same ≡ true
  pub other : bad.dss.corr ≡ (last_of none_before begun).corr → ⊥
  pub told : fault ≡ wrong_number bad

-- it comes next, and is a request, which begins a command
pub record BeginsCommand (begun : List Placed) (placed : Placed) : Type 0 where
  pub next : IsNext (last_of none_before begun) placed.dss
  pub request : is_request placed.dss.kind ≡ true

-- the command is one more than a chain may have
pub record IsOneTooMany (begun : List Placed) (bad : Placed) (fault : ChainFault) : Type 0 where
  pub begins : BeginsCommand begun bad
  pub full : most_commands ≤ length (commands_of begun)
  pub told : fault ≡ TooMany bad.at bad.dss.corr

-- its body has a fault, which is told by its offset from behind the header
pub record HasBadBody (begun : List Placed) (bad : Placed) (fault : ChainFault) : Type 0 where
  pub begins : BeginsCommand begun bad
  pub room : length (commands_of begun) < most_commands
  pub within : BodyFault
  pub first : IsBodyFault within bad.dss.body
  pub told : fault ≡ Syntax (further_on bad.at (6 + within.offset)) within.err bad.dss.corr

-- the first fault of a DSS behind those that begin a chain
abbrev pub IsFaultOf : List Placed → Placed → ChainFault → Type 0
IsFaultOf begun bad fault =
    IsOfOtherKind begun bad fault ⊎ (HasOtherNumber begun bad fault ⊎ (IsOneTooMany begun bad fault ⊎ HasBadBody begun bad fault))

-- The fault is the first: in front of its DSS stand whole chains, and DSSs without a fault that begin another one.
pub record IsBadChain (placed : List Placed) (fault : ChainFault) : Type 0 where
  pub chains : List Chained
  pub begun : List Placed
  pub bad : Placed
  pub more : List Placed
  pub begins : Begins chains (begun ++ bad ∷ more) placed
  pub front : IsFront true begun
  pub first : IsFaultOf begun bad fault
