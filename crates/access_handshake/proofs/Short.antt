-- How long the answer to EXCSAT is.
use Rattle.std.proofs.Common.{◌≡◌, ℕ, ◌+◌, ◌*◌, ◌≤◌, true, false, cond, leb, List, [], ◌∷◌, ◌++◌, length, Option, Some, None, Result, Ok, Err, refl, arith}
use Rattle.std.proofs.lemmas.List.{length-append}
use Rattle.ddm_objects.specs.declared.fault.ObjFault.{ObjFault}
use Rattle.ddm_objects.specs.Objects.{Member, short_object, long_object, canonical_object}
use Rattle.ddm_objects.specs.Members.{find_of}
use Rattle.ddm_codepoints.specs.CodePoint.{mgrlvlls, excsatrd}
use Rattle.access_handshake.specs.declared.manager.ManagerLevel.{ManagerLevel}
use Rattle.access_handshake.specs.declared.excsat.ExcsatAnswer.TheVariants.{Granted, TooLow}
use Rattle.access_handshake.specs.Managers.{managers_of, granted_list, is_too_low}
use Rattle.access_handshake.specs.Excsat.{server_names, excsatrd_object, mgrlvlrm_object, answer_to, excsat_answer, answer_object}

-- a header has at most eight bytes
canonical_size : (code : ℕ) (bytes : List ℕ) → length (canonical_object code bytes) ≤ length bytes + 8
canonical_size code bytes =
    elim (leb (length bytes) 32763) as (λ b. length (cond b (short_object code bytes) (long_object code bytes)) ≤ length bytes + 8) [
      | true ↦ omega arith
      | false ↦ omega arith
    ]

granted_size : (asked : List ManagerLevel) → length (granted_list asked) ≡ 4 * length asked
granted_size [] = refl
granted_size (manager ∷ asked) = omega (arith, granted_size asked)

managers_size : (list : List ℕ) → 4 * length (managers_of list) ≤ length list
managers_size [] = omega arith
managers_size (a ∷ []) = omega arith
managers_size (a ∷ b ∷ []) = omega arith
managers_size (a ∷ b ∷ c ∷ []) = omega arith
managers_size (a ∷ b ∷ c ∷ d ∷ rest) = omega (arith, managers_size rest)

excsatrd_size : (levels : List ℕ) → length (excsatrd_object levels) ≤ length levels + 37
excsatrd_size levels = omega (arith, canonical_size excsatrd (server_names ++ levels), length-append server_names levels)

answer_size : (size : ℕ) (found : Result (Option Member) ObjFault) → ((object : Member) → found ≡ Ok (Some object) → length object.bytes + 4 ≤ size) →
    length (answer_object (answer_to found)) ≤ size + 64
answer_size size (Ok (Some list)) within =
    let asked : List ManagerLevel = managers_of list.bytes in
    let levels : List ℕ = canonical_object mgrlvlls (granted_list asked) in
    elim (is_too_low asked) as (λ b. length (answer_object (cond b (TooLow mgrlvlrm_object) (Granted (excsatrd_object levels)))) ≤ size + 64) [
      | true ↦ omega arith
      | false ↦
          omega (arith, within list refl, excsatrd_size levels, canonical_size mgrlvlls (granted_list asked), granted_size asked, managers_size list.bytes)
    ]
answer_size size (Ok None) within = omega arith
answer_size size (Err fault) within = omega arith

pub answer_short : ((bytes : List ℕ) (code : ℕ) (object : Member) → find_of bytes code ≡ Ok (Some object) → length object.bytes + 4 ≤ length bytes) →
    (params : List ℕ) → length (answer_object (excsat_answer params)) ≤ length params + 64
unfolding excsat_answer
answer_short within params = answer_size (length params) (find_of params mgrlvlls) (λ object e. within params mgrlvlls object e)
