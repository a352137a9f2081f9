-- The answer to ACCSEC. DDM, volume 3, ACCSEC, ACCSECRD, SECMEC.
use Rattle.std.specs.Prelude.{ℕ, ◌==◌, ◌||◌, Bool, false, nat_le, List, ◌++◌, length, Option, None, Some, if◌then◌else◌}
use Rattle.byteorder.specs.Endian.{big_number, big_bytes}
use Rattle.ddm_objects.specs.Objects.{canonical_object}
use Rattle.ddm_codepoints.specs.CodePoint.{accsecrd, secmec}
use Rattle.ddm_codepoints.specs.Value.{user_and_password, user_alone}
use Rattle.access_handshake.specs.declared.accsec.AccsecAnswer.{AccsecAnswer}
use Rattle.access_handshake.specs.declared.accsec.AccsecAnswer.TheVariants.{Chosen, Offer}
use Rattle.access_handshake.specs.Parameter.{parameter}

abbrev pub has_number : Option (List ℕ) → Bool
has_number None = false
has_number (Some bytes) = nat_le 2 (length bytes)

-- the parameters have a SECMEC that holds a number: DDM, volume 3, ACCSEC
abbrev pub has_secmec : List ℕ → Bool
has_secmec params = has_number (parameter params secmec)

-- a user with a password, or alone: that the gateway knows these two is this project's choice
abbrev pub is_known_secmec : ℕ → Bool
is_known_secmec mechanism = mechanism == user_and_password || mechanism == user_alone

-- ACCSECRD with the mechanism that is chosen: DDM, volume 3, ACCSECRD
unfoldable pub accsecrd_chosen : ℕ → List ℕ
accsecrd_chosen mechanism = canonical_object accsecrd (canonical_object secmec (big_bytes 2 mechanism))

-- ACCSECRD with those that could be chosen, in one SECMEC: DDM, volume 3, ACCSECRD
unfoldable pub accsecrd_offer : List ℕ
accsecrd_offer = canonical_object accsecrd (canonical_object secmec (big_bytes 2 user_and_password ++ big_bytes 2 user_alone))

abbrev pub answer_to_secmec : ℕ → AccsecAnswer
answer_to_secmec mechanism =
    if is_known_secmec mechanism then Chosen mechanism (accsecrd_chosen mechanism) else Offer accsecrd_offer

-- The answer to the first SECMEC; of a longer one the first two bytes count, which is this project's choice. DDM, volume
-- 3, ACCSEC.
abbrev pub answer_to_data : Option (List ℕ) → AccsecAnswer
answer_to_data None = Offer accsecrd_offer
answer_to_data (Some bytes) = answer_to_secmec (big_number 2 bytes)

-- the answer to ACCSEC with these parameters: DDM, volume 3, ACCSEC
abbrev pub accsec_answer : List ℕ → AccsecAnswer
accsec_answer params = answer_to_data (parameter params secmec)
