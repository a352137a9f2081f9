-- What is written into an array is the ACCSEC that it spells.
use Rattle.std.proofs.Common.{◌≡◌, ℕ, ◌++◌, ◌∷◌, [], List, length, replicate, refl, subst}
use Rattle.std.specs.List.{flat_map}
use borrow.Rule.Slice.PartMut.{put_mid}
use Rattle.byteorder.specs.Endian.{big_bytes}
use Rattle.ddm_objects.specs.Objects.{canonical_object}
use Rattle.ddm_codepoints.specs.CodePoint.{accsec, secmec, rdbnam}
use Rattle.ddm_codepoints.proofs.Spread.{spread, spread_is}

abbrev pub accsec_with : ℕ → List ℕ → List ℕ
accsec_with mechanism name = canonical_object accsec (canonical_object secmec (big_bytes 2 mechanism) ++ canonical_object rdbnam name)

abbrev pub accsec_head : ℕ → List ℕ
accsec_head mechanism = flat_map (λ number. big_bytes 2 number) (32 ∷ accsec ∷ 6 ∷ secmec ∷ mechanism ∷ 22 ∷ rdbnam ∷ [])

pub accsec_written : (mechanism : ℕ) (name : List ℕ) → length name ≡ 18
    → put_mid 14 18 (accsec_head mechanism ++ replicate 18 0) name ≡ accsec_with mechanism name
accsec_written mechanism name size =
    let P : List ℕ → Type 0 = λ n. put_mid 14 18 (accsec_head mechanism ++ replicate 18 0) n ≡ accsec_with mechanism n in
    subst P (spread_is 18 name size) refl
