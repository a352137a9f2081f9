-- What is written into an array is the object, or the DSSs, that it spells.
use Rattle.std.proofs.Common.{◌≡◌, ℕ, ◌++◌, ◌∷◌, [], List, length, take, drop, replicate, refl, subst, slice_set}
use Rattle.std.specs.Prelude.{ℤ}
use Rattle.std.specs.List.{flat_map}
use borrow.Rule.Slice.PartMut.{put_mid}
use Rattle.byteorder.specs.Endian.{big_bytes}
use Rattle.dss_frame.specs.declared.dss.Kind.TheVariants.{Reply, Object}
use Rattle.dss_frame.specs.Dss.{canonical, further}
use Rattle.ddm_objects.specs.Objects.{canonical_object}
use Rattle.ddm_codepoints.specs.declared.typdef.TypDef.{TypDef}
use Rattle.ddm_codepoints.specs.declared.typdef.TypDef.TheVariants.{Sql370, SqlAsc, SqlX86}
use Rattle.ddm_codepoints.specs.CodePoint.{svrcod, rdbnam, abnuowrm, sqlcard}
use Rattle.ddm_codepoints.specs.Value.{error}
use Rattle.ddm_codepoints.proofs.Spread.{spread, spread_is}
use Rattle.reply_texts.specs.Text.{codes_in}
use Rattle.reply_texts.specs.Sqlcard.{number_bytes}
use Rattle.reply_texts.specs.Reply.{severity}
use Rattle.reply_texts.specs.Closing.{last, before_same}

-- numbers of two bytes each, one after another
abbrev pub fields : List ℕ → List ℕ
fields numbers = flat_map (λ number. big_bytes 2 number) numbers

-- ---- ABNUOWRM

abbrev pub abnuow_with : List ℕ → List ℕ
abnuow_with name = canonical_object abnuowrm (severity error ++ canonical_object rdbnam name)

abbrev pub abnuow_head : List ℕ
abnuow_head = fields (32 ∷ abnuowrm ∷ 6 ∷ svrcod ∷ error ∷ 22 ∷ rdbnam ∷ [])

pub abnuow_written : (name : List ℕ) → length name ≡ 18 → put_mid 14 18 (abnuow_head ++ replicate 18 0) name ≡ abnuow_with name
abnuow_written name size =
    let P : List ℕ → Type 0 = λ n. put_mid 14 18 (abnuow_head ++ replicate 18 0) n ≡ abnuow_with n in
    subst P (spread_is 18 name size) refl

-- ---- SQLCARD

abbrev pub with_number : List ℕ → List ℕ → List ℕ
with_number head number = put_mid 5 4 (slice_set (head ++ replicate 20 255) 4 0) number

abbrev pub with_state : List ℕ → List ℕ → List ℕ → List ℕ
with_state head number state = put_mid 9 5 (with_number head number) state

abbrev pub with_proc : List ℕ → List ℕ → List ℕ → List ℕ → List ℕ
with_proc head number state proc = put_mid 14 8 (with_state head number state) proc

abbrev pub encoded : TypDef → List ℕ → List ℕ
encoded typdef object = put_mid 9 13 object (codes_in typdef (take 13 (drop 9 object)))

abbrev pub card_head : List ℕ
card_head = fields (24 ∷ sqlcard ∷ [])

abbrev pub card_with : TypDef → List ℕ → List ℕ → List ℕ → List ℕ
card_with typdef number state proc = canonical_object sqlcard (0 ∷ number ++ codes_in typdef state ++ codes_in typdef proc ++ 0xFF ∷ 0xFF ∷ [])

pub number_size : (typdef : TypDef) (number : ℤ) → length (number_bytes typdef number) ≡ 4
number_size Sql370 number = refl
number_size SqlAsc number = refl
number_size SqlX86 number = refl

pub state_room : (number : List ℕ) → length number ≡ 4 → length (take 5 (drop 9 (with_number card_head number))) ≡ 5
state_room number size =
    let P : List ℕ → Type 0 = λ n. length (take 5 (drop 9 (with_number card_head n))) ≡ 5 in
    subst P (spread_is 4 number size) refl

pub proc_room : (number state : List ℕ) → length number ≡ 4 → length state ≡ 5 → length (take 8 (drop 14 (with_state card_head number state))) ≡ 8
proc_room number state size state_size =
    let P : List ℕ → Type 0 = λ n. length (take 8 (drop 14 (with_state card_head n state))) ≡ 8 in
    let Q : List ℕ → Type 0 = λ s. length (take 8 (drop 14 (with_state card_head (spread 4 number) s))) ≡ 8 in
    subst P (spread_is 4 number size) (subst Q (spread_is 5 state state_size) refl)

pub card_written : (typdef : TypDef) (number state proc : List ℕ) → length number ≡ 4 → length state ≡ 5 → length proc ≡ 8
    → encoded typdef (with_proc card_head number state proc) ≡ card_with typdef number state proc
card_written typdef number state proc size state_size proc_size =
    let P : List ℕ → Type 0 = λ n. encoded typdef (with_proc card_head n state proc) ≡ card_with typdef n state proc in
    let Q : List ℕ → Type 0 = λ s. encoded typdef (with_proc card_head (spread 4 number) s proc) ≡ card_with typdef (spread 4 number) s proc in
    let R : List ℕ → Type 0 =
    λ p. encoded typdef (with_proc card_head (spread 4 number) (spread 5 state) p) ≡ card_with typdef (spread 4 number) (spread 5 state) p in
    subst P (spread_is 4 number size) (subst Q (spread_is 5 state state_size) (subst R (spread_is 8 proc proc_size) refl))

-- ---- ABNUOWRM and SQLCARD, each in a DSS

abbrev pub reply_head : ℕ → List ℕ
reply_head corr = fields (38 ∷ 0xD052 ∷ corr ∷ [])

abbrev pub object_head : ℕ → List ℕ
object_head corr = fields (30 ∷ 0xD003 ∷ corr ∷ [])

pub reply_written : (corr : ℕ) (reply : List ℕ) → length reply ≡ 32
    → put_mid 6 32 (reply_head corr ++ replicate 32 0) reply ≡ canonical (before_same Reply corr reply)
unfolding canonical further
reply_written corr reply size =
    let P : List ℕ → Type 0 = λ r. put_mid 6 32 (reply_head corr ++ replicate 32 0) r ≡ canonical (before_same Reply corr r) in
    subst P (spread_is 32 reply size) refl

pub object_written : (corr : ℕ) (object : List ℕ) → length object ≡ 24
    → put_mid 6 24 (object_head corr ++ replicate 24 0) object ≡ canonical (last Object corr object)
unfolding canonical further
object_written corr object size =
    let P : List ℕ → Type 0 = λ o. put_mid 6 24 (object_head corr ++ replicate 24 0) o ≡ canonical (last Object corr o) in
    subst P (spread_is 24 object size) refl

pub joined : (reply object : List ℕ) → length reply ≡ 38 → length object ≡ 30
    → put_mid 38 30 (reply ++ replicate 30 0) object ≡ reply ++ object
joined reply object size object_size =
    let P : List ℕ → Type 0 = λ r. put_mid 38 30 (r ++ replicate 30 0) object ≡ r ++ object in
    let Q : List ℕ → Type 0 = λ o. put_mid 38 30 (spread 38 reply ++ replicate 30 0) o ≡ spread 38 reply ++ o in
    subst P (spread_is 38 reply size) (subst Q (spread_is 30 object object_size) refl)

pub object_room : (reply : List ℕ) → length reply ≡ 38 → length (take 30 (drop 38 (reply ++ replicate 30 0))) ≡ 30
object_room reply size =
    let P : List ℕ → Type 0 = λ r. length (take 30 (drop 38 (r ++ replicate 30 0))) ≡ 30 in
    subst P (spread_is 38 reply size) refl
