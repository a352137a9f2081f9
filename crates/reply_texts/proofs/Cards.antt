-- What is written of a card is read as this card.
use Rattle.std.proofs.Common.{◌≡◌, ℕ, ◌<◌, ◌^◌, ◌++◌, ◌∷◌, [], ◌&&◌, Bool, true, false, List, length, map, Option, Some, None, is_some, refl, sym}
use Rattle.std.proofs.Common.{◌∙◌, ap, subst, arith, ◌≤◌}
use Rattle.std.specs.Prelude.{ℤ, FitsSigned}
use Rattle.std.specs.Int.{w32, cast_signed, cast_unsigned}
use Rattle.std.specs.List.{list_all}
use Rattle.std.proofs.lemmas.Int.{to_z-of_z}
use Rattle.std.proofs.lemmas.Bool.{and_parts}
use mir.ValLaws.{of_z_fits}
use Rattle.byteorder.specs.Numbers.{big_number-reads_back, little_number-reads_back}
use Rattle.ddm_codepoints.specs.declared.typdef.TypDef.{TypDef}
use Rattle.ddm_codepoints.specs.declared.typdef.TypDef.TheVariants.{Sql370, SqlAsc, SqlX86}
use Rattle.ddm_codepoints.specs.Character.{ebcdic_of, ascii_of, space}
use Rattle.ddm_codepoints.proofs.WholeTables.{leads_both_ways}
use Rattle.ddm_codepoints.proofs.Spread.{spread, spread_is}
use Rattle.ddm_objects.specs.Objects.{HasCanonical}
use Rattle.ddm_codepoints.specs.CodePoint.{sqlcard}
use Rattle.reply_texts.specs.declared.sqlcard.Card.{Card}
use Rattle.reply_texts.specs.declared.sqlcard.Card.TheVariants.{Null, Full}
use Rattle.reply_texts.specs.Text.{is_character, is_character_in, code_in, ascii_in, is_text, codes_in, text_in}
use Rattle.reply_texts.specs.Sqlcard.{IsCard, number_in, number_bytes, with_texts, full_of, card_of, card_bytes, has_text}

unsigned_fits : (number : ℤ) → FitsSigned w32 number → cast_unsigned w32 number < 256 ^ 4
unsigned_fits number fits = (of_z_fits w32 number fits).fits

number_back : (typdef : TypDef) (number : ℤ) (rest : List ℕ) → FitsSigned w32 number → number_in typdef (number_bytes typdef number ++ rest) ≡ number
number_back Sql370 number rest fits =
    ap (cast_signed w32) (big_number-reads_back 4 (cast_unsigned w32 number) rest (unsigned_fits number fits)) ∙ to_z-of_z w32 number fits
number_back SqlAsc number rest fits =
    ap (cast_signed w32) (big_number-reads_back 4 (cast_unsigned w32 number) rest (unsigned_fits number fits)) ∙ to_z-of_z w32 number fits
number_back SqlX86 number rest fits =
    ap (cast_signed w32) (little_number-reads_back 4 (cast_unsigned w32 number) rest (unsigned_fits number fits)) ∙ to_z-of_z w32 number fits

-- a byte that is written of a character is this character
record IsBack (typdef : TypDef) (ascii : ℕ) : Type 0 where
  known : is_character_in typdef (code_in typdef ascii) ≡ true
  same : ascii_in typdef (code_in typdef ascii) ≡ ascii

ebcdic_back : (ascii : ℕ) (code : Option ℕ) → ebcdic_of ascii ≡ code → is_some code ≡ true → IsBack Sql370 ascii
ebcdic_back ascii None e some = absurd (cc)
ebcdic_back ascii (Some code) e some =
    let back : ascii_of code ≡ Some ascii = (leads_both_ways ascii code).0 e in
    record { known = rw (e, back) refl; same = rw (e, back) refl }

character_back : (typdef : TypDef) (ascii : ℕ) → is_character ascii ≡ true → IsBack typdef ascii
character_back Sql370 ascii known = ebcdic_back ascii (ebcdic_of ascii) refl known
character_back SqlAsc ascii known = record { known = known; same = refl }
character_back SqlX86 ascii known = record { known = known; same = refl }

all_known : (typdef : TypDef) (text : List ℕ) → is_text text ≡ true → list_all (is_character_in typdef) (codes_in typdef text) ≡ true
all_known typdef [] known = refl
all_known typdef (ascii ∷ text) known =
    let both = and_parts (is_character ascii) (is_text text) known in
    rw ((character_back typdef ascii both.0).known) (all_known typdef text both.1)

all_same : (typdef : TypDef) (text : List ℕ) → is_text text ≡ true → map (ascii_in typdef) (codes_in typdef text) ≡ text
all_same typdef [] known = refl
all_same typdef (ascii ∷ text) known =
    let both = and_parts (is_character ascii) (is_text text) known in
    let first : ascii_in typdef (code_in typdef ascii) ≡ ascii = (character_back typdef ascii both.0).same in
    let others : map (ascii_in typdef) (codes_in typdef text) ≡ text = all_same typdef text both.1 in
    ap (λ a. a ∷ map (ascii_in typdef) (codes_in typdef text)) first ∙ ap (λ rest. ascii ∷ rest) others

text_back : (typdef : TypDef) (text : List ℕ) → is_text text ≡ true → text_in typdef (codes_in typdef text) ≡ Some text
text_back typdef text known = rw (all_known typdef text known) (ap Some (all_same typdef text known))

abbrev with_text_codes : TypDef → ℤ → List ℕ → List ℕ → Option Card
with_text_codes typdef code state proc = with_texts code (text_in typdef (codes_in typdef state)) (text_in typdef (codes_in typdef proc))

texts_back : (typdef : TypDef) (number code : ℤ) (state proc : List ℕ) → number ≡ code → is_text state ≡ true → is_text proc ≡ true
    → with_text_codes typdef number state proc ≡ Some (Full (record { code = code; state = state; proc = proc }))
texts_back typdef number code state proc e state_known proc_known = rw (e, text_back typdef state state_known, text_back typdef proc proc_known) refl

abbrev after_number : TypDef → List ℕ → List ℕ → List ℕ
after_number typdef state proc = codes_in typdef state ++ codes_in typdef proc ++ 0xFF ∷ 0xFF ∷ []

full_back : (typdef : TypDef) (code : ℤ) (s p : List ℕ) → FitsSigned w32 code → is_text (spread 5 s) ≡ true → is_text (spread 8 p) ≡ true
    → full_of typdef (number_bytes typdef code ++ codes_in typdef (spread 5 s) ++ codes_in typdef (spread 8 p) ++ 0xFF ∷ 0xFF ∷ [])
    ≡ Some (Full (record { code = code; state = spread 5 s; proc = spread 8 p }))
full_back Sql370 code s p fits sk pk =
    texts_back Sql370 _ code (spread 5 s) (spread 8 p) (number_back Sql370 code (after_number Sql370 (spread 5 s) (spread 8 p)) fits) sk pk
full_back SqlAsc code s p fits sk pk =
    texts_back SqlAsc _ code (spread 5 s) (spread 8 p) (number_back SqlAsc code (after_number SqlAsc (spread 5 s) (spread 8 p)) fits) sk pk
full_back SqlX86 code s p fits sk pk =
    texts_back SqlX86 _ code (spread 5 s) (spread 8 p) (number_back SqlX86 code (after_number SqlX86 (spread 5 s) (spread 8 p)) fits) sk pk

card_parts : (typdef : TypDef) (code : ℤ) (state proc : List ℕ) → FitsSigned w32 code → length state ≡ 5 → length proc ≡ 8
    → is_text state ≡ true → is_text proc ≡ true
    → full_of typdef (number_bytes typdef code ++ codes_in typdef state ++ codes_in typdef proc ++ 0xFF ∷ 0xFF ∷ [])
    ≡ Some (Full (record { code = code; state = state; proc = proc }))
card_parts typdef code state proc fits state_size proc_size state_known proc_known =
    let s_is = spread_is 5 state state_size in
    let p_is = spread_is 8 proc proc_size in
    let P : List ℕ → Type 0 =
    λ s. full_of typdef (number_bytes typdef code ++ codes_in typdef s ++ codes_in typdef proc ++ 0xFF ∷ 0xFF ∷ [])
    ≡ Some (Full (record { code = code; state = s; proc = proc })) in
    let Q : List ℕ → Type 0 =
    λ p. full_of typdef (number_bytes typdef code ++ codes_in typdef (spread 5 state) ++ codes_in typdef p ++ 0xFF ∷ 0xFF ∷ [])
    ≡ Some (Full (record { code = code; state = spread 5 state; proc = p })) in
    subst P s_is (subst Q p_is (full_back typdef code state proc fits (ap is_text s_is ∙ state_known) (ap is_text p_is ∙ proc_known)))

pub card_back : (typdef : TypDef) (card : Card) → IsCard card → has_text card ≡ true → card_of typdef (card_bytes typdef card) ≡ Some card
card_back typdef Null is known = refl
card_back typdef (Full sqlca) is known =
    let both = and_parts (is_text sqlca.state) (is_text sqlca.proc) known in
    card_parts typdef sqlca.code sqlca.state sqlca.proc is.0 is.1 is.2 both.0 both.1

texts_size : (f : ℕ → ℕ) (state proc : List ℕ) → length state ≡ 5 → length proc ≡ 8
    → length (map f state ++ map f proc ++ 0xFF ∷ 0xFF ∷ []) ≡ 15
texts_size f state proc state_size proc_size =
    let P : List ℕ → Type 0 = λ s. length (map f s ++ map f proc ++ 0xFF ∷ 0xFF ∷ []) ≡ 15 in
    let Q : List ℕ → Type 0 = λ p. length (map f (spread 5 state) ++ map f p ++ 0xFF ∷ 0xFF ∷ []) ≡ 15 in
    subst P (spread_is 5 state state_size) (subst Q (spread_is 8 proc proc_size) refl)

bytes_size : (typdef : TypDef) (card : Card) → IsCard card → length (card_bytes typdef card) ≤ 33554432
bytes_size typdef Null is = omega arith
bytes_size Sql370 (Full sqlca) is = omega (arith, texts_size (code_in Sql370) sqlca.state sqlca.proc is.1 is.2)
bytes_size SqlAsc (Full sqlca) is = omega (arith, texts_size (code_in SqlAsc) sqlca.state sqlca.proc is.1 is.2)
bytes_size SqlX86 (Full sqlca) is = omega (arith, texts_size (code_in SqlX86) sqlca.state sqlca.proc is.1 is.2)

pub has_canonical : (typdef : TypDef) (card : Card) → IsCard card → HasCanonical (record { code = sqlcard; bytes = card_bytes typdef card })
has_canonical typdef card is = record { code = omega arith; size = bytes_size typdef card is }
