-- The laws of the tables.
use Rattle.std.proofs.Common.{◌≡◌, ℕ, ◌==◌, ◌↔◌, Bool, true, false, nat_eq, find, Option, Some, None, option_map, map, refl, sym, ◌∙◌, ap, eqb-true}
use Rattle.std.specs.Option.{option_eq}
use Rattle.ddm_codepoints.specs.declared.code_class.CodeClass.{CodeClass}
use Rattle.ddm_codepoints.specs.declared.code_class.CodeClass.TheVariants.{Access, Pass, UnitEnd, Object, Reply, Unknown}
use Rattle.ddm_codepoints.specs.CodeClass.{Known, table, known_of, class_or_unknown, class_of, name_of}
use Rattle.ddm_codepoints.specs.Character.{Character, characters, ebcdic_of, ascii_of}
use Rattle.ddm_codepoints.proofs.Found.{found_passes}
use Rattle.ddm_codepoints.proofs.Characters.{same_option}

abbrev has_class : CodeClass → Bool
has_class Access = true
has_class Pass = true
has_class UnitEnd = true
has_class Object = true
has_class Reply = true
has_class Unknown = false

classless_is_nameless : (code : ℕ) (found : Option Known) → found ≡ known_of code →
    (option_map (λ (k : Known). k.name) found ≡ None) ↔ (class_or_unknown found ≡ Unknown)
classless_is_nameless code None e = (λ _. refl, λ _. refl)
classless_is_nameless code (Some known) e =
    let passed = found_passes (λ (k : Known). k.code == code) (λ (k : Known). has_class k.class) table known refl e in
    (λ none. absurd (cc), λ unknown. absurd (let no : has_class Unknown ≡ true = ap has_class (sym unknown) ∙ passed.1 in cc))

pub unknown_is_nameless : (code : ℕ) → (name_of code ≡ None) ↔ (class_of code ≡ Unknown)
unfolding class_of name_of
unknown_is_nameless code = classless_is_nameless code (known_of code) refl

abbrev by_ascii : ℕ → Option Character
by_ascii ascii = find (λ character. character.ascii == ascii) characters

abbrev by_ebcdic : ℕ → Option Character
by_ebcdic ebcdic = find (λ character. character.ebcdic == ebcdic) characters

abbrev leads_back : Character → Bool
leads_back character =
    option_eq nat_eq (option_map (λ c. c.ascii) (by_ebcdic character.ebcdic)) (Some character.ascii)

abbrev leads_on : Character → Bool
leads_on character =
    option_eq nat_eq (option_map (λ c. c.ebcdic) (by_ascii character.ascii)) (Some character.ebcdic)

ascii_back : (ascii ebcdic : ℕ) (found : Option Character) → found ≡ by_ascii ascii → option_map (λ (c : Character). c.ebcdic) found ≡ Some ebcdic →
    option_map (λ (c : Character). c.ascii) (by_ebcdic ebcdic) ≡ Some ascii
ascii_back ascii ebcdic None e is = absurd (cc)
ascii_back ascii ebcdic (Some character) e is =
    let passed = found_passes (λ (c : Character). c.ascii == ascii) leads_back characters character refl e in
    let first : character.ascii ≡ ascii = eqb-true character.ascii ascii passed.0 in
    let second : character.ebcdic ≡ ebcdic = cc in
    ap (λ b. option_map (λ (c : Character). c.ascii) (by_ebcdic b)) (sym second) ∙ same_option _ _ passed.1 ∙ ap Some first

ebcdic_back : (ascii ebcdic : ℕ) (found : Option Character) → found ≡ by_ebcdic ebcdic → option_map (λ (c : Character). c.ascii) found ≡ Some ascii →
    option_map (λ (c : Character). c.ebcdic) (by_ascii ascii) ≡ Some ebcdic
ebcdic_back ascii ebcdic None e is = absurd (cc)
ebcdic_back ascii ebcdic (Some character) e is =
    let passed = found_passes (λ (c : Character). c.ebcdic == ebcdic) leads_on characters character refl e in
    let first : character.ebcdic ≡ ebcdic = eqb-true character.ebcdic ebcdic passed.0 in
    let second : character.ascii ≡ ascii = cc in
    ap (λ a. option_map (λ (c : Character). c.ebcdic) (by_ascii a)) (sym second) ∙ same_option _ _ passed.1 ∙ ap Some first

pub leads_both_ways : (ascii ebcdic : ℕ) → (ebcdic_of ascii ≡ Some ebcdic) ↔ (ascii_of ebcdic ≡ Some ascii)
unfolding ebcdic_of ascii_of
leads_both_ways ascii ebcdic =
    (λ is. ascii_back ascii ebcdic (by_ascii ascii) refl is, λ is. ebcdic_back ascii ebcdic (by_ebcdic ebcdic) refl is)

pub table_classes : map (λ known. class_of known.code) table ≡ map (λ known. known.class) table
unfolding class_of
table_classes = refl

pub table_names : map (λ known. name_of known.code) table ≡ map (λ known. Some known.name) table
unfolding name_of
table_names = refl

pub characters_ebcdic : map (λ character. ebcdic_of character.ascii) characters ≡ map (λ character. Some character.ebcdic) characters
unfolding ebcdic_of
characters_ebcdic = refl

pub characters_ascii : map (λ character. ascii_of character.ebcdic) characters ≡ map (λ character. Some character.ascii) characters
unfolding ascii_of
characters_ascii = refl
