-- What is found in the table of the code stands in the table of the definitions.
use Rattle.std.proofs.Common.{◌≡◌, ℕ, ◌==◌, true, false, cond, List, [], ◌∷◌, find, map, Option, Some, option_map, refl, ap, ◌∙◌}
use Rattle.ddm_codepoints.specs.declared.code_class.Entry.{Entry}
use Rattle.ddm_codepoints.specs.CodeClass.{Known, table, known_of, class_or_unknown, class_of, name_of, entry_of}

-- an entry without where its name lies in memory
abbrev pub seen : Entry → Known
seen entry = record { code = entry.0; class = entry.1; name = entry.2.now }

find_seen : (code : ℕ) (entries : List Entry) →
    option_map seen (find (λ entry. entry.0 == code) entries) ≡ find (λ known. known.code == code) (map seen entries)
find_seen code [] = refl
find_seen code (entry ∷ entries) =
    elim (entry.0 == code) as
    (λ b. option_map seen (cond b (Some entry) (find (λ e. e.0 == code) entries)) ≡ cond b (Some (seen entry))
    (find (λ known. known.code == code) (map seen entries)))
    [ true ↦ refl | false ↦ find_seen code entries ]

known_found : (code : ℕ) (entries : List Entry) (found : Option Entry) → found ≡ entry_of entries code → map seen entries ≡ table →
    option_map seen found ≡ known_of code
unfolding entry_of
known_found code entries found e same = ap (option_map seen) e ∙ find_seen code entries ∙ ap (find (λ known. known.code == code)) same

pub class_found : (code : ℕ) (entries : List Entry) (found : Option Entry) → found ≡ entry_of entries code → map seen entries ≡ table →
    class_or_unknown (option_map seen found) ≡ class_of code
unfolding class_of
class_found code entries found e same = ap class_or_unknown (known_found code entries found e same)

pub name_found : (code : ℕ) (entries : List Entry) (found : Option Entry) → found ≡ entry_of entries code → map seen entries ≡ table →
    option_map (λ known. known.name) (option_map seen found) ≡ name_of code
unfolding name_of
name_found code entries found e same =
    ap (λ known. option_map (λ (k : Known). k.name) known) (known_found code entries found e same)
