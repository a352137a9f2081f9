-- What the replies to a command that ends a unit of work say.
use Rattle.std.proofs.Common.{◌≡◌, ℕ, ◌==◌, ◌&&◌, ◌||◌, Bool, true, false, not, if◌then◌else◌, List, [], ◌∷◌}
use Rattle.std.proofs.Common.{map, filter, find}
use Rattle.std.proofs.Common.{Some, is_some, refl, sym, ap, ◌∙◌, arith}
use Rattle.std.specs.List.{AllByRecursion}
use Rattle.std.proofs.lemmas.Bool.{cond-true, eq-eqb}
use Rattle.dss_frame.specs.declared.dss.Dss.{Dss}
use Rattle.ddm_objects.specs.Objects.{Member, extent_at, object_at, first_object}
use Rattle.ddm_objects.specs.Members.{members_within}
use Rattle.ddm_objects.proofs.Reading.Spelled.{canonical_outer}
use Rattle.ddm_codepoints.specs.declared.typdef.TypDef.{TypDef}
use Rattle.ddm_codepoints.specs.Character.{ebcdic_of}
use Rattle.ddm_codepoints.specs.CodePoint as point
use Rattle.ddm_codepoints.specs.Value.{committed, rolled_back, release}
use Rattle.reply_texts.specs.Sqlcard.{sqlcard_object}
use Rattle.reply_texts.specs.Reply.{enduow_object}
use Rattle.unit_segments.specs.declared.command.Command.{Command}
use Rattle.unit_segments.specs.Command.{code_by, code_of, data_by, data_of}
use Rattle.unit_segments.specs.Release.{kept_within}
use Rattle.unit_segments.specs.Strip.{Marked, is_object_of, answers as answers_with, marked_from, end_says, without_lists}
use Rattle.plain_model.specs.UnitEnd.{end_of, ends, releases, says_committed, sets_in, without_asked}
use Rattle.member_replies.specs.declared.sql_outcome.SqlOutcome.{SqlOutcome}
use Rattle.member_replies.specs.declared.sql_outcome.SqlOutcome.TheVariants as outcome
use Rattle.member_replies.specs.Reply.{message, reply_data, dss_of, dsss_of, card_said, ended_object, set_object, sets_said}
use Rattle.group_store.specs.Unit.{Registers, UnitState}
use Rattle.group_store.specs.Values.{IsSet, set_data}
use Rattle.group_store.specs.UnitEnd.{ends_with}
use Rattle.group_store.specs.GroupLaws.Registers.{Entry}
use Rattle.group_store.specs.GroupLaws.SetTexts.{data_short}

-- ---- one reply

is_end : (number disposition : ℕ) (granted : Bool) → is_object_of point.enduowrm (dss_of number (message (ended_object disposition granted))) ≡ true
unfolding enduow_object extent_at object_at first_object
is_end number disposition true = refl
is_end number disposition false = refl

end_no_card : (number disposition : ℕ) (granted : Bool) → is_object_of point.sqlcard (dss_of number (message (ended_object disposition granted))) ≡ false
unfolding enduow_object extent_at object_at first_object
end_no_card number disposition true = refl
end_no_card number disposition false = refl

is_card : (number : ℕ) (outcome : SqlOutcome) → is_object_of point.sqlcard (dss_of number (card_said outcome)) ≡ true
unfolding sqlcard_object extent_at object_at first_object ebcdic_of
is_card number outcome.Success = refl
is_card number outcome.NotFound = refl
is_card number outcome.NoStatement = refl
is_card number outcome.CursorOpen = refl
is_card number outcome.NotPrepared = refl
is_card number outcome.Duplicate = refl
is_card number outcome.Conflict = refl

set_outer : (typ : TypDef) (e : Entry) → IsSet e → (code_of (set_object typ e) ≡ point.sqlstt) × (data_of (set_object typ e) ≡ set_data typ e)
set_outer typ e is =
    let object : Member = record { code = point.sqlstt; bytes = set_data typ e } in
    let outer = canonical_outer object (record { code = omega arith; size = omega (arith, data_short typ e is) }) in
    (ap code_by outer, ap data_by outer)

is_set : (number : ℕ) (typ : TypDef) (e : Entry) → IsSet e → is_object_of point.sqlstt (dss_of number (reply_data (set_object typ e))) ≡ true
is_set number typ e is = eq-eqb (code_of (set_object typ e)) point.sqlstt (set_outer typ e is).0

-- ---- the SET statements among the replies

and_false : (b : Bool) → (b && false) ≡ false
and_false true = refl
and_false false = refl

number_same : (number : ℕ) → (number == number) ≡ true
number_same number = eq-eqb number number refl

abbrev marked_sets : ℕ → TypDef → Registers → List Marked
marked_sets number typ registers = map (λ (e : Entry). record { reply = dss_of number (reply_data (set_object typ e)); is_set = true }) registers

sets_marked : (number : ℕ) (typ : TypDef) (registers : Registers) → AllByRecursion IsSet registers
    → marked_from number true (dsss_of number (sets_said typ registers)) ≡ marked_sets number typ registers
sets_marked number typ [] each = refl
sets_marked number typ (e ∷ registers) each =
    let d : Dss = dss_of number (reply_data (set_object typ e)) in
    let told : answers_with number point.sqlstt d ≡ true = rw (number_same number, is_set number typ e each.0) refl in
    ap (λ (b : Bool). record { reply = d; is_set = b } ∷ marked_from number true (dsss_of number (sets_said typ registers))) told
    ∙ ap (λ (ms : List Marked). record { reply = d; is_set = true } ∷ ms) (sets_marked number typ registers each.1)

abbrev ended_reply : ℕ → ℕ → Bool → Dss
ended_reply number disposition granted = dss_of number (message (ended_object disposition granted))

abbrev card_reply : ℕ → SqlOutcome → Dss
card_reply number outcome = dss_of number (card_said outcome)

all_marked : (number disposition : ℕ) (outcome : SqlOutcome) (granted : Bool) (others : List Dss)
    → marked_from number false (ended_reply number disposition granted ∷ card_reply number outcome ∷ others)
    ≡ record { reply = ended_reply number disposition granted; is_set = false } ∷ record { reply = card_reply number outcome; is_set = false }
    ∷ marked_from number true others
all_marked number disposition outcome granted others =
    let end : Dss = ended_reply number disposition granted in
    let card : Dss = card_reply number outcome in
    let before : (false || answers_with number point.sqlcard end) ≡ false = rw (number_same number, end_no_card number disposition granted) refl in
    let behind : (false || answers_with number point.sqlcard card) ≡ true = rw (number_same number, is_card number outcome) refl in
    ap (λ (b : Bool). record { reply = end; is_set = false } ∷ marked_from number b (card ∷ others)) before
    ∙ ap (λ (b : Bool). record { reply = end; is_set = false } ∷ record { reply = card; is_set = false } ∷ marked_from number b others) behind

none_left : (number : ℕ) (typ : TypDef) (registers : Registers) → filter (λ (m : Marked). not m.is_set) (marked_sets number typ registers) ≡ []
none_left number typ [] = refl
none_left number typ (e ∷ registers) = none_left number typ registers

all_left : (number : ℕ) (typ : TypDef) (registers : Registers) → AllByRecursion IsSet registers
    → map (λ (m : Marked). data_of m.reply.body) (filter (λ (m : Marked). m.is_set) (marked_sets number typ registers)) ≡ map (set_data typ) registers
all_left number typ [] each = refl
all_left number typ (e ∷ registers) each =
    ap (λ (xs : List ℕ). xs ∷ map (λ (m : Marked). data_of m.reply.body) (filter (λ (m : Marked). m.is_set) (marked_sets number typ registers)))
    (set_outer typ e each.0).1
    ∙ ap (λ (xs : List (List ℕ)). set_data typ e ∷ xs) (all_left number typ registers each.1)

-- ---- all replies to such a command

abbrev behind_end : ℕ → SqlOutcome → UnitState → Bool → List Dss
behind_end number outcome u sets = dsss_of number (card_said outcome ∷ (if sets then sets_said u.typdef u.registers else []))

abbrev pub ended_replies : ℕ → ℕ → SqlOutcome → UnitState → Bool → Bool → List Dss
ended_replies number disposition outcome u granted sets = dsss_of number (ends_with disposition outcome u granted sets).said

same_end : (number disposition : ℕ) (granted : Bool)
    → without_lists (ended_reply number disposition granted) ≡ without_lists (ended_reply number disposition false)
unfolding enduow_object extent_at object_at first_object members_within kept_within
same_end number disposition true = refl
same_end number disposition false = refl

end_first : (number disposition : ℕ) (granted : Bool) (others : List Dss)
    → end_of (ended_reply number disposition granted ∷ others) ≡ Some (ended_reply number disposition granted)
end_first number disposition granted others =
    cond-true (is_object_of point.enduowrm (ended_reply number disposition granted)) (Some (ended_reply number disposition granted))
    (find (is_object_of point.enduowrm) others) (is_end number disposition granted)

pub it_ends : (number disposition : ℕ) (outcome : SqlOutcome) (u : UnitState) (granted sets : Bool)
    → ends (ended_replies number disposition outcome u granted sets) ≡ true
it_ends number disposition outcome u granted sets = ap is_some (end_first number disposition granted (behind_end number outcome u sets))

says_release : (number disposition : ℕ) (granted : Bool) → releases (ended_reply number disposition granted ∷ []) ≡ granted
unfolding enduow_object extent_at object_at first_object members_within
says_release number disposition true = refl
says_release number disposition false = refl

says_commit : (number : ℕ) (granted : Bool) → says_committed (ended_reply number committed granted ∷ []) ≡ true
unfolding enduow_object extent_at object_at first_object members_within
says_commit number true = refl
says_commit number false = refl

says_no_commit : (number : ℕ) (granted : Bool) → says_committed (ended_reply number rolled_back granted ∷ []) ≡ false
unfolding enduow_object extent_at object_at first_object members_within
says_no_commit number true = refl
says_no_commit number false = refl

first_alone : (number disposition : ℕ) (granted : Bool) (others : List Dss)
    → end_of (ended_reply number disposition granted ∷ others) ≡ end_of (ended_reply number disposition granted ∷ [])
first_alone number disposition granted others = end_first number disposition granted others ∙ sym (end_first number disposition granted [])

pub it_releases : (number disposition : ℕ) (outcome : SqlOutcome) (u : UnitState) (granted sets : Bool)
    → releases (ended_replies number disposition outcome u granted sets) ≡ granted
it_releases number disposition outcome u granted sets =
    ap (end_says point.rlsconv release) (first_alone number disposition granted (behind_end number outcome u sets)) ∙ says_release number disposition granted

pub it_commits : (number : ℕ) (outcome : SqlOutcome) (u : UnitState) (granted sets : Bool)
    → says_committed (ended_replies number committed outcome u granted sets) ≡ true
it_commits number outcome u granted sets =
    ap (end_says point.uowdsp committed) (first_alone number committed granted (behind_end number outcome u sets)) ∙ says_commit number granted

pub it_rolls_back : (number : ℕ) (outcome : SqlOutcome) (u : UnitState) (granted sets : Bool)
    → says_committed (ended_replies number rolled_back outcome u granted sets) ≡ false
it_rolls_back number outcome u granted sets =
    ap (end_says point.uowdsp committed) (first_alone number rolled_back granted (behind_end number outcome u sets)) ∙ says_no_commit number granted

-- the SET statements of all registers, where they are asked
pub it_tells : (c : Command) (disposition : ℕ) (outcome : SqlOutcome) (u : UnitState) (granted : Bool) → AllByRecursion IsSet u.registers
    → sets_in c (ended_replies c.corr disposition outcome u granted true) ≡ map (set_data u.typdef) u.registers
it_tells c disposition outcome u granted each =
    ap (λ (ms : List Marked). map (λ (m : Marked). data_of m.reply.body) (filter (λ (m : Marked). m.is_set) ms))
    (all_marked c.corr disposition outcome granted (dsss_of c.corr (sets_said u.typdef u.registers)))
    ∙ ap (λ (ms : List Marked). map (λ (m : Marked). data_of m.reply.body) (filter (λ (m : Marked). m.is_set) ms))
    (sets_marked c.corr u.typdef u.registers each)
    ∙ all_left c.corr u.typdef u.registers each

-- the rest is the same, whatever is asked and granted
abbrev rest_of : List Marked → List Dss
rest_of ms = map (λ (m : Marked). without_lists m.reply) (filter (λ (m : Marked). not m.is_set) ms)

abbrev other_replies : ℕ → UnitState → Bool → List Dss
other_replies number u sets = dsss_of number (if sets then sets_said u.typdef u.registers else [])

others_dropped : (number : ℕ) (u : UnitState) (sets : Bool) → AllByRecursion IsSet u.registers
    → rest_of (marked_from number true (other_replies number u sets)) ≡ []
others_dropped number u true each =
    ap rest_of (sets_marked number u.typdef u.registers each) ∙ ap (map (λ (m : Marked). without_lists m.reply)) (none_left number u.typdef u.registers)
others_dropped number u false each = refl

pub it_says : (c : Command) (disposition : ℕ) (outcome : SqlOutcome) (u : UnitState) (granted sets : Bool) → AllByRecursion IsSet u.registers
    → without_asked c (ended_replies c.corr disposition outcome u granted sets)
    ≡ without_lists (ended_reply c.corr disposition false) ∷ without_lists (card_reply c.corr outcome) ∷ []
it_says c disposition outcome u granted sets each =
    ap rest_of (all_marked c.corr disposition outcome granted (other_replies c.corr u sets))
    ∙ ap (λ (ds : List Dss). without_lists (ended_reply c.corr disposition granted) ∷ without_lists (card_reply c.corr outcome) ∷ ds)
    (others_dropped c.corr u sets each)
    ∙ ap (λ (d : Dss). d ∷ without_lists (card_reply c.corr outcome) ∷ []) (same_end c.corr disposition granted)
