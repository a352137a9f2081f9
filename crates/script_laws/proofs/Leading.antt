-- What may stand at the front of a text that is read as a script: it leads from a draft that keeps one thing to one that keeps another.
use Rattle.std.proofs.Common.{◌≡◌, ℕ, zero, suc, ◌+◌, ◌<◌, ◌≤◌, ◌==◌, Bool, true, false, cond, List, [], ◌∷◌, ◌++◌, refl, ap, sym, ◌∙◌, subst, arith}
use Rattle.std.proofs.Common.{Ok}
use Rattle.std.proofs.lemmas.List.{append_assoc}
use Rattle.std.proofs.lemmas.Bool.{and_parts, true≢false}
use Rattle.std.specs.Prelude.{not}
use Rattle.std.specs.Result.{is_ok}
use Rattle.std.specs.List.{list_all, flat_map, range_with_len, onto_first}
use Rattle.hex_lines.specs.Lines.{lines_of, line_end}
use Rattle.script_reader.specs.Draft.{DraftText}
use Rattle.script_reader.specs.Script.{lines_added, line_added, after_line}

-- ---- a line at the front of a text

-- no byte of it ends a line
abbrev pub one_line : List ℕ → Bool
one_line line = list_all (λ byte. not (byte == 10)) line

line_step : (x : ℕ) (line : List ℕ) (rest : List ℕ) (b : Bool) → not b ≡ true → lines_of (line ++ 10 ∷ rest) ≡ line ∷ lines_of rest →
    cond b ([] ∷ lines_of (line ++ 10 ∷ rest)) (onto_first x (lines_of (line ++ 10 ∷ rest))) ≡ (x ∷ line) ∷ lines_of rest
line_step x line rest true e h = absurd (true≢false (sym e))
line_step x line rest false e h = ap (onto_first x) h

pub first_line : (line rest : List ℕ) → one_line line ≡ true → lines_of (line ++ 10 ∷ rest) ≡ line ∷ lines_of rest
first_line [] rest e = refl
first_line (x ∷ xs) rest e =
    let parts = and_parts (not (x == 10)) (one_line xs) e in line_step x xs rest (x == 10) parts.0 (first_line xs rest parts.1)

-- ---- what is read

-- a text is read further, whatever the number of its first line
abbrev pub IsRead : List ℕ → DraftText → Type 0
IsRead text draft = (number : ℕ) → is_ok (lines_added number draft (lines_of text)) ≡ true

-- what stands behind it is read, once it is
abbrev pub Leads : (DraftText → Type 0) → (DraftText → Type 0) → List ℕ → Type 0
Leads A B text = (rest : List ℕ) → ((draft : DraftText) → B draft → IsRead rest draft) → (draft : DraftText) → A draft → IsRead (text ++ rest) draft

-- a line that adds to the draft
abbrev pub Adds : (DraftText → Type 0) → (DraftText → Type 0) → List ℕ → Type 0
Adds A B line = (draft : DraftText) → A draft → (next : DraftText) × ((line_added draft line ≡ Ok next) × B next)

added_line : (number : ℕ) (draft : DraftText) (line : List ℕ) (lines : List (List ℕ)) (next : DraftText) → line_added draft line ≡ Ok next →
    is_ok (lines_added number draft (line ∷ lines)) ≡ is_ok (lines_added (number + 1) next lines)
unfolding lines_added
added_line number draft line lines next is = ap (λ read. is_ok (after_line number read (λ d. lines_added (number + 1) d lines))) is

pub line_leads : {A B : DraftText → Type 0} (line : List ℕ) → one_line line ≡ true → Adds A B line → Leads A B (line ++ line_end)
line_leads line one adds rest then_read draft a number =
    let (next, added) = adds draft a in
    ap (λ text. is_ok (lines_added number draft (lines_of text))) (append_assoc line line_end rest)
    ∙ ap (λ lines. is_ok (lines_added number draft lines)) (first_line line rest one)
    ∙ added_line number draft line (lines_of rest) next added.0
    ∙ then_read next added.1 (number + 1)

pub both_lead : {A B C : DraftText → Type 0} (first second : List ℕ) → Leads A B first → Leads B C second → Leads A C (first ++ second)
both_lead first second leads more rest read draft a number =
    ap (λ text. is_ok (lines_added number draft (lines_of text))) (append_assoc first second rest)
    ∙ leads (second ++ rest) (more rest read) draft a number

pub nothing_leads : {A : DraftText → Type 0} → Leads A A []
nothing_leads rest read draft a = read draft a

-- one line of each number, of which each leads to the next
module _ (I : ℕ → DraftText → Type 0) (line : ℕ → List ℕ) where
  pub each_leads : (a n : ℕ) → ((k : ℕ) → a ≤ k → k < a + n → Leads (I k) (I (k + 1)) (line k)) → Leads (I a) (I (a + n)) (flat_map line (range_with_len a n))
  each_leads a zero h = subst (λ k. Leads (I a) (I k) []) (omega arith) (nothing_leads {A = I a})
  each_leads a (suc n) h =
      let rest : Leads (I (a + 1)) (I ((a + 1) + n)) (flat_map line (range_with_len (a + 1) n))
      = each_leads (a + 1) n (λ k l m. h k (omega arith) (omega arith)) in
      subst (λ k. Leads (I a) (I k) (line a ++ flat_map line (range_with_len (a + 1) n))) (omega arith)
      (both_lead (line a) (flat_map line (range_with_len (a + 1) n)) (h a (omega arith) (omega arith)) rest)
