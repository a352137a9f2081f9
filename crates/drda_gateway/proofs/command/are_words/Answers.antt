use Rattle.std.proofs.Common.{◌≡◌, ℕ, List, [], ◌∷◌, length, get_or, map, string_bytes, ap, sym, ◌∙◌, arith, rules}
use Rattle.std.specs.Prelude.{◌↔◌, IsTrue}
use Rattle.drda_gateway.proofs.command.are_words.Goals as goal

-- a list of one element
only_one : {X : Type 0} (f : X → List ℕ) (xs : List X) (x : X) → length xs ≡ 1 → x ≡ get_or xs 0 x → map f xs ≡ f x ∷ []
only_one f [] x one e = absurd (omega (arith, one))
only_one f (y ∷ []) x one e = ap (λ z. f z ∷ []) (sym e)
only_one f (y ∷ z ∷ xs) x one e = absurd (omega (arith, one))

pub returns-in-len1 : goal.returns-in-len1
returns-in-len1 c =
    let word = c.word-item.result in
    let one : map string_bytes c.args.words.now ≡ string_bytes word ∷ [] = only_one string_bytes c.args.words.now word (omega arith) c.word-item.is in
    let text : c.as_str.result.now ≡ string_bytes word = c.as_str.ensures.value in
    let reads : IsTrue c.eq.result ↔ (c.as_str.result.now ≡ c.args.name.now) = search rules in (
      λ yes. one ∙ ap (λ (bytes : List ℕ). bytes ∷ []) (sym text ∙ reads.0 yes),
      λ e.
          let same : string_bytes word ≡ c.args.name.now = cc in
          reads.1 (text ∙ same),
    )
