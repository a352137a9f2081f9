use Rattle.std.proofs.Common.{◌≡◌, ◌+◌, ◌++◌, length, ℕ, false, List, OnOk, take, sym, subst, ap, ◌∙◌}
use Rattle.std.proofs.lemmas.List.{append_assoc}
use Rattle.dss_frame.specs.Dss.{header}
use Rattle.dss_frame.proofs.Spellings.Spelling.{canonical_short}
use Rattle.dss_frame.proofs.writer.push_short.Goals as goal

pub returns-else-is_err-clause-ok : goal.returns-else-is_err-clause-ok
returns-else-is_err-clause-ok c =
    let n : ℕ = c.len-len.result in
    let same : n ≡ length c.args.dss.now.body = c.len-len.ensures in
    subst (λ (xs : List ℕ). OnOk c.push_front_of-written.result (c.push_front_of-written.new.self ≡ xs))
    (ap (λ (xs : List ℕ). xs ++ take n c.args.body.now)
    (c.in_ok-push_front_of.ensures.ok ∙ ap (λ (xs : List ℕ). c.args.out.now ++ xs)
    (c.header_bytes.ensures ∙ ap (λ (k : ℕ). header c.args.dss.now (6 + k) false) same))
    ∙ append_assoc c.args.out.now _ _
    ∙ ap (λ (xs : List ℕ). c.args.out.now ++ (header c.args.dss.now (6 + length c.args.dss.now.body) false ++ xs))
    (ap (λ (k : ℕ). take k c.args.body.now) same ∙ c.requires.body)
    ∙ ap (λ (xs : List ℕ). c.args.out.now ++ xs) (sym (canonical_short c.args.dss.now c.requires.short))) c.push_front_of-written.ensures.ok
