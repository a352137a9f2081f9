use Rattle.std.proofs.Common.{◌≡◌, ℕ, ◌-◌, ◌≤◌, List, [], ◌++◌, length, take, drop, append-nil, refl, sym, ap, subst, ◌∙◌, arith, rules}
use Rattle.std.proofs.lemmas.List.{take-append-drop, take_rest, drop_all, drop-drop, drop-append-le}
use Rattle.dss_frame.specs.Walk.{IsWalked}
use Rattle.dss_frame.specs.Scan.{at_position}
use Rattle.std.proofs.lemmas.Bool.{eqb-true}
use Rattle.link_ends.proofs.Lists.{no_items}
use Rattle.dss_frame.specs.Reading.{View, fed}
use Rattle.dss_frame.proofs.Loops.Extending.{Extends-on}
use Rattle.dss_frame.proofs.Loops.Scan.{fed_left, fed_twice, no_fault, stopped_within}
use Rattle.dss_frame.proofs.Loops.Walk.{none_walked, walked_empty, walked_before, walked_within}
use Rattle.dss_frame.proofs.scan.Scanner.read_piece.Goals as goal

pub slice_bounds-lacking-count : goal.slice_bounds-lacking-count
slice_bounds-lacking-count c =
    omega (arith, c.requires, walked_within c.args.unread.now, ap length c.as_slice.ensures)

pub scan-requires : goal.scan-requires
scan-requires c =
    let all : c.as_slice-2.result.now ≡ c.args.unread.now ++ c.split_at.result.0.now = c.as_slice-2.ensures ∙ c.in_ok-push_all.ensures.ok in
    subst (λ (xs : List ℕ). IsWalked c.args.self.walked xs) (sym all)
    (subst (λ (n : ℕ). IsWalked n (c.args.unread.now ++ c.split_at.result.0.now)) (sym c.requires) (walked_before c.args.unread.now c.split_at.result.0.now))

pub slice_bounds-lacking-start : goal.slice_bounds-lacking-start
slice_bounds-lacking-start c =
    let within = walked_within c.args.unread.now in
    search rules

pub returns-then-is_empty-clause-ok : goal.returns-then-is_empty-clause-ok
returns-then-is_empty-clause-ok c =
    let v : View = at_position c.args.self.side c.args.self.limit c.args.self.position c.args.whole.now.items c.args.unread.now in
    let first : List ℕ = c.split_at.result.0.now in
    let rest : List ℕ = c.split_at.result.1.now in
    let none : rest ≡ [] = no_items rest (omega (arith, eqb-true (length rest) 0 (sym c.is_empty.ensures ∙ c.if-is_empty.true))) in
    let cut : first ++ rest ≡ c.args.piece.now =
    ap (λ (xs : List ℕ). xs ++ rest) c.split_at.ensures.front
    ∙ ap (λ (xs : List ℕ). take c.lacking-lacks.result c.args.piece.now ++ xs) c.split_at.ensures.back
    ∙ take-append-drop c.lacking-lacks.result c.args.piece.now in
    fed_left v first c.as_slice-2.result.now c.keep_from.new.self c.scan.new.whole.items c.in_ok-scan.scan refl
    (c.as_slice-2.ensures ∙ c.in_ok-push_all.ensures.ok) c.in_ok-scan.ensures.ok
    (c.keep_from.ensures ∙ ap (drop c.in_ok-scan.scan.begins) (sym c.as_slice-2.ensures))
    ∙ ap (fed v) (sym (append-nil first) ∙ ap (λ (xs : List ℕ). first ++ xs) (sym none) ∙ cut)

pub returns-then-is_some-clause-ok : goal.returns-then-is_some-clause-ok
returns-then-is_some-clause-ok c =
    let first : List ℕ = c.split_at.result.0.now in
    let rest : List ℕ = c.split_at.result.1.now in
    let cut : first ++ rest ≡ c.args.piece.now =
    ap (λ (xs : List ℕ). xs ++ rest) c.split_at.ensures.front
    ∙ ap (λ (xs : List ℕ). take c.lacking-lacks.result c.args.piece.now ++ xs) c.split_at.ensures.back
    ∙ take-append-drop c.lacking-lacks.result c.args.piece.now in
    stopped_within (at_position c.args.self.side c.args.self.limit c.args.self.position c.args.whole.now.items c.args.unread.now) first rest c.args.piece.now
    c.as_slice-2.result.now c.keep_from-then-is_some.new.self c.scan.new.whole.items c.in_ok-scan.scan
    refl cut (sym c.is_some.ensures ∙ c.if-is_some.true) (c.as_slice-2.ensures ∙ c.in_ok-push_all.ensures.ok) c.in_ok-scan.ensures.ok
    (c.keep_from-then-is_some.ensures ∙ ap (drop c.in_ok-scan.scan.begins) (sym c.as_slice-2.ensures))

pub scan-requires-then-scan-len : goal.scan-requires-then-scan-len
scan-requires-then-scan-len c =
    let ended : length c.as_slice-2.result.now ≤ c.in_ok-scan.scan.begins = omega (arith, c.if-scan-len.true, c.len.ensures, ap length c.as_slice-2.ensures) in
    let zero : c.in_ok-scan.scan.walked ≡ 0 = c.in_ok-scan.ensures.walked ∙ walked_empty _ (drop_all _ _ ended) in
    subst (λ (n : ℕ). IsWalked n c.split_at.result.1.now) (sym zero) (none_walked c.split_at.result.1.now)

pub returns-in_err-next-clause-kept : goal.returns-in_err-next-clause-kept
returns-in_err-next-clause-kept c = Extends-on _ _ _ c.scan.ensures.kept c.scan-then-scan-len.ensures.kept

pub returns-in_err-replace-clause-kept : goal.returns-in_err-replace-clause-kept
returns-in_err-replace-clause-kept c = Extends-on _ _ _ c.scan.ensures.kept c.scan-then-scan-len.ensures.kept

pub returns-then-scan-len-clause-kept : goal.returns-then-scan-len-clause-kept
returns-then-scan-len-clause-kept c = Extends-on _ _ _ c.scan.ensures.kept c.scan-then-scan-len.ensures.kept

pub returns-then-scan-len-clause-ok : goal.returns-then-scan-len-clause-ok
returns-then-scan-len-clause-ok c =
    let first : List ℕ = c.split_at.result.0.now in
    let rest : List ℕ = c.split_at.result.1.now in
    let bytes : List ℕ = c.as_slice-2.result.now in
    let cut : first ++ rest ≡ c.args.piece.now =
    ap (λ (xs : List ℕ). xs ++ rest) c.split_at.ensures.front
    ∙ ap (λ (xs : List ℕ). take c.lacking-lacks.result c.args.piece.now ++ xs) c.split_at.ensures.back
    ∙ take-append-drop c.lacking-lacks.result c.args.piece.now in
    let ended : length bytes ≤ c.in_ok-scan.scan.begins = omega (arith, c.if-scan-len.true, c.len.ensures, ap length c.as_slice-2.ensures) in
    fed_twice (at_position c.args.self.side c.args.self.limit c.args.self.position c.args.whole.now.items c.args.unread.now) first rest c.args.piece.now
    bytes rest c.replace.new.self c.scan.new.whole.items c.scan-then-scan-len.new.whole.items c.in_ok-scan.scan c.in_ok-next.next
    refl cut (no_fault _ (sym c.is_some.ensures ∙ c.if-is_some.false)) (c.as_slice-2.ensures ∙ c.in_ok-push_all.ensures.ok) c.in_ok-scan.ensures.ok
    (sym (ap (λ (xs : List ℕ). xs ++ rest) (drop_all c.in_ok-scan.scan.begins bytes ended))) c.in_ok-next.ensures.ok
    (c.in_ok-replace.ensures.ok ∙ take_rest rest c.in_ok-next.next.begins)

-- what is left of the bytes, and the rest of the piece
left_and_rest : (bytes rest all : List ℕ) (begins : ℕ) → begins ≤ length bytes → all ≡ bytes ++ rest → drop begins all ≡ drop begins bytes ++ rest
left_and_rest bytes rest all begins within e = ap (drop begins) e ∙ drop-append-le begins bytes rest within

pub scan-requires-2 : goal.scan-requires-2
scan-requires-2 c =
    let rest : List ℕ = c.split_at.result.1.now in
    let bytes : List ℕ = c.as_slice-2.result.now in
    let all : List ℕ = c.as_slice-3.result.now in
    let begins : ℕ = c.in_ok-scan.scan.begins in
    let joined : all ≡ bytes ++ rest = c.as_slice-3.ensures ∙ c.in_ok-push_all-2.ensures.ok ∙ ap (λ (xs : List ℕ). xs ++ rest) (sym c.as_slice-2.ensures) in
    let split = left_and_rest bytes rest all begins c.in_ok-scan.ensures.ok.within joined in
    subst (λ (xs : List ℕ). IsWalked c.in_ok-scan.scan.walked xs) (sym (take_rest all begins ∙ split))
    (subst (λ (n : ℕ). IsWalked n (drop begins bytes ++ rest)) (sym c.in_ok-scan.ensures.walked) (walked_before (drop begins bytes) rest))

pub returns-in_err-next-2-clause-kept : goal.returns-in_err-next-2-clause-kept
returns-in_err-next-2-clause-kept c = Extends-on _ _ _ c.scan.ensures.kept c.scan-2.ensures.kept

pub returns-clause-kept : goal.returns-clause-kept
returns-clause-kept c = Extends-on _ _ _ c.scan.ensures.kept c.scan-2.ensures.kept

pub returns-clause-ok : goal.returns-clause-ok
returns-clause-ok c =
    let first : List ℕ = c.split_at.result.0.now in
    let rest : List ℕ = c.split_at.result.1.now in
    let bytes : List ℕ = c.as_slice-2.result.now in
    let all : List ℕ = c.as_slice-3.result.now in
    let begins : ℕ = c.in_ok-scan.scan.begins in
    let cut : first ++ rest ≡ c.args.piece.now =
    ap (λ (xs : List ℕ). xs ++ rest) c.split_at.ensures.front
    ∙ ap (λ (xs : List ℕ). take c.lacking-lacks.result c.args.piece.now ++ xs) c.split_at.ensures.back
    ∙ take-append-drop c.lacking-lacks.result c.args.piece.now in
    let joined : all ≡ bytes ++ rest = c.as_slice-3.ensures ∙ c.in_ok-push_all-2.ensures.ok ∙ ap (λ (xs : List ℕ). xs ++ rest) (sym c.as_slice-2.ensures) in
    let after : List ℕ = take (length all - begins) (drop begins all) in
    let is : after ≡ drop begins all = take_rest all begins in
    fed_twice (at_position c.args.self.side c.args.self.limit c.args.self.position c.args.whole.now.items c.args.unread.now) first rest c.args.piece.now
    bytes after c.keep_from-2.new.self c.scan.new.whole.items c.scan-2.new.whole.items c.in_ok-scan.scan c.in_ok-next-2.next
    refl cut (no_fault _ (sym c.is_some.ensures ∙ c.if-is_some.false)) (c.as_slice-2.ensures ∙ c.in_ok-push_all.ensures.ok) c.in_ok-scan.ensures.ok
    (is ∙ left_and_rest bytes rest all begins c.in_ok-scan.ensures.ok.within joined) c.in_ok-next-2.ensures.ok
    (c.keep_from-2.ensures ∙ sym (drop-drop c.in_ok-next-2.next.begins begins c.push_all-2.new.self)
    ∙ ap (drop c.in_ok-next-2.next.begins) (sym (is ∙ ap (drop begins) c.as_slice-3.ensures)))
