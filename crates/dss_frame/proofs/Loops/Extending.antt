-- A list that only grows: the old one begins the new one.
use Rattle.std.proofs.Common.{◌≤◌, List, ◌++◌, length, take, ap, sym, ◌∙◌, arith}
use Rattle.std.proofs.lemmas.List.{take-append-le, length-take, take_all, take-take}
use Rattle.dss_frame.specs.Scan.{Extends}

pub Extends-same : {X : Type 0} → (xs : List X) → Extends xs xs
Extends-same xs = take_all (length xs) xs (omega arith)

pub Extends-append : {X : Type 0} → (xs ys zs : List X) → Extends xs ys → Extends xs (ys ++ zs)
Extends-append xs ys zs h =
    let within : length xs ≤ length ys = omega (arith, length-take (length xs) ys, ap length h) in
    take-append-le (length xs) ys zs within ∙ h

pub Extends-on : {X : Type 0} → (xs ys zs : List X) → Extends xs ys → Extends ys zs → Extends xs zs
Extends-on {X = X} xs ys zs h i =
    let within : length xs ≤ length ys = omega (arith, length-take (length xs) ys, ap length h) in
    sym (take-take (length xs) (length ys) zs within) ∙ ap (λ (l : List X). take (length xs) l) i ∙ h
