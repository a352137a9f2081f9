-- DSSs that are written one after another are spellings one after another.
use Rattle.std.proofs.Common.{◌≡◌, ℕ, ◌<◌, ◌≤◌, List, [], ◌∷◌, ◌++◌, map, length, flat_map, All, None, refl, sym, ap, ◌∙◌, append-nil}
use Rattle.std.specs.List.{AllByRecursion}
use Rattle.dss_frame.specs.declared.dss.Side.{Side}
use Rattle.dss_frame.specs.declared.dss.Dss.{Dss}
use Rattle.dss_frame.specs.Dss.{canonical}
use Rattle.dss_frame.specs.Spelling.{Spelled, IsSpelled, IsDssOf, Begins}
use Rattle.dss_frame.specs.Told.{read, dsss_of}
use Rattle.dss_frame.proofs.Spellings.OneSpelling.{canonical_spells}
use Rattle.dss_frame.proofs.Streams.Streams.{all_bytes}
use Rattle.dss_frame.proofs.Streams.Told.{whole_read}

abbrev written : Dss → Spelled
written d = record { dss = d; bytes = canonical d }

written_each : (side : Side) (ds : List Dss) → AllByRecursion (IsDssOf side) ds → AllByRecursion (IsSpelled side) (map written ds)
written_each side [] h = tt
written_each side (d ∷ ds) h = (canonical_spells side d h.0, written_each side ds h.1)

written_bytes : (ds : List Dss) → all_bytes (map written ds) ≡ flat_map canonical ds
written_bytes [] = refl
written_bytes (d ∷ ds) = ap (λ (xs : List ℕ). canonical d ++ xs) (written_bytes ds)

written_dsss : (ds : List Dss) → map (λ (s : Spelled). s.dss) (map written ds) ≡ ds
written_dsss [] = refl
written_dsss (d ∷ ds) = ap (λ (es : List Dss). d ∷ es) (written_dsss ds)

pub written_read : (side : Side) (limit : ℕ) (ds : List Dss) → AllByRecursion (IsDssOf side) ds → All (λ byte. byte < 256) (flat_map canonical ds)
    → length (flat_map canonical ds) ≤ limit
    → ((read side limit (flat_map canonical ds)).fault ≡ None) × (dsss_of (read side limit (flat_map canonical ds)) ≡ ds)
    × ((read side limit (flat_map canonical ds)).open ≡ [])
written_read side limit ds each fits short =
    let begins : Begins side (map written ds) [] (flat_map canonical ds) =
    record { each = written_each side ds each; all = sym (written_bytes ds) ∙ sym (append-nil (all_bytes (map written ds))) } in
    let h = whole_read side limit (flat_map canonical ds) (map written ds) fits begins short in
    (h.0, h.1 ∙ written_dsss ds, h.2)
