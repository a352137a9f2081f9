use Rattle.std.proofs.Common.{[], ap, sym, ◌∙◌}
use Rattle.group_store.specs.Unit.{schema_of}
use Rattle.group_store.specs.Rows.{place_behind, with_own, with_rows, rows_seen}
use Rattle.group_store.proofs.Spans.{at_key, forward, all_within}
use Rattle.group_store.proofs.store.Store.rows_seen.Goals as goal

pub range-place-items-requires : goal.range-place-items-requires
range-place-items-requires c =
    forward (schema_of c.args.unit.now) c.in_ok-place.field-0 c.in_ok-place_behind.field-0 c.in_ok-place.ensures
    (c.in_ok-place_behind.ensures ∙ ap place_behind c.schema-schema.ensures)

pub loop-place-init : goal.loop-place-init
loop-place-init c =
    let schema = c.schema-schema.result.now in
    let writes = c.args.unit.now.writes in
    let all = all_within schema c.self.inside.rows.entries [] c.in_ok-place.field-0 c.in_ok-place_behind.field-0
    (c.in_ok-place.ensures ∙ ap (λ text. at_key text 0) (sym c.schema-schema.ensures)) c.in_ok-place_behind.ensures in
    let between = c.range-place-items.ensures.between tt in
    ap (λ seen. with_own schema writes (with_rows schema c.into_iter-place-iterator.result seen)) c.new-seen.ensures.empty
    ∙ ap (λ items. with_own schema writes (with_rows schema items [])) (c.into_iter-place-iterator.ensures.into_iter_gives ∙ between)
    ∙ ap (with_own schema writes) all ∙ ap (λ rows. rows_seen schema rows writes) (ap (λ store. store.rows) c.self.view_is)
