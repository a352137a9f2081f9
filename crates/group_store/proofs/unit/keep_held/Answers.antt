use Rattle.std.proofs.Common.{rules}
use Rattle.std.proofs.lemmas.Map.Made.{filter_same_pairs}
use Rattle.group_store.proofs.unit.keep_held.Goals as goal

pub returns : goal.returns
returns c = filter_same_pairs _ (λ cursor. cursor.1.held) _ (λ k v b w f' t. search rules) _ _ c.retain.ensures.filtered
