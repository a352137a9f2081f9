use Rattle.ddm_codepoints.specs.CodePoint.{sqlcard}
use Rattle.reply_texts.specs.Sqlcard.{card_bytes, sqlcard_object}
use Rattle.reply_texts.proofs.Cards.{card_back, has_canonical}
use Rattle.reply_texts.proofs.laws.written_card_is_read.Goals as goal

pub returns-clause-object : goal.returns-clause-object
unfolding sqlcard_object
returns-clause-object c =
    λ card typdef is. c.canonical_is_outer.ensures (record { code = sqlcard; bytes = card_bytes typdef card }) (has_canonical typdef card is)

pub returns-clause-card : goal.returns-clause-card
returns-clause-card c = λ card typdef is known. card_back typdef card is known
