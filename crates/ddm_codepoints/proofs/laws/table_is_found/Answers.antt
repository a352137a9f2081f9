use Rattle.ddm_codepoints.proofs.WholeTables.{table_classes, table_names}
use Rattle.ddm_codepoints.proofs.laws.table_is_found.Goals as goal

pub returns : goal.returns
returns c = record { classes = table_classes; names = table_names }
