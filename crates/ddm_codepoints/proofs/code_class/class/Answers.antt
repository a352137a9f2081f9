use Rattle.std.proofs.Common.{Some, None, refl}
use Rattle.ddm_codepoints.proofs.Tables.{class_found}
use Rattle.ddm_codepoints.proofs.code_class.class.Goals as goal

pub returns-in-Some : goal.returns-in-Some
returns-in-Some c = class_found c.args.code _ (Some c.in-Some.entry) c.in-Some.ensures refl

pub returns-in-None : goal.returns-in-None
returns-in-None c = class_found c.args.code _ None c.in-None.ensures refl
