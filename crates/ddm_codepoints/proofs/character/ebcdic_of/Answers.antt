use Rattle.std.proofs.Common.{Some, None, arith}
use Rattle.ddm_codepoints.proofs.Characters.{ascii_within, ebcdic_found}
use Rattle.ddm_codepoints.proofs.character.ebcdic_of.Goals as goal

pub overflow_sub-result : goal.overflow_sub-result
overflow_sub-result c = (ascii_within c.args.ascii c.in-Some.run' c.in-Some.ensures).0

pub overflow_add-result : goal.overflow_add-result
overflow_add-result c = omega (arith, (ascii_within c.args.ascii c.in-Some.run' c.in-Some.ensures).1)

pub returns-in-Some : goal.returns-in-Some
returns-in-Some c = ebcdic_found c.args.ascii c.ranges.ascii.fits (Some c.in-Some.run') c.in-Some.ensures

pub returns-in-None : goal.returns-in-None
returns-in-None c = ebcdic_found c.args.ascii c.ranges.ascii.fits None c.in-None.ensures
