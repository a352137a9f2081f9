use Rattle.std.proofs.Common.{Some, None, arith}
use Rattle.ddm_codepoints.proofs.Characters.{ebcdic_within, ascii_found}
use Rattle.ddm_codepoints.proofs.character.ascii_of.Goals as goal

pub overflow_sub-result : goal.overflow_sub-result
overflow_sub-result c = (ebcdic_within c.args.ebcdic c.in-Some.run' c.in-Some.ensures).0

pub overflow_add-result : goal.overflow_add-result
overflow_add-result c = omega (arith, (ebcdic_within c.args.ebcdic c.in-Some.run' c.in-Some.ensures).1)

pub returns-in-Some : goal.returns-in-Some
returns-in-Some c = ascii_found c.args.ebcdic c.ranges.ebcdic.fits (Some c.in-Some.run') c.in-Some.ensures

pub returns-in-None : goal.returns-in-None
returns-in-None c = ascii_found c.args.ebcdic c.ranges.ebcdic.fits None c.in-None.ensures
