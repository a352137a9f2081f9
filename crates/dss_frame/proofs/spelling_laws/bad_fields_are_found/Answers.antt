use Rattle.dss_frame.proofs.Spellings.OneSpelling.{bad_fails, fails_bad}
use Rattle.dss_frame.proofs.spelling_laws.bad_fields_are_found.Goals as goal

pub returns-clause-fails : goal.returns-clause-fails
returns-clause-fails c = λ side bytes offset why fits bad. bad_fails side bytes offset why fits bad

pub returns-clause-only : goal.returns-clause-only
returns-clause-only c = λ side bytes offset why fits e. fails_bad side bytes offset why fits e
