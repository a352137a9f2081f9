use Rattle.std.proofs.Common.{refl, sym, ap, subst, ◌∙◌}
use Rattle.std.specs.Prelude.{IsTrue}
use Rattle.ddm_objects.specs.Members.{IsMembers}
use Rattle.ddm_codepoints.specs.CodeClass.{class_of}
use Rattle.ddm_codepoints.specs.CodePoint.{excsat, accsec, accrdb}
use Rattle.access_handshake.specs.Accsec.{has_secmec}
use Rattle.access_handshake.specs.Rdbnam.{has_rdbnam}
use Rattle.unit_segments.specs.Command.{data_of}
use Rattle.session_core.proofs.Params.{needed, secmec_there, rdbnam_there}
use Rattle.session_core.proofs.local.allowed_answer.Goals as goal

pub answer_excsat-requires-clause-sound : goal.answer_excsat-requires-clause-sound
unfolding class_of
answer_excsat-requires-clause-sound c =
    subst IsMembers (sym (c.data_of-params.ensures.data ∙ ap data_of c.as_slice.ensures))
    (needed c.args.command.now excsat c.requires c.in-4161.is refl).members

pub answer_accsec-requires : goal.answer_accsec-requires
unfolding class_of
answer_accsec-requires c =
    subst (λ params. IsTrue (has_secmec params)) (sym (c.data_of-params.ensures.data ∙ ap data_of c.as_slice.ensures))
    (secmec_there _ (needed c.args.command.now accsec c.requires c.in-4205.is refl))

pub answer_rdbnam-requires-clause-sound : goal.answer_rdbnam-requires-clause-sound
unfolding class_of
answer_rdbnam-requires-clause-sound c =
    subst (λ params. IsTrue (has_rdbnam params)) (sym (c.data_of-params.ensures.data ∙ ap data_of c.as_slice.ensures))
    (rdbnam_there _ (needed c.args.command.now accrdb c.requires c.in-8193.is refl))
