use Rattle.std.proofs.Common.{◌≡◌, ◌∙◌, sym, ap, false, refl, inl, inr, ⊎_elim, ◌⊎◌, ◌<◌}
use Rattle.drda_trace.specs.Lines.{has_number}
use Rattle.drda_trace.proofs.Numbers.{fits_on, fits_not, fits_all}
use Rattle.drda_trace.proofs.answered.numbers_fit.Goals as goal

pub loop-reply-init : goal.loop-reply-init
loop-reply-init c = refl

pub returns-then-not-contains : goal.returns-then-not-contains
returns-then-not-contains c =
    let corr = c.reply-item.result.dss.corr in
    let is : has_number c.args.commands.now corr ≡ c.contains.result = sym (c.in_ok-numbers.ensures corr) ∙ sym c.contains.ensures in
    let why : (has_number c.args.commands.now corr ≡ false) ⊎ (corr < c.loop-reply.before) =
    ⊎_elim (λ none. inl (is ∙ none)) (λ falls. inr falls.1) c.then-not-contains.either in
    sym (fits_not c.args.commands.now c.loop-reply.before c.loop-reply.reply-index c.args.replies.now c.reply-item.result c.loop-reply-test.true
    c.reply-item.is why)
    ∙ c.loop-reply.invariant

pub loop-reply-preserved : goal.loop-reply-preserved
loop-reply-preserved c =
    let corr = c.reply-item.result.dss.corr in
    let has = sym (c.in_ok-numbers.ensures corr) ∙ sym c.contains.ensures ∙ c.if-not-contains.false in
    sym (fits_on c.args.commands.now c.loop-reply.before c.loop-reply.reply-index c.args.replies.now c.reply-item.result c.loop-reply-test.true
    c.reply-item.is has
    c.if-corr-before.false) ∙ c.loop-reply.invariant

pub returns : goal.returns
returns c =
    sym (fits_all c.args.commands.now c.loop-reply.before c.loop-reply.reply-index c.args.replies.now c.loop-reply-test.false) ∙ c.loop-reply.invariant
