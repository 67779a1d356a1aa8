use Rattle.outbox.proofs.Changed.{kept_is}
use Rattle.outbox.proofs.places.keep.Goals as goal

pub returns : goal.returns
returns c =
    kept_is c.args.first c.args.held c.args.places.now c.requires.0 c.requires.1 c.told-places c.copy_within.ensures.after (c.fill.ensures.after (λ y k. k)) c.spare.ensures
