use Rattle.outbox.specs.Outbox.{notice, is_next}
use Rattle.outbox.proofs.Alike.{same_by}
use Rattle.outbox.proofs.Outbox.is_next.Goals as goal

pub returns : goal.returns
unfolding is_next
returns c =
    let b = c.args.self.now in
    rw (same_by c.notice_of.result (notice b.cell b.life b.next) c.eq.ensures, c.notice_of.ensures)
