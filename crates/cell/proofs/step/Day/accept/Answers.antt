use Rattle.cell.proofs.Rooms.{first_asked, second_asked, no_room, first_put, second_put, stepped}
use Rattle.cell.proofs.step.Day.accept.Goals as goal

pub grown-ran-requires : goal.grown-ran-requires
grown-ran-requires c =
    first_asked c.args.self.now.checked c.args.row.now c.requires c.wet-w.ensures

pub grown-drained-requires : goal.grown-drained-requires
grown-drained-requires c =
    second_asked c.args.self.now.checked c.args.row.now c.requires c.wet-w.ensures

pub returns-then-not-room : goal.returns-then-not-room
returns-then-not-room c =
    no_room c.args.self.now.checked c.args.row.now c.requires c.wet-w.ensures c.grown-ran.ensures c.grown-drained.ensures c.if-not-room.true

pub put-requires : goal.put-requires
put-requires c =
    first_put c.args.self.now.checked c.args.row.now c.requires c.wet-w.ensures c.grown-ran.ensures c.grown-drained.ensures c.if-not-room.false c.advance-amounts.ensures.row

pub put-requires-2 : goal.put-requires-2
put-requires-2 c =
    second_put c.args.self.now.checked c.args.row.now c.requires c.wet-w.ensures c.grown-ran.ensures c.grown-drained.ensures c.if-not-room.false c.advance-amounts.ensures.row c.put.ensures

pub returns : goal.returns
returns c =
    stepped c.args.self.now.checked c.args.row.now c.requires c.wet-w.ensures c.grown-ran.ensures c.grown-drained.ensures c.if-not-room.false c.advance-amounts.ensures.row c.put.ensures c.advance-amounts.ensures.amounts c.put-2.ensures
