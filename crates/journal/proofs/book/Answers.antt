use Rattle.std.proofs.Common.{length, length-drop, refl, sym, ap, ◌∙◌, arith}
use Rattle.std.proofs.lemmas.List.Edits.{sets}
use Rattle.text.proofs.CardTexts.{line_most}
use Rattle.text.proofs.ReadLaws.{no_zero}
use Rattle.journal.proofs.Lent.{rest_is}
use Rattle.journal.proofs.BookLaws.{book_long, book_malformed}
use Rattle.journal.proofs.Given.{no_room, book_fits, written, line_fits, line_written, line_is, refused, inside, read_book}
use Rattle.journal.proofs.book.Goals as goal

pub returns-then-not-has_room : goal.returns-then-not-has_room
returns-then-not-has_room c =
    no_room _ _ (sym c.if-not-has_room.ensures)

pub put_malformed-requires : goal.put_malformed-requires
put_malformed-requires c =
    (omega arith, line_fits c.args.input.now c.args.out.now (sym c.if-not-has_room.ensures) _ (book_long c.args.input.now c.if-input-gt65536.true))

pub returns-then-input-gt65536 : goal.returns-then-input-gt65536
returns-then-input-gt65536 c =
    line_written c.args.input.now c.args.out.now (sym c.if-not-has_room.ensures) _ _ _ (book_long c.args.input.now c.if-input-gt65536.true) c.put_malformed.ensures.0 c.put_malformed.ensures.1

pub put_malformed-requires-in-Err : goal.put_malformed-requires-in-Err
put_malformed-requires-in-Err c =
    let s = c.args.input.now in
    let r = c.in-Err.ensures in
    let l = line_is s _ _ r.0 r.1 in
    rw (c.line.ensures, l) (omega (arith, line_most s), line_fits s c.args.out.now (sym c.if-not-has_room.ensures) _ (book_malformed s c.if-input-gt65536.false (refused s _ _ r.0 r.1 (no_zero _))))

pub returns-in-Err : goal.returns-in-Err
returns-in-Err c =
    let s = c.args.input.now in
    let r = c.in-Err.ensures in
    let l = line_is s _ _ r.0 r.1 in
    let p = rw (c.line.ensures, l) at c.put_malformed-in-Err.ensures in
    line_written s c.args.out.now (sym c.if-not-has_room.ensures) _ _ _ (book_malformed s c.if-input-gt65536.false (refused s _ _ r.0 r.1 (no_zero _))) p.0 p.1

pub slice_bounds-cleared-count : goal.slice_bounds-cleared-count
slice_bounds-cleared-count c =
    inside c.args.input.now _ _ c.in-Ok.ensures.0 c.in-Ok.ensures.1 refl

pub slice_bounds-cleared-start : goal.slice_bounds-cleared-start
slice_bounds-cleared-start c =
    inside c.args.input.now _ _ c.in-Ok.ensures.0 c.in-Ok.ensures.1 refl

pub cleared-requires : goal.cleared-requires
cleared-requires c =
    let s = c.args.input.now in
    let b = read_book s _ _ c.in-Ok.ensures.0 c.in-Ok.ensures.1 refl c.if-input-gt65536.false in
    (rw (rest_is c.in-Ok.field-0.taken s) (omega (arith, length-drop c.in-Ok.field-0.taken s, c.if-input-gt65536.false)), omega (arith, ap length b, book_fits s c.args.out.now (sym c.if-not-has_room.ensures)))

pub returns : goal.returns
returns c =
    let s = c.args.input.now in
    let b = read_book s _ _ c.in-Ok.ensures.0 c.in-Ok.ensures.1 refl c.if-input-gt65536.false in
    written s c.args.out.now (sym c.if-not-has_room.ensures) _ _ (c.cleared.ensures.0 ∙ ap length (sym b)) (c.cleared.ensures.1 ∙ ap (sets c.args.out.now 0) (sym b))
