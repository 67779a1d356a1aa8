use Rattle.std.proofs.Common.{arith, rules}
use Rattle.text.proofs.CardTexts.{text_counts, text_length, text_put}
use Rattle.text.proofs.card.put_card.Goals as goal

pub put_many-b-requires : goal.put_many-b-requires
put_many-b-requires c =
    let card = c.args.card.now in
    let fits = c.requires.card_fits in
    let n = text_counts card fits.0 in
    let l = text_length card c.args.soil.now fits.0 (search rules) _ _ c.count_values-h.ensures fits.1 in
    (search rules, omega (arith, l, c.requires.room, c.put_form-a.ensures.0, c.put_form-a.auto.buf))

pub put_tail-t-requires : goal.put_tail-t-requires
put_tail-t-requires c =
    let card = c.args.card.now in
    let fits = c.requires.card_fits in
    let l = text_length card c.args.soil.now fits.0 (search rules) _ _ c.count_values-h.ensures fits.1 in
    omega (arith, l, c.requires.room, c.put_form-a.ensures.0, c.put_form-a.auto.buf, c.put_many-b.ensures.0, c.put_many-b.auto.buf)

pub put_many-requires : goal.put_many-requires
put_many-requires c =
    let card = c.args.card.now in
    let fits = c.requires.card_fits in
    let l = text_length card c.args.soil.now fits.0 (search rules) _ _ c.count_values-h.ensures fits.1 in
    (omega (arith, fits.2), omega (arith, l, c.requires.room, c.put_form-a.ensures.0, c.put_form-a.auto.buf, c.put_many-b.ensures.0, c.put_many-b.auto.buf, c.put_tail-t.ensures.0, c.put_tail-t.auto.buf))

pub returns : goal.returns
returns c =
    let card = c.args.card.now in
    let fits = c.requires.card_fits in
    text_put card c.args.soil.now fits.0 (search rules) _ _ c.count_values-h.ensures fits.1 c.args.buf.now _ _ _ _ _ _ _ c.put_form-a.ensures.1 c.put_form-a.ensures.0 c.put_many-b.ensures.1 c.put_many-b.ensures.0 c.put_tail-t.ensures.1 c.put_tail-t.ensures.0 c.put_many.ensures.1
