use Rattle.std.proofs.Common.{◌≡◌, ◌+◌, ◌*◌, length, sym, ap, ◌∙◌, arith}
use borrow.Rule.Slice.PartMut.{same_len_mid}
use Rattle.node.specs.Numbers.{box_numbers}
use Rattle.node.specs.NumberLaws.{entry_wide}
use Rattle.node.proofs.Turns.{put_turn, put_end}
use Rattle.node.proofs.numbers.put_box.Goals as goal

pub loop-i-preserved : goal.loop-i-preserved
loop-i-preserved c =
    let ps = c.args.b.now.places in
    let ns = c.copy_from_slice-in-loop-i.ensures.after ∙ c.entry_numbers.ensures in
    let n : length c.copy_from_slice-in-loop-i.new.self ≡ 11 = ap length ns ∙ entry_wide _ in (
      same_len_mid (4 + 11 * c.loop-i.i) _ c.loop-i.out c.copy_from_slice-in-loop-i.new.self c.copy_from_slice-in-loop-i.ensures.len ∙ c.loop-i.invariant.0,
      put_turn c.loop-i.out c.copy_from_slice-in-loop-i.new.self ps c.loop-i.i _ c.loop-i.invariant.0 (omega arith) (omega arith) n ns ∙ c.loop-i.invariant.1,
    )

pub returns : goal.returns
unfolding box_numbers
returns c =
    let b = c.args.b.now in
    sym (put_end c.loop-i.out b.places c.loop-i.i c.loop-i.invariant.0 (omega arith) (omega arith)) ∙ c.loop-i.invariant.1 ∙ rw c.copy_from_slice.ensures.after
