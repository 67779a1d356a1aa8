use Rattle.std.proofs.Common.{◌≡◌, to_z, of_z, rules, sym, ap, ◌∙◌, add-one, arith, length-set}
use Rattle.std.proofs.lemmas.List.Edits.{sets}
use Rattle.std.specs.Int.{w64}
use Rattle.form.specs.Form.{Out, taken_of}
use Rattle.form.proofs.Turns.{reading, form_got, form_lit, marks_mark, marks_lit}
use Rattle.form.specs.FormLaws.{byte_end, byte_in}
use Rattle.form.proofs.line.read_row.Goals as goal
use Rattle.form.proofs.line.read_row.Goals.{in-Some+in_ok-z, in_default+in_ok-get+else-branch-c}

pub returns-in_err-get : goal.returns-in_err-get
returns-in_err-get c = let b = byte_end c.args.s.now c.loop-c.at c.in_err-get.ensures.lookup.3 in let t = c.type_inv.f c.loop-c.c-index in grind (arith, reading)

pub returns-then-branch-c : goal.returns-then-branch-c
returns-then-branch-c c =
    let b = byte_in c.args.s.now c.loop-c.at _ c.in_ok-get.ensures.lookup.3.0 c.in_ok-get.ensures.lookup.1 in
    grind (arith, reading)

pub loop-c-preserved : goal.loop-c-preserved
loop-c-preserved c = elim c.match-of.branch [
  | in-Some+in_ok-z w ↦
      let r = w.in_ok-z in
      let q = w.in-Some.ensures in
      let k = c.loop-c.c-index in
      let e = form_got c.args.f.now k c.loop-c-test.true (sym q.some) c.args.s.now c.loop-c.at _ r.z r.next q.byte r.ensures in
      let m = marks_mark c.args.f.now k c.loop-c-test.true (sym q.some) in
      let z : to_z w64 (of_z w64 r.z) ≡ r.z = search rules in
      record {
        found = rw w.at-is (c.loop-c.invariant.found ∙ ap taken_of e);
        put = rw (w.at-is, w.j-is, w.vals-is, z, add-one c.loop-c.j) (c.loop-c.invariant.put ∙ ap (λ (o : Out). sets c.loop-c.vals c.loop-c.j o.vals) e);
        room = rw w.vals-is (simp length-set c.loop-c.invariant.room);
        passed = omega (arith, w.j-is, m, c.loop-c.invariant.passed);
        same = rw w.vals-is (simp length-set c.loop-c.invariant.same);
      }
  | in_default+in_ok-get+else-branch-c w ↦
      let b = byte_in c.args.s.now c.loop-c.at _ w.in_ok-get.ensures.lookup.3.0 w.in_ok-get.ensures.lookup.1 in
      let k = c.loop-c.c-index in
      let e = form_lit c.args.f.now k c.loop-c-test.true (sym w.in_default.ensures.some) c.args.s.now c.loop-c.at (omega (arith, w.if-branch-c.false)) in
      let m = marks_lit c.args.f.now k c.loop-c-test.true (sym w.in_default.ensures.some) in
      record {
        found = rw w.at-is (c.loop-c.invariant.found ∙ ap taken_of e);
        put = rw (w.at-is, w.j-is, w.vals-is) (c.loop-c.invariant.put ∙ ap (λ (o : Out). sets c.loop-c.vals c.loop-c.j o.vals) e);
        room = rw w.vals-is c.loop-c.invariant.room;
        passed = omega (arith, w.j-is, m, c.loop-c.invariant.passed);
        same = rw w.vals-is c.loop-c.invariant.same;
      }
]
