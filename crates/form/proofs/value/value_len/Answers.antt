use Rattle.std.proofs.Common.{arith, to_z-of_z}
use Rattle.form.proofs.Values.{len_text, len_most}
use Rattle.form.proofs.value.value_len.Goals as goal

pub overflow_add-result : goal.overflow_add-result
overflow_add-result c =
    let n = rw (c.unsigned_abs.ensures.value, to_z-of_z c.ranges.z) at c.dec_len.ensures in
    let s = rw (to_z-of_z c.ranges.z) at c.if-z-lt0.true in
    let t = rw s at (len_text c.args.mark c.args.z c.in_default.not-Hex) in
    omega (arith, len_most c.args.mark c.args.z c.ranges.z)

pub returns-in_default : goal.returns-in_default
returns-in_default c =
    let n = rw (c.unsigned_abs.ensures.value, to_z-of_z c.ranges.z) at c.dec_len.ensures in
    let s = rw (to_z-of_z c.ranges.z) at c.if-z-lt0.true in
    let t = rw s at (len_text c.args.mark c.args.z c.in_default.not-Hex) in
    omega (arith, len_most c.args.mark c.args.z c.ranges.z)

pub returns-in_default-2 : goal.returns-in_default-2
returns-in_default-2 c =
    let n = rw (c.unsigned_abs-in_default-2.ensures.value, to_z-of_z c.ranges.z) at c.dec_len-in_default-2.ensures in
    let s = rw (to_z-of_z c.ranges.z) at c.if-z-lt0.false in
    let t = rw s at (len_text c.args.mark c.args.z c.in_default-2.not-Hex) in
    omega (arith, len_most c.args.mark c.args.z c.ranges.z)
