use lib.Ieee.{nan_bits}
use Rattle.cell.proofs.still.still.Goals as goal

-- `cell::still::still` meets its contract. Assumes nothing.
pub float_from_bits-result : goal.float_from_bits-result
unfolding nan_bits
float_from_bits-result c =
    tt
