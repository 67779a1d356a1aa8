use Rattle.text.specs.Voids.{void_text}
use Rattle.text.proofs.void.write.Goals as goal

pub returns : goal.returns
unfolding void_text
returns c =
    rw c.void_values.ensures at c.put_line.ensures
