use Rattle.text.specs.Readings.{text_of}
use Rattle.text.proofs.reading.write.Goals as goal

pub returns : goal.returns
unfolding text_of
returns c =
    rw c.reading_values.ensures at c.put_line.ensures
