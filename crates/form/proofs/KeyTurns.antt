-- What the functions of keys cite. Assumes nothing.
use Rattle.std.proofs.lemmas.Int.{to_z_pos}
use Rattle.form.specs.KeyLaws.{text_none, text_some, said_off, said_bad, said_on}

pub ruleset reading_keys = (said_off, said_bad, said_on)

pub ruleset writing_keys = (text_none, text_some, to_z_pos)
