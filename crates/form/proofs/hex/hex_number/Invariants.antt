use Rattle.std.proofs.Common.{◌≡◌, ◌+◌, ◌-◌, ◌<◌, ◌^◌, drop}
use Rattle.form.specs.Hex.{hex_at, hex_go}
use Rattle.form.proofs.hex.hex_number.Given as goal

abbrev pub invariant-loop-c : goal.invariant-loop-c
invariant-loop-c l = (hex_at l.s l.at ≡ hex_go (8 - l.c-index) l.v (l.at + l.c-index) (drop (l.at + l.c-index) l.s)) × (l.v < 16 ^ l.c-index)
