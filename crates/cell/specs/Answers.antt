-- What the calls answer: something, or why they are refused. Definitions only.
use Rattle.std.specs.Prelude.{Result}
use Rattle.cell.specs.declared.Amounts.{Amounts}
use Rattle.cell.specs.declared.Depth.{Depth}
use Rattle.cell.specs.declared.Refusal.{Refusal}

-- of a step: its ten amounts
abbrev pub Answer : Type 0
Answer = Result Amounts Refusal

-- of the checks up to 10: where the table stands
abbrev pub Verdict : Type 0
Verdict = Result Depth Refusal
