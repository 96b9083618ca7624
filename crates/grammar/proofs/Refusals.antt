-- The number of an answer goes by what was read. Assumes nothing.
use mathlib.Core.Path.{◌≡◌, ap}
use Rattle.grammar.specs.Grammar.{Read}
use Rattle.grammar.specs.Views.{refusal_of}

pub with_number : {A : Type 0} {r t : Read A} → r ≡ t → record { is : r ≡ t; number : refusal_of r ≡ refusal_of t }
with_number e = record { is = e; number = ap refusal_of e }
