-- Which result of the command step it is, by the number that is told. Assumes nothing.
use Prim.Native.Nat.{ℕ, ◌≤◌}
use mathlib.Core.Path.{◌≡◌, refl, sym, ap, ◌∙◌}
use mathlib.Core.Option.{some}
use native.Mathlib.Omega.{arith}
use Rattle.state.specs.declared.parts.Board.{Board}
use Rattle.answers.specs.Answers.{answer_number, told_number, silent_of, refused_of, not_this_board_of}
use Rattle.answers.specs.declared.Answer.{Answer}
use Rattle.answers.specs.declared.Answer.TheVariants.{Accepted, FewerThanFourBytes, InStartup}
use Rattle.answers.specs.declared.Outcome.TheVariants.{Answered}
use Rattle.answers.specs.declared.Commanded.{Commanded}
use Rattle.commands.specs.Step.{commanded_of}
use Rattle.commands.proofs.Told.{Result, accepted, short, starting, elsewhere, refused, same_number, result}
use Rattle.refusals.specs.Conditions as claim
use Rattle.refusals.specs.Conditions.{Sent, obeyed}

pub step : (t : Sent) → Result (claim.code t) t.board (obeyed t)
unfolding commanded_of
step t = result t.rail t.limits t.bytes t.board

-- ---- which result it is, by the number told
told_0 : (c : Commanded) (n : ℕ) → c.outcome ≡ Answered Accepted → told_number c.outcome ≡ some n → n ≡ 0
told_0 c n e q = same_number n 0 (sym q ∙ ap told_number e)

module _ {code : ℕ} {b : Board} where
  pub accepted_is : (c : Commanded) → Result code b c → told_number c.outcome ≡ some 0 → c.board.timer ≡ 0
  unfolding not_this_board_of refused_of
  accepted_is c (accepted e z) q = z
  accepted_is c short q = absurd (omega (arith, same_number 1 0 q))
  accepted_is c starting q = absurd (omega (arith, same_number 2 0 q))
  accepted_is c elsewhere q = absurd (omega (arith, same_number 3 0 q))
  accepted_is c (refused a k) q = absurd (omega (arith, k, same_number (answer_number a) 0 q))

  pub silent_is : (c : Commanded) → Result code b c → (n : ℕ) → 1 ≤ n → n ≤ 2 → told_number c.outcome ≡ some n → (a : Answer) × (c ≡ silent_of (Answered a) b)
  unfolding not_this_board_of refused_of
  silent_is c (accepted e z) n l h q = absurd (omega (arith, told_0 c n e q))
  silent_is c short n l h q = (FewerThanFourBytes, refl)
  silent_is c starting n l h q = (InStartup, refl)
  silent_is c elsewhere n l h q = absurd (omega (arith, same_number 3 n q))
  silent_is c (refused a k) n l h q = absurd (omega (arith, k, same_number (answer_number a) n q))

  pub elsewhere_is : (c : Commanded) → Result code b c → told_number c.outcome ≡ some 3 → c ≡ not_this_board_of code b
  unfolding not_this_board_of refused_of
  elsewhere_is c (accepted e z) q = absurd (omega (arith, told_0 c 3 e q))
  elsewhere_is c short q = absurd (omega (arith, same_number 1 3 q))
  elsewhere_is c starting q = absurd (omega (arith, same_number 2 3 q))
  elsewhere_is c elsewhere q = refl
  elsewhere_is c (refused a k) q = absurd (omega (arith, k, same_number (answer_number a) 3 q))

  pub refused_is : (c : Commanded) → Result code b c → (n : ℕ) → 4 ≤ n → told_number c.outcome ≡ some n → (a : Answer) × (answer_number a ≡ n) × (c ≡ refused_of a code b)
  unfolding not_this_board_of refused_of
  refused_is c (accepted e z) n l q = absurd (omega (arith, told_0 c n e q))
  refused_is c short n l q = absurd (omega (arith, same_number 1 n q))
  refused_is c starting n l q = absurd (omega (arith, same_number 2 n q))
  refused_is c elsewhere n l q = absurd (omega (arith, same_number 3 n q))
  refused_is c (refused a k) n l q = (a, same_number (answer_number a) n q, refl)
