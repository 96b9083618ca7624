-- A refusal that feeds, with the timer that the answer leaves.
use mathlib.Core.Path.{◌≡◌, refl}
use Prim.Native.Nat.{ℕ}
use Rattle.state.specs.declared.parts.Board.{Board}
use Rattle.answers.specs.Answers.{refused_of}
use Rattle.answers.specs.declared.Answer.{Answer}
use Rattle.effects.specs.Parts.{obeyed_in}
use Rattle.commands.specs.Parts.{timer_answered, refused_with}
use Rattle.effects.specs.declared.parts.Obeyed.{Obeyed}
use Rattle.commands.proofs.refused.Goals as goal

-- some small parts with another timer
abbrev timed : ℕ → Obeyed → Obeyed
timed timer o = record { phase = o.phase; timer = timer; channels = o.channels; outcome = o.outcome; fresh = o.fresh; replied = o.replied }

at : (b : Board) (answer : Answer) → timed (timer_answered answer b.timer) (obeyed_in (refused_of answer 0 b)) ≡ obeyed_in (refused_with answer 0 b)
unfolding refused_of
at b answer = refl

pub returns : goal.returns
returns c = rw (c.only_fed.ensures, c.timer_answered.ensures) (at c.args.b c.args.answer)
